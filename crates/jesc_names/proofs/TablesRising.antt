-- Ids taken out of a set, from the least on.
use Rattle.std.proofs.Common.{◌≡◌, ◌↔◌, ℕ, zero, suc, ◌+◌, ◌<◌, ◌≤◌, Bool, true, false, true≢false, nat_lt, ltb-true, ltb-false, List, [], ◌∷◌, ◌++◌, map, length, get_or, All, Contains, Option, Some, None, IsSome, ◌⊎◌, inl, inr, refl, ap, sym, ◌∙◌, subst, arith, nat_cmp, take, take_all}
use Rattle.std.proofs.lemmas.List.{length-append, map-append, get_or_push, get_or_append_left, get_or_default}
use Rattle.std.proofs.lemmas.List.Elements.{All-contains, Contains-get_or, Contains-push_cases, Contains-push, Contains-append_left}
use Rattle.std.specs.BTreeMap.Range.{IsLtBy}
use Rattle.std.specs.Cmp.{ranks}
use Rattle.std.specs.Ordering.{MatchOrdering}
use Rattle.jesc_tree.specs.declared.ids.FieldId.{FieldId}
use Rattle.jesc_names.specs.Program.{Rise}
use Rattle.jesc_classes.specs.Headings.{Source}
use Rattle.jesc_classes.specs.Resolved.{IsId}
use Rattle.jesc_classes.specs.Entries.{AreApart, AreIds, id_in}
use Rattle.jesc_classes.specs.laws.Lawful.{inside, value, same_some}
use Rattle.jesc_classes.specs.laws.Ids.{same_id}
use Rattle.jesc_members.specs.Fields.{fields_of}
use Rattle.jesc_members.specs.Groups.{IsMember, direct, further, IsIn}
use Rattle.jesc_names.specs.TablesRows.{HasRising, AreMembersOf}
use Rattle.jesc_names.proofs.TablesZips.{front}

abbrev pub numbers : List FieldId → List ℕ
numbers ids = map (λ m. m.0) ids

pub record IsRisen (all : List ℕ) (ids : List FieldId) (left : List ℕ) : Type 0 where
  pub rising : Rise (map (λ m. m.0) ids)
  pub lower : (p q : ℕ) → Contains (map (λ m. m.0) ids) p → Contains left q → p < q
  pub same : (q : ℕ) → Contains all q ↔ (Contains (map (λ m. m.0) ids) q ⊎ Contains left q)

nothing : (q : ℕ) → Contains [] q → ⊥
nothing q c = absurd (omega (arith, c.1))

pub begins : (all : List ℕ) (ids : List FieldId) → ids ≡ [] → IsRisen all ids all
begins all ids e = subst (λ xs. IsRisen all xs all) (sym e) record {
  rising = λ i j l m. absurd (omega (arith, m));
  lower = λ p q c d. absurd (nothing p c);
  same = λ q. ((λ c. inr c), (λ s. elim s [ inl c ↦ absurd (nothing q c) | inr c ↦ c ]));
}

first_or_later : (k : ℕ) (rest : List ℕ) (q : ℕ) → Contains (k ∷ rest) q → (k ≡ q) ⊎ Contains rest q
first_or_later k rest q (zero, l, e) = inl e
first_or_later k rest q (suc i, l, e) = inr (i, omega (arith, l), e)

rise_more : (xs : List ℕ) (k : ℕ) → Rise xs → ((p : ℕ) → Contains xs p → p < k) → Rise (xs ++ k ∷ [])
rise_more xs k rise lower i j l m = by (nat_lt j (length xs)) refl
  where
    by : (b : Bool) → nat_lt j (length xs) ≡ b → get_or (xs ++ k ∷ []) i 0 < get_or (xs ++ k ∷ []) j 0
    by true e =
        let inside = ltb-true j (length xs) e in
        let one = get_or_append_left xs (k ∷ []) 0 i (omega (arith, l, inside)) in
        let two = get_or_append_left xs (k ∷ []) 0 j inside in
        let less = rise i j l inside in
        omega (arith, one, two, less)
    by false e =
        let at : length xs ≡ j = omega (arith, m, length-append xs (k ∷ []), ltb-false j (length xs) e) in
        let inside : i < length xs = omega (arith, l, at) in
        let one = get_or_append_left xs (k ∷ []) 0 i inside in
        let two = get_or_push xs k 0 j at in
        let less = lower (get_or xs i 0) (Contains-get_or xs i 0 inside) in
        omega (arith, one, two, less)

module _ (all : List ℕ) (ids : List FieldId) (left : List ℕ) (risen : IsRisen all ids left) (id : FieldId) (rest : List ℕ) (split : left ≡ id.0 ∷ rest) (greater : All (IsLtBy nat_cmp id.0) rest) where
  above : (q : ℕ) → Contains rest q → id.0 < q
  above q c = subst (λ r. MatchOrdering r (id.0 < q) (id.0 ≡ q) (q < id.0)) (All-contains (IsLtBy nat_cmp id.0) rest q greater c) (ranks id.0 q)

  is_left : (q : ℕ) → Contains (id.0 ∷ rest) q → Contains left q
  is_left q = subst (λ xs. Contains xs q) (sym split)

  grown : map (λ (m : FieldId). m.0) (ids ++ id ∷ []) ≡ map (λ m. m.0) ids ++ id.0 ∷ []
  grown = map-append (λ (m : FieldId). m.0) ids (id ∷ [])

  lower_more : (p q : ℕ) → Contains (map (λ m. m.0) ids ++ id.0 ∷ []) p → Contains rest q → p < q
  lower_more p q c d = elim (Contains-push_cases (map (λ m. m.0) ids) id.0 p c) [
    | inl o ↦ risen.lower p q o (is_left q (suc d.0, omega (arith, d.1), d.2))
    | inr e ↦ let l = above q d in omega (arith, l, e)
  ]

  same_more : (q : ℕ) → Contains all q ↔ (Contains (map (λ m. m.0) ids ++ id.0 ∷ []) q ⊎ Contains rest q)
  same_more q = (there, back)
    where
      there : Contains all q → Contains (map (λ m. m.0) ids ++ id.0 ∷ []) q ⊎ Contains rest q
      there c = elim ((risen.same q).0 c) [
        | inl o ↦ inl (Contains-append_left (map (λ m. m.0) ids) (id.0 ∷ []) q o)
        | inr o ↦ elim (first_or_later id.0 rest q (subst (λ xs. Contains xs q) split o)) [
          | inl e ↦ inl (subst (λ x. Contains (map (λ m. m.0) ids ++ id.0 ∷ []) x) e (Contains-push (map (λ m. m.0) ids) id.0))
          | inr d ↦ inr d
        ]
      ]

      back : Contains (map (λ m. m.0) ids ++ id.0 ∷ []) q ⊎ Contains rest q → Contains all q
      back (inl c) = elim (Contains-push_cases (map (λ m. m.0) ids) id.0 q c) [
        | inl o ↦ (risen.same q).1 (inl o)
        | inr e ↦ (risen.same q).1 (inr (is_left q (0, omega arith, e)))
      ]
      back (inr d) = (risen.same q).1 (inr (is_left q (suc d.0, omega (arith, d.1), d.2)))

  one_more : IsRisen all (ids ++ id ∷ []) rest
  one_more = record {
    rising = subst Rise (sym grown) (rise_more (map (λ m. m.0) ids) id.0 risen.rising (λ p c. risen.lower p id.0 c (is_left id.0 (0, omega arith, refl))));
    lower = subst (λ xs. (p q : ℕ) → Contains xs p → Contains rest q → p < q) (sym grown) lower_more;
    same = subst (λ xs. (q : ℕ) → Contains all q ↔ (Contains xs q ⊎ Contains rest q)) (sym grown) same_more;
  }

  pub rises : (new : List FieldId) → new ≡ ids ++ id ∷ [] → IsRisen all new rest
  rises new e = subst (λ xs. IsRisen all xs rest) (sym e) one_more

  pub fewer : length rest < length left
  fewer = let n = ap (λ (xs : List ℕ). length xs) split in omega (arith, n)

pub stops : (all : List ℕ) (ids : List FieldId) (left : List ℕ) → IsRisen all ids left → left ≡ [] → HasRising all ids
stops all ids left risen none = record {
  rising = risen.rising;
  same = λ q. ((λ c. (risen.same q).1 (inl c)), (λ c. elim ((risen.same q).0 c) [ inl o ↦ o | inr o ↦ absurd (nothing q (subst (λ xs. Contains xs q) none o)) ]));
}

-- where there is no least one, there is none
pub none_left : (least : Option ℕ) (left : List ℕ) → IsSome least ↔ (0 < length left) → ((id : ℕ) → least ≡ Some id → ⊥) → left ≡ []
none_left None [] some none = refl
none_left None (q ∷ qs) some none = absurd (true≢false (sym (some.1 (omega arith))))
none_left (Some id) left some none = absurd (none id refl)

-- ---- the ids of members

pub id_more : (ids numbers : List ℕ) (i : ℕ) (old new : List ℕ) (id : ℕ) → i < length numbers → id ≡ id_in ids (get_or numbers i 0) → ((q : ℕ) → Contains new q ↔ (Contains old q ⊎ (q ≡ id))) → ((q : ℕ) → Contains old q ↔ Contains (map (id_in ids) (take i numbers)) q)
    → (q : ℕ) → Contains new q ↔ Contains (map (id_in ids) (take (i + 1) numbers)) q
id_more ids numbers i old new id l is adds before q = subst (λ xs. Contains new q ↔ Contains xs q) (sym grown) (there, back)
  where
    x : ℕ
    x = get_or numbers i 0

    grown : map (id_in ids) (take (i + 1) numbers) ≡ map (id_in ids) (take i numbers) ++ id_in ids (get_or numbers i 0) ∷ []
    grown = ap (map (id_in ids)) (front numbers i (get_or numbers i 0) l (get_or_default numbers i 0 (get_or numbers i 0) l)) ∙ map-append (id_in ids) (take i numbers) (get_or numbers i 0 ∷ [])

    there : Contains new q → Contains (map (id_in ids) (take i numbers) ++ id_in ids (get_or numbers i 0) ∷ []) q
    there c = elim ((adds q).0 c) [
      | inl o ↦ Contains-append_left (map (id_in ids) (take i numbers)) (id_in ids (get_or numbers i 0) ∷ []) q ((before q).0 o)
      | inr e ↦ subst (λ y. Contains (map (id_in ids) (take i numbers) ++ id_in ids (get_or numbers i 0) ∷ []) y) (sym (e ∙ is)) (Contains-push (map (id_in ids) (take i numbers)) (id_in ids (get_or numbers i 0)))
    ]

    back : Contains (map (id_in ids) (take i numbers) ++ id_in ids (get_or numbers i 0) ∷ []) q → Contains new q
    back c = elim (Contains-push_cases (map (id_in ids) (take i numbers)) (id_in ids (get_or numbers i 0)) q c) [
      | inl o ↦ (adds q).1 (inl ((before q).1 o))
      | inr e ↦ (adds q).1 (inr (sym e ∙ sym is))
    ]

pub id_end : (ids numbers : List ℕ) (i : ℕ) (keys : List ℕ) → length numbers ≤ i → ((q : ℕ) → Contains keys q ↔ Contains (map (id_in ids) (take i numbers)) q) → (q : ℕ) → Contains keys q ↔ Contains (map (id_in ids) numbers) q
id_end ids numbers i keys l h = subst (λ ws. (q : ℕ) → Contains keys q ↔ Contains (map (id_in ids) ws) q) (take_all i numbers l) h

in_map : (ids members : List ℕ) (q : ℕ) → Contains (map (id_in ids) members) q → (m : ℕ) × Contains members m × (id_in ids m ≡ q)
in_map ids [] q c = absurd (omega (arith, c.1))
in_map ids (m ∷ ms) q (zero, l, e) = (m, (0, omega arith, refl), e)
in_map ids (m ∷ ms) q (suc k, l, e) = let r = in_map ids ms q (k, omega (arith, l), e) in (r.0, (suc r.1.0, omega (arith, r.1.1), r.1.2), r.2)

to_map : (ids members : List ℕ) (m : ℕ) → Contains members m → Contains (map (id_in ids) members) (id_in ids m)
to_map ids [] m c = absurd (omega (arith, c.1))
to_map ids (x ∷ ms) m (zero, l, e) = (0, omega arith, ap (id_in ids) e)
to_map ids (x ∷ ms) m (suc k, l, e) = let r = to_map ids ms m (k, omega (arith, l), e) in (suc r.0, omega (arith, r.1), r.2)

module _ (given : List Source) (n : ℕ) where
  is_in_below : (f g : ℕ) → IsIn given f g → f < length (fields_of given)
  is_in_below f g h = inside (fields_of given) f h.0 h.1

  pub member_below : (f m : ℕ) → IsMember given f m → f < length (fields_of given)
  member_below f m (direct a b h) = is_in_below a b h
  member_below f m (further a b d h r) = is_in_below a b h

  pub all_below : (members ids : List ℕ) → length ids ≡ length (fields_of given) → ((f : ℕ) → Contains members f ↔ IsMember given f n) → (i : ℕ) → i < length members → get_or members i 0 < length ids
  all_below members ids count all i l = let r = member_below (get_or members i 0) n ((all (get_or members i 0)).0 (Contains-get_or members i 0 l)) in omega (arith, r, count)

  pub members_found : (order ids members keys : List ℕ) (xs : List FieldId) → AreApart order → AreIds order ids → length ids ≡ length (fields_of given) → ((f : ℕ) → Contains members f ↔ IsMember given f n) → ((q : ℕ) → Contains keys q ↔ Contains (map (id_in ids) members) q) → HasRising keys xs → AreMembersOf given order n xs
  members_found order ids members keys xs apart are count all set has = record {
    rising = has.rising;
    below = λ q c.
        let r = in_map ids members q ((set q).0 ((has.same q).0 c)) in
        inside order q r.0 (subst (λ k. IsId order r.0 k) r.2 (id_of r.0 ((all r.0).0 r.1)));
    members = λ m id is. ((λ c. there m id is c), (λ h. back m id is h));
  }
    where
      id_of : (m : ℕ) → IsMember given m n → IsId order m (id_in ids m)
      id_of m h = let r = member_below m n h in are m (omega (arith, r, count))

      there : (m id : ℕ) → IsId order m id → Contains (map (λ y. y.0) xs) id → IsMember given m n
      there m id is c =
          let r = in_map ids members id ((set id).0 ((has.same id).0 c)) in
          let h = (all r.0).0 r.1 in
          let same = same_some r.0 m (sym (subst (λ k. IsId order r.0 k) r.2 (id_of r.0 h)) ∙ is) in
          subst (λ k. IsMember given k n) same h

      back : (m id : ℕ) → IsId order m id → IsMember given m n → Contains (map (λ y. y.0) xs) id
      back m id is h =
          let at = id_of m h in
          let same = same_id order apart (id_in ids m) id (inside order (id_in ids m) m at) (inside order id m is) (value order (id_in ids m) m 0 at ∙ sym (value order id m 0 is)) in
          (has.same id).1 ((set id).1 (subst (λ k. Contains (map (id_in ids) members) k) same (to_map ids members m ((all m).1 h))))
