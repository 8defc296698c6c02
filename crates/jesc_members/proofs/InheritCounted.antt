-- Keys of methods by name and number of parameters.
use Rattle.std.proofs.Common.{◌≡◌, inl, inr, ℕ, ◌+◌, ◌<◌, ◌≤◌, Bool, true, false, ◌&&◌, List, [], ◌∷◌, ◌++◌, length, get_or, set, take, map, Option, Some, None, refl, ap, sym, ◌∙◌, subst, arith, nat_eq, bytes_eq, true≢false, eq-eqb, nat_lt, ltb-true, ltb-false, if◌then◌else◌}
use Rattle.std.specs.List.{All}
use Rattle.std.proofs.lemmas.Slice.Eq.{bytes_eq-Decides}
use Rattle.std.proofs.lemmas.Bool.Decides.{eqb_tells}
use Rattle.std.proofs.lemmas.List.{get_or-set_same, get_or-set_other, length-set, length_push, length-map, length-take-le, take_more, map-append, get_or_default, get_or_past}
use Rattle.std.proofs.lemmas.List.Elements.{All-push, All-set, All-nil}
use Rattle.jesc_classes.specs.Named.{Named, find}
use Rattle.jesc_classes.specs.laws.Orders.{same}
use Rattle.jesc_classes.specs.laws.Lawful.{same_some}
use Rattle.jesc_lookup.specs.Lines.{or_else}
use Rattle.jesc_members.specs.Keys.{AreRows, HasKeys, HasNames, TakesName, first_equal}
use Rattle.jesc_members.specs.Counts.{AreCounted, Label, TakesCount, alike, found_in}
use Rattle.jesc_lookup.specs.Layers.{first_keyed}
use Rattle.jesc_lookup.specs.laws.Steps.{keyed_push, or_none, single_here, single_other}
use Rattle.jesc_members.proofs.InheritNumbers.{bytes_same, equal_push, found_like, keys_push}

pub alike_decides : (a b : Label) → alike a b ≡ true → a ≡ b
alike_decides a b h = by (bytes_eq a.0 b.0) refl (nat_eq a.1 b.1) refl h
  where
    by : (p : Bool) → bytes_eq a.0 b.0 ≡ p → (q : Bool) → nat_eq a.1 b.1 ≡ q → (p && q) ≡ true → a ≡ b
    by true e true f h =
        let x : a.0 ≡ b.0 = (bytes_eq-Decides a.0 b.0).0 e in
        let y : a.1 ≡ b.1 = elim (eqb_tells a.1 b.1) [ inl t ↦ t.1 | inr n ↦ absurd (true≢false (sym f ∙ n.0)) ] in
        ap (λ t. (t, a.1)) x ∙ ap (λ n. (b.0, n)) y
    by true e false f h = absurd (true≢false (sym h))
    by false e q f h = absurd (true≢false (sym h))

pub alike_itself : (a : Label) → alike a a ≡ true
alike_itself a = ap (λ b. b && nat_eq a.1 a.1) (bytes_same a.0) ∙ eq-eqb a.1 a.1 refl

-- ---- one row

module _ (counts : List ℕ) (rows : List (List ℕ)) (name item : ℕ) (row : List ℕ) (inside : name < length rows) (is : row ≡ get_or rows name []) (small : All (All (λ i. i < length counts)) rows) (there : item < length counts) where
  -- a method is pushed to the row of its name
  pub count_pushed : (new : List ℕ) → new ≡ row ++ item ∷ [] → first_keyed counts (get_or counts item 0) row ≡ None → TakesCount counts rows name item (set rows name new) item
  count_pushed new grows none = record {
    count = length-set rows name new;
    small = All-set (All (λ i. i < length counts)) rows name new (subst (λ r. All (λ i. i < length counts) r) (sym grows) (All-push (λ i. i < length counts) row item (subst (λ r. All (λ i. i < length counts) r) (sym is) (small name [] inside)) there)) small;
    other = λ j n. get_or-set_other rows name j new [] n;
    each = each;
    found = each (get_or counts item 0) ∙ ap (λ r. or_else (first_keyed counts (get_or counts item 0) r) (first_keyed counts (get_or counts item 0) (item ∷ []))) (sym is) ∙ ap (λ o. or_else o (first_keyed counts (get_or counts item 0) (item ∷ []))) none ∙ single_here counts item;
  }
    where
      each : (k : ℕ) → first_keyed counts k (get_or (set rows name new) name []) ≡ or_else (first_keyed counts k (get_or rows name [])) (first_keyed counts k (item ∷ []))
      each k =
          ap (first_keyed counts k) (get_or-set_same rows name new [] inside ∙ grows) ∙ keyed_push counts k row item
          ∙ ap (λ r. or_else (first_keyed counts k r) (first_keyed counts k (item ∷ []))) is

  pub count_there : (key : ℕ) → first_keyed counts (get_or counts item 0) row ≡ Some key → TakesCount counts rows name item rows key
  count_there key some = record {
    count = refl;
    small = small;
    other = λ j n. refl;
    each = λ k. elim (same k (get_or counts item 0)) [
      | inl e ↦ here k e
      | inr n ↦ sym (ap (or_else (first_keyed counts k (get_or rows name []))) (single_other counts item k n) ∙ or_none (first_keyed counts k (get_or rows name [])))
    ];
    found = got;
  }
    where
      got : first_keyed counts (get_or counts item 0) (get_or rows name []) ≡ Some key
      got = ap (first_keyed counts (get_or counts item 0)) (sym is) ∙ some

      here : (k : ℕ) → k ≡ get_or counts item 0 → first_keyed counts k (get_or rows name []) ≡ or_else (first_keyed counts k (get_or rows name [])) (first_keyed counts k (item ∷ []))
      here k e =
          let s : first_keyed counts k (get_or rows name []) ≡ Some key = ap (λ x. first_keyed counts x (get_or rows name [])) e ∙ got in
          s ∙ sym (ap (λ o. or_else o (first_keyed counts k (item ∷ []))) s)

-- ---- all rows

module _ (counts : List ℕ) (size : ℕ) (labels : List Label) (rows : List (List ℕ)) (label : Label) (name : ℕ) (new : List (List ℕ)) (key : ℕ)
    (h : AreCounted counts size labels rows) (named : first_equal bytes_eq 0 label.0 (map (λ l. l.0) labels ++ label.0 ∷ []) ≡ Some name) (counted : get_or counts (length labels) 0 ≡ label.1)
    (takes : TakesCount counts rows name (length labels) new key) where
  base : (count : ℕ) → first_keyed counts count (get_or rows name []) ≡ first_equal alike 0 (label.0, count) labels
  base count = by (first_equal bytes_eq 0 label.0 (map (λ l. l.0) labels)) refl
    where
      by : (o : Option ℕ) → first_equal bytes_eq 0 label.0 (map (λ l. l.0) labels) ≡ o → first_keyed counts count (get_or rows name []) ≡ first_equal alike 0 (label.0, count) labels
      by (Some k) e =
          let known = equal_push bytes_eq 0 label.0 (map (λ l. l.0) labels) label.0 ∙ ap (λ o. or_else o (if bytes_eq label.0 label.0 then Some (0 + length (map (λ l. l.0) labels)) else None)) e in
          let k_is : k ≡ name = same_some k name (sym known ∙ named) in
          ap (λ n. first_keyed counts count (get_or rows n [])) (sym k_is) ∙ ap (λ o. found_in counts rows o count) (sym e) ∙ h.each label.0 count
      by None e =
          let known = equal_push bytes_eq 0 label.0 (map (λ l. l.0) labels) label.0 ∙ ap (λ o. or_else o (if bytes_eq label.0 label.0 then Some (0 + length (map (λ l. l.0) labels)) else None)) e ∙ ap (λ b. if b then Some (0 + length (map (λ l. l.0) labels)) else None) (bytes_same label.0) in
          let n_is : 0 + length (map (λ l. l.0) labels) ≡ name = same_some (0 + length (map (λ l. l.0) labels)) name (sym known ∙ named) in
          let past : length labels ≤ name = omega (arith, n_is, length-map labels (λ l. l.0)) in
          ap (first_keyed counts count) (h.rest name past) ∙ ap (λ o. found_in counts rows o count) (sym e) ∙ h.each label.0 count

  last : (other : Label) (b : Bool) → alike other label ≡ b → first_equal alike 0 other (labels ++ label ∷ []) ≡ or_else (first_equal alike 0 other labels) (if b then Some (length labels) else None)
  last other b e =
      let zeroth : 0 + length labels ≡ length labels = omega arith in
      equal_push alike 0 other labels label ∙ ap (λ t. or_else (first_equal alike 0 other labels) (if t then Some (0 + length labels) else None)) e
      ∙ ap (λ k. or_else (first_equal alike 0 other labels) (if b then Some k else None)) zeroth

  of_own : (count : ℕ) → first_keyed counts count (get_or new name []) ≡ first_equal alike 0 (label.0, count) (labels ++ label ∷ [])
  of_own count =
      takes.each count ∙ ap (λ o. or_else o (first_keyed counts count (length labels ∷ []))) (base count)
      ∙ ap (λ n. or_else (first_equal alike 0 (label.0, count) labels) (if nat_eq count n then Some (length labels) else None)) counted
      ∙ sym (last (label.0, count) (nat_eq count label.1) (ap (λ b. b && nat_eq count label.1) (bytes_same label.0)))

  of_other : (other : List ℕ) (count : ℕ) → bytes_eq other label.0 ≡ false → (o : Option ℕ) → first_equal bytes_eq 0 other (map (λ l. l.0) labels) ≡ o → found_in counts new o count ≡ first_equal alike 0 (other, count) (labels ++ label ∷ [])
  of_other other count f o e = by o e ∙ ap (λ o. found_in counts rows o count) (sym e) ∙ h.each other count ∙ sym (last (other, count) false (ap (λ b. b && nat_eq count label.1) f) ∙ or_none (first_equal alike 0 (other, count) labels))
    where
      by : (o : Option ℕ) → first_equal bytes_eq 0 other (map (λ l. l.0) labels) ≡ o → found_in counts new o count ≡ found_in counts rows o count
      by None e = refl
      by (Some k) e = ap (first_keyed counts count) (takes.other k differ)
        where
          differ : k ≡ name → ⊥
          differ s =
              let known = equal_push bytes_eq 0 other (map (λ l. l.0) labels) label.0 ∙ ap (λ o. or_else o (if bytes_eq other label.0 then Some (0 + length (map (λ l. l.0) labels)) else None)) e in
              let p = found_like (List ℕ) ℕ bytes_eq (λ a b. (bytes_eq-Decides a b).0) bytes_same (λ n. n) (λ n. []) 0 other (map (λ l. l.0) labels ++ label.0 ∷ []) k [] known in
              let q = found_like (List ℕ) ℕ bytes_eq (λ a b. (bytes_eq-Decides a b).0) bytes_same (λ n. n) (λ n. []) 0 label.0 (map (λ l. l.0) labels ++ label.0 ∷ []) name [] named in
              let j : p.0 ≡ q.0 = omega (arith, p.1, q.1, s) in
              let t : other ≡ label.0 = sym p.3 ∙ ap (λ x. get_or (map (λ l. l.0) labels ++ label.0 ∷ []) x []) j ∙ q.3 in
              absurd (true≢false (sym ((bytes_eq-Decides other label.0).1 t) ∙ f))

  grown : map (λ l. l.0) (labels ++ label ∷ []) ≡ map (λ l. l.0) labels ++ label.0 ∷ []
  grown = map-append (λ (l : Label). l.0) labels (label ∷ [])

  each_of : (other : List ℕ) (count : ℕ) (b : Bool) → bytes_eq other label.0 ≡ b → found_in counts new (first_equal bytes_eq 0 other (map (λ l. l.0) labels ++ label.0 ∷ [])) count ≡ first_equal alike 0 (other, count) (labels ++ label ∷ [])
  each_of other count true e =
      let t : other ≡ label.0 = (bytes_eq-Decides other label.0).0 e in
      ap (λ x. found_in counts new (first_equal bytes_eq 0 x (map (λ l. l.0) labels ++ label.0 ∷ [])) count) t
      ∙ ap (λ o. found_in counts new o count) named ∙ of_own count ∙ ap (λ x. first_equal alike 0 (x, count) (labels ++ label ∷ [])) (sym t)
  each_of other count false e =
      ap (λ o. found_in counts new o count)
      (equal_push bytes_eq 0 other (map (λ l. l.0) labels) label.0 ∙ ap (λ b. or_else (first_equal bytes_eq 0 other (map (λ l. l.0) labels)) (if b then Some (0 + length (map (λ l. l.0) labels)) else None)) e ∙ or_none (first_equal bytes_eq 0 other (map (λ l. l.0) labels)))
      ∙ of_other other count e (first_equal bytes_eq 0 other (map (λ l. l.0) labels)) refl

  pub counted_more : AreCounted counts size (labels ++ label ∷ []) new
  counted_more = record {
    count = takes.count ∙ h.count;
    small = takes.small;
    rest = λ j past. takes.other j (apart j past) ∙ h.rest j (omega (arith, past, length_push labels label));
    each = λ other count. ap (λ ns. found_in counts new (first_equal bytes_eq 0 other ns) count) grown ∙ each_of other count (bytes_eq other label.0) refl;
  }
    where
      apart : (j : ℕ) → length (labels ++ label ∷ []) ≤ j → j ≡ name → ⊥
      apart j past e =
          let q = found_like (List ℕ) ℕ bytes_eq (λ a b. (bytes_eq-Decides a b).0) bytes_same (λ n. n) (λ n. []) 0 label.0 (map (λ l. l.0) labels ++ label.0 ∷ []) name [] named in
          absurd (omega (arith, q.1, q.2, e, past, length_push labels label, length_push (map (λ l. l.0) labels) label.0, length-map labels (λ l. l.0)))

  pub counted_key : first_equal alike 0 label (labels ++ label ∷ []) ≡ Some key
  counted_key = sym (of_own label.1) ∙ ap (λ n. first_keyed counts n (get_or new name [])) (sym counted) ∙ takes.found

-- the next of these methods
pub method_more : (labels : List Label) (i : ℕ) → i < length labels → (counts : List ℕ) (size : ℕ) (table more_table : List (Named ℕ)) (text : List ℕ) (rows new : List (List ℕ)) (name key : ℕ) (keys more : List ℕ)
    → get_or counts i 0 ≡ (get_or labels i ([], 0)).1 → text ≡ (get_or labels i ([], 0)).0 → TakesName table text i more_table name → TakesCount counts rows name i new key → more ≡ keys ++ key ∷ []
    → HasNames table (map (λ l. l.0) (take i labels)) → AreCounted counts size (take i labels) rows → HasKeys Label alike (take i labels) keys
    → HasNames more_table (map (λ l. l.0) (take (i + 1) labels)) × AreCounted counts size (take (i + 1) labels) new × HasKeys Label alike (take (i + 1) labels) more
method_more labels i inside counts size table more_table text rows new name key keys more count_is text_is names takes grows had h has =
    let ls : List Label = take i labels in
    let label : Label = get_or labels i ([], 0) in
    let long : length ls ≡ i = length-take-le i labels (omega (arith, inside)) in
    let long_names : i ≡ length (map (λ l. l.0) ls) = sym (length-map ls (λ l. l.0) ∙ long) in
    let pushed : ls ++ label ∷ [] ≡ take (i + 1) labels = sym (take_more labels i ([], 0) inside) in
    let named : HasNames more_table (map (λ l. l.0) ls ++ label.0 ∷ []) = subst (λ t. HasNames more_table (map (λ l. l.0) ls ++ t ∷ [])) text_is (names.named (map (λ l. l.0) ls) long_names had) in
    let name_is : first_equal bytes_eq 0 label.0 (map (λ l. l.0) ls ++ label.0 ∷ []) ≡ Some name = sym (named label.0) ∙ ap (λ t. find t more_table) (sym text_is) ∙ names.found in
    let count_here : get_or counts (length ls) 0 ≡ label.1 = ap (λ k. get_or counts k 0) long ∙ count_is in
    let takes_here : TakesCount counts rows name (length ls) new key = subst (λ k. TakesCount counts rows name k new key) (sym long) takes in (
      subst (λ xs. HasNames more_table (map (λ l. l.0) xs)) pushed (subst (λ ns. HasNames more_table ns) (sym (map-append (λ (l : Label). l.0) ls (label ∷ []))) named),
      subst (λ xs. AreCounted counts size xs new) pushed (counted_more counts size ls rows label name new key h name_is count_here takes_here),
      subst (λ xs. HasKeys Label alike xs more) pushed (subst (λ ks. HasKeys Label alike (ls ++ label ∷ []) ks) (sym grows) (keys_push Label alike ls keys label key (counted_key counts size ls rows label name new key h name_is count_here takes_here) has)),
    )

pub none_counted : (counts : List ℕ) (size : ℕ) (rows : List (List ℕ)) → AreRows size [] rows → AreCounted counts size [] rows
none_counted counts size rows h = record {
  count = h.count;
  small = λ k d l. subst (λ r. All (λ i. i < length counts) r) (sym (get_or_default rows k d [] l ∙ h.each k (omega (arith, l, h.count)))) (All-nil (λ i. i < length counts));
  rest = λ j past. by j (nat_lt j size) refl;
  each = λ name count. refl;
}
  where
    by : (j : ℕ) (b : Bool) → nat_lt j size ≡ b → get_or rows j [] ≡ []
    by j true e = h.each j (ltb-true j size e)
    by j false e = get_or_past rows j [] (omega (arith, ltb-false j size e, h.count))

pub no_names : (table : List (Named ℕ)) → table ≡ [] → HasNames table []
no_names table e name = ap (find name) e

pub name_small : (labels : List Label) (i : ℕ) → i < length labels → (counts : List ℕ) (rows : List (List ℕ)) (table new : List (Named ℕ)) (text : List ℕ) (name : ℕ) → TakesName table text i new name
    → HasNames table (map (λ (l : Label). l.0) (take i labels)) → AreCounted counts (length labels) (take i labels) rows → name < length rows
name_small labels i inside counts rows table new text name takes had h =
    let ls : List Label = take i labels in
    let long : length ls ≡ i = length-take-le i labels (omega (arith, inside)) in
    let named = takes.named (map (λ l. l.0) ls) (sym (length-map ls (λ l. l.0) ∙ long)) had text in
    let q = found_like (List ℕ) ℕ bytes_eq (λ a b. (bytes_eq-Decides a b).0) bytes_same (λ n. n) (λ n. []) 0 text (map (λ l. l.0) ls ++ text ∷ []) name [] (sym named ∙ takes.found) in
    omega (arith, q.1, q.2, long, inside, h.count, length_push (map (λ l. l.0) ls) text, length-map ls (λ l. l.0))
