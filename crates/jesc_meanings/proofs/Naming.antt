-- Names with their rows take up names and items.
use Rattle.std.proofs.Common.{◌≡◌, ◌⊎◌, inl, inr, ℕ, ◌+◌, ◌<◌, Bool, true, false, ◌&&◌, Option, Some, None, List, [], ◌∷◌, ◌++◌, length, get_or, set, refl, ap, sym, ◌∙◌, arith, bytes_eq, nat_eq, if◌then◌else◌}
use Rattle.std.proofs.lemmas.Slice.Eq.{bytes_eq-Decides}
use Rattle.std.proofs.lemmas.List.{get_or_append_left, get_or_push, get_or-set_same, get_or-set_other, length-set, length_push}
use Rattle.jesc_classes.specs.Named.{Named, find}
use Rattle.jesc_classes.specs.laws.Orders.{same}
use Rattle.jesc_lookup.specs.Lines.{or_else}
use Rattle.jesc_meanings.specs.Labels.{AreNamed, IsTableOf, Key, TakesItem, TakesName, alike, found_in, in_row}
use Rattle.jesc_meanings.specs.Rows.{Puts}
use Rattle.jesc_meanings.proofs.Labelling.{bytes_same, or_none, same_some, some_or}

some_none : (x : ℕ) → Some x ≡ None → ⊥
some_none x e = absurd (cc)

find_push : (table : List (Named ℕ)) (key : List ℕ) (value : ℕ) (name : List ℕ) → find name (table ++ (key, value) ∷ []) ≡ or_else (find name table) (if bytes_eq name key then Some value else None)
find_push [] key value name = refl
find_push (e ∷ table) key value name =
    ap (λ r. if bytes_eq name e.0 then Some e.1 else r) (find_push table key value name)
    ∙ some_or (bytes_eq name e.0) e.1 (find name table) (if bytes_eq name key then Some value else None)

-- ---- a name has a row

pub name_there : (names : List (Named ℕ)) (rows : List (List (Option ℕ))) (name : List ℕ) (row : ℕ) → AreNamed names rows → find name names ≡ Some row → TakesName names rows name names rows row
name_there names rows name row h e = record { named = h; found = e; same = λ key. refl }

-- it gets an empty one
module _ (names : List (Named ℕ)) (rows : List (List (Option ℕ))) (name : List ℕ) (h : AreNamed names rows) (absent : find name names ≡ None)
    (new : List (Named ℕ)) (new_rows : List (List (Option ℕ))) (is : new ≡ names ++ (name, length rows) ∷ []) (are : new_rows ≡ rows ++ [] ∷ []) where
  long : length new_rows ≡ length rows + 1
  long = ap length are ∙ length_push rows []

  looked_up : (other : List ℕ) → find other new ≡ or_else (find other names) (if bytes_eq other name then Some (length rows) else None)
  looked_up other = ap (find other) is ∙ find_push names name (length rows) other

  -- a name has its old row, or is the new one and has the new row
  cases : (other : List ℕ) (row : ℕ) → find other new ≡ Some row → (find other names ≡ Some row) ⊎ ((other ≡ name) × (row ≡ length rows))
  cases other row e = by (find other names) refl (bytes_eq other name) refl
    where
      by : (o : Option ℕ) → find other names ≡ o → (b : Bool) → bytes_eq other name ≡ b → (find other names ≡ Some row) ⊎ ((other ≡ name) × (row ≡ length rows))
      by (Some k) f b t = inl (f ∙ (sym (looked_up other ∙ ap (λ o. or_else o (if bytes_eq other name then Some (length rows) else None)) f) ∙ e))
      by None f true t =
          let g : Some (length rows) ≡ Some row = sym (looked_up other ∙ ap (λ o. or_else o (if bytes_eq other name then Some (length rows) else None)) f ∙ ap (λ b. if b then Some (length rows) else None) t) ∙ e in
          inr ((bytes_eq-Decides other name).0 t, sym (same_some (length rows) row g))
      by None f false t =
          absurd (some_none row (sym e ∙ (looked_up other ∙ ap (λ o. or_else o (if bytes_eq other name then Some (length rows) else None)) f ∙ ap (λ b. if b then Some (length rows) else None) t)))

  told : (key : Key) → found_in new new_rows key ≡ found_in names rows key
  told key = ap (in_row new_rows key.1) (looked_up key.0) ∙ by (find key.0 names) refl (bytes_eq key.0 name)
    where
      by : (o : Option ℕ) → find key.0 names ≡ o → (b : Bool) → in_row new_rows key.1 (or_else (find key.0 names) (if b then Some (length rows) else None)) ≡ in_row rows key.1 (find key.0 names)
      by (Some row) e b =
          ap (λ o. in_row new_rows key.1 (or_else o (if b then Some (length rows) else None))) e
          ∙ ap (λ r. get_or r key.1 None) (ap (λ rs. get_or rs row []) are ∙ get_or_append_left rows ([] ∷ []) [] row (h.small key.0 row e))
          ∙ ap (in_row rows key.1) (sym e)
      by None e true =
          ap (λ o. in_row new_rows key.1 (or_else o (Some (length rows)))) e
          ∙ ap (λ r. get_or r key.1 None) (ap (λ rs. get_or rs (length rows) []) are ∙ get_or_push rows [] [] (length rows) refl)
          ∙ ap (in_row rows key.1) (sym e)
      by None e false = ap (λ o. in_row new_rows key.1 (or_else o None)) e ∙ ap (in_row rows key.1) (sym e)

  pub name_added : TakesName names rows name new new_rows (length rows)
  name_added = record {
    named = record {
      small = λ other row e. elim (cases other row e) [ inl f ↦ omega (arith, h.small other row f, long) | inr f ↦ omega (arith, f.1, long) ];
      apart = λ a b row e f. elim (cases a row e) [
        | inl x ↦ elim (cases b row f) [
          | inl y ↦ h.apart a b row x y
          | inr y ↦ absurd (omega (arith, h.small a row x, y.1))
        ]
        | inr x ↦ elim (cases b row f) [
          | inl y ↦ absurd (omega (arith, h.small b row y, x.1))
          | inr y ↦ x.0 ∙ sym y.0
        ]
      ];
    };
    found = looked_up name ∙ ap (λ o. or_else o (if bytes_eq name name then Some (length rows) else None)) absent ∙ ap (λ b. if b then Some (length rows) else None) (bytes_same name);
    same = told;
  }

-- ---- an item has a label

pub no_item : (names : List (Named ℕ)) (rows : List (List (Option ℕ))) (item : ℕ) → AreNamed names rows → TakesItem names rows None item names rows
no_item names rows item h = record { named = h; each = λ key. sym (or_none (found_in names rows key)) }

module _ (names : List (Named ℕ)) (rows : List (List (Option ℕ))) (name : List ℕ) (count item : ℕ) (mid : List (Named ℕ)) (mid_rows : List (List (Option ℕ))) (row : ℕ)
    (takes : TakesName names rows name mid mid_rows row) (old new : List (Option ℕ)) (was : old ≡ get_or mid_rows row []) (puts : Puts old count item new) where
  inside : row < length mid_rows
  inside = takes.named.small name row takes.found

  not_named : (key : Key) → (key.0 ≡ name → ⊥) → alike key (name, count) ≡ false
  not_named key n = by (bytes_eq key.0 name) refl
    where
      by : (b : Bool) → bytes_eq key.0 name ≡ b → alike key (name, count) ≡ false
      by true t = absurd (n ((bytes_eq-Decides key.0 name).0 t))
      by false t = ap (λ b. b && nat_eq key.1 count) t

  other : (key : Key) (a : Option ℕ) → (key.0 ≡ name → ⊥) → a ≡ or_else a (if alike key (name, count) then Some item else None)
  other key a n = sym (ap (λ b. or_else a (if b then Some item else None)) (not_named key n) ∙ or_none a)

  pub item_added : TakesItem names rows (Some (name, count)) item mid (set mid_rows row new)
  item_added = record {
    named = record {
      small = λ a r e. omega (arith, takes.named.small a r e, length-set mid_rows row new);
      apart = takes.named.apart;
    };
    each = λ key. by key (find key.0 mid) refl ∙ ap (λ o. or_else o (if alike key (name, count) then Some item else None)) (takes.same key);
  }
    where
      by : (key : Key) (o : Option ℕ) → find key.0 mid ≡ o → found_in mid (set mid_rows row new) key ≡ or_else (found_in mid mid_rows key) (if alike key (name, count) then Some item else None)
      by key None e =
          let n : key.0 ≡ name → ⊥ = λ s. some_none row (sym takes.found ∙ ap (λ x. find x mid) (sym s) ∙ e) in
          ap (in_row (set mid_rows row new) key.1) e ∙ other key None n
          ∙ ap (λ o. or_else (in_row mid_rows key.1 o) (if alike key (name, count) then Some item else None)) (sym e)
      by key (Some r) e = elim (same r row) [
        | inl s ↦
            let is : key.0 ≡ name = takes.named.apart key.0 name row (e ∙ ap Some s) takes.found in
            ap (in_row (set mid_rows row new) key.1) (e ∙ ap Some s)
            ∙ ap (λ x. get_or x key.1 None) (get_or-set_same mid_rows row new [] inside)
            ∙ puts key.1
            ∙ ap (λ x. or_else (get_or x key.1 None) (if nat_eq key.1 count then Some item else None)) was
            ∙ ap (λ b. or_else (get_or (get_or mid_rows row []) key.1 None) (if b && nat_eq key.1 count then Some item else None)) (sym (ap (λ x. bytes_eq x name) is ∙ bytes_same name))
            ∙ ap (λ o. or_else (in_row mid_rows key.1 o) (if alike key (name, count) then Some item else None)) (sym (e ∙ ap Some s))
        | inr n ↦
            let m : key.0 ≡ name → ⊥ = λ s. n (same_some r row (sym e ∙ ap (λ x. find x mid) s ∙ takes.found)) in
            ap (in_row (set mid_rows row new) key.1) e
            ∙ ap (λ x. get_or x key.1 None) (get_or-set_other mid_rows row r new [] n)
            ∙ other key (get_or (get_or mid_rows r []) key.1 None) m
            ∙ ap (λ o. or_else (in_row mid_rows key.1 o) (if alike key (name, count) then Some item else None)) (sym e)
      ]

pub no_labels : (names : List (Named ℕ)) (rows : List (List (Option ℕ))) → names ≡ [] → rows ≡ [] → IsTableOf [] names rows
no_labels names rows e f = record {
  named = record {
    small = λ name row g. absurd (some_none row (sym g ∙ ap (find name) e));
    apart = λ a b row g h. absurd (some_none row (sym g ∙ ap (find a) e));
  };
  each = λ key. ap (λ ns. in_row rows key.1 (find key.0 ns)) e;
}
