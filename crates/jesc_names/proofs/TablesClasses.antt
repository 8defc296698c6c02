-- The table of classes, filled one class after another.
use Rattle.std.proofs.Common.{◌≡◌, ℕ, zero, suc, ◌+◌, ◌<◌, List, [], ◌∷◌, ◌++◌, map, take, length, get_or, refl, ap, sym, ◌∙◌, subst, arith, append-nil}
use Rattle.std.proofs.lemmas.List.{map-append, get_or_default}
use Rattle.jesc_tree.specs.declared.ids.FieldId.{FieldId}
use Rattle.jesc_tree.specs.declared.ids.MethodId.{MethodId}
use Rattle.jesc_tree.specs.declared.class.Class.{Class}
use Rattle.jesc_names.specs.Program.{joined, counted}
use Rattle.jesc_names.specs.TablesRows.{plain, total}
use Rattle.jesc_names.proofs.TablesZips.{front, map_more, joined-append, counted-append, counted_push, total-append}

pub record IsFilledTo (classes : List Class) (fcs mcs : List ℕ) (i : ℕ) (table : List Class) (nf nm : ℕ) : Type 0 where
  pub same : map plain table ≡ map plain (take i classes)
  pub field_counts : map (λ c. length c.fields) table ≡ take i fcs
  pub method_counts : map (λ c. length c.methods) table ≡ take i mcs
  pub field_ids : map (λ f. f.0) (joined (map (λ c. c.fields) table)) ≡ counted 0 nf
  pub method_ids : map (λ m. m.0) (joined (map (λ c. c.methods) table)) ≡ counted 0 nm
  pub next_field : nf ≡ total (take i fcs)
  pub next_method : nm ≡ total (take i mcs)

counted_length : (n a : ℕ) → length (counted n a) ≡ a
counted_length n zero = refl
counted_length n (suc a) = ap suc (counted_length (n + 1) a)

pushed : {A : Type 0} (f : Class → A) (table : List Class) (c : Class) → map f (table ++ c ∷ []) ≡ map f table ++ f c ∷ []
pushed f table c = map-append f table (c ∷ [])

lists_more : {X : Type 0} (number : X → ℕ) (list : Class → List X) (table : List Class) (c : Class) (next count : ℕ) → map number (joined (map list table)) ≡ counted 0 next → map number (list c) ≡ counted next count
    → map number (joined (map list (table ++ c ∷ []))) ≡ counted 0 (next + count)
lists_more number list table c next count before own =
    ap (λ xs. map number (joined xs)) (pushed list table c)
    ∙ ap (map number) (joined-append (map list table) (list c ∷ []) ∙ ap (λ xs. joined (map list table) ++ xs) (append-nil (list c)))
    ∙ map-append number (joined (map list table)) (list c)
    ∙ ap (λ xs. xs ++ map number (list c)) before
    ∙ ap (λ xs. counted 0 next ++ xs) own
    ∙ zeroth
    ∙ counted-append 0 next count
  where
    zeroth : counted 0 next ++ counted next count ≡ counted 0 next ++ counted (0 + next) count
    zeroth = let e : next ≡ 0 + next = omega arith in ap (λ m. counted 0 next ++ counted m count) e

counts_more : {X : Type 0} (number : X → ℕ) (list : Class → List X) (table : List Class) (c : Class) (counts : List ℕ) (i count next : ℕ) → i < length counts → count ≡ get_or counts i count → map (λ x. length (list x)) table ≡ take i counts → map number (list c) ≡ counted next count
    → map (λ x. length (list x)) (table ++ c ∷ []) ≡ take (i + 1) counts
counts_more {X = X} number list table c counts i count next inside is before own =
    let as_long : length (list c) ≡ count = sym (long (list c)) ∙ ap (λ (xs : List ℕ). length xs) own ∙ counted_length next count in
    pushed (λ x. length (list x)) table c
    ∙ ap (λ xs. xs ++ length (list c) ∷ []) before
    ∙ ap (λ n. take i counts ++ n ∷ []) as_long
    ∙ sym (front counts i count inside is)
  where
    long : (xs : List X) → length (map number xs) ≡ length xs
    long [] = refl
    long (x ∷ xs) = ap suc (long xs)

total_more : (counts : List ℕ) (i count next : ℕ) → i < length counts → count ≡ get_or counts i count → next ≡ total (take i counts) → next + count ≡ total (take (i + 1) counts)
total_more counts i count next inside is before =
    let one = ap total (front counts i count inside is) ∙ total-append (take i counts) (count ∷ []) in
    omega (arith, one, before)

module _ (classes : List Class) (field_counts method_counts : List ℕ) (i : ℕ) (table : List Class) (next_field next_method : ℕ) where
  pub one_class_more : IsFilledTo classes field_counts method_counts i table next_field next_method → (own c : Class) (fields methods : ℕ)
      → i < length classes → own ≡ get_or classes i own → plain c ≡ plain own
      → i < length field_counts → fields ≡ get_or field_counts i fields → map (λ f. f.0) c.fields ≡ counted next_field fields
      → i < length method_counts → methods ≡ get_or method_counts i methods → map (λ m. m.0) c.methods ≡ counted next_method methods
      → IsFilledTo classes field_counts method_counts (i + 1) (table ++ c ∷ []) (next_field + fields) (next_method + methods)
  one_class_more to own c fields methods l e same lf ef idf lm em idm = record {
    same = pushed plain table c ∙ ap (λ xs. xs ++ plain c ∷ []) to.same ∙ ap (λ x. map plain (take i classes) ++ x ∷ []) same ∙ sym (map_more plain classes i own l e);
    field_counts = counts_more (λ (f : FieldId). f.0) (λ x. x.fields) table c field_counts i fields next_field lf ef to.field_counts idf;
    method_counts = counts_more (λ (m : MethodId). m.0) (λ x. x.methods) table c method_counts i methods next_method lm em to.method_counts idm;
    field_ids = lists_more (λ (f : FieldId). f.0) (λ x. x.fields) table c next_field fields to.field_ids idf;
    method_ids = lists_more (λ (m : MethodId). m.0) (λ x. x.methods) table c next_method methods to.method_ids idm;
    next_field = total_more field_counts i fields next_field lf ef to.next_field;
    next_method = total_more method_counts i methods next_method lm em to.next_method;
  }

  pub filled_more : IsFilledTo classes field_counts method_counts i table next_field next_method → length field_counts ≡ length classes → length method_counts ≡ length classes
      → (own c : Class) (fields : List FieldId) (methods : List MethodId) (new : List Class) (field_next method_next : ℕ)
      → i < length classes → own ≡ get_or classes i own → plain c ≡ plain own
      → c.fields ≡ fields → map (λ f. f.0) fields ≡ counted next_field (get_or field_counts i 0) → field_next ≡ next_field + get_or field_counts i 0
      → c.methods ≡ methods → map (λ m. m.0) methods ≡ counted next_method (get_or method_counts i 0) → method_next ≡ next_method + get_or method_counts i 0
      → new ≡ table ++ c ∷ [] → IsFilledTo classes field_counts method_counts (i + 1) new field_next method_next
  filled_more to lf lm own c fields methods new field_next method_next l e same fs fids fn ms mids mn grown =
      let in_fields : i < length field_counts = omega (arith, l, lf) in
      let in_methods : i < length method_counts = omega (arith, l, lm) in
      let more = one_class_more to own c (get_or field_counts i 0) (get_or method_counts i 0) l e same in_fields (get_or_default field_counts i 0 (get_or field_counts i 0) in_fields) (ap (map (λ (f : FieldId). f.0)) fs ∙ fids)
      in_methods (get_or_default method_counts i 0 (get_or method_counts i 0) in_methods) (ap (map (λ (m : MethodId). m.0)) ms ∙ mids) in
      subst (λ (t : List Class). IsFilledTo classes field_counts method_counts (i + 1) t field_next method_next) (sym grown)
      (subst (λ n. IsFilledTo classes field_counts method_counts (i + 1) (table ++ c ∷ []) n method_next) (sym fn)
      (subst (λ n. IsFilledTo classes field_counts method_counts (i + 1) (table ++ c ∷ []) (next_field + get_or field_counts i 0) n) (sym mn) more))

-- ---- ids one after another

pub ids_more : {X : Type 0} (number : X → ℕ) (ids new : List X) (x : X) (first k next : ℕ) → new ≡ ids ++ x ∷ [] → map number ids ≡ counted first k → number x ≡ next → next ≡ first + k → map number new ≡ counted first (k + 1)
ids_more number ids new x first k next grown before is at =
    ap (map number) grown
    ∙ map-append number ids (x ∷ [])
    ∙ ap (λ xs. xs ++ number x ∷ []) before
    ∙ ap (λ n. counted first k ++ n ∷ []) (is ∙ at)
    ∙ sym (counted_push first k)
