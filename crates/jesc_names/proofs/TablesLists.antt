-- The fields of each class, listed one after another.
use Rattle.std.proofs.Common.{◌≡◌, ℕ, suc, ◌+◌, ◌<◌, Bool, true, false, nat_eq, eqb-true, eq-eqb, if◌then◌else◌, List, [], ◌∷◌, ◌++◌, length, get_or, set, refl, ap, sym, ◌∙◌, subst, arith, append-nil, get_or-set_same, get_or-set_other, length-set, map, take, Some, slice_get}
use Rattle.std.proofs.lemmas.List.{get_or_default, get_or_read, get_or-map, length-map, length-take-le}
use Rattle.std.specs.List.{All}
use Rattle.jesc_classes.specs.laws.Lawful.{there, of_each}
use Rattle.jesc_members.specs.declared.fields.GivenField.{GivenField}
use Rattle.jesc_members.specs.Seen.{seen_field}
use Rattle.jesc_members.specs.Fields.{FieldOf}
use Rattle.jesc_names.specs.Program.{numbers_in, joined}
use Rattle.jesc_names.proofs.TablesZips.{front, joined_more, map_more}

pub record AreListed (classes : ℕ) (lists : List (List ℕ)) (fs : List FieldOf) : Type 0 where
  pub count : length lists ≡ classes
  pub each : (class : ℕ) → class < classes → get_or lists class [] ≡ numbers_in class 0 fs

-- what one more field adds
abbrev pub last_in : ℕ → ℕ → FieldOf → List ℕ
last_in class n f = if nat_eq class f.class then (n ∷ []) else []

numbers-push : (class n : ℕ) (fs : List FieldOf) (f : FieldOf) → numbers_in class n (fs ++ f ∷ []) ≡ numbers_in class n fs ++ last_in class (n + length fs) f
numbers-push class n [] f = let e : n ≡ n + 0 = omega arith in ap (λ m. last_in class m f) e
numbers-push class n (g ∷ fs) f =
    let e : n + 1 + length fs ≡ n + suc (length fs) = omega arith in
    by (nat_eq class g.class) (numbers-push class (n + 1) fs f ∙ ap (λ m. numbers_in class (n + 1) fs ++ last_in class m f) e)
  where
    by : (b : Bool) → numbers_in class (n + 1) (fs ++ f ∷ []) ≡ numbers_in class (n + 1) fs ++ last_in class (n + suc (length fs)) f
        → (if b then n ∷ numbers_in class (n + 1) (fs ++ f ∷ []) else numbers_in class (n + 1) (fs ++ f ∷ [])) ≡ (if b then n ∷ numbers_in class (n + 1) fs else numbers_in class (n + 1) fs) ++ last_in class (n + suc (length fs)) f
    by true h = ap (λ xs. n ∷ xs) h
    by false h = h

pub listed_more : (count : ℕ) (lists : List (List ℕ)) (fs : List FieldOf) (f : FieldOf) (new : List ℕ) → f.class < count → AreListed count lists fs → new ≡ get_or lists f.class [] ++ length fs ∷ [] → AreListed count (set lists f.class new) (fs ++ f ∷ [])
listed_more count lists fs f new inside are grown = record {
  count = length-set lists f.class new ∙ are.count;
  each = λ class l. by class l (nat_eq class f.class) refl;
}
  where
    by : (class : ℕ) → class < count → (b : Bool) → nat_eq class f.class ≡ b → get_or (set lists f.class new) class [] ≡ numbers_in class 0 (fs ++ f ∷ [])
    by class l true e =
        let is : class ≡ f.class = eqb-true class f.class e in
        let zeroth : 0 + length fs ≡ length fs = omega arith in
        let added : last_in class (0 + length fs) f ≡ length fs ∷ [] = ap (λ b. if b then ((0 + length fs) ∷ []) else []) e ∙ ap (λ n. n ∷ []) zeroth in
        ap (λ k. get_or (set lists f.class new) k []) is
        ∙ get_or-set_same lists f.class new [] (omega (arith, inside, are.count))
        ∙ grown
        ∙ ap (λ k. get_or lists k [] ++ length fs ∷ []) (sym is)
        ∙ ap (λ xs. xs ++ length fs ∷ []) (are.each class l)
        ∙ ap (λ xs. numbers_in class 0 fs ++ xs) (sym added)
        ∙ sym (numbers-push class 0 fs f)
    by class l false e =
        let none : last_in class (0 + length fs) f ≡ [] = ap (λ b. if b then ((0 + length fs) ∷ []) else []) e in
        get_or-set_other lists f.class class new [] (λ same. different same e)
        ∙ are.each class l
        ∙ sym (append-nil (numbers_in class 0 fs))
        ∙ ap (λ xs. numbers_in class 0 fs ++ xs) (sym none)
        ∙ sym (numbers-push class 0 fs f)
      where
        different : class ≡ f.class → nat_eq class f.class ≡ false → ⊥
        different same e = absurd (cc (eq-eqb class f.class same))

-- ---- the lists in the order of classes

module _ (lists : List (List ℕ)) (classes : List ℕ) (i : ℕ) (inside : i < length classes) (within : (k : ℕ) → k < length classes → get_or classes k 0 < length lists) (row own : List ℕ) (is : row ≡ get_or lists (get_or classes i 0) row) (read : own ≡ row) where
  class_is : get_or classes i 0 ≡ get_or classes i (get_or classes i 0)
  class_is = get_or_default classes i 0 (get_or classes i 0) inside

  own_is : own ≡ get_or lists (get_or classes i 0) []
  own_is = read ∙ get_or_read lists (get_or classes i 0) row (within i inside) is []

  pub order_more : (before after : List ℕ) → before ≡ joined (map (λ class. get_or lists class []) (take i classes)) → after ≡ before ++ own → after ≡ joined (map (λ class. get_or lists class []) (take (i + 1) classes))
  order_more before after e f =
      f ∙ ap (λ xs. xs ++ own) e ∙ ap (λ xs. joined (map (λ class. get_or lists class []) (take i classes)) ++ xs) own_is
      ∙ sym (joined_more (λ class. get_or lists class []) classes i (get_or classes i 0) inside class_is)

  pub sizes_more : (before after : List ℕ) → before ≡ map (λ class. length (get_or lists class [])) (take i classes) → after ≡ before ++ length own ∷ [] → after ≡ map (λ class. length (get_or lists class [])) (take (i + 1) classes)
  sizes_more before after e f =
      f ∙ ap (λ xs. xs ++ length own ∷ []) e ∙ ap (λ (xs : List ℕ). map (λ class. length (get_or lists class [])) (take i classes) ++ length xs ∷ []) own_is
      ∙ sym (map_more (λ class. length (get_or lists class [])) classes i (get_or classes i 0) inside class_is)

-- ---- the fields as the code holds them

module _ (fields : List GivenField) (i : ℕ) (x : GivenField) (inside : i < length fields) (is : x ≡ get_or fields i x) where
  pub field_at : seen_field x ≡ get_or (map seen_field fields) i (seen_field x)
  field_at = ap seen_field is ∙ sym (get_or-map seen_field fields i x (seen_field x) inside)

  long : i < length (map seen_field fields)
  long = omega (arith, inside, length-map fields seen_field)

  pub class_inside : (n : ℕ) → All (λ f. f.class < n) (map seen_field fields) → x.number < n
  class_inside n all = subst (λ (f : FieldOf). f.class < n) (sym field_at) (all i (seen_field x) long)

  pub field_listed : (n : ℕ) (lists : List (List ℕ)) (old new : List ℕ) → x.number < n → AreListed n lists (take i (map seen_field fields)) → old ≡ get_or lists x.number [] → new ≡ old ++ i ∷ [] → AreListed n (set lists x.number new) (take (i + 1) (map seen_field fields))
  field_listed n lists old new below are read grown =
      let count : i ≡ length (take i (map seen_field fields)) = sym (length-take-le i (map seen_field fields) (omega (arith, long))) in
      subst (AreListed n (set lists x.number new)) (sym (front (map seen_field fields) i (seen_field x) long field_at))
      (listed_more n lists (take i (map seen_field fields)) (seen_field x) new below are (grown ∙ ap (λ xs. xs ++ i ∷ []) read ∙ ap (λ k. get_or lists x.number [] ++ k ∷ []) count))

pub field_there : (fields : List GivenField) (fs : List FieldOf) (n : ℕ) (x : GivenField) → map seen_field fields ≡ fs → n < length fields → x ≡ get_or fields n x → slice_get fs n ≡ Some (seen_field x)
field_there fields fs n x e l is = subst (λ gs. slice_get gs n ≡ Some (seen_field x)) e (of_each seen_field fields n x (there fields n x l ∙ ap (λ y. Some y) (sym is)))

pub as_many_fields : (fields : List GivenField) (fs : List FieldOf) → map seen_field fields ≡ fs → length fields ≡ length fs
as_many_fields fields fs e = let same : length (map seen_field fields) ≡ length fs = ap (λ (gs : List FieldOf). length gs) e in omega (arith, same, length-map fields seen_field)
