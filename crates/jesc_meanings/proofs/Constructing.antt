-- The rows of constructors.
use Rattle.std.proofs.Common.{◌≡◌, inl, inr, ℕ, ◌+◌, ◌<◌, Bool, Option, Some, None, List, [], ◌∷◌, ◌++◌, length, map, take, get_or, refl, ap, sym, ◌∙◌, subst, arith, if◌then◌else◌}
use Rattle.std.specs.List.{All}
use Rattle.std.proofs.lemmas.List.{get_or_append_left, get_or_push, get_or-map, length-map, length_push, map-append, take_more}
use Rattle.jesc_classes.specs.laws.Orders.{same}
use Rattle.jesc_lookup.specs.Lines.{or_else}
use Rattle.jesc_tree.specs.declared.class.Class.{Class}
use Rattle.jesc_tree.specs.declared.class.Method.{Method}
use Rattle.jesc_tree.specs.declared.ids.MethodId.{MethodId}
use Rattle.jesc_meanings.specs.Meanings.{first_that, is_constructor_of, method_rows, own_constructor}
use Rattle.jesc_meanings.specs.Rows.{TakesMethod, TellsConstructors}
use Rattle.jesc_meanings.proofs.Labelling.{some_or}

that_push : (test : ℕ → Bool) (ids : List ℕ) (x : ℕ) → first_that test (ids ++ x ∷ []) ≡ or_else (first_that test ids) (if test x then Some x else None)
that_push test [] x = refl
that_push test (i ∷ ids) x = ap (λ r. if test i then Some i else r) (that_push test ids x) ∙ some_or (test i) i (first_that test ids) (if test x then Some x else None)

pub id_small : (ids : List MethodId) (n i : ℕ) (d : MethodId) → i < length ids → All (λ m. m < n) (map (λ (m : MethodId). m.0) ids) → (get_or ids i d).0 < n
id_small ids n i d l h =
    let e = get_or-map (λ (m : MethodId). m.0) ids i d 0 l in
    subst (λ x. x < n) e (h i 0 (inside ids l))
  where
    inside : (xs : List MethodId) → i < length xs → i < length (map (λ (m : MethodId). m.0) xs)
    inside xs l = subst (λ k. i < k) (sym (length-map xs (λ (m : MethodId). m.0))) l

-- the row takes up one method more
pub method_taken : (methods : List Method) (ids : List MethodId) (i : ℕ) (d : MethodId) → i < length ids → (row new : List (Option ℕ)) → TellsConstructors methods (map (λ (m : MethodId). m.0) (take i ids)) row
    → TakesMethod methods row (get_or ids i d).0 new → TellsConstructors methods (map (λ (m : MethodId). m.0) (take (i + 1) ids)) new
method_taken methods ids i d l row new tells takes count =
    takes count
    ∙ ap (λ o. or_else o (if is_constructor_of methods count (get_or ids i d).0 then Some (get_or ids i d).0 else None)) (tells count)
    ∙ sym (that_push (is_constructor_of methods count) (map (λ (m : MethodId). m.0) (take i ids)) (get_or ids i d).0)
    ∙ ap (first_that (is_constructor_of methods count)) (sym (map-append (λ (m : MethodId). m.0) (take i ids) (get_or ids i d ∷ [])) ∙ ap (map (λ (m : MethodId). m.0)) (sym (take_more ids i d l)))

-- the row of a class's methods
pub methods_at : (classes : List Class) (i : ℕ) (c : Class) → i < length classes → c ≡ get_or classes i c → get_or (method_rows classes) i [] ≡ map (λ (m : MethodId). m.0) c.methods
methods_at classes i c l is = get_or-map (λ (c : Class). map (λ (m : MethodId). m.0) c.methods) classes i c [] l ∙ ap (λ (c : Class). map (λ (m : MethodId). m.0) c.methods) (sym is)

pub row_small : (classes : List Class) (n i : ℕ) → i < length classes → All (All (λ m. m < n)) (method_rows classes) → All (λ m. m < n) (get_or (method_rows classes) i [])
row_small classes n i l h = h i [] (subst (λ k. i < k) (sym (length-map classes (λ (c : Class). map (λ (m : MethodId). m.0) c.methods))) l)

-- one class more
pub class_taken : (classes : List Class) (methods : List Method) (i : ℕ) (rows more : List (List (Option ℕ))) (row : List (Option ℕ)) → more ≡ rows ++ row ∷ [] → TellsConstructors methods (get_or (method_rows classes) i []) row
    → (length rows ≡ i) × ((k : ℕ) → k < i → (count : ℕ) → get_or (get_or rows k []) count None ≡ own_constructor classes methods count k)
    → (length more ≡ i + 1) × ((k : ℕ) → k < i + 1 → (count : ℕ) → get_or (get_or more k []) count None ≡ own_constructor classes methods count k)
class_taken classes methods i rows more row grows tells h = (
  ap length grows ∙ length_push rows row ∙ ap (λ n. n + 1) h.0,
  λ k l count. ap (λ rs. get_or (get_or rs k []) count None) grows ∙ elim (same k i) [
    | inl e ↦ ap (λ r. get_or r count None) (get_or_push rows row [] k (h.0 ∙ sym e)) ∙ tells count ∙ ap (own_constructor classes methods count) (sym e)
    | inr n ↦ ap (λ r. get_or r count None) (get_or_append_left rows (row ∷ []) [] k (omega (arith, l, n, h.0))) ∙ h.1 k (omega (arith, l, n)) count
  ],
)
