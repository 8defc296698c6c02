-- Where a table has a number.
use Rattle.std.proofs.Common.{◌≡◌, ◌==◌, ◌++◌, Bool, true, false, ℕ, zero, suc, [], ◌∷◌, Option, Some, None, slice_get, get_or, position, refl, sym, ap, ◌∙◌, cond, is_some, true≢false}
use Rattle.std.proofs.lemmas.Bool.{eqb-true, eq-eqb}
use Rattle.std.proofs.lemmas.List.Quantifiers.{position-Some}
use Rattle.std.proofs.lemmas.Option.{slice_get-map, get_or_from_slice_get}
use Rattle.std.specs.Map.{keys_of, lookup}
use Rattle.std.specs.Option.{option_map}
use Rattle.indexmap.specs.IndexMap.{insert_entry}
use Rattle.jesc_clauses.specs.declared.lin.Lin.{Lin}
use Rattle.jesc_clauses.specs.Readers.{Entries, IsSumAt, HasSum}

-- the entry at the place that is found has the number
pub found : (es : Entries) (id at key : ℕ) (lin : Lin) → Some at ≡ position (λ k. id == k) (keys_of es) → slice_get es at ≡ Some (key, lin) → IsSumAt es id lin
found es id at key lin p e =
    let h = position-Some (λ k. id == k) (keys_of es) at id (sym p) in
    let s : slice_get (keys_of es) at ≡ Some key = slice_get-map (λ (x : ℕ × Lin). x.0) es at ∙ ap (option_map (λ (x : ℕ × Lin). x.0)) e in
    let g : get_or (keys_of es) at id ≡ key = get_or_from_slice_get (keys_of es) at key id s in
    let k : id ≡ key = eqb-true id key (ap (λ x. id == x) (sym g) ∙ h.1) in
    (at, e ∙ ap (λ (x : ℕ). Some (x, lin)) (sym k))

-- a number that isn't found is in no entry
later_none : (b : Bool) (x : Lin) (o : Option Lin) → cond b (Some x) o ≡ None → (b ≡ false) × (o ≡ None)
later_none true x o e = cc
later_none false x o e = (refl, e)

pub absent : (es : Entries) (id : ℕ) → lookup (λ k. id == k) es ≡ None → HasSum es id → ⊥
absent [] id p h = cc (h.1.1)
absent (e ∷ es) id p (lin, (zero, s)) =
    let q = later_none (id == e.0) e.1 (lookup (λ k. id == k) es) p in
    let k : e ≡ (id, lin) = cc in
    let t : id == e.0 ≡ true = eq-eqb id e.0 (ap (λ (x : ℕ × Lin). x.0) (sym k)) in true≢false (sym t ∙ q.0)
absent (e ∷ es) id p (lin, (suc k, s)) = absent es id (later_none (id == e.0) e.1 (lookup (λ k. id == k) es) p).1 (lin, (k, s))

pub none_is : (o : Option Lin) → false ≡ is_some o → o ≡ None
none_is None e = refl
none_is (Some x) e = absurd (true≢false (sym e))

-- a new number goes last
pub put_last : (es : Entries) (id : ℕ) (lin : Lin) → (HasSum es id → ⊥) → insert_entry (λ j k. j == k) es id lin ≡ es ++ (id, lin) ∷ []
put_last [] id lin h = refl
put_last (e ∷ es) id lin h = by (id == e.0) refl (λ g. put_last es id lin g)
  where
    by : (b : Bool) → id == e.0 ≡ b → ((HasSum es id → ⊥) → insert_entry (λ j k. j == k) es id lin ≡ es ++ (id, lin) ∷ []) → insert_entry (λ j k. j == k) (e ∷ es) id lin ≡ e ∷ (es ++ (id, lin) ∷ [])
    by true t rest = absurd (h (e.1, (0, ap (λ (x : ℕ). Some (x, e.1)) (sym (eqb-true id e.0 t)))))
    by false t rest = rw t (ap (λ (xs : Entries). e ∷ xs) (rest (λ has. h (has.0, (suc has.1.0, has.1.1)))))
