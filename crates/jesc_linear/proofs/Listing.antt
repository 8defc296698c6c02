-- The list of values, a term at a time.
use Rattle.std.proofs.Common.{◌≡◌, ℕ, suc, ◌+◌, ◌-◌, ◌<◌, ℤ, List, [], ◌∷◌, ◌++◌, sym, ap, ◌∙◌, arith}
use Rattle.std.proofs.lemmas.List.{append_assoc}
use Rattle.jesc_linear.specs.Elimination.{Values, value_in, listed}

listed_more : (found : Values) (low end : ℕ) → low < end → listed found low (end - low) ≡ value_in found low ∷ listed found (low + 1) (end - (low + 1))
listed_more found low end h =
    let count : end - low ≡ suc (end - (low + 1)) = omega arith in
    let next : suc low ≡ low + 1 = omega arith in
    ap (listed found low) count ∙ ap (λ n. value_in found low ∷ listed found n (end - (low + 1))) next

pub point_more : (found : Values) (low end : ℕ) (old new : List ℤ) (value : ℤ) → low < end → new ≡ old ++ value ∷ [] → value ≡ value_in found low
    → new ++ listed found (low + 1) (end - (low + 1)) ≡ old ++ listed found low (end - low)
point_more found low end old new value h n v =
    let rest : List ℤ = listed found (low + 1) (end - (low + 1)) in
    ap (λ (l : List ℤ). l ++ rest) n ∙ (append_assoc old (value ∷ []) rest
    ∙ (ap (λ (x : ℤ). old ++ x ∷ rest) v ∙ ap (λ (l : List ℤ). old ++ l) (sym (listed_more found low end h))))
