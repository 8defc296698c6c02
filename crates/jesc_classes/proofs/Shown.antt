-- The entries of a table's map as its names.
use Rattle.std.proofs.Common.{◌≡◌, ℕ, cond, List, [], ◌∷◌, ◌++◌, map, take, suc, zero, Some, refl, ap, bytes_eq, Bor}
use Rattle.std.specs.Map.{lookup}
use Rattle.jesc_classes.specs.Named.{Named, find}

abbrev pub shown : {V : Type 0} → List (Bor (List ℕ) × V) → List (Named V)
shown es = map (λ e. (e.0.now, e.1)) es

-- looking through the entries is looking through the names
pub find-shown : {V : Type 0} (w : List ℕ) (es : List (Bor (List ℕ) × V)) → lookup (λ k. bytes_eq w k.now) es ≡ find w (shown es)
find-shown w [] = refl
find-shown w (e ∷ es) = ap (λ r. cond (bytes_eq w e.0.now) (Some e.1) r) (find-shown w es)

pub shown-append : {V : Type 0} (es fs : List (Bor (List ℕ) × V)) → shown (es ++ fs) ≡ shown es ++ shown fs
shown-append [] fs = refl
shown-append (e ∷ es) fs = ap (λ r. (e.0.now, e.1) ∷ r) (shown-append es fs)

pub shown-take : {V : Type 0} (n : ℕ) (es : List (Bor (List ℕ) × V)) → shown (take n es) ≡ take n (shown es)
shown-take zero [] = refl
shown-take (suc n) [] = refl
shown-take zero (e ∷ es) = refl
shown-take (suc n) (e ∷ es) = ap (λ r. (e.0.now, e.1) ∷ r) (shown-take n es)
