-- The keys of a set of names as their texts.
use Rattle.std.proofs.Common.{ℕ, List, map, Bor}

abbrev pub shown : List (Bor (List ℕ)) → List (List ℕ)
shown names = map (λ name. name.now) names
