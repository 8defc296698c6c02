-- A number by which most atoms differ, so that few of them need be compared. Words that only contracts inside the crate use.
use Rattle.std.specs.Prelude.{ℕ, ◌+◌, ◌*◌, ◌%◌, ◌^◌, ℤ, List, [], ◌∷◌}
use Rattle.std.specs.Int.{cast_unsigned, w128}
use Rattle.jesc_clauses.specs.declared.atom.Atom.{Atom}

-- the mark with one more part, on 128 bits: an odd factor spreads the bits
abbrev pub marked : ℕ → ℤ × ℕ → ℕ
marked mark part =
    (((mark * 210306068529402873165736369884012333109 % 2 ^ 128) + part.1) % 2 ^ 128 * 210306068529402873165736369884012333109 % 2 ^ 128 + cast_unsigned w128 part.0) % 2 ^ 128

abbrev pub mark_from : ℕ → List (ℤ × ℕ) → ℕ
mark_from mark [] = mark
mark_from mark (part ∷ rest) = mark_from (marked mark part) rest

abbrev pub mark_of : Atom → ℕ
mark_of atom = mark_from (cast_unsigned w128 atom.bound) atom.form
