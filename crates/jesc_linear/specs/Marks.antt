-- A number by which most forms differ, so that few of them need be compared.
use Rattle.std.specs.Prelude.{ℕ, ◌+◌, ◌*◌, ◌%◌, ◌^◌, ℤ, [], ◌∷◌}
use Rattle.std.specs.Int.{cast_unsigned, w64}
use Rattle.jesc_linear.specs.Forms.{Form}

-- the mark with one more part, on 64 bits: an odd factor spreads the bits
abbrev pub marked : ℕ → ℤ × ℕ → ℕ
marked mark part = (((mark * 11400714819323198485 % 2 ^ 64) + part.1) % 2 ^ 64 * 11400714819323198485 % 2 ^ 64 + cast_unsigned w64 part.0) % 2 ^ 64

abbrev pub mark_from : ℕ → Form → ℕ
mark_from mark [] = mark
mark_from mark (part ∷ rest) = mark_from (marked mark part) rest

abbrev pub mark_of : Form → ℕ
mark_of form = mark_from 0 form
