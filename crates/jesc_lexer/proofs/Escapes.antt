-- The parity of a run of backslashes.
use Rattle.std.proofs.Common.{◌%◌, ◌==◌, ℕ, List, Bool, take}
use Rattle.std.specs.List.{suffix_len}
use Rattle.jesc_lexer.specs.Characters.{is_backslash}

-- an even number of backslashes stands directly before the place
abbrev pub is_even : List ℕ → ℕ → Bool
is_even bytes at = suffix_len is_backslash (take at bytes) % 2 == 0
