-- The words of the command.
use Rattle.std.specs.Prelude.{◌≡◌, ◌≤◌, false, nat_eq, List, [], ◌∷◌, ℕ, length, map, codes, All, String}
use Rattle.std.specs.List.{starts_with}
use Rattle.std.specs.String.{string_bytes}
use Rattle.std.specs.declared.alloc.Global.{Global}

-- a FILE word doesn't begin with -
abbrev pub IsFileWord : String Global → Type 0
IsFileWord word = starts_with nat_eq (string_bytes word) (codes "-") ≡ false

-- the words are --esc and 1 to 64 FILE words
abbrev pub IsCommand : List (String Global) → Type 0
IsCommand [] = ⊥
IsCommand (esc ∷ files) = (string_bytes esc ≡ codes "--esc") × (1 ≤ length files) × (length files ≤ 64) × All IsFileWord files

-- the FILE words, in order
abbrev pub names_of : List (String Global) → List (List ℕ)
names_of [] = []
names_of (esc ∷ files) = map string_bytes files
