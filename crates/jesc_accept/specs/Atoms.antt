-- How the table of atoms finds an atom. Words that only contracts inside the crate use.
use Rattle.std.specs.Prelude.{◌≡◌, ℕ, ◌≤◌, List, nat_eq, Option, Some, None, slice_get}
use Rattle.std.specs.Map.{lookup}
use Rattle.jesc_clauses.specs.declared.atom.Atom.{Atom}
use Rattle.jesc_accept.specs.Marks.{mark_of}

-- marks with the numbers that they lead to
abbrev pub Entries : Type 0
Entries = List (ℕ × ℕ)

-- what the mark leads to
abbrev pub led_to : Entries → ℕ → Option ℕ
led_to entries mark = lookup (nat_eq mark) entries

-- there is such a number, and it is at most this one
abbrev pub IsUpTo : ℕ → Option ℕ → Type 0
IsUpTo k None = ⊥
IsUpTo k (Some n) = n ≤ k

-- the mark of each atom leads to the atom's number or a smaller one
abbrev pub IsIndex : List Atom → Entries → Type 0
IsIndex atoms entries = (k : ℕ) (atom : Atom) → slice_get atoms k ≡ Some atom → IsUpTo k (led_to entries (mark_of atom))
