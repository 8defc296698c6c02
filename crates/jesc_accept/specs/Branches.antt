-- Branches of a tree of splits.
use Rattle.std.specs.Prelude.{◌≡◌, ℕ, zero, suc, Bool, true, false, ℤ, pos, negsuc, List, replicate, All, Option, Some, None, slice_get}
use Rattle.jesc_clauses.specs.Countermodels.{is_true_literal}
use Rattle.jesc_clauses.specs.declared.atom.Atom.{Atom}

-- of each atom, whether it is taken as true or as false, where it was split on
abbrev pub Branch : Type 0
Branch = List (Option Bool)

-- no atom was split on
abbrev pub root : ℕ → Branch
root atoms = replicate atoms None

-- the literal is false on the branch
abbrev pub IsFalseOn : Branch → ℤ → Type 0
IsFalseOn b (pos zero) = ⊥
IsFalseOn b (pos (suc k)) = slice_get b k ≡ Some (Some false)
IsFalseOn b (negsuc k) = slice_get b k ≡ Some (Some true)

-- each literal is false on the branch
abbrev pub AreFalseOn : Branch → List ℤ → Type 0
AreFalseOn b literals = All (IsFalseOn b) literals

-- the branch takes no atom as other than it is where terms have the numbers that v gives
abbrev pub Agrees : (ℕ → ℤ) → List Atom → Branch → Type 0
Agrees v atoms b = (k : ℕ) (truth : Bool) → slice_get b k ≡ Some (Some truth) → is_true_literal v atoms (pos (suc k)) ≡ truth
