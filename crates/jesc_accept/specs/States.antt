-- What the code keeps, as states. Words that only contracts inside the crate use.
use Rattle.std.specs.Prelude.{◌≡◌, ℕ, suc, Bool, true, false, ℤ, pos, List, [], ◌∷◌, ◌++◌, ◌≤◌, ◌^◌, All, unsigned_abs, set, reverse, Option, Some, None, slice_get}
use Rattle.jesc_linear.specs.declared.rows.Row.{Row}
use Rattle.jesc_cert.specs.declared.cert.CertKind.{CertKind}
use Rattle.jesc_cert.specs.declared.cert.CertLine.{CertLine}
use Rattle.jesc_clauses.specs.declared.atom.Atom.{Atom}
use Rattle.jesc_accept.specs.declared.tables.Tables.{Tables}
use Rattle.jesc_accept.specs.declared.tree.Tree.{Tree}
use Rattle.jesc_accept.specs.Branches.{Branch, AreFalseOn}
use Rattle.jesc_accept.specs.Lemmas.{IsThere, sum_numbers}
use Rattle.jesc_accept.specs.Moves.{State, Moves}

-- ---- tables

abbrev pub atoms_of : Tables → List Atom
atoms_of t = t.atoms

abbrev pub state_of : Tables → State
state_of t = record { atoms = atoms_of t; lemmas = t.lemmas; rows = t.rows; negated = t.negated; due = t.due; in_tree = false; ends = [] }

-- the line is taken, or no line of lemmas and atoms is there that fits
abbrev pub Takes : Tables → CertLine → Tables → Bool → Type 0
Takes old line new true = (new.clauses ≡ old.clauses) × Moves old.clauses.now (state_of old) line (state_of new)
Takes old line new false = (s : State) → s.in_tree ≡ false → Moves old.clauses.now (state_of old) line s → ⊥

-- a line of that kind
abbrev pub line_of : CertKind → List ℤ → CertLine
line_of kind numbers = record { kind = kind; numbers = numbers }

-- the numbers are those of no bound and form over so many terms
abbrev pub AreNoSum : ℕ → List ℤ → Type 0
AreNoSum terms numbers = (bound : ℤ) (form : List (ℤ × ℕ)) → All (λ part. unsigned_abs part.0 ≤ 2 ^ 31) form → All (IsThere terms) form → numbers ≡ sum_numbers bound form → ⊥

-- the row is that of the numbers, over so many terms, its coefficients at most 2^31 in size
pub record IsSumOf (terms : ℕ) (numbers : List ℤ) (row : Row) : Type 0 where
  pub are : numbers ≡ sum_numbers row.bound row.form
  pub narrow : All (λ part. unsigned_abs part.0 ≤ 2 ^ 31) row.form
  pub there : All (IsThere terms) row.form

-- ---- the tree

-- where the atom is true, the branch on which it is false
abbrev pub other : Branch → ℕ → Option (Option Bool) → List Branch
other b a (Some (Some true)) = set b a (Some false) ∷ []
other b a (Some (Some false)) = []
other b a (Some None) = []
other b a None = []

-- the branches beside this one: of each atom that it was split on, the last one first
abbrev pub beside : Branch → List ℕ → List Branch
beside b [] = []
beside b (a ∷ trail) = other b a (slice_get b a) ++ beside (set b a None) trail

-- the branches that are open
abbrev pub branches_of : Tree → List Branch
branches_of t = by t.is_open
  where
    by : Bool → List Branch
    by true = t.values.items ∷ beside t.values.items (reverse t.trail.items)
    by false = []

-- the atom of the number, from 1, is split on where the first branch doesn't have it, and else nothing can be
abbrev pub Splits : Tree → ℤ → Tree → Bool → Type 0
Splits old number new true = (a : ℕ) × (b : Branch) × (rest : List Branch) × ((number ≡ pos (suc a)) × ((branches_of old ≡ b ∷ rest) × ((slice_get b a ≡ Some None) × (branches_of new ≡ set b a (Some true) ∷ set b a (Some false) ∷ rest))))
Splits old number new false = (a : ℕ) (b : Branch) (rest : List Branch) → number ≡ pos (suc a) → branches_of old ≡ b ∷ rest → slice_get b a ≡ Some None → ⊥

-- the first branch is closed
abbrev pub Closes : Tree → Tree → Type 0
Closes old new = (b : Branch) (rest : List Branch) → branches_of old ≡ b ∷ rest → branches_of new ≡ rest

-- a branch is open, and on the first one these literals are false
abbrev pub AreFalseIn : Tree → List ℤ → Type 0
AreFalseIn t literals = (b : Branch) × (rest : List Branch) × ((branches_of t ≡ b ∷ rest) × AreFalseOn b literals)

-- the tables with a tree that has begun
abbrev pub tree_state : Tables → Tree → State
tree_state tables t = record { atoms = atoms_of tables; lemmas = tables.lemmas; rows = []; negated = []; due = 0; in_tree = true; ends = branches_of t }

-- the tree's line is taken over these clauses, atoms and lemmas, or none is that fits
abbrev pub TakesLeaf : Tables → Tree → CertLine → Tree → Bool → Type 0
TakesLeaf tables old line new true = Moves tables.clauses.now (tree_state tables old) line (tree_state tables new)
TakesLeaf tables old line new false = (s : State) → Moves tables.clauses.now (tree_state tables old) line s → ⊥
