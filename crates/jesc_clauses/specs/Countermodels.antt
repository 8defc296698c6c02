-- What makes clauses true.
use Rattle.std.specs.Prelude.{◌≡◌, ℕ, zero, suc, Bool, false, not, IsTrue, ℤ, pos, negsuc, ◌+ℤ◌, List, All, map, Option, Some, None, slice_get}
use Rattle.std.specs.List.{list_any}
use Rattle.jesc_linear.specs.Forms.{value}
use Rattle.jesc_clauses.specs.declared.atom.Atom.{Atom}
use Rattle.jesc_clauses.specs.declared.lin.Lin.{Lin}
use Rattle.jesc_clauses.specs.declared.clause.Opaque.{Opaque}
use Rattle.jesc_clauses.specs.declared.clause.Clauses.{Clauses}
use Rattle.jesc_clauses.specs.Normals.{is_met}

-- Throughout, v gives each opaque term, by its number, a whole number.

abbrev pub lin_value : (ℕ → ℤ) → Lin → ℤ
lin_value v lin = value v lin.form +ℤ lin.constant

abbrev pub is_met_some : (ℕ → ℤ) → Option Atom → Bool
is_met_some v None = false
is_met_some v (Some atom) = is_met v atom

abbrev pub is_unmet_some : (ℕ → ℤ) → Option Atom → Bool
is_unmet_some v None = false
is_unmet_some v (Some atom) = not (is_met v atom)

-- the literal k is the atom k - 1, and -k its negation; where there is no such atom, it is false
abbrev pub is_true_literal : (ℕ → ℤ) → List Atom → ℤ → Bool
is_true_literal v atoms (pos zero) = false
is_true_literal v atoms (pos (suc k)) = is_met_some v (slice_get atoms k)
is_true_literal v atoms (negsuc k) = is_unmet_some v (slice_get atoms k)

-- one of the literals is true
abbrev pub is_true_clause : (ℕ → ℤ) → List Atom → List ℤ → Bool
is_true_clause v atoms literals = list_any (is_true_literal v atoms) literals

-- applications of one symbol to arguments with the same numbers
abbrev pub AreAlike : (ℕ → ℤ) → Opaque → Opaque → Type 0
AreAlike v a b = (a.symbol ≡ b.symbol) × (map (lin_value v) a.args ≡ map (lin_value v) b.args)

-- each clause is true, and alike applications have the same number
pub record IsCountermodel (clauses : Clauses) (v : ℕ → ℤ) : Type 0 where
  pub true : All (λ literals. IsTrue (is_true_clause v clauses.atoms literals)) clauses.clauses
  pub congruent : (i j : ℕ) (a b : Opaque) → slice_get clauses.terms i ≡ Some a → slice_get clauses.terms j ≡ Some b → AreAlike v a b → v i ≡ v j
