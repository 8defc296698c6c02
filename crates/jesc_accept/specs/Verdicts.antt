-- What the checker of certificates answers.
use Rattle.std.specs.Prelude.{◌≡◌, ℕ, ℤ, true, List, [], length, take, Some, slice_get}
use Rattle.jesc_cert.specs.declared.cert.CertLine.{CertLine}
use Rattle.jesc_clauses.specs.declared.clause.Clauses.{Clauses}
use Rattle.jesc_clauses.specs.Countermodels.{IsCountermodel}
use Rattle.jesc_accept.specs.declared.verdict.Accept.{Accept}
use Rattle.jesc_accept.specs.declared.verdict.Accept.TheVariants.{Yes, No}
use Rattle.jesc_accept.specs.Moves.{State, start, MovesOn, Moves}

-- the tree has begun, and no branch is open
pub record IsClosed (s : State) : Type 0 where
  pub begun : s.in_tree ≡ true
  pub none : s.ends ≡ []

-- every line fits, and the tree is closed
pub record IsAccepted (clauses : Clauses) (lines : List CertLine) : Type 0 where
  pub state : State
  pub moves : MovesOn clauses (start clauses) lines state
  pub closed : IsClosed state

-- the lines before the n-th, from 0, fit, and this one doesn't; or all fit, n is their count, and the tree isn't closed
pub record IsFirstBad (clauses : Clauses) (lines : List CertLine) (n : ℕ) : Type 0 where
  pub state : State
  pub moves : MovesOn clauses (start clauses) (take n lines) state
  pub bad : (line : CertLine) → slice_get lines n ≡ Some line → (t : State) → Moves clauses state line t → ⊥
  pub unfinished : length lines ≡ n → IsClosed state → ⊥
  pub within : (length lines ≡ n → ⊥) → (line : CertLine) × (slice_get lines n ≡ Some line)

abbrev pub Judges : Clauses → List CertLine → Accept → Type 0
Judges clauses lines Yes = IsAccepted clauses lines
Judges clauses lines (No n) = IsFirstBad clauses lines n

-- the clauses have no countermodel
abbrev pub HaveNone : Clauses → Type 0
HaveNone clauses = (v : ℕ → ℤ) → IsCountermodel clauses v → ⊥
