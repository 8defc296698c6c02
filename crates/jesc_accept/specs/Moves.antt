-- How a certificate's lines go on, from one state to the next.
use Rattle.std.specs.Prelude.{◌≡◌, ℕ, suc, ◌<◌, ◌^◌, Bool, true, false, ℤ, pos, List, [], ◌∷◌, ◌++◌, length, set, All, Option, Some, None, slice_get}
use Rattle.jesc_linear.specs.declared.rows.Row.{Row}
use Rattle.jesc_linear.specs.declared.rows.LinStep.{LinStep}
use Rattle.jesc_linear.specs.Steps.{DerivesFrom, IsAbsurd}
use Rattle.jesc_cert.specs.declared.cert.CertLine.{CertLine}
use Rattle.jesc_cert.specs.declared.cert.CertKind.TheVariants.{T, G, R, Q, S, C, M}
use Rattle.jesc_clauses.specs.declared.atom.Atom.{Atom}
use Rattle.jesc_clauses.specs.declared.clause.Clauses.{Clauses}
use Rattle.jesc_clauses.specs.declared.builder.Truth.{Truth}
use Rattle.jesc_clauses.specs.Comparisons.{IsNarrowAtom}
use Rattle.jesc_clauses.specs.Normals.{IsNormal}
use Rattle.jesc_accept.specs.Branches.{Branch, root, AreFalseOn}
use Rattle.jesc_accept.specs.Lemmas.{sum_numbers, IsThere, IsCongruence, literals_of, AreRowsOf, negations}

-- what the lines so far have made
pub record State : Type 0 where
  -- the clauses' own atoms, and those of lines
  pub atoms : List Atom
  -- of each lemma its literals, or nothing where it is true by itself
  pub lemmas : List (Option (List ℤ))
  -- of the lemma of linear arithmetic that is open, its rows and those of its steps, the literals that its rows negate,
  -- and how many steps are due
  pub rows : List Row
  pub negated : List ℤ
  pub due : ℕ
  -- whether the tree has begun, and its open branches
  pub in_tree : Bool
  pub ends : List Branch

abbrev pub start : Clauses → State
start clauses = record { atoms = clauses.atoms; lemmas = []; rows = []; negated = []; due = 0; in_tree = false; ends = [] }

-- the open branches, which are the root alone before the tree begins
abbrev pub branches : State → List Branch
branches s = by s.in_tree
  where
    by : Bool → List Branch
    by true = s.ends
    by false = root (length s.atoms) ∷ []

-- the step's two rows have numbers below 2^32
abbrev pub AreRowNumbers : LinStep → Type 0
AreRowNumbers l = (l.i < 2 ^ 32) × (l.j < 2 ^ 32)

-- the line makes the second state of the first
pub data Moves (clauses : Clauses) : State → CertLine → State → Type 0 where
  -- a further atom, in normal form and in bounds, over terms that are there
  atom : (s : State) (line : CertLine) (a : Atom) → s.due ≡ 0 → s.in_tree ≡ false → line.kind ≡ T → line.numbers ≡ sum_numbers a.bound a.form → IsNormal a.form → IsNarrowAtom a → All (IsThere (length clauses.terms)) a.form
      → Moves clauses s line (record { atoms = s.atoms ++ a ∷ []; lemmas = s.lemmas; rows = []; negated = []; due = 0; in_tree = false; ends = [] })
  -- a lemma of congruence
  congruence : (s : State) (line : CertLine) (i j : ℕ) (truths : List Truth) → s.due ≡ 0 → s.in_tree ≡ false → line.kind ≡ G → line.numbers ≡ pos i ∷ pos j ∷ [] → IsCongruence s.atoms clauses.terms i j truths
      → Moves clauses s line (record { atoms = s.atoms; lemmas = s.lemmas ++ literals_of truths ∷ []; rows = []; negated = []; due = 0; in_tree = false; ends = [] })
  -- a lemma of linear arithmetic over literals, of which some steps are due
  linear : (s : State) (line : CertLine) (literals : List ℤ) (rows : List Row) (steps : ℕ) → s.due ≡ 0 → s.in_tree ≡ false → line.kind ≡ R → line.numbers ≡ pos (length literals) ∷ (literals ++ pos steps ∷ []) → 0 < steps → AreRowsOf s.atoms literals rows
      → Moves clauses s line (record { atoms = s.atoms; lemmas = s.lemmas; rows = rows; negated = negations literals; due = steps; in_tree = false; ends = [] })
  -- a step that isn't the last one
  step : (s : State) (line : CertLine) (steps : ℕ) (l : LinStep) → s.due ≡ suc (suc steps) → line.kind ≡ Q → line.numbers ≡ l.a ∷ pos l.i ∷ l.b ∷ pos l.j ∷ l.d ∷ sum_numbers l.row.bound l.row.form → AreRowNumbers l → All (IsThere (length clauses.terms)) l.row.form → DerivesFrom (slice_get s.rows l.i) (slice_get s.rows l.j) l
      → Moves clauses s line (record { atoms = s.atoms; lemmas = s.lemmas; rows = s.rows ++ l.row ∷ []; negated = s.negated; due = suc steps; in_tree = false; ends = [] })
  -- the last one, whose row can't be met
  last : (s : State) (line : CertLine) (l : LinStep) → s.due ≡ 1 → line.kind ≡ Q → line.numbers ≡ l.a ∷ pos l.i ∷ l.b ∷ pos l.j ∷ l.d ∷ sum_numbers l.row.bound l.row.form → AreRowNumbers l → All (IsThere (length clauses.terms)) l.row.form → DerivesFrom (slice_get s.rows l.i) (slice_get s.rows l.j) l → IsAbsurd l
      → Moves clauses s line (record { atoms = s.atoms; lemmas = s.lemmas ++ Some s.negated ∷ []; rows = []; negated = []; due = 0; in_tree = false; ends = [] })
  -- a split on an atom that wasn't split on
  split : (s : State) (line : CertLine) (a : ℕ) (b : Branch) (rest : List Branch) → s.due ≡ 0 → line.kind ≡ S → line.numbers ≡ pos (suc a) ∷ [] → branches s ≡ b ∷ rest → slice_get b a ≡ Some None
      → Moves clauses s line (record { atoms = s.atoms; lemmas = s.lemmas; rows = []; negated = []; due = 0; in_tree = true; ends = set b a (Some true) ∷ set b a (Some false) ∷ rest })
  -- a leaf by a clause or a lemma whose literals are all false
  clause : (s : State) (line : CertLine) (k : ℕ) (b : Branch) (rest : List Branch) (literals : List ℤ) → s.due ≡ 0 → line.kind ≡ C → line.numbers ≡ pos k ∷ [] → branches s ≡ b ∷ rest → slice_get clauses.clauses k ≡ Some literals → AreFalseOn b literals
      → Moves clauses s line (record { atoms = s.atoms; lemmas = s.lemmas; rows = []; negated = []; due = 0; in_tree = true; ends = rest })
  lemma : (s : State) (line : CertLine) (k : ℕ) (b : Branch) (rest : List Branch) (literals : List ℤ) → s.due ≡ 0 → line.kind ≡ M → line.numbers ≡ pos k ∷ [] → branches s ≡ b ∷ rest → slice_get s.lemmas k ≡ Some (Some literals) → AreFalseOn b literals
      → Moves clauses s line (record { atoms = s.atoms; lemmas = s.lemmas; rows = []; negated = []; due = 0; in_tree = true; ends = rest })

-- the lines make the second state of the first, one after the other
pub data MovesOn (clauses : Clauses) : State → List CertLine → State → Type 0 where
  none : (s : State) → MovesOn clauses s [] s
  more : (s t u : State) (lines : List CertLine) (line : CertLine) → MovesOn clauses s lines t → Moves clauses t line u → MovesOn clauses s (lines ++ line ∷ []) u
