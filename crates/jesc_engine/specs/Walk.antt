-- Words that only contracts inside the crate use, on the search for the answers.
use Rattle.std.specs.Prelude.{◌≡◌, ◌≢◌, ℕ, ◌<◌, ◌≤◌, ◌^◌, ℤ, pos, unsigned_abs, List, [], ◌∷◌, ◌++◌, length, All, Any}
use Rattle.jesc_linear.specs.declared.rows.Row.{Row}
use Rattle.jesc_linear.specs.Forms.{IsForm}
use Rattle.jesc_linear.specs.declared.outcome.Outcome.{Outcome}
use Rattle.jesc_linear.specs.declared.outcome.Outcome.TheVariants as outcome
use Rattle.jesc_engine.specs.declared.answer.Answer.{Answer}
use Rattle.jesc_engine.specs.declared.answer.Answer.TheVariants.{Proved, Open, WideForms, WidePairs, WideNumber, Gap}
use Rattle.jesc_engine.specs.declared.answer.Finding.{Finding}
use Rattle.jesc_engine.specs.declared.ways.atom.Atom.{Atom}
use Rattle.jesc_engine.specs.declared.ways.atom.Atom.TheVariants.{Number, Term}
use Rattle.jesc_first.specs.declared.tree.Operation.{Operation}
use Rattle.jesc_first.specs.declared.tree.Sum.{Sum}
use Rattle.jesc_engine.specs.Outcomes.{Answers, AnswerAll}
use Rattle.jesc_engine.specs.Ways.{Obligation, Facts, atom_in, no_outcome, facts_after, atom_after, sum_facts, sum_atom}

-- a coefficient that the rows use
pub record IsFactor (a : ℤ) : Type 0 where
  pub small : unsigned_abs a ≤ 2 ^ 31
  pub nonzero : a ≢ pos 0

-- an atom whose term, if it is one, is below this number
abbrev pub IsBelow : ℕ → Atom → Type 0
IsBelow fresh (Number z) = Unit {0}
IsBelow fresh (Term k) = k < fresh

-- The atoms of the slots, and that of the outcome, are below this number.
pub record IsScope (fresh : ℕ) (atoms : List Atom) (outcome : Atom) : Type 0 where
  pub slots : All (IsBelow fresh) atoms
  pub outcome_below : IsBelow fresh outcome

-- rows that may be decided
pub record AreRows (rows : List Row) : Type 0 where
  pub forms : All (λ row. IsForm row.form) rows
  pub few : length rows < 2 ^ 31

-- The facts have grown by a sum, which has this atom.
pub record IsSummed (atoms : List Atom) (outcome : Atom) (before : Facts) (sum : Sum) (made : Atom) (now : Facts) : Type 0 where
  pub atom : made ≡ sum_atom (atom_in atoms outcome) before sum
  pub facts : now ≡ sum_facts (atom_in atoms outcome) before sum
  pub grows : before.fresh ≤ now.fresh
  pub below : IsBelow now.fresh made

-- The facts and the atom lead, over the operations that are left, to the same end as those at the start.
pub record IsSumming (atoms : List Atom) (outcome : Atom) (before : Facts) (first : Atom) (operations : List Operation) (now : Facts) (x : Atom) (rest : List Operation) : Type 0 where
  pub facts : facts_after (atom_in atoms outcome) before first operations ≡ facts_after (atom_in atoms outcome) now x rest
  pub atom : atom_after (atom_in atoms outcome) before first operations ≡ atom_after (atom_in atoms outcome) now x rest
  pub grows : before.fresh ≤ now.fresh
  pub below : IsBelow now.fresh x
  pub scope : IsScope now.fresh atoms outcome

-- the facts have grown to these
pub record IsGrown (before wanted now : Facts) : Type 0 where
  pub same : now ≡ wanted
  pub grows : before.fresh ≤ now.fresh

-- with the ways that had the first answer, these have the second
abbrev pub Continues : Answer → List (List Row) → Answer → Type 0
Continues known more answer = (ways : List (List Row)) → Answers ways known → Answers (ways ++ more) answer

-- the findings grew by those on these obligations
abbrev pub Extends : List Obligation → List Finding → List Finding → Type 0
Extends more before now = (obligations : List Obligation) → AnswerAll obligations before → AnswerAll (obligations ++ more) now

-- The facts and the atoms of the slots after a statement.
pub record IsAfter (before wanted now : Facts) (wanted_atoms atoms : List Atom) : Type 0 where
  pub facts : now ≡ wanted
  pub grows : before.fresh ≤ now.fresh
  pub slots : atoms ≡ wanted_atoms
  pub scope : IsScope now.fresh atoms no_outcome

-- the answer that an outcome gives
abbrev pub answer_of : Outcome → Answer
answer_of (outcome.Refuted steps) = Proved
answer_of (outcome.Point point) = Open
answer_of (outcome.WideForms n) = WideForms n
answer_of (outcome.WidePairs n) = WidePairs n
answer_of (outcome.WideNumber z) = WideNumber z
answer_of (outcome.Gap i first j second) = Gap
