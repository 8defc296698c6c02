-- How the answers to a method's checks follow from the elimination of its lists of rows.
use Rattle.std.specs.Prelude.{◌≡◌, ◌≢◌, ◌⊎◌, ℕ, ℤ, List, [], ◌∷◌, Ok, Err}
use Rattle.jesc_linear.specs.declared.rows.Row.{Row}
use Rattle.jesc_linear.specs.Rows.{MeetsAll, HaveNoSolution}
use Rattle.jesc_linear.specs.Courses.{Entry}
use Rattle.jesc_linear.specs.Courses.Ending.{refuted, wide_forms, wide_pairs, wide_number, gap}
use Rattle.jesc_linear.specs.Elimination.{Decides, Values}
use Rattle.jesc_engine.specs.declared.answer.Answer.{Answer}
use Rattle.jesc_engine.specs.declared.answer.Answer.TheVariants.{Proved, Open, WideForms, WidePairs, WideNumber, Gap}
use Rattle.jesc_engine.specs.declared.answer.Finding.{Finding}
use Rattle.jesc_engine.specs.Ways.{Obligation}

-- some whole numbers meet the rows
abbrev pub HasSolution : List Row → Type 0
HasSolution rows = (v : ℕ → ℤ) × MeetsAll v rows

-- the elimination of the rows comes to this answer
abbrev pub ComesTo : List Row → Answer → Type 0
ComesTo rows Proved = Decides rows (Err refuted) × HaveNoSolution rows
ComesTo rows Open = (values : Values) × Decides rows (Ok values) × HasSolution rows
ComesTo rows (WideForms n) = Decides rows (Err (wide_forms n))
ComesTo rows (WidePairs n) = Decides rows (Err (wide_pairs n))
ComesTo rows (WideNumber z) = Decides rows (Err (wide_number z))
ComesTo rows Gap = (first : Entry) × (second : Entry) × Decides rows (Err (gap first second))

-- Of the ways in which a check can fail, in order, the first that isn't refuted gives the answer; Proved where each one is.
abbrev pub Answers : List (List Row) → Answer → Type 0
Answers [] answer = answer ≡ Proved
Answers (rows ∷ ways) answer = ((answer ≢ Proved) × ComesTo rows answer) ⊎ (ComesTo rows Proved × Answers ways answer)

-- a finding for each obligation, in order
abbrev pub AnswerAll : List Obligation → List Finding → Type 0
AnswerAll [] [] = Unit {0}
AnswerAll [] (finding ∷ findings) = ⊥
AnswerAll (obligation ∷ obligations) [] = ⊥
AnswerAll (obligation ∷ obligations) (finding ∷ findings) =
    (finding.check ≡ obligation.check) × Answers obligation.ways finding.answer × AnswerAll obligations findings
