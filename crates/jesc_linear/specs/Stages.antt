-- What a stage of the code leaves of the table.
use Rattle.std.specs.Prelude.{◌≡◌, ℕ, List, filter, Result, Ok, Err}
use Rattle.jesc_linear.specs.declared.rows.LinStep.{LinStep}
use Rattle.jesc_linear.specs.declared.stop.Stop.{Stop}
use Rattle.jesc_linear.specs.declared.stage.Stage.{Stage}
use Rattle.jesc_linear.specs.Elimination as elimination
use Rattle.jesc_linear.specs.Elimination.{Table, has_term, without}
use Rattle.jesc_linear.specs.Tables.{IsEnd, entries_of}

-- the stage holds the rows with the term, the table after it has the others
pub record IsStage (log : List LinStep) (term : ℕ) (before after : Table) (stage : Stage) : Type 0 where
  pub summed : Table
  pub course : elimination.stage term before ≡ Ok summed
  pub left : after ≡ without term summed
  pub own : stage.term ≡ term
  pub held : entries_of log stage.held.items ≡ filter (has_term term) summed.entries

-- a stage, or how it ends
abbrev pub GivesStage : List LinStep → ℕ → Table → Table → Result Stage Stop → Type 0
GivesStage log term before after (Ok stage) = IsStage log term before after stage
GivesStage log term before after (Err stop) = IsEnd log stop (elimination.stage term before)
