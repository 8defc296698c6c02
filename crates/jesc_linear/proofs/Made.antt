-- The rows of a log of steps.
use Rattle.std.proofs.Common.{ℕ, zero, suc, ◌<◌, ◌++◌, List, [], ◌∷◌, length, get_or, Option, Some, None, arith}
use Rattle.std.specs.Prelude.{slice_get}
use Rattle.jesc_linear.specs.declared.rows.Row.{Row}
use Rattle.jesc_linear.specs.declared.rows.LinStep.{LinStep}
use Rattle.jesc_linear.specs.Steps.{IsRow, DerivesFrom, AreSteps}

made_row : (first second : Option Row) (step : LinStep) → DerivesFrom first second step → IsRow step.row
made_row (Some first) (Some second) step h = h.made_row
made_row (Some first) None step h = absurd h
made_row None second step h = absurd h

-- each is one that steps may use
pub rows_made : (earlier : List Row) (log : List LinStep) → AreSteps earlier log → (k : ℕ) (d : LinStep) → k < length log → IsRow (get_or log k d).row
rows_made earlier [] h k d l = absurd (omega arith)
rows_made earlier (step ∷ log) h zero d l = made_row (slice_get earlier step.i) (slice_get earlier step.j) step h.0
rows_made earlier (step ∷ log) h (suc k) d l = rows_made (earlier ++ step.row ∷ []) log h.1 k d (omega arith)
