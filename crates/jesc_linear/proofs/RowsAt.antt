-- The rows of the log by their places.
use Rattle.std.proofs.Common.{◌≡◌, ℕ, zero, suc, ◌≤◌, List, [], ◌∷◌, length, pos, Result, Ok, Err, IfOk, refl, sym, ◌∙◌, arith}
use Rattle.jesc_linear.specs.declared.rows.Row.{Row}
use Rattle.jesc_linear.specs.declared.rows.LinStep.{LinStep}
use Rattle.jesc_linear.specs.Tables.{row_at}

pub row_past : (log : List LinStep) (at : ℕ) → length log ≤ at → row_at log at ≡ (let none : Row = record { form = []; bound = pos 0 } in none)
row_past [] at l = refl
row_past (first ∷ log) zero l = absurd (omega arith)
row_past (first ∷ log) (suc at) l = row_past log at (omega arith)

pub copy_is : {E : Type 0} (row other : Row) (r : Result Row E) → other ≡ row → IfOk r (λ copy. copy ≡ row) → IfOk r (λ copy. copy ≡ other)
copy_is row other (Ok copy) e h = h ∙ sym e
copy_is row other (Err x) e h = tt
