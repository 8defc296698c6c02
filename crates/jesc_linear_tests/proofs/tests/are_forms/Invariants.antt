use Rattle.std.proofs.Common.{take}
use Rattle.std.specs.Prelude.{All}
use Rattle.jesc_linear.specs.Forms.{IsForm}
use Rattle.jesc_linear_tests.proofs.tests.are_forms.Given as goal

abbrev pub invariant-loop-row : goal.invariant-loop-row
invariant-loop-row l = All (λ row. IsForm row.form) (take l.row-index l.rows)
