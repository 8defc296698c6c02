use Rattle.std.proofs.Common.{take}
use Rattle.std.specs.Prelude.{All}
use Rattle.jesc_linear.specs.Forms.{IsNonzero}
use Rattle.jesc_linear.proofs.steps.are_nonzero.Given as goal

abbrev pub invariant-loop-part : goal.invariant-loop-part
invariant-loop-part l = All IsNonzero (take l.part-index l.form)
