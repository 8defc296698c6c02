use Rattle.std.proofs.Common.{take}
use Rattle.std.specs.Prelude.{All}
use Rattle.jesc_linear.specs.Steps.{IsNarrow}
use Rattle.jesc_linear.proofs.steps.are_narrow.Given as goal

abbrev pub invariant-loop-part : goal.invariant-loop-part
invariant-loop-part l = All IsNarrow (take l.part-index l.form)
