use Rattle.std.proofs.Common.{◌≡◌, drop}
use Rattle.jesc_linear.specs.Marks.{mark_from}
use Rattle.jesc_linear.proofs.marks.mark_of.Given as goal

abbrev pub invariant-loop-part : goal.invariant-loop-part
invariant-loop-part l = mark_from 0 l.form ≡ mark_from l.mark (drop l.part-index l.form)
