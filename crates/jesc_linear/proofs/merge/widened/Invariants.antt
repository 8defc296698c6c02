use Rattle.std.proofs.Common.{◌≡◌, take}
use Rattle.jesc_linear.proofs.merge.widened.Given as goal

abbrev pub invariant-loop-part : goal.invariant-loop-part
invariant-loop-part l = l.wide.items ≡ take l.part-index l.form
