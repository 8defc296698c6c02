use Rattle.std.proofs.Common.{◌≡◌, max, drop}
use Rattle.jesc_linear.specs.Sums.{end_of}
use Rattle.jesc_linear.proofs.point.end_of.Given as goal

abbrev pub invariant-loop-part : goal.invariant-loop-part
invariant-loop-part l = end_of l.form ≡ max l.end (end_of (drop l.part-index l.form))
