use Rattle.std.proofs.Common.{◌≡◌, drop}
use Rattle.jesc_linear.specs.Elimination.{same_form}
use Rattle.jesc_linear.proofs.entry.is_same_form.Given as goal

abbrev pub invariant-loop-k : goal.invariant-loop-k
invariant-loop-k l = same_form l.first l.second ≡ same_form (drop l.k l.first) (drop l.k l.second)
