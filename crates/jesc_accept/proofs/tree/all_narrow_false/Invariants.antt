use Rattle.std.proofs.Common.{All, take}
use Rattle.jesc_accept.specs.Branches.{IsFalseOn}
use Rattle.jesc_accept.proofs.tree.all_narrow_false.Given as goal

abbrev pub invariant-loop-literal : goal.invariant-loop-literal
invariant-loop-literal l = All (IsFalseOn l.values) (take l.literal-index l.literals)
