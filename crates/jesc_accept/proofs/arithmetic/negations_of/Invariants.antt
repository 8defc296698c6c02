use Rattle.std.proofs.Common.{◌≡◌, take}
use Rattle.jesc_accept.specs.Lemmas.{negations}
use Rattle.jesc_accept.proofs.arithmetic.negations_of.Given as goal

abbrev pub invariant-loop-literal : goal.invariant-loop-literal
invariant-loop-literal l = l.negated ≡ negations (take l.literal-index l.literals)
