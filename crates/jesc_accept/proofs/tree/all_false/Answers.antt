use Rattle.std.proofs.Common.{pos, subst, All, refl}
use Rattle.std.proofs.lemmas.List.{take_all}
use Rattle.std.proofs.lemmas.List.Elements.{All-more}
use Rattle.jesc_accept.specs.Branches.{IsFalseOn}
use Rattle.jesc_accept.proofs.tree.all_false.Goals as goal

pub loop-literal-preserved : goal.loop-literal-preserved
loop-literal-preserved c =
    All-more (IsFalseOn c.args.values.now) c.args.literals.now c.loop-literal.literal-index (pos 0) c.loop-literal-test.true c.loop-literal.invariant (c.is_false.ensures.0 c.if-not-is_false.false)

pub returns : goal.returns
returns c =
    ((λ _. subst (All (IsFalseOn c.args.values.now)) (take_all c.loop-literal.literal-index c.args.literals.now c.loop-literal-test.false) c.loop-literal.invariant), (λ _. refl))
