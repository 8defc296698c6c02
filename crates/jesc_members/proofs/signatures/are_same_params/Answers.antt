use Rattle.std.proofs.Common.{◌∙◌, sym, true≢false}
use Rattle.jesc_members.proofs.InheritTyped.{typed_more, typed_there}
use Rattle.jesc_members.proofs.signatures.are_same_params.Goals as goal

pub returns-then-not-is_same_param : goal.returns-then-not-is_same_param
returns-then-not-is_same_param c = (
  λ t. absurd (true≢false (sym t)),
  λ e. sym c.if-not-is_same_param.true ∙ c.is_same_param.ensures.1 (typed_there c.args.a.now c.args.b.now c.loop-i.i c.index-a-i.result c.index-b-i.result c.loop-i-test.true c.if-a-b.false c.index-a-i.is c.index-b-i.is e),
)

pub loop-i-preserved : goal.loop-i-preserved
loop-i-preserved c =
    typed_more c.args.a.now c.args.b.now c.loop-i.i c.index-a-i.result c.index-b-i.result c.loop-i-test.true c.if-a-b.false c.index-a-i.is c.index-b-i.is (c.is_same_param.ensures.0 c.if-not-is_same_param.false) c.loop-i.invariant
