use Rattle.std.proofs.Common.{◌≡◌, ◌↔◌, ◌∙◌, [], inl, inr, refl, ap, subst, sym, true, false, get_or}
use Rattle.std.specs.List.{list_any}
use Rattle.std.proofs.lemmas.List.{get_or_default}
use Rattle.std.proofs.lemmas.Result.{IfOk-weaker}
use Rattle.jesc_classes.specs.Order.{Above}
use Rattle.jesc_member_rules.specs.Throwables.{AreThrowables}
use Rattle.jesc_member_rules.proofs.GivenThrowables.{all_thrown, any_says, found_thrown, in_graph, one_thrown}
use Rattle.jesc_member_rules.proofs.throwing.throwables.Goals as goal
use Rattle.jesc_member_rules.proofs.throwing.throwables.Goals.{then-is_below, else-is_below}

pub loop-class-preserved : goal.loop-class-preserved
loop-class-preserved c =
    let graph = c.args.graph.now in
    let order = c.args.order.now in
    let done = c.loop-class.class-index in
    let marks = c.loop-class.marks.items in
    let class = get_or order done 0 in
    let xs = c.as_slice-in-loop-class.result.now in
    let row = c.as_slice-in-loop-class.ensures ∙ (c.index-graph-class.is ∙ get_or_default graph class c.index-graph-class.result [] (in_graph graph order c.requires done marks c.loop-class.invariant c.loop-class-test.true)) in
    let below = c.is_one_marked-is_below.result in
    let is = c.is_one_marked-is_below.ensures ∙ ap (λ ms. list_any (λ x. get_or ms x false) xs) c.as_slice.ensures.value ∙ ap (list_any (λ x. get_or marks x false)) row in
    let says = subst (λ b. (b ≡ true) ↔ Above graph class 1) (sym is) (any_says graph order c.requires done marks c.loop-class.invariant c.loop-class-test.true) in
    one_thrown graph order c.requires done marks c.loop-class.invariant c.loop-class-test.true c.if-is_below.is_thrown
    (found_thrown graph class below says c.if-is_below.is_thrown (elim c.if-is_below.branch [
      | then-is_below w ↦ inl (w.if-is_below.true, w.is_thrown-is ∙ w.if-is_below.true)
      | else-is_below w ↦ inr (w.if-is_below.false, w.is_thrown-is)
    ])) _ refl

pub returns : goal.returns
returns c =
    IfOk-weaker c.listed.result _ (AreThrowables c.args.graph.now) (λ list e. all_thrown c.args.graph.now c.args.order.now c.requires c.loop-class.class-index c.loop-class.marks.items list c.loop-class.invariant c.loop-class-test.false (e ∙ c.as_slice-2.ensures.value))
    c.listed.ensures
