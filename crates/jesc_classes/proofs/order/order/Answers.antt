use Rattle.jesc_classes.proofs.Rounds.{begins, none_left, stops, is_ready, popped, gives_more, fewer}
use Rattle.jesc_classes.proofs.order.order.Goals as goal

pub loop-class-init : goal.loop-class-init
loop-class-init c = begins c.args.graph.now c.in_ok-progress.progress c.in_ok-progress.ensures.order c.in_ok-progress.ensures.sized c.in_ok-progress.ensures.keeps

pub release-requires-clause-class : goal.release-requires-clause-class
release-requires-clause-class c = is_ready c.args.graph.now c.loop-class.progress c.loop-class.invariant c.in-Some.class c.pop_first.new.self.keys c.in-Some.ensures.removal c.in-Some.ensures.all_above

pub release-requires-clause-keeps : goal.release-requires-clause-keeps
release-requires-clause-keeps c = popped c.args.graph.now c.loop-class.progress c.loop-class.invariant c.in-Some.class c.pop_first.new.self.keys c.in-Some.ensures.removal c.in-Some.ensures.all_above

pub loop-class-smaller : goal.loop-class-smaller
loop-class-smaller c =
    fewer c.args.graph.now c.loop-class.progress c.loop-class.invariant c.in-Some.class c.pop_first.new.self.keys c.in-Some.ensures.removal c.in-Some.ensures.all_above c.release.new.self.order c.in_ok-release.ensures.order

pub loop-class-preserved : goal.loop-class-preserved
loop-class-preserved c =
    gives_more c.args.graph.now c.loop-class.progress c.loop-class.invariant c.in-Some.class c.pop_first.new.self.keys c.in-Some.ensures.removal c.in-Some.ensures.all_above c.release.new.self c.in_ok-release.ensures.order
    c.in_ok-release.ensures.sized c.in_ok-release.ensures.keeps

pub returns : goal.returns
returns c = ∣ stops c.args.graph.now c.loop-class.progress c.loop-class.invariant (none_left c.pop_first.result c.loop-class.progress.ready.keys c.pop_first.ensures.variant c.in_default.not-Some) ∣₁
