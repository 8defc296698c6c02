use Rattle.jesc_names.proofs.TablesRising.{begins, rises, fewer, stops, none_left}
use Rattle.jesc_names.proofs.members.rising.Goals as goal

pub loop-id-init : goal.loop-id-init
loop-id-init c = begins c.args.set.now.keys c.new-rising.result c.new-rising.ensures

pub loop-id-smaller : goal.loop-id-smaller
loop-id-smaller c = fewer c.args.set.now.keys c.loop-id.rising c.loop-id.set.keys c.loop-id.invariant (record { 0 = c.in-Some.id }) c.pop_first.new.self.keys c.in-Some.ensures.removal c.in-Some.ensures.all_above

pub loop-id-preserved : goal.loop-id-preserved
loop-id-preserved c =
    rises c.args.set.now.keys c.loop-id.rising c.loop-id.set.keys c.loop-id.invariant (record { 0 = c.in-Some.id }) c.pop_first.new.self.keys c.in-Some.ensures.removal c.in-Some.ensures.all_above
    c.push.new.self c.in_ok-push.ensures.ok

pub returns : goal.returns
returns c = stops c.args.set.now.keys c.loop-id.rising c.loop-id.set.keys c.loop-id.invariant (none_left c.pop_first.result c.loop-id.set.keys c.pop_first.ensures.variant c.in_default.not-Some)
