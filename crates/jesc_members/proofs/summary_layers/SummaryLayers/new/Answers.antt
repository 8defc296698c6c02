use Rattle.std.proofs.Common.{get_or, map, arith}
use Rattle.jesc_members.specs.Seen.{seen_method}
use Rattle.jesc_lookup.specs.laws.Layers.{extra_within}
use Rattle.jesc_members.proofs.SummaryLines.{all_done, class_done, none_done}
use Rattle.jesc_members.proofs.summary_layers.SummaryLayers.new.Goals as goal

pub loop-class-init : goal.loop-class-init
loop-class-init c =
    let v = c.in_ok-versions.ensures in
    none_done (map seen_method c.args.methods.now) c.args.keys.now c.args.rows.now c.args.graph.now c.args.order.now c.requires.order c.in_ok-versions.versions _ c.in_ok-above.above.items c.in_ok-whole.whole.items v.0 (omega (arith, v.1)) v.2
    c.in_ok-above.ensures c.in_ok-whole.ensures

pub add-requires-clause-within : goal.add-requires-clause-within
add-requires-clause-within c =
    let l = c.requires.order.below c.loop-class.class-index c.loop-class-test.true in
    extra_within c.args.graph.now c.args.order.now c.requires.order c.args.extras.now c.requires.extras (get_or c.args.order.now c.loop-class.class-index 0) l

pub add-requires-clause-whole : goal.add-requires-clause-whole
add-requires-clause-whole c = c.loop-class.invariant.whole_count

pub add-requires-clause-layers : goal.add-requires-clause-layers
add-requires-clause-layers c = c.loop-class.invariant.above_count

pub add-requires-clause-store : goal.add-requires-clause-store
add-requires-clause-store c = c.loop-class.invariant.store

pub add-requires-clause-held : goal.add-requires-clause-held
add-requires-clause-held c = c.loop-class.invariant.held

pub loop-class-preserved : goal.loop-class-preserved
loop-class-preserved c =
    class_done (map seen_method c.args.methods.now) c.args.keys.now c.args.rows.now c.args.graph.now c.args.order.now c.requires.order c.loop-class.layers.versions c.loop-class.layers.summaries c.loop-class.layers.above.items c.loop-class.whole.items
    c.args.extras.now c.requires.extras c.loop-class.class-index c.loop-class-test.true c.add.new.self.versions c.add.new.self.summaries c.add.new.self.above.items c.add.new.whole.items c.loop-class.invariant c.in_ok-add.ensures c.requires.items

pub returns : goal.returns
returns c =
    all_done (map seen_method c.args.methods.now) c.args.keys.now c.args.rows.now c.args.graph.now c.args.order.now c.requires.order c.loop-class.layers.versions c.loop-class.layers.summaries c.loop-class.layers.above.items c.loop-class.whole.items
    c.loop-class.class-index c.loop-class-test.false c.loop-class.invariant
