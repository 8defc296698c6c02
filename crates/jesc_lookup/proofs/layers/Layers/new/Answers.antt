use Rattle.std.proofs.Common.{get_or, arith}
use Rattle.jesc_lookup.specs.laws.Layers.{all_layers, extra_within, layer_added, no_layers}
use Rattle.jesc_lookup.proofs.layers.Layers.new.Goals as goal

pub loop-class-init : goal.loop-class-init
loop-class-init c =
    let v = c.in_ok-new.ensures in
    no_layers c.args.graph.now c.args.order.now c.requires.order c.args.keys.now c.args.rows.now c.in_ok-new.field-0 c.in_ok-zeros.field-0.items v.0 (omega (arith, v.1)) v.2 c.in_ok-zeros.ensures

pub add-requires-clause-within : goal.add-requires-clause-within
add-requires-clause-within c =
    let l = c.requires.order.below c.loop-class.class-index c.loop-class-test.true in
    extra_within c.args.graph.now c.args.order.now c.requires.order c.args.extras.now c.requires.extras (get_or c.args.order.now c.loop-class.class-index 0) l

pub add-requires-clause-count : goal.add-requires-clause-count
add-requires-clause-count c = c.loop-class.invariant.count

pub add-requires-clause-sized : goal.add-requires-clause-sized
add-requires-clause-sized c = c.loop-class.invariant.sized

pub add-requires-clause-there : goal.add-requires-clause-there
add-requires-clause-there c = c.loop-class.invariant.there

pub loop-class-preserved : goal.loop-class-preserved
loop-class-preserved c =
    layer_added c.args.graph.now c.args.order.now c.requires.order c.args.keys.now c.args.rows.now c.loop-class.layers.versions c.loop-class.layers.of.items c.args.extras.now c.requires.extras c.loop-class.class-index c.loop-class-test.true
    c.add.new.self.versions c.add.new.self.of.items c.loop-class.invariant c.in_ok-add.ensures

pub returns : goal.returns
returns c =
    all_layers c.args.graph.now c.args.order.now c.requires.order c.args.keys.now c.args.rows.now c.loop-class.layers.versions c.loop-class.layers.of.items c.loop-class.class-index c.loop-class-test.false c.loop-class.invariant
