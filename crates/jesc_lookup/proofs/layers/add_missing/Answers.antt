use Rattle.std.proofs.Common.{length, subst}
use Rattle.std.proofs.lemmas.List.{take_all}
use Rattle.jesc_lookup.specs.Lines.{or_else}
use Rattle.jesc_lookup.specs.Layers.{Steps, first_keyed}
use Rattle.jesc_lookup.specs.laws.Steps.{added}
use Rattle.jesc_lookup.proofs.layers.add_missing.Goals as goal

pub add_one-requires-clause-version : goal.add_one-requires-clause-version
add_one-requires-clause-version c = c.loop-item.invariant.there

pub loop-item-preserved : goal.loop-item-preserved
loop-item-preserved c =
    added c.args.keys.now c.args.versions.now c.args.version c.loop-item.versions c.loop-item.version c.args.row.now c.loop-item.item-index c.loop-item-test.true c.add_one.new.versions c.in_ok-version.version c.in_ok-version.ensures c.loop-item.invariant

pub returns : goal.returns
returns c =
    subst (λ row. Steps (length c.args.keys.now) c.args.versions.now c.args.version c.loop-item.versions c.loop-item.version (λ key old. or_else old (first_keyed c.args.keys.now key row))) (take_all c.loop-item.item-index c.args.row.now c.loop-item-test.false) c.loop-item.invariant
