use Rattle.std.proofs.Common.{◌∙◌, [], length, get_or, subst}
use Rattle.std.proofs.lemmas.List.{take_all, get_or_default}
use Rattle.jesc_lookup.specs.Lines.{or_else, first_in}
use Rattle.jesc_lookup.specs.Layers.{Steps, first_keyed, own_keyed}
use Rattle.jesc_lookup.specs.laws.Steps.{row_added}
use Rattle.jesc_lookup.proofs.layers.add_extra.Goals as goal

pub add_missing-requires-clause-version : goal.add_missing-requires-clause-version
add_missing-requires-clause-version c = c.loop-class.invariant.there

pub loop-class-preserved : goal.loop-class-preserved
loop-class-preserved c =
    let keys = c.args.keys.now in
    let rows = c.args.rows.now in
    let class = get_or c.args.classes.now c.loop-class.class-index 0 in
    let inside = c.requires.within c.loop-class.class-index 0 c.loop-class-test.true in
    let is = c.as_slice-row.ensures ∙ (c.index-rows-class.is ∙ get_or_default rows class c.index-rows-class.result [] inside) in
    row_added keys c.args.versions.now c.args.version c.loop-class.versions c.loop-class.version c.args.classes.now c.loop-class.class-index c.loop-class-test.true rows c.args.classes.now c.loop-class.class-index c.add_missing.new.versions c.in_ok-version.version
    c.loop-class-test.true
    (subst (λ row. Steps (length keys) c.loop-class.versions c.loop-class.version c.add_missing.new.versions c.in_ok-version.version (λ k o. or_else o (first_keyed keys k row))) is c.in_ok-version.ensures) c.loop-class.invariant

pub returns : goal.returns
returns c =
    subst (λ cs. Steps (length c.args.keys.now) c.args.versions.now c.args.version c.loop-class.versions c.loop-class.version (λ key old. or_else old (first_in (own_keyed c.args.keys.now c.args.rows.now key) cs))) (take_all c.loop-class.class-index c.args.classes.now c.loop-class-test.false) c.loop-class.invariant
