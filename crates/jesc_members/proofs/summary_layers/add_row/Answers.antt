use Rattle.std.proofs.Common.{◌<◌, ◌∷◌, [], length, get_or, map, subst, sym, take}
use Rattle.std.proofs.lemmas.List.{take_all, take_more}
use Rattle.std.proofs.lemmas.List.Elements.{All-take}
use Rattle.jesc_members.specs.Seen.{seen_method}
use Rattle.jesc_members.specs.SummaryKnown.{Adds}
use Rattle.jesc_members.proofs.SummarySteps.{adds_both, adds_none, held_after}
use Rattle.jesc_members.proofs.summary_layers.add_row.Goals as goal

pub loop-method-init : goal.loop-method-init
loop-method-init c = adds_none (map seen_method c.args.methods.now) c.args.keys.now c.args.versions.now c.args.summaries.now c.args.above c.requires.store

pub add_one-requires-clause-store : goal.add_one-requires-clause-store
add_one-requires-clause-store c = c.loop-method.invariant.grows.store

pub add_one-requires-clause-held : goal.add_one-requires-clause-held
add_one-requires-clause-held c =
    let i = c.loop-method.method-index in
    held_after (map seen_method c.args.methods.now) c.args.keys.now c.args.versions.now c.args.summaries.now c.args.above c.loop-method.versions c.loop-method.summaries c.loop-method.above (take i c.args.row.now)
    c.loop-method.invariant (All-take (λ x. x < length c.args.keys.now) i c.args.row.now c.requires.row) c.requires.held

pub loop-method-preserved : goal.loop-method-preserved
loop-method-preserved c =
    let methods = map seen_method c.args.methods.now in
    let row = c.args.row.now in
    let i = c.loop-method.method-index in
    subst (λ xs. Adds methods c.args.keys.now c.args.versions.now c.args.summaries.now c.args.above c.add_one.new.versions c.add_one.new.summaries c.in_ok-above.above xs) (sym (take_more row i 0 c.loop-method-test.true))
    (adds_both methods c.args.keys.now c.args.versions.now c.args.summaries.now c.args.above c.loop-method.versions c.loop-method.summaries c.loop-method.above c.add_one.new.versions c.add_one.new.summaries c.in_ok-above.above
    (take i row) (get_or row i 0 ∷ []) c.loop-method.invariant c.in_ok-above.ensures)

pub returns : goal.returns
returns c =
    subst (λ xs. Adds (map seen_method c.args.methods.now) c.args.keys.now c.args.versions.now c.args.summaries.now c.args.above c.loop-method.versions c.loop-method.summaries c.loop-method.above xs)
    (take_all c.loop-method.method-index c.args.row.now c.loop-method-test.false) c.loop-method.invariant
