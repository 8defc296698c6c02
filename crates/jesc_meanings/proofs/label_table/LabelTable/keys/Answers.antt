use Rattle.std.proofs.Common.{None, ◌∙◌, ap, get_or, map, sym}
use Rattle.std.proofs.lemmas.List.{get_or-map}
use Rattle.jesc_meanings.specs.Labels.{first_labelled, found_in, key_by, seen}
use Rattle.jesc_meanings.proofs.Labelling.{key_same, keys_more}
use Rattle.jesc_meanings.proofs.label_table.LabelTable.keys.Goals as goal

pub loop-i-preserved : goal.loop-i-preserved
loop-i-preserved c =
    let labels = c.args.labels.now in
    let i = c.loop-i.i in
    let label = get_or labels i None in
    let is =
    c.key.ensures ∙ key_same (found_in c.args.self.now.names c.args.self.now.rows.items) (λ k. first_labelled k (map seen labels)) i (seen label) c.requires.table.each
    ∙ ap (key_by (λ k. first_labelled k (map seen labels)) i) (sym (get_or-map seen labels i None None c.loop-i-test.true)) in
    keys_more (map seen labels) i c.loop-i.keys c.push.new.self c.key.result c.in_ok-push.ensures.ok is c.loop-i.invariant
