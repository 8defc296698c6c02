use Rattle.std.proofs.Common.{◌≡◌, ◌∙◌, [], get_or, ap, sym}
use Rattle.std.proofs.lemmas.List.{get_or_default}
use Rattle.jesc_lookup.specs.Layers.{first_keyed}
use Rattle.jesc_members.proofs.InheritCounted.{count_pushed}
use Rattle.jesc_members.proofs.method_keys.take_count.Goals as goal

pub returns-in_ok-push-in-None : goal.returns-in_ok-push-in-None
returns-in_ok-push-in-None c =
    let counts = c.args.counts.now in
    let rows = c.args.rows.now.items in
    let name = c.args.name in
    let row = c.index_mut.result.now in
    let is : row ≡ get_or rows name [] = c.index_mut.ensures.value ∙ get_or_default rows name row [] c.requires.name in
    let read : c.as_slice-row.result.now ≡ get_or rows name [] = c.as_slice-row.ensures ∙ (c.index.ensures ∙ get_or_default rows name c.index.result.now [] c.requires.name) in
    count_pushed counts rows name c.args.item row c.requires.name is c.requires.small c.requires.item c.push.new.self c.in_ok-push-in-None.ensures.ok
    (ap (first_keyed counts (get_or counts c.args.item 0)) (is ∙ sym read) ∙ (sym c.first_counted.ensures ∙ c.in-None.is))
