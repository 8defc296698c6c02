use Rattle.std.proofs.Common.{◌<◌, map, length, sym, subst}
use Rattle.jesc_lookup.specs.Layers.{AreItems, AreLayersOf}
use Rattle.jesc_meanings.specs.Labels.{seen}
use Rattle.jesc_meanings.proofs.Layering.{are_items, knows_members}
use Rattle.jesc_meanings.proofs.members.Members.new.Goals as goal

pub new-requires-2-clause-items : goal.new-requires-2-clause-items
new-requires-2-clause-items c =
    let graph = c.args.graph.now in
    let rows = c.args.rows.now in
    subst (λ ks. AreItems (length graph) ks rows) (sym c.as_slice.ensures) (are_items graph (map seen c.args.labels.now) rows c.in_ok-keys.keys c.in_ok-keys.ensures c.requires.rows)

pub returns : goal.returns
returns c =
    let graph = c.args.graph.now in
    let rows = c.args.rows.now in
    let table = c.in_ok-table.table in
    let layers = c.in_ok-layers.layers in
    knows_members graph c.args.order.now c.requires.order (map seen c.args.labels.now) rows table.names table.rows.items c.in_ok-keys.keys layers.versions layers.of.items
    c.in_ok-table.ensures c.in_ok-keys.ensures c.requires.rows (subst (λ ks. AreLayersOf (λ class. class < length graph) graph ks rows layers.versions layers.of.items) c.as_slice.ensures c.in_ok-layers.ensures)
