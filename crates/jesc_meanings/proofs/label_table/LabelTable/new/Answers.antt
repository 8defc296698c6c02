use Rattle.std.proofs.Common.{None, get_or, map, arith, sym}
use Rattle.std.proofs.lemmas.List.{get_or-map, length-map}
use Rattle.jesc_meanings.specs.Labels.{seen}
use Rattle.jesc_meanings.proofs.Labelling.{table_more}
use Rattle.jesc_meanings.proofs.label_table.LabelTable.new.Goals as goal

pub loop-i-preserved : goal.loop-i-preserved
loop-i-preserved c =
    let labels = c.args.labels.now in
    let i = c.loop-i.i in
    table_more (map seen labels) i (omega (arith, c.loop-i-test.true, length-map labels seen)) c.loop-i.table.names c.loop-i.table.rows.items c.add.new.self.names c.add.new.self.rows.items
    (seen (get_or labels i None)) (sym (get_or-map seen labels i None None c.loop-i-test.true)) c.in_ok-add.ensures c.loop-i.invariant
