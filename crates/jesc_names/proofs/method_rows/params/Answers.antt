use Rattle.std.proofs.Common.{◌∙◌, ap, codes}
use Rattle.jesc_tree.specs.declared.class.Param.{Param}
use Rattle.jesc_members.specs.Fields.{has}
use Rattle.jesc_names.specs.Program.{IsParam}
use Rattle.jesc_names.proofs.TablesZips.{zip_more}
use Rattle.jesc_names.proofs.method_rows.params.Goals as goal

pub loop-tree-preserved : goal.loop-tree-preserved
loop-tree-preserved c =
    let R = IsParam c.args.names.classes.now c.args.names.order.now in
    let p : Param = record { name = c.in_ok-name.name; ty = c.type_of.result; nullable = c.stands_in.result } in
    zip_more R c.args.trees.now c.loop-tree.params c.push.new.self c.loop-tree.tree-index c.tree-item.result p c.loop-tree-test.true c.tree-item.is c.in_ok-push.ensures.ok c.loop-tree.invariant
    (record { name = c.in_ok-name.ensures; type_of = c.type_of.ensures; nullable = c.stands_in.ensures ∙ ap (has (codes "nullable")) c.as_slice.ensures })
