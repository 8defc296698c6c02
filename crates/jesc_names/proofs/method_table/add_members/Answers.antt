use Rattle.std.proofs.Common.{◌<◌, ◌≡◌, List, length, get_or, subst}
use Rattle.jesc_ast.specs.declared.class.MemberTree.{MemberTree}
use Rattle.jesc_ast.specs.declared.class.MemberNode.{MemberNode}
use Rattle.jesc_classes.specs.Sources.{seen}
use Rattle.jesc_names.specs.Program.{callable_in}
use Rattle.jesc_names.specs.TablesRows.{Adds}
use Rattle.jesc_names.proofs.TablesMethods.{adds_more}
use Rattle.jesc_names.proofs.method_table.add_members.Goals as goal

pub loop-member-preserved : goal.loop-member-preserved
loop-member-preserved c =
    let given = c.args.names.classes.now in
    let order = c.args.names.order.now in
    let s = seen c.args.class in
    let i = c.loop-member.member-index in
    let m = c.member-item.result in
    let inner = subst (λ (ms : List MemberTree). i < length ms) c.as_slice-member-items.ensures c.loop-member-test.true in
    let is = subst (λ (ms : List MemberTree). m ≡ get_or ms i m) c.as_slice-member-items.ensures c.member-item.is in
    adds_more given order (λ x. callable_in c.args.number s x.node) s.tree.members i m c.args.methods.now c.loop-member.methods c.add_member.new.methods inner is c.loop-member.invariant
    (subst (λ (x : MemberNode). Adds given order (callable_in c.args.number s x) c.loop-member.methods c.add_member.new.methods) c.get.ensures c.in_ok-add_member.ensures)
