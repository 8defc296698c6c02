use Rattle.std.proofs.Common.{sym, subst, OnOk}
use Rattle.std.proofs.lemmas.Result.{on_ok_weaker}
use Rattle.jesc_ast.specs.declared.class.MethodTree.{MethodTree}
use Rattle.jesc_ast.specs.declared.class.ConstructorTree.{ConstructorTree}
use Rattle.jesc_ast.specs.declared.class.MemberNode.{MemberNode}
use Rattle.jesc_classes.specs.Sources.{seen}
use Rattle.jesc_names.specs.Program.{callable_in, written_method, written_constructor, IsWrittenMethod, IsWrittenConstructor}
use Rattle.jesc_names.specs.TablesRows.{Adds}
use Rattle.jesc_names.proofs.TablesMethods.{adds_one}
use Rattle.jesc_names.proofs.method_table.add_member.Goals as goal

pub returns-in_ok-written_method-in-Method : goal.returns-in_ok-written_method-in-Method
returns-in_ok-written_method-in-Method c =
    let given = c.args.names.classes.now in
    let order = c.args.names.order.now in
    let n = c.args.number in
    let s = seen c.args.class in
    let x = c.in_ok-written_method-in-Method.field-0 in
    let tree = c.in-Method.tree in
    subst (λ (m : MemberNode). OnOk c.push.result (Adds given order (callable_in n s m) c.args.methods.now c.push.new.self)) (sym c.in-Method.is)
    (on_ok_weaker c.push.result (λ e. adds_one given order (written_method n s tree) x c.args.methods.now c.push.new.self
    (subst (λ (m : MethodTree). IsWrittenMethod given order n s m x) c.get.ensures c.in_ok-written_method-in-Method.ensures) e) c.push.ensures.ok)

pub returns-in_ok-written_constructor-in-Constructor : goal.returns-in_ok-written_constructor-in-Constructor
returns-in_ok-written_constructor-in-Constructor c =
    let given = c.args.names.classes.now in
    let order = c.args.names.order.now in
    let n = c.args.number in
    let s = seen c.args.class in
    let x = c.in_ok-written_constructor-in-Constructor.field-0 in
    let tree = c.in-Constructor.tree in
    subst (λ (m : MemberNode). OnOk c.push-in-Constructor.result (Adds given order (callable_in n s m) c.args.methods.now c.push-in-Constructor.new.self)) (sym c.in-Constructor.is)
    (on_ok_weaker c.push-in-Constructor.result (λ e. adds_one given order (written_constructor n s tree) x c.args.methods.now c.push-in-Constructor.new.self
    (subst (λ (m : ConstructorTree). IsWrittenConstructor given order n s m x) c.get-in-Constructor.ensures c.in_ok-written_constructor-in-Constructor.ensures) e) c.push-in-Constructor.ensures.ok)
