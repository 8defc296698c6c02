use Rattle.std.proofs.Common.{◌-◌, List, map, sym, subst, OnOk}
use Rattle.std.proofs.lemmas.Result.{on_ok_weaker}
use Rattle.jesc_classes.specs.Sources.{seen}
use Rattle.jesc_classes.specs.laws.Lawful.{each_at}
use Rattle.jesc_names.specs.Program.{Callable, callable_in, generated_for, joined}
use Rattle.jesc_names.specs.TablesKnown.{IsReady}
use Rattle.jesc_names.specs.TablesRows.{Adds}
use Rattle.jesc_names.proofs.TablesMethods.{adds_both, class_there, callables_given}
use Rattle.jesc_names.proofs.method_table.add_all.Goals as goal

pub add_generated-requires-clause-ready : goal.add_generated-requires-clause-ready
add_generated-requires-clause-ready c =
    let given = c.args.names.classes.now in
    let x = c.index-list-number.result in
    each_at (IsReady given) given (c.args.number - 7) (seen x) c.requires.ready (class_there c.list.result.now given c.args.number x c.list.ensures c.if-number-lt7.false c.requires.within c.index-list-number.is)

pub add_members-requires-clause-ready : goal.add_members-requires-clause-ready
add_members-requires-clause-ready c =
    let given = c.args.names.classes.now in
    let x = c.index-list-number.result in
    each_at (IsReady given) given (c.args.number - 7) (seen x) c.requires.ready (class_there c.list.result.now given c.args.number x c.list.ensures c.if-number-lt7.false c.requires.within c.index-list-number.is)

pub returns : goal.returns
returns c =
    let given = c.args.names.classes.now in
    let order = c.args.names.order.now in
    let n = c.args.number in
    let x = c.index-list-number.result in
    let s = seen x in
    let at = class_there c.list.result.now given n x c.list.ensures c.if-number-lt7.false c.requires.within c.index-list-number.is in
    let own = joined (map (λ m. callable_in n s m.node) s.tree.members) in
    subst (λ (ks : List Callable). OnOk c.add_members.result (Adds given order ks c.args.methods.now c.add_members.new.methods)) (sym (callables_given given n s c.if-number-lt7.false at))
    (on_ok_weaker c.add_members.result (λ more. adds_both given order (generated_for n s) own c.args.methods.now c.add_generated.new.methods c.add_members.new.methods c.in_ok-add_generated.ensures more) c.add_members.ensures)
