use Rattle.std.proofs.Common.{ℕ, List, subst}
use Rattle.std.proofs.lemmas.Result.{on_ok_weaker}
use Rattle.jesc_tree.specs.Programs.{nowhere}
use Rattle.jesc_names.specs.Program.{predefined_one, IsUnwritten}
use Rattle.jesc_names.proofs.TablesMethods.{adds_one}
use Rattle.jesc_names.proofs.method_table.add_predefined.Goals as goal

pub returns : goal.returns
returns c =
    let given = c.args.names.classes.now in
    let order = c.args.names.order.now in
    let n = c.args.number in
    let x = c.in_ok-unwritten.field-0 in
    let made = c.in_ok-unwritten.ensures n order c.class_id-owner.ensures in
    let named = subst (λ (text : List ℕ). IsUnwritten text nowhere n order x) c.predefined_name.ensures made in
    on_ok_weaker c.push.result (λ e. adds_one given order (predefined_one n) x c.args.methods.now c.push.new.self named e) c.push.ensures.ok
