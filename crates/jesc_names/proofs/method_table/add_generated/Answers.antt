use Rattle.std.proofs.Common.{◌∙◌, ℕ, List, sym, subst, ap, OnOk}
use Rattle.std.proofs.lemmas.Result.{on_ok_weaker}
use Rattle.jesc_text.specs.declared.place.Place.{Place}
use Rattle.jesc_classes.specs.Sources.{seen}
use Rattle.jesc_names.specs.Program.{Callable, generated, has_constructor, IsUnwritten}
use Rattle.jesc_names.specs.TablesRows.{Adds}
use Rattle.jesc_names.proofs.TablesMethods.{adds_one, one_there}
use Rattle.jesc_names.proofs.method_table.add_generated.Goals as goal

pub returns : goal.returns
returns c =
    let given = c.args.names.classes.now in
    let order = c.args.names.order.now in
    let n = c.args.number in
    let s = seen c.args.class in
    let x = c.in_ok-unwritten.field-0 in
    let none = ap has_constructor (sym c.as_slice.ensures) ∙ sym c.has_constructor.ensures ∙ c.if-has_constructor.false in
    let made = c.in_ok-unwritten.ensures n order c.class_id-owner.ensures in
    let named = subst (λ (text : List ℕ). IsUnwritten text c.place_at-place.result n order x) c.as_slice-2.ensures made in
    let placed = subst (λ (p : Place). IsUnwritten s.tree.name.text p n order x) c.place_at-place.ensures named in
    subst (λ (ks : List Callable). OnOk c.push.result (Adds given order ks c.args.methods.now c.push.new.self)) (sym (one_there (generated n s) s.tree.is_interface (has_constructor s.tree.members) c.if-tree.false none))
    (on_ok_weaker c.push.result (λ e. adds_one given order (generated n s) x c.args.methods.now c.push.new.self placed e) c.push.ensures.ok)
