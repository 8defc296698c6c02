use Rattle.std.proofs.Common.{◌≡◌, ◌<◌, ◌∙◌, [], ap, get_or, length, map, subst, sym}
use Rattle.std.specs.List.{All}
use Rattle.jesc_tree.specs.declared.ids.MethodId.{MethodId}
use Rattle.jesc_meanings.specs.Meanings.{method_rows}
use Rattle.jesc_meanings.specs.Rows.{TellsConstructors}
use Rattle.jesc_meanings.proofs.Constructing.{class_taken, methods_at, row_small}
use Rattle.jesc_meanings.proofs.constructors.constructor_rows.Goals as goal

pub constructor_row-requires : goal.constructor_row-requires
constructor_row-requires c =
    let classes = c.args.classes.now in
    let i = c.loop-class.class-index in
    let is : get_or (method_rows classes) i [] ≡ map (λ (m : MethodId). m.0) c.as_slice.result.now =
    methods_at classes i c.class-item.result c.loop-class-test.true c.class-item.is ∙ ap (map (λ (m : MethodId). m.0)) (sym c.as_slice.ensures) in
    subst (λ ids. All (λ m. m < length c.args.methods.now) ids) is (row_small classes (length c.args.methods.now) i c.loop-class-test.true c.requires)

pub loop-class-preserved : goal.loop-class-preserved
loop-class-preserved c =
    let classes = c.args.classes.now in
    let methods = c.args.methods.now in
    let i = c.loop-class.class-index in
    let is : get_or (method_rows classes) i [] ≡ map (λ (m : MethodId). m.0) c.as_slice.result.now =
    methods_at classes i c.class-item.result c.loop-class-test.true c.class-item.is ∙ ap (map (λ (m : MethodId). m.0)) (sym c.as_slice.ensures) in
    class_taken classes methods i c.loop-class.rows.items c.push.new.self.items c.in_ok-row.row c.in-Ok.ensures.items
    (subst (λ ids. TellsConstructors methods ids c.in_ok-row.row) (sym is) c.in_ok-row.ensures) c.loop-class.invariant
