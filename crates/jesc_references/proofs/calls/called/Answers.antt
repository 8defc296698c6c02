use Rattle.std.proofs.Common.{◌≡◌, IfOk, map, ap, ◌∙◌, subst}
use Rattle.jesc_text.specs.declared.place.Place.{Place}
use Rattle.jesc_ast.specs.Expressions.{span_of}
use Rattle.jesc_ast.specs.Lines.{place_at}
use Rattle.jesc_ast.specs.Trees as ast
use Rattle.jesc_tree.specs.Trees.{Receiver, call, expression, expressions_of, view}
use Rattle.jesc_references.specs.Calls.{how_view}
use Rattle.jesc_references.proofs.calls.called.Goals as goal

pub returns-clause-made : goal.returns-clause-made
returns-clause-made c =
    let a = c.args in
    let k = a.callee in
    let lines = a.site.now.lines.now in
    let xs = expressions_of (map view a.args) in
    let start = place_at lines (span_of (ast.view a.tree.whole.now)) in
    let at = place_at lines a.tree.name.now.span in
    let dot = place_at lines a.tree.dot in
    let how = how_view c.in_ok-how.how in
    let first = c.place_at.ensures ∙ ap (place_at lines) c.span_of.ensures in
    let places =
    ap (λ (p : Place). expression p c.place_at-2.result c.place_at-3.result k.method.now.result (call how k.class k.id xs)) first
    ∙ (ap (λ (p : Place). expression start p c.place_at-3.result k.method.now.result (call how k.class k.id xs)) c.place_at-2.ensures
    ∙ (ap (λ (p : Place). expression start at p k.method.now.result (call how k.class k.id xs)) c.place_at-3.ensures
    ∙ ap (λ (h : Receiver). expression start at dot k.method.now.result (call h k.class k.id xs)) c.in_ok-how.ensures)) in
    subst (λ t. IfOk c.made_call.result (λ e. view e ≡ t)) places c.made_call.ensures.made
