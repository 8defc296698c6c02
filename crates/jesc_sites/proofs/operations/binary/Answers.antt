use Rattle.std.proofs.Common.{sym, ap, ◌∙◌}
use Rattle.jesc_ast.specs.Expressions.{span_of}
use Rattle.jesc_ast.specs.Trees as ast
use Rattle.jesc_tree.specs.Trees.{binary, view}
use Rattle.jesc_sites.specs.Operations.{operator_of}
use Rattle.jesc_sites.specs.Parts.{checked_at}
use Rattle.jesc_sites.specs.Sites.{setting}
use Rattle.jesc_sites.proofs.Operating.{operates}
use Rattle.jesc_sites.proofs.operations.binary.Goals as goal

pub returns-clause-answers : goal.returns-clause-answers
returns-clause-answers c =
    let a = c.args in
    operates (setting a.site.now) (span_of (ast.view a.whole.now)) a.op.now (ast.view a.a.tree.now) (ast.view a.b.tree.now) a.a.typed a.b.typed c.operator_of-sign.result c.in-Some.ty (view c.in_ok-made_binary.field-0)
    (c.operator_of-sign.ensures ∙ ap operator_of c.as_slice.ensures)
    (sym c.in-Some.is ∙ c.in_ok-ty.ensures.made)
    (c.in_ok-made_binary.ensures.made ∙ ap (λ span. checked_at a.site.now.lines.now span a.op.now.span c.in-Some.ty (binary c.operator_of-sign.result (view a.a.typed) (view a.b.typed))) c.span_of-span.ensures)
