use Rattle.std.proofs.Common.{sym, ap, ◌∙◌}
use Rattle.jesc_ast.specs.Expressions.{span_of}
use Rattle.jesc_ast.specs.Trees as ast
use Rattle.jesc_tree.specs.Trees.{choose, view}
use Rattle.jesc_sites.specs.Parts.{checked_at}
use Rattle.jesc_sites.specs.Sites.{setting}
use Rattle.jesc_sites.proofs.Operating.{selects}
use Rattle.jesc_sites.proofs.operations.choose.Goals as goal

pub returns-clause-answers : goal.returns-clause-answers
returns-clause-answers c =
    let a = c.args in
    selects (setting a.site.now) (span_of (ast.view a.whole.now)) a.question (ast.view a.test.tree.now) (ast.view a.yes.tree.now) (ast.view a.no.tree.now) a.test.typed a.yes.typed a.no.typed c.in-Some.ty (view c.in_ok-made_choice.field-0)
    (sym c.if-not-is_truth.false ∙ c.is_truth.ensures)
    (sym c.in-Some.is ∙ c.in_ok-ty.ensures.chosen)
    (c.in_ok-made_choice.ensures.made ∙ ap (λ span. checked_at a.site.now.lines.now span a.question c.in-Some.ty (choose (view a.test.typed) (view a.yes.typed) (view a.no.typed))) c.span_of-span.ensures)
