use Rattle.std.proofs.Common.{sym, subst, ◌∙◌}
use Rattle.jesc_ast.specs.Expressions.{span_of}
use Rattle.jesc_ast.specs.Trees as ast
use Rattle.jesc_classes.specs.Answers.{AnswersAs}
use Rattle.jesc_sites.specs.Sites.{setting}
use Rattle.jesc_sites.specs.laws.Types.{seen_type}
use Rattle.jesc_tree.specs.Trees.{view}
use Rattle.jesc_references.specs.Fields.{length_by, member_by}
use Rattle.jesc_references.proofs.members.member.Goals as goal

pub returns-in-Array-clause-answers : goal.returns-in-Array-clause-answers
returns-in-Array-clause-answers c =
    let a = c.args in
    let s = setting a.site.now in
    let whole = ast.view a.whole.now in
    let x = view a.base.typed in
    subst (λ t. AnswersAs c.array_length.result view (member_by s a.role (span_of whole) whole (ast.view a.base.tree.now) a.dot a.name.now x t)) (sym (seen_type a.base.typed ∙ c.in-Array.is))
    (subst (λ span. AnswersAs c.array_length.result view (length_by s.lines span a.dot a.name.now x)) c.span_of.ensures c.array_length.ensures.answers)
