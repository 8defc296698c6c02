use Rattle.std.proofs.Common.{◌+◌, sym, ◌∙◌, subst}
use Rattle.jesc_ast.specs.Trees as ast
use Rattle.jesc_classes.specs.Answers.{Answers}
use Rattle.jesc_tree.specs.Trees.{view}
use Rattle.jesc_sites.specs.Sites.{setting}
use Rattle.jesc_references.proofs.Fitting.{no_parameter, no_tree, step_at, refuses, goes_on, rest_from}
use Rattle.jesc_references.proofs.arguments.arguments_fit.Goals as goal

pub returns-then-i-params : goal.returns-then-i-params
returns-then-i-params c =
    let a = c.args in
    let s = setting a.site.now in
    c.loop-i.invariant ∙ no_parameter s.classes s.lines a.args.now a.params.now a.trees.now c.loop-i.i c.index-args-i.result c.loop-i-test.true c.if-i-params.true

pub returns-then-i-trees : goal.returns-then-i-trees
returns-then-i-trees c =
    let a = c.args in
    let s = setting a.site.now in
    c.loop-i.invariant ∙ no_tree s.classes s.lines a.args.now a.params.now a.trees.now c.loop-i.i c.index-args-i.result c.loop-i-test.true c.if-i-trees.true

pub returns-in_err-argument_fits : goal.returns-in_err-argument_fits
returns-in_err-argument_fits c =
    let a = c.args in
    let s = setting a.site.now in
    let i = c.loop-i.i in
    let step = step_at s.classes s.lines a.args.now a.params.now a.trees.now i c.index-args-i.result c.index-params-i.result c.index-trees-i.result c.index-args-i.is c.index-params-i.is c.index-trees-i.is c.loop-i-test.true c.if-i-params.false c.if-i-trees.false in
    subst (λ said. Answers c.from_residual.result said) (sym (c.loop-i.invariant ∙ step))
    (refuses s.classes s.lines (view c.index-args-i.result) c.index-params-i.result (ast.view c.index-trees-i.result) (rest_from s.classes s.lines a.args.now a.params.now a.trees.now i (i + 1)) c.from_residual.result _ c.from_residual.ensures.1 c.in_err-argument_fits.ensures)

pub loop-i-preserved : goal.loop-i-preserved
loop-i-preserved c =
    let a = c.args in
    let s = setting a.site.now in
    let i = c.loop-i.i in
    let step = step_at s.classes s.lines a.args.now a.params.now a.trees.now i c.index-args-i.result c.index-params-i.result c.index-trees-i.result c.index-args-i.is c.index-params-i.is c.index-trees-i.is c.loop-i-test.true c.if-i-params.false c.if-i-trees.false in
    c.loop-i.invariant ∙ (step
    ∙ goes_on s.classes s.lines (view c.index-args-i.result) c.index-params-i.result (ast.view c.index-trees-i.result) (rest_from s.classes s.lines a.args.now a.params.now a.trees.now i (i + 1)) c.in_ok-argument_fits.ensures)
