-- What operators and choices answer where their operands fit.
use Rattle.std.specs.Prelude.{true, Some, Ok}
use Rattle.std.proofs.Common.{◌≡◌, ap, sym, ◌∙◌, cond}
use Rattle.jesc_text.specs.declared.place.Span.{Span}
use Rattle.jesc_ast.specs.declared.word.Word.{Word}
use Rattle.jesc_ast.specs.Trees as ast
use Rattle.jesc_classes.specs.declared.rule.Rule.TheVariants.{Y1}
use Rattle.jesc_operands.specs.Deciding.{chooses, is_truth, makes}
use Rattle.jesc_operands.specs.Operands.{kind_of}
use Rattle.jesc_tree.specs.declared.expr.TExpr.{TExpr}
use Rattle.jesc_tree.specs.declared.ops.BinOp.{BinOp}
use Rattle.jesc_tree.specs.declared.ty.Ty.{Ty}
use Rattle.jesc_tree.specs.Trees.{Expression, binary, choose, view}
use Rattle.jesc_sites.specs.laws.Types.{seen_type}
use Rattle.jesc_sites.specs.Operations.{binary_by, binary_of, choose_by, choose_of, operator_of}
use Rattle.jesc_sites.specs.Parts.{checked_at, refused_in, type_of}
use Rattle.jesc_sites.specs.Sites.{Setting}

module _ (s : Setting) (span : Span) where
  pub operates : (op : Word) (a b : ast.Expression) (x y : TExpr) (sign : BinOp) (t : Ty) (made : Expression) → sign ≡ operator_of op.text → Some t ≡ makes s.classes (kind_of sign) x.ty y.ty → made ≡ checked_at s.lines span op.span t (binary sign (view x) (view y)) → binary_of s span op a b (view x) (view y) ≡ Ok made
  operates op a b x y sign t made signed fits is =
      ap (λ o. binary_by s.lines span op a b (view x) (view y) (makes s.classes (kind_of o) (type_of (view x)) (type_of (view y)))) (sym signed)
      ∙ ap (λ u. binary_by s.lines span op a b (view x) (view y) (makes s.classes (kind_of sign) u (type_of (view y)))) (seen_type x)
      ∙ ap (λ u. binary_by s.lines span op a b (view x) (view y) (makes s.classes (kind_of sign) x.ty u)) (seen_type y)
      ∙ ap (binary_by s.lines span op a b (view x) (view y)) (sym fits)
      ∙ ap (λ o. Ok (checked_at s.lines span op.span t (binary o (view x) (view y)))) (sym signed)
      ∙ ap Ok (sym is)

  pub selects : (question : Span) (c a b : ast.Expression) (test x y : TExpr) (t : Ty) (made : Expression) → true ≡ is_truth test.ty → Some t ≡ chooses s.classes x.ty y.ty → made ≡ checked_at s.lines span question t (choose (view test) (view x) (view y)) → choose_of s span question c a b (view test) (view x) (view y) ≡ Ok made
  selects question c a b test x y t made holds fits is =
      let by = choose_by s.lines span question c a b (view test) (view x) (view y) in
      ap (λ u. cond (is_truth u) (by (chooses s.classes (type_of (view x)) (type_of (view y)))) (refused_in Y1 s.lines c)) (seen_type test)
      ∙ ap (λ yes. cond yes (by (chooses s.classes (type_of (view x)) (type_of (view y)))) (refused_in Y1 s.lines c)) (sym holds)
      ∙ ap (λ u. by (chooses s.classes u (type_of (view y)))) (seen_type x)
      ∙ ap (λ u. by (chooses s.classes x.ty u)) (seen_type y)
      ∙ ap by (sym fits)
      ∙ ap Ok (sym is)
