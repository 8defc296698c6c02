-- The functions answer a typed form exactly where the relation has it, and there is one at most.
use Rattle.std.proofs.Common.{◌≡◌, ◌↔◌, Ok, List, sym, ◌∙◌}
use Rattle.jesc_ast.specs.Trees as ast
use Rattle.jesc_tree.specs.Trees as tree
use Rattle.jesc_sites.specs.Sites.{Around, IsSetting, Setting}
use Rattle.jesc_expressions.specs.Resolving.{resolved, resolved_all}
use Rattle.jesc_expressions.specs.Typing.{Typed, TypedAll}
use Rattle.jesc_expressions.specs.laws.Complete.{complete, complete_all}
use Rattle.jesc_expressions.specs.laws.Sound.{sound, sound_all}
use Rattle.jesc_expressions.specs.laws.Tests.{same}

module _ (s : Setting) (known : IsSetting s) where
  pub typed_exactly : (a : Around) (e : ast.Expression) (x : tree.Expression) → (resolved s a e ≡ Ok x) ↔ Typed s a e x
  typed_exactly a e x = (sound s known a e x, complete s known a e x)

  pub all_typed_exactly : (a : Around) (es : ast.Expressions) (xs : List tree.Expression) → (resolved_all s a es ≡ Ok xs) ↔ TypedAll s a es xs
  all_typed_exactly a es xs = (sound_all s known a es xs, complete_all s known a es xs)

  pub one_typed : (a : Around) (e : ast.Expression) (x y : tree.Expression) → Typed s a e x → Typed s a e y → x ≡ y
  one_typed a e x y p q = same x y (sym (complete s known a e x p) ∙ complete s known a e y q)
