-- Lists of parameters with the same types.
use Rattle.std.proofs.Common.{◌≡◌, ℕ, ◌+◌, ◌<◌, List, length, get_or, take, map, ap, sym, ◌∙◌, arith}
use Rattle.std.proofs.lemmas.List.{get_or-map, length-map, take_more_same}
use Rattle.jesc_ast.specs.declared.class.ParamTree.{ParamTree}
use Rattle.jesc_members.specs.Signatures.{typed}

module _ (a b : List ParamTree) (i : ℕ) (x y : ParamTree) (inside : i < length a) (long : length a ≡ length b) (x_is : x ≡ get_or a i x) (y_is : y ≡ get_or b i y) where
  pub typed_there : map typed a ≡ map typed b → typed x ≡ typed y
  typed_there e =
      ap typed x_is ∙ sym (get_or-map typed a i x (typed x) inside) ∙ ap (λ r. get_or r i (typed x)) e ∙ get_or-map typed b i y (typed x) (omega (arith, inside, long)) ∙ ap typed (sym y_is)

  pub typed_more : typed x ≡ typed y → take i (map typed a) ≡ take i (map typed b) → take (i + 1) (map typed a) ≡ take (i + 1) (map typed b)
  typed_more e h =
      take_more_same (map typed a) (map typed b) i (typed x) (omega (arith, inside, length-map a typed)) (omega (arith, inside, long, length-map b typed)) h
      (get_or-map typed a i x (typed x) inside ∙ ap typed (sym x_is) ∙ e ∙ ap typed y_is ∙ sym (get_or-map typed b i y (typed x) (omega (arith, inside, long))))
