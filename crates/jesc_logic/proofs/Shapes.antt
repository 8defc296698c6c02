-- The shapes of formulas, form by form.
use Rattle.std.proofs.Common.{◌≡◌, sym, ap, ◌∙◌}
use Rattle.jesc_logic.specs.declared.terms.TermId.{TermId}
use Rattle.jesc_logic.specs.declared.formula.Formula.{Formula, fold_out-Formula}
use Rattle.jesc_logic.specs.declared.formula.FormulaNode.{fold-roll-FormulaNode}
use Rattle.jesc_logic.specs.declared.formula.FormulaNode.TheVariants.{Le, Eq, And, Or, rolls-Le, rolls-Eq, rolls-And, rolls-Or}
use Rattle.jesc_logic.specs.Claims.{at_most, equal, both, either, shape, node_shape}

pub shape_node : (f : Formula) → shape f ≡ node_shape f.node
shape_node f = simp fold_out-Formula

pub le_shape : (a b : TermId) → node_shape (Le a b) ≡ at_most a b
le_shape a b = ap node_shape (sym (rolls-Le a b)) ∙ simp fold-roll-FormulaNode

pub eq_shape : (a b : TermId) → node_shape (Eq a b) ≡ equal a b
eq_shape a b = ap node_shape (sym (rolls-Eq a b)) ∙ simp fold-roll-FormulaNode

pub and_shape : (g h : Formula) → node_shape (And g h) ≡ both (shape g) (shape h)
and_shape g h = ap node_shape (sym (rolls-And g h)) ∙ simp fold-roll-FormulaNode

pub or_shape : (g h : Formula) → node_shape (Or g h) ≡ either (shape g) (shape h)
or_shape g h = ap node_shape (sym (rolls-Or g h)) ∙ simp fold-roll-FormulaNode

module _ (f : Formula) where
  pub le_is : (a b : TermId) → f.node ≡ Le a b → shape f ≡ at_most a b
  le_is a b e = shape_node f ∙ ap node_shape e ∙ le_shape a b

  pub eq_is : (a b : TermId) → f.node ≡ Eq a b → shape f ≡ equal a b
  eq_is a b e = shape_node f ∙ ap node_shape e ∙ eq_shape a b

  pub and_is : (g h : Formula) → f.node ≡ And g h → shape f ≡ both (shape g) (shape h)
  and_is g h e = shape_node f ∙ ap node_shape e ∙ and_shape g h

  pub or_is : (g h : Formula) → f.node ≡ Or g h → shape f ≡ either (shape g) (shape h)
  or_is g h e = shape_node f ∙ ap node_shape e ∙ or_shape g h
