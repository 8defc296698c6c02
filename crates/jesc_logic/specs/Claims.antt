-- What a formula says: the same form, over terms in place of their numbers.
use Rattle.std.specs.Prelude.{ℕ, ◌+◌, List}
use Rattle.jesc_logic.specs.declared.terms.TermId.{TermId}
use Rattle.jesc_logic.specs.declared.formula.Formula.{Formula, fold-Formula}
use Rattle.jesc_logic.specs.declared.formula.FormulaNode.{FormulaNode, fold-FormulaNode}
use Rattle.jesc_logic.specs.declared.formula.FormulaNode.TheOpen.{FormulaNode-F, Formula-F}
use Rattle.jesc_logic.specs.Terms.{Term, term_at, IsIn}

pub data Claim (T : Type 0) : Type 0 where
  truth : Claim T
  falsity : Claim T
  at_most : (a b : T) → Claim T
  equal : (a b : T) → Claim T
  negation : (f : Claim T) → Claim T
  both : (f g : Claim T) → Claim T
  either : (f g : Claim T) → Claim T

-- one level of a formula, with all inside already seen
abbrev pub node_step : FormulaNode-F (Claim TermId) (Claim TermId) → Claim TermId
node_step FormulaNode-F.True = truth
node_step FormulaNode-F.False = falsity
node_step (FormulaNode-F.Le a b) = at_most a b
node_step (FormulaNode-F.Eq a b) = equal a b
node_step (FormulaNode-F.Not f) = negation f
node_step (FormulaNode-F.And f g) = both f g
node_step (FormulaNode-F.Or f g) = either f g

abbrev pub formula_step : Formula-F (Claim TermId) (Claim TermId) → Claim TermId
formula_step f = f.node

-- the formula as plain data
abbrev pub shape : Formula → Claim TermId
shape = fold-Formula (Claim TermId) (Claim TermId) node_step formula_step

abbrev pub node_shape : FormulaNode → Claim TermId
node_shape = fold-FormulaNode (Claim TermId) (Claim TermId) node_step formula_step

-- the same form over other things
abbrev pub over : {T U : Type 0} → (T → U) → Claim T → Claim U
over at truth = truth
over at falsity = falsity
over at (at_most a b) = at_most (at a) (at b)
over at (equal a b) = equal (at a) (at b)
over at (negation f) = negation (over at f)
over at (both f g) = both (over at f) (over at g)
over at (either f g) = either (over at f) (over at g)

-- what the formula says
abbrev pub claim_of : List Term → Formula → Claim Term
claim_of terms f = over (term_at terms) (shape f)

-- each thing in the form is so
abbrev pub Each : {T : Type 0} → (T → Type 0) → Claim T → Type 0
Each P truth = Unit {0}
Each P falsity = Unit {0}
Each P (at_most a b) = P a × P b
Each P (equal a b) = P a × P b
Each P (negation f) = Each P f
Each P (both f g) = Each P f × Each P g
Each P (either f g) = Each P f × Each P g

-- each number in the formula is there
abbrev pub IsOver : List Term → Formula → Type 0
IsOver terms f = Each (IsIn terms) (shape f)

-- the number of nodes
abbrev pub node_count : {T : Type 0} → Claim T → ℕ
node_count truth = 1
node_count falsity = 1
node_count (at_most a b) = 1
node_count (equal a b) = 1
node_count (negation f) = node_count f + 1
node_count (both f g) = node_count f + node_count g + 1
node_count (either f g) = node_count f + node_count g + 1
