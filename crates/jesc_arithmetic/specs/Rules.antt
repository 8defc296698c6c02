-- What rules say. Words that only contracts inside the crate use.
use Rattle.std.specs.Prelude.{◌≡◌, ℕ, List, All, map}
use Rattle.jesc_logic.specs.declared.formula.Formula.{Formula}
use Rattle.jesc_logic.specs.Terms.{Term, binary, term_at, IsIn}
use Rattle.jesc_logic.specs.Claims.{Claim, at_most, equal, both, either, claim_of, IsOver}
use Rattle.jesc_arithmetic.specs.declared.rule.Place.{Place}
use Rattle.jesc_arithmetic.specs.declared.rule.Place.TheVariants.{Left, Right, MinusLeft, MinusRight, Outcome, Zero, One, MinusOne}
use Rattle.jesc_arithmetic.specs.declared.rule.Comparison.{Comparison}
use Rattle.jesc_arithmetic.specs.declared.rule.Comparison.TheVariants.{AtMost, Below, Is, IsNot}
use Rattle.jesc_arithmetic.specs.declared.rule.Joint.{Joint}
use Rattle.jesc_arithmetic.specs.declared.rule.Joint.TheVariants.{One as Single, Both, Either}
use Rattle.jesc_arithmetic.specs.declared.rule.Rule.{Rule}
use Rattle.jesc_arithmetic.specs.declared.rule.Parts.{Parts}
use Rattle.jesc_arithmetic.specs.Arithmetic.{none, one, minus_one, minus, if_then, below, is_not}

-- the parts of an operation are there
pub record ArePartsIn (terms : List Term) (parts : Parts) : Type 0 where
  pub left : IsIn terms parts.left
  pub right : IsIn terms parts.right
  pub outcome : IsIn terms parts.outcome

-- the term at a place of the operation on x and y whose result is p
abbrev pub place_of : Term → Term → Term → Place → Term
place_of x y p Left = x
place_of x y p Right = y
place_of x y p MinusLeft = minus x
place_of x y p MinusRight = minus y
place_of x y p Outcome = p
place_of x y p Zero = none
place_of x y p One = one
place_of x y p MinusOne = minus_one

abbrev pub place_term : List Term → Parts → Place → Term
place_term terms parts = place_of (term_at terms parts.left) (term_at terms parts.right) (term_at terms parts.outcome)

abbrev pub comparison_claim : (Place → Term) → Comparison → Claim Term
comparison_claim at (AtMost a b) = at_most (at a) (at b)
comparison_claim at (Below a b) = below (at a) (at b)
comparison_claim at (Is a b) = equal (at a) (at b)
comparison_claim at (IsNot a b) = is_not (at a) (at b)

abbrev pub joint_claim : (Place → Term) → Joint → Claim Term
joint_claim at (Single a) = comparison_claim at a
joint_claim at (Both a b) = both (comparison_claim at a) (comparison_claim at b)
joint_claim at (Either a b) = either (comparison_claim at a) (comparison_claim at b)

abbrev pub rule_claim : (Place → Term) → Rule → Claim Term
rule_claim at rule = if_then (joint_claim at rule.premise) (joint_claim at rule.conclusion)

-- what rules say of the operation on x and y whose result is p
abbrev pub rule_claims : Term → Term → Term → List Rule → List (Claim Term)
rule_claims x y p rules = map (rule_claim (place_of x y p)) rules

-- what a table's rules say of a symbol applied to x and y
abbrev pub table_claims : ℕ → Term → Term → List Rule → List (Claim Term)
table_claims symbol x y rules = rule_claims x y (binary symbol x y) rules

-- the formula says this
pub record Says (terms : List Term) (f : Formula) (claim : Claim Term) : Type 0 where
  pub there : IsOver terms f
  pub says : claim_of terms f ≡ claim

-- the formulas say these, in order
pub record Say (terms : List Term) (fs : List Formula) (claims : List (Claim Term)) : Type 0 where
  pub there : All (IsOver terms) fs
  pub say : map (claim_of terms) fs ≡ claims
