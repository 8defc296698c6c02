-- An operator makes one type at most of operands of given types.
use Rattle.std.specs.Prelude.{◌≡◌, true, List}
use Rattle.std.proofs.Common.{refl, sym, subst, ◌∙◌}
use Rattle.jesc_tree.specs.declared.class.Class.{Class}
use Rattle.jesc_tree.specs.declared.ops.UnOp.{UnOp}
use Rattle.jesc_tree.specs.declared.ops.UnOp.TheVariants.{Minus, Plus, Not}
use Rattle.jesc_tree.specs.declared.ty.Ty.{Ty}
use Rattle.jesc_tree.specs.declared.ty.Ty.TheVariants as ty
use Rattle.jesc_operands.specs.declared.kinds.Kind.{Kind}
use Rattle.jesc_operands.specs.declared.kinds.Kind.TheVariants.{Arithmetic, Order, Equality, Logic}
use Rattle.jesc_operands.specs.Operands.{is_number, wider, AreEquable, Makes, computes, orders, equates, joins, Turns, minus, plus, negates}

-- ---- operators between two operands

abbrev pub AreNumbers : Ty → Ty → Type 0
AreNumbers s t = (is_number s ≡ true) × (is_number t ≡ true)

abbrev pub AreTruths : Ty → Ty → Type 0
AreTruths s t = (s ≡ ty.Bool) × (t ≡ ty.Bool)

-- what an operator of that kind asks of its operands
abbrev pub Takes : List Class → Kind → Ty → Ty → Type 0
Takes classes Arithmetic s t = AreNumbers s t
Takes classes Order s t = AreNumbers s t
Takes classes Equality s t = AreEquable classes s t
Takes classes Logic s t = AreTruths s t

-- the type of what it then makes
abbrev pub made : Kind → Ty → Ty → Ty
made Arithmetic s t = wider s t
made Order s t = ty.Bool
made Equality s t = ty.Bool
made Logic s t = ty.Bool

module _ (classes : List Class) where
  pub makes : (k : Kind) (s t : Ty) → Takes classes k s t → Makes classes k s t (made k s t)
  makes Arithmetic s t h = computes s t h.0 h.1
  makes Order s t h = orders s t h.0 h.1
  makes Equality s t h = equates s t h
  makes Logic s t h = subst (λ a. Makes classes Logic a t ty.Bool) (sym h.0) (subst (λ b. Makes classes Logic ty.Bool b ty.Bool) (sym h.1) joins)

  pub made_of : (k : Kind) (s t r : Ty) → Makes classes k s t r → Takes classes k s t × (r ≡ made k s t)
  made_of k s t r (computes a b p q) = ((p, q), refl)
  made_of k s t r (orders a b p q) = ((p, q), refl)
  made_of k s t r (equates a b e) = (e, refl)
  made_of k s t r joins = ((refl, refl), refl)

  -- the law
  pub makes_one : (k : Kind) (s t r q : Ty) → Makes classes k s t r → Makes classes k s t q → r ≡ q
  makes_one k s t r q m n = (made_of k s t r m).1 ∙ sym (made_of k s t q n).1

-- ---- prefix operators

-- what a prefix operator asks of its operand
abbrev pub TakesOne : UnOp → Ty → Type 0
TakesOne Minus t = is_number t ≡ true
TakesOne Plus t = is_number t ≡ true
TakesOne Not t = t ≡ ty.Bool

pub turns : (op : UnOp) (t : Ty) → TakesOne op t → Turns op t t
turns Minus t h = minus t h
turns Plus t h = plus t h
turns Not t h = subst (λ a. Turns Not a a) (sym h) negates

pub turned_of : (op : UnOp) (t r : Ty) → Turns op t r → TakesOne op t × (r ≡ t)
turned_of op t r (minus a h) = (h, refl)
turned_of op t r (plus a h) = (h, refl)
turned_of op t r negates = (refl, refl)

-- the law
pub turns_one : (op : UnOp) (t r q : Ty) → Turns op t r → Turns op t q → r ≡ q
turns_one op t r q m n = (turned_of op t r m).1 ∙ sym (turned_of op t q n).1
