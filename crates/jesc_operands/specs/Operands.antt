-- Which types operands may have, and the type of what is made of them (JLS 5.5, 15.15 to 15.26; JML Reference Manual,
-- Predicates and Specification Expressions).
use Rattle.std.specs.Prelude.{◌≡◌, ◌⊎◌, Bool, true, false, List}
use Rattle.jesc_tree.specs.declared.ids.ClassId.{ClassId}
use Rattle.jesc_tree.specs.declared.class.Class.{Class}
use Rattle.jesc_tree.specs.declared.ops.UnOp.{UnOp}
use Rattle.jesc_tree.specs.declared.ops.UnOp.TheVariants.{Minus, Plus, Not}
use Rattle.jesc_tree.specs.declared.ops.BinOp.{BinOp}
use Rattle.jesc_tree.specs.declared.ops.BinOp.TheVariants.{Add, Sub, Mul, Div, Rem, Lt, Le, Gt, Ge, Eq, Ne, And, Or, Implies, Iff, NotIff}
use Rattle.jesc_tree.specs.declared.ty.Ty.{Ty}
use Rattle.jesc_tree.specs.declared.ty.Ty.TheVariants as ty
use Rattle.jesc_tree.specs.Subtypes.{IsAt, Fits}
use Rattle.jesc_operands.specs.declared.kinds.Kind.{Kind}
use Rattle.jesc_operands.specs.declared.kinds.Kind.TheVariants.{Arithmetic, Order, Equality, Logic}

-- ---- kinds of types

abbrev pub is_number : Ty → Bool
is_number ty.Void = false
is_number ty.Null = false
is_number ty.Int = true
is_number ty.Long = true
is_number ty.Bool = false
is_number (ty.Ref c) = false
is_number (ty.Array e) = false

abbrev pub is_reference : Ty → Bool
is_reference ty.Void = false
is_reference ty.Null = true
is_reference ty.Int = false
is_reference ty.Long = false
is_reference ty.Bool = false
is_reference (ty.Ref c) = true
is_reference (ty.Array e) = true

-- of two numbers the type of what is computed with them
abbrev pub wider : Ty → Ty → Ty
wider ty.Int ty.Int = ty.Int
wider s t = ty.Long

-- the type is an interface
abbrev pub IsInterface : List Class → Ty → Type 0
IsInterface classes t = (i : ClassId) × (t ≡ ty.Ref i) × ((c : Class) × IsAt classes i.0 c × (c.is_interface ≡ true))

-- ---- kinds of operators

abbrev pub kind_of : BinOp → Kind
kind_of Add = Arithmetic
kind_of Sub = Arithmetic
kind_of Mul = Arithmetic
kind_of Div = Arithmetic
kind_of Rem = Arithmetic
kind_of Lt = Order
kind_of Le = Order
kind_of Gt = Order
kind_of Ge = Order
kind_of Eq = Equality
kind_of Ne = Equality
kind_of And = Logic
kind_of Or = Logic
kind_of Implies = Logic
kind_of Iff = Logic
kind_of NotIff = Logic

-- ---- operands

-- one's type fits the other's, or one is an interface
pub record AreRelated (classes : List Class) (s t : Ty) : Type 0 where
  pub first : is_reference s ≡ true
  pub second : is_reference t ≡ true
  pub related : Fits classes s t ⊎ (Fits classes t s ⊎ (IsInterface classes s ⊎ IsInterface classes t))

-- two numbers, two truth values, or two related references
pub data AreEquable (classes : List Class) : Ty → Ty → Type 0 where
  numbers : (s t : Ty) → is_number s ≡ true → is_number t ≡ true → AreEquable classes s t
  truths : AreEquable classes ty.Bool ty.Bool
  references : (s t : Ty) → AreRelated classes s t → AreEquable classes s t

-- an operator of that kind makes of two operands something of the last type
pub data Makes (classes : List Class) : Kind → Ty → Ty → Ty → Type 0 where
  computes : (s t : Ty) → is_number s ≡ true → is_number t ≡ true → Makes classes Arithmetic s t (wider s t)
  orders : (s t : Ty) → is_number s ≡ true → is_number t ≡ true → Makes classes Order s t ty.Bool
  equates : (s t : Ty) → AreEquable classes s t → Makes classes Equality s t ty.Bool
  joins : Makes classes Logic ty.Bool ty.Bool ty.Bool

-- a prefix operator makes of an operand something of the last type
pub data Turns : UnOp → Ty → Ty → Type 0 where
  minus : (t : Ty) → is_number t ≡ true → Turns Minus t t
  plus : (t : Ty) → is_number t ≡ true → Turns Plus t t
  negates : Turns Not ty.Bool ty.Bool

-- one of two values, by a condition, is of the last type
pub data Chooses (classes : List Class) : Ty → Ty → Ty → Type 0 where
  numbers : (s t : Ty) → is_number s ≡ true → is_number t ≡ true → Chooses classes s t (wider s t)
  second : (s t : Ty) → (t ≡ ty.Void → ⊥) → Fits classes s t → Chooses classes s t t
  first : (s t : Ty) → (s ≡ ty.Void → ⊥) → Fits classes t s → Chooses classes s t s

-- a value of the first type may be cast to the second
pub data Casts (classes : List Class) : Ty → Ty → Type 0 where
  numbers : (s t : Ty) → is_number s ≡ true → is_number t ≡ true → Casts classes s t
  references : (s t : Ty) → AreRelated classes s t → Casts classes s t
