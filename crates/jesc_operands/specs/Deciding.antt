-- The same as functions: what fits where, which types operands may have, and the type of what is made of them.
use Rattle.std.specs.Prelude.{ℕ, zero, suc, ◌==◌, ◌&&◌, ◌||◌, Bool, true, false, Option, Some, List, if◌then◌else◌, slice_get, unwrap_or, option_map}
use Rattle.std.specs.Bool.{then_some}
use Rattle.std.specs.List.{list_any}
use Rattle.jesc_tree.specs.declared.class.Class.{Class}
use Rattle.jesc_tree.specs.declared.ops.UnOp.{UnOp}
use Rattle.jesc_tree.specs.declared.ops.UnOp.TheVariants.{Minus, Plus, Not}
use Rattle.jesc_tree.specs.declared.ty.Elem.{Elem}
use Rattle.jesc_tree.specs.declared.ty.Elem.TheVariants as elem
use Rattle.jesc_tree.specs.declared.ty.Ty.{Ty}
use Rattle.jesc_tree.specs.declared.ty.Ty.TheVariants as ty
use Rattle.jesc_tree.specs.Ids.{if_there}
use Rattle.jesc_tree.specs.Subtypes.{class_id, supertypes}
use Rattle.jesc_operands.specs.declared.kinds.Kind.{Kind}
use Rattle.jesc_operands.specs.declared.kinds.Kind.TheVariants.{Arithmetic, Order, Equality, Logic}
use Rattle.jesc_operands.specs.Operands.{is_number, is_reference, wider}

-- ---- subtypes (JLS 4.10.2, 4.10.3)

-- the supertypes that the heading of that class names
abbrev pub supertypes_of : List Class → ℕ → List ℕ
supertypes_of classes a = if_there supertypes (slice_get classes a)

-- the first class is the second, or one of its supertypes is below the second: headings are followed as far as there is fuel
abbrev pub is_below : List Class → ℕ → ℕ → ℕ → Bool
is_below classes zero a b = false
is_below classes (suc fuel) a b = (a == b) || list_any (λ s. is_below classes fuel s b) (supertypes_of classes a)

-- the first class is a subtype of the second: all are of Object, which is class 0. A supertype has a smaller id, so the
-- fuel is enough
abbrev pub is_subclass : List Class → ℕ → ℕ → Bool
is_subclass classes a b = (b == 0) || is_below classes (suc a) a b

-- an array of the first elements is a subtype of one of the second
abbrev pub is_subelement : List Class → Elem → Elem → Bool
is_subelement classes (elem.Ref a) (elem.Ref b) = is_subclass classes a.0 b.0
is_subelement classes elem.Int elem.Int = true
is_subelement classes elem.Long elem.Long = true
is_subelement classes elem.Bool elem.Bool = true
is_subelement classes e f = false

abbrev pub is_subtype : List Class → Ty → Ty → Bool
is_subtype classes (ty.Ref a) (ty.Ref b) = is_subclass classes a.0 b.0
is_subtype classes (ty.Array e) (ty.Ref b) = b.0 == 0
is_subtype classes (ty.Array e) (ty.Array f) = is_subelement classes e f
is_subtype classes ty.Void ty.Void = true
is_subtype classes ty.Null ty.Null = true
is_subtype classes ty.Int ty.Int = true
is_subtype classes ty.Long ty.Long = true
is_subtype classes ty.Bool ty.Bool = true
is_subtype classes s t = false

-- a value of the first type may stand where the second is wanted (JLS 5.2, 5.3)
abbrev pub fits : List Class → Ty → Ty → Bool
fits classes ty.Int ty.Long = true
fits classes ty.Null (ty.Ref c) = true
fits classes ty.Null (ty.Array e) = true
fits classes s t = is_subtype classes s t

-- the type is Throwable, which is class 1, or a subclass of it
abbrev pub is_throwable : List Class → Ty → Bool
is_throwable classes t = is_subtype classes t (ty.Ref (class_id 1))

abbrev pub is_interface : List Class → Ty → Bool
is_interface classes (ty.Ref i) = unwrap_or (option_map (λ c. c.is_interface) (slice_get classes i.0)) false
is_interface classes t = false

-- ---- operands (JLS 5.5, 15.15 to 15.26)

abbrev pub is_truth : Ty → Bool
is_truth ty.Bool = true
is_truth t = false

abbrev pub are_numbers : Ty → Ty → Bool
are_numbers s t = is_number s && is_number t

abbrev pub are_truths : Ty → Ty → Bool
are_truths s t = is_truth s && is_truth t

abbrev pub are_references : Ty → Ty → Bool
are_references s t = is_reference s && is_reference t

-- two references of which one is an interface, or one's type fits the other's
abbrev pub are_related : List Class → Ty → Ty → Bool
are_related classes s t = are_references s t && ((is_interface classes s || is_interface classes t) || (fits classes s t || fits classes t s))

-- values of the two types may be compared by `==`
abbrev pub are_equable : List Class → Ty → Ty → Bool
are_equable classes s t = are_numbers s t || (are_truths s t || are_related classes s t)

-- a value of the first type may be cast to the second
abbrev pub may_cast : List Class → Ty → Ty → Bool
may_cast classes s t = are_numbers s t || are_related classes s t

-- what an operator of that kind makes of two operands
abbrev pub makes : List Class → Kind → Ty → Ty → Option Ty
makes classes Arithmetic s t = then_some (are_numbers s t) (wider s t)
makes classes Order s t = then_some (are_numbers s t) ty.Bool
makes classes Equality s t = then_some (are_equable classes s t) ty.Bool
makes classes Logic s t = then_some (are_truths s t) ty.Bool

-- what a prefix operator makes of an operand
abbrev pub turns : UnOp → Ty → Option Ty
turns Minus t = then_some (is_number t) t
turns Plus t = then_some (is_number t) t
turns Not t = then_some (is_truth t) t

-- there are values of the type
abbrev pub has_values : Ty → Bool
has_values ty.Void = false
has_values t = true

abbrev pub fits_as_value : List Class → Ty → Ty → Bool
fits_as_value classes s t = has_values t && fits classes s t

-- the type of one of two values, by a condition
abbrev pub chooses : List Class → Ty → Ty → Option Ty
chooses classes s t =
    if are_numbers s t then Some (wider s t)
    else if fits_as_value classes s t then Some t
    else then_some (fits_as_value classes t s) s
