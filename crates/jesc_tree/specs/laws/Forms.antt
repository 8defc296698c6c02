-- What fits by the forms of the two types.
use Rattle.std.specs.Prelude.{◌≡◌, ℕ, Bool, true, false, Option, Some, None, List, ◌⊎◌, IsSomeAnd}
use Rattle.jesc_tree.specs.declared.ty.Elem.{Elem}
use Rattle.jesc_tree.specs.declared.ty.Elem.TheVariants as elem
use Rattle.jesc_tree.specs.declared.ty.Ty.{Ty}
use Rattle.jesc_tree.specs.declared.ty.Ty.TheVariants.{Void, Null, Int, Long, Bool as Truth, Ref, Array}
use Rattle.jesc_tree.specs.declared.class.Class.{Class}
use Rattle.jesc_tree.specs.Subtypes.{Reaches}

-- the class that a type is
abbrev pub class_of : Ty → Option ℕ
class_of (Ref c) = Some c.0
class_of _ = None

abbrev pub element_of : Ty → Option Elem
element_of (Array e) = Some e
element_of _ = None

abbrev pub element_class : Elem → Option ℕ
element_class (elem.Ref c) = Some c.0
element_class _ = None

abbrev pub takes_null : Ty → Bool
takes_null Null = true
takes_null (Ref c) = true
takes_null (Array e) = true
takes_null _ = false

module _ (classes : List Class) where
  -- every class is a subtype of Object, and of those that headings lead to
  abbrev pub Below : ℕ → ℕ → Type 0
  Below a b = (b ≡ 0) ⊎ Reaches classes a b

  abbrev pub ElemFit : Elem → Elem → Type 0
  ElemFit (elem.Ref a) f = IsSomeAnd (element_class f) (Below a.0)
  ElemFit elem.Int f = elem.Int ≡ f
  ElemFit elem.Long f = elem.Long ≡ f
  ElemFit elem.Bool f = elem.Bool ≡ f

  abbrev pub ArrayFit : Elem → Ty → Type 0
  ArrayFit e t = IsSomeAnd (class_of t) (λ b. b ≡ 0) ⊎ IsSomeAnd (element_of t) (ElemFit e)

  -- subtypes by form
  abbrev pub Sub : Ty → Ty → Type 0
  Sub (Ref a) t = IsSomeAnd (class_of t) (Below a.0)
  Sub (Array e) t = ArrayFit e t
  Sub Void t = Void ≡ t
  Sub Null t = Null ≡ t
  Sub Int t = Int ≡ t
  Sub Long t = Long ≡ t
  Sub Truth t = Truth ≡ t

  -- what fits by form
  abbrev pub Fit : Ty → Ty → Type 0
  Fit (Ref a) t = IsSomeAnd (class_of t) (Below a.0)
  Fit (Array e) t = ArrayFit e t
  Fit Void t = Void ≡ t
  Fit Null t = takes_null t ≡ true
  Fit Int t = (Int ≡ t) ⊎ (Long ≡ t)
  Fit Long t = Long ≡ t
  Fit Truth t = Truth ≡ t
