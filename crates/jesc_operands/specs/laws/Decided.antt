-- What the functions decide is what the relations say.
use Rattle.std.specs.Prelude.{◌≡◌, ◌↔◌, ◌||◌, Bool, true, false, Some, List, IfSome, is_some, unwrap_or, if◌then◌else◌}
use Rattle.std.specs.Bool.{then_some}
use Rattle.std.specs.List.{All}
use Rattle.std.proofs.Common.{refl, sym, ap, ◌∙◌, subst, inl, inr, arith, true≢false}
use Rattle.std.proofs.lemmas.Bool.{and_from, and_parts, or_cases, or_left, or_right}
use Rattle.jesc_tree.specs.Ids.{ty_ids}
use Rattle.jesc_tree.specs.declared.ops.UnOp.{UnOp}
use Rattle.jesc_tree.specs.declared.ops.UnOp.TheVariants.{Minus, Plus, Not}
use Rattle.jesc_tree.specs.declared.ty.Ty.{Ty}
use Rattle.jesc_tree.specs.declared.ty.Ty.TheVariants as ty
use Rattle.jesc_tree.specs.declared.class.Class.{Class}
use Rattle.jesc_tree.specs.declared.class.Field.{Field}
use Rattle.jesc_tree.specs.declared.class.Method.{Method}
use Rattle.jesc_tree.specs.Subtypes.{Fits}
use Rattle.jesc_tree.specs.Programs.{IsInRange, IsLawful}
use Rattle.jesc_tree.specs.laws.Forms.{Fit}
use Rattle.jesc_tree.specs.laws.Fitting.{fit_of}
use Rattle.jesc_operands.specs.declared.kinds.Kind.{Kind}
use Rattle.jesc_operands.specs.declared.kinds.Kind.TheVariants.{Arithmetic, Order, Equality, Logic}
use Rattle.jesc_operands.specs.Operands as spec
use Rattle.jesc_operands.specs.Operands.{is_number, is_reference, wider, AreRelated, AreEquable, Makes, Turns, Chooses, Casts}
use Rattle.jesc_operands.specs.Deciding.{fits, is_interface, is_truth, are_numbers, are_truths, are_references, are_related, are_equable, may_cast, makes, turns, has_values, fits_as_value, chooses}
use Rattle.jesc_operands.specs.laws.Unique as unique
use Rattle.jesc_operands.specs.laws.Unique.{AreNumbers, AreTruths, Takes, TakesOne, made, made_of, turned_of}
use Rattle.jesc_operands.specs.laws.Subtypes.{never, fits_exactly, is_interface_exactly, fits_both}

-- ---- tests

-- an optional value by a test
some_of : {A : Type 0} (b : Bool) (u r : A) → then_some b u ≡ Some r → (b ≡ true) × (u ≡ r)
some_of true u r e = (refl, ap (λ o. unwrap_or o u) e)
some_of false u r e = never (ap is_some e)

-- one type can be made only, and just where P holds
exactly : (M : Ty → Type 0) (P : Type 0) (u : Ty) (b : Bool) → (b ≡ true) ↔ P → (P → M u) → ((t : Ty) → M t → P × (t ≡ u)) → (r : Ty) → (then_some b u ≡ Some r) ↔ M r
exactly M P u b h f g r = (
  (λ e. let k = some_of b u r e in subst M k.1 (f (h.0 k.0))),
  (λ m. let k = g r m in ap (λ c. then_some c u) (h.1 k.0) ∙ ap (λ t. Some t) (sym k.1)),
)

if_some : (P : Ty → Type 0) (b : Bool) (u : Ty) → P u → IfSome (then_some b u) P
if_some P true u p = p
if_some P false u p = tt

-- the first of three types whose test is passed
module _ (w t s : Ty) where
  one_of : (P : Ty → Type 0) (a b c : Bool) → P w → P t → P s → IfSome (if a then Some w else if b then Some t else then_some c s) P
  one_of P true b c x y z = x
  one_of P false true c x y z = y
  one_of P false false c x y z = if_some P c s z

  decided : (M : Ty → Type 0) (a b c : Bool) → (a ≡ true → M w) → (b ≡ true → M t) → (c ≡ true → M s) → (r : Ty)
      → (if a then Some w else if b then Some t else then_some c s) ≡ Some r → M r
  decided M true b c f g h r e = subst M (some_of true w r e).1 (f refl)
  decided M false true c f g h r e = subst M (some_of true t r e).1 (g refl)
  decided M false false c f g h r e = let k = some_of c s r e in subst M k.1 (h k.0)

  second_of : (a b c : Bool) → (a ≡ true → w ≡ t) → b ≡ true → (if a then Some w else if b then Some t else then_some c s) ≡ Some t
  second_of true b c f e = ap (λ r. Some r) (f refl)
  second_of false true c f e = refl
  second_of false false c f e = never e

  first_of : (a b c : Bool) → (a ≡ true → w ≡ s) → (b ≡ true → t ≡ s) → c ≡ true → (if a then Some w else if b then Some t else then_some c s) ≡ Some s
  first_of true b c f g e = ap (λ r. Some r) (f refl)
  first_of false true c f g e = ap (λ r. Some r) (g refl)
  first_of false false true f g e = refl
  first_of false false false f g e = never e

numbers : (s t : Ty) → (are_numbers s t ≡ true) ↔ AreNumbers s t
numbers s t = (and_parts (is_number s) (is_number t), λ h. and_from (is_number s) (is_number t) h.0 h.1)

truth : (t : Ty) → is_truth t ≡ true → t ≡ ty.Bool
truth ty.Bool e = refl
truth t e = never e

truths : (s t : Ty) → (are_truths s t ≡ true) ↔ AreTruths s t
truths s t = (
  (λ e. let h = and_parts (is_truth s) (is_truth t) e in (truth s h.0, truth t h.1)),
  (λ h. and_from (is_truth s) (is_truth t) (ap is_truth h.0) (ap is_truth h.1)),
)

values : (t : Ty) → (t ≡ ty.Void → ⊥) → has_values t ≡ true
values ty.Void n = absurd (n refl)
values t n = refl

-- ---- the laws

pub turns_exactly : (op : UnOp) (t r : Ty) → (turns op t ≡ Some r) ↔ Turns op t r
turns_exactly Minus t r = exactly (Turns Minus t) (TakesOne Minus t) t (is_number t) ((λ e. e), (λ e. e)) (unique.turns Minus t) (turned_of Minus t) r
turns_exactly Plus t r = exactly (Turns Plus t) (TakesOne Plus t) t (is_number t) ((λ e. e), (λ e. e)) (unique.turns Plus t) (turned_of Plus t) r
turns_exactly Not t r = exactly (Turns Not t) (TakesOne Not t) t (is_truth t) (truth t, λ e. ap is_truth e) (unique.turns Not t) (turned_of Not t) r

-- what is made of an operand has its type
pub turned_same : (op : UnOp) (t : Ty) → IfSome (turns op t) (λ r. r ≡ t)
turned_same Minus t = if_some (λ r. r ≡ t) (is_number t) t refl
turned_same Plus t = if_some (λ r. r ≡ t) (is_number t) t refl
turned_same Not t = if_some (λ r. r ≡ t) (is_truth t) t refl

module _ (classes : List Class) (fields : List Field) (methods : List Method) where
  -- the class of the type, where it has one, is of the program
  abbrev pub IsWithin : Ty → Type 0
  IsWithin t = All (IsInRange classes fields methods) (ty_ids t)

  wider_within : (s t : Ty) → IsWithin (wider s t)
  wider_within ty.Int ty.Int = λ k d l. absurd (omega (arith, l))
  wider_within s t = λ k d l. absurd (omega (arith, l))

  truth_within : IsWithin ty.Bool
  truth_within = λ k d l. absurd (omega (arith, l))

  -- what is made is no reference
  pub made_within : (k : Kind) (s t : Ty) → IfSome (makes classes k s t) IsWithin
  made_within Arithmetic s t = if_some IsWithin (are_numbers s t) (wider s t) (wider_within s t)
  made_within Order s t = if_some IsWithin (are_numbers s t) ty.Bool truth_within
  made_within Equality s t = if_some IsWithin (are_equable classes s t) ty.Bool truth_within
  made_within Logic s t = if_some IsWithin (are_truths s t) ty.Bool truth_within

  pub chosen_within : (s t : Ty) → IsWithin s → IsWithin t → IfSome (chooses classes s t) IsWithin
  chosen_within s t p q = one_of (wider s t) t s IsWithin (are_numbers s t) (fits_as_value classes s t) (fits_as_value classes t s) (wider_within s t) q p

module _ (classes : List Class) (fields : List Field) (methods : List Method) (lawful : IsLawful classes fields methods) where
  abbrev Within : Ty → Type 0
  Within t = IsWithin classes fields methods t

  pub are_related_exactly : (s t : Ty) → Within s → Within t → (are_related classes s t ≡ true) ↔ AreRelated classes s t
  are_related_exactly s t p q = (
    (λ e.
        let h = and_parts (are_references s t) ((is_interface classes s || is_interface classes t) || (fits classes s t || fits classes t s)) e in
        let k = and_parts (is_reference s) (is_reference t) h.0 in
        record {
          first = k.0;
          second = k.1;
          related = elim (or_cases (is_interface classes s || is_interface classes t) (fits classes s t || fits classes t s) h.1) [
            | inl i ↦ inr (inr (elim (or_cases (is_interface classes s) (is_interface classes t) i) [ inl a ↦ inl ((is_interface_exactly classes s).0 a) | inr a ↦ inr ((is_interface_exactly classes t).0 a) ]))
            | inr f ↦ elim (or_cases (fits classes s t) (fits classes t s) f) [ inl a ↦ inl (to.0 a) | inr a ↦ inr (inl (back.0 a)) ]
          ];
        }),
    (λ r.
        and_from (are_references s t) ((is_interface classes s || is_interface classes t) || (fits classes s t || fits classes t s))
        (and_from (is_reference s) (is_reference t) r.first r.second)
        (elim r.related [
          | inl f ↦ or_right (is_interface classes s || is_interface classes t) (fits classes s t || fits classes t s) (or_left (fits classes s t) (fits classes t s) (to.1 f))
          | inr x ↦ elim x [
            | inl f ↦ or_right (is_interface classes s || is_interface classes t) (fits classes s t || fits classes t s) (or_right (fits classes s t) (fits classes t s) (back.1 f))
            | inr i ↦ or_left (is_interface classes s || is_interface classes t) (fits classes s t || fits classes t s) (elim i [
              | inl a ↦ or_left (is_interface classes s) (is_interface classes t) ((is_interface_exactly classes s).1 a)
              | inr a ↦ or_right (is_interface classes s) (is_interface classes t) ((is_interface_exactly classes t).1 a)
            ])
          ]
        ])),
  )
    where
      to : (fits classes s t ≡ true) ↔ Fits classes s t
      to = fits_exactly classes fields methods lawful s t p

      back : (fits classes t s ≡ true) ↔ Fits classes t s
      back = fits_exactly classes fields methods lawful t s q

  pub are_equable_exactly : (s t : Ty) → Within s → Within t → (are_equable classes s t ≡ true) ↔ AreEquable classes s t
  are_equable_exactly s t p q = (
    (λ e. elim (or_cases (are_numbers s t) (are_truths s t || are_related classes s t) e) [
      | inl n ↦ let h = (numbers s t).0 n in spec.AreEquable.numbers s t h.0 h.1
      | inr x ↦ elim (or_cases (are_truths s t) (are_related classes s t) x) [
        | inl n ↦ bools s t ((truths s t).0 n)
        | inr r ↦ spec.AreEquable.references s t ((are_related_exactly s t p q).0 r)
      ]
    ]),
    of s t p q,
  )
    where
      bools : (s t : Ty) → AreTruths s t → AreEquable classes s t
      bools s t h = subst (λ u. AreEquable classes u t) (sym h.0) (subst (AreEquable classes ty.Bool) (sym h.1) spec.AreEquable.truths)

      of : (s t : Ty) → Within s → Within t → AreEquable classes s t → are_equable classes s t ≡ true
      of s t p q (spec.AreEquable.numbers u v a b) = or_left (are_numbers u v) (are_truths u v || are_related classes u v) ((numbers u v).1 (a, b))
      of s t p q spec.AreEquable.truths = refl
      of s t p q (spec.AreEquable.references u v r) = or_right (are_numbers u v) (are_truths u v || are_related classes u v) (or_right (are_truths u v) (are_related classes u v) ((are_related_exactly u v p q).1 r))

  pub may_cast_exactly : (s t : Ty) → Within s → Within t → (may_cast classes s t ≡ true) ↔ Casts classes s t
  may_cast_exactly s t p q = (
    (λ e. elim (or_cases (are_numbers s t) (are_related classes s t) e) [
      | inl n ↦ let h = (numbers s t).0 n in spec.Casts.numbers s t h.0 h.1
      | inr r ↦ spec.Casts.references s t ((are_related_exactly s t p q).0 r)
    ]),
    of s t p q,
  )
    where
      of : (s t : Ty) → Within s → Within t → Casts classes s t → may_cast classes s t ≡ true
      of s t p q (spec.Casts.numbers u v a b) = or_left (are_numbers u v) (are_related classes u v) ((numbers u v).1 (a, b))
      of s t p q (spec.Casts.references u v r) = or_right (are_numbers u v) (are_related classes u v) ((are_related_exactly u v p q).1 r)

  pub makes_exactly : (k : Kind) (s t r : Ty) → Within s → Within t → (makes classes k s t ≡ Some r) ↔ Makes classes k s t r
  makes_exactly Arithmetic s t r p q = exactly (Makes classes Arithmetic s t) (Takes classes Arithmetic s t) (wider s t) (are_numbers s t) (numbers s t) (unique.makes classes Arithmetic s t) (made_of classes Arithmetic s t) r
  makes_exactly Order s t r p q = exactly (Makes classes Order s t) (Takes classes Order s t) ty.Bool (are_numbers s t) (numbers s t) (unique.makes classes Order s t) (made_of classes Order s t) r
  makes_exactly Equality s t r p q = exactly (Makes classes Equality s t) (Takes classes Equality s t) ty.Bool (are_equable classes s t) (are_equable_exactly s t p q) (unique.makes classes Equality s t) (made_of classes Equality s t) r
  makes_exactly Logic s t r p q = exactly (Makes classes Logic s t) (Takes classes Logic s t) ty.Bool (are_truths s t) (truths s t) (unique.makes classes Logic s t) (made_of classes Logic s t) r

  fits_as_value_exactly : (s t : Ty) → Within s → (fits_as_value classes s t ≡ true) ↔ ((t ≡ ty.Void → ⊥) × Fits classes s t)
  fits_as_value_exactly s t p =
      let f = fits_exactly classes fields methods lawful s t p in (
        (λ e. let h = and_parts (has_values t) (fits classes s t) e in ((λ v. true≢false (sym h.0 ∙ ap has_values v)), f.0 h.1)),
        (λ x. and_from (has_values t) (fits classes s t) (values t x.0) (f.1 x.1)),
      )

  -- the wider of two numbers is the one that the other fits
  wider_second : (s t : Ty) → AreNumbers s t → Fit classes s t → wider s t ≡ t
  wider_second ty.Int ty.Int h f = refl
  wider_second ty.Int ty.Long h f = refl
  wider_second ty.Long ty.Long h f = refl
  wider_second ty.Long ty.Int h f = f
  wider_second ty.Int t h f = never h.1
  wider_second ty.Long t h f = never h.1
  wider_second s t h f = never h.0

  wider_first : (s t : Ty) → AreNumbers s t → Fit classes t s → wider s t ≡ s
  wider_first ty.Int ty.Int h f = refl
  wider_first ty.Int ty.Long h f = f
  wider_first ty.Long ty.Long h f = refl
  wider_first ty.Long ty.Int h f = refl
  wider_first ty.Int t h f = never h.1
  wider_first ty.Long t h f = never h.1
  wider_first s t h f = never h.0

  pub chooses_exactly : (s t r : Ty) → Within s → Within t → (chooses classes s t ≡ Some r) ↔ Chooses classes s t r
  chooses_exactly s t r p q = (
    decided (wider s t) t s (Chooses classes s t) (are_numbers s t) (fits_as_value classes s t) (fits_as_value classes t s)
        (λ e. let h = (numbers s t).0 e in spec.Chooses.numbers s t h.0 h.1)
        (λ e. let h = (fits_as_value_exactly s t p).0 e in spec.Chooses.second s t h.0 h.1)
        (λ e. let h = (fits_as_value_exactly t s q).0 e in spec.Chooses.first s t h.0 h.1) r,
    of s t r p q,
  )
    where
      to_fit : (s t : Ty) → Fits classes s t → Fit classes s t
      to_fit s t f = fit_of classes fields methods lawful.program s t f

      of : (s t r : Ty) → Within s → Within t → Chooses classes s t r → chooses classes s t ≡ Some r
      of s t r p q (spec.Chooses.numbers u v a b) = ap (λ c. if c then Some (wider u v) else if fits_as_value classes u v then Some v else then_some (fits_as_value classes v u) u) ((numbers u v).1 (a, b))
      of s t r p q (spec.Chooses.second u v n f) =
          second_of (wider u v) v u (are_numbers u v) (fits_as_value classes u v) (fits_as_value classes v u)
          (λ e. wider_second u v ((numbers u v).0 e) (to_fit u v f)) ((fits_as_value_exactly u v p).1 (n, f))
      of s t r p q (spec.Chooses.first u v n f) =
          first_of (wider u v) v u (are_numbers u v) (fits_as_value classes u v) (fits_as_value classes v u)
          (λ e. wider_first u v ((numbers u v).0 e) (to_fit v u f))
          (λ e. fits_both classes fields methods lawful.program v u f ((fits_as_value_exactly u v p).0 e).1)
          ((fits_as_value_exactly v u q).1 (n, f))
