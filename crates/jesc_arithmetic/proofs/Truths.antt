-- Each fact is true in every structure.
use Rattle.std.proofs.Common.{◌≡◌, ◌≢◌, Bool, true, false, not, ◌&&◌, ◌||◌, ℤ, pos, negsuc, ◌+ℤ◌, ◌*ℤ◌, List, All, IsTrue, refl, sym, ap, ◌∙◌, subst, arith, if◌then◌else◌}
use Rattle.std.specs.Prelude.{◌≤ℤ◌, int_le, int_div, int_rem}
use Rattle.std.specs.Bool.{Decides}
use Rattle.std.specs.List.{AllByRecursion as ByRecursion}
use Rattle.std.specs.Ordering.{int_eq}
use Rattle.std.proofs.lemmas.Int.{ints, quot-rem}
use Rattle.std.proofs.lemmas.Bool.Decides.{Decides-int_eq, Decides-not, Decides-and, Decides-or}
use Rattle.std.proofs.lemmas.List.Elements.{All-from_recursion}
use Rattle.std.proofs.Math.IntN.{*ℤ_comm}
use Rattle.jesc_logic.specs.Terms.{Term}
use Rattle.jesc_logic.specs.Claims.{Claim}
use Rattle.jesc_logic.specs.Structures.{Structure, value, is_true, quotient, remainder}
use Rattle.jesc_arithmetic.specs.Arithmetic.{product_of, quotient_of, remainder_of, product_facts, quotient_facts, remainder_facts, division_fact}
use Rattle.jesc_arithmetic.proofs.Tests.{Decides-int_le, implied}
use Rattle.jesc_arithmetic.proofs.Products.{times_zero, both_positive, both_negative, first_positive, first_negative}
use Rattle.jesc_arithmetic.proofs.Quotients.{divided_up, divided_down, turned_down, turned_up, left_up, left_down, left_below, left_below_turned}

-- ---- of whole numbers

le : (x y : ℤ) → Decides (int_le x y) (x ≤ℤ y)
le = Decides-int_le

two : (a b c d : ℤ) → Decides (int_le a b && int_le c d) ((a ≤ℤ b) × (c ≤ℤ d))
two a b c d = Decides-and (int_le a b) (int_le c d) (le a b) (le c d)

zero_product : (x y : ℤ) → IsTrue (not (int_eq x (pos 0) || int_eq y (pos 0)) || int_eq (x *ℤ y) (pos 0))
zero_product x y = implied _ _ (Decides-or (int_eq x (pos 0)) (int_eq y (pos 0)) (Decides-int_eq x (pos 0)) (Decides-int_eq y (pos 0))) (Decides-int_eq (x *ℤ y) (pos 0)) (times_zero x y)

-- where one comparison and another hold, so do a third and a fourth
bounded : (a b c d e f g h : ℤ) → (a ≤ℤ b → c ≤ℤ d → (e ≤ℤ f) × (g ≤ℤ h)) → IsTrue (not (int_le a b && int_le c d) || (int_le e f && int_le g h))
bounded a b c d e f g h k = implied _ _ (two a b c d) (two e f g h) (λ p. k p.0 p.1)

-- the same with other tests
premised : {F G : Type 0} (f g : Bool) (e h k l : ℤ) → Decides f F → Decides g G → (F → G → (e ≤ℤ h) × (k ≤ℤ l)) → IsTrue (not (f && g) || (int_le e h && int_le k l))
premised f g e h k l p q r = implied _ _ (Decides-and f g p q) (two e h k l) (λ t. r t.0 t.1)

between : (a b e f g h : ℤ) → (a ≤ℤ b → (¬ (e ≤ℤ f)) × (¬ (g ≤ℤ h))) → IsTrue (not (int_le a b) || (not (int_le e f) && not (int_le g h)))
between a b e f g h k = implied _ _ (le a b) (Decides-and (not (int_le e f)) (not (int_le g h)) (Decides-not (int_le e f) (le e f)) (Decides-not (int_le g h) (le g h))) k

is_zero_not : (y : ℤ) → Decides (not (int_eq y (pos 0))) (¬ (y ≡ pos 0))
is_zero_not y = Decides-not (int_eq y (pos 0)) (Decides-int_eq y (pos 0))

-- ---- by a number other than 0

no_zero : (y : ℤ) → y ≢ pos 0 → int_eq y (pos 0) ≡ false
no_zero y h = by (int_eq y (pos 0)) refl
  where
    by : (b : Bool) → int_eq y (pos 0) ≡ b → int_eq y (pos 0) ≡ false
    by true e = absurd (h ((Decides-int_eq y (pos 0)).0 e))
    by false e = e

quotient_is : (x y : ℤ) → y ≢ pos 0 → quotient x y ≡ int_div x y
quotient_is x y h = ap (λ b. if b then pos 0 else int_div x y) (no_zero y h)

remainder_is : (x y : ℤ) → y ≢ pos 0 → remainder x y ≡ int_rem x y
remainder_is x y h = ap (λ b. if b then pos 0 else int_rem x y) (no_zero y h)

positive : (y : ℤ) → pos 1 ≤ℤ y → y ≢ pos 0
positive y h e = absurd (omega (arith, ints))

negative : (y : ℤ) → y ≤ℤ negsuc 0 → y ≢ pos 0
negative y h e = absurd (omega (arith, ints))

-- the quotient has the bounds that the division has
bounds_quotient : (x y a b : ℤ) → y ≢ pos 0 → (a ≤ℤ int_div x y) × (int_div x y ≤ℤ b) → (a ≤ℤ quotient x y) × (quotient x y ≤ℤ b)
bounds_quotient x y a b h = subst (λ q. (a ≤ℤ q) × (q ≤ℤ b)) (sym (quotient_is x y h))

bounds_remainder : (x y a b : ℤ) → y ≢ pos 0 → (a ≤ℤ int_rem x y) × (int_rem x y ≤ℤ b) → (a ≤ℤ remainder x y) × (remainder x y ≤ℤ b)
bounds_remainder x y a b h = subst (λ r. (a ≤ℤ r) × (r ≤ℤ b)) (sym (remainder_is x y h))

beside_remainder : (x y a b : ℤ) → y ≢ pos 0 → (¬ (int_rem x y ≤ℤ a)) × (¬ (b ≤ℤ int_rem x y)) → (¬ (remainder x y ≤ℤ a)) × (¬ (b ≤ℤ remainder x y))
beside_remainder x y a b h = subst (λ r. (¬ (r ≤ℤ a)) × (¬ (b ≤ℤ r))) (sym (remainder_is x y h))

whole : (x y : ℤ) → y ≢ pos 0 → x ≡ y *ℤ quotient x y +ℤ remainder x y
whole x y h =
    sym (quot-rem x y) ∙ (λ i. *ℤ_comm (int_div x y) y i +ℤ int_rem x y) ∙ (λ i. y *ℤ sym (quotient_is x y h) i +ℤ sym (remainder_is x y h) i)

module _ (s : Structure) where
  abbrev pub AreTrue : List (Claim Term) → Type 0
  AreTrue facts = All (λ f. IsTrue (is_true s f)) facts

  -- a list whose items are true
  are_true : (facts : List (Claim Term)) → ByRecursion (λ f. IsTrue (is_true s f)) facts → AreTrue facts
  are_true = All-from_recursion (λ f. IsTrue (is_true s f))

  module _ (x y : Term) where
    abbrev pub a : ℤ
    a = value s x

    abbrev pub b : ℤ
    b = value s y

    pub products_true : AreTrue (product_facts x y (product_of x y))
    products_true =
        are_true (product_facts x y (product_of x y)) (
          zero_product a b,
          (
            bounded (pos 1) a (pos 1) b a (a *ℤ b) b (a *ℤ b) (both_positive a b),
            (
              bounded a (negsuc 0) b (negsuc 0) (negsuc 0 *ℤ a) (a *ℤ b) (negsuc 0 *ℤ b) (a *ℤ b) (both_negative a b),
              (
                bounded (pos 1) a b (negsuc 0) (a *ℤ b) (negsuc 0 *ℤ a) (a *ℤ b) b (first_positive a b),
                (
                  bounded a (negsuc 0) (pos 1) b (a *ℤ b) a (a *ℤ b) (negsuc 0 *ℤ b) (first_negative a b),
                  tt,
                ),
              ),
            ),
          ),
        )

    pub quotients_true : AreTrue (quotient_facts x y (quotient_of x y))
    quotients_true =
        let q = quotient a b in
        are_true (quotient_facts x y (quotient_of x y)) (
          bounded (pos 1) b (pos 0) a (pos 0) q q a (λ h k. bounds_quotient a b (pos 0) a (positive b h) (divided_up a b h k)),
          (
            bounded (pos 1) b a (pos 0) a q q (pos 0) (λ h k. bounds_quotient a b a (pos 0) (positive b h) (divided_down a b h k)),
            (
              bounded b (negsuc 0) (pos 0) a (negsuc 0 *ℤ a) q q (pos 0) (λ h k. bounds_quotient a b (negsuc 0 *ℤ a) (pos 0) (negative b h) (turned_down a b h k)),
              (
                bounded b (negsuc 0) a (pos 0) (pos 0) q q (negsuc 0 *ℤ a) (λ h k. bounds_quotient a b (pos 0) (negsuc 0 *ℤ a) (negative b h) (turned_up a b h k)),
                tt,
              ),
            ),
          ),
        )

    pub remainders_true : AreTrue (remainder_facts x y (remainder_of x y))
    remainders_true =
        let r = remainder a b in
        are_true (remainder_facts x y (remainder_of x y)) (
          premised _ _ (pos 0) r r a (is_zero_not b) (le (pos 0) a) (λ h k. bounds_remainder a b (pos 0) a h (left_up a b h k)),
          (
            premised _ _ a r r (pos 0) (is_zero_not b) (le a (pos 0)) (λ h k. bounds_remainder a b a (pos 0) h (left_down a b h k)),
            (
              between (pos 1) b r (negsuc 0 *ℤ b) b r (λ h. beside_remainder a b (negsuc 0 *ℤ b) b (positive b h) (left_below a b h)),
              (
                between b (negsuc 0) r b (negsuc 0 *ℤ b) r (λ h. beside_remainder a b b (negsuc 0 *ℤ b) (negative b h) (left_below_turned a b h)),
                tt,
              ),
            ),
          ),
        )

    pub division_true : b ≢ pos 0 → IsTrue (is_true s (division_fact x y))
    division_true h = (Decides-int_eq a (b *ℤ quotient a b +ℤ remainder a b)).1 (whole a b h)
