-- What fits in the machine integers, and what their comparisons say.
use Rattle.std.proofs.Common.{◌≡◌, ◌≤◌, ◌^◌, ℤ, ◌+ℤ◌, FitsSigned, to_z, of_z, w64, arith, sym, ◌∙◌, ap, subst, nat_eq}
use mir.Syntax.{w128}
use lib.Signed.{nat_abs-le}
use Rattle.std.specs.Prelude.{unsigned_abs, IsTrue, ◌↔◌}
use Rattle.std.proofs.lemmas.Int.{ints, to_z-of_z}
use Rattle.std.proofs.lemmas.Bool.Decides.{nat_tests}

pub size_of_i64 : (x : ℤ) → FitsSigned w64 x → unsigned_abs x ≤ 2 ^ 63
size_of_i64 x h = nat_abs-le x h.sfits

pub fits_wider : (x : ℤ) → FitsSigned w64 x → FitsSigned w128 x
fits_wider x h = record { sfits = omega (arith, h.sfits) }

pub sum_within : (x y : ℤ) → unsigned_abs x ≤ 2 ^ 125 → unsigned_abs y ≤ 2 ^ 125 → FitsSigned w128 (x +ℤ y)
sum_within x y p q = omega (arith, ints)

-- two numbers of the width are equal where their bits are
pub equal_by_bits : (x y : ℤ) → FitsSigned w128 x → FitsSigned w128 y → of_z w128 x ≡ of_z w128 y → x ≡ y
equal_by_bits x y p q e = sym (to_z-of_z w128 x p) ∙ ap (to_z w128) e ∙ to_z-of_z w128 y q

-- what a comparison of two numbers says
pub equality_test : (x y : ℤ) → FitsSigned w128 x → FitsSigned w128 y → IsTrue (nat_eq (of_z w128 x) (of_z w128 y)) ↔ (x ≡ y)
equality_test x y p q = (
  (λ t. equal_by_bits x y p q (grind (arith, nat_tests))),
  (λ e. let same : of_z w128 x ≡ of_z w128 y = ap (of_z w128) e in grind (arith, nat_tests)),
)

-- whether one number is the sum of two, which are A and B
pub sum_is_test : (left right made A B D : ℤ) → FitsSigned w128 left → FitsSigned w128 right → FitsSigned w128 made → FitsSigned w128 (left +ℤ right)
    → left ≡ A → right ≡ B → made ≡ D → IsTrue (nat_eq (of_z w128 made) (of_z w128 (to_z w128 (of_z w128 left) +ℤ to_z w128 (of_z w128 right)))) ↔ (D ≡ A +ℤ B)
sum_is_test left right made A B D fl fr fm fs l r m =
    let plain : to_z w128 (of_z w128 left) +ℤ to_z w128 (of_z w128 right) ≡ left +ℤ right = simp to_z-of_z in
    let sums : left +ℤ right ≡ A +ℤ B = cc in
    let test : IsTrue (nat_eq (of_z w128 made) (of_z w128 (left +ℤ right))) ↔ (made ≡ left +ℤ right) = equality_test made (left +ℤ right) fm fs in
    subst (λ z. IsTrue (nat_eq (of_z w128 made) (of_z w128 z)) ↔ (D ≡ A +ℤ B)) (sym plain)
    ((λ t. sym m ∙ test.0 t ∙ sums), (λ e. test.1 (m ∙ e ∙ sym sums)))
