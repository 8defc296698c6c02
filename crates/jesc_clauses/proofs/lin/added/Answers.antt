use Rattle.std.proofs.Common.{◌≡◌, ℕ, ◌^◌, ◌≤◌, ℤ, pos, ap, ◌∙◌, subst, arith, ◌+ℤ◌, Err, List, to_z, of_z, FitsSigned}
use Rattle.std.proofs.lemmas.Int.{ints, to_z-of_z, fits_signed_from_abs}
use Rattle.std.specs.Int.{w128}
use Rattle.std.specs.Prelude.{unsigned_abs}
use Rattle.jesc_linear.specs.Forms.{Form, value}
use Rattle.jesc_clauses.specs.declared.lin.Lin.{Lin}
use Rattle.jesc_clauses.specs.Merges.{OnWide, only_at, IsTogether, IsWideTogether}
use Rattle.jesc_clauses.proofs.Wide.{handed, wide_form, multiples_once, added_made}
use Rattle.jesc_clauses.proofs.lin.added.Goals as goal

pub returns-in_err-form-clause-wide : goal.returns-in_err-form-clause-wide
returns-in_err-form-clause-wide c =
    let f = c.args.x.now.form in
    let g = c.args.y.now.form in
    let w : OnWide {T = List (ℤ × ℕ)} (IsWideTogether (2 ^ 31) (pos 1) f (pos 1) g) (Err c.in_err-form.field-0.0) =
    subst (λ (x : Form). OnWide {T = List (ℤ × ℕ)} (IsWideTogether (2 ^ 31) (pos 1) x (pos 1) g) (Err c.in_err-form.field-0.0)) c.as_slice.ensures
    (subst (λ (x : Form). OnWide {T = List (ℤ × ℕ)} (IsWideTogether (2 ^ 31) (pos 1) c.as_slice.result.now (pos 1) x) (Err c.in_err-form.field-0.0)) c.as_slice-2.ensures c.in_err-form.ensures.wide) in
    handed Lin (List (ℤ × ℕ)) _ _ (wide_form (pos 1) f (pos 1) g (λ i. value (only_at i) f +ℤ value (only_at i) g) _ (λ i. multiples_once (only_at i) f g)) c.from_residual-in_err-form.result c.in_err-form.field-0.0 c.from_residual-in_err-form.ensures.1 w

sum_fits : (x y : ℤ) → unsigned_abs x ≤ 2 ^ 94 → unsigned_abs y ≤ 2 ^ 94 → FitsSigned w128 (x +ℤ y)
sum_fits x y p q = omega (arith, ints)

one_fits : (x : ℤ) → unsigned_abs x ≤ 2 ^ 94 → to_z w128 (of_z w128 x) ≡ x
one_fits x p = to_z-of_z w128 x (fits_signed_from_abs w128 x (omega (arith, p)))

-- the sum as the code computes it
sum_is : (x y : ℤ) → unsigned_abs x ≤ 2 ^ 94 → unsigned_abs y ≤ 2 ^ 94 → to_z w128 (of_z w128 (to_z w128 (of_z w128 x) +ℤ to_z w128 (of_z w128 y))) ≡ x +ℤ y
sum_is x y p q = ap (λ z. to_z w128 (of_z w128 z)) (λ i. one_fits x p i +ℤ one_fits y q i) ∙ to_z-of_z w128 (x +ℤ y) (sum_fits x y p q)

pub returns-clause-made : goal.returns-clause-made
returns-clause-made c =
    let x = c.args.x.now in
    let y = c.args.y.now in
    let together : IsTogether (2 ^ 31) (pos 1) x.form (pos 1) y.form c.in_ok-form.form = subst (λ (f : Form). IsTogether (2 ^ 31) (pos 1) f (pos 1) y.form c.in_ok-form.form) c.as_slice.ensures
    (subst (λ (f : Form). IsTogether (2 ^ 31) (pos 1) c.as_slice.result.now (pos 1) f c.in_ok-form.form) c.as_slice-2.ensures c.in_ok-form.ensures.together) in
    let small = c.in_ok-constant.ensures.small in
    let is = sum_is x.constant y.constant c.requires.x.constant c.requires.y.constant in
    let few : unsigned_abs (x.constant +ℤ y.constant) ≤ 2 ^ 94 = subst (λ (z : ℤ). unsigned_abs z ≤ 2 ^ 94) is small.1 in
    let e : c.in_ok-constant.constant ≡ x.constant +ℤ y.constant = small.0 ∙ is in
    added_made x y _ together (ap (λ z. to_z w128 (of_z w128 z)) e ∙ one_fits (x.constant +ℤ y.constant) few) few
