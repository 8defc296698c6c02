use Rattle.std.proofs.Common.{◌≡◌, ℕ, ◌^◌, ◌≤◌, ℤ, pos, ap, ◌∙◌, subst, arith, ◌*ℤ◌, Err, List, to_z, of_z}
use Rattle.std.proofs.lemmas.Int.{to_z-of_z, fits_signed_from_abs}
use Rattle.std.specs.Int.{w128}
use Rattle.std.specs.Prelude.{unsigned_abs}
use Rattle.jesc_linear.specs.Forms.{Form, value}
use Rattle.jesc_clauses.specs.declared.lin.Lin.{Lin}
use Rattle.jesc_clauses.specs.Merges.{OnWide, only_at, IsTogether, IsWideTogether}
use Rattle.jesc_clauses.proofs.Wide.{handed, wide_form, multiples_one, multiplied_made}
use Rattle.jesc_clauses.proofs.lin.multiplied.Goals as goal

one_fits : (x : ℤ) → unsigned_abs x ≤ 2 ^ 94 → to_z w128 (of_z w128 x) ≡ x
one_fits x p = to_z-of_z w128 x (fits_signed_from_abs w128 x (omega (arith, p)))

pub returns-in_err-form-clause-wide : goal.returns-in_err-form-clause-wide
returns-in_err-form-clause-wide c =
    let f = c.args.x.now.form in
    let k = c.args.k in
    let w : OnWide {T = List (ℤ × ℕ)} (IsWideTogether (2 ^ 31) k f (pos 0) f) (Err c.in_err-form.field-0.0) =
    subst (λ (x : Form). OnWide {T = List (ℤ × ℕ)} (IsWideTogether (2 ^ 31) k x (pos 0) f) (Err c.in_err-form.field-0.0)) c.as_slice.ensures
    (subst (λ (x : Form). OnWide {T = List (ℤ × ℕ)} (IsWideTogether (2 ^ 31) k c.as_slice.result.now (pos 0) x) (Err c.in_err-form.field-0.0)) c.as_slice-2.ensures
    (subst (λ (j : ℤ). OnWide {T = List (ℤ × ℕ)} (IsWideTogether (2 ^ 31) j c.as_slice.result.now (pos 0) c.as_slice-2.result.now) (Err c.in_err-form.field-0.0)) (one_fits k c.requires.k) c.in_err-form.ensures.wide)) in
    handed Lin (List (ℤ × ℕ)) _ _ (wide_form k f (pos 0) f (λ i. k *ℤ value (only_at i) f) _ (λ i. multiples_one (only_at i) k f f)) c.from_residual-in_err-form.result c.in_err-form.field-0.0 c.from_residual-in_err-form.ensures.1 w

pub returns-clause-made : goal.returns-clause-made
returns-clause-made c =
    let x = c.args.x.now in
    let k = c.args.k in
    let together : IsTogether (2 ^ 31) k x.form (pos 0) x.form c.in_ok-form.form = subst (λ (f : Form). IsTogether (2 ^ 31) k f (pos 0) x.form c.in_ok-form.form) c.as_slice.ensures
    (subst (λ (f : Form). IsTogether (2 ^ 31) k c.as_slice.result.now (pos 0) f c.in_ok-form.form) c.as_slice-2.ensures
    (subst (λ (j : ℤ). IsTogether (2 ^ 31) j c.as_slice.result.now (pos 0) c.as_slice-2.result.now c.in_ok-form.form) (one_fits k c.requires.k) c.in_ok-form.ensures.together)) in
    let small = c.in_ok-constant.ensures.small in
    let is : to_z w128 (of_z w128 k) *ℤ to_z w128 (of_z w128 x.constant) ≡ k *ℤ x.constant = λ i. one_fits k c.requires.k i *ℤ one_fits x.constant c.requires.x.constant i in
    let few : unsigned_abs (k *ℤ x.constant) ≤ 2 ^ 94 = subst (λ (z : ℤ). unsigned_abs z ≤ 2 ^ 94) is small.1 in
    let e : c.in_ok-constant.constant ≡ k *ℤ x.constant = small.0 ∙ is in
    multiplied_made k x _ together (ap (λ z. to_z w128 (of_z w128 z)) e ∙ one_fits (k *ℤ x.constant) few) few
