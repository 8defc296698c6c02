use Rattle.std.proofs.Common.{◌≡◌, ◌≤◌, ◌^◌, ℕ, ℤ, pos, sym, subst, ◌∙◌, ◌+ℤ◌, ◌*ℤ◌, FitsSigned, to_z, of_z, w64, arith}
use mir.Syntax.{w128}
use Rattle.std.specs.Prelude.{unsigned_abs, All, IfOk}
use Rattle.std.proofs.lemmas.Int.{to_z-of_z, fits_signed_from_abs}
use Rattle.jesc_linear.specs.declared.reduce.Quotient.{Quotient}
use Rattle.jesc_linear.specs.Forms.{Form, IsForm}
use Rattle.jesc_linear.specs.Steps.{IsNarrow}
use Rattle.jesc_linear.specs.Divisors.{divided, divisor_of}
use Rattle.jesc_linear.specs.Sums.{added}
use Rattle.jesc_linear.specs.Courses.{looked_at}
use Rattle.jesc_linear.specs.Tables.{Looks}
use Rattle.jesc_linear.proofs.Merging.{added_is_form, added_sizes}
use Rattle.jesc_linear.proofs.pairs.combined.Goals as goal
use Rattle.jesc_linear.proofs.pairs.combined.Goals.{After-as_slice-3}

small : (x : ℤ) (n : ℕ) → FitsSigned w64 x → unsigned_abs x ≤ n → unsigned_abs (to_z w64 (of_z w64 x)) ≤ n
small x n f h = subst (λ (z : ℤ). unsigned_abs z ≤ n) (sym (to_z-of_z w64 x f)) h

short : (x : ℤ) → unsigned_abs x ≤ 2 ^ 94 → unsigned_abs (to_z w128 (of_z w128 x)) ≤ 2 ^ 94
short x h = subst (λ (z : ℤ). unsigned_abs z ≤ 2 ^ 94) (sym (to_z-of_z w128 x (fits_signed_from_abs w128 x (omega (arith, h))))) h

pub added-requires : goal.added-requires
added-requires c = record {
  first = subst IsForm (sym c.as_slice.ensures) c.requires.first.form;
  second = subst IsForm (sym c.as_slice-2.ensures) c.requires.second.form;
  first_narrow = subst (All IsNarrow) (sym c.as_slice.ensures) c.requires.first.narrow;
  second_narrow = subst (All IsNarrow) (sym c.as_slice-2.ensures) c.requires.second.narrow;
  a = small c.args.a (2 ^ 31) c.ranges.a c.requires.a;
  b = small c.args.b (2 ^ 31) c.ranges.b c.requires.b;
}

pub combined_bound-bound-requires : goal.combined_bound-bound-requires
combined_bound-bound-requires c = record {
  a = small c.args.a (2 ^ 31) c.ranges.a c.requires.a;
  first = short c.args.first.now.bound c.requires.first.bound;
  b = small c.args.b (2 ^ 31) c.ranges.b c.requires.b;
  second = short c.args.second.now.bound c.requires.second.bound;
}

-- the form that was made is the sum
form_is : (c : After-as_slice-3) → c.as_slice-3.result.now ≡ added c.args.a c.args.first.now.form c.args.b c.args.second.now.form
form_is c = c.as_slice-3.ensures.value ∙ (c.in_ok-form.ensures ∙
    (λ i. added (to_z-of_z w64 c.args.a c.ranges.a i) (c.as_slice.ensures i) (to_z-of_z w64 c.args.b c.ranges.b i) (c.as_slice-2.ensures i)))

pub reduced-requires : goal.reduced-requires
reduced-requires c = record {
  form = subst IsForm (sym (form_is c)) (added_is_form c.args.a c.args.first.now.form c.args.b c.args.second.now.form);
  sizes = subst (All (λ part. unsigned_abs part.0 ≤ 2 ^ 63)) (sym (form_is c)) (added_sizes c.args.a c.args.first.now.form c.args.b c.args.second.now.form c.requires.a c.requires.b c.requires.first.narrow c.requires.second.narrow);
}

-- the bound that was made
bound_is : (c : After-as_slice-3) → to_z w128 (of_z w128 c.combined_bound-bound.result) ≡ c.args.a *ℤ c.args.first.now.bound +ℤ c.args.b *ℤ c.args.second.now.bound
bound_is c =
    let f1 : FitsSigned w128 c.args.first.now.bound = fits_signed_from_abs w128 c.args.first.now.bound (omega (arith, c.requires.first.bound)) in
    let f2 : FitsSigned w128 c.args.second.now.bound = fits_signed_from_abs w128 c.args.second.now.bound (omega (arith, c.requires.second.bound)) in
    to_z-of_z w128 c.combined_bound-bound.result (record { sfits = c.combined_bound-bound.type_inv }) ∙ (c.combined_bound-bound.ensures ∙
    (λ i. to_z-of_z w64 c.args.a c.ranges.a i *ℤ to_z-of_z w128 c.args.first.now.bound f1 i +ℤ to_z-of_z w64 c.args.b c.ranges.b i *ℤ to_z-of_z w128 c.args.second.now.bound f2 i))

pub returns-clause-course : goal.returns-clause-course
returns-clause-course c =
    subst (λ (b : ℤ). Looks (λ (q : Quotient). q.row) (looked_at (divided (record { form = added c.args.a c.args.first.now.form c.args.b c.args.second.now.form; bound = b }))) c.reduced.result) (bound_is c.before.before)
    (subst (λ (f : Form). Looks (λ (q : Quotient). q.row) (looked_at (divided (record { form = f; bound = to_z w128 (of_z w128 c.combined_bound-bound.result) }))) c.reduced.result) (form_is c.before.before) c.reduced.ensures.course)

pub returns-clause-divisor : goal.returns-clause-divisor
returns-clause-divisor c = subst (λ (f : Form). IfOk c.reduced.result (λ quotient. quotient.divisor ≡ pos (divisor_of f))) (form_is c.before.before) c.reduced.ensures.divisor
