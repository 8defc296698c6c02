use Rattle.std.proofs.Common.{◌≡◌, ℤ, ◌≤◌, ◌<◌, ◌^◌, pos, take, get_or, slice_get, Err, sym, subst, ap, ◌∙◌, arith, to_z, of_z, w64}
use Rattle.std.proofs.lemmas.Int.{to_z-of_z, fits_signed_from_abs}
use Rattle.std.proofs.lemmas.List.{take_more, take_all}
use Rattle.std.proofs.lemmas.List.Elements.{All-push}
use Rattle.std.proofs.lemmas.Option.{slice_get-get_or}
use Rattle.std.specs.Int.{w128}
use Rattle.std.specs.Prelude.{unsigned_abs, All}
use Rattle.jesc_linear.specs.Forms.{Form}
use Rattle.jesc_clauses.specs.Merges.{IsWithin, OnWide}
use Rattle.jesc_clauses.specs.Sums.{capped}
use Rattle.jesc_clauses.specs.Normals.{IsShort}
use Rattle.jesc_clauses.specs.Comparisons.{IsWideAtom}
use Rattle.jesc_clauses.proofs.Comparing.{wide_part, wide_bound}
use Rattle.jesc_clauses.proofs.comparison.look_at_atom.Goals as goal

plain : (x : ℤ) → unsigned_abs x ≤ 2 ^ 33 → to_z w64 (of_z w64 x) ≡ x
plain x h = to_z-of_z w64 x (fits_signed_from_abs w64 x (omega (arith, h)))

wider : (x : ℤ) → unsigned_abs x ≤ 2 ^ 33 → to_z w128 (of_z w128 (to_z w64 (of_z w64 x))) ≡ x
wider x h = ap (λ z. to_z w128 (of_z w128 z)) (plain x h) ∙ to_z-of_z w128 x (fits_signed_from_abs w128 x (omega (arith, h)))

pub returns-then-unsigned_abs-gt-MOST_COEFFICIENT-clause-wide : goal.returns-then-unsigned_abs-gt-MOST_COEFFICIENT-clause-wide
returns-then-unsigned_abs-gt-MOST_COEFFICIENT-clause-wide c =
    let items = c.as_slice-part-items.result.now in
    let k = c.loop-part.part-index in
    let part = get_or items k (pos 0, 0) in
    let short : unsigned_abs part.0 ≤ 2 ^ 33 = subst (λ (f : Form). All IsShort f) (sym c.as_slice-part-items.ensures) c.requires.coefficients k (pos 0, 0) c.loop-part-test.true in
    let size = c.unsigned_abs.ensures.value ∙ ap unsigned_abs (plain part.0 short) in
    subst (IsWideAtom c.args.atom.now) (sym (wider part.0 short))
    (wide_part c.args.atom.now k part.1 part.0 (ap (λ (f : Form). slice_get f k) (sym c.as_slice-part-items.ensures) ∙ slice_get-get_or items k (pos 0, 0) c.loop-part-test.true)
    (let test = c.if-unsigned_abs-gt-MOST_COEFFICIENT.true in omega (arith, size, test)) (omega (arith, short)))

pub loop-part-preserved : goal.loop-part-preserved
loop-part-preserved c =
    let items = c.as_slice-part-items.result.now in
    let k = c.loop-part.part-index in
    let part = get_or items k (pos 0, 0) in
    let short : unsigned_abs part.0 ≤ 2 ^ 33 = subst (λ (f : Form). All IsShort f) (sym c.as_slice-part-items.ensures) c.requires.coefficients k (pos 0, 0) c.loop-part-test.true in
    let size = c.unsigned_abs.ensures.value ∙ ap unsigned_abs (plain part.0 short) in
    subst (λ (f : Form). All (IsWithin (2 ^ 31)) f) (sym (take_more items k (pos 0, 0) c.loop-part-test.true))
    (All-push (IsWithin (2 ^ 31)) (take k items) part c.loop-part.invariant (let test = c.if-unsigned_abs-gt-MOST_COEFFICIENT.false in omega (arith, size, test)))

pub returns-in-Ok-clause-narrow : goal.returns-in-Ok-clause-narrow
returns-in-Ok-clause-narrow c = record {
  within = subst (λ (f : Form). All (IsWithin (2 ^ 31)) f) (take_all c.loop-part.part-index c.as_slice-part-items.result.now c.loop-part-test.false ∙ c.as_slice-part-items.ensures) c.loop-part.invariant;
  small = subst (λ (z : ℤ). unsigned_abs z ≤ 2 ^ 94) (to_z-of_z w128 c.args.atom.now.bound (fits_signed_from_abs w128 c.args.atom.now.bound (let h = c.requires.small in omega (arith, h)))) c.in-Ok.ensures.small.1;
}

pub returns-in-Err-clause-wide : goal.returns-in-Err-clause-wide
returns-in-Err-clause-wide c =
    let bound = c.args.atom.now.bound in
    let is : to_z w128 (of_z w128 bound) ≡ bound = to_z-of_z w128 bound (fits_signed_from_abs w128 bound (let h = c.requires.small in omega (arith, h))) in
    wide_bound c.args.atom.now c.in-Err.e (subst (λ (z : ℤ). OnWide {T = ℤ} (λ m. (m ≡ capped z) × (2 ^ 94 < unsigned_abs z)) (Err c.in-Err.e)) is c.in-Err.ensures.wide)
