use Rattle.std.proofs.Common.{◌≤◌, ◌<◌, ◌^◌, ◌+◌, ℤ, pos, FitsSigned, to_z, length, get_or, drop, sym, ap, ◌∙◌, arith}
use mir.Syntax.{w64, w128}
use Rattle.std.specs.Prelude.{unsigned_abs}
use Rattle.std.proofs.lemmas.Int.{to_z-of_z, fits_signed_from_abs}
use Rattle.std.proofs.lemmas.List.{at_drop_more}
use Rattle.jesc_linear.specs.Forms.{Form}
use Rattle.jesc_linear.specs.Courses.{and_then}
use Rattle.jesc_linear.specs.Elimination as spec
use Rattle.jesc_linear.proofs.Allowing.{sum_with}
use Rattle.jesc_linear.proofs.back.sum_without.Goals as goal

pub loop-part-preserved : goal.loop-part-preserved
loop-part-preserved c =
    let form = c.args.form.now in
    let term = c.args.term in
    let k = c.loop-part.part-index in
    let part = get_or form k (pos 0, 0) in
    let rest = drop (k + 1) form in
    let old = to_z w128 c.loop-part.sum-bits in
    let new = c.in_ok-sum.sum in
    let value = c.value_of.result in
    let here : k < length form = c.loop-part-test.true in
    let short : unsigned_abs part.0 ≤ 2 ^ 31 = c.requires.form k (pos 0, 0) here in
    let fk : FitsSigned w64 part.0 = fits_signed_from_abs w64 part.0 (omega (arith, short)) in
    let fv : FitsSigned w128 value = record { sfits = c.value_of.type_inv } in
    let small : unsigned_abs new ≤ 2 ^ 125 = c.in_ok-sum.ensures.size in
    let fs : FitsSigned w128 new = fits_signed_from_abs w128 new (omega (arith, small)) in
    let course = simp to_z-of_z at c.in_ok-sum.ensures.course in
    record {
      size = simp to_z-of_z small;
      course = λ found has.
          c.loop-part.invariant.course found has
          ∙ (at_drop_more (λ (f : Form). spec.sum_without found term old f) form k (pos 0, 0) here
          ∙ (sum_with found term old part rest value c.if-part-term.false (c.value_of.ensures ∙ has part.1)
          ∙ (ap (λ s. and_then s (λ more. spec.sum_without found term more rest)) course
          ∙ ap (λ (x : ℤ). spec.sum_without found term x rest) (sym (to_z-of_z w128 new fs)))));
    }
