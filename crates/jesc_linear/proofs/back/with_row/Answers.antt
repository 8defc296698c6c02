use Rattle.std.proofs.Common.{◌≡◌, ◌≤◌, ◌^◌, ℤ, FitsSigned, to_z, of_z, Ok, Err, subst, sym, ap, ◌∙◌, arith}
use mir.Syntax.{w64, w128}
use Rattle.std.specs.Prelude.{unsigned_abs}
use Rattle.std.proofs.lemmas.Int.{to_z-of_z, fits_signed_from_abs}
use Rattle.jesc_linear.specs.declared.rows.Row.{Row}
use Rattle.jesc_linear.specs.declared.back.Limits.{Limits}
use Rattle.jesc_linear.specs.Forms.{Form, coefficient_of}
use Rattle.jesc_linear.specs.Courses.{and_then}
use Rattle.jesc_linear.specs.Elimination as spec
use Rattle.jesc_linear.specs.Tables.{Looks, entry_of, row_at}
use Rattle.jesc_linear.specs.Limits.{limits_in}
use Rattle.jesc_linear.proofs.Allowing.{row_read}
use Rattle.jesc_linear.proofs.Endings.{stops_look}
use Rattle.jesc_linear.proofs.back.with_row.Goals as goal

pub returns-in_err-left : goal.returns-in_err-left
returns-in_err-left c =
    let log = c.args.log.now in
    let term = c.args.term in
    let slot = c.args.slot in
    let stop = c.in_err-left.field-0.0 in
    let row = row_read log slot.at c.index-log-slot.result c.requires.slot.there in
    λ found has.
    let look = subst (λ (r : Row). Looks (λ (left : ℤ). left) (spec.slack found term r) (Err stop)) row (c.in_err-left.ensures.course found has) in
    stops_look {D = Limits} (λ (left : ℤ). left) (limits_in log) (spec.slack found term (row_at log slot.at))
    (λ left. Ok (spec.tightened term (entry_of log slot) left (limits_in log c.args.limits))) stop c.from_residual.result c.from_residual.ensures.1 look

pub returns : goal.returns
returns c =
    let log = c.args.log.now in
    let term = c.args.term in
    let slot = c.args.slot in
    let left = c.in_ok-left.left in
    let k = c.coefficient.result in
    let row = row_read log slot.at c.index-log-slot.result c.requires.slot.there in
    let fk : FitsSigned w64 k = record { sfits = c.coefficient.type_inv } in
    let small : unsigned_abs left ≤ 2 ^ 126 = c.in_ok-left.ensures.size in
    let fl : FitsSigned w128 left = fits_signed_from_abs w128 left (omega (arith, small)) in
    let is : to_z w64 (of_z w64 k) ≡ coefficient_of (row_at log slot.at).form term =
    to_z-of_z w64 k fk ∙ (c.coefficient.ensures ∙ ap (λ (f : Form). coefficient_of f term) (c.as_slice.ensures ∙ ap (λ (r : Row). r.form) row)) in
    let made = simp to_z-of_z at (c.tightened.ensures log term (sym is)) in
    λ found has.
    let slack = subst (λ (r : Row). spec.slack found term r ≡ Ok left) row (c.in_ok-left.ensures.course found has) in
    ap (λ s. and_then s (λ (left : ℤ). Ok (spec.tightened term (entry_of log slot) left (limits_in log c.args.limits)))) slack ∙ sym (ap Ok made)
