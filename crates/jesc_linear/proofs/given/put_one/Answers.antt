use Rattle.std.proofs.Common.{pos, to_z, of_z, refl, sym, ◌∙◌, subst}
use mir.Syntax.{w128}
use Rattle.jesc_linear.specs.declared.rows.LinStep.{LinStep}
use Rattle.jesc_linear.specs.declared.reduce.Quotient.{Quotient}
use Rattle.jesc_linear.specs.Divisors.{divided}
use Rattle.jesc_linear.specs.Courses.{looked_at}
use Rattle.jesc_linear.specs.Elimination.{put_row}
use Rattle.jesc_linear.specs.Tables.{IsEnd, entries_of}
use Rattle.jesc_linear.proofs.Reductions.{looked_is_row}
use Rattle.jesc_linear.proofs.Pairing.{looks_then, handed_on}
use Rattle.jesc_linear.proofs.Givens.{put_one, given_derives, given_derives_from, divisor_fits, put_quotient, never_stops}
use Rattle.jesc_linear.proofs.given.put_one.Goals as goal

pub quotient_of-requires : goal.quotient_of-requires
quotient_of-requires c = looked_is_row c.args.row.now c.args.row.now c.requires.form c.in_ok-look_at.ensures

pub put-requires-clause-step : goal.put-requires-clause-step
put-requires-clause-step c =
    let row = c.args.row.now in
    let is = looked_is_row row row c.requires.form c.in_ok-look_at.ensures in
    let q = c.in_ok-quotient in
    let d = to_z w128 (of_z w128 q.quotient.divisor) in
    let step : LinStep = record { a = pos 1; i = c.args.number; b = pos 0; j = c.args.number; d = d; row = q.quotient.row } in
    given_derives_from c.args.rows.now c.args.table.now.log row c.args.number step c.requires.row refl refl
    (given_derives row q.quotient.row c.args.number d is (divisor_fits row q.quotient.divisor is q.ensures.divisor ∙ q.ensures.divisor) q.ensures.course)

pub returns-in_err-look_at-clause-course : goal.returns-in_err-look_at-clause-course
returns-in_err-look_at-clause-course c =
    let t = c.args.table.now in
    let row = c.args.row.now in
    let es = entries_of t.log t.slots.items in
    let s = c.in_err-look_at.field-0.0 in
    handed_on t.log _ (put_one c.args.number row es) s c.from_residual.result c.from_residual.ensures.1
    (looks_then (Unit {0}) t.log (λ u. row) (looked_at row) (λ same. put_row c.args.number (divided row) es) s c.in_err-look_at.ensures)

pub returns-in_err-quotient-clause-course : goal.returns-in_err-quotient-clause-course
returns-in_err-quotient-clause-course c =
    let t = c.args.table.now in
    let row = c.args.row.now in
    let es = entries_of t.log t.slots.items in
    let s = c.in_err-quotient.field-0.0 in
    let is = looked_is_row row row c.requires.form c.in_ok-look_at.ensures in
    handed_on t.log _ (put_one c.args.number row es) s c.from_residual-in_err-quotient.result c.from_residual-in_err-quotient.ensures.1
    (never_stops t.log (λ (quotient : Quotient). quotient.row) row (put_one c.args.number row es) s is c.in_err-quotient.ensures.course)

pub returns-in_err-put-clause-course : goal.returns-in_err-put-clause-course
returns-in_err-put-clause-course c =
    let t = c.args.table.now in
    let row = c.args.row.now in
    let es = entries_of t.log t.slots.items in
    let log = c.put.new.table.log in
    let s = c.in_err-put.field-0.0 in
    handed_on log _ (put_one c.args.number row es) s c.from_residual-in_err-put.result c.from_residual-in_err-put.ensures.1
    (subst (IsEnd log s) (sym (put_quotient c.args.number row c.in_ok-quotient.quotient.row es c.in_ok-look_at.ensures c.in_ok-quotient.ensures.course)) c.in_err-put.ensures.course)

pub returns-clause-course : goal.returns-clause-course
returns-clause-course c =
    let t = c.args.table.now in
    let row = c.args.row.now in
    let es = entries_of t.log t.slots.items in
    put_quotient c.args.number row c.in_ok-quotient.quotient.row es c.in_ok-look_at.ensures c.in_ok-quotient.ensures.course ∙ c.in_ok-put.ensures.course
