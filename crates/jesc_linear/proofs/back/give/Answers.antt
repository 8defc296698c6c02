use Rattle.std.proofs.Common.{◌≡◌, ℤ, List, ◌∷◌, Ok, FitsSigned, rules, subst, sym}
use mir.Syntax.{w128}
use Rattle.std.proofs.lemmas.Int.{to_z-of_z}
use Rattle.jesc_linear.specs.declared.stop.Slot.{Slot}
use Rattle.jesc_linear.specs.Courses.{Course, and_then, within}
use Rattle.jesc_linear.specs.Elimination as spec
use Rattle.jesc_linear.specs.Elimination.{Values}
use Rattle.jesc_linear.specs.Tables.{HasValues, IsEnd, entries_of}
use Rattle.jesc_linear.specs.Limits.{limits_in}
use Rattle.jesc_linear.proofs.Endings.{ends_on, stops_end}
use Rattle.jesc_linear.proofs.Giving.{give_limits, give_value, has_more}
use Rattle.jesc_linear.proofs.back.give.Goals as goal

pub returns-in_err-value-clause-course : goal.returns-in_err-value-clause-course
returns-in_err-value-clause-course c =
    let log = c.args.log.now in
    let term = c.args.stage.now.term in
    let held = c.args.stage.now.held.items in
    let entries = entries_of log held in
    let limits = limits_in log c.in_ok-limits.limits in
    let stop = c.in_err-value.field-0.0 in
    λ found has.
    let seen = subst (λ (vs : List ℤ). HasValues vs found) (sym c.as_slice.ensures.value) has in
    let limited = subst (λ (hs : List Slot). spec.limits_of found term (entries_of log hs) spec.no_limits ≡ Ok limits) c.as_slice-2.ensures.value (c.in_ok-limits.ensures found seen) in
    let ends = ends_on log stop (spec.chosen limits.least limits.greatest) (λ (value : ℤ). and_then (within 94 value) (λ v. Ok ((term, value) ∷ found))) (c.in_err-value.ensures log) in
    stops_end log (spec.give term entries found) stop (λ u. (after : Values) × (spec.give term entries found ≡ Ok after) × HasValues c.args.values.now.items after)
    c.from_residual-in_err-value.result c.from_residual-in_err-value.ensures.1
    (subst (λ (course : Course Values). IsEnd log stop course) (sym (give_limits term entries found limits limited)) ends)

pub returns-clause-course : goal.returns-clause-course
returns-clause-course c =
    let log = c.args.log.now in
    let term = c.args.stage.now.term in
    let held = c.args.stage.now.held.items in
    let limits = limits_in log c.in_ok-limits.limits in
    let value = c.in_ok-value.value in
    let fv : FitsSigned w128 value = search rules in
    let look = simp to_z-of_z at c.in_ok-look_at_value.ensures.course in
    let set = simp to_z-of_z at c.in_ok-set_value.ensures in
    λ found has.
    let seen = subst (λ (vs : List ℤ). HasValues vs found) (sym c.as_slice.ensures.value) has in
    let limited = subst (λ (hs : List Slot). spec.limits_of found term (entries_of log hs) spec.no_limits ≡ Ok limits) c.as_slice-2.ensures.value (c.in_ok-limits.ensures found seen) in (
      (term, value) ∷ found,
      give_value term (entries_of log held) found limits value limited (c.in_ok-value.ensures log) look,
      has_more term value c.args.values.now.items c.set_value.new.values.items found set has,
    )
