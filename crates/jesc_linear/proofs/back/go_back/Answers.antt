use Rattle.std.proofs.Common.{◌≡◌, ◌<◌, ◌≤◌, ◌-◌, List, [], Ok, length, subst, sym, ◌∙◌, arith}
use Rattle.jesc_linear.specs.declared.rows.LinStep.{LinStep}
use Rattle.jesc_linear.specs.declared.stage.Stage.{Stage}
use Rattle.jesc_linear.specs.Courses.{Course}
use Rattle.jesc_linear.specs.Elimination.{Values, give}
use Rattle.jesc_linear.specs.Tables.{HasValues, IsEnd, back, entries_of}
use Rattle.jesc_linear.proofs.Endings.{stops_end}
use Rattle.jesc_linear.proofs.Giving.{step_back, ends_back}
use Rattle.jesc_linear.proofs.back.go_back.Goals as goal

pub loop-at-preserved : goal.loop-at-preserved
loop-at-preserved c =
    let log = c.args.log.now in
    let stages = c.as_slice-stages.result.now in
    let stage = c.index-stages-at.result in
    let at = c.loop-at.at in
    let before = c.loop-at.invariant.course in
    let after = c.in_ok-give.ensures.course before.0 before.2 in
    let some : 0 < at = omega arith in
    let here : at ≤ length stages = omega arith in
    let given = subst (λ (l : List LinStep). give stage.term (entries_of l stage.held.items) before.0 ≡ Ok after.0) c.as_slice.ensures after.1 in
    record {
      within = c.in_ok-give.ensures.values;
      course = (after.0, step_back log stages at stage before.0 some here c.index-stages-at.is before.1 ∙ given, after.2);
    }

pub returns-in_err-give : goal.returns-in_err-give
returns-in_err-give c =
    let log = c.args.log.now in
    let stages = c.as_slice-stages.result.now in
    let stage = c.index-stages-at.result in
    let at = c.loop-at.at in
    let stop = c.in_err-give.field-0.0 in
    let before = c.loop-at.invariant.course in
    let some : 0 < at = omega arith in
    let here : at ≤ length stages = omega arith in
    let given = subst (λ (l : List LinStep). IsEnd l stop (give stage.term (entries_of l stage.held.items) before.0)) c.as_slice.ensures (c.in_err-give.ensures.course before.0 before.2) in
    let last = subst (λ (course : Course Values). IsEnd log stop course) (sym (step_back log stages at stage before.0 some here c.index-stages-at.is before.1)) given in
    let whole = subst (λ (s : List Stage). IsEnd log stop (back log s (Ok []))) c.as_slice-stages.ensures (ends_back log stages (at - 1) stop last) in
    stops_end log (back log c.args.stages.now (Ok [])) stop (λ u. (found : Values) × (back log c.args.stages.now (Ok []) ≡ Ok found) × HasValues c.give.new.values.items found)
    c.from_residual.result c.from_residual.ensures.1 whole
