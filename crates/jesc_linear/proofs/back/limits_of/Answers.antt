use Rattle.std.proofs.Common.{◌+◌, ℤ, List, get_or, drop, sym, ap, ◌∙◌}
use Rattle.std.proofs.lemmas.List.{at_drop_more}
use Rattle.jesc_linear.specs.declared.stop.Slot.{Slot}
use Rattle.jesc_linear.specs.Courses.{Course, and_then}
use Rattle.jesc_linear.specs.Elimination as spec
use Rattle.jesc_linear.specs.Tables.{entry_of, entries_of, row_at}
use Rattle.jesc_linear.specs.Limits.{limits_in}
use Rattle.jesc_linear.proofs.Endings.{and_then_ok}
use Rattle.jesc_linear.proofs.back.limits_of.Goals as goal

pub loop-slot-preserved : goal.loop-slot-preserved
loop-slot-preserved c =
    let log = c.args.log.now in
    let term = c.args.term in
    let held = c.args.held.now in
    let k = c.loop-slot.slot-index in
    let limits = limits_in log c.loop-slot.limits in
    let none : Slot = record { number = 0; at = 0; mark = 0 } in
    let slot = get_or held k none in
    let rest = entries_of log (drop (k + 1) held) in
    λ found has.
    c.loop-slot.invariant found has
    ∙ (at_drop_more (λ (s : List Slot). spec.limits_of found term (entries_of log s) limits) held k none c.loop-slot-test.true
    ∙ (sym (and_then_ok (spec.slack found term (row_at log slot.at)) (λ (left : ℤ). spec.tightened term (entry_of log slot) left limits) (spec.limits_of found term rest))
    ∙ ap (λ (s : Course spec.Limits). and_then s (spec.limits_of found term rest)) (c.in_ok-limits.ensures found has)))
