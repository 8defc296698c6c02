use Rattle.std.proofs.Common.{sym, subst}
use Rattle.jesc_io.specs.Contents.{Gains}
use Rattle.jesc_engine.specs.declared.stop.Cause.TheVariants.{CannotRead}
use Rattle.jesc_engine.specs.declared.top.Status.TheVariants.{Refused, ReadFault}
use Rattle.jesc_engine.specs.Ends.{IsComplaint, EndsOn}
use Rattle.jesc_engine.specs.Causes.{cause_line, stop_line, IsComplaintOf}
use Rattle.jesc_engine.proofs.Endings.{complains}
use Rattle.jesc_engine.proofs.ClassLists.{refused_complaint}
use Rattle.jesc_engine.proofs.top.complain.Goals as goal

pub returns-in-CannotRead-clause-ends : goal.returns-in-CannotRead-clause-ends
returns-in-CannotRead-clause-ends g c = λ told names reads reads' out stops.
    let name = c.args.stop.now.name.now in
    let before = g.E.Sink.taken c.args.err.now in
    let now = g.E.Sink.taken c.say_stop.new.err in
    let written = c.say_stop.result in
    let complaint : IsComplaint told names reads reads' ReadFault (cause_line name CannotRead) = subst (IsComplaintOf told names reads reads' name) c.in-CannotRead.is stops in
    let gained : Gains before now (cause_line name CannotRead) written = subst (λ cause. Gains before now (cause_line name cause) written) c.in-CannotRead.is c.say_stop.ensures.gains in
    subst (λ s. EndsOn told names reads reads' out out before now s) (sym c.ended.ensures)
    (complains told names reads reads' out before now ReadFault (cause_line name CannotRead) written complaint gained)

pub returns-in_default-clause-ends : goal.returns-in_default-clause-ends
returns-in_default-clause-ends g c = λ told names reads reads' out stops.
    let stop = c.args.stop.now in
    let before = g.E.Sink.taken c.args.err.now in
    let now = g.E.Sink.taken c.say_stop-in_default.new.err in
    let complaint = refused_complaint told names reads reads' stop.name.now stop.cause c.in_default.not-CannotRead c.in_default.not-OutOfMemory stops in
    subst (λ s. EndsOn told names reads reads' out out before now s) (sym c.ended-in_default.ensures)
    (complains told names reads reads' out before now Refused (stop_line stop) c.say_stop-in_default.result complaint c.say_stop-in_default.ensures.gains)
