use Rattle.std.proofs.Common.{arith}
use Rattle.jesc_first.specs.Parsing.{more_parameter_in, repeated}
use Rattle.jesc_first.specs.Seen.{seen}
use Rattle.jesc_first.specs.Reads.{in_front}
use Rattle.jesc_first.proofs.Loops.{turn_more, turn_end, turn_stops}
use Rattle.jesc_first.proofs.reader.header.more_parameters.Goals as goal

pub returns-in_err-next-clause-reads : goal.returns-in_err-next-clause-reads
returns-in_err-next-clause-reads c =
    turn_stops more_parameter_in (in_front c.args.first (repeated more_parameter_in c.args.scope.now (seen c.args.cursor.now))) c.loop-parameters.parameters c.loop-parameters.scope (seen c.loop-parameters.cursor) c.loop-parameters.invariant.left
    c.in_err-next.field-0.0 c.from_residual-in_err-next.result c.next_parameter.new.scope (seen c.next_parameter.new.cursor) c.in_err-next.ensures.reads c.from_residual-in_err-next.ensures.1

pub loop-parameters-preserved : goal.loop-parameters-preserved
loop-parameters-preserved c =
    let more = turn_more more_parameter_in (in_front c.args.first (repeated more_parameter_in c.args.scope.now (seen c.args.cursor.now))) c.loop-parameters.parameters c.loop-parameters.scope (seen c.loop-parameters.cursor) c.loop-parameters.invariant.left
    c.in_ok-next.field-0 c.in-Some.next c.next_parameter.new.scope (seen c.next_parameter.new.cursor) c.push-in-Some.new.self c.in-Some.is c.in_ok-next.ensures.reads c.in_ok-next.ensures.shorter c.in_ok-push-2.ensures.ok in
    record { shorter = omega (arith, more.1, c.loop-parameters.invariant.shorter); left = more.0 }

pub returns-clause-reads : goal.returns-clause-reads
returns-clause-reads c = turn_end more_parameter_in (in_front c.args.first (repeated more_parameter_in c.args.scope.now (seen c.args.cursor.now))) c.loop-parameters.parameters c.loop-parameters.scope (seen c.loop-parameters.cursor) c.loop-parameters.invariant.left
    c.in_ok-next.field-0 c.next_parameter.new.scope (seen c.next_parameter.new.cursor) c.in_default.is c.in_ok-next.ensures.reads
