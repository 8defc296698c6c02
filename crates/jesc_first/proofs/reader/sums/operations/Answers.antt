use Rattle.std.proofs.Common.{arith, true}
use Rattle.jesc_first.specs.Parsing.{operation_in, stateless, repeated}
use Rattle.jesc_first.specs.Seen.{seen}
use Rattle.jesc_first.proofs.Loops.{found_more, found_end, found_stops}
use Rattle.jesc_first.proofs.reader.sums.operations.Goals as goal

pub returns-in_err-operation-clause-reads : goal.returns-in_err-operation-clause-reads
returns-in_err-operation-clause-reads c =
    let rule = operation_in c.args.setting.note c.args.setting.outcome c.args.scope.now in
    found_stops rule (repeated (stateless rule) true (seen c.args.cursor.now)) c.loop-operations.operations (seen c.loop-operations.cursor) c.loop-operations.invariant.left
    c.in_err-operation.field-0.0 c.from_residual.result (seen c.next_operation.new.cursor) c.in_err-operation.ensures.reads c.from_residual.ensures.1

pub loop-operations-preserved : goal.loop-operations-preserved
loop-operations-preserved c =
    let rule = operation_in c.args.setting.note c.args.setting.outcome c.args.scope.now in
    let more = found_more rule (repeated (stateless rule) true (seen c.args.cursor.now)) c.loop-operations.operations (seen c.loop-operations.cursor) c.loop-operations.invariant.left
    c.in_ok-operation.field-0 c.in-Some.operation (seen c.next_operation.new.cursor) c.push.new.self c.in-Some.is c.in_ok-operation.ensures.reads c.in_ok-operation.ensures.shorter c.in_ok-push.ensures.ok in
    record { shorter = omega (arith, more.1, c.loop-operations.invariant.shorter); left = more.0 }

pub returns-clause-reads : goal.returns-clause-reads
returns-clause-reads c =
    let rule = operation_in c.args.setting.note c.args.setting.outcome c.args.scope.now in
    found_end rule (repeated (stateless rule) true (seen c.args.cursor.now)) c.loop-operations.operations (seen c.loop-operations.cursor) c.loop-operations.invariant.left
    c.in_ok-operation.field-0 (seen c.next_operation.new.cursor) c.in_default.is c.in_ok-operation.ensures.reads
