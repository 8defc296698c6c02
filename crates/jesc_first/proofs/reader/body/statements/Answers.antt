use Rattle.std.proofs.Common.{arith}
use Rattle.jesc_first.specs.Parsing.{statement_in, repeated}
use Rattle.jesc_first.specs.Seen.{seen}
use Rattle.jesc_first.proofs.Loops.{turn_more, turn_end, turn_stops}
use Rattle.jesc_first.proofs.reader.body.statements.Goals as goal

pub returns-in_err-statement-clause-reads : goal.returns-in_err-statement-clause-reads
returns-in_err-statement-clause-reads c =
    turn_stops statement_in (repeated statement_in c.args.scope.now (seen c.args.cursor.now)) c.loop-statements.statements c.loop-statements.scope (seen c.loop-statements.cursor) c.loop-statements.invariant.left
    c.in_err-statement.field-0.0 c.from_residual.result c.next_statement.new.scope (seen c.next_statement.new.cursor) c.in_err-statement.ensures.reads c.from_residual.ensures.1

pub loop-statements-preserved : goal.loop-statements-preserved
loop-statements-preserved c =
    let more = turn_more statement_in (repeated statement_in c.args.scope.now (seen c.args.cursor.now)) c.loop-statements.statements c.loop-statements.scope (seen c.loop-statements.cursor) c.loop-statements.invariant.left
    c.in_ok-statement.field-0 c.in-Some.statement c.next_statement.new.scope (seen c.next_statement.new.cursor) c.push.new.self c.in-Some.is c.in_ok-statement.ensures.reads c.in_ok-statement.ensures.shorter c.in_ok-push.ensures.ok in
    record { shorter = omega (arith, more.1, c.loop-statements.invariant.shorter); left = more.0 }

pub returns-clause-reads : goal.returns-clause-reads
returns-clause-reads c = turn_end statement_in (repeated statement_in c.args.scope.now (seen c.args.cursor.now)) c.loop-statements.statements c.loop-statements.scope (seen c.loop-statements.cursor) c.loop-statements.invariant.left
    c.in_ok-statement.field-0 c.next_statement.new.scope (seen c.next_statement.new.cursor) c.in_default.is c.in_ok-statement.ensures.reads
