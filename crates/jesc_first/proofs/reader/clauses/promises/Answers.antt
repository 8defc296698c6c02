use Rattle.std.proofs.Common.{arith, true}
use Rattle.jesc_first.specs.Parsing.{promise_in, stateless, repeated}
use Rattle.jesc_first.specs.Seen.{seen}
use Rattle.jesc_first.proofs.Loops.{found_more, found_end, found_stops}
use Rattle.jesc_first.proofs.reader.clauses.promises.Goals as goal

pub returns-in_err-clause : goal.returns-in_err-clause
returns-in_err-clause c =
    let rule = promise_in c.args.outcome c.args.scope.now in
    record {
      reads = found_stops rule (repeated (stateless rule) true (seen c.args.cursor.now)) c.loop-promises.promises (seen c.loop-promises.cursor) c.loop-promises.invariant.left
          c.in_err-clause.field-0.0 c.from_residual.result (seen c.next_promise.new.cursor) c.in_err-clause.ensures.reads c.from_residual.ensures.1;
    }

pub loop-promises-preserved : goal.loop-promises-preserved
loop-promises-preserved c =
    let rule = promise_in c.args.outcome c.args.scope.now in
    let more = found_more rule (repeated (stateless rule) true (seen c.args.cursor.now)) c.loop-promises.promises (seen c.loop-promises.cursor) c.loop-promises.invariant.left
    c.in_ok-clause.field-0 c.in-Some.clause (seen c.next_promise.new.cursor) c.push.new.self c.in-Some.is c.in_ok-clause.ensures.reads c.in_ok-clause.ensures.shorter c.in_ok-push.ensures.ok in
    record { shorter = omega (arith, more.1, c.loop-promises.invariant.shorter); left = more.0 }

pub returns : goal.returns
returns c =
    let rule = promise_in c.args.outcome c.args.scope.now in
    record {
      reads = found_end rule (repeated (stateless rule) true (seen c.args.cursor.now)) c.loop-promises.promises (seen c.loop-promises.cursor) c.loop-promises.invariant.left
          c.in_ok-clause.field-0 (seen c.next_promise.new.cursor) c.in_default.is c.in_ok-clause.ensures.reads;
    }
