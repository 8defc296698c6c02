use Rattle.std.proofs.Common.{arith, true}
use Rattle.jesc_first.specs.Parsing.{demand_in, stateless, repeated}
use Rattle.jesc_first.specs.Seen.{seen}
use Rattle.jesc_first.proofs.Loops.{found_more, found_end, found_stops}
use Rattle.jesc_first.proofs.reader.clauses.demands.Goals as goal

pub returns-in_err-condition : goal.returns-in_err-condition
returns-in_err-condition c =
    let rule = demand_in c.args.scope.now in
    record {
      reads = found_stops rule (repeated (stateless rule) true (seen c.args.cursor.now)) c.loop-demands.demands (seen c.loop-demands.cursor) c.loop-demands.invariant.left
          c.in_err-condition.field-0.0 c.from_residual.result (seen c.next_demand.new.cursor) c.in_err-condition.ensures.reads c.from_residual.ensures.1;
    }

pub loop-demands-preserved : goal.loop-demands-preserved
loop-demands-preserved c =
    let rule = demand_in c.args.scope.now in
    let more = found_more rule (repeated (stateless rule) true (seen c.args.cursor.now)) c.loop-demands.demands (seen c.loop-demands.cursor) c.loop-demands.invariant.left
    c.in_ok-condition.field-0 c.in-Some.condition (seen c.next_demand.new.cursor) c.push.new.self c.in-Some.is c.in_ok-condition.ensures.reads c.in_ok-condition.ensures.shorter c.in_ok-push.ensures.ok in
    record { shorter = omega (arith, more.1, c.loop-demands.invariant.shorter); left = more.0 }

pub returns : goal.returns
returns c =
    let rule = demand_in c.args.scope.now in
    record {
      reads = found_end rule (repeated (stateless rule) true (seen c.args.cursor.now)) c.loop-demands.demands (seen c.loop-demands.cursor) c.loop-demands.invariant.left
          c.in_ok-condition.field-0 (seen c.next_demand.new.cursor) c.in_default.is c.in_ok-condition.ensures.reads;
    }
