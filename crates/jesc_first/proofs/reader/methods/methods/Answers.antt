use Rattle.std.proofs.Common.{arith, ap, []}
use Rattle.jesc_first.specs.Parsing.{next_method_in, repeated, list_read}
use Rattle.jesc_first.specs.Seen.{seen}
use Rattle.jesc_first.proofs.Loops.{turn_more, turn_end, turn_stops_alone}
use Rattle.jesc_first.proofs.reader.methods.methods.Goals as goal

pub returns-in_err-method-clause-reads : goal.returns-in_err-method-clause-reads
returns-in_err-method-clause-reads c =
    turn_stops_alone next_method_in (repeated next_method_in [] (seen c.args.cursor.now)) c.loop-methods.methods c.loop-methods.names (seen c.loop-methods.cursor) c.loop-methods.invariant.left
    c.in_err-method.field-0.0 c.from_residual.result c.next_method.new.names (seen c.next_method.new.cursor) c.in_err-method.ensures.reads c.from_residual.ensures.1

pub loop-methods-preserved : goal.loop-methods-preserved
loop-methods-preserved c =
    let more = turn_more next_method_in (repeated next_method_in [] (seen c.args.cursor.now)) c.loop-methods.methods c.loop-methods.names (seen c.loop-methods.cursor) c.loop-methods.invariant.left
    c.in_ok-method.field-0 c.in-Some.method c.next_method.new.names (seen c.next_method.new.cursor) c.push.new.self c.in-Some.is c.in_ok-method.ensures.reads c.in_ok-method.ensures.shorter c.in_ok-push.ensures.ok in
    record { shorter = omega (arith, more.1, c.loop-methods.invariant.shorter); left = more.0 }

pub returns-clause-reads : goal.returns-clause-reads
returns-clause-reads c = ap list_read (turn_end next_method_in (repeated next_method_in [] (seen c.args.cursor.now)) c.loop-methods.methods c.loop-methods.names (seen c.loop-methods.cursor) c.loop-methods.invariant.left
    c.in_ok-method.field-0 c.next_method.new.names (seen c.next_method.new.cursor) c.in_default.is c.in_ok-method.ensures.reads)
