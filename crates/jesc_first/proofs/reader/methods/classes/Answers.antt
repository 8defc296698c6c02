use Rattle.jesc_first.specs.Parsing.{next_class_in, repeated}
use Rattle.jesc_first.specs.Seen.{seen}
use Rattle.jesc_first.proofs.Equal.{keeps_more}
use Rattle.jesc_first.proofs.Loops.{turn_more, turn_end, turn_stops}
use Rattle.jesc_first.proofs.reader.methods.classes.Goals as goal

pub returns-in_err-class-clause-reads : goal.returns-in_err-class-clause-reads
returns-in_err-class-clause-reads c =
    turn_stops next_class_in (repeated next_class_in c.args.names.now (seen c.args.cursor.now)) c.loop-classes.classes c.loop-classes.names (seen c.loop-classes.cursor) c.loop-classes.invariant.left
    c.in_err-class.field-0.0 c.from_residual.result c.next_class.new.names (seen c.next_class.new.cursor) c.in_err-class.ensures.reads c.from_residual.ensures.1

pub loop-classes-preserved : goal.loop-classes-preserved
loop-classes-preserved c =
    let more = turn_more next_class_in (repeated next_class_in c.args.names.now (seen c.args.cursor.now)) c.loop-classes.classes c.loop-classes.names (seen c.loop-classes.cursor) c.loop-classes.invariant.left
    c.in_ok-class.field-0 c.in-Some.class c.next_class.new.names (seen c.next_class.new.cursor) c.push.new.self c.in-Some.is c.in_ok-class.ensures.reads c.in_ok-class.ensures.shorter c.in_ok-push.ensures.ok in
    record { keeps = keeps_more c.args.names.now c.loop-classes.names c.next_class.new.names c.loop-classes.invariant.keeps c.next_class.ensures.keeps; left = more.0 }

pub returns-clause-reads : goal.returns-clause-reads
returns-clause-reads c = turn_end next_class_in (repeated next_class_in c.args.names.now (seen c.args.cursor.now)) c.loop-classes.classes c.loop-classes.names (seen c.loop-classes.cursor) c.loop-classes.invariant.left
    c.in_ok-class.field-0 c.next_class.new.names (seen c.next_class.new.cursor) c.in_default.is c.in_ok-class.ensures.reads
