use Rattle.std.proofs.Common.{arith}
use Rattle.jesc_java_grammar.proofs.CatchEnds.{end_is_last}
use Rattle.jesc_java_grammar.proofs.make_attempt.end_of_catches.Goals as goal

pub returns-in-len1-up : goal.returns-in-len1-up
returns-in-len1-up c =
    rw (← c.as_slice.ensures) (end_is_last c.args.close c.as_slice.result.now c.last-item.result (omega arith) c.last-item.is)
