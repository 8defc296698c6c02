use Rattle.std.proofs.Common.{◌≡◌}
use Rattle.jesc_java_grammar.proofs.body.Statements.loop_by.Goals as goal

pub returns-in-While-clause-reads : goal.returns-in-While-clause-reads
returns-in-While-clause-reads g c = rw c.in-While.is c.while_loop.ensures.reads

pub returns-in-For-clause-reads : goal.returns-in-For-clause-reads
returns-in-For-clause-reads g c = rw c.in-For.is c.for_loop.ensures.reads
