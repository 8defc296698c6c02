use Rattle.std.proofs.Common.{◌≡◌, sym}
use Rattle.jesc_java_grammar.proofs.body.Statements.statement_by.Goals as goal

pub returns-in-LeftBrace-clause-reads : goal.returns-in-LeftBrace-clause-reads
returns-in-LeftBrace-clause-reads g c = rw c.in-LeftBrace.is c.block.ensures.reads

pub returns-in-Try-clause-reads : goal.returns-in-Try-clause-reads
returns-in-Try-clause-reads g c = rw c.in-Try.is c.attempt.ensures.reads

pub returns-in-Other-clause-reads : goal.returns-in-Other-clause-reads
returns-in-Other-clause-reads g c = rw c.in-Other.is (rw (sym c.parts-in-Other.ensures.room) c.other_statement.ensures.reads)
