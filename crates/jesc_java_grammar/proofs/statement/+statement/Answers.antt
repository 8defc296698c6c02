use Rattle.std.proofs.Common.{◌≡◌, ℕ, sym, subst, arith, Err}
use Rattle.jesc_ast.specs.Trees.{statement_view}
use Rattle.jesc_jml_grammar.specs.ClauseSeen.{measured}
use Rattle.jesc_jml_grammar.specs.Seen.{seen}
use Rattle.jesc_jml_grammar.specs.Steps.{Reads}
use Rattle.jesc_java_grammar.specs.StatementNests.{statement_within}
use Rattle.jesc_java_grammar.specs.StatementReading.{statement}
use Rattle.jesc_java_grammar.proofs.Room.{some_room}
use Rattle.jesc_java_grammar.proofs.statement.+statement.Goals as goal

pub returns-then-room-eq0-clause-reads : goal.returns-then-room-eq0-clause-reads
returns-then-room-eq0-clause-reads t c =
    let none : c.args.room ≡ 0 = omega arith in
    subst (λ (n : ℕ). Reads (measured statement_view) (statement_within n c.args.slot (seen c.args.cursor.now)) (Err c.no_room.result) (seen c.args.cursor.now))
    (sym none) c.no_room.ensures

pub returns-clause-reads : goal.returns-clause-reads
unfolding statement
returns-clause-reads t c =
    rw (some_room (λ n. statement_within n c.args.slot (seen c.args.cursor.now)) c.args.room (omega arith)) c.begun.ensures.reads
