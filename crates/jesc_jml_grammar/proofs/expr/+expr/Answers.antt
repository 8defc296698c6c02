use Rattle.std.proofs.Common.{◌≡◌, ℕ, sym, subst, arith, Err}
use Rattle.jesc_jml_grammar.specs.Reading.{turns, expr}
use Rattle.jesc_jml_grammar.specs.Steps.{Reads}
use Rattle.jesc_jml_grammar.specs.Nests.{parsed, start_of}
use Rattle.jesc_jml_grammar.specs.Seen.{seen}
use Rattle.jesc_jml_grammar.proofs.Turns.{some_room}
use Rattle.jesc_jml_grammar.proofs.expr.+expr.Goals as goal

pub returns-then-room-eq0-clause-reads : goal.returns-then-room-eq0-clause-reads
returns-then-room-eq0-clause-reads t c =
    let none : c.args.room ≡ 0 = omega arith in
    subst (λ (n : ℕ). Reads parsed (expr c.args.cursor.now.note turns n c.args.quantifiers c.args.least (start_of c.args.start) (seen c.args.cursor.now)) (Err c.no_room.result) (seen c.args.cursor.now))
    (sym none) (c.no_room.ensures c.args.quantifiers)

pub returns-clause-reads : goal.returns-clause-reads
unfolding expr
returns-clause-reads t c =
    rw (some_room (λ n. expr c.args.cursor.now.note turns n c.args.quantifiers c.args.least (start_of c.args.start) (seen c.args.cursor.now)) c.args.room (omega arith)) c.begun.ensures.reads
