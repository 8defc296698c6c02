use Rattle.std.proofs.Common.{rules, arith}
use Rattle.std.proofs.lemmas.Grind.{common_steps}
use Rattle.jesc_jml_grammar.specs.Nests.{parsed}
use Rattle.jesc_jml_grammar.specs.Seen.{seen}
use Rattle.jesc_java_grammar.specs.StatementReading.{target_longer}
use Rattle.jesc_java_grammar.specs.Views.{part}
use Rattle.jesc_java_grammar.proofs.Turns.{one_turn, no_turn}
use Rattle.jesc_java_grammar.proofs.part.Parts.target_longer.Goals as goal

pub returns-then-not-grows-clause-reads : goal.returns-then-not-grows-clause-reads
unfolding target_longer
returns-then-not-grows-clause-reads c =
    let e = one_turn (λ n. part target_longer c.args.self.now.room c.args.cursor.now.note n (parsed c.loop-turn.left) (seen c.loop-turn.cursor)) _ c.loop-turn._turn c.loop-turn-test.true c.loop-turn.invariant.same in
    first_of (search rules, grind (arith, common_steps))

pub returns-then-left-self-clause-reads : goal.returns-then-left-self-clause-reads
unfolding target_longer
returns-then-left-self-clause-reads c =
    let e = one_turn (λ n. part target_longer c.args.self.now.room c.args.cursor.now.note n (parsed c.loop-turn.left) (seen c.loop-turn.cursor)) _ c.loop-turn._turn c.loop-turn-test.true c.loop-turn.invariant.same in
    first_of (search rules, grind (arith, common_steps))

pub returns-in_err-left-clause-reads : goal.returns-in_err-left-clause-reads
unfolding target_longer
returns-in_err-left-clause-reads c =
    let e = one_turn (λ n. part target_longer c.args.self.now.room c.args.cursor.now.note n (parsed c.loop-turn.left) (seen c.loop-turn.cursor)) _ c.loop-turn._turn c.loop-turn-test.true c.loop-turn.invariant.same in
    first_of (search rules, grind (arith, common_steps))

pub loop-turn-preserved : goal.loop-turn-preserved
unfolding target_longer
loop-turn-preserved c =
    let e = one_turn (λ n. part target_longer c.args.self.now.room c.args.cursor.now.note n (parsed c.loop-turn.left) (seen c.loop-turn.cursor)) _ c.loop-turn._turn c.loop-turn-test.true c.loop-turn.invariant.same in
    first_of (search rules, grind (arith, common_steps))

pub returns-clause-reads : goal.returns-clause-reads
unfolding target_longer
returns-clause-reads c =
    let e = no_turn (λ n. part target_longer c.args.self.now.room c.args.cursor.now.note n (parsed c.loop-turn.left) (seen c.loop-turn.cursor)) _ c.loop-turn._turn c.loop-turn-test.false c.loop-turn.invariant.same in
    first_of (search rules, grind (arith, common_steps))
