use Rattle.std.proofs.Common.{rules, arith}
use Rattle.std.proofs.lemmas.Grind.{common_steps}
use Rattle.jesc_jml_grammar.specs.Reading.{more_arguments}
use Rattle.jesc_jml_grammar.specs.Nests.{listed, rule}
use Rattle.jesc_jml_grammar.specs.Seen.{seen}
use Rattle.jesc_jml_grammar.proofs.Turns.{one_turn, no_turn}
use Rattle.jesc_jml_grammar.proofs.grammar.Grammar.more_arguments.Goals as goal

pub returns-then-not-same_mark-clause-reads : goal.returns-then-not-same_mark-clause-reads
unfolding more_arguments
returns-then-not-same_mark-clause-reads g c =
    let e = one_turn (λ n. rule more_arguments c.args.cursor.now.note c.args.self.now.room c.args.self.now.quantifiers n (listed c.loop-turn.found) (seen c.loop-turn.cursor)) _ c.loop-turn._turn c.loop-turn-test.true c.loop-turn.invariant.same in
    first_of (search rules, grind (arith, common_steps))

pub returns-in_err-expect-clause-reads : goal.returns-in_err-expect-clause-reads
unfolding more_arguments
returns-in_err-expect-clause-reads g c =
    let e = one_turn (λ n. rule more_arguments c.args.cursor.now.note c.args.self.now.room c.args.self.now.quantifiers n (listed c.loop-turn.found) (seen c.loop-turn.cursor)) _ c.loop-turn._turn c.loop-turn-test.true c.loop-turn.invariant.same in
    first_of (search rules, grind (arith, common_steps))

pub returns-in_err-next-clause-reads : goal.returns-in_err-next-clause-reads
unfolding more_arguments
returns-in_err-next-clause-reads g c =
    let e = one_turn (λ n. rule more_arguments c.args.cursor.now.note c.args.self.now.room c.args.self.now.quantifiers n (listed c.loop-turn.found) (seen c.loop-turn.cursor)) _ c.loop-turn._turn c.loop-turn-test.true c.loop-turn.invariant.same in
    first_of (search rules, grind (arith, common_steps))

pub loop-turn-preserved : goal.loop-turn-preserved
unfolding more_arguments
loop-turn-preserved g c =
    let e = one_turn (λ n. rule more_arguments c.args.cursor.now.note c.args.self.now.room c.args.self.now.quantifiers n (listed c.loop-turn.found) (seen c.loop-turn.cursor)) _ c.loop-turn._turn c.loop-turn-test.true c.loop-turn.invariant.same in
    first_of (search rules, grind (arith, common_steps))

pub returns-clause-reads : goal.returns-clause-reads
unfolding more_arguments
returns-clause-reads g c =
    let e = no_turn (λ n. rule more_arguments c.args.cursor.now.note c.args.self.now.room c.args.self.now.quantifiers n (listed c.loop-turn.found) (seen c.loop-turn.cursor)) _ c.loop-turn._turn c.loop-turn-test.false c.loop-turn.invariant.same in
    first_of (search rules, grind (arith, common_steps))
