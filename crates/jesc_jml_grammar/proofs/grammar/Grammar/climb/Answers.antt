use Rattle.std.proofs.Common.{rules, arith}
use Rattle.std.proofs.lemmas.Grind.{common_steps}
use Rattle.jesc_jml_grammar.specs.Reading.{climb}
use Rattle.jesc_jml_grammar.specs.Nests.{parsed, rule}
use Rattle.jesc_jml_grammar.specs.Seen.{seen}
use Rattle.jesc_jml_grammar.proofs.Turns.{one_turn, no_turn}
use Rattle.jesc_jml_grammar.proofs.grammar.Grammar.climb.Goals as goal

pub returns-then-not-grows-clause-reads : goal.returns-then-not-grows-clause-reads
unfolding climb
returns-then-not-grows-clause-reads g c =
    let e = one_turn (λ n. rule climb c.args.cursor.now.note c.args.self.now.room c.args.self.now.quantifiers c.args.least n (parsed c.loop-turn.left) (seen c.loop-turn.cursor)) _ c.loop-turn._turn c.loop-turn-test.true c.loop-turn.invariant.same in
    first_of (search rules, grind (arith, common_steps))

pub returns-then-left-self-clause-reads : goal.returns-then-left-self-clause-reads
unfolding climb
returns-then-left-self-clause-reads g c =
    let e = one_turn (λ n. rule climb c.args.cursor.now.note c.args.self.now.room c.args.self.now.quantifiers c.args.least n (parsed c.loop-turn.left) (seen c.loop-turn.cursor)) _ c.loop-turn._turn c.loop-turn-test.true c.loop-turn.invariant.same in
    first_of (search rules, grind (arith, common_steps))

pub returns-in_err-left-clause-reads : goal.returns-in_err-left-clause-reads
unfolding climb
returns-in_err-left-clause-reads g c =
    let e = one_turn (λ n. rule climb c.args.cursor.now.note c.args.self.now.room c.args.self.now.quantifiers c.args.least n (parsed c.loop-turn.left) (seen c.loop-turn.cursor)) _ c.loop-turn._turn c.loop-turn-test.true c.loop-turn.invariant.same in
    first_of (search rules, grind (arith, common_steps))

pub loop-turn-preserved : goal.loop-turn-preserved
unfolding climb
loop-turn-preserved g c =
    let e = one_turn (λ n. rule climb c.args.cursor.now.note c.args.self.now.room c.args.self.now.quantifiers c.args.least n (parsed c.loop-turn.left) (seen c.loop-turn.cursor)) _ c.loop-turn._turn c.loop-turn-test.true c.loop-turn.invariant.same in
    first_of (search rules, grind (arith, common_steps))

pub returns-clause-reads : goal.returns-clause-reads
unfolding climb
returns-clause-reads g c =
    let e = no_turn (λ n. rule climb c.args.cursor.now.note c.args.self.now.room c.args.self.now.quantifiers c.args.least n (parsed c.loop-turn.left) (seen c.loop-turn.cursor)) _ c.loop-turn._turn c.loop-turn-test.false c.loop-turn.invariant.same in
    first_of (search rules, grind (arith, common_steps))
