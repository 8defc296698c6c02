use Rattle.std.proofs.lemmas.Int.{to_z-of_z}
use Rattle.std.specs.Int.{w128}
use Rattle.jesc_accept.proofs.CongruenceLines.{adds_literal, adds_none, on_ok}
use Rattle.jesc_accept.proofs.congruence.add_literal.Goals as goal

pub returns-in-Some : goal.returns-in-Some
returns-in-Some c = on_ok c.push.result _ _ (adds_literal c.args.lemma.now c.in-Some.literals c.push.new.self c.args.literal _ (to_z-of_z w128 c.args.literal c.ranges.literal) c.in-Some.is) c.push.ensures.ok

pub returns-in-None : goal.returns-in-None
returns-in-None c = adds_none c.args.lemma.now c.args.literal c.in-None.is
