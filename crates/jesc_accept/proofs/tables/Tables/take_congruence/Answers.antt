use Rattle.std.proofs.Common.{refl}
use Rattle.jesc_accept.specs.States.{state_of}
use Rattle.jesc_accept.proofs.CongruenceLines.{takes_line, never_line}
use Rattle.jesc_accept.proofs.tables.Tables.take_congruence.Goals as goal

pub returns-in_ok-push-in-Some-2 : goal.returns-in_ok-push-in-Some-2
returns-in_ok-push-in-Some-2 c = (
  refl,
  takes_line c.args.self.now.clauses.now (state_of c.args.self.now) c.args.numbers.now c.in-Some.i c.in-Some.j c.in_ok-lemma.field-0 c.in-Some-2.lemma c.push.new.self c.new.result c.new-in-Some-2.result c.args.self.now.due
      c.requires refl c.requires c.in-Some.ensures c.in-Some-2.is c.in_ok-lemma.ensures c.in_ok-push-in-Some-2.ensures.ok c.new.ensures c.new-in-Some-2.ensures,
)

pub returns-in-None : goal.returns-in-None
returns-in-None c = λ s flat move. never_line c.args.self.now.clauses.now (state_of c.args.self.now) c.args.numbers.now c.in-Some.i c.in-Some.j c.in_ok-lemma.field-0 c.in-Some.ensures c.in-None.is c.in_ok-lemma.ensures s move
