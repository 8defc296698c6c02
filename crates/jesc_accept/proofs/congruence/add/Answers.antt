use Rattle.jesc_accept.proofs.CongruenceLines.{adds_true, adds_false}
use Rattle.jesc_accept.proofs.congruence.add.Goals as goal

pub returns-in-Constant-true : goal.returns-in-Constant-true
returns-in-Constant-true c = adds_true c.args.lemma.now c.args.said c.in-Constant-true.field-0 c.in-Constant-true.is c.in-Constant-true.field-0-test

pub returns-in-Constant-false : goal.returns-in-Constant-false
returns-in-Constant-false c = adds_false c.args.lemma.now c.args.said c.in-Constant-false.field-0 c.in-Constant-false.is c.in-Constant-false.field-0-test
