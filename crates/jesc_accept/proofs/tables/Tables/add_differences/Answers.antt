use Rattle.jesc_accept.specs.States.{atoms_of}
use Rattle.jesc_accept.proofs.CongruenceLines.{same_length, are_at, goes_no_more, goes_more, goes_all}
use Rattle.jesc_accept.proofs.tables.Tables.add_differences.Goals as goal

pub returns-then-xs-ys : goal.returns-then-xs-ys
returns-then-xs-ys c = λ more d. c.if-xs-ys.true (same_length (atoms_of c.args.self.now) c.args.xs.now c.args.ys.now more d)

pub returns-then-not-branch : goal.returns-then-not-branch
returns-then-not-branch c = goes_no_more (atoms_of c.args.self.now) c.args.xs.now c.args.ys.now c.loop-at.at c.index-xs-at.result c.index-ys-at.result c.args.lemma.now c.loop-at.lemma c.add_difference.new.lemma c.in_ok-add_difference.field-0
    (are_at c.args.xs.now c.args.ys.now c.loop-at.at c.index-xs-at.result c.index-ys-at.result c.if-xs-ys.false c.loop-at-test.true c.index-xs-at.is c.index-ys-at.is) c.loop-at.invariant c.if-not-branch.true c.in_ok-add_difference.ensures

pub loop-at-preserved : goal.loop-at-preserved
loop-at-preserved c = goes_more (atoms_of c.args.self.now) c.args.xs.now c.args.ys.now c.loop-at.at c.index-xs-at.result c.index-ys-at.result c.args.lemma.now c.loop-at.lemma c.add_difference.new.lemma c.in_ok-add_difference.field-0
    (are_at c.args.xs.now c.args.ys.now c.loop-at.at c.index-xs-at.result c.index-ys-at.result c.if-xs-ys.false c.loop-at-test.true c.index-xs-at.is c.index-ys-at.is) c.loop-at.invariant c.if-not-branch.false c.in_ok-add_difference.ensures

pub returns : goal.returns
returns c = goes_all (atoms_of c.args.self.now) c.args.xs.now c.args.ys.now c.loop-at.at c.args.lemma.now c.loop-at.lemma c.if-xs-ys.false c.loop-at-test.false c.loop-at.invariant
