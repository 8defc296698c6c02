use Rattle.jesc_accept.specs.States.{atoms_of}
use Rattle.jesc_accept.proofs.CongruenceLines.{lemma_made, lemma_never}
use Rattle.jesc_accept.proofs.tables.Tables.lemma_of.Goals as goal

pub returns-then-branch : goal.returns-then-branch
returns-then-branch c = lemma_made (atoms_of c.args.self.now) c.args.self.now.clauses.now.terms c.args.i c.args.j c.args.a.now c.args.b.now c.as_slice.result.now c.as_slice-2.result.now c.new.result c.add_differences.new.lemma c.add_at_most.new.lemma c.in_ok-add_differences.field-0 c.in_ok-add_at_most.field-0
    c.requires.first c.requires.second c.ranges.i.fits c.ranges.j.fits c.if-a-b.false c.as_slice.ensures c.as_slice-2.ensures c.new.ensures c.if-not-branch.false c.in_ok-add_differences.ensures c.if-branch.true c.in_ok-add_at_most.ensures

pub returns-else-branch : goal.returns-else-branch
returns-else-branch c = lemma_never (atoms_of c.args.self.now) c.args.self.now.clauses.now.terms c.args.i c.args.j c.add_differences.new.lemma c.add_at_most.new.lemma c.in_ok-add_at_most.field-0 c.if-branch.false c.in_ok-add_at_most.ensures
