use Rattle.jesc_clauses.proofs.Truths.{told_same}
use Rattle.jesc_clauses.proofs.builder.Builder.both.Goals as goal

pub returns-in-Constant-true-default-clause-told : goal.returns-in-Constant-true-default-clause-told
returns-in-Constant-true-default-clause-told c = told_same c.args.terms.now c.args.self.now c.requires.built 11 c.args.second c.requires.second

pub returns-in-Constant-false-default-clause-told : goal.returns-in-Constant-false-default-clause-told
returns-in-Constant-false-default-clause-told c = told_same c.args.terms.now c.args.self.now c.requires.built 11 c.args.first c.requires.first

pub returns-in_default-Constant-true-clause-told : goal.returns-in_default-Constant-true-clause-told
returns-in_default-Constant-true-clause-told c = told_same c.args.terms.now c.args.self.now c.requires.built 11 c.args.first c.requires.first

pub returns-in_default-Constant-false-clause-told : goal.returns-in_default-Constant-false-clause-told
returns-in_default-Constant-false-clause-told c = told_same c.args.terms.now c.args.self.now c.requires.built 11 c.args.second c.requires.second
