use Rattle.jesc_clauses.specs.declared.lin.Lin.{Lin}
use Rattle.jesc_clauses.proofs.Wide.{handed}
use Rattle.jesc_clauses.proofs.Combining.{lins, sum_arguments, sum_is_plain, sum_read, sum_wide}
use Rattle.jesc_clauses.proofs.reader.Reader.sum.Goals as goal

pub sum_of-requires-clause-lins : goal.sum_of-requires-clause-lins
sum_of-requires-clause-lins c = lins c.args.terms.now c.args.self.now.sums c.args.self.now.opaques c.requires.reader

pub put-requires-clause-plain : goal.put-requires-clause-plain
put-requires-clause-plain c = sum_is_plain c.args.terms.now c.args.self.now.sums c.args.self.now.opaques c.requires.reader c.args.a c.args.b c.args.id c.requires.term

pub put-requires-clause-args : goal.put-requires-clause-args
put-requires-clause-args c = sum_arguments c.args.terms.now c.args.self.now.sums c.args.self.now.opaques c.requires.reader c.args.a c.args.b c.args.id c.requires.term c.requires.a c.requires.b

pub put-requires-clause-read : goal.put-requires-clause-read
put-requires-clause-read c = sum_read c.args.terms.now c.args.self.now.sums c.args.self.now.opaques c.requires.reader c.args.a c.args.b c.args.id c.requires.term c.in_ok-lin.lin c.in_ok-lin.ensures.made

pub returns-in_err-lin-clause-wide : goal.returns-in_err-lin-clause-wide
returns-in_err-lin-clause-wide c =
    handed (Unit {0}) Lin _ _ (sum_wide c.args.terms.now c.args.self.now.sums c.args.self.now.opaques c.requires.reader c.args.a c.args.b c.args.id c.requires.term) c.from_residual.result c.in_err-lin.field-0.0 c.from_residual.ensures.1 c.in_err-lin.ensures.wide
