use Rattle.jesc_clauses.proofs.Wide.{if_ok}
use Rattle.jesc_clauses.proofs.reader.Reader.sum_of.Goals as goal

pub added-requires-clause-x : goal.added-requires-clause-x
added-requires-clause-x c = let h = c.in-Some-Some.ensures in c.requires.lins h.0 (c.args.a.0, c.in-Some-Some.a.now) h.1

pub added-requires-clause-y : goal.added-requires-clause-y
added-requires-clause-y c = let h = c.in-Some-Some.ensures' in c.requires.lins h.0 (c.args.b.0, c.in-Some-Some.b.now) h.1

pub returns-clause-made : goal.returns-clause-made
returns-clause-made c = if_ok _ _ (λ lin m. record { x = c.in-Some-Some.a.now; y = c.in-Some-Some.b.now; at_a = c.in-Some-Some.ensures; at_b = c.in-Some-Some.ensures'; made = m }) c.added.result c.added.ensures.made
