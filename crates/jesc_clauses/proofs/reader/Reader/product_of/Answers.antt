use Rattle.std.proofs.Common.{IfOk, ℤ, subst}
use Rattle.std.proofs.lemmas.Int.{to_z-of_z}
use Rattle.std.specs.Int.{w128}
use Rattle.jesc_clauses.specs.Merges.{OnWide}
use Rattle.jesc_clauses.specs.Readers.{IsMultipleOf, IsWideMultipleOf}
use Rattle.jesc_clauses.proofs.Wide.{if_ok, on_wide}
use Rattle.jesc_clauses.proofs.reader.Reader.product_of.Goals as goal

pub multiplied-requires-clause-x : goal.multiplied-requires-clause-x
multiplied-requires-clause-x c = let h = c.in-Some.ensures in c.requires.lins h.0 (c.args.a.0, c.in-Some.a.now) h.1

pub returns-clause-made : goal.returns-clause-made
returns-clause-made c = subst (λ (k : ℤ). IfOk c.multiplied.result (IsMultipleOf c.args.self.now.sums k c.args.a.0)) (to_z-of_z w128 c.args.k c.ranges.k) (if_ok _ _ (λ lin m. record { x = c.in-Some.a.now; at_a = c.in-Some.ensures; made = m }) c.multiplied.result c.multiplied.ensures.made)

pub returns-clause-wide : goal.returns-clause-wide
returns-clause-wide c = subst (λ (k : ℤ). OnWide (IsWideMultipleOf c.args.self.now.sums k c.args.a.0) c.multiplied.result) (to_z-of_z w128 c.args.k c.ranges.k) (on_wide _ _ (λ n w. record { x = c.in-Some.a.now; at_a = c.in-Some.ensures; wide = w }) c.multiplied.result c.multiplied.ensures.wide)
