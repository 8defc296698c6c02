use Rattle.std.proofs.Common.{subst, sym}
use Rattle.jesc_clauses.specs.Readers.{Entries, HasSum, IsSumAt}
use Rattle.jesc_clauses.proofs.Tables.{found, absent, none_is}
use Rattle.jesc_clauses.proofs.sum_table.SumTable.get.Goals as goal

pub returns-in-None : goal.returns-in-None
returns-in-None c = subst (λ (es : Entries). HasSum es c.args.id → ⊥) c.self.view_is (absent c.self.inside.sums.entries c.args.id (none_is _ c.in-None.ensures.found))

pub returns-in-Some-get_index : goal.returns-in-Some-get_index
returns-in-Some-get_index c = subst (λ (es : Entries). IsSumAt es c.args.id c.in-Some-get_index.lin.now) c.self.view_is (found c.self.inside.sums.entries c.args.id c.in-Some.at c.in-Some-get_index.field-0-0.now c.in-Some-get_index.lin.now c.in-Some.ensures.index (sym c.in-Some-get_index.ensures.entry))
