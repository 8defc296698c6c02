use Rattle.std.proofs.Common.{List, length, subst}
use Rattle.jesc_linear.specs.declared.choice.Count.{Count}
use Rattle.jesc_linear.specs.Counts.{IsBest}
use Rattle.jesc_linear.specs.Tables.{entries_of}
use Rattle.jesc_linear.proofs.Counts.{next_found}
use Rattle.jesc_linear.proofs.choice.next_term.Goals as goal

pub returns-clause-term : goal.returns-clause-term
returns-clause-term c =
    let counts = c.in_ok-counts.counts.items in
    let best = subst (λ (list : List Count). IsBest list (length list) c.least.result) c.as_slice.ensures.value c.least.ensures in
    next_found (entries_of c.args.log.now c.args.slots.now) counts c.least.result c.in_ok-counts.ensures best
