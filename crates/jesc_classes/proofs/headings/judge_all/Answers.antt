use Rattle.std.proofs.Common.{sym, subst, arith}
use Rattle.jesc_classes.specs.Order.{IsWithin}
use Rattle.jesc_classes.specs.laws.Graphs.{graph_within}
use Rattle.jesc_classes.proofs.Ordered.{acyclic_by}
use Rattle.jesc_classes.proofs.headings.judge_all.Goals as goal

pub ranks-requires-clause-within : goal.ranks-requires-clause-within
ranks-requires-clause-within c = subst IsWithin (sym c.requires.graph) (graph_within c.args.given.now)

pub judge-requires-else-order-graph-clause-acyclic : goal.judge-requires-else-order-graph-clause-acyclic
judge-requires-else-order-graph-clause-acyclic c =
    λ none. acyclic_by c.args.given.now c.args.order.now c.args.graph.now c.requires.graph c.requires.order (omega (arith, c.if-order-graph.false))
