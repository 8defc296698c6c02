use Rattle.std.proofs.Common.{List, ap, sym, ◌∙◌, subst, true≢false}
use Rattle.std.specs.List.{Contains}
use Rattle.jesc_classes.specs.Headings.{Source, graph_of}
use Rattle.jesc_classes.specs.Order.{Graph, IsWithin, IsAcyclic, supers}
use Rattle.jesc_classes.specs.laws.Graphs.{graph_within}
use Rattle.jesc_classes.proofs.Supers.{above_within, no_cycle}
use Rattle.jesc_classes.proofs.hierarchy.Hierarchy.is_on_cycle.Goals as goal

pub is_on_cycle-requires-clause-within : goal.is_on_cycle-requires-clause-within
is_on_cycle-requires-clause-within c = subst (λ (g : Graph). IsWithin g) (sym c.self.invariant.named) (graph_within c.self.inside.classes.now)

pub is_on_cycle-requires-clause-above : goal.is_on_cycle-requires-clause-above
is_on_cycle-requires-clause-above c =
    above_within c.self.inside.graph.now c.args.class c.args.above
    (subst (λ (g : Graph). IsWithin g) (sym c.self.invariant.named) (graph_within c.self.inside.classes.now))
    (subst (λ (g : Graph). Contains (supers g c.args.class) c.args.above) (ap graph_of (sym c.self.view_is) ∙ sym c.self.invariant.named) c.requires)

pub returns-in-None : goal.returns-in-None
returns-in-None c =
    let acyclic = subst (λ (given : List Source). IsAcyclic (graph_of given)) c.self.view_is (subst (λ (g : Graph). IsAcyclic g) c.self.invariant.named (c.self.invariant.acyclic c.in-None.is)) in
    (λ yes. absurd (true≢false (sym yes)), λ cycle. absurd (no_cycle c.args.self.now c.args.class c.args.above acyclic c.requires cycle))
