use Rattle.std.proofs.Common.{◌↔◌, ◌≡◌, true, ap, length, subst, arith}
use Rattle.jesc_classes.specs.laws.Graphs.{graph_length}
use Rattle.jesc_members.specs.Overriding.{IsOneHidden, IsPairAbove}
use Rattle.jesc_members.proofs.InheritOverrides.{hides_is}
use Rattle.jesc_members.proofs.inherit.Inheritance.has_hidden.Goals as goal

pub index-requires : goal.index-requires
index-requires c = omega (arith, c.requires, c.self.invariant.overrides_known.summed.count, graph_length c.self.inside.classes.now, ap length c.self.view_is)

pub returns : goal.returns
returns c =
    let s = c.self.inside in
    subst (λ g. (c.index.result.now.hides ≡ true) ↔ IsPairAbove g c.args.class IsOneHidden) c.self.view_is
    (hides_is s.classes.now s.methods s.summaries s.declared.now c.self.invariant.overrides_known c.args.class c.index.result.now (omega (arith, c.requires, ap length c.self.view_is)) c.index.ensures)
