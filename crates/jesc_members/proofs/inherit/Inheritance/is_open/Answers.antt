use Rattle.std.proofs.Common.{◌<◌, length, ap, sym, subst, arith}
use Rattle.jesc_classes.specs.Headings.{graph_of}
use Rattle.jesc_classes.specs.laws.Graphs.{graph_length}
use Rattle.jesc_members.specs.Overriding.{IsOpen}
use Rattle.jesc_members.proofs.inherit.Inheritance.is_open.Goals as goal

pub is_open-requires-clause-class : goal.is_open-requires-clause-class
is_open-requires-clause-class c = omega (arith, c.requires, c.self.invariant.methods_known.count, graph_length c.self.inside.classes.now, ap length c.self.view_is)

pub is_open-requires-clause-there : goal.is_open-requires-clause-there
is_open-requires-clause-there c = c.self.invariant.bare_known.there c.args.class

pub returns : goal.returns
returns c =
    let given = c.self.inside.classes.now in
    let inside : c.args.class < length (graph_of given) = omega (arith, c.requires, graph_length given, ap length c.self.view_is) in
    let tells = c.self.invariant.bare_known.each c.args.class inside in (
      λ t. subst (λ g. IsOpen g c.args.class) c.self.view_is (tells.0 (c.is_open.ensures.0 t)),
      λ o. c.is_open.ensures.1 (tells.1 (subst (λ g. IsOpen g c.args.class) (sym c.self.view_is) o)),
    )
