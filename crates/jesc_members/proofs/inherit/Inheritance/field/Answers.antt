use Rattle.std.proofs.Common.{◌<◌, length, ap, sym, subst, arith}
use Rattle.jesc_classes.specs.Headings.{graph_of}
use Rattle.jesc_classes.specs.laws.Graphs.{graph_length}
use Rattle.jesc_members.specs.Fields.{own_field}
use Rattle.jesc_lookup.specs.Lookup.{Found}
use Rattle.jesc_members.specs.Meanings.{FieldFound}
use Rattle.jesc_members.proofs.inherit.Inheritance.field.Goals as goal

pub find-requires-clause-class : goal.find-requires-clause-class
find-requires-clause-class c = omega (arith, c.requires, c.self.invariant.fields_known.count, graph_length c.self.inside.classes.now, ap length c.self.view_is)

pub find-requires-clause-version : goal.find-requires-clause-version
find-requires-clause-version c = c.self.invariant.fields_known.there c.args.class

pub returns : goal.returns
returns c =
    let given = c.self.inside.classes.now in
    let name = c.args.name.now in
    let inside : c.args.class < length (graph_of given) = omega (arith, c.requires, graph_length given, ap length c.self.view_is) in
    subst (λ g. FieldFound g name c.args.class c.find.result) c.self.view_is
    (subst (λ o. Found (graph_of given) (own_field given name) c.args.class o) (sym c.find.ensures) (c.self.invariant.fields_known.each c.args.class inside name))
