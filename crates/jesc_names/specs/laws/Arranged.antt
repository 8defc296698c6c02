-- The order of the tables of class headings has every class once, behind its supertypes.
use Rattle.std.proofs.Common.{ℕ, ◌+◌, ◌<◌, ◌≤◌, ◌^◌, List, length, sym, subst, arith}
use Rattle.std.proofs.Math.Logic.{∥∥₁_elim}
use Rattle.std.proofs.Props.{props}
use Rattle.std.proofs.lemmas.Map.Steps.{le-length_from_below}
use Rattle.std.proofs.lemmas.Map.Views.{list_any-from_Contains}
use Rattle.std.proofs.lemmas.Cmp.{nat_eq_equiv}
use Rattle.jesc_classes.specs.declared.headings.ClassTables.{ClassTables}
use Rattle.jesc_classes.specs.Headings.{Source, graph_of}
use Rattle.jesc_classes.specs.Order.{Graph, IsWhole}
use Rattle.jesc_classes.specs.Tables.{AreTables}
use Rattle.jesc_classes.specs.laws.Graphs.{graph_length, graph_within}
use Rattle.jesc_classes.specs.laws.Orders.{are_classes, few_classes}
use Rattle.jesc_lookup.specs.Numbering.{IsArranged}

whole_long : (graph : Graph) (order : List ℕ) → IsWhole graph order → length graph ≤ length order
whole_long graph order whole = le-length_from_below order (length graph) (λ q l. list_any-from_Contains nat_eq_equiv q order (whole q l))

arranged_by : (given : List Source) (t : ClassTables) → length given + 7 < 2 ^ 32 → AreTables given t → IsArranged (graph_of given) t.order
arranged_by given t few tables =
    let graph = graph_of given in
    let most : length t.order ≤ length graph = ∥∥₁_elim tables.is_order (hlevel props) (λ o. few_classes graph t.order (are_classes graph t.order o)) in
    record {
      within = graph_within given;
      few = omega (arith, few, graph_length given);
      whole = tables.whole;
      count = omega (arith, most, whole_long graph t.order tables.whole);
      below = λ i l. omega (arith, tables.numbering.within i l, graph_length given);
      apart = tables.numbering.apart;
      first = tables.numbering.parents;
    }

pub arranged : (given : List Source) (t : ClassTables) → length given + 7 < 2 ^ 32 → AreTables given t → IsArranged t.graph t.order
arranged given t few tables = subst (λ (g : Graph). IsArranged g t.order) (sym tables.graph) (arranged_by given t few tables)
