-- What the tables of class headings hold.
use Rattle.std.specs.Prelude.{◌≡◌, List, []}
use Rattle.jesc_classes.specs.declared.headings.ClassTables.{ClassTables}
use Rattle.jesc_classes.specs.Order.{IsOrder, IsWhole}
use Rattle.jesc_classes.specs.Headings.{Source, graph_of}
use Rattle.jesc_classes.specs.Entries.{AreEntries, IsNumbering}

pub record AreTables (given : List Source) (t : ClassTables) : Type 0 where
  pub graph : t.graph ≡ graph_of given
  pub is_order : ∥ IsOrder (graph_of given) [] t.order ∥₁
  pub whole : IsWhole (graph_of given) t.order
  pub numbering : IsNumbering given t.order
  pub entries : AreEntries given t.order t.classes
