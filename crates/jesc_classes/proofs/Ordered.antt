-- What an order of ids gives, where only that there is one is known.
use Rattle.std.proofs.Common.{◌≡◌, ℕ, ◌+◌, ◌≤◌, List, [], ◌<◌, ◌^◌, length, sym, ◌∙◌, subst, arith}
use Rattle.std.proofs.Math.Logic.{∥∥₁_elim, ∥∥₁_map}
use Rattle.std.specs.List.{All}
use Rattle.jesc_ast.specs.declared.class.File.{File}
use Rattle.jesc_classes.specs.Given.{AreGiven, ArePlaced}
use Rattle.jesc_classes.specs.Resolved.{AreHeadings}
use Rattle.jesc_classes.specs.laws.Givens.{few, placed, single}
use Rattle.std.proofs.Props.{props}
use Rattle.jesc_classes.specs.Order.{Graph, IsOrder, IsAcyclic}
use Rattle.jesc_classes.specs.Headings.{Source, AllHold, walk, graph_of, sources}
use Rattle.jesc_classes.specs.Entries.{IsNumbering, AreEntries, ExtendsOne, IsTable}
use Rattle.jesc_classes.specs.Tables.{AreTables}
use Rattle.jesc_classes.specs.declared.headings.ClassTables.{ClassTables}
use Rattle.jesc_tree.specs.Programs.{IsProgram, IsLawful}
use Rattle.jesc_classes.specs.laws.Lawful.{program, is_lawful}
use Rattle.jesc_classes.specs.laws.Graphs.{graph_length}
use Rattle.jesc_classes.specs.laws.Ids.{acyclic_where_long, numbering, long, all_there}

pub acyclic_by : (given : List Source) (order : List ℕ) (graph : Graph) → graph ≡ graph_of given → ∥ IsOrder (graph_of given) [] order ∥₁ → length graph ≤ length order → IsAcyclic graph
acyclic_by given order graph e is l = subst IsAcyclic (sym e) (∥∥₁_elim is (hlevel props) (λ o. acyclic_where_long given order o (subst (λ (g : Graph). length g ≤ length order) e l)))

pub numbering_by : (given : List Source) (order : List ℕ) → ∥ IsOrder (graph_of given) [] order ∥₁ → IsNumbering given order
numbering_by given order is = ∥∥₁_elim is (hlevel props) (numbering given order)

pub long_by : (given : List Source) (order : List ℕ) → AllHold given (walk given) → ∥ IsOrder (graph_of given) [] order ∥₁ → length order ≡ length given + 7
long_by given order holds is = ∥∥₁_elim is (hlevel props) (long given order holds)

pub moved : (given : List Source) (slice graph : Graph) (view order : List ℕ) → slice ≡ graph → graph ≡ graph_of given → view ≡ order → ∥ IsOrder slice [] order ∥₁ → ∥ IsOrder (graph_of given) [] view ∥₁
moved given slice graph view order e f g is = subst (λ (x : Graph). ∥ IsOrder x [] view ∥₁) (e ∙ f) (subst (λ (o : List ℕ). ∥ IsOrder slice [] o ∥₁) (sym g) is)

pub few_by : (files : List File) (given : List Source) → given ≡ sources files → ∥ AreGiven files ∥₁ → length given + 7 < 2 ^ 32
few_by files given e h = subst (λ (ss : List Source). length ss + 7 < 2 ^ 32) (sym e) (∥∥₁_elim h (hlevel props) (few files))

pub placed_by : (files : List File) (given : List Source) → given ≡ sources files → ∥ AreGiven files ∥₁ → All ArePlaced given
placed_by files given e h = subst (All ArePlaced) (sym e) (∥∥₁_elim h (hlevel props) (placed files))

pub single_by : (files : List File) (given : List Source) → given ≡ sources files → ∥ AreGiven files ∥₁ → All ExtendsOne given
single_by files given e h = subst (All ExtendsOne) (sym e) (∥∥₁_elim h (hlevel props) (single files))

-- the tables of headings that break no rule
pub tables_by : (given : List Source) (t : ClassTables) → AllHold given (walk given) → ∥ IsOrder (graph_of given) [] t.order ∥₁ → t.graph ≡ graph_of given → AreEntries given t.order t.classes → AreTables given t
tables_by given t holds is graph entries = record {
  graph = graph;
  is_order = is;
  whole = λ class l. all_there (length given + 7) t.order numbering.apart numbering.within (omega (arith, long_by given t.order holds is)) class (omega (arith, l, graph_length given));
  numbering = numbering;
  entries = entries;
}
  where
    numbering : IsNumbering given t.order
    numbering = numbering_by given t.order is

pub headings_of : (given : List Source) (t : ClassTables) → AreTables given t → ∥ AreHeadings given t.classes ∥₁
headings_of given t a =
    ∥∥₁_map a.is_order (λ o. record { order = t.order; is_order = o; whole = a.whole; count = a.entries.count; names = a.entries.names; each = a.entries.each })

table_of : (given : List Source) (t : ClassTables) → AreTables given t → IsTable given t.classes
table_of given t a = record { order = t.order; numbering = a.numbering; entries = a.entries }

pub program_of : (given : List Source) (t : ClassTables) → AreTables given t → IsProgram t.classes [] []
program_of given t a = program given t.classes (table_of given t a) a.entries.bare a.entries.plain

pub lawful_of : (given : List Source) (t : ClassTables) → AllHold given (walk given) → AreTables given t → IsLawful t.classes [] []
lawful_of given t holds a = is_lawful given t.classes (table_of given t a) a.entries.bare a.entries.plain holds
