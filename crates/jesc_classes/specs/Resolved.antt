-- The table of classes that headings give.
use Rattle.std.specs.Prelude.{◌≡◌, ℕ, ◌+◌, Bool, true, false, Some, List, [], length, map, take, codes, slice_get}
use Rattle.std.specs.List.{AllZip, list_any}
use Rattle.jesc_ast.specs.declared.class.ClassTree.{ClassTree}
use Rattle.jesc_ast.specs.Lines.{place_at}
use Rattle.jesc_tree.specs.declared.class.Class.{Class}
use Rattle.jesc_tree.specs.Subtypes.{IsAt, parent_list}
use Rattle.jesc_tree.specs.Programs.{predefined}
use Rattle.jesc_classes.specs.Order.{IsOrder, IsWhole}
use Rattle.jesc_classes.specs.Headings.{Source, classes_named, extended_by, graph_of, is_word}

-- the class with that number has that id
abbrev pub IsId : List ℕ → ℕ → ℕ → Type 0
IsId order number id = slice_get order id ≡ Some number

-- the numbers of the superclass, and of the interfaces that the heading names
abbrev pub superclass : List Source → ClassTree → List ℕ
superclass given c = by c.is_interface
  where
    by : Bool → List ℕ
    by true = []
    by false = extended_by given c c.extends

abbrev pub interfaces : List Source → ClassTree → List ℕ
interfaces given c = by c.is_interface
  where
    by : Bool → List ℕ
    by true = classes_named given c.extends
    by false = classes_named given c.implements

-- what the table holds of a given class
pub record IsHeading (given : List Source) (order : List ℕ) (s : Source) (c : Class) : Type 0 where
  pub name : c.name ≡ s.tree.name.text
  pub place : c.place ≡ place_at s.lines s.tree.name.span
  pub is_interface : c.is_interface ≡ s.tree.is_interface
  pub is_abstract : c.is_abstract ≡ list_any (is_word (codes "abstract")) s.tree.modifiers
  pub parent : AllZip (IsId order) (superclass given s.tree) (parent_list c.parent)
  pub interfaces : AllZip (IsId order) (interfaces given s.tree) (map (λ i. i.0) c.interfaces)

-- the classes in the order of their ids: again and again the first one in source order whose supertypes all have ids
pub record AreHeadings (given : List Source) (classes : List Class) : Type 0 where
  pub order : List ℕ
  pub is_order : IsOrder (graph_of given) [] order
  pub whole : IsWhole (graph_of given) order
  pub count : length classes ≡ length order
  pub names : map (λ c. (c.name, parent_list c.parent)) (take 7 classes) ≡ predefined
  pub each : (id n : ℕ) (c : Class) (s : Source) → IsAt classes id c → IsId order (7 + n) id → slice_get given n ≡ Some s → IsHeading given order s c
