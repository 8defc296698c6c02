-- What stands between the headings and the table of classes.
use Rattle.std.specs.Prelude.{◌≡◌, ℕ, ◌+◌, ◌<◌, ◌≤◌, false, Some, List, [], length, map, take, codes, get_or, slice_get}
use Rattle.std.specs.List.{All, Contains, list_any}
use Rattle.jesc_ast.specs.Lines.{place_at}
use Rattle.jesc_tree.specs.declared.class.Class.{Class}
use Rattle.jesc_tree.specs.Subtypes.{IsAt, parent_list}
use Rattle.jesc_tree.specs.Programs.{predefined, IsBare}
use Rattle.jesc_classes.specs.Order.{supers}
use Rattle.jesc_classes.specs.Headings.{Source, graph_of, is_word}
use Rattle.jesc_classes.specs.Resolved.{IsId, superclass, interfaces, IsHeading}

-- no class has two ids
abbrev pub AreApart : List ℕ → Type 0
AreApart order = (i j : ℕ) → i < j → j < length order → get_or order i 0 ≡ get_or order j 0 → ⊥

-- what is true of the order of ids
pub record IsNumbering (given : List Source) (order : List ℕ) : Type 0 where
  pub apart : AreApart order
  pub within : (i : ℕ) → i < length order → get_or order i 0 < length given + 7
  -- the predefined classes come first
  pub first : (k : ℕ) → k < 7 → slice_get order k ≡ Some k
  -- a supertype's id is smaller
  pub parents : (i j : ℕ) → i < length order → j < length order → Contains (supers (graph_of given) (get_or order i 0)) (get_or order j 0) → j < i

-- the id of each class by its number
abbrev pub id_in : List ℕ → ℕ → ℕ
id_in ids number = get_or ids number 0

abbrev pub AreIds : List ℕ → List ℕ → Type 0
AreIds order ids = (number : ℕ) → number < length ids → IsId order number (id_in ids number)

-- a class extends one other at most
abbrev pub ExtendsOne : Source → Type 0
ExtendsOne s = s.tree.is_interface ≡ false → length s.tree.extends ≤ 1

-- what the table holds of a given class, by the ids of all
pub record IsEntry (given : List Source) (ids : List ℕ) (s : Source) (c : Class) : Type 0 where
  pub name : c.name ≡ s.tree.name.text
  pub place : c.place ≡ place_at s.lines s.tree.name.span
  pub is_interface : c.is_interface ≡ s.tree.is_interface
  pub is_abstract : c.is_abstract ≡ list_any (is_word (codes "abstract")) s.tree.modifiers
  pub parent : parent_list c.parent ≡ map (id_in ids) (superclass given s.tree)
  pub interfaces : map (λ i. i.0) c.interfaces ≡ map (id_in ids) (interfaces given s.tree)

pub record HasNoMembers (c : Class) : Type 0 where
  pub fields : c.fields ≡ []
  pub methods : c.methods ≡ []
  pub invariants : c.invariants ≡ []
  pub represents : c.represents ≡ []

-- the table: the predefined classes, and then the given ones in the order of their ids
pub record AreEntries (given : List Source) (order : List ℕ) (classes : List Class) : Type 0 where
  pub count : length classes ≡ length order
  pub names : map (λ c. (c.name, parent_list c.parent)) (take 7 classes) ≡ predefined
  pub bare : All IsBare (take 7 classes)
  pub plain : All HasNoMembers classes
  pub each : (id n : ℕ) (c : Class) (s : Source) → IsAt classes id c → IsId order (7 + n) id → slice_get given n ≡ Some s → IsHeading given order s c

pub record IsTable (given : List Source) (classes : List Class) : Type 0 where
  pub order : List ℕ
  pub numbering : IsNumbering given order
  pub entries : AreEntries given order classes
