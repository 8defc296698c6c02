-- What a clause of a heading, `extends` or `implements`, says of the words in it.
use Rattle.std.specs.Prelude.{◌≡◌, ℕ, ◌+◌, ◌<◌, ◌^◌, Bool, List, length, slice_get, Option, Some, None, IfSome}
use Rattle.std.specs.Borrow.{Bor}
use Rattle.std.specs.List.{Contains}
use Rattle.jesc_ast.specs.declared.word.Word.{Word}
use Rattle.jesc_classes.specs.declared.hierarchy.Clause.{Clause}
use Rattle.jesc_classes.specs.declared.hierarchy.Clause.TheVariants.{Extends, Implements}
use Rattle.jesc_classes.specs.Headings.{Source, Part, extended, implemented, MayExtend, IsInterface, class_named, graph_of}
use Rattle.jesc_classes.specs.Order.{Graph, IsAcyclic, supers}
use Rattle.jesc_classes.specs.Ranks.{AreRanks}

-- the part that a word of the clause is
abbrev pub part_in : Clause → ℕ → Source → Word → Part
part_in Extends = extended
part_in Implements = implemented

-- which classes the clause may name, of a class or of an interface
abbrev pub MayStand : List Source → Clause → Bool → ℕ → Type 0
MayStand given Extends is_interface = MayExtend given is_interface
MayStand given Implements is_interface = IsInterface given

-- a known class of that word's name is a supertype
abbrev pub NamesSuper : List Source → ℕ → Word → Type 0
NamesSuper given i w = (j : ℕ) → class_named given w.text ≡ Some j → Contains (supers (graph_of given) i) j

-- the number is that of the given class
abbrev pub IsNumber : List Source → ℕ → Source → Type 0
IsNumber given i s = (n : ℕ) × (i ≡ 7 + n) × (slice_get given n ≡ Some s)

-- the supertypes of the given classes, with ranks unless no class is its own supertype
pub record AreSupertypes (given : List Source) (graph : Graph) (ranks : Option (Bor (List ℕ))) : Type 0 where
  pub few : length given + 7 < 2 ^ 32
  pub named : graph ≡ graph_of given
  pub ranked : IfSome ranks (λ r. AreRanks graph r.now)
  pub acyclic : ranks ≡ None → IsAcyclic graph
