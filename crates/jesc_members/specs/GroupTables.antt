-- The tables of data groups, and the walk over them.
use Rattle.std.specs.Prelude.{◌≡◌, ◌↔◌, ◌⊎◌, ◌<◌, ◌^◌, ◌++◌, ℕ, nat_eq, List, length}
use Rattle.std.specs.List.{Contains, IsDistinct}
use Rattle.jesc_ast.specs.declared.word.Word.{Word}
use Rattle.jesc_classes.specs.Headings.{Source}
use Rattle.jesc_classes.specs.Order.{Graph, supers}
use Rattle.jesc_classes.specs.Ranks.{AreRanks}
use Rattle.jesc_members.specs.GroupGraph.{AreGroups}
use Rattle.jesc_members.specs.Groups.{NamesModel}

-- the numbers met are those in the list, where each stands once
pub record AreSame (met found : List ℕ) : Type 0 where
  pub same : (q : ℕ) → Contains met q ↔ Contains found q
  pub once : IsDistinct nat_eq found

-- the new list is the old one with what else is among the numbers
pub record GoesOn (numbers old new : List ℕ) : Type 0 where
  pub more : List ℕ
  pub on : new ≡ old ++ more
  pub each : (q : ℕ) → Contains new q ↔ (Contains old q ⊎ Contains numbers q)

-- one of the words means that model field in the class
abbrev pub Names : List Source → ℕ → List Word → ℕ → Type 0
Names given class words g = (w : Word) × Contains words w × NamesModel given class w.text g

-- what names a number is in its row of the second graph
pub record IsReverse (graph reverse : Graph) : Type 0 where
  pub count : length reverse ≡ length graph
  pub each : (f g : ℕ) → Contains (supers reverse g) f ↔ Contains (supers graph f) g

-- the model fields that each field names, the fields that name each, and ranks
pub record AreGroupTables (given : List Source) (graph reverse : Graph) (ranks : List ℕ) : Type 0 where
  pub groups : AreGroups given graph
  pub few : length graph < 2 ^ 32
  pub reversed : IsReverse graph reverse
  pub ranked : AreRanks graph ranks
