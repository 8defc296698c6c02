-- The given classes as the code holds them, and the tables beside them.
use Rattle.std.specs.Prelude.{◌≡◌, ℕ, List, [], ◌∷◌, ◌++◌, length, Bool, map}
use Rattle.std.specs.List.{list_any}
use Rattle.std.specs.Prelude.{codes}
use Rattle.jesc_classes.specs.declared.source.GivenClass.{GivenClass}
use Rattle.jesc_classes.specs.Named.{Named, find}
use Rattle.jesc_classes.specs.Headings.{Source, source, first_from, class_named, is_word}

abbrev pub seen : GivenClass → Source
seen g = source g.lines.now g.tree.now

abbrev pub seen_all : List GivenClass → List Source
seen_all = map seen

-- the tables say of the given classes which are final, and of each name the first class that has it
pub record IsIndex (given : List Source) (finals : List Bool) (names : List (Named ℕ)) : Type 0 where
  pub are_final : finals ≡ map (λ s. list_any (is_word (codes "final")) s.tree.modifiers) given
  pub by_name : (name : List ℕ) → find name names ≡ class_named given name

-- the table has the place of the first of each of these names
abbrev pub HasFirsts : List (Named ℕ) → List (List ℕ) → Type 0
HasFirsts table names = (name : List ℕ) → find name table ≡ first_from 0 name names

-- the other table has one name more, which comes behind those of this one
abbrev pub AddsFirst : List (Named ℕ) → List ℕ → ℕ → List (Named ℕ) → Type 0
AddsFirst table name number other = (names : List (List ℕ)) → number ≡ length names → HasFirsts table names → HasFirsts other (names ++ name ∷ [])
