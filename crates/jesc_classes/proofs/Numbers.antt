-- Ids by numbers, filled one after another.
use Rattle.std.proofs.Common.{◌≡◌, ℕ, ◌+◌, ◌<◌, ◌≤◌, List, [], ◌∷◌, Option, Some, None, length, get_or, refl}
use Rattle.std.proofs.lemmas.List.Elements.{All-from_recursion}
use Rattle.std.specs.List.{AllByRecursion}
use Rattle.jesc_ast.specs.declared.word.Word.{Word}
use Rattle.jesc_classes.specs.Entries.{id_in}
use Rattle.jesc_classes.specs.Headings.{Source, class_named, with_class, classes_named}
use Rattle.jesc_classes.specs.laws.Graphs.{class_within}

-- the first classes of the order have their ids
pub record AreFilled (order ids : List ℕ) (id : ℕ) : Type 0 where
  pub count : length ids ≡ length order
  pub small : id ≤ length order
  pub filled : (k : ℕ) → k < id → id_in ids (get_or order k 0) ≡ k

-- ---- the numbers of names

pub named_within : (given : List Source) (ws : List Word) → AllByRecursion (λ j. j < length given + 7) (classes_named given ws)
named_within given [] = tt
named_within given (w ∷ ws) = by (class_named given w.text) refl (named_within given ws)
  where
    by : (o : Option ℕ) → class_named given w.text ≡ o → AllByRecursion (λ j. j < length given + 7) (classes_named given ws) → AllByRecursion (λ j. j < length given + 7) (with_class o (classes_named given ws))
    by None e rest = rest
    by (Some j) e rest = (class_within given w.text j e, rest)

pub named_below : (given : List Source) (ws : List Word) (k : ℕ) → k < length (classes_named given ws) → get_or (classes_named given ws) k 0 < length given + 7
named_below given ws k l = All-from_recursion (λ j. j < length given + 7) (classes_named given ws) (named_within given ws) k 0 l
