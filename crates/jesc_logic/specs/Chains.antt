-- The facts of a chain, in order.
use Rattle.std.specs.Prelude.{List, [], ◌∷◌, ◌++◌}
use Rattle.jesc_logic.specs.declared.fact.Fact.{Fact}
use Rattle.jesc_logic.specs.declared.facts.Link.{Link}
use Rattle.jesc_logic.specs.declared.facts.Link.TheVariants.{Start, After}

abbrev pub facts_of : Link → List Fact
facts_of Start = []
facts_of (After step) = step.value.0 ++ step.value.1 ∷ []
