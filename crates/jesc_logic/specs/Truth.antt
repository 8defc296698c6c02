-- When a fact and a condition are true in a structure.
use Rattle.std.specs.Prelude.{◌≡◌, IsTrue, ℤ, List, length, All}
use Rattle.jesc_logic.specs.declared.fact.Fact.{Fact}
use Rattle.jesc_logic.specs.declared.condition.Condition.{Condition}
use Rattle.jesc_logic.specs.Terms.{Term}
use Rattle.jesc_logic.specs.Claims.{claim_of}
use Rattle.jesc_logic.specs.Structures.{Structure, with_values, is_true}

-- the body is true for all whole numbers of the variables, which are the symbols from 32 on
abbrev pub IsTrueFact : Structure → List Term → Fact → Type 0
IsTrueFact s terms fact = (xs : List ℤ) → length xs ≡ length fact.vars → IsTrue (is_true (with_values 32 xs s) (claim_of terms fact.body))

abbrev pub IsTrueCondition : Structure → List Term → Condition → Type 0
IsTrueCondition s terms condition = All (IsTrueFact s terms) condition.facts
