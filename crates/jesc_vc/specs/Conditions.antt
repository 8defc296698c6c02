-- What the conditions of a core have to do with its runs.
use Rattle.std.specs.Prelude.{◌≡◌, ◌⊎◌, List, [], ◌∷◌, map}
use Rattle.jesc_logic.specs.Structures.{Structure, read}
use Rattle.jesc_core.specs.Proper.{IsProper}
use Rattle.jesc_core.specs.Runs.{Fails, Turn}
use Rattle.jesc_core.specs.Trees.{CoreTree, Failure}
use Rattle.jesc_core.specs.Walks.{checks_of}
use Rattle.jesc_vc.specs.Facts.{Agree, AreMet, AreShort}
use Rattle.jesc_vc.specs.Moves.{ConditionTree, about, asked_of}

-- x is one of them
abbrev pub In : {X : Type 0} → List X → X → Type 0
In [] x = ⊥
In (y ∷ ys) x = (y ≡ x) ⊎ In ys x

-- the core has a condition for this check behind these turns, which can be made true: by a structure that agrees with this
-- one on all symbols that are not auxiliary
pub record HasCondition (core : CoreTree) (s : Structure) (failure : Failure) (turns : List Turn) : Type 0 where
  pub condition : ConditionTree
  pub there : In (asked_of core) condition
  pub turns_are : condition.turns ≡ turns
  pub failure_is : condition.failure ≡ failure
  pub other : Structure
  pub agrees : Agree 0 0 s other
  pub met : AreMet other condition.facts

-- one condition for each check on each path, depth first
abbrev pub AreListed : Type 0
AreListed = (core : CoreTree) → map about (asked_of core) ≡ checks_of core

-- a structure that makes a condition true has a run that fails its check, behind its turns
abbrev pub AreSound : Type 0
AreSound = (core : CoreTree) → IsProper core → (s : Structure) (d : ConditionTree) → In (asked_of core) d → AreShort d.facts → AreMet s d.facts → Fails (read s) core d.turns d.failure

-- where a structure has a run that fails a check, that check has a condition which can be made true
abbrev pub AreComplete : Type 0
AreComplete = (core : CoreTree) → IsProper core → (s : Structure) → ((d : ConditionTree) → In (asked_of core) d → AreShort d.facts) → (failure : Failure) (turns : List Turn) → Fails (read s) core turns failure → HasCondition core s failure turns
