-- Rows of constructors.
use Rattle.std.specs.Prelude.{◌≡◌, ℕ, ◌<◌, nat_eq, Option, Some, None, List, [], length, get_or, if◌then◌else◌}
use Rattle.jesc_lookup.specs.Lines.{or_else}
use Rattle.jesc_tree.specs.declared.class.Class.{Class}
use Rattle.jesc_tree.specs.declared.class.Method.{Method}
use Rattle.jesc_meanings.specs.Meanings.{first_that, is_constructor_of, own_constructor}

-- the row has the item at the count, where it had none
abbrev pub Puts : List (Option ℕ) → ℕ → ℕ → List (Option ℕ) → Type 0
Puts row count item new = (k : ℕ) → get_or new k None ≡ or_else (get_or row k None) (if nat_eq k count then Some item else None)

-- the row tells of each count the first of these that is a constructor with so many parameters
abbrev pub TellsConstructors : List Method → List ℕ → List (Option ℕ) → Type 0
TellsConstructors methods ids row = (count : ℕ) → get_or row count None ≡ first_that (is_constructor_of methods count) ids

-- the row takes up the method with that number, where it is a constructor
abbrev pub TakesMethod : List Method → List (Option ℕ) → ℕ → List (Option ℕ) → Type 0
TakesMethod methods row id new = (count : ℕ) → get_or new count None ≡ or_else (get_or row count None) (if is_constructor_of methods count id then Some id else None)

-- each class has its row
pub record AreConstructors (classes : List Class) (methods : List Method) (rows : List (List (Option ℕ))) : Type 0 where
  pub count : length rows ≡ length classes
  pub each : (class : ℕ) → class < length classes → (count : ℕ) → get_or (get_or rows class []) count None ≡ own_constructor classes methods count class
