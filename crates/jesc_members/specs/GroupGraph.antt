-- The relation `in` as lists.
use Rattle.std.specs.Prelude.{◌≡◌, ◌↔◌, ℕ, List, length}
use Rattle.std.specs.List.{Contains}
use Rattle.jesc_classes.specs.Headings.{Source}
use Rattle.jesc_classes.specs.Order.{Graph, supers, IsWithin}
use Rattle.jesc_members.specs.Fields.{fields_of}
use Rattle.jesc_members.specs.Groups.{IsIn}

-- of each field by number, the model fields that it names behind `in`
pub record AreGroups (given : List Source) (graph : Graph) : Type 0 where
  pub count : length graph ≡ length (fields_of given)
  pub within : IsWithin graph
  pub each : (f g : ℕ) → Contains (supers graph f) g ↔ IsIn given f g
