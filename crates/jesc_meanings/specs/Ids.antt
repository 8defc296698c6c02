-- Numbers as ids.
use Rattle.std.specs.Prelude.{ℕ}
use Rattle.jesc_tree.specs.declared.ids.FieldId.{FieldId}
use Rattle.jesc_tree.specs.declared.ids.MethodId.{MethodId}

abbrev pub field_id : ℕ → FieldId
field_id n = record { 0 = n }

abbrev pub method_id : ℕ → MethodId
method_id n = record { 0 = n }
