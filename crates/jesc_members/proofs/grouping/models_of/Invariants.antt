use Rattle.std.proofs.Common.{◌≡◌, map, take}
use Rattle.jesc_members.specs.Fields.{is_model}
use Rattle.jesc_members.specs.Seen.{seen_field}
use Rattle.jesc_members.proofs.grouping.models_of.Given as goal

abbrev pub invariant-loop-field : goal.invariant-loop-field
invariant-loop-field l = l.models ≡ map is_model (map seen_field (take l.field-index l.fields))
