use Rattle.std.proofs.Common.{◌≡◌, map, take}
use Rattle.jesc_members.proofs.keys.field_owners.Given as goal

abbrev pub invariant-loop-field : goal.invariant-loop-field
invariant-loop-field l = l.owners ≡ map (λ f. f.number) (take l.field-index l.fields)
