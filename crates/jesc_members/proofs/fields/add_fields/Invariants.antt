use Rattle.std.proofs.Common.{◌≡◌, ◌++◌, map, take}
use Rattle.jesc_classes.specs.Sources.{seen}
use Rattle.jesc_members.specs.Fields.{fields_in}
use Rattle.jesc_members.specs.Seen.{seen_field}
use Rattle.jesc_members.proofs.fields.add_fields.Given as goal

abbrev pub invariant-loop-member : goal.invariant-loop-member
invariant-loop-member l = map seen_field l.fields ≡ map seen_field l.fn.fields ++ fields_in l.number (seen l.class) (take l.member-index l.member-items)
