use Rattle.std.proofs.Common.{◌≡◌, map, take}
use Rattle.jesc_classes.specs.Sources.{seen}
use Rattle.jesc_members.specs.Fields.{fields_from}
use Rattle.jesc_members.specs.Seen.{seen_field}
use Rattle.jesc_members.proofs.fields.given_fields.Given as goal

abbrev pub invariant-loop-place : goal.invariant-loop-place
invariant-loop-place l = map seen_field l.fields ≡ fields_from 7 (map seen (take l.place l.class-items))
