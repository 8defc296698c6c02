use Rattle.std.proofs.Common.{◌≡◌, map, take}
use Rattle.jesc_classes.specs.Sources.{seen}
use Rattle.jesc_members.specs.Methods.{methods_from}
use Rattle.jesc_members.specs.Seen.{seen_method}
use Rattle.jesc_members.proofs.methods.given_methods.Given as goal

abbrev pub invariant-loop-place : goal.invariant-loop-place
invariant-loop-place l = map seen_method l.methods ≡ methods_from 7 (map seen (take l.place l.class-items))
