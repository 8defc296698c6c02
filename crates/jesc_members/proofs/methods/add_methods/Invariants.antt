use Rattle.std.proofs.Common.{◌≡◌, ◌++◌, map, take}
use Rattle.jesc_classes.specs.Sources.{seen}
use Rattle.jesc_members.specs.Methods.{methods_in}
use Rattle.jesc_members.specs.Seen.{seen_method}
use Rattle.jesc_members.proofs.methods.add_methods.Given as goal

abbrev pub invariant-loop-member : goal.invariant-loop-member
invariant-loop-member l = map seen_method l.methods ≡ map seen_method l.fn.methods ++ methods_in l.number (seen l.class) (take l.member-index l.member-items)
