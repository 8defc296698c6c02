use Rattle.std.proofs.Common.{◌≡◌, drop}
use Rattle.jesc_names.specs.Program.{has_constructor}
use Rattle.jesc_names.proofs.method_table.has_constructor.Given as goal

abbrev pub invariant-loop-member : goal.invariant-loop-member
invariant-loop-member l = has_constructor l.members ≡ has_constructor (drop l.member-index l.members)
