use Rattle.std.proofs.Common.{◌≡◌, map, take}
use Rattle.jesc_members.specs.Signatures.{typed}
use Rattle.jesc_members.proofs.signatures.are_same_params.Given as goal

abbrev pub invariant-loop-i : goal.invariant-loop-i
invariant-loop-i l = take l.i (map typed l.a) ≡ take l.i (map typed l.b)
