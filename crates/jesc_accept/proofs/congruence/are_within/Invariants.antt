use Rattle.std.proofs.Common.{take, ◌^◌}
use Rattle.std.specs.Prelude.{All}
use Rattle.jesc_clauses.specs.Merges.{IsWithin}
use Rattle.jesc_accept.proofs.congruence.are_within.Given as goal

abbrev pub invariant-loop-part : goal.invariant-loop-part
invariant-loop-part l = All (IsWithin (2 ^ 31)) (take l.part-index l.form)
