use Rattle.std.proofs.Common.{◌≡◌, drop}
use Rattle.std.specs.Int.{cast_unsigned, w128}
use Rattle.jesc_accept.specs.Marks.{mark_from}
use Rattle.jesc_accept.proofs.marks.mark_of.Given as goal

abbrev pub invariant-loop-part : goal.invariant-loop-part
invariant-loop-part l = mark_from (cast_unsigned w128 l.atom.bound) l.atom.form ≡ mark_from l.mark (drop l.part-index l.atom.form)
