use Rattle.std.proofs.Common.{◌≡◌, take}
use Rattle.jesc_accept.proofs.arithmetic.copied.Given as goal

abbrev pub invariant-loop-part : goal.invariant-loop-part
invariant-loop-part l = l.form ≡ take l.part-index l.atom.form
