use Rattle.std.proofs.Common.{◌≡◌, take}
use Rattle.jesc_linear.proofs.outcome.copied_form.Given as goal

abbrev pub invariant-loop-part : goal.invariant-loop-part
invariant-loop-part l = l.copy ≡ take l.part-index l.form
