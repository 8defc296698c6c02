use Rattle.std.proofs.Common.{◌≡◌, drop}
use Rattle.jesc_linear.specs.Courses.{look_at_form}
use Rattle.jesc_linear.proofs.reduce.look_at_form.Given as goal

abbrev pub invariant-loop-part : goal.invariant-loop-part
invariant-loop-part l = look_at_form l.form ≡ look_at_form (drop l.part-index l.form)
