use Rattle.std.proofs.Common.{◌≡◌, drop, take, map}
use Rattle.std.specs.Prelude.{int_div}
use Rattle.jesc_linear.specs.Courses.{look_at_form}
use Rattle.jesc_linear.proofs.reduce.divided_form.Given as goal

abbrev pub invariant-loop-part : goal.invariant-loop-part
invariant-loop-part l = record {
  course : look_at_form (map (λ part. (int_div part.0 l.divisor, part.1)) l.form) ≡ look_at_form (map (λ part. (int_div part.0 l.divisor, part.1)) (drop l.part-index l.form));
  quotient : l.quotient ≡ map (λ part. (int_div part.0 l.divisor, part.1)) (take l.part-index l.form);
}
