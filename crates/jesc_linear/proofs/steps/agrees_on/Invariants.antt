use Rattle.std.proofs.Common.{drop}
use Rattle.jesc_linear.specs.Inner.{AgreesOn}
use Rattle.jesc_linear.proofs.steps.agrees_on.Given as goal

abbrev pub invariant-loop-part : goal.invariant-loop-part
invariant-loop-part l = record {
  to : AgreesOn l.first l.second l.step l.form → AgreesOn l.first l.second l.step (drop l.part-index l.form);
  from : AgreesOn l.first l.second l.step (drop l.part-index l.form) → AgreesOn l.first l.second l.step l.form;
}
