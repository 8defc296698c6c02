use Rattle.std.proofs.Common.{[], drop, take}
use Rattle.jesc_classes.specs.Sources.{seen}
use Rattle.jesc_member_rules.specs.Judging.{AreNames}
use Rattle.jesc_member_rules.specs.Members.{Judges, parameters_from}
use Rattle.jesc_member_rules.proofs.JudgingWalk.{Answer}
use Rattle.jesc_member_rules.proofs.heads.judge_parameters.Given as goal

-- the names so far, and what is answered for the parameters that are left is the answer for all
abbrev pub invariant-loop-parameter : goal.invariant-loop-parameter
invariant-loop-parameter l = record {
  names : AreNames (λ q. q.name.text) (take l.parameter-index l.parameters) l.names;
  rest : (r : Answer) → Judges l.known r (parameters_from (seen l.class) (take l.parameter-index l.parameters) (drop l.parameter-index l.parameters)) → Judges l.known r (parameters_from (seen l.class) [] l.parameters);
}
