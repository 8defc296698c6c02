use Rattle.jesc_classes.specs.Sources.{seen}
use Rattle.jesc_member_rules.proofs.JudgingNames.{repeated_parameter, fresh_parameter}
use Rattle.jesc_member_rules.proofs.heads.judge_parameter_name.Goals as goal

pub returns-in_ok-refuse-in-Some-clause-judged : goal.returns-in_ok-refuse-in-Some-clause-judged
returns-in_ok-refuse-in-Some-clause-judged c given before are =
    repeated_parameter given (seen c.args.class.now) before c.args.parameter.now c.args.names.now c.as_slice.result.now are c.as_slice.ensures c.in-Some.field-0 c.in_ok-refuse-in-Some.field-0 c.in-Some.ensures c.in_ok-refuse-in-Some.ensures

pub returns-in-None-clause-judged : goal.returns-in-None-clause-judged
returns-in-None-clause-judged c given before are =
    (fresh_parameter given (seen c.args.class.now) before c.args.parameter.now c.args.names.now c.as_slice.result.now are c.as_slice.ensures c.in-None.ensures, tt)
