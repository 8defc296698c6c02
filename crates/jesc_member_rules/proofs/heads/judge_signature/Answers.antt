use Rattle.std.proofs.Common.{[], map}
use Rattle.jesc_classes.specs.Sources.{seen}
use Rattle.jesc_member_rules.specs.Members.{parameters_from, thrown}
use Rattle.jesc_member_rules.proofs.JudgingWalk.{goes_on, stops}
use Rattle.jesc_member_rules.proofs.heads.judge_signature.Goals as goal

pub returns-in_err-judge_parameters : goal.returns-in_err-judge_parameters
returns-in_err-judge_parameters c =
    let s = seen c.args.class.now in
    stops c.args.known.now (parameters_from s [] c.args.parameters.now) (map (thrown s) c.args.throws.now) _ c.in_err-judge_parameters.field-0.0 c.from_residual.ensures.1 c.in_err-judge_parameters.ensures

pub returns : goal.returns
returns c =
    let s = seen c.args.class.now in
    goes_on c.args.known.now (parameters_from s [] c.args.parameters.now) (map (thrown s) c.args.throws.now) _ c.in_ok-judge_parameters.ensures c.judge_throws.ensures
