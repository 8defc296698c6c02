use Rattle.std.proofs.Common.{ℕ, ◌+◌, ◌∷◌, ◌++◌, [], List, Ok, ap, sym, subst, take, drop}
use Rattle.jesc_ast.specs.declared.class.ParamTree.{ParamTree}
use Rattle.jesc_classes.specs.Named.{Named}
use Rattle.jesc_classes.specs.Sources.{seen}
use Rattle.jesc_member_rules.specs.Judging.{AreNames, parameter_parts}
use Rattle.jesc_member_rules.specs.Members.{parameters_from}
use Rattle.jesc_member_rules.proofs.JudgingWalk.{goes_on, stops, along, drop_end, front_at}
use Rattle.jesc_member_rules.proofs.JudgingNames.{more_names}
use Rattle.jesc_member_rules.proofs.JudgingHeads.{parameter_at}
use Rattle.jesc_member_rules.proofs.heads.judge_parameters.Goals as goal

pub returns-in_err-judge_parameter : goal.returns-in_err-judge_parameter
returns-in_err-judge_parameter c =
    let given = c.args.known.now in
    let s = seen c.args.class.now in
    let ps = c.args.parameters.now in
    let i = c.loop-parameter.parameter-index in
    let p = c.parameter-item.result in
    c.loop-parameter.invariant.rest _ (along given _ _ _ (parameter_at s ps i p c.loop-parameter-test.true c.parameter-item.is)
    (stops given (parameter_parts s (take i ps) p) _ _ c.in_err-judge_parameter.field-0.0 c.from_residual.ensures.1 (c.in_err-judge_parameter.ensures.judged (take i ps) c.loop-parameter.invariant.names)))

pub loop-parameter-preserved : goal.loop-parameter-preserved
loop-parameter-preserved c =
    let given = c.args.known.now in
    let s = seen c.args.class.now in
    let ps = c.args.parameters.now in
    let i = c.loop-parameter.parameter-index in
    let p = c.parameter-item.result in
    let front = front_at ps i p c.loop-parameter-test.true c.parameter-item.is in
    let more = more_names (λ (q : ParamTree). q.name.text) c.loop-parameter.names (take i ps) p c.as_slice.result.now 0 c.loop-parameter.invariant.names c.as_slice.ensures in
    record {
      names = subst (λ (t : List (Named ℕ)). AreNames (λ (q : ParamTree). q.name.text) (take (i + 1) ps) t) (sym c.in_ok-add.ensures.ok)
          (subst (λ (qs : List ParamTree). AreNames (λ (q : ParamTree). q.name.text) qs (c.loop-parameter.names ++ (c.as_slice.result.now, 0) ∷ [])) (sym front) more);
      rest = λ r h. c.loop-parameter.invariant.rest r (along given r _ _ (parameter_at s ps i p c.loop-parameter-test.true c.parameter-item.is)
          (goes_on given (parameter_parts s (take i ps) p) (parameters_from s (take (i + 1) ps) (drop (i + 1) ps)) r (c.in_ok-judge_parameter.ensures.judged (take i ps) c.loop-parameter.invariant.names) h));
    }

pub returns : goal.returns
returns c =
    let s = seen c.args.class.now in
    let ps = c.args.parameters.now in
    let i = c.loop-parameter.parameter-index in
    c.loop-parameter.invariant.rest (Ok (tt {0}))
    (along c.args.known.now (Ok (tt {0})) _ [] (ap (parameters_from s (take i ps)) (drop_end ps i c.loop-parameter-test.false)) (tt {0}))
