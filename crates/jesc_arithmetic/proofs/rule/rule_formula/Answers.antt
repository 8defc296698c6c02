use Rattle.std.proofs.Common.{subst}
use Rattle.jesc_logic.specs.Claims.{negation}
use Rattle.jesc_arithmetic.specs.Rules.{place_term, joint_claim, Says}
use Rattle.jesc_arithmetic.proofs.Saying.{says_later, same_joint, says_negation, says_either}
use Rattle.jesc_arithmetic.proofs.rule.rule_formula.Goals as goal

pub returns-clause-says : goal.returns-clause-says
returns-clause-says c =
    let old = c.args.terms.now in
    let mid = c.joint_formula.new.terms in
    let new = c.joint_formula-2.new.terms in
    let parts = c.args.parts.now in
    let p = joint_claim (place_term old parts) c.args.rule.now.premise in
    let q = joint_claim (place_term old parts) c.args.rule.now.conclusion in
    let fails = says_negation mid c.in_ok-fails.fails c.in_ok-premise.premise p c.in_ok-premise.ensures.says c.in_ok-fails.ensures in
    let first = says_later mid new c.in_ok-conclusion.ensures.keeps c.in_ok-fails.fails (negation p) fails in
    let second : Says new c.in_ok-conclusion.conclusion q = subst (Says new c.in_ok-conclusion.conclusion) (same_joint old mid c.in_ok-premise.ensures.keeps parts c.requires c.args.rule.now.conclusion) c.in_ok-conclusion.ensures.says in
    says_either new c.in_ok-fails.fails c.in_ok-conclusion.conclusion (negation p) q first second c.made-2.result c.made-2.ensures
