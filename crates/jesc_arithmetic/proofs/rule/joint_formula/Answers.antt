use Rattle.std.proofs.Common.{IfOk, subst, sym}
use Rattle.jesc_arithmetic.specs.declared.rule.Joint.{Joint}
use Rattle.jesc_arithmetic.specs.Rules.{place_term, comparison_claim, joint_claim, Says}
use Rattle.jesc_arithmetic.proofs.Saying.{says_later, same_comparison, says_both, says_either}
use Rattle.jesc_arithmetic.proofs.rule.joint_formula.Goals as goal

pub returns-in_ok-g-in-Both-clause-says : goal.returns-in_ok-g-in-Both-clause-says
returns-in_ok-g-in-Both-clause-says c =
    let old = c.args.terms.now in
    let mid = c.comparison_formula-in-Both.new.terms in
    let new = c.comparison_formula-in-Both-2.new.terms in
    let parts = c.args.parts.now in
    let x = c.in-Both in
    let p = comparison_claim (place_term old parts) x.a in
    let q = comparison_claim (place_term old parts) x.b in
    let first = says_later mid new c.in_ok-g-in-Both.ensures.keeps c.in_ok-f-in-Both.f p c.in_ok-f-in-Both.ensures.says in
    let second : Says new c.in_ok-g-in-Both.g q = subst (Says new c.in_ok-g-in-Both.g) (same_comparison old mid c.in_ok-f-in-Both.ensures.keeps parts c.requires x.b) c.in_ok-g-in-Both.ensures.says in
    subst (λ (j : Joint). IfOk c.made.result (λ f. Says new f (joint_claim (place_term old parts) j))) (sym x.is)
    (says_both new c.in_ok-f-in-Both.f c.in_ok-g-in-Both.g p q first second c.made.result c.made.ensures)

pub returns-in_ok-g-in-Either-clause-says : goal.returns-in_ok-g-in-Either-clause-says
returns-in_ok-g-in-Either-clause-says c =
    let old = c.args.terms.now in
    let mid = c.comparison_formula-in-Either.new.terms in
    let new = c.comparison_formula-in-Either-2.new.terms in
    let parts = c.args.parts.now in
    let x = c.in-Either in
    let p = comparison_claim (place_term old parts) x.a in
    let q = comparison_claim (place_term old parts) x.b in
    let first = says_later mid new c.in_ok-g-in-Either.ensures.keeps c.in_ok-f-in-Either.f p c.in_ok-f-in-Either.ensures.says in
    let second : Says new c.in_ok-g-in-Either.g q = subst (Says new c.in_ok-g-in-Either.g) (same_comparison old mid c.in_ok-f-in-Either.ensures.keeps parts c.requires x.b) c.in_ok-g-in-Either.ensures.says in
    subst (λ (j : Joint). IfOk c.made-in-Either.result (λ f. Says new f (joint_claim (place_term old parts) j))) (sym x.is)
    (says_either new c.in_ok-f-in-Either.f c.in_ok-g-in-Either.g p q first second c.made-in-Either.result c.made-in-Either.ensures)
