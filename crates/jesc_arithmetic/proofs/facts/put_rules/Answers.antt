use Rattle.std.proofs.Common.{List, [], ◌∷◌, ◌++◌, take, get_or, ◌+◌, sym, subst}
use Rattle.std.proofs.lemmas.List.{take_more}
use Rattle.jesc_logic.specs.declared.formula.Formula.{Formula}
use Rattle.jesc_arithmetic.specs.declared.rule.Place.TheVariants.{Left}
use Rattle.jesc_arithmetic.specs.declared.rule.Comparison.TheVariants.{AtMost}
use Rattle.jesc_arithmetic.specs.declared.rule.Joint.TheVariants.{One}
use Rattle.jesc_arithmetic.specs.declared.rule.Rule.{Rule}
use Rattle.jesc_arithmetic.proofs.Saying.{HavePut, one_more_put}
use Rattle.jesc_arithmetic.proofs.facts.put_rules.Goals as goal

pub loop-rule-preserved : goal.loop-rule-preserved
loop-rule-preserved c =
    let old = c.args.terms.now in
    let mid = c.loop-rule.terms in
    let new = c.rule_formula.new.terms in
    let parts = c.args.parts.now in
    let rules = c.args.rules.now in
    let k = c.loop-rule.rule-index in
    let any : Rule = record { premise = One (AtMost Left Left); conclusion = One (AtMost Left Left) } in
    let rule = get_or rules k any in
    subst (λ (fs : List Formula). HavePut old new parts c.args.facts.now fs (take (k + 1) rules)) (sym c.in_ok-put.ensures)
    (subst (HavePut old new parts c.args.facts.now (c.loop-rule.facts ++ c.in_ok-f.f ∷ [])) (sym (take_more rules k any c.loop-rule-test.true))
    (one_more_put old mid new parts c.args.facts.now c.loop-rule.facts (take k rules) rule c.in_ok-f.f c.requires.parts c.loop-rule.invariant c.in_ok-f.ensures.keeps c.in_ok-f.ensures.says))
