use Rattle.std.proofs.Common.{◌≡◌, take, rules, arith, subst}
use Rattle.std.specs.Prelude.{All}
use Rattle.std.proofs.lemmas.List.{take_all}
use Rattle.std.proofs.lemmas.List.Elements.{All-more}
use Rattle.jesc_logic.specs.Claims.{IsOver}
use Rattle.jesc_clauses_tests.proofs.making.are_over.Goals as goal

pub loop-f-preserved : goal.loop-f-preserved
loop-f-preserved c =
    let here : IsOver c.args.terms.now c.f-item.result = search rules in
    All-more (IsOver c.args.terms.now) c.args.formulas.now c.loop-f.f-index c.f-item.result c.loop-f-test.true c.loop-f.invariant (subst (IsOver c.args.terms.now) c.f-item.is here)

pub returns : goal.returns
returns c = λ t.
    let whole : take c.loop-f.f-index c.args.formulas.now ≡ c.args.formulas.now = take_all c.loop-f.f-index c.args.formulas.now (omega arith) in
    subst (All (IsOver c.args.terms.now)) whole c.loop-f.invariant
