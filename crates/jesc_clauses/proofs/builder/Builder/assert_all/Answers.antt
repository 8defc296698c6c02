use Rattle.std.proofs.Common.{ℕ, List, map, take, sym, subst, arith}
use Rattle.std.proofs.lemmas.List.{take_all}
use Rattle.std.proofs.lemmas.List.Elements.{All-nil, All-push}
use Rattle.std.specs.Prelude.{All}
use Rattle.jesc_logic.specs.declared.terms.TermId.{TermId}
use Rattle.jesc_logic.specs.declared.formula.Formula.{Formula}
use Rattle.jesc_logic.specs.Claims.{Claim, shape}
use Rattle.jesc_logic.specs.laws.Keeping.{keeps_all, keeps_on}
use Rattle.jesc_clauses.specs.Builders.{AreNarrowAt, AreSums, IsAsserted}
use Rattle.jesc_clauses.proofs.Wide.{handed}
use Rattle.jesc_clauses.proofs.Asserting.{none_asserted, one_more_asserted, shapes_more, at_place}
use Rattle.jesc_clauses.proofs.builder.Builder.assert_all.Goals as goal

pub loop-f-init : goal.loop-f-init
loop-f-init c = record { keeps = keeps_all c.args.terms.now; asserted = none_asserted c.args.sums.now c.args.terms.now c.args.self.now c.requires.built; narrow = All-nil (AreNarrowAt c.args.sums.now) }

pub assert-requires-clause-sums : goal.assert-requires-clause-sums
assert-requires-clause-sums c = subst (λ (n : ℕ). AreSums n c.args.sums.now) (sym c.loop-f.invariant.asserted.first) c.requires.sums

pub returns-in_err-assert-clause-wide : goal.returns-in_err-assert-clause-wide
returns-in_err-assert-clause-wide c =
    let fs = c.args.formulas.now in
    handed (Unit {0}) (Unit {0}) _ _ (λ n w. (c.loop-f.f-index, shape c.f-item.result, at_place fs c.loop-f.f-index c.f-item.result c.loop-f-test.true c.f-item.is shape, w)) c.from_residual.result c.in_err-assert.field-0.0 c.from_residual.ensures.1 c.in_err-assert.ensures.wide

pub loop-f-preserved : goal.loop-f-preserved
loop-f-preserved c =
    let fs = c.args.formulas.now in
    let i = c.loop-f.f-index in
    record {
      keeps = keeps_on c.loop-f.invariant.keeps c.assert.ensures.keeps;
      asserted = subst (λ (xs : List (Claim TermId)). IsAsserted c.args.sums.now c.assert.new.terms c.args.self.now c.assert.new.self xs) (sym (shapes_more fs i c.f-item.result c.loop-f-test.true c.f-item.is))
          (one_more_asserted c.args.sums.now c.args.terms.now c.loop-f.terms c.assert.new.terms c.args.self.now c.loop-f.self c.assert.new.self c.requires.built c.requires.sums (map shape (take i fs)) (shape c.f-item.result) c.loop-f.invariant.asserted c.in_ok-assert.ensures.asserted);
      narrow = subst (All (AreNarrowAt c.args.sums.now)) (sym (shapes_more fs i c.f-item.result c.loop-f-test.true c.f-item.is))
          (All-push (AreNarrowAt c.args.sums.now) (map shape (take i fs)) (shape c.f-item.result) c.loop-f.invariant.narrow c.in_ok-assert.ensures.narrow);
    }

pub returns-clause-narrow : goal.returns-clause-narrow
returns-clause-narrow c =
    let fs = c.args.formulas.now in
    let all = take_all c.loop-f.f-index fs (omega (arith, c.loop-f-test.false)) in
    subst (λ (xs : List Formula). All (AreNarrowAt c.args.sums.now) (map shape xs)) all c.loop-f.invariant.narrow
