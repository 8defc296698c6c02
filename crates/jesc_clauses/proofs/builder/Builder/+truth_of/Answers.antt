use Rattle.std.proofs.Common.{rules, ◌*◌, refl, sym, ◌∙◌, subst, arith}
use Rattle.jesc_logic.specs.declared.terms.TermId.{TermId}
use Rattle.jesc_logic.specs.declared.formula.FormulaNode.TheViews.{the_lemmas}
use Rattle.jesc_logic.specs.Claims.{Claim, both, either, node_count, shape}
use Rattle.jesc_clauses.specs.Formulas.{HasSums}
use Rattle.jesc_logic.proofs.Shapes.{le_is, eq_is, and_is, or_is}
use Rattle.jesc_clauses.specs.declared.builder.Truth.{Truth}
use Rattle.jesc_clauses.specs.Builders.{AreNarrowAt, Tells, IsWideAt}
use Rattle.jesc_clauses.proofs.Wide.{handed, if_ok}
use Rattle.jesc_clauses.proofs.Telling.{sums_stay, can_turn, told_constant, negated_told, negated_tells, three_told, three_both, three_equal, three_either, wide_other, of_equal, of_both, of_either, not_is, narrow_equal, narrow_both, narrow_either, narrow_negation}
use Rattle.jesc_clauses.proofs.builder.Builder.+truth_of.Goals as goal

pub comparison-requires-in-Eq-2-clause-sums : goal.comparison-requires-in-Eq-2-clause-sums
comparison-requires-in-Eq-2-clause-sums t c = sums_stay c.args.self.now c.comparison-in-Eq.new.self c.args.sums.now c.in_ok-first-in-Eq.ensures.told.extended c.requires.sums

pub returns-in_err-second-in-Eq-clause-wide : goal.returns-in_err-second-in-Eq-clause-wide
returns-in_err-second-in-Eq-clause-wide t c =
    let x = c.in-Eq in
    let e = eq_is c.args.f.now x.a x.b (sym c.get.ensures ∙ x.is) in
    handed Truth Truth (IsWideAt c.args.sums.now (shape c.args.f.now)) _ (λ n w. subst (λ (f : Claim TermId). IsWideAt c.args.sums.now f n) (sym e) (wide_other c.args.sums.now x.a x.b n w))
    c.from_residual-in_err-second-in-Eq.result c.in_err-second-in-Eq.field-0.0 c.from_residual-in_err-second-in-Eq.ensures.1 c.in_err-second-in-Eq.ensures.wide

pub negated-requires : goal.negated-requires
negated-requires t c = can_turn c.truth_of.new.terms c.args.self.now c.truth_of.new.self _ c.in_ok-truth_of-in-Not.field-0 c.in_ok-truth_of-in-Not.ensures.told

pub truth_of-requires-in-And-2 : goal.truth_of-requires-in-And-2
truth_of-requires-in-And-2 t c =
    let told = c.in_ok-first-in-And.ensures.told in
    let x = c.in-And in
    let have : HasSums c.args.sums.now (both (shape x.g) (shape x.h)) = subst (HasSums c.args.sums.now) (and_is c.args.f.now x.g x.h (sym c.get.ensures ∙ x.is)) c.requires.have in
    (search (rules, the_lemmas), (told.built, (sums_stay c.args.self.now c.truth_of-in-And.new.self c.args.sums.now told.extended c.requires.sums, have.1)))

pub negated-first-requires : goal.negated-first-requires
negated-first-requires t c = can_turn c.truth_of-in-Or.new.terms c.args.self.now c.truth_of-in-Or.new.self _ c.in_ok-truth_of-in-Or.field-0 c.in_ok-truth_of-in-Or.ensures.told

pub truth_of-requires-in-Or-2 : goal.truth_of-requires-in-Or-2
truth_of-requires-in-Or-2 t c =
    let told = c.in_ok-truth_of-in-Or.ensures.told in
    let x = c.in-Or in
    let have : HasSums c.args.sums.now (either (shape x.g) (shape x.h)) = subst (HasSums c.args.sums.now) (or_is c.args.f.now x.g x.h (sym c.get.ensures ∙ x.is)) c.requires.have in
    (search (rules, the_lemmas), (told.built, (sums_stay c.args.self.now c.truth_of-in-Or.new.self c.args.sums.now told.extended c.requires.sums, have.1)))

pub negated-second-requires : goal.negated-second-requires
negated-second-requires t c = can_turn c.truth_of-in-Or-2.new.terms c.truth_of-in-Or.new.self c.truth_of-in-Or-2.new.self _ c.in_ok-truth_of-in-Or-2.field-0 c.in_ok-truth_of-in-Or-2.ensures.told

pub negated-requires-in-Or : goal.negated-requires-in-Or
negated-requires-in-Or t c = can_turn c.both-in-Or.new.terms c.truth_of-in-Or-2.new.self c.both-in-Or.new.self 11 c.in_ok-both-in-Or.field-0 c.in_ok-both-in-Or.ensures.told

pub returns-in-True-clause-told : goal.returns-in-True-clause-told
returns-in-True-clause-told t c = told_constant c.args.terms.now c.args.self.now _ _ c.requires.built

pub returns-in-False-clause-told : goal.returns-in-False-clause-told
returns-in-False-clause-told t c = told_constant c.args.terms.now c.args.self.now _ _ c.requires.built

pub returns-in_ok-both-in-Eq-clause-told : goal.returns-in_ok-both-in-Eq-clause-told
returns-in_ok-both-in-Eq-clause-told t c =
    let x = c.in-Eq in
    let e = eq_is c.args.f.now x.a x.b (sym c.get.ensures ∙ x.is) in
    three_told c.args.terms.now c.args.terms.now c.both.new.terms c.args.self.now c.comparison-in-Eq.new.self c.comparison-in-Eq-2.new.self c.both.new.self 1 1
    c.in_ok-first-in-Eq.first c.in_ok-second-in-Eq.second c.in_ok-both-in-Eq.field-0 c.in_ok-first-in-Eq.ensures.told c.in_ok-second-in-Eq.ensures.told c.in_ok-both-in-Eq.ensures.told
    (13 * node_count (shape c.args.f.now)) (of_equal (shape c.args.f.now) x.a x.b e)

pub returns-in_ok-both-in-Eq-clause-tells : goal.returns-in_ok-both-in-Eq-clause-tells
returns-in_ok-both-in-Eq-clause-tells t c =
    let x = c.in-Eq in
    let e = eq_is c.args.f.now x.a x.b (sym c.get.ensures ∙ x.is) in
    subst (λ (f : Claim TermId). Tells c.args.sums.now c.both.new.self c.in_ok-both-in-Eq.field-0 f) (sym e)
    (three_equal c.args.terms.now c.args.terms.now c.both.new.terms c.args.self.now c.comparison-in-Eq.new.self c.comparison-in-Eq-2.new.self c.both.new.self 1 1
    c.in_ok-first-in-Eq.first c.in_ok-second-in-Eq.second c.in_ok-both-in-Eq.field-0 c.in_ok-first-in-Eq.ensures.told c.in_ok-second-in-Eq.ensures.told c.in_ok-both-in-Eq.ensures.told
    13 (omega arith) c.args.sums.now c.in_ok-both-in-Eq.ensures.tells x.a x.b c.in_ok-first-in-Eq.ensures.tells c.in_ok-second-in-Eq.ensures.tells)

pub returns-in_ok-truth_of-in-Not-clause-tells : goal.returns-in_ok-truth_of-in-Not-clause-tells
returns-in_ok-truth_of-in-Not-clause-tells t c =
    let x = c.in-Not in
    let n = c.in_ok-truth_of-in-Not in
    let e = not_is c.args.f.now x.g (sym c.get.ensures ∙ x.is) in
    subst (λ (f : Claim TermId). Tells c.args.sums.now c.truth_of.new.self c.negated.result f) (sym e)
    (negated_tells c.truth_of.new.terms c.args.self.now c.truth_of.new.self (13 * node_count (shape x.g)) n.field-0 c.negated.result c.negated.ensures n.ensures.told c.args.sums.now (shape x.g) n.ensures.tells)

pub returns-in_ok-both-in-And-clause-told : goal.returns-in_ok-both-in-And-clause-told
returns-in_ok-both-in-And-clause-told t c =
    let x = c.in-And in
    let e = and_is c.args.f.now x.g x.h (sym c.get.ensures ∙ x.is) in
    three_told c.truth_of-in-And.new.terms c.truth_of-in-And-2.new.terms c.both-in-And.new.terms c.args.self.now c.truth_of-in-And.new.self c.truth_of-in-And-2.new.self c.both-in-And.new.self (13 * node_count (shape x.g)) (13 * node_count (shape x.h))
    c.in_ok-first-in-And.first c.in_ok-second-in-And.second c.in_ok-both-in-And.field-0 c.in_ok-first-in-And.ensures.told c.in_ok-second-in-And.ensures.told c.in_ok-both-in-And.ensures.told
    (13 * node_count (shape c.args.f.now)) (of_both (shape c.args.f.now) (shape x.g) (shape x.h) e)

pub returns-in_ok-both-in-And-clause-tells : goal.returns-in_ok-both-in-And-clause-tells
returns-in_ok-both-in-And-clause-tells t c =
    let x = c.in-And in
    let e = and_is c.args.f.now x.g x.h (sym c.get.ensures ∙ x.is) in
    subst (λ (f : Claim TermId). Tells c.args.sums.now c.both-in-And.new.self c.in_ok-both-in-And.field-0 f) (sym e)
    (three_both c.truth_of-in-And.new.terms c.truth_of-in-And-2.new.terms c.both-in-And.new.terms c.args.self.now c.truth_of-in-And.new.self c.truth_of-in-And-2.new.self c.both-in-And.new.self (13 * node_count (shape x.g)) (13 * node_count (shape x.h))
    c.in_ok-first-in-And.first c.in_ok-second-in-And.second c.in_ok-both-in-And.field-0 c.in_ok-first-in-And.ensures.told c.in_ok-second-in-And.ensures.told c.in_ok-both-in-And.ensures.told
    (13 * node_count (both (shape x.g) (shape x.h))) (of_both (both (shape x.g) (shape x.h)) (shape x.g) (shape x.h) refl) c.args.sums.now c.in_ok-both-in-And.ensures.tells (shape x.g) (shape x.h) c.in_ok-first-in-And.ensures.tells c.in_ok-second-in-And.ensures.tells)

pub returns-in_ok-both-in-Or-clause-told : goal.returns-in_ok-both-in-Or-clause-told
returns-in_ok-both-in-Or-clause-told t c =
    let x = c.in-Or in
    let p = c.in_ok-truth_of-in-Or in
    let q = c.in_ok-truth_of-in-Or-2 in
    let size = 13 * node_count (shape c.args.f.now) in
    let e = or_is c.args.f.now x.g x.h (sym c.get.ensures ∙ x.is) in
    negated_told c.both-in-Or.new.terms c.args.self.now c.both-in-Or.new.self size c.in_ok-both-in-Or.field-0 c.negated-in-Or.result c.negated-in-Or.ensures
    (three_told c.truth_of-in-Or.new.terms c.truth_of-in-Or-2.new.terms c.both-in-Or.new.terms c.args.self.now c.truth_of-in-Or.new.self c.truth_of-in-Or-2.new.self c.both-in-Or.new.self (13 * node_count (shape x.g)) (13 * node_count (shape x.h))
    c.negated-first.result c.negated-second.result c.in_ok-both-in-Or.field-0
    (negated_told c.truth_of-in-Or.new.terms c.args.self.now c.truth_of-in-Or.new.self (13 * node_count (shape x.g)) p.field-0 c.negated-first.result c.negated-first.ensures p.ensures.told)
    (negated_told c.truth_of-in-Or-2.new.terms c.truth_of-in-Or.new.self c.truth_of-in-Or-2.new.self (13 * node_count (shape x.h)) q.field-0 c.negated-second.result c.negated-second.ensures q.ensures.told)
    c.in_ok-both-in-Or.ensures.told
    size (of_either (shape c.args.f.now) (shape x.g) (shape x.h) e))

pub returns-in_ok-both-in-Or-clause-tells : goal.returns-in_ok-both-in-Or-clause-tells
returns-in_ok-both-in-Or-clause-tells t c =
    let x = c.in-Or in
    let p = c.in_ok-truth_of-in-Or in
    let q = c.in_ok-truth_of-in-Or-2 in
    let sums = c.args.sums.now in
    let f = either (shape x.g) (shape x.h) in
    let e = or_is c.args.f.now x.g x.h (sym c.get.ensures ∙ x.is) in
    subst (λ (k : Claim TermId). Tells sums c.both-in-Or.new.self c.negated-in-Or.result k) (sym e)
    (three_either c.truth_of-in-Or.new.terms c.truth_of-in-Or-2.new.terms c.both-in-Or.new.terms c.args.self.now c.truth_of-in-Or.new.self c.truth_of-in-Or-2.new.self c.both-in-Or.new.self (13 * node_count (shape x.g)) (13 * node_count (shape x.h))
    c.negated-first.result c.negated-second.result c.in_ok-both-in-Or.field-0
    (negated_told c.truth_of-in-Or.new.terms c.args.self.now c.truth_of-in-Or.new.self (13 * node_count (shape x.g)) p.field-0 c.negated-first.result c.negated-first.ensures p.ensures.told)
    (negated_told c.truth_of-in-Or-2.new.terms c.truth_of-in-Or.new.self c.truth_of-in-Or-2.new.self (13 * node_count (shape x.h)) q.field-0 c.negated-second.result c.negated-second.ensures q.ensures.told)
    c.in_ok-both-in-Or.ensures.told
    (13 * node_count f) (of_either f (shape x.g) (shape x.h) refl) sums c.in_ok-both-in-Or.ensures.tells (shape x.g) (shape x.h)
    (negated_tells c.truth_of-in-Or.new.terms c.args.self.now c.truth_of-in-Or.new.self (13 * node_count (shape x.g)) p.field-0 c.negated-first.result c.negated-first.ensures p.ensures.told sums (shape x.g) p.ensures.tells)
    (negated_tells c.truth_of-in-Or-2.new.terms c.truth_of-in-Or.new.self c.truth_of-in-Or-2.new.self (13 * node_count (shape x.h)) q.field-0 c.negated-second.result c.negated-second.ensures q.ensures.told sums (shape x.h) q.ensures.tells)
    c.negated-in-Or.result c.negated-in-Or.ensures)

-- ---- no number that is too large

pub returns-in-Le-clause-narrow : goal.returns-in-Le-clause-narrow
returns-in-Le-clause-narrow t c =
    let x = c.in-Le in
    let e = le_is c.args.f.now x.a x.b (sym c.get.ensures ∙ x.is) in
    if_ok _ _ (λ truth narrow. subst (AreNarrowAt c.args.sums.now) (sym e) narrow) c.comparison.result c.comparison.ensures.narrow

pub returns-in_ok-both-in-Eq-clause-narrow : goal.returns-in_ok-both-in-Eq-clause-narrow
returns-in_ok-both-in-Eq-clause-narrow t c =
    let x = c.in-Eq in
    narrow_equal c.args.sums.now (shape c.args.f.now) x.a x.b (eq_is c.args.f.now x.a x.b (sym c.get.ensures ∙ x.is)) c.in_ok-first-in-Eq.ensures.narrow c.in_ok-second-in-Eq.ensures.narrow

pub returns-in_ok-truth_of-in-Not-clause-narrow : goal.returns-in_ok-truth_of-in-Not-clause-narrow
returns-in_ok-truth_of-in-Not-clause-narrow t c =
    let x = c.in-Not in
    narrow_negation c.args.sums.now (shape c.args.f.now) (shape x.g) (not_is c.args.f.now x.g (sym c.get.ensures ∙ x.is)) c.in_ok-truth_of-in-Not.ensures.narrow

pub returns-in_ok-both-in-And-clause-narrow : goal.returns-in_ok-both-in-And-clause-narrow
returns-in_ok-both-in-And-clause-narrow t c =
    let x = c.in-And in
    narrow_both c.args.sums.now (shape c.args.f.now) (shape x.g) (shape x.h) (and_is c.args.f.now x.g x.h (sym c.get.ensures ∙ x.is)) c.in_ok-first-in-And.ensures.narrow c.in_ok-second-in-And.ensures.narrow

pub returns-in_ok-both-in-Or-clause-narrow : goal.returns-in_ok-both-in-Or-clause-narrow
returns-in_ok-both-in-Or-clause-narrow t c =
    let x = c.in-Or in
    narrow_either c.args.sums.now (shape c.args.f.now) (shape x.g) (shape x.h) (or_is c.args.f.now x.g x.h (sym c.get.ensures ∙ x.is)) c.in_ok-truth_of-in-Or.ensures.narrow c.in_ok-truth_of-in-Or-2.ensures.narrow
