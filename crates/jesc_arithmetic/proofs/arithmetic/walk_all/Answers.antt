use Rattle.std.proofs.Common.{List, ◌++◌, [], ◌∷◌, take, sym, ap, ◌∙◌, subst}
use Rattle.std.specs.List.{flat_map}
use Rattle.std.proofs.lemmas.List.{take_more, take_all}
use Rattle.jesc_logic.specs.declared.formula.Formula.{Formula}
use Rattle.jesc_arithmetic.specs.Walks.{HasWalked}
use Rattle.jesc_arithmetic.proofs.Walked.{terms_of_formula, one_more_formula, all_walked}
use Rattle.jesc_arithmetic.proofs.arithmetic.walk_all.Goals as goal

pub loop-f-preserved : goal.loop-f-preserved
loop-f-preserved c =
    let table = c.args.terms.now in
    let fs = c.args.formulas.now in
    let k = c.loop-f.f-index in
    let f = c.f-item.result in
    subst (λ (gs : List Formula). HasWalked table c.new-walk.result c.walk_formula.new.self (flat_map (terms_of_formula table) gs)) (sym (take_more fs k f c.loop-f-test.true ∙ ap (λ (g : Formula). take k fs ++ g ∷ []) (sym c.f-item.is)))
    (one_more_formula table c.new-walk.result c.loop-f.walk c.walk_formula.new.self (take k fs) f c.loop-f.invariant c.in-Ok.ensures)

pub returns : goal.returns
returns c =
    let table = c.args.terms.now in
    let fs = c.args.formulas.now in
    all_walked table c.new-walk.result c.loop-f.walk fs c.new-walk.ensures.none
    (subst (λ (gs : List Formula). HasWalked table c.new-walk.result c.loop-f.walk (flat_map (terms_of_formula table) gs)) (take_all c.loop-f.f-index fs c.loop-f-test.false) c.loop-f.invariant)
