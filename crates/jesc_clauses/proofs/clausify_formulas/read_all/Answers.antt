use Rattle.std.proofs.Common.{List, map, take, sym, subst}
use Rattle.jesc_logic.specs.declared.terms.TermId.{TermId}
use Rattle.jesc_logic.specs.Claims.{Claim, shape}
use Rattle.jesc_clauses.specs.Formulas.{AreReadIn}
use Rattle.jesc_clauses.proofs.Asserting.{shapes_more}
use Rattle.jesc_clauses.proofs.Walking.{one_more_read_in}
use Rattle.jesc_clauses.proofs.clausify_formulas.read_all.Goals as goal

pub loop-f-preserved : goal.loop-f-preserved
loop-f-preserved c =
    let fs = c.args.formulas.now in
    let i = c.loop-f.f-index in
    subst (λ (xs : List (Claim TermId)). AreReadIn c.args.terms.now xs c.read_formula.new.self) (sym (shapes_more fs i c.f-item.result c.loop-f-test.true c.f-item.is))
    (one_more_read_in c.args.terms.now (map shape (take i fs)) (shape c.f-item.result) c.loop-f.reader c.read_formula.new.self c.loop-f.invariant c.in_ok-read_formula.ensures.read)
