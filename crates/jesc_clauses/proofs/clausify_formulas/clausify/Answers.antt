use Rattle.std.proofs.Common.{List, refl, sym, subst, arith, map}
use Rattle.jesc_logic.specs.declared.formula.Formula.{Formula}
use Rattle.jesc_logic.specs.Claims.{claim_of, shape}
use Rattle.jesc_clauses.specs.declared.clause.Clauses.{Clauses}
use Rattle.jesc_clauses.specs.declared.clause.Opaque.{Opaque}
use Rattle.jesc_clauses.specs.Builders.{AreSums, IsFree, IsWideOneAt}
use Rattle.jesc_clauses.specs.Clausified.{IsClausified, IsWideAmong}
use Rattle.jesc_clauses.specs.Formulas.{HasSums}
use Rattle.jesc_clauses.proofs.Wide.{handed}
use Rattle.jesc_clauses.proofs.Clausifying.{all_unmapped, built_first, clausified, few, sums_are, wide_read}
use Rattle.jesc_clauses.proofs.clausify_formulas.clausify.Goals as goal

pub overflow_cast-builder : goal.overflow_cast-builder
overflow_cast-builder c =
    let r = c.in_ok-sums.field-0 in
    omega (arith, c.len.ensures, few c.args.terms.now r.sums r.opaques c.in_ok-sums.ensures.read.reader)

pub assert_all-requires-clause-built : goal.assert_all-requires-clause-built
assert_all-requires-clause-built c =
    let r = c.in_ok-sums.field-0 in
    built_first c.args.terms.now _ c.len.ensures (few c.args.terms.now r.sums r.opaques c.in_ok-sums.ensures.read.reader) c.new.ensures c.new-2.ensures

pub assert_all-requires-clause-sums : goal.assert_all-requires-clause-sums
assert_all-requires-clause-sums c =
    let r = c.in_ok-sums.field-0 in
    subst (λ n. AreSums n r.sums) (sym c.len.ensures) (sums_are c.args.terms.now r.sums r.opaques c.in_ok-sums.ensures.read.reader)

pub assert_all-requires-clause-have : goal.assert_all-requires-clause-have
assert_all-requires-clause-have c = all_unmapped (HasSums c.in_ok-sums.field-0.sums) shape c.as_slice-formulas.result.now c.in_ok-sums.ensures.read.have

pub returns-in_err-assert_all-clause-wide : goal.returns-in_err-assert_all-clause-wide
returns-in_err-assert_all-clause-wide c =
    let table = c.args.terms.now in
    let r = c.in_ok-sums.field-0 in
    let fs = c.as_slice-formulas.result.now in
    handed Clauses (Unit {0}) (IsWideAmong (map (claim_of table) c.args.ground.now.formulas)) (IsWideOneAt r.sums (map shape fs))
    (λ n w. subst (λ (gs : List Formula). IsWideAmong (map (claim_of table) gs) n) c.as_slice-formulas.ensures (wide_read table r.sums r.opaques c.in_ok-sums.ensures.read.reader fs n w))
    c.from_residual-in_err-assert_all.result c.in_err-assert_all.field-0.0 c.from_residual-in_err-assert_all.ensures.1 c.in_err-assert_all.ensures.wide

pub returns-clause-clausified : goal.returns-clause-clausified
returns-clause-clausified c =
    let table = c.args.terms.now in
    let r = c.in_ok-sums.field-0 in
    let read = c.in_ok-sums.ensures.read in
    let fs = c.as_slice-formulas.result.now in
    let last = c.assert_all.new.self in
    subst (λ (gs : List Formula). IsClausified c.assert_all.new.terms (map (claim_of table) gs) (record { terms = last.opaques; atoms = last.atoms; clauses = last.clauses })) c.as_slice-formulas.ensures
    (clausified table c.assert_all.new.terms c.assert_all.ensures.keeps fs r.sums r.opaques read.reader read.have c.in-Some.symbol
    (subst (λ (os : List Opaque). IsFree os c.in-Some.symbol) c.as_slice.ensures c.in-Some.ensures)
    _ last refl c.len.ensures refl c.new.ensures c.new-2.ensures c.in_ok-assert_all.ensures.asserted c.in_ok-assert_all.ensures.narrow)
