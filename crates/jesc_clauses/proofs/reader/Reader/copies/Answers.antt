use Rattle.std.proofs.Common.{◌+◌, ◌++◌, [], ◌∷◌, List, take, get_or, sym, subst, ap, ◌∙◌}
use Rattle.std.proofs.lemmas.List.{take_more}
use Rattle.jesc_logic.specs.declared.terms.TermId.{TermId}
use Rattle.jesc_clauses.specs.declared.lin.Lin.{Lin}
use Rattle.jesc_clauses.specs.Readers.{AreSumsOf}
use Rattle.jesc_clauses.proofs.Stepping.{sums_push}
use Rattle.jesc_clauses.proofs.reader.Reader.copies.Goals as goal

pub loop-id-preserved : goal.loop-id-preserved
loop-id-preserved c =
    let ids = c.args.ids.now in
    let k = c.loop-id.id-index in
    let es = c.args.self.now.sums in
    let id = get_or ids k (record { 0 = 0 }) in
    let pushed = c.in_ok-push-in-Some.ensures.ok ∙ ap (λ (lin : Lin). c.loop-id.sums ++ lin ∷ []) c.in_ok-copied-in-Some.ensures in
    subst (AreSumsOf es (take (k + 1) ids)) (sym pushed)
    (subst (λ (xs : List TermId). AreSumsOf es xs (c.loop-id.sums ++ c.in-Some.lin.now ∷ [])) (sym (take_more ids k (record { 0 = 0 }) c.loop-id-test.true))
    (sums_push es (take k ids) c.loop-id.sums id c.in-Some.lin.now c.loop-id.invariant c.in-Some.ensures))
