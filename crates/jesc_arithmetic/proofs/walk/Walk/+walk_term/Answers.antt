use Rattle.std.proofs.Common.{List, [], ◌∷◌, take, get_or, sym, subst, ◌∙◌, ap}
use Rattle.std.specs.List.{flat_map}
use Rattle.std.proofs.lemmas.List.{take_more, take_all}
use Rattle.jesc_logic.specs.declared.terms.TermId.{TermId}
use Rattle.jesc_arithmetic.specs.Walks.{HasWalked}
use Rattle.jesc_arithmetic.proofs.Saying.{on_ok}
use Rattle.jesc_arithmetic.proofs.Walked.{within, seen_already, walked_more, within_node, parts_found, walked_whole}
use Rattle.jesc_arithmetic.proofs.walk.Walk.+walk_term.Goals as goal

pub returns-then-contains : goal.returns-then-contains
returns-then-contains t c = seen_already c.args.terms.now c.args.self.now c.args.id c.requires.walk (sym c.contains.ensures ∙ c.if-contains.true)

pub loop-part-preserved : goal.loop-part-preserved
loop-part-preserved t c =
    let table = c.args.terms.now in
    let ids = take c.in-App.arity (c.in-App.a ∷ c.in-App.b ∷ c.in-App.c ∷ []) in
    let k = c.loop-part.part-index in
    let any : TermId = record { 0 = 0 } in
    subst (λ (is : List TermId). HasWalked table c.args.self.now c.walk_term.new.self (flat_map (within table) is)) (sym (take_more ids k any c.loop-part-test.true))
    (walked_more table c.args.self.now c.loop-part.self c.walk_term.new.self (take k ids) (get_or ids k any) c.loop-part.invariant c.in_ok-walk_term-in-App.ensures)

pub leave-requires-in-App-clause-parts : goal.leave-requires-in-App-clause-parts
leave-requires-in-App-clause-parts t c =
    let table = c.args.terms.now in
    let x = c.in-App in
    let ids = take x.arity (x.a ∷ x.b ∷ x.c ∷ []) in
    let k = c.loop-part.part-index in
    parts_found table c.args.self.now c.loop-part.self c.args.id (flat_map (within table) (take k ids)) c.loop-part.invariant
    (ap (flat_map (within table)) (take_all k ids c.loop-part-test.false) ∙ within_node table c.args.id x.symbol x.arity x.a x.b x.c x.ensures.below x.ensures.term)

pub returns-after-loop-part : goal.returns-after-loop-part
returns-after-loop-part t c =
    let table = c.args.terms.now in
    let x = c.in-App in
    let ids = take x.arity (x.a ∷ x.b ∷ x.c ∷ []) in
    let k = c.loop-part.part-index in
    on_ok _ _
    (walked_whole table c.args.self.now c.loop-part.self c.leave-in-App.new.self c.args.id (flat_map (within table) (take k ids)) c.loop-part.invariant
    (ap (flat_map (within table)) (take_all k ids c.loop-part-test.false) ∙ within_node table c.args.id x.symbol x.arity x.a x.b x.c x.ensures.below x.ensures.term))
    c.leave-in-App.result c.leave-in-App.ensures
