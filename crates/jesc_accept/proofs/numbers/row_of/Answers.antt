use Rattle.std.proofs.Common.{rules, length, ◌≡◌, ◌-◌, ◌*◌, ◌+◌, ℕ, ℤ, List, pos, take, drop, get_or, sym, ap, ◌∙◌, subst, arith, FitsSigned, to_z, of_z}
use mir.Syntax.{w128}
use Rattle.std.proofs.lemmas.Int.{to_z-of_z, to_z_pos}
use Rattle.jesc_accept.specs.States.{IsSumOf}
use Rattle.jesc_accept.proofs.Flat.{IsRead, no_such_length, no_part_here, read_more, read_whole, two_and_more}
use Rattle.jesc_accept.proofs.numbers.row_of.Goals.{then-parts-ne0-via-then-parts-ne0, then-parts-ne0-via-else-parts-ne0+then-count-parts}
use Rattle.jesc_accept.proofs.numbers.row_of.Goals as goal

pub returns-then-parts-ne0 : goal.returns-then-parts-ne0
returns-then-parts-ne0 c = elim c.then-parts-ne0.branch [
  | then-parts-ne0-via-then-parts-ne0 w ↦ no_such_length c.args.terms c.args.numbers.now _ _ _ (two_and_more c.args.numbers.now c.in-len2-up.len_at_least) (λ k e f. omega (arith, e, w.if-parts-ne0.true))
  | then-parts-ne0-via-else-parts-ne0+then-count-parts w ↦ no_such_length c.args.terms c.args.numbers.now _ _ _ (two_and_more c.args.numbers.now c.in-len2-up.len_at_least) (λ k e f. w.if-count-parts.true (ap (of_z w128) f ∙ omega (arith, e, w.if-parts-ne0.false)))
]

pub returns-in_default-part_of : goal.returns-in_default-part_of
returns-in_default-part_of c =
    let parts = take (length c.args.numbers.now - 2) (drop 2 c.args.numbers.now) in
    let f1 : FitsSigned w128 (get_or parts (2 * c.loop-at.at) (pos 0)) = search rules in
    let f2 : FitsSigned w128 (get_or parts (2 * c.loop-at.at + 1) (pos 0)) = search rules in
    no_part_here c.args.terms c.args.numbers.now _ _ _ c.loop-at.at _ _ (two_and_more c.args.numbers.now c.in-len2-up.len_at_least) (omega arith)
    (to_z-of_z w128 _ f1) (to_z-of_z w128 _ f2) c.in_default-part_of.ensures

pub loop-at-preserved : goal.loop-at-preserved
loop-at-preserved c =
    let parts = take (length c.args.numbers.now - 2) (drop 2 c.args.numbers.now) in
    let f1 : FitsSigned w128 (get_or parts (2 * c.loop-at.at) (pos 0)) = search rules in
    let f2 : FitsSigned w128 (get_or parts (2 * c.loop-at.at + 1) (pos 0)) = search rules in
    subst (λ (form : List (ℤ × ℕ)). IsRead c.args.terms parts (c.loop-at.at + 1) form) (sym c.in_ok-push.ensures.ok)
    (read_more c.args.terms parts c.loop-at.at c.loop-at.form _ _ c.in-Some.part c.loop-at.invariant (omega arith) (to_z-of_z w128 _ f1) (to_z-of_z w128 _ f2) c.in-Some.ensures)

pub returns : goal.returns
returns c =
    let parts = take (length c.args.numbers.now - 2) (drop 2 c.args.numbers.now) in
    let f1 : FitsSigned w128 (get_or c.args.numbers.now 0 (pos 0)) = search rules in
    let f2 : FitsSigned w128 (get_or c.args.numbers.now 1 (pos 0)) = search rules in
    let same : get_or c.args.numbers.now 0 (pos 0) ≡ to_z w128 (of_z w128 (get_or c.args.numbers.now 0 (pos 0))) = sym (to_z-of_z w128 _ f1) in
    let is : get_or c.args.numbers.now 1 (pos 0) ≡ pos c.loop-at.at =
    let e : of_z w128 (get_or c.args.numbers.now 1 (pos 0)) ≡ c.loop-at.at = omega arith in
    sym (to_z-of_z w128 _ f2) ∙ ap (to_z w128) e ∙ to_z_pos w128 c.loop-at.at (omega arith) in
    let whole = read_whole c.args.terms _ _ parts c.loop-at.at c.loop-at.form c.loop-at.invariant (omega arith) is in
    subst (λ (b : ℤ). IsSumOf c.args.terms c.args.numbers.now (record { form = c.loop-at.form; bound = b })) same
    (subst (λ (ns : List ℤ). IsSumOf c.args.terms ns (record { form = c.loop-at.form; bound = get_or c.args.numbers.now 0 (pos 0) })) (sym (two_and_more c.args.numbers.now c.in-len2-up.len_at_least)) whole)
