use Rattle.std.proofs.Common.{rules, pos, get_or, sym, ◌∙◌, FitsSigned}
use mir.Syntax.{w128}
use Rattle.std.proofs.lemmas.Int.{to_z-of_z}
use Rattle.std.proofs.lemmas.Bool.{false≢true}
use Rattle.jesc_accept.proofs.Literals.{no_first_row, no_second_row, step_is}
use Rattle.jesc_accept.proofs.arithmetic.step_of.Goals.{then-not-is_row_number-via-then-not-is_row_number, then-not-is_row_number-via-else-not-is_row_number+then-not-is_row_number-2}
use Rattle.jesc_accept.proofs.arithmetic.step_of.Goals as goal

pub returns-then-not-is_row_number : goal.returns-then-not-is_row_number
returns-then-not-is_row_number c =
    let f1 : FitsSigned w128 (get_or c.args.numbers.now 1 (pos 0)) = search rules in
    elim c.then-not-is_row_number.branch [
      | then-not-is_row_number-via-then-not-is_row_number w ↦ no_first_row c.args.terms c.args.numbers.now _ (to_z-of_z w128 _ f1) (λ y. false≢true (sym w.if-not-is_row_number.true ∙ c.is_row_number.ensures.1 y))
      | then-not-is_row_number-via-else-not-is_row_number+then-not-is_row_number-2 w ↦ (
          let f3 : FitsSigned w128 (get_or c.args.numbers.now 3 (pos 0)) = search rules in
          no_second_row c.args.terms c.args.numbers.now _ (to_z-of_z w128 _ f3) (λ y. false≢true (sym w.if-not-is_row_number-2.true ∙ w.is_row_number-else-not-is_row_number.ensures.1 y)))
    ]

pub returns : goal.returns
returns c =
    let f0 : FitsSigned w128 (get_or c.args.numbers.now 0 (pos 0)) = search rules in
    let f1 : FitsSigned w128 (get_or c.args.numbers.now 1 (pos 0)) = search rules in
    let f2 : FitsSigned w128 (get_or c.args.numbers.now 2 (pos 0)) = search rules in
    let f3 : FitsSigned w128 (get_or c.args.numbers.now 3 (pos 0)) = search rules in
    let f4 : FitsSigned w128 (get_or c.args.numbers.now 4 (pos 0)) = search rules in
    let h = rw c.in-Some.is at c.in_ok-row.ensures in
    step_is c.args.terms c.args.numbers.now _ _ _ _ _ c.in-Some.row c.in-len5-up.len_at_least (to_z-of_z w128 _ f0) (to_z-of_z w128 _ f1) (to_z-of_z w128 _ f2) (to_z-of_z w128 _ f3) (to_z-of_z w128 _ f4)
    (c.is_row_number.ensures.0 c.if-not-is_row_number.false) (c.is_row_number-else-not-is_row_number.ensures.0 c.if-not-is_row_number-2.false) h
