use Rattle.std.proofs.Common.{rules, ◌≡◌, ◌-◌, length, take, drop, pos, get_or, sym, ap, ◌∙◌, arith, FitsSigned, to_z, of_z, refl}
use Rattle.std.specs.Prelude.{◌≤ℤ◌}
use mir.Syntax.{w128}
use Rattle.std.proofs.lemmas.Int.{ints, to_z-of_z, to_z_pos}
use Rattle.jesc_accept.proofs.Literals.{first_and_last}
use Rattle.jesc_accept.proofs.Taking.{no_lemma, is_line, takes_lemma, due_is, due_some}
use Rattle.jesc_accept.proofs.tables.Tables.take_linear.Goals.{then-due-lt1-via-then-due-lt1, then-due-lt1-via-else-due-lt1+then-count-literals}
use Rattle.jesc_accept.proofs.tables.Tables.take_linear.Goals as goal

pub returns-then-due-lt1 : goal.returns-then-due-lt1
returns-then-due-lt1 c =
    let f : FitsSigned w128 (get_or c.args.numbers.now (length c.args.numbers.now - 1) (pos 0)) = search rules in
    elim c.then-due-lt1.branch [
      | then-due-lt1-via-then-due-lt1 w ↦ no_lemma c.args.self.now c.args.self.now c.args.numbers.now _ _ _ (first_and_last c.args.numbers.now c.in-len2-up.len_at_least) (λ steps e d some rows are. omega (arith, ints, d, some, w.if-due-lt1.true))
      | then-due-lt1-via-else-due-lt1+then-count-literals w ↦ no_lemma c.args.self.now c.args.self.now c.args.numbers.now _ _ _ (first_and_last c.args.numbers.now c.in-len2-up.len_at_least) (λ steps e d some rows are. w.if-count-literals.true (ap (of_z w128) e))
    ]

pub returns-in_default-2 : goal.returns-in_default-2
returns-in_default-2 c =
    let h = rw c.in_default-2.is at c.in_ok-rows.ensures in
    no_lemma c.args.self.now c.args.self.now c.args.numbers.now _ _ _ (first_and_last c.args.numbers.now c.in-len2-up.len_at_least) (λ steps e d some. h)

pub returns : goal.returns
returns c =
    let h = rw c.in-Some.is at c.in_ok-rows.ensures in
    let literals = take (length c.args.numbers.now - 1 - 1) (drop 1 c.args.numbers.now) in
    let last = get_or c.args.numbers.now (length c.args.numbers.now - 1) (pos 0) in
    let f : FitsSigned w128 (get_or c.args.numbers.now (length c.args.numbers.now - 1) (pos 0)) = search rules in
    let g : FitsSigned w128 (get_or c.args.numbers.now 0 (pos 0)) = search rules in
    let count : get_or c.args.numbers.now 0 (pos 0) ≡ pos (length literals) = sym (to_z-of_z w128 _ g) ∙ ap (to_z w128) c.if-count-literals.false ∙ to_z_pos w128 (length literals) (omega arith) in
    let is_last = to_z-of_z w128 last f in
    let low : pos 1 ≤ℤ last = omega (arith, ints, c.if-due-lt1.false) in
    takes_lemma c.args.self.now _ c.args.numbers.now literals c.in-Some.rows _ _
    (is_line c.args.numbers.now literals _ last _ (first_and_last c.args.numbers.now c.in-len2-up.len_at_least) count (due_is last _ is_last low)) c.requires (due_some last _ is_last low) h c.in_ok-self.ensures refl
