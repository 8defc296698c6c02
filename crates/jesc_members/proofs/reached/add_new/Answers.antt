use Rattle.std.proofs.Common.{◌∙◌, true≢false, inl, inr, refl, sym, get_or}
use Rattle.jesc_members.proofs.GroupReach.{adding_more}
use Rattle.jesc_members.proofs.reached.add_new.Goals as goal
use Rattle.jesc_members.proofs.reached.add_new.Goals.{then-branch+in_ok-push, else-branch}

pub loop-number-preserved : goal.loop-number-preserved
loop-number-preserved c =
    let numbers = c.args.numbers.now in
    let i = c.loop-number.number-index in
    let x = get_or numbers i 0 in
    let same = c.loop-number.invariant.same in
    adding_more numbers i c.args.found.now c.loop-number.met.keys c.loop-number.found c.is_new.new.met.keys c.if-branch.found x c.loop-number.invariant c.loop-number-test.true refl c.in_ok-is_new.ensures.added
    (elim c.if-branch.branch [
      | then-branch+in_ok-push w ↦ inl (w.found-is ∙ w.in_ok-push.ensures.ok, λ k. true≢false (sym w.if-branch.true ∙ c.in_ok-is_new.ensures.old.1 ((same.same x).1 k)))
      | else-branch w ↦ inr (w.found-is, (same.same x).0 (c.in_ok-is_new.ensures.old.0 w.if-branch.false))
    ])
