use Rattle.std.proofs.Common.{sym, ◌∙◌, ◌+◌, ◌<◌, length, get_or, subst, arith}
use Rattle.jesc_classes.proofs.Numbers.{named_below}
use Rattle.jesc_classes.proofs.entry.named_ids.Goals as goal

pub bounds-ids-number : goal.bounds-ids-number
bounds-ids-number c =
    let given = c.args.given.now in
    let k = c.loop-number.number-index in
    let is = c.as_slice-number-items.ensures ∙ c.in_ok-numbers.ensures in
    let below = named_below given c.args.words.now k (subst (λ xs. k < length xs) is c.loop-number-test.true) in
    let here = subst (λ xs. get_or xs k 0 < length given + 7) (sym is) below in
    omega (arith, here, c.requires)
