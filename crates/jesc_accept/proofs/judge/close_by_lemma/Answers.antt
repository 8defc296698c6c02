use Rattle.std.proofs.Common.{◌≡◌, pos, Some, slice_get, arith, ap, sym, ◌∙◌, length, ◌<◌}
use Rattle.std.proofs.lemmas.Int.{ints}
use Rattle.std.proofs.Math.IntN.{nat_abs}
use Rattle.std.proofs.Math.Facts.{to_z-of_z}
use Rattle.jesc_accept.proofs.TreeLines.{stands, lemma_leaf}
use Rattle.jesc_accept.proofs.judge.close_by_lemma.Goals as goal

pub returns : goal.returns
returns c =
    let same : c.args.number ≡ pos (nat_abs c.args.number) = omega (arith, ints) in
    let below : nat_abs c.args.number < length c.args.tables.now.lemmas = omega (arith, ints, ap length c.as_slice-lemmas.ensures) in
    let there : slice_get c.args.tables.now.lemmas (nat_abs c.args.number) ≡ Some (Some c.as_slice.result.now) =
    stands _ _ _ _ _ _ c.as_slice-lemmas.ensures (c.in-Some.is ∙ ap Some (sym c.as_slice.ensures)) c.index-lemmas-number.is (ap nat_abs (to_z-of_z c.ranges.number)) below in
    lemma_leaf c.args.tables.now c.args.tree.now c.close.new.self c.args.number (nat_abs c.args.number) same c.close.ensures c.as_slice.result.now (c.are_false.ensures.0 c.if-not-are_false.false) there
