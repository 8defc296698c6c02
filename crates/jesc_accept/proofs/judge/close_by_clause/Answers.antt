use Rattle.std.proofs.Common.{◌≡◌, pos, Some, slice_get, arith, ap, sym, length, ◌<◌}
use Rattle.std.proofs.lemmas.Int.{ints}
use Rattle.std.proofs.Math.IntN.{nat_abs}
use Rattle.std.proofs.Math.Facts.{to_z-of_z}
use Rattle.jesc_accept.proofs.TreeLines.{stands, clause_leaf}
use Rattle.jesc_accept.proofs.judge.close_by_clause.Goals as goal

pub returns : goal.returns
returns c =
    let same : c.args.number ≡ pos (nat_abs c.args.number) = omega (arith, ints) in
    let below : nat_abs c.args.number < length c.args.tables.now.clauses.now.clauses = omega (arith, ints, ap length c.as_slice-clauses.ensures) in
    let there : slice_get c.args.tables.now.clauses.now.clauses (nat_abs c.args.number) ≡ Some c.as_slice.result.now =
    stands _ _ _ _ _ _ c.as_slice-clauses.ensures (sym c.as_slice.ensures) c.index-clauses-number.is (ap nat_abs (to_z-of_z c.ranges.number)) below in
    clause_leaf c.args.tables.now c.args.tree.now c.close.new.self c.args.number (nat_abs c.args.number) same c.close.ensures c.as_slice.result.now (c.are_all_false.ensures.0 c.if-not-are_all_false.false) there
