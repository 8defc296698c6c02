use Rattle.std.proofs.Common.{rules, pos, get_or, arith, FitsSigned, w64, to_z, of_z}
use Rattle.std.proofs.lemmas.Int.{ints}
use Rattle.std.proofs.Math.IntN.{◌-ℤ◌}
use Rattle.jesc_accept.proofs.Literals.{turned_more, turned_coefficient}
use Rattle.jesc_accept.proofs.arithmetic.opposite.Goals as goal

pub loop-part-preserved : goal.loop-part-preserved
loop-part-preserved c =
    let part = get_or c.as_slice-part-items.result.now c.loop-part.part-index (pos 0, 0) in
    let fits : FitsSigned w64 part.0 = search rules in
    let negative : FitsSigned w64 (pos 0 -ℤ to_z w64 (of_z w64 part.0)) = omega (arith, ints, c.if-part.false) in
    turned_more c.args.atom.now.form c.as_slice-part-items.result.now c.loop-part.form c.push.new.self c.loop-part.part-index _ (pos 0, 0) c.as_slice-part-items.ensures c.loop-part-test.true c.loop-part.invariant (turned_coefficient part.0 fits negative) c.in_ok-push.ensures.ok
