use Rattle.std.proofs.Common.{◌<◌, FitsSigned, ◌∙◌, arith}
use mir.Syntax.{w128}
use Rattle.std.proofs.lemmas.Int.{to_z-of_z}
use Rattle.jesc_linear.specs.Elimination.{end_of_all}
use Rattle.jesc_linear.proofs.Listing.{point_more}
use Rattle.jesc_linear.proofs.point.point_of.Goals as goal

pub loop-term-preserved : goal.loop-term-preserved
loop-term-preserved c =
    let value = c.value_of.result in
    let end = end_of_all c.args.rows.now in
    let here : c.loop-term.term < end = omega arith in
    let fits : FitsSigned w128 value = record { sfits = c.value_of.type_inv } in
    let push = simp to_z-of_z at c.in_ok-push.ensures.ok in
    λ found has.
    point_more found c.loop-term.term end c.loop-term.point c.push.new.self value here push (c.value_of.ensures ∙ has c.loop-term.term)
    ∙ c.loop-term.invariant found has
