use Rattle.std.proofs.Common.{rules, pos, get_or, FitsSigned}
use mir.Syntax.{w128}
use Rattle.std.proofs.lemmas.Int.{to_z-of_z}
use Rattle.jesc_accept.specs.States.{atoms_of}
use Rattle.jesc_accept.proofs.Literals.{no_row_at, have_more}
use Rattle.jesc_accept.proofs.tables.Tables.rows_of.Goals as goal

pub returns-in_default : goal.returns-in_default
returns-in_default c =
    let f : FitsSigned w128 (get_or c.args.literals.now c.loop-literal.literal-index (pos 0)) = search rules in
    let h = rw c.in_default.is at c.in_ok-row.ensures in
    no_row_at (atoms_of c.args.self.now) c.args.literals.now c.loop-literal.literal-index _ c.loop-literal-test.true (to_z-of_z w128 _ f) h

pub loop-literal-preserved : goal.loop-literal-preserved
loop-literal-preserved c =
    let f : FitsSigned w128 (get_or c.args.literals.now c.loop-literal.literal-index (pos 0)) = search rules in
    let h = rw c.in-Some.is at c.in_ok-row.ensures in
    have_more (atoms_of c.args.self.now) c.args.literals.now c.loop-literal.literal-index c.loop-literal.rows c.push.new.self _ c.in-Some.row c.loop-literal-test.true (to_z-of_z w128 _ f) c.loop-literal.invariant h c.in_ok-push.ensures.ok
