use Rattle.std.proofs.Common.{arith, subst}
use Rattle.jesc_accept.specs.declared.judge.Front.{Front}
use Rattle.jesc_accept.specs.Standings.{EndsFront}
use Rattle.jesc_accept.proofs.LinesOn.{first_is_bad, due_bad, begins}
use Rattle.jesc_accept.proofs.judge.first_bad.Goals as goal

pub returns-in-Bad : goal.returns-in-Bad
returns-in-Bad c = first_is_bad c.args.clauses.now c.in_ok-tables.tables c.args.lines.now c.in-Bad.at c.in_ok-tables.ensures.made c.in_ok-tables.ensures.same
    (subst (λ (f : Front). EndsFront c.in_ok-tables.tables c.args.lines.now c.take_front.new.tables f) c.in-Bad.is c.in_ok-at.ensures)

pub returns-then-tables-gt0 : goal.returns-then-tables-gt0
returns-then-tables-gt0 c = due_bad c.args.clauses.now c.in_ok-tables.tables c.take_front.new.tables c.args.lines.now c.in-Ends.at c.in_ok-tables.ensures.made c.in_ok-tables.ensures.same
    (subst (λ (f : Front). EndsFront c.in_ok-tables.tables c.args.lines.now c.take_front.new.tables f) c.in-Ends.is c.in_ok-at.ensures) (omega arith)

pub go_over-requires : goal.go_over-requires
go_over-requires c = begins c.args.clauses.now c.in_ok-tables.tables c.take_front.new.tables c.in_ok-tree-in-Ends.tree c.args.lines.now c.in-Ends.at c.in_ok-tables.ensures.made c.in_ok-tables.ensures.same
    (subst (λ (f : Front). EndsFront c.in_ok-tables.tables c.args.lines.now c.take_front.new.tables f) c.in-Ends.is c.in_ok-at.ensures) (omega arith) c.in_ok-tree-in-Ends.ensures
