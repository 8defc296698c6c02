use Rattle.std.proofs.Common.{◌∙◌}
use Rattle.jesc_linear.proofs.Searching.{fails, rows_end, stages_end, decided, found}
use Rattle.jesc_linear.proofs.Made.{rows_made}
use Rattle.jesc_linear.proofs.outcome.search.Goals as goal

pub returns-in_err-put_given-clause-course : goal.returns-in_err-put_given-clause-course
returns-in_err-put_given-clause-course c =
    fails _ _ c.from_residual.result c.in_err-put_given.field-0.0 c.from_residual.ensures.1
    (rows_end c.put_given.new.table.log c.in_err-put_given.field-0.0 c.args.rows.now c.in_err-put_given.ensures.course)

pub returns-in_err-eliminate-clause-course : goal.returns-in_err-eliminate-clause-course
returns-in_err-eliminate-clause-course c =
    fails _ _ c.from_residual-in_err-eliminate.result c.in_err-eliminate.field-0.0 c.from_residual-in_err-eliminate.ensures.1
    (stages_end c.eliminate.new.table.log c.in_err-eliminate.field-0.0 c.args.rows.now _ _ _ c.in_ok-put_given.ensures.course
    (c.put_given.ensures.next ∙ c.requires.next) (c.put_given.ensures.pairs ∙ c.requires.pairs) c.in_err-eliminate.ensures.course)

pub go_back-requires-clause-rows : goal.go_back-requires-clause-rows
go_back-requires-clause-rows c = rows_made c.args.rows.now c.eliminate.new.table.log c.eliminate.ensures.table.steps

pub returns-clause-course : goal.returns-clause-course
returns-clause-course c = found c.args.rows.now c.eliminate.new.table.log _ c.go_back.new.values.items c.go_back.result
    (decided c.args.rows.now _ _ _ _ c.in_ok-put_given.ensures.course (c.put_given.ensures.next ∙ c.requires.next) (c.put_given.ensures.pairs ∙ c.requires.pairs) c.in_ok-eliminate.ensures.course)
    c.go_back.ensures
