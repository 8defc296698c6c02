use Rattle.std.proofs.Common.{sym, ap, subst}
use Rattle.jesc_linear.specs.declared.rows.Row.{Row}
use Rattle.jesc_linear.specs.declared.rows.LinStep.{LinStep}
use Rattle.jesc_linear.specs.Divisors.{divided}
use Rattle.jesc_linear.specs.Sums.{sum_of}
use Rattle.jesc_linear.specs.Courses.{Course, and_then, looked_at}
use Rattle.jesc_linear.specs.Elimination.{Table, put_derived, put_sum}
use Rattle.jesc_linear.specs.Tables.{row_at, table_of, Goes}
use Rattle.jesc_linear.proofs.Pairing.{looks_then, handed_on}
use Rattle.jesc_linear.proofs.pairs.put_sum.Goals as goal

pub returns-clause-course : goal.returns-clause-course
returns-clause-course c =
    subst (λ (course : Course Table). Goes c.put_derived.new.table.log (λ u. table_of c.put_derived.new.table) course c.put_derived.result)
    (sym (ap (λ (course : Course Row). and_then course (λ row. put_derived row (table_of c.args.table.now))) c.in_ok-step.ensures.course))
    c.put_derived.ensures.course

pub returns-in_err-step-clause-course : goal.returns-in_err-step-clause-course
returns-in_err-step-clause-course c =
    handed_on c.args.table.now.log (λ u. table_of c.args.table.now) (put_sum c.args.term (row_at c.args.table.now.log c.args.upper.at) (row_at c.args.table.now.log c.args.lower.at) (table_of c.args.table.now))
    c.in_err-step.field-0.0 c.from_residual.result c.from_residual.ensures.1
    (looks_then LinStep c.args.table.now.log (λ s. s.row)
    (looked_at (divided (sum_of c.args.term (row_at c.args.table.now.log c.args.upper.at) (row_at c.args.table.now.log c.args.lower.at))))
    (λ row. put_derived row (table_of c.args.table.now)) c.in_err-step.field-0.0 c.in_err-step.ensures.course)
