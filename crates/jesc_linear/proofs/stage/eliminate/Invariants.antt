use Rattle.jesc_linear.specs.Courses.{Course}
use Rattle.jesc_linear.specs.Elimination.{Solves, Values}
use Rattle.jesc_linear.specs.Tables.{IsTable, AreStages, back, table_of}
use Rattle.jesc_linear.proofs.stage.eliminate.Given as goal

abbrev pub invariant-loop-stage : goal.invariant-loop-stage
invariant-loop-stage l = record {
  table : IsTable l.rows l.table;
  stages : AreStages l.table.log l.stages;
  course : (course : Course Values) → Solves (table_of l.table) course → Solves (table_of l.fn.table) (back l.table.log l.stages course);
}
