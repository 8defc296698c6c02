use Rattle.std.proofs.Common.{◌≡◌, drop}
use Rattle.jesc_linear.specs.Elimination.{put_sums}
use Rattle.jesc_linear.specs.Tables.{IsTable, Extends, entries_of, row_at, table_of}
use Rattle.jesc_linear.proofs.pairs.put_sums.Given as goal

abbrev pub invariant-loop-lower : goal.invariant-loop-lower
invariant-loop-lower l = record {
  table : IsTable l.rows l.table;
  log : Extends l.fn.table.log l.table.log;
  course : put_sums l.term (row_at l.fn.table.log l.upper.at) (entries_of l.fn.table.log l.lowers) (table_of l.fn.table)
      ≡ put_sums l.term (row_at l.fn.table.log l.upper.at) (entries_of l.fn.table.log (drop l.lower-index l.lowers)) (table_of l.table);
}
