use Rattle.std.proofs.Common.{◌≡◌, drop}
use Rattle.jesc_linear.specs.Elimination.{put_all_sums}
use Rattle.jesc_linear.specs.Tables.{IsTable, Extends, entries_of, table_of}
use Rattle.jesc_linear.proofs.pairs.put_all_sums.Given as goal

abbrev pub invariant-loop-upper : goal.invariant-loop-upper
invariant-loop-upper l = record {
  table : IsTable l.rows l.table;
  log : Extends l.fn.table.log l.table.log;
  course : put_all_sums l.term (entries_of l.fn.table.log l.uppers) (entries_of l.fn.table.log l.lowers) (table_of l.fn.table)
      ≡ put_all_sums l.term (entries_of l.fn.table.log (drop l.upper-index l.uppers)) (entries_of l.fn.table.log l.lowers) (table_of l.table);
}
