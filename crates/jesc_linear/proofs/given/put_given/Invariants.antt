use Rattle.std.proofs.Common.{◌≡◌, [], drop}
use Rattle.jesc_linear.specs.Elimination.{put_given}
use Rattle.jesc_linear.specs.Tables.{IsTable, entries_of}
use Rattle.jesc_linear.proofs.given.put_given.Given as goal

abbrev pub invariant-loop-k : goal.invariant-loop-k
invariant-loop-k l = record {
  table : IsTable l.rows l.table;
  next : l.table.next ≡ l.initial.table.next;
  pairs : l.table.pairs ≡ l.initial.table.pairs;
  course : put_given 0 l.rows [] ≡ put_given l.k (drop l.k l.rows) (entries_of l.table.log l.table.slots.items);
}
