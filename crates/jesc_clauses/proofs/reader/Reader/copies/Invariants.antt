use Rattle.std.proofs.Common.{take}
use Rattle.jesc_clauses.specs.Readers.{AreSumsOf}
use Rattle.jesc_clauses.proofs.reader.Reader.copies.Given as goal

abbrev pub invariant-loop-id : goal.invariant-loop-id
invariant-loop-id l = AreSumsOf l.self.sums (take l.id-index l.ids) l.sums
