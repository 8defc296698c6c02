use Rattle.std.proofs.Common.{take}
use Rattle.std.specs.List.{AllZip}
use Rattle.jesc_names.specs.Program.{IsThrown}
use Rattle.jesc_names.proofs.method_rows.thrown.Given as goal

abbrev pub invariant-loop-word : goal.invariant-loop-word
invariant-loop-word l = AllZip (IsThrown l.names.classes.now l.names.order.now) (take l.word-index l.words) l.classes
