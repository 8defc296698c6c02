use Rattle.std.proofs.Common.{◌+◌, drop}
use Rattle.jesc_classes.specs.Headings.{Judges, headings_from, walk}
use Rattle.jesc_classes.proofs.Walk.{Answer}
use Rattle.jesc_classes.proofs.judge.judge.Given as goal

-- what is answered for the headings that are left is the answer for all
abbrev pub invariant-loop-i : goal.invariant-loop-i
invariant-loop-i l = (r : Answer) → Judges l.fn.classes r (headings_from (7 + l.i) (drop l.i l.fn.classes)) → Judges l.fn.classes r (walk l.fn.classes)
