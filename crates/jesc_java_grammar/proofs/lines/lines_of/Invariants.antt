use Rattle.jesc_java_grammar.proofs.LineStarts.{Finds}
use Rattle.jesc_java_grammar.proofs.lines.lines_of.Given as goal

abbrev pub invariant-loop-i : goal.invariant-loop-i
invariant-loop-i l = Finds l.text l.i l.lines
