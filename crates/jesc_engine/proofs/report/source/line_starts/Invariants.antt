use Rattle.jesc_engine.specs.Starts.{StartsUpTo}
use Rattle.jesc_engine.proofs.report.source.line_starts.Given as goal

abbrev pub invariant-loop-i : goal.invariant-loop-i
invariant-loop-i l = StartsUpTo l.bytes l.i l.starts
