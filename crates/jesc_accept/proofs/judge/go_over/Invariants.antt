use Rattle.jesc_accept.specs.Standings.{Stands}
use Rattle.jesc_accept.proofs.judge.go_over.Given as goal

abbrev pub invariant-loop-n : goal.invariant-loop-n
invariant-loop-n l = Stands l.lines l.n l.tables l.tree
