use Rattle.std.proofs.Common.{◌≡◌, take}
use Rattle.jesc_accept.specs.Moves.{MovesOn}
use Rattle.jesc_accept.specs.States.{state_of}
use Rattle.jesc_accept.proofs.judge.take_front.Given as goal

abbrev pub invariant-loop-n : goal.invariant-loop-n
invariant-loop-n l = record {
  same : l.tables.clauses ≡ l.initial.tables.clauses;
  moves : MovesOn l.initial.tables.clauses.now (state_of l.initial.tables) (take l.n l.lines) (state_of l.tables);
}
