use Rattle.jesc_accept.proofs.Flat.{IsRead}
use Rattle.jesc_accept.proofs.numbers.row_of.Given as goal

abbrev pub invariant-loop-at : goal.invariant-loop-at
invariant-loop-at l = IsRead l.terms l.parts l.at l.form
