use Rattle.std.proofs.Common.{◌≡◌, take}
use Rattle.jesc_core.proofs.+copy_term.Given as goal

abbrev pub invariant-copy::term::copy_terms-loop-term : goal.invariant-copy::term::copy_terms-loop-term
invariant-copy::term::copy_terms-loop-term l = l.copies ≡ take l.term-index l.term-items
