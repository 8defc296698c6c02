use Rattle.std.proofs.Common.{◌≡◌, take}
use Rattle.jesc_core.proofs.copy.term.copy_formulas.Given as goal

abbrev pub invariant-loop-formula : goal.invariant-loop-formula
invariant-loop-formula l = l.copies ≡ take l.formula-index l.formula-items
