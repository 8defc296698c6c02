use Rattle.std.proofs.Common.{◌≡◌, take}
use Rattle.jesc_accept.proofs.atom_table.is_same_form.Given as goal

abbrev pub invariant-loop-at : goal.invariant-loop-at
invariant-loop-at l = take l.at l.form ≡ take l.at l.other
