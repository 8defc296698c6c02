use Rattle.std.proofs.Common.{◌≡◌, [], Ok, drop}
use Rattle.jesc_linear.specs.Elimination.{Values}
use Rattle.jesc_linear.specs.Tables.{HasValues, back}
use Rattle.jesc_linear.specs.Limits.{AreWithin}
use Rattle.jesc_linear.proofs.back.go_back.Given as goal

abbrev pub invariant-loop-at : goal.invariant-loop-at
invariant-loop-at l = record {
  within : AreWithin l.values.items;
  course : (found : Values) × (back l.log (drop l.at l.stages) (Ok []) ≡ Ok found) × HasValues l.values.items found;
}
