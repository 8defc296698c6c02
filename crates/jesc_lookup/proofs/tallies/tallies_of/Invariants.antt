use Rattle.std.proofs.Common.{◌≡◌, map, take}
use Rattle.jesc_lookup.specs.Tallies.{marked_in}
use Rattle.jesc_lookup.proofs.tallies.tallies_of.Given as goal

abbrev pub invariant-loop-version : goal.invariant-loop-version
invariant-loop-version l = l.tallies ≡ map (marked_in l.marks) (take l.version l.versions)
