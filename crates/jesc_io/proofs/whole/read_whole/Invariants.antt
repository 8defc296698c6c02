use Rattle.std.proofs.Common.{◌≡◌, ◌≤◌, length, ◌-◌}
use Rattle.jesc_io.proofs.Reading.{HasRead}
use Rattle.jesc_io.proofs.whole.read_whole.Given as goal

abbrev pub invariant-loop-buffer : goal.invariant-loop-buffer
invariant-loop-buffer g l = record {
  read : HasRead (g.F.Files.told l.fn.files) (g.F.Files.told l.files) l.name l.all;
  faults : g.F.Files.read_faults l.files ≡ g.F.Files.read_faults l.fn.files;
  others : g.F.Files.write_faults l.files ≡ g.F.Files.write_faults l.fn.files;
  short : length l.all ≤ 1048577;
}

abbrev pub decreases-loop-buffer : goal.decreases-loop-buffer
decreases-loop-buffer g l = 1048577 - length l.all
