use Rattle.std.proofs.Common.{◌≡◌, length, take, map}
use Rattle.std.specs.String.{string_bytes}
use Rattle.jesc_io.specs.Contents.{SameContents}
use Rattle.jesc_engine.proofs.SourceLists.{AreReadSoFar}
use Rattle.jesc_engine.proofs.sources.read_sources.Given as goal

abbrev pub invariant-loop-word : goal.invariant-loop-word
invariant-loop-word g l = record {
  so_far : AreReadSoFar (g.F.Files.told l.fn.files) (map string_bytes (take l.word-index l.names)) l.sources;
  count : length l.sources.files ≡ l.word-index;
  reads : g.F.Files.read_faults l.files ≡ g.F.Files.read_faults l.fn.files;
  writes : g.F.Files.write_faults l.files ≡ g.F.Files.write_faults l.fn.files;
  same : SameContents (g.F.Files.told l.fn.files) (g.F.Files.told l.files);
}
