use Rattle.std.proofs.Common.{◌≡◌, [], take}
use Rattle.jesc_engine.specs.Files.{class_sources, AreClassed}
use Rattle.jesc_engine.proofs.ClassLists.{class_names}
use Rattle.jesc_engine.proofs.classes.read_program.Given as goal

abbrev pub invariant-loop-source : goal.invariant-loop-source
invariant-loop-source l = record {
  sources : class_sources l.files ≡ take l.source-index l.sources;
  classed : AreClassed [] l.files;
  names : l.names ≡ class_names l.files;
}
