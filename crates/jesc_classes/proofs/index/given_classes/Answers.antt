use Rattle.std.proofs.Common.{◌++◌, ap, sym, ◌∙◌, map}
use Rattle.jesc_classes.specs.Headings.{source}
use Rattle.jesc_classes.proofs.Files.{sources_more}
use Rattle.jesc_classes.proofs.index.given_classes.Goals as goal

pub loop-file-preserved : goal.loop-file-preserved
loop-file-preserved c =
    c.in_ok-add_classes.ensures ∙ ap (λ s. s ++ map (source c.file-item.result.lines) c.file-item.result.classes) c.loop-file.invariant
    ∙ sym (sources_more c.args.files.now c.loop-file.file-index c.file-item.result c.loop-file-test.true c.file-item.is)
