use Rattle.std.proofs.Common.{◌≡◌, ◌++◌, take}
use Rattle.std.specs.List.{flat_map}
use Rattle.jesc_engine.specs.Report.{finding_line}
use Rattle.jesc_engine.proofs.report.duty.put_findings.Given as goal

abbrev pub invariant-loop-finding : goal.invariant-loop-finding
invariant-loop-finding l =
    l.into ≡ l.fn.into ++ flat_map (finding_line l.source.name.now l.source.bytes.now l.judgement.duty) (take l.finding-index l.finding-items)
