use Rattle.jesc_linear.specs.Tables.{entry_of}
use Rattle.jesc_linear.proofs.Searching.{gap_evidence}
use Rattle.jesc_linear.proofs.outcome.gap_of.Goals as goal

pub returns-clause-evidence : goal.returns-clause-evidence
returns-clause-evidence c =
    gap_evidence c.args.rows.now (entry_of c.args.log.now c.args.first) (entry_of c.args.log.now c.args.second) _ _ c.requires.forms c.requires.course
    c.in_ok-row.ensures c.in_ok-other.ensures
