use Rattle.jesc_linear.proofs.Searching.{point_evidence}
use Rattle.jesc_linear.proofs.outcome.decide.Goals as goal

pub returns-in_ok-point_of-in-Ok-clause-evidence : goal.returns-in_ok-point_of-in-Ok-clause-evidence
returns-in_ok-point_of-in-Ok-clause-evidence c =
    point_evidence c.args.rows.now c.as_slice.result.now c.search.new.values.items c.in_ok-point_of-in-Ok.field-0 c.requires.forms c.as_slice.ensures.value
    c.in-Ok.ensures.course c.in_ok-point_of-in-Ok.ensures
