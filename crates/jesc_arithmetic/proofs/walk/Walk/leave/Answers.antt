use Rattle.jesc_arithmetic.proofs.Saying.{on_ok}
use Rattle.jesc_arithmetic.proofs.Walked.{noted}
use Rattle.jesc_arithmetic.proofs.walk.Walk.leave.Goals as goal

pub returns : goal.returns
returns c = on_ok _ _ (noted c.args.terms.now c.args.self.now c.put_operation.new.self c.put_seen.new.self c.args.id c.requires.parts c.in_ok-put_operation.ensures.walked) c.put_seen.result c.put_seen.ensures
