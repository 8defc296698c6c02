use Rattle.std.proofs.Common.{refl}
use Rattle.jesc_logic.specs.Terms.{term_at}
use Rattle.jesc_arithmetic.proofs.Walked.{put_one}
use Rattle.jesc_arithmetic.proofs.walk.Walk.put_operation.Goals as goal

pub returns-in-Ok-clause-walked : goal.returns-in-Ok-clause-walked
returns-in-Ok-clause-walked c =
    put_one c.args.terms.now c.args.self.now (record { seen = c.args.self.now.seen; operations = c.insert.new.self }) (term_at c.args.terms.now c.args.id) c.in-Some.operation c.requires.walk c.in-Some.ensures.there c.in-Some.ensures.named refl c.in-Ok.ensures.keys
