use Rattle.std.proofs.Common.{subst}
use Rattle.jesc_linear.specs.declared.stop.Stop.{Stop}
use Rattle.jesc_linear.specs.Elimination.{Decides}
use Rattle.jesc_linear.specs.Tables.{Ends}
use Rattle.jesc_linear.proofs.Sound.{no_solution}
use Rattle.jesc_linear.proofs.outcome.outcome_of.Goals as goal

pub returns-in-Absurd-clause-sound : goal.returns-in-Absurd-clause-sound
returns-in-Absurd-clause-sound c =
    let ends = subst (λ (stop : Stop). Ends c.args.table.log stop (Decides c.args.rows.now)) c.in-Absurd.is c.requires.course in
    no_solution c.args.rows.now c.args.table.log (c.requires.table.steps, ends.1)
