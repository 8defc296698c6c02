use Rattle.std.proofs.Common.{Err, rules, subst}
use Rattle.jesc_clauses.specs.declared.error.ClauseError.{ClauseError}
use Rattle.jesc_clauses.specs.declared.normal.Normal.{Normal}
use Rattle.jesc_clauses.specs.Comparisons.{IsWideComparison}
use Rattle.jesc_clauses.specs.Merges.{OnWide}
use Rattle.jesc_accept.specs.States.{atoms_of}
use Rattle.jesc_accept.proofs.CongruenceLines.{reads_of, never_reads_wide}
use Rattle.jesc_accept.proofs.tables.Tables.read_at_most.Goals as goal

pub returns-in-Ok : goal.returns-in-Ok
returns-in-Ok c = reads_of (atoms_of c.args.self.now) c.args.x.now c.args.y.now c.in-Ok.normal c.read_normal.result (c.is_lin.ensures.0 (search rules)) (c.is_lin-else-not-is_lin.ensures.0 (search rules)) c.in-Ok.ensures.comparison c.in-Ok.ensures.narrow c.read_normal.ensures

pub returns-in-Err-Wide : goal.returns-in-Err-Wide
returns-in-Err-Wide c = never_reads_wide (atoms_of c.args.self.now) c.args.x.now c.args.y.now c.in-Err-Wide.field-0-0
    (subst (λ (e : ClauseError). OnWide {T = Normal} (IsWideComparison c.args.x.now c.args.y.now) (Err e)) c.in-Err-Wide.field-0-is c.in-Err-Wide.ensures.wide)
