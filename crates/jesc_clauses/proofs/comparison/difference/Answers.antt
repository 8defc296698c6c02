use Rattle.std.proofs.Common.{ℕ, ℤ, ◌^◌, pos, negsuc, List, Err, subst}
use Rattle.jesc_clauses.specs.declared.error.ClauseError.{ClauseError}
use Rattle.jesc_clauses.specs.Merges.{OnWide, IsWideTogether}
use Rattle.jesc_clauses.proofs.Comparing.{never_wide}
use Rattle.jesc_clauses.proofs.comparison.difference.Goals as goal

pub unreachable-requires : goal.unreachable-requires
unreachable-requires c =
    never_wide c.args.x.now c.args.y.now c.in-Err-Wide.field-0-0 c.requires.x c.requires.y
    (subst (λ (e : ClauseError). OnWide {T = List (ℤ × ℕ)} (IsWideTogether (2 ^ 33) (pos 1) c.args.x.now (negsuc 0) c.args.y.now) (Err e)) c.in-Err-Wide.field-0-is c.in-Err-Wide.ensures.wide)
