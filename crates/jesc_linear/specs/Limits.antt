-- How the code's limits stand for those of the definitions, and which values the way back goes on with.
use Rattle.std.specs.Prelude.{ℕ, ◌≤◌, ◌^◌, ℤ, List, Option, Some, None, unsigned_abs}
use Rattle.jesc_linear.specs.declared.rows.LinStep.{LinStep}
use Rattle.jesc_linear.specs.declared.back.Limit.{Limit}
use Rattle.jesc_linear.specs.declared.back.Limits.{Limits}
use Rattle.jesc_linear.specs.Rows.{value_at}
use Rattle.jesc_linear.specs.Elimination as elimination
use Rattle.jesc_linear.specs.Tables.{entry_of}

abbrev pub limit_in : List LinStep → Limit → elimination.Limit
limit_in log limit = (limit.value, entry_of log limit.slot)

abbrev pub side_in : List LinStep → Option Limit → Option elimination.Limit
side_in log None = None
side_in log (Some limit) = Some (limit_in log limit)

abbrev pub limits_in : List LinStep → Limits → elimination.Limits
limits_in log limits = record { least = side_in log limits.least; greatest = side_in log limits.greatest }

-- no value is beyond 2^94
abbrev pub AreWithin : List ℤ → Type 0
AreWithin values = (term : ℕ) → unsigned_abs (value_at values term) ≤ 2 ^ 94
