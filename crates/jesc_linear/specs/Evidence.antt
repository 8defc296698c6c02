-- What each outcome proves of the rows.
use Rattle.std.specs.Prelude.{ℕ, ◌≤◌, List, unsigned_abs}
use Rattle.jesc_linear.specs.declared.rows.Row.{Row}
use Rattle.jesc_linear.specs.declared.outcome.Outcome.{Outcome}
use Rattle.jesc_linear.specs.declared.outcome.Outcome.TheVariants.{Refuted, Point, WideForms, WidePairs, WideNumber, Gap}
use Rattle.jesc_linear.specs.Forms.{coefficient_of}
use Rattle.jesc_linear.specs.Rows.{MeetsAll, HaveNoSolution, value_at}
use Rattle.jesc_linear.specs.Steps.{Refutes}

-- both rows have a coefficient of size 2 at least at one variable
abbrev pub HaveGap : Row → Row → Type 0
HaveGap first second = (term : ℕ) × (2 ≤ unsigned_abs (coefficient_of first.form term)) × (2 ≤ unsigned_abs (coefficient_of second.form term))

-- Steps refute the rows, a point meets each of them, and a gap's rows have no coefficient of 1 or -1 at its variable. The
-- other outcomes claim nothing.
abbrev pub HasEvidence : List Row → Outcome → Type 0
HasEvidence rows (Refuted steps) = Refutes steps rows
HasEvidence rows (Point point) = MeetsAll (value_at point) rows
HasEvidence rows (WideForms count) = Unit {0}
HasEvidence rows (WidePairs count) = Unit {0}
HasEvidence rows (WideNumber number) = Unit {0}
HasEvidence rows (Gap i first j second) = HaveGap first second

-- where steps refute the rows, no whole numbers meet them
abbrev pub IsSound : List Row → Outcome → Type 0
IsSound rows (Refuted steps) = HaveNoSolution rows
IsSound rows (Point point) = Unit {0}
IsSound rows (WideForms count) = Unit {0}
IsSound rows (WidePairs count) = Unit {0}
IsSound rows (WideNumber number) = Unit {0}
IsSound rows (Gap i first j second) = Unit {0}
