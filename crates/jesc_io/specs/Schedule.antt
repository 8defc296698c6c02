use Rattle.std.specs.Prelude.{ℕ, List, [], ◌∷◌, Option, Some, None, ◌==◌, if◌then◌else◌}

-- how many bytes the call of this number takes before it fails, if a pair has the number; the first pair counts
abbrev pub fault_of : List (ℕ × ℕ) → ℕ → Option ℕ
fault_of [] call = None
fault_of (fault ∷ faults) call = if fault.0 == call then Some fault.1 else fault_of faults call
