use Rattle.std.specs.Prelude.{◌≡◌, ℕ, ◌+◌, ◌-◌, ◌^◌, ◌≤◌, min, Result, Ok, Err}
use Rattle.jesc_io.specs.declared.outside.IoError.{IoError}
use Rattle.jesc_io.specs.declared.outside.IoError.TheVariants.{Failed, OutOfMemory}

-- The count rose, or stands at the last value of a u64.
abbrev pub Rose : ℕ → ℕ → Type 0
Rose before now = min (before + 1) (2 ^ 64 - 1) ≤ now

-- A call answers Failed only where its own count rose; no other answer raises it, and no answer raises the other count.
abbrev pub HasCause : {T : Type 0} → ℕ → ℕ → ℕ → ℕ → Result T IoError → Type 0
HasCause before now other_before other_now (Ok value) = (now ≡ before) × (other_now ≡ other_before)
HasCause before now other_before other_now (Err OutOfMemory) = (now ≡ before) × (other_now ≡ other_before)
HasCause before now other_before other_now (Err Failed) = (before ≤ now) × Rose before now × (other_now ≡ other_before)
