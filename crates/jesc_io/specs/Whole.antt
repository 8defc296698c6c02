use Rattle.std.specs.Prelude.{◌≡◌, ℕ, ◌≤◌, ◌<◌, List, length, Option, option_map, IfSome, Result, Ok, Err}
use Rattle.jesc_io.specs.Contents.{Store, bytes_at, reading_at}
use Rattle.jesc_io.specs.Faults.{Rose}
use Rattle.jesc_io.specs.declared.whole.ReadError.{ReadError}
use Rattle.jesc_io.specs.declared.whole.ReadError.TheVariants.{Failed, TooLarge, OutOfMemory}

-- Ok has exactly the bytes of this name, which are at most 1,048,576; TooLarge says that there are more.
abbrev pub IsWhole : Option Store → List ℕ → Result (List ℕ) ReadError → Type 0
IsWhole told name (Ok bytes) = IfSome told (λ s. bytes ≡ bytes_at name s) × (length bytes ≤ 1048576)
IsWhole told name (Err TooLarge) = IfSome told (λ s. 1048576 < length (bytes_at name s))
IsWhole told name (Err Failed) = Unit {0}
IsWhole told name (Err OutOfMemory) = Unit {0}

-- Where reading stopped: behind the last byte, or behind byte 1,048,577 of a file that is too large.
abbrev pub StopsAt : Option Store → Option Store → List ℕ → Result (List ℕ) ReadError → Type 0
StopsAt before now name (Ok bytes) = now ≡ option_map (reading_at name (length bytes)) before
StopsAt before now name (Err TooLarge) = now ≡ option_map (reading_at name 1048577) before
StopsAt before now name (Err Failed) = Unit {0}
StopsAt before now name (Err OutOfMemory) = Unit {0}

-- Failed comes only where the count of failed reads rose; no other answer raises it.
abbrev pub ReadHasCause : ℕ → ℕ → Result (List ℕ) ReadError → Type 0
ReadHasCause before now (Ok bytes) = now ≡ before
ReadHasCause before now (Err Failed) = (before ≤ now) × Rose before now
ReadHasCause before now (Err TooLarge) = now ≡ before
ReadHasCause before now (Err OutOfMemory) = now ≡ before
