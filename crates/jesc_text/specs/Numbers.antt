use Rattle.std.specs.Prelude.{◌≡◌, ◌≢◌, ℕ, ◌+◌, ◌<◌, ◌≤◌, ◌^◌, ℤ, pos, negsuc, List, length, drop, slice_index}
use Rattle.std.specs.Str.Parse.{AllDigits, digits_value}

-- decimal digits, at least one, without a leading zero
pub record IsNatural (bytes : List ℕ) : Type 0 where
  pub digits : AllDigits 10 bytes
  pub some : 0 < length bytes
  pub front : 1 < length bytes → slice_index bytes 0 ≢ 48

-- the bytes spell this number, which is within 2^126; a minus stands before a number other than 0 alone
abbrev pub IsNumber : List ℕ → ℤ → Type 0
IsNumber bytes (pos n) = IsNatural bytes × (digits_value 10 bytes ≡ n) × (n ≤ 2 ^ 126)
IsNumber bytes (negsuc n) = (slice_index bytes 0 ≡ 45) × IsNatural (drop 1 bytes) × (digits_value 10 (drop 1 bytes) ≡ n + 1) × (n + 1 ≤ 2 ^ 126)
