use Rattle.std.proofs.Common.{◌≡◌, ℕ, ◌+◌, ◌*◌, ◌^◌, ◌/◌, ◌%◌, ◌≤◌, ◌<◌, List, [], ◌∷◌, ◌++◌, zero, suc, length, get_or, take, arith, sym, ap, ◌∙◌, drop, ◌-◌, slice_set, append_assoc, length-append}
use Rattle.std.specs.Char.{digit_value}
use Rattle.std.specs.Str.Parse.{AllDigits, digits_value}
use Rattle.std.specs.Fmt.{decimal}
use Rattle.std.proofs.lemmas.Fmt.{decimal_step_wide, length-decimal-le_wide}
use Rattle.std.proofs.lemmas.Str.Parse.{digits_value-take-le}
use Rattle.std.proofs.lemmas.Int.Digits.{digits_value_more}

-- each byte of a text of digits is one
pub digit_at : (bytes : List ℕ) (i : ℕ) → AllDigits 10 bytes → i < length bytes → digit_value (get_or bytes i 0) < 10
digit_at [] i all within = absurd (omega arith)
digit_at (b ∷ bytes) zero all within = all.0
digit_at (b ∷ bytes) (suc i) all within = digit_at bytes i all.1 (omega arith)

-- no prefix of a text of digits spells more than the whole
pub prefix_value : (bytes : List ℕ) (i : ℕ) → i < length bytes → digits_value 10 (take i bytes) * 10 + digit_value (get_or bytes i 0) ≤ digits_value 10 bytes
prefix_value bytes i within = omega (arith, digits_value_more 10 bytes i within, digits_value-take-le 10 bytes (i + 1) (omega arith))

-- what stands from a place on, after a write there
pub first_set : (i : ℕ) (buffer : List ℕ) (digit : ℕ) → 0 < i → i ≤ length buffer → drop (i - 1) (slice_set buffer (i - 1) digit) ≡ digit ∷ drop i buffer
first_set zero buffer digit some within = absurd (omega arith)
first_set (suc i) [] digit some within = absurd (omega arith)
first_set (suc zero) (b ∷ buffer) digit some within = grind arith
first_set (suc (suc i)) (b ∷ buffer) digit some within =
    let more = first_set (suc i) buffer digit (omega arith) (omega arith) in grind arith

-- a number of several digits has one digit more than its tenth
pub length_step : (n : ℕ) → 10 ≤ n → n < 10 ^ 64 → length (decimal n) ≡ length (decimal (n / 10)) + 1
length_step n several fits = ap length (decimal_step_wide n several fits) ∙ length-append (decimal (n / 10)) ((48 + n % 10) ∷ [])

-- one digit more stands before the others
pub digit_before : (n i : ℕ) (buffer : List ℕ) → 10 ≤ n → n < 10 ^ 64 → 0 < i → i ≤ length buffer
    → decimal (n / 10) ++ drop (i - 1) (slice_set buffer (i - 1) (48 + n % 10)) ≡ decimal n ++ drop i buffer
digit_before n i buffer several fits some within =
    let at : drop (i - 1) (slice_set buffer (i - 1) (48 + n % 10)) ≡ (48 + n % 10) ∷ drop i buffer = first_set i buffer (48 + n % 10) some within in
    ap (λ more. decimal (n / 10) ++ more) at
    ∙ sym (append_assoc (decimal (n / 10)) ((48 + n % 10) ∷ []) (drop i buffer))
    ∙ ap (λ digits. digits ++ drop i buffer) (sym (decimal_step_wide n several fits))

pub length_within : (n : ℕ) → n < 2 ^ 128 → length (decimal n) ≤ 39
length_within n fits = length-decimal-le_wide 39 n (omega arith) (omega arith) (omega arith)
