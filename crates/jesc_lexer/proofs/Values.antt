-- The value of digits, one byte at a time.
use Rattle.std.proofs.Common.{◌≡◌, ◌≤◌, ◌<◌, ◌+◌, ◌*◌, ◌-◌, ◌^◌, ℕ, List, length, take, get_or, arith, Bool, true, false, cond, ap, ◌∙◌, filter, [], ◌∷◌, ◌++◌, refl, sym}
use Rattle.std.specs.Char.{is_ascii_digit, digit_value}
use Rattle.std.specs.Str.Parse.{digits_value, digits_value_after}
use Rattle.std.proofs.lemmas.Bool.Decides.{nat_tests}
use Rattle.std.proofs.lemmas.List.{append-nil}
use Rattle.std.proofs.lemmas.List.Elements.{filter_more}
use Rattle.jesc_lexer.specs.Lexemes.{digits_value_of}

-- what is known of a sum of the first i bytes that stops growing beyond the limit
pub record Sums (limit value : ℕ) (bytes : List ℕ) (i : ℕ) : Type 0 where
  pub limited : limit ≤ 2 ^ 63
  pub small : value ≤ limit * 10 + 9
  pub within : digits_value_of (take i bytes) ≤ limit → value ≡ digits_value_of (take i bytes)
  pub beyond : limit < digits_value_of (take i bytes) → limit < value

pub value_skips : (bytes : List ℕ) (i : ℕ) → i < length bytes → is_ascii_digit (get_or bytes i 0) ≡ false → digits_value_of (take (i + 1) bytes) ≡ digits_value_of (take i bytes)
value_skips bytes i within other =
    let more : filter is_ascii_digit (take (i + 1) bytes) ≡ filter is_ascii_digit (take i bytes) ++ cond (is_ascii_digit (get_or bytes i 0)) (get_or bytes i 0 ∷ []) [] = filter_more is_ascii_digit bytes i 0 within in
    ap (digits_value 10) ((rw other at more) ∙ append-nil (filter is_ascii_digit (take i bytes)))

pushed : (ds : List ℕ) (d n : ℕ) → digits_value_after 10 n (ds ++ d ∷ []) ≡ digits_value_after 10 n ds * 10 + digit_value d
pushed [] d n = refl
pushed (e ∷ ds) d n = pushed ds d (n * 10 + digit_value e)

digit_is : (b : ℕ) → is_ascii_digit b ≡ true → digit_value b ≡ b - 48
digit_is b digit = grind (arith, nat_tests)

pub value_grows : (bytes : List ℕ) (i : ℕ) → i < length bytes → is_ascii_digit (get_or bytes i 0) ≡ true
    → digits_value_of (take (i + 1) bytes) ≡ digits_value_of (take i bytes) * 10 + (get_or bytes i 0 - 48)
value_grows bytes i within digit =
    let more : filter is_ascii_digit (take (i + 1) bytes) ≡ filter is_ascii_digit (take i bytes) ++ cond (is_ascii_digit (get_or bytes i 0)) (get_or bytes i 0 ∷ []) [] = filter_more is_ascii_digit bytes i 0 within in
    ap (digits_value 10) (rw digit at more)
    ∙ pushed (filter is_ascii_digit (take i bytes)) (get_or bytes i 0) 0
    ∙ ap (λ d. digits_value_of (take i bytes) * 10 + d) (digit_is (get_or bytes i 0) digit)

-- a byte that is passed over
pub skips : (limit value : ℕ) (bytes : List ℕ) (i : ℕ) → i < length bytes → is_ascii_digit (get_or bytes i 0) ≡ false → Sums limit value bytes i → Sums limit value bytes (i + 1)
skips limit value bytes i within other sums =
    let same = value_skips bytes i within other in
    record { limited = sums.limited; small = sums.small; within = λ h. sums.within (omega (arith, same, h)) ∙ sym same; beyond = λ h. sums.beyond (omega (arith, same, h)) }

pub stays : (limit value : ℕ) (bytes : List ℕ) (i : ℕ) → i < length bytes → limit < value → Sums limit value bytes i → Sums limit value bytes (i + 1)
stays limit value bytes i within past sums = by_digit (is_ascii_digit (get_or bytes i 0)) refl
  where
    by_digit : (v : Bool) → is_ascii_digit (get_or bytes i 0) ≡ v → Sums limit value bytes (i + 1)
    by_digit false other = skips limit value bytes i within other sums
    by_digit true digit =
        let more = value_grows bytes i within digit in
        record {
          limited = sums.limited;
          small = sums.small;
          within = λ h. let low : digits_value_of (take i bytes) ≤ limit = omega (arith, more, h) in absurd (omega (arith, sums.within low, past));
          beyond = λ h. past;
        }

low_from : (sum limit value : ℕ) → (limit < sum → limit < value) → value ≤ limit → sum ≤ limit
low_from sum limit value beyond low = grind arith

pub grows : (limit value : ℕ) (bytes : List ℕ) (i : ℕ) → i < length bytes → is_ascii_digit (get_or bytes i 0) ≡ true → value ≤ limit → Sums limit value bytes i → Sums limit (value * 10 + (get_or bytes i 0 - 48)) bytes (i + 1)
grows limit value bytes i within digit low sums =
    let more = value_grows bytes i within digit in
    let small : get_or bytes i 0 - 48 ≤ 9 = small_digit (get_or bytes i 0) digit in
    let known : digits_value_of (take i bytes) ≤ limit = low_from (digits_value_of (take i bytes)) limit value sums.beyond low in
    let same = sums.within known in
    record {
      limited = sums.limited;
      small = omega (arith, low, small);
      within = λ h. ap (λ n. n * 10 + (get_or bytes i 0 - 48)) same ∙ sym more;
      beyond = λ h. omega (arith, h, more, same);
    }
  where
    small_digit : (b : ℕ) → is_ascii_digit b ≡ true → b - 48 ≤ 9
    small_digit b d = grind (arith, nat_tests)
