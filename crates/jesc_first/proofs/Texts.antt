-- Texts that are numbers.
use Rattle.std.proofs.Common.{◌≡◌, ◌≢◌, ℕ, ◌<◌, ◌≤◌, ◌^◌, List, length, get_or, suc, zero, refl, sym, ap, ◌∙◌, arith, pos, negsuc, ℤ}
use Rattle.std.specs.Fmt.{decimal}
use Rattle.std.specs.Str.Parse.{AllDigits, digits_value}
use Rattle.std.proofs.lemmas.Str.Parse.{IsNumeralModel}
use Rattle.std.proofs.lemmas.Fmt.{decimal-digits_value}
use Rattle.std.proofs.lemmas.Int.{ints}
use mir.Syntax.{w128}
use mir.Val.{SFits}
use Rattle.jesc_text.specs.Numbers.{IsNumber}

own : IsNumeralModel (AllDigits 10) (digits_value 10)
own = record { to = λ ds h. h; from = λ ds h. h; same = λ ds h. refl }

pub number_is : (text : List ℕ) (z : ℤ) (m : ℕ) → IsNumber text z → z ≡ pos m → m ≤ 2147483647 → text ≡ decimal m
number_is text (pos n) m h e b =
    let same : n ≡ m = cc in
    let value : digits_value 10 text ≡ m = h.1 ∙ same in
    let text_is : decimal (digits_value 10 text) ≡ text = decimal-digits_value own text h.0.digits h.0.some (λ (first : get_or text 0 0 ≡ 48). no_zero (h.0.front) first (h.0.some)) (omega (arith, value)) in
    sym text_is ∙ ap decimal value
  where
    no_zero : (1 < length text → get_or text 0 0 ≢ 48) → get_or text 0 0 ≡ 48 → 0 < length text → length text ≡ 1
    no_zero front first some = by (length text) refl
      where
        by : (n : ℕ) → length text ≡ n → length text ≡ 1
        by zero e = absurd (omega arith)
        by (suc zero) e = e
        by (suc (suc n)) e = absurd (front (omega arith) first)
number_is text (negsuc n) m h e b = absurd (cc)

pub number_fits : (text : List ℕ) (z : ℤ) → IsNumber text z → SFits w128 z
number_fits text (pos n) h = let b : n ≤ 2 ^ 126 = h.2 in omega (arith, ints)
number_fits text (negsuc n) h = let b : suc n ≤ 2 ^ 126 = omega (arith, h.3) in omega (arith, ints)
