-- Which bytes spell a number: its decimal alone.
use Rattle.std.proofs.Common.{◌≡◌, ℕ, suc, ◌+◌, ◌*◌, ◌/◌, ◌%◌, ◌^◌, ◌<◌, ◌≤◌, ℤ, pos, negsuc, List, [], ◌∷◌, ◌++◌, length, get_or, refl, sym, ap, ◌∙◌, subst, arith, append_assoc, to_z, of_z, ◌≤ℤ◌}
use Rattle.std.specs.Int.{w128}
use Rattle.std.proofs.lemmas.Int.{ints, to_z-of_z, fits_signed_from_abs}
use Rattle.std.specs.Prelude.{unsigned_abs}
use Rattle.std.specs.Char.{digit_value}
use Rattle.std.specs.Str.Parse.{AllDigits, digits_value, digits_value_after}
use Rattle.std.specs.Fmt.{decimal, signed_decimal}
use Rattle.std.proofs.lemmas.List.{append-nil}
use Rattle.std.proofs.lemmas.Str.{digit_value_digit}
use Rattle.std.proofs.lemmas.Str.Parse.{digit_from_value}
use Rattle.std.proofs.lemmas.Fmt.{decimal_digit, decimal_step_wide, decimal_by_steps_wide, decimal_is_IsNumeral_wide}
use Rattle.jesc_text.specs.Numbers.{IsNatural, IsNumber}
use Rattle.jesc_cert.specs.Inner.{IsWithin, Without}

-- ---- from digits to a number's decimal

le_value_after : (n : ℕ) (ds : List ℕ) → n ≤ digits_value_after 10 n ds
le_value_after n [] = omega arith
le_value_after n (c ∷ cs) = omega (arith, le_value_after (n * 10 + digit_value c) cs)

value_after : (n : ℕ) (ds : List ℕ) → 0 < n → AllDigits 10 ds → digits_value_after 10 n ds < 10 ^ 64 → decimal (digits_value_after 10 n ds) ≡ decimal n ++ ds
value_after n [] some d small = sym (append-nil (decimal n))
value_after n (c ∷ cs) some d small =
    let m : ℕ = n * 10 + digit_value c in
    let k = digit_value_digit c (digit_from_value c d.0) in
    let front : m / 10 ≡ n = omega (arith, d.0) in
    let end : 48 + m % 10 ≡ c = omega (arith, d.0) in
    value_after m cs (omega arith) d.1 small
    ∙ ap (λ x. x ++ cs) (decimal_step_wide m (omega arith) (omega (arith, le_value_after m cs)) ∙ (λ i. decimal (front i) ++ (end i ∷ [])))
    ∙ append_assoc (decimal n) (c ∷ []) cs

value_digits : (ds : List ℕ) → AllDigits 10 ds → 0 < length ds → (get_or ds 0 0 ≡ 48 → length ds ≡ 1) → digits_value 10 ds < 10 ^ 64 → decimal (digits_value 10 ds) ≡ ds
value_digits [] d some lead small = absurd (omega arith)
value_digits (c ∷ []) d some lead small =
    let k = digit_value_digit c (digit_from_value c d.0) in
    decimal_digit (0 * 10 + digit_value c) (omega (arith, d.0)) ∙ ap (λ x. x ∷ []) (omega arith)
value_digits (c ∷ e ∷ cs) d some lead small =
    let k = digit_value_digit c (digit_from_value c d.0) in
    let no : c ≡ 48 → ⊥ = λ z. omega (arith, lead z) in
    let is : 48 + (0 * 10 + digit_value c) ≡ c = omega arith in
    value_after (0 * 10 + digit_value c) (e ∷ cs) (omega arith) d.1 small
    ∙ ap (λ x. x ++ (e ∷ cs)) (decimal_digit (0 * 10 + digit_value c) (omega (arith, d.0)) ∙ ap (λ x. x ∷ []) is)

natural_text : (bytes : List ℕ) (n : ℕ) → IsNatural bytes → digits_value 10 bytes ≡ n → n ≤ 2 ^ 126 → bytes ≡ decimal n
natural_text bytes n natural value small =
    sym (value_digits bytes natural.digits natural.some (λ e. lead e) (omega (arith, value, small))) ∙ ap decimal value
  where
    one : (k : ℕ) → 0 < k → (1 < k → ⊥) → k ≡ 1
    one k p q = grind arith

    lead : get_or bytes 0 0 ≡ 48 → length bytes ≡ 1
    lead e = one (length bytes) natural.some (λ l. natural.front l e)

-- ---- from a number to its digits

shape : (n : ℕ) → n < 10 ^ 64 → (0 < length (decimal n)) × (0 < n → 48 < get_or (decimal n) 0 0) × (n < 10 → length (decimal n) ≡ 1)
shape n small = decimal_by_steps_wide (λ m ds. (0 < length ds) × (0 < m → 48 < get_or ds 0 0) × (m < 10 → length ds ≡ 1)) (λ m l. (omega arith, λ a. omega arith, λ a. refl)) more n small
  where
    more : (m : ℕ) (ds : List ℕ) → 10 ≤ m → (0 < length ds) × (0 < m / 10 → 48 < get_or ds 0 0) × (m / 10 < 10 → length ds ≡ 1)
        → (0 < length (ds ++ ((48 + m % 10) ∷ []))) × (0 < m → 48 < get_or (ds ++ ((48 + m % 10) ∷ [])) 0 0) × (m < 10 → length (ds ++ ((48 + m % 10) ∷ [])) ≡ 1)
    more m [] ten h = absurd (omega (arith, h.0))
    more m (d ∷ ds) ten h = (omega arith, (λ a. h.1 (omega arith)), (λ a. absurd (omega (arith, a))))

natural_of : (n : ℕ) → n ≤ 2 ^ 126 → IsNatural (decimal n)
natural_of n small = record {
  digits = (decimal_is_IsNumeral_wide n fits).0.1;
  some = (shape n fits).0;
  front = λ l e. front l e;
}
  where
    fits : n < 10 ^ 64
    fits = omega (arith, small)

    front : 1 < length (decimal n) → get_or (decimal n) 0 0 ≡ 48 → ⊥
    front l e =
        let s = shape n fits in
        let large : n < 10 → ⊥ = λ a. omega (arith, l, s.2 a) in
        let first : 48 < get_or (decimal n) 0 0 = s.1 (grind arith) in
        omega (arith, first, e)

value_of : (n : ℕ) → n ≤ 2 ^ 126 → digits_value 10 (decimal n) ≡ n
value_of n small = (decimal_is_IsNumeral_wide n (omega (arith, small))).1

-- ---- numbers with a sign

pub number_text : (bytes : List ℕ) (z : ℤ) → IsNumber bytes z → (bytes ≡ signed_decimal z) × IsWithin z
number_text bytes (pos n) h = (natural_text bytes n h.0 h.1 h.2, h.2)
number_text [] (negsuc n) h = absurd (omega (arith, h.1.some))
number_text (b ∷ bytes) (negsuc n) h =
    ((λ i. h.0 i ∷ natural_text bytes (suc n) h.1 (omega (arith, h.2)) (omega (arith, h.3)) i), omega (arith, h.3))

pub text_number : (z : ℤ) → IsWithin z → IsNumber (signed_decimal z) z
text_number (pos n) h = (natural_of n h, value_of n h, h)
text_number (negsuc n) h = (refl, natural_of (suc n) h, omega (arith, value_of (suc n) h), omega (arith, h))

-- ---- bytes that are in no number

without_digits : (b : ℕ) → b < 45 → (ds : List ℕ) → AllDigits 10 ds → Without b ds
without_digits b small [] d = tt
without_digits b small (c ∷ cs) d = ((λ e. omega (arith, digit_from_value c d.0, e)), without_digits b small cs d.1)

pub number_without : (b : ℕ) → b < 45 → (z : ℤ) → IsWithin z → Without b (signed_decimal z)
number_without b small (pos n) h = without_digits b small (decimal n) (natural_of n h).digits
number_without b small (negsuc n) h = ((λ e. omega (arith, e)), without_digits b small (decimal (suc n)) (natural_of (suc n) h).digits)

-- ---- one number alone

not_minus : (ds : List ℕ) → IsNatural ds → get_or ds 0 0 ≡ 45 → ⊥
not_minus [] h e = omega (arith, h.some)
not_minus (c ∷ cs) h e = omega (arith, digit_from_value c h.digits.0, e)

pub number_unique : (bytes : List ℕ) (y z : ℤ) → IsNumber bytes y → IsNumber bytes z → y ≡ z
number_unique bytes (pos m) (pos n) p q = ap pos (sym p.1 ∙ q.1)
number_unique bytes (pos m) (negsuc n) p q = absurd (not_minus bytes p.0 q.0)
number_unique bytes (negsuc m) (pos n) p q = absurd (not_minus bytes q.0 p.0)
number_unique bytes (negsuc m) (negsuc n) p q = ap negsuc (omega (arith, p.2, q.2))

pub natural_is : (bytes : List ℕ) (z : ℤ) (n : ℕ) → IsNumber bytes z → n ≤ 2 ^ 126 → bytes ≡ decimal n → z ≡ pos n
natural_is bytes z n h small e = number_unique bytes z (pos n) h (subst (λ b. IsNumber b (pos n)) (sym e) (text_number (pos n) small))

pub natural_text_of : (bytes : List ℕ) (z : ℤ) → IsNumber bytes z → pos 0 ≤ℤ z → bytes ≡ decimal (unsigned_abs z)
natural_text_of bytes (pos n) h p = (number_text bytes (pos n) h).0
natural_text_of bytes (negsuc n) h p = absurd (omega (arith, ints, p))

pub wide : (z : ℤ) → IsWithin z → to_z w128 (of_z w128 z) ≡ z
wide z p = to_z-of_z w128 z (fits_signed_from_abs w128 z (omega (arith, p)))
