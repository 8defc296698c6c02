-- Each piece of a text ends where a character begins, or at the end of the text.
use Rattle.std.proofs.Common.{◌≡◌, ◌≤◌, ◌<◌, ℕ, ◌+◌, ◌-◌, List, [], ◌∷◌, length, drop, take, subst, arith, Bool, true, false, cond, zero, suc, get_or, nat_eq, codes}
use Rattle.std.specs.List.{prefix_len, suffix_len, starts_with}
use Rattle.std.specs.Char.{is_ascii_digit}
use Rattle.std.specs.Str.{IsUtf8, IsCharBoundary}
use Rattle.std.proofs.lemmas.Str.{IsCharBoundary-start, IsCharBoundary-after_ascii}
use Rattle.std.proofs.lemmas.List.Sums.{prefix_len_passes, prefix_len-le-length}
use Rattle.std.proofs.lemmas.Bool.Decides.{nat_tests}
use Rattle.jesc_lexer.specs.Characters.{is_underscore, is_digit_part, is_suffix, begins}
use Rattle.jesc_lexer.specs.Lexemes.{digits_len}

pub ascii_edge : (text : List ℕ) (n : ℕ) → IsUtf8 text → n ≤ length text → ((k : ℕ) → k < n → get_or text k 0 < 128) → IsCharBoundary text n
ascii_edge text zero utf8 within ascii = IsCharBoundary-start text utf8
ascii_edge text (suc n) utf8 within ascii =
    let next : n + 1 ≡ suc n = omega arith in
    subst (λ k. IsCharBoundary text k) next (IsCharBoundary-after_ascii text n utf8 (omega arith) (ascii n (omega arith)))

-- a run of bytes of ASCII
pub run_ascii : (p : ℕ → Bool) (text : List ℕ) → ((b : ℕ) → p b ≡ true → b < 128) → (k : ℕ) → k < prefix_len p text → get_or text k 0 < 128
run_ascii p text ascii k within = ascii (get_or text k 0) (prefix_len_passes p text k 0 within)

pub run_edge : (p : ℕ → Bool) (text : List ℕ) → IsUtf8 text → ((b : ℕ) → p b ≡ true → b < 128) → IsCharBoundary text (prefix_len p text)
run_edge p text utf8 ascii = ascii_edge text (prefix_len p text) utf8 (prefix_len-le-length p text) (run_ascii p text ascii)

pub begins_first : (p : ℕ → Bool) (text : List ℕ) → begins p text ≡ true → (0 < length text) × (p (get_or text 0 0) ≡ true)
begins_first p [] first = absurd (cc)
begins_first p (b ∷ text) first = (omega arith, first)

pub begins_at : (p : ℕ → Bool) (text : List ℕ) (n : ℕ) → begins p (drop n text) ≡ true → (n < length text) × (p (get_or text n 0) ≡ true)
begins_at p text zero first = begins_first p text first
begins_at p [] (suc n) first = absurd (cc)
begins_at p (b ∷ text) (suc n) first = let rest = begins_at p text n first in (omega (arith, rest.0), rest.1)

digit_part_ascii : (b : ℕ) → is_digit_part b ≡ true → b < 128
digit_part_ascii b part = grind (arith, nat_tests)

digit_ascii : (b : ℕ) → is_ascii_digit b ≡ true → b < 128
digit_ascii b digit = grind (arith, nat_tests)

suffix_ascii : (b : ℕ) → is_suffix b ≡ true → b < 128
suffix_ascii b digit = grind (arith, nat_tests)

pub digits_ascii : (text : List ℕ) → begins is_ascii_digit text ≡ true → (k : ℕ) → k < digits_len text → get_or text k 0 < 128
unfolding digits_len
digits_ascii text digit k within = by_zero (starts_with nat_eq text (codes "0")) within
  where
    run : ℕ
    run = prefix_len is_digit_part text

    by_zero : (v : Bool) → k < cond v 1 (prefix_len is_digit_part text - suffix_len is_underscore (take (prefix_len is_digit_part text) text)) → get_or text k 0 < 128
    by_zero true h = let front : zero ≡ k = omega arith in subst (λ j. get_or text j 0 < 128) front (digit_ascii (get_or text 0 0) (begins_first is_ascii_digit text digit).1)
    by_zero false h = run_ascii is_digit_part text digit_part_ascii k (omega (arith, h))

pub digits_edge : (text : List ℕ) → IsUtf8 text → begins is_ascii_digit text ≡ true → digits_len text ≤ length text → IsCharBoundary text (digits_len text)
digits_edge text utf8 digit within = ascii_edge text (digits_len text) utf8 within (digits_ascii text digit)

pub suffix_edge : (text : List ℕ) (n : ℕ) → IsUtf8 text → begins is_suffix (drop n text) ≡ true → IsCharBoundary text (n + 1)
suffix_edge text n utf8 suffix =
    let here = begins_at is_suffix text n suffix in
    IsCharBoundary-after_ascii text n utf8 here.0 (suffix_ascii (get_or text n 0) here.1)
