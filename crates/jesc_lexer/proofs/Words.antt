use Rattle.std.proofs.Common.{◌≡◌, ◌<◌, ℕ, ◌+◌, List, [], ◌∷◌, ◌++◌, length, refl, sym, ap, ◌∙◌, subst, arith, Bool, true, false, suc, get_or, Some, None, ◌||◌, ◌==◌, nat_lt, lt-ltb, length-append, encode_utf8, encode_utf8_all}
use Rattle.std.specs.List.{prefix_len, take_while}
use Rattle.std.specs.Char.{is_ascii_alphabetic, len_utf8}
use Rattle.std.specs.Str.{IsUtf8, chars, chars_after}
use Rattle.std.proofs.lemmas.Str.{chars-nil, chars_past_char, encodes-chars, IsUtf8-past_char, encode_ascii, length-encode}
use Rattle.std.proofs.lemmas.List.Sums.{take_while-cons}
use Rattle.std.proofs.lemmas.Bool.Decides.{nat_tests}
use Rattle.unicode_ident.proofs.IdentLemmas.{is_xid_start-ascii, is_xid_continue-ascii}
use Rattle.jesc_lexer.specs.Characters.{is_word_start, is_word_part, is_ascii_word_part, begins, first_of}
use Rattle.jesc_lexer.specs.Lexemes.{word_len}

chars_on : (bytes : List ℕ) (b : ℕ) → chars_after 0 b bytes ≡ b ∷ chars bytes
unfolding chars
chars_on [] b = refl
chars_on (c ∷ bytes) b = refl

-- a byte of ASCII is a character
pub chars_ascii : (b : ℕ) (bytes : List ℕ) → b < 128 → chars (b ∷ bytes) ≡ b ∷ chars bytes
unfolding chars
chars_ascii b bytes ascii =
    let low : nat_lt b 128 ≡ true = lt-ltb b 128 ascii in
    rw (low) (chars_on bytes b)

pub starts_ascii : (bytes : List ℕ) → 0 < length bytes → get_or bytes 0 0 < 128
    → begins is_word_start (chars bytes) ≡ (is_ascii_alphabetic (get_or bytes 0 0) || (get_or bytes 0 0 == 95) || (get_or bytes 0 0 == 36))
starts_ascii [] some ascii = absurd (omega arith)
starts_ascii (b ∷ bytes) some ascii = rw (chars_ascii b bytes ascii, is_xid_start-ascii b ascii) refl

firsts : (xs : List ℕ) (c : ℕ) → first_of xs ≡ Some c → (ys : List ℕ) × (xs ≡ c ∷ ys)
firsts [] c first = absurd (cc)
firsts (x ∷ xs) c first = let same : x ≡ c = cc in (xs, ap (λ y. y ∷ xs) same)

-- the first character of a text, and what follows it
pub record Past (text : List ℕ) (c : ℕ) : Type 0 where
  pub rest : List ℕ
  pub spelled : text ≡ encode_utf8 c ++ rest
  pub others : chars text ≡ c ∷ chars rest
  pub utf8 : IsUtf8 rest

pub past_first : (text : List ℕ) (c : ℕ) → IsUtf8 text → first_of (chars text) ≡ Some c → Past text c
past_first text c utf8 first =
    let cut = firsts (chars text) c first in
    let spelled : text ≡ encode_utf8 c ++ encode_utf8_all cut.0 = sym (encodes-chars text utf8) ∙ ap encode_utf8_all cut.1 in
    record {
      rest = encode_utf8_all cut.0;
      spelled = spelled;
      others = chars_past_char text (encode_utf8_all cut.0) c utf8 spelled;
      utf8 = IsUtf8-past_char text (encode_utf8_all cut.0) c utf8 spelled;
    }

-- a character that goes on with a word is counted
pub word_len_more : (text : List ℕ) (c : ℕ) (past : Past text c) → is_word_part c ≡ true → word_len text ≡ len_utf8 c + word_len past.rest
unfolding word_len
word_len_more text c past goes =
    ap (λ cs. length (encode_utf8_all (take_while is_word_part cs))) past.others
    ∙ rw (take_while-cons, goes) (length-append (encode_utf8 c) (encode_utf8_all (take_while is_word_part (chars past.rest))) ∙ ap (λ n. n + length (encode_utf8_all (take_while is_word_part (chars past.rest)))) (length-encode c))

-- another ends it
pub word_len_stops : (text : List ℕ) (c : ℕ) → first_of (chars text) ≡ Some c → is_word_part c ≡ false → word_len text ≡ 0
unfolding word_len
word_len_stops text c first stops =
    let cut = firsts (chars text) c first in
    ap (λ cs. length (encode_utf8_all (take_while is_word_part cs))) cut.1 ∙ rw (take_while-cons, stops) refl

pub word_len_none : (text : List ℕ) → first_of (chars text) ≡ None → word_len text ≡ 0
unfolding word_len
word_len_none text none = let empty = no_first (chars text) none in ap (λ cs. length (encode_utf8_all (take_while is_word_part cs))) empty
  where
    no_first : (xs : List ℕ) → first_of xs ≡ None → xs ≡ []
    no_first [] none = refl
    no_first (x ∷ xs) none = absurd (cc)

part_ascii : (b : ℕ) → b < 128 → is_word_part b ≡ is_ascii_word_part b
part_ascii b ascii = rw (is_xid_continue-ascii b ascii) refl

ascii_part : (b : ℕ) → is_ascii_word_part b ≡ true → b < 128
ascii_part b part = grind (arith, nat_tests)

-- bytes of ASCII up to one that ends a word, or up to the end of the text
ascii_step : (b : ℕ) (text : List ℕ) (v : Bool) → is_ascii_word_part b ≡ v → (v ≡ false → b < 128)
    → (v ≡ true → word_len text ≡ prefix_len is_ascii_word_part text) → word_len (b ∷ text) ≡ prefix_len is_ascii_word_part (b ∷ text)
unfolding word_len
ascii_step b text true part stop rest =
    let ascii : b < 128 = ascii_part b part in
    let goes : is_word_part b ≡ true = part_ascii b ascii ∙ part in
    ap (λ cs. length (encode_utf8_all (take_while is_word_part cs))) (chars_ascii b text ascii)
    ∙ rw (take_while-cons, goes, part) (length-append (encode_utf8 b) (encode_utf8_all (take_while is_word_part (chars text))) ∙ rw (encode_ascii b ascii) (ap (λ n. 1 + n) (rest refl)))
ascii_step b text false part stop rest =
    let ascii : b < 128 = stop refl in
    let stops : is_word_part b ≡ false = part_ascii b ascii ∙ part in
    ap (λ cs. length (encode_utf8_all (take_while is_word_part cs))) (chars_ascii b text ascii)
    ∙ rw (take_while-cons, stops, part) refl

pub word_len_ascii : (text : List ℕ) → (prefix_len is_ascii_word_part text < length text → get_or text (prefix_len is_ascii_word_part text) 0 < 128)
    → word_len text ≡ prefix_len is_ascii_word_part text
word_len_ascii [] stop = word_len_none [] (ap first_of chars-nil)
word_len_ascii (b ∷ text) stop =
    ascii_step b text (is_ascii_word_part b) refl
    (λ other. let here = rw other at stop in here (omega arith))
    (λ part. let later = rw part at stop in word_len_ascii text (λ more. later_byte b text (later (omega (arith, more)))))
  where
    later_byte : (b : ℕ) (text : List ℕ) → get_or (b ∷ text) (1 + prefix_len is_ascii_word_part text) 0 < 128 → get_or text (prefix_len is_ascii_word_part text) 0 < 128
    later_byte b text h = let next : 1 + prefix_len is_ascii_word_part text ≡ suc (prefix_len is_ascii_word_part text) = omega arith in subst (λ n. get_or (b ∷ text) n 0 < 128) next h
