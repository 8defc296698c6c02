-- The token that begins a text is the longest that begins it: by what stands at the front, and by the byte behind it.
use Rattle.std.proofs.Common.{◌≡◌, ◌≤◌, ◌<◌, ℕ, ◌+◌, List, [], ◌∷◌, ◌++◌, length, drop, take, refl, sym, ap, ◌∙◌, subst, arith, Bool, true, false, not, cond, zero, suc, get_or, ◌||◌, ◌&&◌, ◌==◌, nat_eq, nat_lt, nat_le, encode_utf8, encode_utf8_all, inl, inr, ◌⊎◌, append_assoc, append-nil, length-append, length-drop, take-append-drop, None}
use Rattle.std.specs.List.{prefix_len, take_while, starts_with, list_all}
use Rattle.std.specs.Char.{is_ascii_digit, is_ascii_alphabetic, is_ascii_alphanumeric}
use Rattle.std.specs.Str.{IsUtf8, chars}
use Rattle.std.proofs.lemmas.Str.{IsUtf8-drop, IsUtf8-past_char, chars-append, chars_past_char, chars-nil, encodes-append}
use Rattle.std.proofs.lemmas.List.{get_or-take, drop-append-le, take-append-le, drop_more, length-take-le, get_or-append-add, get_or-drop}
use Rattle.std.proofs.lemmas.List.Sums.{take_while-cons, prefix_len-le-length}
use Rattle.std.proofs.lemmas.List.Folds.{list_all-append}
use Rattle.std.proofs.lemmas.Slice.Eq.{starts_is}
use Rattle.std.proofs.lemmas.Bool.{or_parts, or_left, and_parts}
use Rattle.std.proofs.lemmas.Bool.Decides.{nat_tests, Decides-eqb}
use Rattle.unicode_ident.specs.Ident.{is_xid_continue}
use Rattle.unicode_ident.proofs.IdentLemmas.{is_xid_continue-ascii}
use Rattle.jesc_lexer.specs.Characters.{is_word_start, is_word_part, is_backslash, is_backslash_part, is_digit_part, is_suffix, begins, first_of}
use Rattle.jesc_lexer.specs.Lexemes.{word_len, number_len, number_at, is_bad_number, number_limit, digits_value_of, digits_len, backslash_part_len, first_fit, signs_of, sign_len, sign_at, token_at}
use Rattle.jesc_lexer.specs.Longest.{IsNumberForm, IsSuffix}
use Rattle.jesc_lexer.specs.Inner.{Ends}
use Rattle.jesc_lexer.specs.Texts.{IsWordText, IsBackslashText, IsNumberText, AreDigits, IsBounded, IsOneOf}
use Rattle.jesc_lexer.specs.declared.token.TokenKind.{TokenKind}
use Rattle.jesc_lexer.specs.declared.token.TokenKind.TheVariants.{Word, Backslash, Number, Sign}
use Rattle.jesc_lexer.specs.declared.piece.Piece.{Piece}
use Rattle.jesc_lexer.specs.declared.piece.Piece.TheVariants.{Blank, Lexeme, Bad}
use Rattle.jesc_lexer.proofs.Edges.{begins_first}
use Rattle.jesc_lexer.proofs.KindTexts.{word_text, backslash_text, number_text, fit_text}
use Rattle.jesc_lexer.proofs.Steps.{below_is}
use Rattle.jesc_lexer.proofs.Words.{chars_ascii, starts_ascii}

-- a text of a kind, where `arrow` tells whether `<-` is a sign
abbrev pub IsForm : Bool → Bool → TokenKind → List ℕ → Type 0
IsForm note arrow Word own = IsWordText own
IsForm note arrow Backslash own = IsBackslashText own
IsForm note arrow Number own = IsNumberForm own
IsForm note arrow Sign own = IsOneOf (signs_of note arrow) own

-- what may stand directly behind the inside of an annotation: a line feed, a star or an at sign
abbrev pub is_stop : ℕ → Bool
is_stop c = (c == 10) || (c == 42) || (c == 64)

abbrev pub IsStopped : List ℕ → Type 0
IsStopped [] = Unit {0}
IsStopped (c ∷ more) = is_stop c ≡ true

-- ---- lists

pub begins-append : (p : ℕ → Bool) (xs ys : List ℕ) → begins p xs ≡ true → begins p (xs ++ ys) ≡ true
begins-append p [] ys first = absurd (cc)
begins-append p (x ∷ xs) ys first = first

begins-append_no : (p : ℕ → Bool) (xs ys : List ℕ) → begins p xs ≡ false → begins p ys ≡ false → begins p (xs ++ ys) ≡ false
begins-append_no p [] ys none other = other
begins-append_no p (x ∷ xs) ys none other = none

pub begins_of_take : (p : ℕ → Bool) (m : ℕ) (xs : List ℕ) → begins p (take m xs) ≡ true → begins p xs ≡ true
begins_of_take p zero xs first = absurd (cc)
begins_of_take p (suc m) [] first = absurd (cc)
begins_of_take p (suc m) (x ∷ xs) first = first

all_at : (p : ℕ → Bool) (xs : List ℕ) (k : ℕ) → list_all p xs ≡ true → k < length xs → p (get_or xs k 0) ≡ true
all_at p [] k all within = absurd (omega arith)
all_at p (x ∷ xs) zero all within = (and_parts (p x) (list_all p xs) all).0
all_at p (x ∷ xs) (suc k) all within = all_at p xs k (and_parts (p x) (list_all p xs) all).1 (omega arith)

all_weaker : (p q : ℕ → Bool) (xs : List ℕ) → ((b : ℕ) → p b ≡ true → q b ≡ true) → list_all p xs ≡ true → list_all q xs ≡ true
all_weaker p q [] weaker all = refl
all_weaker p q (x ∷ xs) weaker all =
    let parts = and_parts (p x) (list_all p xs) all in rw (weaker x parts.0, all_weaker p q xs weaker parts.1) refl

pub run_stops : (p : ℕ → Bool) (xs : List ℕ) → begins p (drop (prefix_len p xs) xs) ≡ false
run_stops p [] = refl
run_stops p (x ∷ xs) = by_first (p x) refl (run_stops p xs)
  where
    by_first : (v : Bool) → p x ≡ v → begins p (drop (prefix_len p xs) xs) ≡ false → begins p (drop (cond v (1 + prefix_len p xs) 0) (x ∷ xs)) ≡ false
    by_first false fails rest = fails
    by_first true passes rest =
        let next : suc (prefix_len p xs) ≡ 1 + prefix_len p xs = omega arith in
        subst (λ n. begins p (drop n (x ∷ xs)) ≡ false) next rest

-- ---- characters behind others

begins_chars : (p : ℕ → Bool) (part behind : List ℕ) → IsUtf8 part → begins p (chars part) ≡ true → begins p (chars (part ++ behind)) ≡ true
begins_chars p part behind utf8 first = rw (chars-append part behind utf8) (begins-append p (chars part) (chars behind) first)

stopped_chars : (p : ℕ → Bool) (behind : List ℕ) → IsStopped behind → ((c : ℕ) → is_stop c ≡ true → p c ≡ false) → begins p (chars behind) ≡ false
stopped_chars p [] stopped fails = ap (begins p) chars-nil
stopped_chars p (c ∷ more) stopped fails = ap (begins p) (chars_ascii c more (stop_ascii c stopped)) ∙ fails c stopped
  where
    stop_ascii : (c : ℕ) → is_stop c ≡ true → c < 128
    stop_ascii c stop = grind (arith, nat_tests)

begins_chars_no : (p : ℕ → Bool) (part behind : List ℕ) → IsUtf8 part → IsStopped behind → ((c : ℕ) → is_stop c ≡ true → p c ≡ false)
    → begins p (chars part) ≡ false → begins p (chars (part ++ behind)) ≡ false
begins_chars_no p part behind utf8 stopped fails none = rw (chars-append part behind utf8) (begins-append_no p (chars part) (chars behind) none (stopped_chars p behind stopped fails))

begins_stopped : (p : ℕ → Bool) (behind : List ℕ) → IsStopped behind → ((c : ℕ) → is_stop c ≡ true → p c ≡ false) → begins p behind ≡ false
begins_stopped p [] stopped fails = refl
begins_stopped p (c ∷ more) stopped fails = fails c stopped

stop_is : (c : ℕ) (P : ℕ → Type 0) → is_stop c ≡ true → P 10 → P 42 → P 64 → P c
stop_is c P stop feed star sign = by (c == 10) (c == 42) refl refl stop
  where
    by : (u v : Bool) → (c == 10) ≡ u → (c == 42) ≡ v → (u || v || (c == 64)) ≡ true → P c
    by true v one two stop = let is : c ≡ 10 = grind (arith, nat_tests) in subst P (sym is) feed
    by false true one two stop = let is : c ≡ 42 = grind (arith, nat_tests) in subst P (sym is) star
    by false false one two stop = let is : c ≡ 64 = grind (arith, nat_tests) in subst P (sym is) sign

stop_no_continue : (c : ℕ) → is_stop c ≡ true → is_xid_continue c ≡ false
stop_no_continue c stop =
    stop_is c (λ b. is_xid_continue b ≡ false) stop (is_xid_continue-ascii 10 (omega arith)) (is_xid_continue-ascii 42 (omega arith)) (is_xid_continue-ascii 64 (omega arith))

stop_no_part : (c : ℕ) → is_stop c ≡ true → is_word_part c ≡ false
stop_no_part c stop =
    stop_is c (λ b. is_word_part b ≡ false) stop (rw (stop_no_continue 10 refl) refl) (rw (stop_no_continue 42 refl) refl) (rw (stop_no_continue 64 refl) refl)

stop_no_letter : (c : ℕ) → is_stop c ≡ true → is_backslash_part c ≡ false
stop_no_letter c stop = stop_is c (λ b. is_backslash_part b ≡ false) stop refl refl refl

-- ---- words

-- the characters of a text that begins with the spelling of some
chars_of : (cs rest text : List ℕ) → IsUtf8 text → text ≡ encode_utf8_all cs ++ rest → chars text ≡ cs ++ chars rest
chars_of [] rest text utf8 spells = ap chars spells
chars_of (c ∷ cs) rest text utf8 spells =
    let cut : text ≡ encode_utf8 c ++ (encode_utf8_all cs ++ rest) = spells ∙ append_assoc (encode_utf8 c) (encode_utf8_all cs) rest in
    chars_past_char text (encode_utf8_all cs ++ rest) c utf8 cut
    ∙ ap (λ l. c ∷ l) (chars_of cs rest (encode_utf8_all cs ++ rest) (IsUtf8-past_char text (encode_utf8_all cs ++ rest) c utf8 cut) refl)

while_more : (p : ℕ → Bool) (cs ds : List ℕ) → list_all p cs ≡ true → take_while p (cs ++ ds) ≡ cs ++ take_while p ds
while_more p [] ds all = refl
while_more p (c ∷ cs) ds all =
    let parts = and_parts (p c) (list_all p cs) all in
    take_while-cons p c (cs ++ ds) ∙ rw (parts.0) (ap (λ l. c ∷ l) (while_more p cs ds parts.1))

while_stops : (p : ℕ → Bool) (cs ds : List ℕ) → begins p ds ≡ false → take_while p (cs ++ ds) ≡ take_while p cs
while_stops p [] [] none = refl
while_stops p [] (d ∷ ds) none = take_while-cons p d ds ∙ rw none refl
while_stops p (c ∷ cs) ds none = take_while-cons p c (cs ++ ds) ∙ ap (λ l. cond (p c) (c ∷ l) []) (while_stops p cs ds none) ∙ sym (take_while-cons p c cs)

word_longest : (text : List ℕ) (m : ℕ) → IsUtf8 text → m ≤ length text → IsWordText (take m text) → m ≤ word_len text
unfolding word_len
word_longest text m utf8 within word =
    let cs = word.characters in
    let whole : text ≡ encode_utf8_all cs ++ drop m text = sym (take-append-drop m text) ∙ ap (λ l. l ++ drop m text) (sym word.spells) in
    let found : take_while is_word_part (chars text) ≡ cs ++ take_while is_word_part (chars (drop m text)) = ap (take_while is_word_part) (chars_of cs (drop m text) text utf8 whole) ∙ while_more is_word_part cs (chars (drop m text)) word.goes in
    let others = encode_utf8_all (take_while is_word_part (chars (drop m text))) in
    let size : length (encode_utf8_all (take_while is_word_part (chars text))) ≡ length (encode_utf8_all cs) + length others = ap (λ l. length (encode_utf8_all l)) found ∙ ap length (encodes-append cs (take_while is_word_part (chars (drop m text)))) ∙ length-append (encode_utf8_all cs) others in
    let own : length (encode_utf8_all cs) ≡ m = ap length word.spells ∙ length-take-le m text within in
    omega (arith, size, own)

word_stays : (rest behind : List ℕ) → IsUtf8 rest → IsStopped behind → word_len (rest ++ behind) ≡ word_len rest
unfolding word_len
word_stays rest behind utf8 stopped =
    ap (λ l. length (encode_utf8_all (take_while is_word_part l))) (chars-append rest behind utf8)
    ∙ ap (λ l. length (encode_utf8_all l)) (while_stops is_word_part (chars rest) (chars behind) (stopped_chars is_word_part behind stopped stop_no_part))

-- ---- numbers

abbrev is_number_byte : ℕ → Bool
is_number_byte b = is_digit_part b || is_suffix b

number_byte_continues : (b : ℕ) → is_number_byte b ≡ true → (b < 128) × (is_xid_continue b ≡ true)
number_byte_continues b one =
    let ascii : b < 128 = grind (arith, nat_tests) in
    let passes : (is_ascii_alphanumeric b || (b == 95)) ≡ true = grind (arith, nat_tests) in
    (ascii, is_xid_continue-ascii b ascii ∙ passes)

digits_bytes : (digits : List ℕ) → AreDigits digits → list_all is_number_byte digits ≡ true
digits_bytes digits (inl zeroed) = rw zeroed refl
digits_bytes digits (inr long) = all_weaker is_digit_part is_number_byte digits (λ b part. or_left (is_digit_part b) (is_suffix b) part) long.goes

suffix_bytes : (suffix : List ℕ) → IsSuffix suffix → list_all is_number_byte suffix ≡ true
suffix_bytes [] ended = refl
suffix_bytes (b ∷ []) ended = grind (arith, nat_tests)
suffix_bytes (b ∷ (c ∷ more)) ended = absurd ended

number_bytes : (text : List ℕ) → IsNumberForm text → list_all is_number_byte text ≡ true
number_bytes text form =
    rw (form.spells) (rw (list_all-append is_number_byte form.digits form.suffix) (rw (digits_bytes form.digits form.form, suffix_bytes form.suffix form.ended) refl))

number_starts : (text : List ℕ) → IsNumberForm text → begins is_ascii_digit text ≡ true
number_starts text form = rw (form.spells) (begins-append is_ascii_digit form.digits form.suffix (digits_start form.digits form.form))
  where
    digits_start : (digits : List ℕ) → AreDigits digits → begins is_ascii_digit digits ≡ true
    digits_start digits (inl zeroed) = rw zeroed refl
    digits_start digits (inr long) = long.starts

from_not_less : (n m : ℕ) → (n < m → ⊥) → m ≤ n
from_not_less n m h = grind arith

cut_at : (text : List ℕ) (n : ℕ) → n < length text → drop n text ≡ get_or text n 0 ∷ drop (n + 1) text
cut_at text n within = drop_more text n 0 within

number_longest : (text : List ℕ) (n m : ℕ) → begins is_xid_continue (chars (drop n text)) ≡ false → m ≤ length text → IsNumberForm (take m text) → m ≤ n
number_longest text n m apart within form = from_not_less n m longer
  where
    longer : n < m → ⊥
    longer less =
        let one : is_number_byte (get_or (take m text) n 0) ≡ true = all_at is_number_byte (take m text) n (number_bytes (take m text) form) (omega (arith, length-take-le m text within)) in
        let byte = number_byte_continues (get_or text n 0) (ap is_number_byte (sym (get_or-take m text n 0 less)) ∙ one) in
        let here : chars (drop n text) ≡ get_or text n 0 ∷ chars (drop (n + 1) text) = ap chars (cut_at text n (omega (arith, less, within))) ∙ chars_ascii (get_or text n 0) (drop (n + 1) text) byte.0 in
        let both : true ≡ false = sym byte.1 ∙ sym (ap (begins is_xid_continue) here) ∙ apart in cc

-- ---- backslash words

backslash_starts : (text : List ℕ) → IsBackslashText text → begins is_backslash text ≡ true
backslash_starts text form = ap (begins is_backslash) form.spells

backslash_longest : (text : List ℕ) (n m : ℕ) → 0 < n → begins is_backslash_part (drop n text) ≡ false → m ≤ length text → IsBackslashText (take m text) → m ≤ n
backslash_longest text zero m some stops within form = absurd (omega arith)
backslash_longest text (suc n) m some stops within form = from_not_less (suc n) m longer
  where
    longer : suc n < m → ⊥
    longer less =
        let size : m ≡ suc (length form.letters) = sym (length-take-le m text within) ∙ ap length form.spells in
        let one : is_backslash_part (get_or form.letters n 0) ≡ true = all_at is_backslash_part form.letters n form.goes (omega (arith, size, less)) in
        let same : get_or text (suc n) 0 ≡ get_or form.letters n 0 = sym (get_or-take m text (suc n) 0 less) ∙ ap (λ l. get_or l (suc n) 0) form.spells in
        let here = cut_at text (suc n) (omega (arith, less, within)) in
        let both : true ≡ false = sym one ∙ ap is_backslash_part (sym same) ∙ sym (ap (begins is_backslash_part) here) ∙ stops in cc

-- ---- signs

abbrev is_sign_first : ℕ → Bool
is_sign_first b = nat_lt b 128 && (not (is_ascii_digit b) && (not (is_backslash b) && not (is_ascii_alphabetic b || (b == 95) || (b == 36))))

-- a sign begins as no other token does, and none of its later bytes stands behind an annotation's inside
abbrev is_plain_sign : List ℕ → Bool
is_plain_sign sign = begins is_sign_first sign && list_all (λ b. not (is_stop b)) (drop 1 sign)

one_of_all : (q : List ℕ → Bool) (signs : List (List ℕ)) (sign : List ℕ) → list_all q signs ≡ true → IsOneOf signs sign → q sign ≡ true
one_of_all q [] sign all one = absurd one
one_of_all q (s ∷ signs) sign all (inl same) = rw same (and_parts (q s) (list_all q signs) all).0
one_of_all q (s ∷ signs) sign all (inr other) = one_of_all q signs sign (and_parts (q s) (list_all q signs) all).1 other

plain_sign : (note arrow : Bool) (sign : List ℕ) → IsOneOf (signs_of note arrow) sign → is_plain_sign sign ≡ true
plain_sign true true sign one = one_of_all is_plain_sign (signs_of true true) sign refl one
plain_sign true false sign one = one_of_all is_plain_sign (signs_of true false) sign refl one
plain_sign false true sign one = one_of_all is_plain_sign (signs_of false true) sign refl one
plain_sign false false sign one = one_of_all is_plain_sign (signs_of false false) sign refl one

sign_starts : (note arrow : Bool) (sign : List ℕ) → IsOneOf (signs_of note arrow) sign → begins is_sign_first sign ≡ true
sign_starts note arrow sign one = (and_parts (begins is_sign_first sign) (list_all (λ b. not (is_stop b)) (drop 1 sign)) (plain_sign note arrow sign one)).0

-- the longer ones first
abbrev falls : List (List ℕ) → Bool
falls [] = true
falls (sign ∷ signs) = list_all (λ s. nat_le (length s) (length sign)) signs && falls signs

is_fit : (text sign rest : List ℕ) → text ≡ sign ++ rest → starts_with nat_eq text sign ≡ true
is_fit text sign rest spells = (starts_is Decides-eqb text sign (starts_with nat_eq text sign) refl).1 rest spells

first_longest : (signs : List (List ℕ)) (text sign : List ℕ) → falls signs ≡ true → starts_with nat_eq text sign ≡ true → IsOneOf signs sign → length sign ≤ first_fit signs text
first_longest [] text sign falling fit one = absurd one
first_longest (s ∷ signs) text sign falling fit one = by_fit (starts_with nat_eq text s) refl one (first_longest signs text sign parts.1 fit)
  where
    parts : (list_all (λ t. nat_le (length t) (length s)) signs ≡ true) × (falls signs ≡ true)
    parts = and_parts (list_all (λ t. nat_le (length t) (length s)) signs) (falls signs) falling

    at_most : (k l : ℕ) → nat_le k l ≡ true → k ≤ l
    at_most k l h = grind (arith, nat_tests)

    by_fit : (v : Bool) → starts_with nat_eq text s ≡ v → (sign ≡ s) ⊎ IsOneOf signs sign → (IsOneOf signs sign → length sign ≤ first_fit signs text) → length sign ≤ cond v (length s) (first_fit signs text)
    by_fit true fits_it (inl same) later = omega (arith, ap length same)
    by_fit true fits_it (inr other) later = at_most (length sign) (length s) (one_of_all (λ t. nat_le (length t) (length s)) signs sign parts.0 other)
    by_fit false not_it (inl same) later = absurd (let both : true ≡ false = sym fit ∙ ap (starts_with nat_eq text) same ∙ not_it in cc)
    by_fit false not_it (inr other) later = later other

signs_fall : (note arrow : Bool) → falls (signs_of note arrow) ≡ true
signs_fall true true = refl
signs_fall true false = refl
signs_fall false true = refl
signs_fall false false = refl

-- no sign begins in the rest and ends behind it
sign_within : (note arrow : Bool) (rest behind : List ℕ) (m : ℕ) → 0 < length rest → IsStopped behind → m ≤ length (rest ++ behind)
    → IsOneOf (signs_of note arrow) (take m (rest ++ behind)) → m ≤ length rest
sign_within note arrow [] behind m some stopped within one = absurd (omega arith)
sign_within note arrow (b ∷ rest) [] m some stopped within one = omega (arith, within, ap length (append-nil (b ∷ rest)))
sign_within note arrow (b ∷ rest) (c ∷ behind) m some stopped within one = from_not_less (length (b ∷ rest)) m crosses
  where
    crosses : suc (length rest) < m → ⊥
    crosses less =
        let text = (b ∷ rest) ++ (c ∷ behind) in
        let tail = (and_parts (begins is_sign_first (take m text)) (list_all (λ x. not (is_stop x)) (drop 1 (take m text))) (plain_sign note arrow (take m text) one)).1 in
        let size = length-take-le m text within in
        let byte = all_at (λ x. not (is_stop x)) (drop 1 (take m text)) (length rest) tail (omega (arith, length-drop 1 (take m text), size, less)) in
        let next : 1 + length rest ≡ length (b ∷ rest) + 0 = omega arith in
        let less_still : length (b ∷ rest) + 0 < m = omega (arith, less) in
        let same : get_or (drop 1 (take m text)) (length rest) 0 ≡ c = get_or-drop 1 (take m text) (length rest) 0 ∙ ap (λ k. get_or (take m text) k 0) next ∙ get_or-take m text (length (b ∷ rest) + 0) 0 less_still ∙ get_or-append-add (b ∷ rest) (c ∷ behind) 0 0 in
        let both : true ≡ false = sym byte ∙ ap (λ x. not (is_stop x)) same ∙ ap not stopped in cc

-- ---- the front of a text, by the kind of its token

-- what the first byte or character tells
abbrev pub IsStart : TokenKind → List ℕ → Type 0
IsStart Word text = begins is_word_start (chars text) ≡ true
IsStart Backslash text = begins is_backslash text ≡ true
IsStart Number text = begins is_ascii_digit text ≡ true
IsStart Sign text = begins is_sign_first text ≡ true

start_of_form : (note arrow : Bool) (kind : TokenKind) (text : List ℕ) (m : ℕ) → IsUtf8 text → IsForm note arrow kind (take m text) → IsStart kind text
start_of_form note arrow Word text m utf8 form =
    let whole : text ≡ encode_utf8_all form.characters ++ drop m text = sym (take-append-drop m text) ∙ ap (λ l. l ++ drop m text) (sym form.spells) in
    ap (begins is_word_start) (chars_of form.characters (drop m text) text utf8 whole) ∙ begins-append is_word_start form.characters (chars (drop m text)) form.starts
start_of_form note arrow Backslash text m utf8 form = begins_of_take is_backslash m text (backslash_starts (take m text) form)
start_of_form note arrow Number text m utf8 form = begins_of_take is_ascii_digit m text (number_starts (take m text) form)
start_of_form note arrow Sign text m utf8 form = begins_of_take is_sign_first m text (sign_starts note arrow (take m text) form)

no_word : (p : ℕ → Bool) (text : List ℕ) → begins p text ≡ true
    → ((b : ℕ) → p b ≡ true → (b < 128) × ((is_ascii_alphabetic b || (b == 95) || (b == 36)) ≡ false)) → begins is_word_start (chars text) ≡ true → ⊥
no_word p text first ascii word =
    let front = begins_first p text first in
    let byte = ascii (get_or text 0 0) front.1 in
    let both : true ≡ false = sym word ∙ starts_ascii text front.0 byte.0 ∙ byte.1 in cc

backslash_no_word : (b : ℕ) → is_backslash b ≡ true → (b < 128) × ((is_ascii_alphabetic b || (b == 95) || (b == 36)) ≡ false)
backslash_no_word b one = (grind (arith, nat_tests), grind (arith, nat_tests))

digit_no_word : (b : ℕ) → is_ascii_digit b ≡ true → (b < 128) × ((is_ascii_alphabetic b || (b == 95) || (b == 36)) ≡ false)
digit_no_word b one = (grind (arith, nat_tests), grind (arith, nat_tests))

sign_no_word : (b : ℕ) → is_sign_first b ≡ true → (b < 128) × ((is_ascii_alphabetic b || (b == 95) || (b == 36)) ≡ false)
sign_no_word b one = (grind (arith, nat_tests), grind (arith, nat_tests))

apart_first : (p q : ℕ → Bool) (text : List ℕ) → ((b : ℕ) → p b ≡ true → q b ≡ true → ⊥) → begins p text ≡ true → begins q text ≡ true → ⊥
apart_first p q [] differ first other = cc
apart_first p q (b ∷ text) differ first other = differ b first other

digit_or_backslash : (b : ℕ) → is_ascii_digit b ≡ true → is_backslash b ≡ true → ⊥
digit_or_backslash b one other = grind (arith, nat_tests)

digit_or_sign : (b : ℕ) → is_ascii_digit b ≡ true → is_sign_first b ≡ true → ⊥
digit_or_sign b one other = grind (arith, nat_tests)

backslash_or_sign : (b : ℕ) → is_backslash b ≡ true → is_sign_first b ≡ true → ⊥
backslash_or_sign b one other = grind (arith, nat_tests)

same_kind : (one other : TokenKind) (text : List ℕ) → IsStart one text → IsStart other text → one ≡ other
same_kind Word Word text a b = refl
same_kind Word Backslash text a b = absurd (no_word is_backslash text b backslash_no_word a)
same_kind Word Number text a b = absurd (no_word is_ascii_digit text b digit_no_word a)
same_kind Word Sign text a b = absurd (no_word is_sign_first text b sign_no_word a)
same_kind Backslash Word text a b = absurd (no_word is_backslash text a backslash_no_word b)
same_kind Backslash Backslash text a b = refl
same_kind Backslash Number text a b = absurd (apart_first is_ascii_digit is_backslash text digit_or_backslash b a)
same_kind Backslash Sign text a b = absurd (apart_first is_backslash is_sign_first text backslash_or_sign a b)
same_kind Number Word text a b = absurd (no_word is_ascii_digit text a digit_no_word b)
same_kind Number Backslash text a b = absurd (apart_first is_ascii_digit is_backslash text digit_or_backslash a b)
same_kind Number Number text a b = refl
same_kind Number Sign text a b = absurd (apart_first is_ascii_digit is_sign_first text digit_or_sign a b)
same_kind Sign Word text a b = absurd (no_word is_sign_first text a sign_no_word b)
same_kind Sign Backslash text a b = absurd (apart_first is_backslash is_sign_first text backslash_or_sign b a)
same_kind Sign Number text a b = absurd (apart_first is_ascii_digit is_sign_first text digit_or_sign b a)
same_kind Sign Sign text a b = refl

-- what is known of the end of the token
abbrev pub IsEnd : Bool → Bool → TokenKind → List ℕ → ℕ → Type 0
IsEnd note arrow Word text n = word_len text ≡ n
IsEnd note arrow Backslash text n = (0 < n) × (begins is_backslash_part (drop n text) ≡ false)
IsEnd note arrow Number text n = begins is_xid_continue (chars (drop n text)) ≡ false
IsEnd note arrow Sign text n = (m : ℕ) → m ≤ length text → IsOneOf (signs_of note arrow) (take m text) → m ≤ n

pub record IsFront (note arrow : Bool) (kind : TokenKind) (text : List ℕ) (n : ℕ) : Type 0 where
  pub start : IsStart kind text
  pub end : IsEnd note arrow kind text n

longest_of : (note arrow : Bool) (kind : TokenKind) (text : List ℕ) (n m : ℕ) → IsUtf8 text → IsEnd note arrow kind text n → m ≤ length text → IsForm note arrow kind (take m text) → m ≤ n
longest_of note arrow Word text n m utf8 end within form = omega (arith, word_longest text m utf8 within form, end)
longest_of note arrow Backslash text n m utf8 end within form = backslash_longest text n m end.0 end.1 within form
longest_of note arrow Number text n m utf8 end within form = number_longest text n m end within form
longest_of note arrow Sign text n m utf8 end within form = end m within form

-- a token's text that begins there is of that kind and no longer
pub front_longest : (note arrow : Bool) (kind other : TokenKind) (text : List ℕ) (n m : ℕ) → IsUtf8 text → IsFront note arrow kind text n → m ≤ length text
    → IsForm note arrow other (take m text) → (other ≡ kind) × (m ≤ n)
front_longest note arrow kind other text n m utf8 front within form =
    let same : other ≡ kind = same_kind other kind text (start_of_form note arrow other text m utf8 form) front.start in
    (same, longest_of note arrow kind text n m utf8 front.end within (subst (λ k. IsForm note arrow k (take m text)) same form))

-- ---- what the reading takes is the front

-- the token of the rest is one of its kind, and with what stands behind it the front
abbrev IsTaken : Bool → Bool → List ℕ → List ℕ → Piece → Type 0
IsTaken note arrow rest behind (Blank n) = Unit {0}
IsTaken note arrow rest behind (Lexeme kind n) = Ends rest n → IsForm note arrow kind (take n rest) × IsFront note arrow kind (rest ++ behind) n
IsTaken note arrow rest behind (Bad number character) = Unit {0}

either_taken : (note arrow : Bool) (rest behind : List ℕ) (b : Bool) (x y : Piece) → (b ≡ true → IsTaken note arrow rest behind x) → (b ≡ false → IsTaken note arrow rest behind y)
    → IsTaken note arrow rest behind (cond b x y)
either_taken note arrow rest behind true x y first second = first refl
either_taken note arrow rest behind false x y first second = second refl

drop_behind : (rest behind : List ℕ) (n : ℕ) → n ≤ length rest → drop n (rest ++ behind) ≡ drop n rest ++ behind
drop_behind rest behind n within = drop-append-le n rest behind within

number_form : (text : List ℕ) → IsNumberText text → IsNumberForm text
number_form text number = record { digits = number.digits; suffix = number.suffix; spells = number.spells; form = number.form; ended = ended number.digits number.suffix number.bounded }
  where
    ended : (digits suffix : List ℕ) → IsBounded digits suffix → IsSuffix suffix
    ended digits [] bounded = tt
    ended digits (s ∷ []) bounded = bounded.0
    ended digits (s ∷ (t ∷ more)) bounded = bounded

number_taken : (note arrow : Bool) (rest behind : List ℕ) → IsUtf8 rest → IsStopped behind → begins is_ascii_digit rest ≡ true → is_bad_number rest ≡ false
    → IsTaken note arrow rest behind (Lexeme Number (number_len rest))
number_taken note arrow rest behind utf8 stopped digit good ends =
    let n = number_len rest in
    let plain = (or_parts (begins is_xid_continue (chars (drop n rest))) (nat_lt (number_limit rest) (digits_value_of (take (digits_len rest) rest))) good).0 in (
      number_form (take n rest) (number_text rest digit good),
      record {
        start = begins-append is_ascii_digit rest behind digit;
        end = rw (drop_behind rest behind n ends.edge.0) (begins_chars_no is_xid_continue (drop n rest) behind (IsUtf8-drop rest n utf8 ends.edge) stopped stop_no_continue plain);
      },
    )

backslash_taken : (note arrow : Bool) (rest behind : List ℕ) → IsStopped behind → 0 < backslash_part_len rest
    → IsTaken note arrow rest behind (Lexeme Backslash (1 + backslash_part_len rest))
backslash_taken note arrow [] behind stopped some ends = absurd (omega arith)
backslash_taken note arrow (b ∷ rest) behind stopped some ends = (backslash_text (b ∷ rest) some, by_first (is_backslash b) refl some)
  where
    by_first : (v : Bool) → is_backslash b ≡ v → 0 < cond v (prefix_len is_backslash_part rest) 0
        → IsFront note arrow Backslash (b ∷ (rest ++ behind)) (1 + cond v (prefix_len is_backslash_part rest) 0)
    by_first false other some = absurd (omega arith)
    by_first true first some =
        let k = prefix_len is_backslash_part rest in
        let next : 1 + k ≡ suc k = omega arith in
        let cut : drop (1 + k) (b ∷ (rest ++ behind)) ≡ drop k rest ++ behind = ap (λ j. drop j (b ∷ (rest ++ behind))) next ∙ drop_behind rest behind k (prefix_len-le-length is_backslash_part rest) in
        record {
          start = first;
          end = (omega arith, rw cut (begins-append_no is_backslash_part (drop k rest) behind (run_stops is_backslash_part rest) (begins_stopped is_backslash_part behind stopped stop_no_letter)));
        }

sign_taken : (note arrow : Bool) (rest behind : List ℕ) → 0 < length rest → IsStopped behind → 0 < sign_len note arrow rest
    → IsTaken note arrow rest behind (Lexeme Sign (sign_len note arrow rest))
unfolding sign_len
sign_taken note arrow rest behind filled stopped some ends =
    let n = first_fit (signs_of note arrow) rest in
    let own : IsOneOf (signs_of note arrow) (take n rest) = fit_text (signs_of note arrow) rest some in (
      own,
      record {
        start = begins-append is_sign_first rest behind (begins_of_take is_sign_first n rest (sign_starts note arrow (take n rest) own));
        end = λ m within one. longest m within one;
      },
    )
  where
    longest : (m : ℕ) → m ≤ length (rest ++ behind) → IsOneOf (signs_of note arrow) (take m (rest ++ behind)) → m ≤ first_fit (signs_of note arrow) rest
    longest m within one =
        let inner = sign_within note arrow rest behind m filled stopped within one in
        let same : take m (rest ++ behind) ≡ take m rest = take-append-le m rest behind inner in
        let here : IsOneOf (signs_of note arrow) (take m rest) = subst (IsOneOf (signs_of note arrow)) same one in
        let fit = is_fit rest (take m rest) (drop m rest) (sym (take-append-drop m rest)) in
        let size = first_longest (signs_of note arrow) rest (take m rest) (signs_fall note arrow) fit here in
        omega (arith, size, length-take-le m rest inner)

taken : (note arrow : Bool) (rest behind : List ℕ) → IsUtf8 rest → 0 < length rest → IsStopped behind → IsTaken note arrow rest behind (token_at note arrow rest)
taken note arrow rest behind utf8 filled stopped =
    either_taken note arrow rest behind (begins is_word_start (chars rest)) (Lexeme Word (word_len rest)) _
    (λ start ends. (word_text rest utf8 start, record { start = begins_chars is_word_start rest behind utf8 start; end = word_stays rest behind utf8 stopped }))
    (λ _. either_taken note arrow rest behind (begins is_ascii_digit rest) (number_at rest) _
    (λ digit. either_taken note arrow rest behind (is_bad_number rest) (Bad 4 None) (Lexeme Number (number_len rest)) (λ _. tt) (λ good. number_taken note arrow rest behind utf8 stopped digit good))
    (λ _. either_taken note arrow rest behind (nat_lt 0 (backslash_part_len rest)) (Lexeme Backslash (1 + backslash_part_len rest)) (sign_at (sign_len note arrow rest) rest)
    (λ some. backslash_taken note arrow rest behind stopped (below_is (backslash_part_len rest) some))
    (λ _. either_taken note arrow rest behind (nat_lt 0 (sign_len note arrow rest)) (Lexeme Sign (sign_len note arrow rest)) (Bad 3 (first_of (chars rest)))
    (λ some. sign_taken note arrow rest behind filled stopped (below_is (sign_len note arrow rest) some)) (λ _. tt))))

pub token_taken : (note arrow : Bool) (rest behind : List ℕ) (kind : TokenKind) (n : ℕ) → IsUtf8 rest → 0 < length rest → IsStopped behind → Ends rest n
    → token_at note arrow rest ≡ Lexeme kind n → IsForm note arrow kind (take n rest) × IsFront note arrow kind (rest ++ behind) n
token_taken note arrow rest behind kind n utf8 filled stopped ends is =
    let all : IsTaken note arrow rest behind (Lexeme kind n) = subst (IsTaken note arrow rest behind) is (taken note arrow rest behind utf8 filled stopped) in
    all ends
