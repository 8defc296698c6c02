-- The text of each token is one of its kind.
use Rattle.std.proofs.Common.{◌≡◌, ◌≤◌, ◌<◌, ℕ, ◌+◌, ◌-◌, List, [], ◌∷◌, ◌++◌, length, drop, take, refl, sym, ap, ◌∙◌, subst, arith, Bool, true, false, cond, zero, suc, get_or, ◌||◌, ◌&&◌, nat_eq, nat_lt, codes, encode_utf8_all, inl, inr, reverse, append_assoc, if◌then◌else◌, Option, Some, None}
use Rattle.std.specs.List.{prefix_len, suffix_len, starts_with, list_all}
use Rattle.std.specs.Char.{is_ascii_digit}
use Rattle.std.specs.Str.{IsUtf8, chars}
use Rattle.unicode_ident.specs.Ident.{is_xid_continue}
use Rattle.std.proofs.Math.Seq.{take-append_seam}
use Rattle.std.proofs.lemmas.Str.{encodes-chars, encodes-append}
use Rattle.std.proofs.lemmas.List.{append-nil, take-append-drop, drop-append-le, take-append-le, drop-drop, get_or-reverse, get_or-take, length-take-le, take_more, take-take, length-reverse}
use Rattle.std.proofs.lemmas.List.Sums.{prefix_len_stops, prefix_len-le-length}
use Rattle.std.proofs.lemmas.Bool.Decides.{nat_tests}
use Rattle.jesc_lexer.specs.Characters.{is_word_start, is_word_part, is_backslash, is_backslash_part, is_digit_part, is_underscore, is_suffix, is_white, begins, first_of}
use Rattle.jesc_lexer.specs.Lexemes.{word_len, digits_len, number_len, number_limit, number_at, has_suffix, is_bad_number, digits_value_of, backslash_part_len, first_fit, note_signs, double_signs, single_signs, signs_of, sign_len, sign_at, token_at}
use Rattle.jesc_lexer.specs.Pieces.{line_len, closing, blank_len, skip_comment, note_piece, annotation, comment, line_comment, closed_comment, block_comment, code_piece, is_conditional}
use Rattle.jesc_lexer.specs.Reading.{token, token_text}
use Rattle.jesc_lexer.specs.declared.token.Token.{Token}
use Rattle.jesc_lexer.specs.declared.token.TokenKind.{TokenKind}
use Rattle.jesc_lexer.specs.declared.piece.CodePiece.{CodePiece}
use Rattle.jesc_lexer.specs.declared.piece.CodePiece.TheVariants.{Plain, Annotation}
use Rattle.jesc_lexer.specs.Inner.{IsTextOf, StandsAt}
use Rattle.jesc_lexer.specs.Texts.{IsWordText, IsBackslashText, IsNumberText, AreDigits, IsOneOf, IsTokenText, AreTexts}
use Rattle.jesc_lexer.specs.declared.token.TokenKind.TheVariants.{Word, Backslash, Number, Sign}
use Rattle.jesc_lexer.specs.declared.piece.Piece.{Piece}
use Rattle.jesc_lexer.specs.declared.piece.Piece.TheVariants.{Blank, Lexeme, Bad}
use Rattle.jesc_lexer.proofs.Edges.{begins_first, begins_at}
use Rattle.jesc_lexer.proofs.Steps.{start_goes, run_some, digit_part, digit_plain, suffix_short, fits, below_is}

pub either_text : (note : Bool) (rest : List ℕ) (b : Bool) (x y : Piece) → (b ≡ true → IsTextOf note rest x) → (b ≡ false → IsTextOf note rest y) → IsTextOf note rest (cond b x y)
either_text note rest true x y first second = first refl
either_text note rest false x y first second = second refl

pub all_prefix : (p : ℕ → Bool) (xs : List ℕ) → list_all p (take (prefix_len p xs) xs) ≡ true
all_prefix p [] = refl
all_prefix p (x ∷ xs) = by_first (p x) refl (all_prefix p xs)
  where
    by_first : (v : Bool) → p x ≡ v → list_all p (take (prefix_len p xs) xs) ≡ true → list_all p (take (cond v (1 + prefix_len p xs) 0) (x ∷ xs)) ≡ true
    by_first false fails rest = refl
    by_first true passes rest =
        let next : suc (prefix_len p xs) ≡ 1 + prefix_len p xs = omega arith in
        subst (λ n. list_all p (take n (x ∷ xs)) ≡ true) next (rw (passes, rest) refl)

all_take : (p : ℕ → Bool) (k : ℕ) (xs : List ℕ) → list_all p xs ≡ true → list_all p (take k xs) ≡ true
all_take p zero xs all = refl
all_take p (suc k) [] all = refl
all_take p (suc k) (x ∷ xs) all = by_first (p x) refl all (all_take p k xs)
  where
    by_first : (v : Bool) → p x ≡ v → (v && list_all p xs) ≡ true → (list_all p xs ≡ true → list_all p (take k xs) ≡ true) → (p x && list_all p (take k xs)) ≡ true
    by_first false fails all rest = absurd (cc)
    by_first true passes all rest = rw (passes, rest all) refl

begins_take : (p : ℕ → Bool) (k : ℕ) (xs : List ℕ) → begins p xs ≡ true → 0 < k → begins p (take k xs) ≡ true
begins_take p zero xs first some = absurd (omega arith)
begins_take p (suc k) [] first some = absurd (cc)
begins_take p (suc k) (x ∷ xs) first some = first

pub word_text : (rest : List ℕ) → IsUtf8 rest → begins is_word_start (chars rest) ≡ true → IsWordText (take (word_len rest) rest)
unfolding word_len
word_text rest utf8 start =
    let cs = chars rest in
    let k = prefix_len is_word_part cs in
    let whole : rest ≡ encode_utf8_all cs = sym (encodes-chars rest utf8) in
    let parts : rest ≡ encode_utf8_all (take k cs) ++ encode_utf8_all (drop k cs) = whole ∙ ap encode_utf8_all (sym (take-append-drop k cs)) ∙ encodes-append (take k cs) (drop k cs) in
    let first = begins_first is_word_start cs start in
    let some = run_some is_word_part cs first.0 (start_goes (get_or cs 0 0) first.1) in
    record {
      characters = take k cs;
      spells = sym (ap (take (length (encode_utf8_all (take k cs)))) parts ∙ take-append_seam (encode_utf8_all (take k cs)) (encode_utf8_all (drop k cs)));
      starts = begins_take is_word_start k cs start some;
      goes = all_prefix is_word_part cs;
    }

pub backslash_text : (rest : List ℕ) → 0 < backslash_part_len rest → IsBackslashText (take (1 + backslash_part_len rest) rest)
backslash_text [] some = absurd (omega arith)
backslash_text (b ∷ rest) some = by_first (is_backslash b) refl some
  where
    by_first : (v : Bool) → is_backslash b ≡ v → 0 < cond v (prefix_len is_backslash_part rest) 0 → IsBackslashText (take (1 + cond v (prefix_len is_backslash_part rest) 0) (b ∷ rest))
    by_first false other some = absurd (omega arith)
    by_first true first some =
        let n = prefix_len is_backslash_part rest in
        let next : 1 + n ≡ suc n = omega arith in
        let is : b ≡ 92 = grind (arith, nat_tests) in
        record {
          letters = take n rest;
          spells = ap (λ k. take k (b ∷ rest)) next ∙ ap (λ c. c ∷ take n rest) is;
          some = omega (arith, length-take-le n rest (prefix_len-le-length is_backslash_part rest), some);
          goes = all_prefix is_backslash_part rest;
        }

digits_form : (rest : List ℕ) → begins is_ascii_digit rest ≡ true → AreDigits (take (digits_len rest) rest)
unfolding digits_len
digits_form rest digit = by_zero (starts_with nat_eq rest (codes "0")) refl
  where
    by_zero : (v : Bool) → starts_with nat_eq rest (codes "0") ≡ v → AreDigits (take (cond v 1 (prefix_len is_digit_part rest - suffix_len is_underscore (take (prefix_len is_digit_part rest) rest))) rest)
    by_zero true zeroed = inl (ap (take 1) (fits rest (codes "0") zeroed))
    by_zero false positive =
        let first = begins_first is_ascii_digit rest digit in
        let run = prefix_len is_digit_part rest in
        let xs = take run rest in
        let trail = suffix_len is_underscore xs in
        let d = run - trail in
        let some = run_some is_digit_part rest first.0 (digit_part (get_or rest 0 0) first.1) in
        let within = prefix_len-le-length is_digit_part rest in
        let size : length xs ≡ run = length-take-le run rest within in
        let front : get_or xs 0 0 ≡ get_or rest 0 0 = get_or-take run rest 0 0 some in
        let short : trail < length xs = suffix_short is_underscore xs (omega (arith, size, some)) (ap is_underscore front ∙ digit_plain (get_or rest 0 0) first.1) in
        let positive_d : 0 < d = omega (arith, short, size) in
        let cut : take d xs ≡ take d rest = take-take d run rest (omega arith) in
        let head : take 1 (take d rest) ≡ take 1 rest = take-take 1 d rest (omega (arith, positive_d)) in
        let long : length (take d rest) ≡ d = length-take-le d rest (omega (arith, within)) in
        let stops = prefix_len_stops is_underscore (reverse xs) 0 (omega (arith, short, length-reverse xs)) in
        let seen = get_or-reverse xs trail 0 short in
        let place : length xs - 1 - trail ≡ d - 1 = omega (arith, size, short) in
        let inner = get_or-take run rest (d - 1) 0 (omega (arith, positive_d)) in
        let outer = get_or-take d rest (d - 1) 0 (omega (arith, positive_d)) in
        let last : get_or (take d rest) (length (take d rest) - 1) 0 ≡ get_or (reverse xs) trail 0
        = ap (λ k. get_or (take d rest) (k - 1) 0) long ∙ outer ∙ sym inner ∙ ap (λ k. get_or xs k 0) (sym place) ∙ sym seen in
        inr (record {
          starts = begins_take is_ascii_digit d rest digit positive_d;
          positive = rw head positive;
          goes = subst (λ t. list_all is_digit_part t ≡ true) cut (all_take is_digit_part d xs (all_prefix is_digit_part rest));
          ends = ap is_underscore last ∙ stops;
        })

low_is : (limit value : ℕ) → nat_lt limit value ≡ false → value ≤ limit
low_is limit value h = grind (arith, nat_tests)

pub second : (a b : Bool) → (a || b) ≡ false → b ≡ false
second true b h = absurd (cc)
second false b h = h

pub number_text : (rest : List ℕ) → begins is_ascii_digit rest ≡ true → is_bad_number rest ≡ false → IsNumberText (take (number_len rest) rest)
number_text rest digit good = by_suffix (has_suffix rest) refl (low_is (number_limit rest) (digits_value_of (take (digits_len rest) rest)) (second (begins is_xid_continue (chars (drop (number_len rest) rest))) (nat_lt (number_limit rest) (digits_value_of (take (digits_len rest) rest))) good))
  where
    by_suffix : (v : Bool) → has_suffix rest ≡ v → digits_value_of (take (digits_len rest) rest) ≤ cond v 9223372036854775808 2147483648 → IsNumberText (take (cond v (digits_len rest + 1) (digits_len rest)) rest)
    by_suffix false none low =
        record { digits = take (digits_len rest) rest; suffix = []; spells = sym (append-nil (take (digits_len rest) rest)); form = digits_form rest digit; bounded = low }
    by_suffix true some low =
        let here = begins_at is_suffix rest (digits_len rest) some in
        record {
          digits = take (digits_len rest) rest;
          suffix = get_or rest (digits_len rest) 0 ∷ [];
          spells = take_more rest (digits_len rest) 0 here.0;
          form = digits_form rest digit;
          bounded = (here.1, low);
        }

pub fit_text : (texts : List (List ℕ)) (rest : List ℕ) → 0 < first_fit texts rest → IsOneOf texts (take (first_fit texts rest) rest)
fit_text [] rest some = absurd (omega arith)
fit_text (sign ∷ texts) rest some = by_fit (starts_with nat_eq rest sign) refl some (fit_text texts rest)
  where
    by_fit : (v : Bool) → starts_with nat_eq rest sign ≡ v → 0 < cond v (length sign) (first_fit texts rest) → (0 < first_fit texts rest → IsOneOf texts (take (first_fit texts rest) rest)) → IsOneOf (sign ∷ texts) (take (cond v (length sign) (first_fit texts rest)) rest)
    by_fit true fit some later = inl (ap (take (length sign)) (fits rest sign fit) ∙ take-append_seam sign (drop (length sign) rest))
    by_fit false fit some later = inr (later some)

pub one_more : (xs ys : List (List ℕ)) (sign text : List ℕ) → IsOneOf (xs ++ ys) text → IsOneOf (xs ++ sign ∷ ys) text
one_more [] ys sign text one = inr one
one_more (x ∷ xs) ys sign text (inl same) = inl same
one_more (x ∷ xs) ys sign text (inr other) = inr (one_more xs ys sign text other)

sign_text : (note arrow : Bool) (rest : List ℕ) → (arrow ≡ true → note ≡ true) → 0 < sign_len note arrow rest → IsOneOf (signs_of note note) (take (sign_len note arrow rest) rest)
unfolding sign_len
sign_text true true rest allowed some = fit_text (signs_of true true) rest some
sign_text true false rest allowed some = one_more note_signs (double_signs ++ single_signs) (codes "<-") (take (first_fit (signs_of true false) rest) rest) (fit_text (signs_of true false) rest some)
sign_text false true rest allowed some = absurd (let same = allowed refl in cc)
sign_text false false rest allowed some = fit_text (signs_of false false) rest some

pub token_of : (note arrow : Bool) (rest : List ℕ) → IsUtf8 rest → (arrow ≡ true → note ≡ true) → IsTextOf note rest (token_at note arrow rest)
token_of note arrow rest utf8 allowed =
    either_text note rest (begins is_word_start (chars rest)) (Lexeme Word (word_len rest)) _
    (λ start. word_text rest utf8 start)
    (λ _. either_text note rest (begins is_ascii_digit rest) (number_at rest) _
    (λ digit. either_text note rest (is_bad_number rest) (Bad 4 None) (Lexeme Number (number_len rest)) (λ _. tt) (λ good. number_text rest digit good))
    (λ _. either_text note rest (nat_lt 0 (backslash_part_len rest)) (Lexeme Backslash (1 + backslash_part_len rest)) (sign_at (sign_len note arrow rest) rest)
    (λ some. backslash_text rest (below_is (backslash_part_len rest) some))
    (λ _. either_text note rest (nat_lt 0 (sign_len note arrow rest)) (Lexeme Sign (sign_len note arrow rest)) (Bad 3 (first_of (chars rest)))
    (λ some. sign_text note arrow rest allowed (below_is (sign_len note arrow rest) some)) (λ _. tt))))

pub note_of : (block arrow : Bool) (rest : List ℕ) → IsUtf8 rest → IsTextOf true rest (note_piece block arrow rest)
note_of block arrow rest utf8 =
    either_text true rest (begins is_white rest) (Blank (blank_len block rest)) _ (λ _. tt)
    (λ _. either_text true rest (starts_with nat_eq rest (codes "//")) (Blank (line_len rest)) _ (λ _. tt)
    (λ _. either_text true rest (starts_with nat_eq rest (codes "/*")) (if block then Bad 3 (Some 47) else skip_comment (closing (drop 2 rest))) (token_at true arrow rest)
    (λ _. either_text true rest block (Bad 3 (Some 47)) (skip_comment (closing (drop 2 rest))) (λ _. tt) (λ _. skipped (closing (drop 2 rest))))
    (λ _. token_of true arrow rest utf8 (λ _. refl))))
  where
    skipped : (place : Option ℕ) → IsTextOf true rest (skip_comment place)
    skipped None = tt
    skipped (Some k) = tt

abbrev pub IsCodeTextOf : List ℕ → CodePiece → Type 0
IsCodeTextOf rest (Plain piece) = IsTextOf false rest piece
IsCodeTextOf rest (Annotation note) = Unit {0}

either_code_text : (rest : List ℕ) (b : Bool) (x y : CodePiece) → (b ≡ true → IsCodeTextOf rest x) → (b ≡ false → IsCodeTextOf rest y) → IsCodeTextOf rest (cond b x y)
either_code_text rest true x y first second = first refl
either_code_text rest false x y first second = second refl

comment_text : (rest body : List ℕ) (block : Bool) (whole : ℕ) → IsCodeTextOf rest (comment block body whole)
comment_text rest body block whole = either_code_text rest (starts_with nat_eq body (codes "@")) (Annotation (annotation block body whole)) (Plain (Blank whole)) (λ _. tt) (λ _. tt)

line_text : (rest bytes : List ℕ) → IsCodeTextOf rest (line_comment bytes)
unfolding line_comment
line_text rest bytes = either_code_text rest (is_conditional bytes) (Plain (Bad 6 None)) (comment false (take (line_len bytes) bytes) (2 + line_len bytes)) (λ _. tt) (λ _. comment_text rest (take (line_len bytes) bytes) false (2 + line_len bytes))

block_text : (rest bytes : List ℕ) → IsCodeTextOf rest (block_comment bytes)
unfolding block_comment
block_text rest bytes = closed (closing bytes)
  where
    closed : (place : Option ℕ) → IsCodeTextOf rest (closed_comment bytes place)
    closed None = tt
    closed (Some k) = either_code_text rest (is_conditional bytes) (Plain (Bad 6 None)) (comment true (take k bytes) (k + 4)) (λ _. tt) (λ _. comment_text rest (take k bytes) true (k + 4))

pub code_of : (rest : List ℕ) → IsUtf8 rest → IsCodeTextOf rest (code_piece rest)
code_of rest utf8 =
    either_code_text rest (begins is_white rest) (Plain (Blank (prefix_len is_white rest))) _ (λ _. tt)
    (λ _. either_code_text rest (starts_with nat_eq rest (codes "//")) (line_comment (drop 2 rest)) _ (λ _. line_text rest (drop 2 rest))
    (λ _. either_code_text rest (starts_with nat_eq rest (codes "/*")) (block_comment (drop 2 rest)) (Plain (token_at false false rest)) (λ _. block_text rest (drop 2 rest))
    (λ _. token_of false false rest utf8 (λ h. h))))

-- where bytes stand

pub stands_later : (text bytes : List ℕ) (start at : ℕ) → at ≤ length bytes → StandsAt text start bytes → StandsAt text (start + at) (drop at bytes)
stands_later text bytes start at within stands =
    record { more = stands.more; spells = sym (drop-drop at start text) ∙ ap (drop at) stands.spells ∙ drop-append-le at bytes stands.more within }

pub stands_front : (text bytes : List ℕ) (start n : ℕ) → StandsAt text start bytes → StandsAt text start (take n bytes)
stands_front text bytes start n stands =
    record {
      more = drop n bytes ++ stands.more;
      spells = stands.spells ∙ ap (λ t. t ++ stands.more) (sym (take-append-drop n bytes)) ∙ append_assoc (take n bytes) (drop n bytes) stands.more;
    }

pub stands_own : (text : List ℕ) (at : ℕ) → StandsAt text at (drop at text)
stands_own text at = record { more = []; spells = sym (append-nil (drop at text)) }

-- a token's text is the front of what stands at its offset
pub text_is : (text rest : List ℕ) (file at n : ℕ) (note : Bool) (kind : TokenKind) → StandsAt text at rest → n ≤ length rest → token_text text (token file note at kind n) ≡ take n rest
text_is text rest file at n note kind stands within =
    let size : at + n - at ≡ n = omega arith in
    ap (λ k. take k (drop at text)) size ∙ ap (take n) stands.spells ∙ take-append-le n rest stands.more within

pub texts_more : (text : List ℕ) (tokens : List Token) (new : Token) → AreTexts text tokens → IsTokenText new.note new.kind (token_text text new) → AreTexts text (tokens ++ new ∷ [])
texts_more text [] new texts own = (own, tt)
texts_more text (first ∷ tokens) new texts own = (texts.0, texts_more text tokens new texts.1 own)
