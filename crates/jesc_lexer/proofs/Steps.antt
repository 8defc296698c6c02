-- Each piece has at least one byte, and ends where a character begins or at the end of the text.
use Rattle.std.proofs.Common.{◌≡◌, ◌≤◌, ◌<◌, ℕ, ◌+◌, ◌-◌, List, [], ◌∷◌, ◌++◌, length, drop, take, refl, sym, ap, ◌∙◌, subst, arith, Bool, true, false, not, cond, zero, suc, get_or, ◌||◌, ◌==◌, ◌&&◌, ◌⊎◌, inl, inr, nat_eq, nat_lt, codes, encode_utf8_all, length-append, if◌then◌else◌, Option, Some, None, reverse, length-drop}
use Rattle.std.specs.List.{prefix_len, suffix_len, starts_with, list_any, list_all}
use Rattle.std.specs.Option.{option_map}
use Rattle.std.specs.Char.{is_ascii_digit}
use Rattle.std.specs.Str.{IsUtf8, IsCharBoundary, chars}
use Rattle.std.proofs.lemmas.Str.{IsCharBoundary-after_ascii, IsCharBoundary-before_ascii, IsCharBoundary-end, IsCharBoundary-at_seam, IsCharBoundary-from_rest, IsUtf8-drop, IsUtf8-past_char, encodes-chars, encodes-append, len_utf8_bounds}
use Rattle.std.proofs.lemmas.List.{take-append-drop, get_or-drop, get_or-reverse, get_or_append_left, get_or-take, length-take-le}
use Rattle.std.proofs.lemmas.List.Sums.{prefix_len_passes, prefix_len_stops, prefix_len-le-length, suffix_len-le-length}
use Rattle.std.proofs.lemmas.Slice.Eq.{starts_is}
use Rattle.std.proofs.lemmas.Bool.Decides.{nat_tests, Decides-eqb}
use Rattle.unicode_ident.specs.Ident.{is_xid_start, is_xid_continue}
use Rattle.unicode_ident.proofs.IdentLemmas.{is_xid_start-is_xid_continue, is_xid_continue-ascii}
use Rattle.jesc_lexer.specs.Characters.{is_white, is_line_feed, is_at_sign, is_underscore, is_digit_part, is_backslash, is_backslash_part, is_word_start, is_word_part, begins, first_of}
use Rattle.jesc_lexer.specs.Lexemes.{word_len, digits_len, number_len, number_at, has_suffix, is_bad_number, backslash_part_len, first_fit, note_signs, double_signs, single_signs, sign_len, sign_at, token_at}
use Rattle.jesc_lexer.specs.Pieces.{line_len, closing, blank_len, skip_comment, note_piece, annotation, line_comment, closed_comment, block_comment, code_piece, is_conditional}
use Rattle.jesc_lexer.specs.Inner.{Ends, IsStep}
use Rattle.jesc_lexer.specs.declared.token.TokenKind.TheVariants.{Word, Backslash, Number, Sign}
use Rattle.jesc_lexer.specs.declared.piece.Piece.{Piece}
use Rattle.jesc_lexer.specs.declared.piece.Piece.TheVariants.{Blank, Lexeme, Bad}
use Rattle.jesc_lexer.specs.declared.piece.Note.{Note}
use Rattle.jesc_lexer.specs.declared.piece.CodePiece.{CodePiece}
use Rattle.jesc_lexer.specs.declared.piece.CodePiece.TheVariants.{Plain, Annotation}
use Rattle.jesc_lexer.proofs.Edges.{ascii_edge, run_ascii, run_edge, begins_first, digits_edge, suffix_edge}
use Rattle.jesc_lexer.proofs.Words.{past_first, word_len_more}

pub either : (text : List ℕ) (b : Bool) (x y : Piece) → (b ≡ true → IsStep text x) → (b ≡ false → IsStep text y) → IsStep text (cond b x y)
either text true x y first second = first refl
either text false x y first second = second refl

or_true : (b : Bool) → (b || true) ≡ true
or_true true = refl
or_true false = refl

below_from : (a b : ℕ) → (b ≤ a → ⊥) → a < b
below_from a b h = grind arith

-- words

pub start_goes : (c : ℕ) → is_word_start c ≡ true → is_word_part c ≡ true
start_goes c start = by_start (is_xid_start c) refl start
  where
    by_start : (v : Bool) → is_xid_start c ≡ v → (v || (c == 95) || (c == 36)) ≡ true → is_word_part c ≡ true
    by_start true xid h = rw (is_xid_start-is_xid_continue c xid) refl
    by_start false xid h = other (c == 95) (c == 36) refl refl h
      where
        other : (u w : Bool) → (c == 95) ≡ u → (c == 36) ≡ w → (u || w) ≡ true → is_word_part c ≡ true
        other true w underscore dollar h = let is : c ≡ 95 = grind (arith, nat_tests) in rw (is, is_xid_continue-ascii 95 (omega arith)) refl
        other false true underscore dollar h = rw dollar (or_true (is_xid_continue c))
        other false false underscore dollar h = absurd (cc)

first_start : (xs : List ℕ) → begins is_word_start xs ≡ true → (c : ℕ) × (first_of xs ≡ Some c) × (is_word_start c ≡ true)
first_start [] start = absurd (cc)
first_start (c ∷ xs) start = (c, refl, start)

word_some : (text : List ℕ) → IsUtf8 text → begins is_word_start (chars text) ≡ true → 0 < word_len text
word_some text utf8 start =
    let first = first_start (chars text) start in
    let past = past_first text first.0 utf8 first.1 in
    let counted = word_len_more text first.0 past (start_goes first.0 first.2) in
    omega (arith, counted, (len_utf8_bounds first.0).0)

IsUtf8-rest : (bytes : List ℕ) (cs : List ℕ) (k : ℕ) → IsUtf8 bytes → bytes ≡ encode_utf8_all cs → IsUtf8 (encode_utf8_all (drop k cs))
IsUtf8-rest bytes cs zero utf8 same = subst (λ t. IsUtf8 t) same utf8
IsUtf8-rest bytes [] (suc k) utf8 same = subst (λ t. IsUtf8 t) same utf8
IsUtf8-rest bytes (c ∷ cs) (suc k) utf8 same = IsUtf8-rest (encode_utf8_all cs) cs k (IsUtf8-past_char bytes (encode_utf8_all cs) c utf8 same) refl

word_edge : (text : List ℕ) → IsUtf8 text → IsCharBoundary text (word_len text)
unfolding word_len
word_edge text utf8 =
    let cs = chars text in
    let k = prefix_len is_word_part cs in
    let whole : text ≡ encode_utf8_all cs = sym (encodes-chars text utf8) in
    let parts : text ≡ encode_utf8_all (take k cs) ++ encode_utf8_all (drop k cs) = whole ∙ ap encode_utf8_all (sym (take-append-drop k cs)) ∙ encodes-append (take k cs) (drop k cs) in
    IsCharBoundary-at_seam text (encode_utf8_all (take k cs)) (encode_utf8_all (drop k cs)) parts (IsUtf8-rest text cs k utf8 whole)

-- numbers

pub digit_part : (b : ℕ) → is_ascii_digit b ≡ true → is_digit_part b ≡ true
digit_part b digit = grind (arith, nat_tests)

pub digit_plain : (b : ℕ) → is_ascii_digit b ≡ true → is_underscore b ≡ false
digit_plain b digit = grind (arith, nat_tests)

-- where the first fails, the run at the end is shorter than the list
pub suffix_short : (p : ℕ → Bool) (xs : List ℕ) → 0 < length xs → p (get_or xs 0 0) ≡ false → suffix_len p xs < length xs
suffix_short p xs some fails = below_from (suffix_len p xs) (length xs) all_pass
  where
    all_pass : length xs ≤ suffix_len p xs → ⊥
    all_pass whole =
        let last = length xs - 1 in
        let within : last < length xs = omega arith in
        let passes : p (get_or (reverse xs) last 0) ≡ true = prefix_len_passes p (reverse xs) last 0 (omega (arith, whole)) in
        let front : length xs - 1 - last ≡ 0 = omega arith in
        let same : get_or (reverse xs) last 0 ≡ get_or xs 0 0 = get_or-reverse xs last 0 within ∙ ap (λ k. get_or xs k 0) front in
        let both : true ≡ false = sym passes ∙ ap p same ∙ fails in cc

pub run_some : (p : ℕ → Bool) (xs : List ℕ) → 0 < length xs → p (get_or xs 0 0) ≡ true → 0 < prefix_len p xs
run_some p [] some passes = absurd (omega arith)
run_some p (x ∷ xs) some passes = rw passes (omega arith)

pub digits_some : (text : List ℕ) → begins is_ascii_digit text ≡ true → (0 < digits_len text) × (digits_len text ≤ length text)
unfolding digits_len
digits_some text digit = by_zero (starts_with nat_eq text (codes "0"))
  where
    by_zero : (v : Bool) → (0 < cond v 1 (prefix_len is_digit_part text - suffix_len is_underscore (take (prefix_len is_digit_part text) text))) × (cond v 1 (prefix_len is_digit_part text - suffix_len is_underscore (take (prefix_len is_digit_part text) text)) ≤ length text)
    by_zero true = (omega arith, omega (arith, (begins_first is_ascii_digit text digit).0))
    by_zero false =
        let first = begins_first is_ascii_digit text digit in
        let run = prefix_len is_digit_part text in
        let some = run_some is_digit_part text first.0 (digit_part (get_or text 0 0) first.1) in
        let within = prefix_len-le-length is_digit_part text in
        let size : length (take run text) ≡ run = length-take-le run text within in
        let front : get_or (take run text) 0 0 ≡ get_or text 0 0 = get_or-take run text 0 0 some in
        let short = suffix_short is_underscore (take run text) (omega (arith, size, some)) (ap is_underscore front ∙ digit_plain (get_or text 0 0) first.1) in
        (omega (arith, short, size), omega (arith, within))

number_ends : (text : List ℕ) → IsUtf8 text → begins is_ascii_digit text ≡ true → Ends text (number_len text)
number_ends text utf8 digit = by_suffix (has_suffix text) refl
  where
    by_suffix : (v : Bool) → has_suffix text ≡ v → Ends text (cond v (digits_len text + 1) (digits_len text))
    by_suffix true suffix = record { some = omega arith; edge = suffix_edge text (digits_len text) utf8 suffix }
    by_suffix false none = let size = digits_some text digit in record { some = size.0; edge = digits_edge text utf8 digit size.1 }

pub number_step : (text : List ℕ) → IsUtf8 text → begins is_ascii_digit text ≡ true → IsStep text (number_at text)
number_step text utf8 digit = either text (is_bad_number text) (Bad 4 None) (Lexeme Number (number_len text)) (λ _. tt) (λ _. number_ends text utf8 digit)

-- backslash words

part_ascii : (b : ℕ) → is_backslash_part b ≡ true → b < 128
part_ascii b part = grind (arith, nat_tests)

backslash_ends : (text : List ℕ) → IsUtf8 text → 0 < backslash_part_len text → Ends text (1 + backslash_part_len text)
backslash_ends [] utf8 some = absurd (omega arith)
backslash_ends (b ∷ text) utf8 some = by_first (is_backslash b) refl some
  where
    by_first : (v : Bool) → is_backslash b ≡ v → 0 < cond v (prefix_len is_backslash_part text) 0 → Ends (b ∷ text) (1 + cond v (prefix_len is_backslash_part text) 0)
    by_first false other some = absurd (omega arith)
    by_first true first some =
        record {
          some = omega arith;
          edge = ascii_edge (b ∷ text) (1 + prefix_len is_backslash_part text) utf8 (omega (arith, prefix_len-le-length is_backslash_part text)) bytes;
        }
      where
        bytes : (k : ℕ) → k < 1 + prefix_len is_backslash_part text → get_or (b ∷ text) k 0 < 128
        bytes zero h = grind (arith, nat_tests)
        bytes (suc k) h = run_ascii is_backslash_part text part_ascii k (omega arith)

-- signs

pub fits : (text sign : List ℕ) → starts_with nat_eq text sign ≡ true → text ≡ sign ++ drop (length sign) text
fits text sign fit = (starts_is Decides-eqb text sign (starts_with nat_eq text sign) refl).0 fit

abbrev pub is_ascii_text : List ℕ → Bool
is_ascii_text text = list_all (λ b. nat_lt b 128) text && nat_lt 0 (length text)

all_ascii : (text : List ℕ) → list_all (λ b. nat_lt b 128) text ≡ true → (k : ℕ) → k < length text → get_or text k 0 < 128
all_ascii [] all k within = absurd (omega arith)
all_ascii (b ∷ text) all zero within = grind (arith, nat_tests)
all_ascii (b ∷ text) all (suc k) within =
    let rest : list_all (λ b. nat_lt b 128) text ≡ true = grind (arith, nat_tests) in all_ascii text rest k (omega arith)

pub fit_ends : (text sign : List ℕ) → IsUtf8 text → is_ascii_text sign ≡ true → starts_with nat_eq text sign ≡ true → Ends text (length sign)
fit_ends text sign utf8 ascii fit =
    let parts = fits text sign fit in
    let all : list_all (λ b. nat_lt b 128) sign ≡ true = grind (arith, nat_tests) in
    let some : 0 < length sign = grind (arith, nat_tests) in
    record {
      some = some;
      edge = ascii_edge text (length sign) utf8 (omega (arith, ap length parts, length-append sign (drop (length sign) text)))
          (λ k within. subst (λ b. b < 128) (sym (ap (λ t. get_or t k 0) parts ∙ get_or_append_left sign (drop (length sign) text) 0 k within)) (all_ascii sign all k within));
    }

first_fit_ends : (texts : List (List ℕ)) (text : List ℕ) → IsUtf8 text → list_all is_ascii_text texts ≡ true → 0 < first_fit texts text → Ends text (first_fit texts text)
first_fit_ends [] text utf8 all some = absurd (omega arith)
first_fit_ends (sign ∷ texts) text utf8 all some =
    let here : is_ascii_text sign ≡ true = grind (arith, nat_tests) in
    let rest : list_all is_ascii_text texts ≡ true = grind (arith, nat_tests) in
    by_fit here (first_fit_ends texts text utf8 rest) (starts_with nat_eq text sign) refl some
  where
    by_fit : is_ascii_text sign ≡ true → (0 < first_fit texts text → Ends text (first_fit texts text)) → (v : Bool) → starts_with nat_eq text sign ≡ v → 0 < cond v (length sign) (first_fit texts text) → Ends text (cond v (length sign) (first_fit texts text))
    by_fit here rest true fit some = fit_ends text sign utf8 here fit
    by_fit here rest false fit some = rest some

sign_ends : (note arrow : Bool) (text : List ℕ) → IsUtf8 text → 0 < sign_len note arrow text → Ends text (sign_len note arrow text)
unfolding sign_len
sign_ends true true text utf8 some = first_fit_ends (note_signs ++ (codes "<-" ∷ (double_signs ++ single_signs))) text utf8 refl some
sign_ends true false text utf8 some = first_fit_ends (note_signs ++ (double_signs ++ single_signs)) text utf8 refl some
sign_ends false true text utf8 some = first_fit_ends (codes "<-" ∷ (double_signs ++ single_signs)) text utf8 refl some
sign_ends false false text utf8 some = first_fit_ends (double_signs ++ single_signs) text utf8 refl some

pub below_is : (n : ℕ) → nat_lt 0 n ≡ true → 0 < n
below_is n h = grind (arith, nat_tests)

pub token_step : (note arrow : Bool) (text : List ℕ) → IsUtf8 text → IsStep text (token_at note arrow text)
token_step note arrow text utf8 =
    either text (begins is_word_start (chars text)) (Lexeme Word (word_len text)) _
    (λ start. record { some = word_some text utf8 start; edge = word_edge text utf8 })
    (λ _. either text (begins is_ascii_digit text) (number_at text) _
    (λ digit. number_step text utf8 digit)
    (λ _. either text (nat_lt 0 (backslash_part_len text)) (Lexeme Backslash (1 + backslash_part_len text)) (sign_at (sign_len note arrow text) text)
    (λ some. backslash_ends text utf8 (below_is (backslash_part_len text) some))
    (λ _. either text (nat_lt 0 (sign_len note arrow text)) (Lexeme Sign (sign_len note arrow text)) (Bad 3 (first_of (chars text)))
    (λ some. sign_ends note arrow text utf8 (below_is (sign_len note arrow text) some)) (λ _. tt))))

-- white space and comments

white_ascii : (b : ℕ) → is_white b ≡ true → b < 128
white_ascii b white = grind (arith, nat_tests)

at_ascii : (b : ℕ) → is_at_sign b ≡ true → b < 128
at_ascii b sign = grind (arith, nat_tests)

white_ends : (text : List ℕ) → IsUtf8 text → begins is_white text ≡ true → Ends text (prefix_len is_white text)
white_ends text utf8 white =
    let first = begins_first is_white text white in
    record { some = run_some is_white text first.0 first.1; edge = run_edge is_white text utf8 white_ascii }

blank_ends : (block : Bool) (text : List ℕ) → IsUtf8 text → begins is_white text ≡ true → Ends text (blank_len block text)
unfolding blank_len
blank_ends block text utf8 white = by_line (block && list_any is_line_feed (take (prefix_len is_white text) text))
  where
    by_line : (v : Bool) → Ends text (cond v (prefix_len is_white text + prefix_len is_at_sign (drop (prefix_len is_white text) text)) (prefix_len is_white text))
    by_line false = white_ends text utf8 white
    by_line true =
        let first = white_ends text utf8 white in
        let rest = IsUtf8-drop text (prefix_len is_white text) utf8 first.edge in
        record {
          some = omega (arith, first.some);
          edge = IsCharBoundary-from_rest text (prefix_len is_white text) (prefix_len is_at_sign (drop (prefix_len is_white text) text)) first.edge.0 (run_edge is_at_sign (drop (prefix_len is_white text) text) rest at_ascii);
        }

feed_ascii : (b : ℕ) → not (is_line_feed b) ≡ false → b < 128
feed_ascii b feed = grind (arith, nat_tests)

pub line_edge : (text : List ℕ) → IsUtf8 text → IsCharBoundary text (line_len text)
line_edge text utf8 = by_end (nat_lt (line_len text) (length text)) refl
  where
    by_end : (v : Bool) → nat_lt (line_len text) (length text) ≡ v → IsCharBoundary text (line_len text)
    by_end true inside =
        let within : line_len text < length text = grind (arith, nat_tests) in
        IsCharBoundary-before_ascii text (line_len text) within (feed_ascii (get_or text (line_len text) 0) (prefix_len_stops (λ b. not (is_line_feed b)) text 0 within))
    by_end false past =
        let le = prefix_len-le-length (λ b. not (is_line_feed b)) text in
        let ge : length text ≤ line_len text = grind (arith, nat_tests) in
        let whole : line_len text ≡ length text = omega arith in
        subst (λ n. IsCharBoundary text n) (sym whole) (IsCharBoundary-end text)

-- what begins with a sign of ASCII has its first byte
first_byte : (text : List ℕ) (a b : ℕ) → starts_with nat_eq text (a ∷ b ∷ []) ≡ true → (get_or text 0 0 ≡ a) × (0 < length text)
first_byte text a b fit =
    let parts = fits text (a ∷ b ∷ []) fit in
    (ap (λ t. get_or t 0 0) parts, omega (arith, ap length parts))

line_ends : (text : List ℕ) → IsUtf8 text → starts_with nat_eq text (codes "//") ≡ true → Ends text (line_len text)
line_ends text utf8 fit =
    let first = first_byte text 47 47 fit in
    record {
      some = run_some (λ b. not (is_line_feed b)) text first.1 (ap (λ b. not (is_line_feed b)) first.0);
      edge = line_edge text utf8;
    }

pub record Closes (bytes : List ℕ) (k : ℕ) : Type 0 where
  pub within : k + 2 ≤ length bytes
  pub star : get_or bytes k 0 ≡ 42
  pub slash : get_or bytes (k + 1) 0 ≡ 47

closes_more : (b : ℕ) (bytes : List ℕ) (k : ℕ) → Closes bytes k → Closes (b ∷ bytes) (k + 1)
closes_more b bytes k closes =
    let next : k + 1 ≡ suc k = omega arith in
    let last : k + 1 + 1 ≡ suc (k + 1) = omega arith in
    record {
      within = omega (arith, closes.within);
      star = ap (λ i. get_or (b ∷ bytes) i 0) next ∙ closes.star;
      slash = ap (λ i. get_or (b ∷ bytes) i 0) last ∙ closes.slash;
    }

pub closing_place : (bytes : List ℕ) (k : ℕ) → closing bytes ≡ Some k → Closes bytes k
unfolding closing
closing_place [] k found = absurd (cc)
closing_place (b ∷ bytes) k found = by_fit (closing_place bytes) (starts_with nat_eq (b ∷ bytes) (codes "*/")) refl found
  where
    moved : ((j : ℕ) → closing bytes ≡ Some j → Closes bytes j) → (place : Option ℕ) → closing bytes ≡ place → option_map (λ j. j + 1) place ≡ Some k → Closes (b ∷ bytes) k
    moved rest None none found = absurd (cc)
    moved rest (Some j) there found =
        let same : j + 1 ≡ k = cc in subst (λ i. Closes (b ∷ bytes) i) same (closes_more b bytes j (rest j there))

    by_fit : ((j : ℕ) → closing bytes ≡ Some j → Closes bytes j) → (v : Bool) → starts_with nat_eq (b ∷ bytes) (codes "*/") ≡ v → cond v (Some 0) (option_map (λ j. j + 1) (closing bytes)) ≡ Some k → Closes (b ∷ bytes) k
    by_fit rest true fit found =
        let same : 0 ≡ k = cc in
        let parts = fits (b ∷ bytes) (codes "*/") fit in
        subst (λ i. Closes (b ∷ bytes) i) same (record {
          within = omega (arith, ap length parts);
          star = ap (λ t. get_or t 0 0) parts;
          slash = ap (λ t. get_or t 1 0) parts;
        })
    by_fit rest false fit found = moved rest (closing bytes) refl found

closed_ends : (text : List ℕ) (k : ℕ) → IsUtf8 text → Closes (drop 2 text) k → Ends text (k + 4)
closed_ends text k utf8 closes =
    let size = length-drop 2 text in
    let place : 2 + (k + 1) ≡ k + 3 = omega arith in
    let slash : get_or text (k + 3) 0 ≡ 47 = ap (λ i. get_or text i 0) (sym place) ∙ sym (get_or-drop 2 text (k + 1) 0) ∙ closes.slash in
    let ascii : get_or text (k + 3) 0 < 128 = omega (arith, slash) in
    let last : k + 3 + 1 ≡ k + 4 = omega arith in
    record {
      some = omega arith;
      edge = subst (λ i. IsCharBoundary text i) last (IsCharBoundary-after_ascii text (k + 3) utf8 (omega (arith, size, closes.within)) ascii);
    }

skip_step : (text : List ℕ) → IsUtf8 text → IsStep text (skip_comment (closing (drop 2 text)))
skip_step text utf8 = by_place (closing (drop 2 text)) refl
  where
    by_place : (place : Option ℕ) → closing (drop 2 text) ≡ place → IsStep text (skip_comment place)
    by_place None none = tt
    by_place (Some k) there = closed_ends text k utf8 (closing_place (drop 2 text) k there)

pub note_step : (block arrow : Bool) (text : List ℕ) → IsUtf8 text → IsStep text (note_piece block arrow text)
note_step block arrow text utf8 =
    either text (begins is_white text) (Blank (blank_len block text)) _
    (λ white. blank_ends block text utf8 white)
    (λ _. either text (starts_with nat_eq text (codes "//")) (Blank (line_len text)) _
    (λ fit. line_ends text utf8 fit)
    (λ _. either text (starts_with nat_eq text (codes "/*")) (if block then Bad 3 (Some 47) else skip_comment (closing (drop 2 text))) (token_at true arrow text)
    (λ _. either text block (Bad 3 (Some 47)) (skip_comment (closing (drop 2 text))) (λ _. tt) (λ _. skip_step text utf8))
    (λ _. token_step true arrow text utf8)))

-- annotations

pub record NoteEnds (text : List ℕ) (note : Note) : Type 0 where
  pub ends : Ends text note.length
  pub from : IsCharBoundary text note.from
  pub to : IsCharBoundary text note.to
  pub order : note.from ≤ note.to
  pub inside : note.to ≤ note.length

abbrev pub IsCodeStep : List ℕ → CodePiece → Type 0
IsCodeStep text (Plain piece) = IsStep text piece
IsCodeStep text (Annotation note) = NoteEnds text note

pub either_code : (text : List ℕ) (b : Bool) (x y : CodePiece) → (b ≡ true → IsCodeStep text x) → (b ≡ false → IsCodeStep text y) → IsCodeStep text (cond b x y)
either_code text true x y first second = first refl
either_code text false x y first second = second refl

-- the at signs that begin a part of a text
lead_edge : (rest : List ℕ) (n : ℕ) → IsUtf8 rest → n ≤ length rest → IsCharBoundary rest (prefix_len is_at_sign (take n rest))
lead_edge rest n utf8 within =
    let size = length-take-le n rest within in
    let lead = prefix_len-le-length is_at_sign (take n rest) in
    ascii_edge rest (prefix_len is_at_sign (take n rest)) utf8 (omega (arith, size, lead))
    (λ k less.
    let inside : k < n = omega (arith, size, lead, less) in
    subst (λ b. b < 128) (get_or-take n rest k 0 inside) (run_ascii is_at_sign (take n rest) at_ascii k less))

line_note : (text : List ℕ) → IsUtf8 text → IsCharBoundary text 2 → NoteEnds text (annotation false (take (line_len (drop 2 text)) (drop 2 text)) (2 + line_len (drop 2 text)))
line_note text utf8 two =
    let rest = drop 2 text in
    let utf8_rest = IsUtf8-drop text 2 utf8 two in
    let n = line_len rest in
    let end = line_edge rest utf8_rest in
    let size : length (take n rest) ≡ n = length-take-le n rest end.0 in
    let whole = IsCharBoundary-from_rest text 2 n two.0 end in
    record {
      ends = record { some = omega arith; edge = whole };
      from = IsCharBoundary-from_rest text 2 (prefix_len is_at_sign (take n rest)) two.0 (lead_edge rest n utf8_rest end.0);
      to = subst (λ k. IsCharBoundary text (2 + k)) (sym size) whole;
      order = omega (arith, prefix_len-le-length is_at_sign (take n rest));
      inside = omega (arith, size);
    }

-- the byte behind what is kept of a block's body is an at sign, or the star that closes it
pub kept_byte : (rest : List ℕ) (k : ℕ) → Closes rest k
    → let b = get_or rest (length (take k rest) - suffix_len is_at_sign (drop (prefix_len is_at_sign (take k rest)) (take k rest))) 0 in (is_at_sign b ≡ true) ⊎ (b ≡ 42)
kept_byte rest k closes = by_trail (suffix_len is_at_sign (drop (prefix_len is_at_sign (take k rest)) (take k rest))) refl
  where
    size : length (take k rest) ≡ k
    size = length-take-le k rest (omega (arith, closes.within))

    by_trail : (trail : ℕ) → suffix_len is_at_sign (drop (prefix_len is_at_sign (take k rest)) (take k rest)) ≡ trail
        → (is_at_sign (get_or rest (length (take k rest) - trail) 0) ≡ true) ⊎ (get_or rest (length (take k rest) - trail) 0 ≡ 42)
    by_trail zero same =
        let place : length (take k rest) - 0 ≡ k = omega (arith, size) in
        inr (ap (λ i. get_or rest i 0) place ∙ closes.star)
    by_trail (suc t) same =
        let body = take k rest in
        let lead = prefix_len is_at_sign body in
        let xs = drop lead body in
        let long = suffix_len-le-length is_at_sign xs in
        let some : t < length xs = omega (arith, long, same) in
        let passes = prefix_len_passes is_at_sign (reverse xs) t 0 (omega (arith, same)) in
        let at = get_or-reverse xs t 0 some in
        let deep = get_or-drop lead body (length xs - 1 - t) 0 in
        let sizes = length-drop lead body in
        let leads = prefix_len-le-length is_at_sign body in
        let place : lead + (length xs - 1 - t) ≡ length body - suc t = omega (arith, sizes, leads, some) in
        let inside : length body - suc t < k = omega (arith, size, some, sizes) in
        let shown = get_or-take k rest (length body - suc t) 0 inside in
        let same_byte : get_or (reverse xs) t 0 ≡ get_or rest (length body - suc t) 0 = at ∙ deep ∙ ap (λ i. get_or body i 0) place ∙ shown in
        inl (ap is_at_sign (sym same_byte) ∙ passes)

kept_ascii : (rest : List ℕ) (k : ℕ) → Closes rest k
    → get_or rest (length (take k rest) - suffix_len is_at_sign (drop (prefix_len is_at_sign (take k rest)) (take k rest))) 0 < 128
kept_ascii rest k closes = by_byte (kept_byte rest k closes)
  where
    by_byte : {b : ℕ} → (is_at_sign b ≡ true) ⊎ (b ≡ 42) → b < 128
    by_byte {b} (inl sign) = at_ascii b sign
    by_byte {b} (inr star) = omega (arith, star)

block_note : (text : List ℕ) (k : ℕ) → IsUtf8 text → IsCharBoundary text 2 → Closes (drop 2 text) k → NoteEnds text (annotation true (take k (drop 2 text)) (k + 4))
block_note text k utf8 two closes =
    let rest = drop 2 text in
    let utf8_rest = IsUtf8-drop text 2 utf8 two in
    let within : k ≤ length rest = omega (arith, closes.within) in
    let body = take k rest in
    let lead = prefix_len is_at_sign body in
    let trail = suffix_len is_at_sign (drop lead body) in
    let size : length body ≡ k = length-take-le k rest within in
    let leads = prefix_len-le-length is_at_sign body in
    let trails = suffix_len-le-length is_at_sign (drop lead body) in
    let sizes = length-drop lead body in
    let less : length body - trail < length rest = omega (arith, closes.within, size) in
    record {
      ends = closed_ends text k utf8 closes;
      from = IsCharBoundary-from_rest text 2 lead two.0 (lead_edge rest k utf8_rest within);
      to = IsCharBoundary-from_rest text 2 (length body - trail) two.0 (IsCharBoundary-before_ascii rest (length body - trail) less (kept_ascii rest k closes));
      order = omega (arith, leads, trails, sizes);
      inside = omega (arith, size);
    }

line_step : (text : List ℕ) → IsUtf8 text → IsCharBoundary text 2 → IsCodeStep text (line_comment (drop 2 text))
unfolding line_comment
line_step text utf8 two =
    either_code text (is_conditional (drop 2 text)) (Plain (Bad 6 None)) _ (λ _. tt)
    (λ _. either_code text (starts_with nat_eq (take (line_len (drop 2 text)) (drop 2 text)) (codes "@")) (Annotation (annotation false (take (line_len (drop 2 text)) (drop 2 text)) (2 + line_len (drop 2 text)))) (Plain (Blank (2 + line_len (drop 2 text))))
    (λ _. line_note text utf8 two) (λ _. (line_note text utf8 two).ends))

block_step : (text : List ℕ) → IsUtf8 text → IsCharBoundary text 2 → IsCodeStep text (block_comment (drop 2 text))
unfolding block_comment
block_step text utf8 two = by_place (closing (drop 2 text)) refl
  where
    by_place : (place : Option ℕ) → closing (drop 2 text) ≡ place → IsCodeStep text (closed_comment (drop 2 text) place)
    by_place None none = tt
    by_place (Some k) there =
        let closes = closing_place (drop 2 text) k there in
        either_code text (is_conditional (drop 2 text)) (Plain (Bad 6 None)) _ (λ _. tt)
        (λ _. either_code text (starts_with nat_eq (take k (drop 2 text)) (codes "@")) (Annotation (annotation true (take k (drop 2 text)) (k + 4))) (Plain (Blank (k + 4)))
        (λ _. block_note text k utf8 two closes) (λ _. closed_ends text k utf8 closes))

pub code_step : (text : List ℕ) → IsUtf8 text → IsCodeStep text (code_piece text)
code_step text utf8 =
    either_code text (begins is_white text) (Plain (Blank (prefix_len is_white text))) _
    (λ white. white_ends text utf8 white)
    (λ _. either_code text (starts_with nat_eq text (codes "//")) (line_comment (drop 2 text)) _
    (λ fit. line_step text utf8 (fit_ends text (codes "//") utf8 refl fit).edge)
    (λ _. either_code text (starts_with nat_eq text (codes "/*")) (block_comment (drop 2 text)) (Plain (token_at false false text))
    (λ fit. block_step text utf8 (fit_ends text (codes "/*") utf8 refl fit).edge)
    (λ _. token_step false false text utf8)))
