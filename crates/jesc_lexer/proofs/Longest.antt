-- Each token of a reading is the longest at its place.
use Rattle.std.proofs.Common.{◌≡◌, ◌<◌, ℕ, ◌-◌, List, [], ◌∷◌, ◌++◌, length, drop, take, refl, sym, ap, ◌∙◌, subst, arith, Bool, true, false, ◌&&◌, ◌==◌, ◌⊎◌, inl, inr, nat_eq, codes, length-drop, length-append, take-append-drop}
use Rattle.std.specs.List.{starts_with}
use Rattle.std.specs.Str.{IsUtf8, chars}
use Rattle.std.proofs.lemmas.Str.{IsUtf8-append}
use Rattle.std.proofs.lemmas.List.{drop-drop, drop_at}
use Rattle.std.proofs.lemmas.Bool.{and_parts}
use Rattle.std.proofs.lemmas.Bool.Decides.{nat_tests}
use Rattle.unicode_ident.specs.Ident.{is_xid_continue}
use Rattle.jesc_lexer.specs.Characters.{begins}
use Rattle.jesc_lexer.specs.Lexemes.{note_signs, double_signs, single_signs, signs_of, token_at}
use Rattle.jesc_lexer.specs.Longest.{AreNamed, IsSignAt, IsTokenAt, IsLongest}
use Rattle.jesc_lexer.specs.Reading.{token, token_text, is_word, is_represents, is_named, after_represents}
use Rattle.jesc_lexer.specs.Inner.{Ends}
use Rattle.jesc_lexer.specs.Texts.{IsOneOf}
use Rattle.jesc_lexer.specs.declared.token.Token.{Token}
use Rattle.jesc_lexer.specs.declared.token.TokenKind.{TokenKind}
use Rattle.jesc_lexer.specs.declared.token.TokenKind.TheVariants.{Word, Backslash, Number, Sign}
use Rattle.jesc_lexer.specs.declared.piece.Piece.TheVariants.{Lexeme}
use Rattle.jesc_lexer.proofs.Fronts.{IsForm, IsFront, IsStopped, token_taken, front_longest}
use Rattle.jesc_lexer.proofs.KindTexts.{one_more, text_is}
use Rattle.jesc_lexer.proofs.Steps.{fits}

-- ---- whether `<-` is a sign

word_is : (kind : TokenKind) → is_word kind ≡ true → kind ≡ Word
word_is Word one = refl
word_is Backslash one = absurd (cc)
word_is Number one = absurd (cc)
word_is Sign one = absurd (cc)

represents_is : (bytes : List ℕ) → is_represents bytes ≡ true → bytes ≡ codes "represents"
represents_is bytes one =
    let parts = and_parts (starts_with nat_eq bytes (codes "represents")) (length bytes == 10) one in
    let whole = fits bytes (codes "represents") parts.0 in
    let size : length bytes ≡ 10 = grind (arith, nat_tests) in
    let rest : drop 10 bytes ≡ [] = empty (drop 10 bytes) (omega (arith, length-drop 10 bytes, size)) in
    whole ∙ ap (λ l. codes "represents" ++ l) rest
  where
    empty : (xs : List ℕ) → length xs ≡ 0 → xs ≡ []
    empty [] none = refl
    empty (x ∷ xs) none = absurd (omega arith)

named : (text : List ℕ) (before : List Token) → after_represents text before ≡ true → AreNamed text before
unfolding after_represents
named text before one = by_last (drop (length before - 2) before) refl one
  where
    by_last : (last : List Token) → drop (length before - 2) before ≡ last → is_named text last ≡ true → AreNamed text before
    by_last [] is one = absurd (cc)
    by_last (first ∷ []) is one = absurd (cc)
    by_last (first ∷ (second ∷ [])) is one =
        let parts = and_parts (is_word second.kind) (is_represents (token_text text first)) one in
        record {
          earlier = take (length before - 2) before;
          first = first;
          second = second;
          whole = sym (take-append-drop (length before - 2) before) ∙ ap (λ l. take (length before - 2) before ++ l) is;
          represents = represents_is (token_text text first) parts.1;
          word = word_is second.kind parts.0;
        }
    by_last (first ∷ (second ∷ (third ∷ more))) is one = absurd (cc)

unnamed : (text : List ℕ) (before : List Token) → AreNamed text before → after_represents text before ≡ true
unfolding after_represents
unnamed text before names =
    let two = names.first ∷ (names.second ∷ []) in
    let size : length before - 2 ≡ length names.earlier = omega (arith, ap length names.whole, length-append names.earlier two) in
    let last : drop (length before - 2) before ≡ two = ap (λ n. drop n before) size ∙ ap (drop (length names.earlier)) names.whole ∙ drop_at names.earlier two (length names.earlier) refl in
    ap (is_named text) last ∙ rw (names.word, names.represents) refl

-- ---- signs at a place

one_apart : (xs ys : List (List ℕ)) (sign own : List ℕ) → IsOneOf (xs ++ sign ∷ ys) own → IsOneOf (xs ++ ys) own ⊎ (own ≡ sign)
one_apart [] ys sign own (inl same) = inr same
one_apart [] ys sign own (inr other) = inl other
one_apart (x ∷ xs) ys sign own (inl same) = inl (inl same)
one_apart (x ∷ xs) ys sign own (inr other) = later (one_apart xs ys sign own other)
  where
    later : IsOneOf (xs ++ ys) own ⊎ (own ≡ sign) → IsOneOf (x ∷ xs ++ ys) own ⊎ (own ≡ sign)
    later (inl here) = inl (inr here)
    later (inr there) = inr there

one_there : (xs ys : List (List ℕ)) (sign : List ℕ) → IsOneOf (xs ++ sign ∷ ys) sign
one_there [] ys sign = inl refl
one_there (x ∷ xs) ys sign = inr (one_there xs ys sign)

sign_of : (text : List ℕ) (before : List Token) (note : Bool) (own : List ℕ) → IsOneOf (signs_of note (note && after_represents text before)) own → IsSignAt text before note own
sign_of text before false own one = one
sign_of text before true own one = by_arrow (after_represents text before) refl one
  where
    by_arrow : (arrow : Bool) → after_represents text before ≡ arrow → IsOneOf (signs_of true arrow) own → IsSignAt text before true own
    by_arrow false is one = inl one
    by_arrow true is one = apart (one_apart note_signs (double_signs ++ single_signs) (codes "<-") own one)
      where
        apart : IsOneOf (note_signs ++ (double_signs ++ single_signs)) own ⊎ (own ≡ codes "<-") → IsSignAt text before true own
        apart (inl plain) = inl plain
        apart (inr same) = inr (same, named text before is)

sign_at_place : (text : List ℕ) (before : List Token) (note : Bool) (own : List ℕ) → IsSignAt text before note own → IsOneOf (signs_of note (note && after_represents text before)) own
sign_at_place text before false own one = one
sign_at_place text before true own (inl plain) = by_arrow (after_represents text before)
  where
    by_arrow : (arrow : Bool) → IsOneOf (signs_of true arrow) own
    by_arrow false = plain
    by_arrow true = one_more note_signs (double_signs ++ single_signs) (codes "<-") own plain
sign_at_place text before true own (inr arrow) =
    rw (unnamed text before arrow.1, arrow.0) (one_there note_signs (double_signs ++ single_signs) (codes "<-"))

form_at : (text : List ℕ) (before : List Token) (note : Bool) (kind : TokenKind) (own : List ℕ) → IsForm note (note && after_represents text before) kind own → IsTokenAt text before note kind own
form_at text before note Word own form = form
form_at text before note Backslash own form = form
form_at text before note Number own form = form
form_at text before note Sign own form = sign_of text before note own form

form_of : (text : List ℕ) (before : List Token) (note : Bool) (kind : TokenKind) (own : List ℕ) → IsTokenAt text before note kind own → IsForm note (note && after_represents text before) kind own
form_of text before note Word own form = form
form_of text before note Backslash own form = form
form_of text before note Number own form = form
form_of text before note Sign own form = sign_at_place text before note own form

-- ---- one token

-- what stands from an offset on: the rest of the code or of an annotation's inside, and what stands behind that
pub record IsHere (text : List ℕ) (at : ℕ) (rest behind : List ℕ) : Type 0 where
  pub spells : drop at text ≡ rest ++ behind
  pub rest_text : IsUtf8 rest
  pub behind_text : IsUtf8 behind
  pub stopped : IsStopped behind

apart_end : (note arrow : Bool) (kind : TokenKind) (text : List ℕ) (n : ℕ) → IsFront note arrow kind text n → kind ≡ Number → begins is_xid_continue (chars (drop n text)) ≡ false
apart_end note arrow Word text n front is = absurd (cc)
apart_end note arrow Backslash text n front is = absurd (cc)
apart_end note arrow Number text n front is = front.end
apart_end note arrow Sign text n front is = absurd (cc)

pub longest_here : (text : List ℕ) (file at n : ℕ) (note : Bool) (kind : TokenKind) (rest behind : List ℕ) (before : List Token) → IsHere text at rest behind → 0 < length rest → Ends rest n
    → token_at note (note && after_represents text before) rest ≡ Lexeme kind n → IsLongest text before (token file note at kind n)
longest_here text file at n note kind rest behind before here filled ends is =
    let arrow = note && after_represents text before in
    let found = token_taken note arrow rest behind kind n here.rest_text filled here.stopped ends is in
    let utf8 = IsUtf8-append rest behind here.rest_text here.behind_text in
    let size : length (rest ++ behind) ≡ length text - at = ap length (sym here.spells) ∙ length-drop at text in
    let own_is = text_is text rest file at n note kind (record { more = behind; spells = here.spells }) ends.edge.0 in
    record {
      own = form_at text before note kind _ (subst (IsForm note arrow kind) (sym own_is) found.0);
      longest = λ other to within form.
          let there = subst (λ l. IsForm note arrow other (take (to - at) l)) here.spells (form_of text before note other _ form) in
          let known = front_longest note arrow kind other (rest ++ behind) n (to - at) utf8 found.1 (omega (arith, size, within)) there in
          (known.0, omega (arith, known.1));
      apart = λ number. ap (λ l. begins is_xid_continue (chars l)) (sym (drop-drop n at text) ∙ ap (drop n) here.spells) ∙ apart_end note arrow kind (rest ++ behind) n found.1 number;
    }
