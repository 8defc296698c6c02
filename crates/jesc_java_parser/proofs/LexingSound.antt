-- What the steps take that look at the next lexeme, and what their tests say of it.
use Rattle.std.proofs.Common.{◌≡◌, ℕ, Bool, true, false, List, [], ◌∷◌, refl, ap, ◌∙◌}
use Rattle.std.proofs.lemmas.Bool.{and_parts}
use Rattle.std.proofs.lemmas.Slice.Eq.{bytes_eq-Decides}
use Rattle.std.specs.Prelude.{IsTrue, ◌&&◌, bytes_eq}
use Rattle.jesc_text.specs.declared.place.Span.{Span}
use Rattle.jesc_lexer.specs.declared.token.TokenKind.{TokenKind}
use Rattle.jesc_lexer.specs.declared.token.TokenKind.TheVariants as kinds
use Rattle.jesc_ast.specs.Lexemes.{Lexeme, chosen_word, chosen_sign}
use Rattle.jesc_jml_grammar.specs.Marks.{is_same_side}
use Rattle.jesc_jml_grammar.specs.Steps.{take_one, refuse}
use Rattle.jesc_jml_parser.specs.laws.SoundSteps.{Gives, gives_if, gives_so}
use Rattle.jesc_java_grammar.specs.Lexing.{is_word_kind, is_sign_kind, is_word_that, is_sign_that, is_word, is_sign, take_if}

-- ---- what the tests say

abbrev lexeme_as : TokenKind → List ℕ → Span → Bool → Lexeme
lexeme_as kind text span side = record { kind = kind; text = text; span = span; note = side }

word_kind : (kind : TokenKind) → is_word_kind kind ≡ true → kind ≡ kinds.Word
word_kind kinds.Word e = refl
word_kind _ e = absurd cc

sign_kind : (kind : TokenKind) → is_sign_kind kind ≡ true → kind ≡ kinds.Sign
sign_kind kinds.Sign e = refl
sign_kind _ e = absurd cc

same_side : (note side : Bool) → is_same_side note side ≡ true → side ≡ note
same_side true true e = refl
same_side false false e = refl
same_side true false e = absurd cc
same_side false true e = absurd cc

made_so : (kind other : TokenKind) (text : List ℕ) (span : Span) (side note : Bool) → kind ≡ other → side ≡ note → lexeme_as kind text span side ≡ lexeme_as other text span note
made_so kind other text span side note k s = cc

-- a word or a sign of this side, whose text passes the test
pub word_that : (test : List ℕ → Bool) (note : Bool) (x : Lexeme) → is_word_that test note x ≡ true → (x ≡ chosen_word note x.text x.span) × IsTrue (test x.text)
word_that test note x e =
    let outer = and_parts (is_word_kind x.kind && is_same_side note x.note) (test x.text) e in
    let inner = and_parts (is_word_kind x.kind) (is_same_side note x.note) outer.0 in
    (made_so x.kind kinds.Word x.text x.span x.note note (word_kind x.kind inner.0) (same_side note x.note inner.1), outer.1)

pub sign_that : (test : List ℕ → Bool) (note : Bool) (x : Lexeme) → is_sign_that test note x ≡ true → (x ≡ chosen_sign note x.text x.span) × IsTrue (test x.text)
sign_that test note x e =
    let outer = and_parts (is_sign_kind x.kind && is_same_side note x.note) (test x.text) e in
    let inner = and_parts (is_sign_kind x.kind) (is_same_side note x.note) outer.0 in
    (made_so x.kind kinds.Sign x.text x.span x.note note (sign_kind x.kind inner.0) (same_side note x.note inner.1), outer.1)

-- where it has one text
pub word_is : (text : List ℕ) (note : Bool) (x : Lexeme) → is_word text note x ≡ true → x ≡ chosen_word note text x.span
word_is text note x e =
    let is = word_that (λ t. bytes_eq t text) note x e in
    is.0 ∙ ap (λ (t : List ℕ). chosen_word note t x.span) ((bytes_eq-Decides x.text text).0 is.1)

pub sign_is : (text : List ℕ) (note : Bool) (x : Lexeme) → is_sign text note x ≡ true → x ≡ chosen_sign note text x.span
sign_is text note x e =
    let is = sign_that (λ t. bytes_eq t text) note x e in
    is.0 ∙ ap (λ (t : List ℕ). chosen_sign note t x.span) ((bytes_eq-Decides x.text text).0 is.1)

-- ---- what is taken

pub record TookIf (test : Lexeme → Bool) (ts : List Lexeme) (x : Lexeme) (rest : List Lexeme) : Type 0 where
  pub at : ts ≡ x ∷ rest
  pub passes : test x ≡ true

pub took_if : (test : Lexeme → Bool) (ts : List Lexeme) → Gives (take_if test ts) (TookIf test ts)
unfolding take_if take_one
took_if test [] = tt
took_if test (x ∷ xs) = gives_if (test x) take_one refuse (TookIf test (x ∷ xs)) (x ∷ xs) (λ e. record { at = refl; passes = e }) (λ e. tt)

-- a lexeme that all but its span is known of
pub record TookThis (made : Span → Lexeme) (ts : List Lexeme) (x : Lexeme) (rest : List Lexeme) : Type 0 where
  pub at : ts ≡ x ∷ rest
  pub is : x ≡ made x.span

pub took_this_word : (text : List ℕ) (note : Bool) (ts : List Lexeme) → Gives (take_if (is_word text note) ts) (TookThis (chosen_word note text) ts)
took_this_word text note ts =
    gives_so (TookIf (is_word text note) ts) (TookThis (chosen_word note text) ts) (take_if (is_word text note) ts) (took_if (is_word text note) ts)
    (λ x rest h. record { at = h.at; is = word_is text note x h.passes })

pub took_this_sign : (text : List ℕ) (note : Bool) (ts : List Lexeme) → Gives (take_if (is_sign text note) ts) (TookThis (chosen_sign note text) ts)
took_this_sign text note ts =
    gives_so (TookIf (is_sign text note) ts) (TookThis (chosen_sign note text) ts) (take_if (is_sign text note) ts) (took_if (is_sign text note) ts)
    (λ x rest h. record { at = h.at; is = sign_is text note x h.passes })
