-- What the word of a lexeme says of it.
use Rattle.std.proofs.Common.{◌≡◌, ℕ, Bool, true, false, List, [], ◌∷◌, refl, sym, ap, ◌∙◌, subst, inl, inr}
use Rattle.std.proofs.lemmas.Bool.{or_cases, both_ways}
use Rattle.std.proofs.lemmas.Slice.Eq.{bytes_eq-Decides}
use Rattle.std.specs.Prelude.{if◌then◌else◌, IsTrue, bytes_eq, codes, not}
use denote.Enum.Bare.{same_true}
use Rattle.jesc_text.specs.declared.place.Span.{Span}
use Rattle.jesc_lexer.specs.declared.token.TokenKind.{TokenKind}
use Rattle.jesc_lexer.specs.declared.token.TokenKind.TheVariants as kinds
use Rattle.jesc_ast.specs.Lexemes.{Lexeme, chosen_word, chosen_sign}
use Rattle.jesc_ast.specs.Words.{is_one_of}
use Rattle.jesc_ast.specs.SpecTrees.{Promise, promises, assigns, signals, signals_only}
use Rattle.jesc_ast.specs.Specifications.{is_normal, is_exceptional, is_heading, may_stand}
use Rattle.jesc_ast.specs.Members.{is_note_modifier}
use Rattle.jesc_jml_grammar.specs.contracts.note_word.NoteWord.{the_type}
use Rattle.jesc_jml_grammar.specs.declared.note_word.NoteWord.{NoteWord}
use Rattle.jesc_jml_grammar.specs.declared.note_word.NoteWord.TheVariants as w
use Rattle.jesc_jml_grammar.specs.ClauseMarks.{texts, word_among, member_word, case_word, plain_word, word_of_kind, note_word, same_word, is_heading_word, may_begin_clause, is_modifier_word, is_represents_sign}

-- ---- one of some texts

abbrev pub AllHold : (List ℕ → Type 0) → List (List ℕ) → Type 0
AllHold P [] = Unit {0}
AllHold P (text ∷ texts) = P text × AllHold P texts

-- what holds of each of these texts holds of one of them
pub of_one_of : (P : List ℕ → Type 0) (words : List (List ℕ)) (text : List ℕ) → AllHold P words → is_one_of words text ≡ true → P text
of_one_of P [] text all e = absurd cc
of_one_of P (word ∷ words) text all e =
    elim (or_cases (bytes_eq text word) (is_one_of words text) e) [
      | inl here ↦ subst P (sym ((bytes_eq-Decides text word).0 here)) all.0
      | inr there ↦ of_one_of P words text all.1 there
    ]

-- ---- the lexemes of a word

abbrev lexeme_as : TokenKind → List ℕ → Span → Bool → Lexeme
lexeme_as kind text span side = record { kind = kind; text = text; span = span; note = side }

abbrev pub kind_of_word : NoteWord → TokenKind
kind_of_word w.Nothing = kinds.Backslash
kind_of_word w.Everything = kinds.Backslash
kind_of_word w.Equals = kinds.Sign
kind_of_word w.Arrow = kinds.Sign
kind_of_word w.Range = kinds.Sign
kind_of_word _ = kinds.Word

-- it stands in an annotation, with a text of the word's
abbrev pub IsNoted : NoteWord → Lexeme → Type 0
IsNoted w.Other x = Unit {0}
IsNoted word x = (x ≡ lexeme_as (kind_of_word word) x.text x.span true) × IsTrue (is_one_of (texts word) x.text)

-- ---- the first of some words

abbrev Each : (NoteWord → Type 0) → List ℕ → List NoteWord → Type 0
Each P text [] = Unit {0}
Each P text (word ∷ words) = (IsTrue (is_one_of (texts word) text) → P word) × Each P text words

among_one : (P : NoteWord → Type 0) (word more : NoteWord) (text : List ℕ) → (IsTrue (is_one_of (texts word) text) → P word) → P more
    → (b : Bool) → is_one_of (texts word) text ≡ b → P (if b then word else more)
among_one P word more text here there true e = here e
among_one P word more text here there false e = there

among : (P : NoteWord → Type 0) (words : List NoteWord) (other : NoteWord) (text : List ℕ) → Each P text words → P other → P (word_among words other text)
among P [] last text each p = p
among P (word ∷ words) last text each p =
    among_one P word (word_among words last text) text each.0 (among P words last text each.1 p) (is_one_of (texts word) text) refl

-- ---- each kind of lexeme

member_noted : (text : List ℕ) (span : Span) → IsNoted (member_word text) (lexeme_as kinds.Word text span true)
member_noted text span =
    among (λ word. IsNoted word (lexeme_as kinds.Word text span true)) (w.Instance ∷ w.Modifier ∷ w.Invariant ∷ w.Represents ∷ w.Field ∷ w.In ∷ []) w.Other text
    ((λ e. (refl, e)), ((λ e. (refl, e)), ((λ e. (refl, e)), ((λ e. (refl, e)), ((λ e. (refl, e)), ((λ e. (refl, e)), tt)))))) tt

case_noted : (text : List ℕ) (span : Span) → IsNoted (case_word text) (lexeme_as kinds.Word text span true)
case_noted text span =
    among (λ word. IsNoted word (lexeme_as kinds.Word text span true)) (w.Also ∷ w.Visibility ∷ w.Behavior ∷ w.NormalBehavior ∷ w.ExceptionalBehavior ∷ []) (member_word text) text
    ((λ e. (refl, e)), ((λ e. (refl, e)), ((λ e. (refl, e)), ((λ e. (refl, e)), ((λ e. (refl, e)), tt))))) (member_noted text span)

plain_noted : (text : List ℕ) (span : Span) → IsNoted (plain_word text) (lexeme_as kinds.Word text span true)
plain_noted text span =
    among (λ word. IsNoted word (lexeme_as kinds.Word text span true)) (w.Requires ∷ w.Ensures ∷ w.Assignable ∷ w.Signals ∷ w.SignalsOnly ∷ []) (case_word text) text
    ((λ e. (refl, e)), ((λ e. (refl, e)), ((λ e. (refl, e)), ((λ e. (refl, e)), ((λ e. (refl, e)), tt))))) (case_noted text span)

noted_as : (kind : TokenKind) (text : List ℕ) (span : Span) → IsNoted (word_of_kind kind text) (lexeme_as kind text span true)
noted_as kinds.Word text span = plain_noted text span
noted_as kinds.Backslash text span =
    among (λ word. IsNoted word (lexeme_as kinds.Backslash text span true)) (w.Nothing ∷ w.Everything ∷ []) w.Other text
    ((λ e. (refl, e)), ((λ e. (refl, e)), tt)) tt
noted_as kinds.Number text span = tt
noted_as kinds.Sign text span =
    among (λ word. IsNoted word (lexeme_as kinds.Sign text span true)) (w.Equals ∷ w.Arrow ∷ w.Range ∷ []) w.Other text
    ((λ e. (refl, e)), ((λ e. (refl, e)), ((λ e. (refl, e)), tt))) tt

noted_on : (side : Bool) (kind : TokenKind) (text : List ℕ) (span : Span) → IsNoted (note_word (lexeme_as kind text span side)) (lexeme_as kind text span side)
noted_on true kind text span = noted_as kind text span
noted_on false kind text span = tt

-- a lexeme is one of its word's
pub noted : (word : NoteWord) (x : Lexeme) → note_word x ≡ word → IsNoted word x
noted word x e = subst (λ (z : NoteWord). IsNoted z x) e (noted_on x.note x.kind x.text x.span)

-- where the word has one text alone
pub noted_so : (kind : TokenKind) (text : List ℕ) (x : Lexeme) → (x ≡ lexeme_as kind x.text x.span true) × IsTrue (is_one_of (text ∷ []) x.text)
    → x ≡ lexeme_as kind text x.span true
noted_so kind text x h = h.0 ∙ ap (λ (z : List ℕ). lexeme_as kind z x.span true) (of_one_of (λ z. z ≡ text) (text ∷ []) x.text (refl, tt) h.1)

-- ---- the same word

pub same_word_is : (a b : NoteWord) → same_word a b ≡ true → a ≡ b
unfolding same_word
same_word_is a b e = same_true the_type tt a b e

-- ---- headings

-- what its clauses begin with
abbrev pub word_of_promise : Promise → NoteWord
word_of_promise (promises c) = w.Ensures
word_of_promise (assigns x ts) = w.Assignable
word_of_promise (signals x p class n e) = w.Signals
word_of_promise (signals_only s ws) = w.SignalsOnly

pub record Heads (word : NoteWord) (x : Lexeme) : Type 0 where
  pub at : x ≡ chosen_word true x.text x.span
  pub heading : IsTrue (is_heading x.text)
  pub allows : (c : Promise) → may_begin_clause word (word_of_promise c) ≡ true → may_stand x.text c ≡ true

any_stands : (text : List ℕ) → is_exceptional text ≡ false → is_normal text ≡ false → (c : Promise) → may_stand text c ≡ true
any_stands text e n (promises c) = ap not e
any_stands text e n (assigns x ts) = refl
any_stands text e n (signals x p class m v) = ap not n
any_stands text e n (signals_only s ws) = ap not n

normal_stands : (text : List ℕ) → is_exceptional text ≡ false → (c : Promise) → may_begin_clause w.NormalBehavior (word_of_promise c) ≡ true → may_stand text c ≡ true
unfolding same_word
normal_stands text e (promises c) may = ap not e
normal_stands text e (assigns x ts) may = refl
normal_stands text e (signals x p class m v) may = absurd cc
normal_stands text e (signals_only s ws) may = absurd cc

exceptional_stands : (text : List ℕ) → is_normal text ≡ false → (c : Promise) → may_begin_clause w.ExceptionalBehavior (word_of_promise c) ≡ true → may_stand text c ≡ true
unfolding same_word
exceptional_stands text n (promises c) may = absurd cc
exceptional_stands text n (assigns x ts) may = refl
exceptional_stands text n (signals x p class m v) may = ap not n
exceptional_stands text n (signals_only s ws) may = ap not n

pub heads : (word : NoteWord) → is_heading_word word ≡ true → (x : Lexeme) → note_word x ≡ word → Heads word x
heads w.Behavior is x e =
    let at = noted w.Behavior x e in
    record {
      at = at.0;
      heading = of_one_of (λ z. IsTrue (is_heading z)) (texts w.Behavior) x.text (refl, (refl, tt)) at.1;
      allows = λ c may. any_stands x.text
          (of_one_of (λ z. is_exceptional z ≡ false) (texts w.Behavior) x.text (refl, (refl, tt)) at.1)
          (of_one_of (λ z. is_normal z ≡ false) (texts w.Behavior) x.text (refl, (refl, tt)) at.1) c;
    }
heads w.NormalBehavior is x e =
    let at = noted w.NormalBehavior x e in
    record {
      at = at.0;
      heading = of_one_of (λ z. IsTrue (is_heading z)) (texts w.NormalBehavior) x.text (refl, (refl, tt)) at.1;
      allows = normal_stands x.text (of_one_of (λ z. is_exceptional z ≡ false) (texts w.NormalBehavior) x.text (refl, (refl, tt)) at.1);
    }
heads w.ExceptionalBehavior is x e =
    let at = noted w.ExceptionalBehavior x e in
    record {
      at = at.0;
      heading = of_one_of (λ z. IsTrue (is_heading z)) (texts w.ExceptionalBehavior) x.text (refl, (refl, tt)) at.1;
      allows = exceptional_stands x.text (of_one_of (λ z. is_normal z ≡ false) (texts w.ExceptionalBehavior) x.text (refl, (refl, tt)) at.1);
    }
heads _ is x e = absurd cc

-- ---- modifiers and signs

pub record Modifies (x : Lexeme) : Type 0 where
  pub at : x ≡ chosen_word true x.text x.span
  pub modifier : IsTrue (is_note_modifier x.text)

pub modifies : (word : NoteWord) → is_modifier_word word ≡ true → (x : Lexeme) → note_word x ≡ word → Modifies x
modifies w.Visibility is x e =
    let at = noted w.Visibility x e in
    record { at = at.0; modifier = of_one_of (λ z. IsTrue (is_note_modifier z)) (texts w.Visibility) x.text (refl, (refl, (refl, tt))) at.1 }
modifies w.Instance is x e =
    let at = noted w.Instance x e in
    record { at = at.0; modifier = of_one_of (λ z. IsTrue (is_note_modifier z)) (texts w.Instance) x.text (refl, tt) at.1 }
modifies w.Modifier is x e =
    let at = noted w.Modifier x e in
    record { at = at.0; modifier = of_one_of (λ z. IsTrue (is_note_modifier z)) (texts w.Modifier) x.text (refl, (refl, (refl, (refl, (refl, (refl, tt)))))) at.1 }
modifies _ is x e = absurd cc

abbrev note_modifiers : List (List ℕ)
note_modifiers = codes "public" ∷ codes "protected" ∷ codes "private" ∷ codes "pure" ∷ codes "helper" ∷ codes "nullable" ∷ codes "non_null"
    ∷ codes "spec_public" ∷ codes "spec_protected" ∷ codes "instance" ∷ []

no_modifier_if : (text : List ℕ) → is_modifier_word (plain_word text) ≡ false → (b : Bool) → is_note_modifier text ≡ b → not b ≡ true
no_modifier_if text none true e =
    let yes : is_modifier_word (plain_word text) ≡ true =
    of_one_of (λ z. is_modifier_word (plain_word z) ≡ true) note_modifiers text (refl, (refl, (refl, (refl, (refl, (refl, (refl, (refl, (refl, (refl, tt)))))))))) e in
    absurd (both_ways (is_modifier_word (plain_word text)) none yes)
no_modifier_if text none false e = refl

-- a word that is no modifier to the parser has no modifier's text
pub no_modifier : (text : List ℕ) → is_modifier_word (plain_word text) ≡ false → IsTrue (not (is_note_modifier text))
no_modifier text none = no_modifier_if text none (is_note_modifier text) refl

pub record Represents (x : Lexeme) : Type 0 where
  pub at : x ≡ chosen_sign true x.text x.span
  pub is : IsTrue (is_one_of (codes "=" ∷ codes "<-" ∷ []) x.text)

pub represents_by : (word : NoteWord) → is_represents_sign word ≡ true → (x : Lexeme) → note_word x ≡ word → Represents x
represents_by w.Equals is x e =
    let at = noted w.Equals x e in
    record { at = at.0; is = of_one_of (λ z. IsTrue (is_one_of (codes "=" ∷ codes "<-" ∷ []) z)) (texts w.Equals) x.text (refl, tt) at.1 }
represents_by w.Arrow is x e =
    let at = noted w.Arrow x e in
    record { at = at.0; is = of_one_of (λ z. IsTrue (is_one_of (codes "=" ∷ codes "<-" ∷ []) z)) (texts w.Arrow) x.text (refl, tt) at.1 }
represents_by _ is x e = absurd cc
