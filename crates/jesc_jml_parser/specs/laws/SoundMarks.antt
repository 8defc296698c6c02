-- What the mark of a lexeme says of it.
use Rattle.std.proofs.Common.{◌≡◌, ℕ, Bool, true, false, List, [], ◌∷◌, refl, ap, subst}
use Rattle.std.proofs.lemmas.Slice.Eq.{bytes_eq-Decides}
use Rattle.std.specs.Prelude.{if◌then◌else◌, IsTrue, bytes_eq}
use denote.Enum.Bare.{same_true}
use Rattle.jesc_text.specs.declared.place.Span.{Span}
use Rattle.jesc_lexer.specs.declared.token.TokenKind.{TokenKind}
use Rattle.jesc_lexer.specs.declared.token.TokenKind.TheVariants as kinds
use Rattle.jesc_ast.specs.Lexemes.{Lexeme, word, backslash, sign, chosen_word, chosen_backslash, chosen_sign, number_of}
use Rattle.jesc_ast.specs.Words.{is_name}
use Rattle.jesc_jml_grammar.specs.contracts.mark.Mark.{the_type}
use Rattle.jesc_jml_grammar.specs.declared.mark.Mark.{Mark}
use Rattle.jesc_jml_grammar.specs.declared.mark.Mark.TheVariants as m
use Rattle.jesc_jml_grammar.specs.Marks.{spelling, mark_among, keyword_mark, backslash_mark, note_sign_mark, other_sign_mark, sign_mark, mark_of, lexeme_mark}
use Rattle.jesc_jml_grammar.specs.Steps.{same_mark}

-- the lexemes of a mark, of the side that `note` tells
abbrev pub IsMarked : Bool → Mark → Lexeme → Type 0
IsMarked note m.Name x = (x ≡ chosen_word note x.text x.span) × IsTrue (is_name x.text)
IsMarked note m.Number x = x ≡ number_of note x.text x.span
IsMarked note m.True x = x ≡ word note "true" x.span
IsMarked note m.False x = x ≡ word note "false" x.span
IsMarked note m.Null x = x ≡ word note "null" x.span
IsMarked note m.This x = x ≡ word note "this" x.span
IsMarked note m.New x = x ≡ word note "new" x.span
IsMarked note m.Super x = x ≡ word note "super" x.span
IsMarked note m.InstanceOf x = x ≡ word note "instanceof" x.span
IsMarked note m.Int x = x ≡ word note "int" x.span
IsMarked note m.Long x = x ≡ word note "long" x.span
IsMarked note m.Boolean x = x ≡ word note "boolean" x.span
IsMarked note m.Result x = IsTrue note × (x ≡ backslash note "\\result" x.span)
IsMarked note m.Old x = IsTrue note × (x ≡ backslash note "\\old" x.span)
IsMarked note m.Fresh x = IsTrue note × (x ≡ backslash note "\\fresh" x.span)
IsMarked note m.Forall x = IsTrue note × (x ≡ backslash note "\\forall" x.span)
IsMarked note m.Exists x = IsTrue note × (x ≡ backslash note "\\exists" x.span)
IsMarked note m.LeftParen x = x ≡ sign note "(" x.span
IsMarked note m.RightParen x = x ≡ sign note ")" x.span
IsMarked note m.Dot x = x ≡ sign note "." x.span
IsMarked note m.Comma x = x ≡ sign note "," x.span
IsMarked note m.Semicolon x = x ≡ sign note ";" x.span
IsMarked note m.LeftBracket x = x ≡ sign note "[" x.span
IsMarked note m.RightBracket x = x ≡ sign note "]" x.span
IsMarked note m.Plus x = x ≡ sign note "+" x.span
IsMarked note m.Minus x = x ≡ sign note "-" x.span
IsMarked note m.Times x = x ≡ sign note "*" x.span
IsMarked note m.Quotient x = x ≡ sign note "/" x.span
IsMarked note m.Remainder x = x ≡ sign note "%" x.span
IsMarked note m.Less x = x ≡ sign note "<" x.span
IsMarked note m.LessEqual x = x ≡ sign note "<=" x.span
IsMarked note m.Greater x = x ≡ sign note ">" x.span
IsMarked note m.GreaterEqual x = x ≡ sign note ">=" x.span
IsMarked note m.Equal x = x ≡ sign note "==" x.span
IsMarked note m.Unequal x = x ≡ sign note "!=" x.span
IsMarked note m.And x = x ≡ sign note "&&" x.span
IsMarked note m.Or x = x ≡ sign note "||" x.span
IsMarked note m.Not x = x ≡ sign note "!" x.span
IsMarked note m.Question x = x ≡ sign note "?" x.span
IsMarked note m.Colon x = x ≡ sign note ":" x.span
IsMarked note m.Implies x = IsTrue note × (x ≡ sign note "==>" x.span)
IsMarked note m.Iff x = IsTrue note × (x ≡ sign note "<==>" x.span)
IsMarked note m.NotIff x = IsTrue note × (x ≡ sign note "<=!=>" x.span)
IsMarked note _ x = Unit {0}

-- ---- the first of some marks

abbrev Each : (Mark → Type 0) → List ℕ → List Mark → Type 0
Each P text [] = Unit {0}
Each P text (mark ∷ marks) = (text ≡ spelling mark → P mark) × Each P text marks

among_one : (P : Mark → Type 0) (mark : Mark) (more : Mark) (text : List ℕ) → (text ≡ spelling mark → P mark) → P more
    → (b : Bool) → bytes_eq text (spelling mark) ≡ b → P (if b then mark else more)
among_one P mark more text here there true e = here ((bytes_eq-Decides text (spelling mark)).0 e)
among_one P mark more text here there false e = there

among : (P : Mark → Type 0) (marks : List Mark) (other : Mark) (text : List ℕ) → Each P text marks → P other → P (mark_among marks other text)
among P [] other text each p = p
among P (mark ∷ marks) other text each p =
    among_one P mark (mark_among marks other text) text each.0 (among P marks other text each.1 p) (bytes_eq text (spelling mark)) refl

abbrev keywords : List Mark
keywords = m.True ∷ m.False ∷ m.Null ∷ m.This ∷ m.New ∷ m.Super ∷ m.InstanceOf ∷ m.Int ∷ m.Long ∷ m.Boolean ∷ []

abbrev backslashes : List Mark
backslashes = m.Result ∷ m.Old ∷ m.Fresh ∷ m.Forall ∷ m.Exists ∷ []

abbrev note_signs : List Mark
note_signs = m.Implies ∷ m.Iff ∷ m.NotIff ∷ []

abbrev other_signs : List Mark
other_signs = m.Less ∷ m.LessEqual ∷ m.Greater ∷ m.GreaterEqual ∷ m.Equal ∷ m.Unequal ∷ m.And ∷ m.Or ∷ m.Not ∷ m.Question ∷ m.Colon ∷ []

abbrev signs : List Mark
signs = m.LeftParen ∷ m.RightParen ∷ m.Dot ∷ m.Comma ∷ m.Semicolon ∷ m.LeftBracket ∷ m.RightBracket ∷ m.Plus ∷ m.Minus ∷ m.Times ∷ m.Quotient ∷ m.Remainder ∷ []

-- ---- each kind of lexeme

word_marked : (note : Bool) (text : List ℕ) (span : Span) (b : Bool) → is_name text ≡ b
    → IsMarked note (if b then m.Name else keyword_mark text) (chosen_word note text span)
word_marked note text span true e = (refl, e)
word_marked note text span false e =
    let at = λ (t : List ℕ) (same : text ≡ t). ap (λ (z : List ℕ). chosen_word note z span) same in
    among (λ mark. IsMarked note mark (chosen_word note text span)) keywords m.Keyword text
    (at _, (at _, (at _, (at _, (at _, (at _, (at _, (at _, (at _, (at _, tt)))))))))) tt

backslash_marked : (note : Bool) (text : List ℕ) (span : Span)
    → IsMarked note (if note then backslash_mark text else m.Backslash) (chosen_backslash note text span)
backslash_marked true text span =
    let at = λ (t : List ℕ) (same : text ≡ t). ap (λ (z : List ℕ). chosen_backslash true z span) same in
    among (λ mark. IsMarked true mark (chosen_backslash true text span)) backslashes m.Backslash text
    ((λ e. (refl, at _ e)), ((λ e. (refl, at _ e)), ((λ e. (refl, at _ e)), ((λ e. (refl, at _ e)), ((λ e. (refl, at _ e)), tt))))) tt
backslash_marked false text span = tt

note_sign_marked : (note : Bool) (text : List ℕ) (span : Span)
    → IsMarked note (if note then note_sign_mark text else m.Sign) (chosen_sign note text span)
note_sign_marked true text span =
    let at = λ (t : List ℕ) (same : text ≡ t). ap (λ (z : List ℕ). chosen_sign true z span) same in
    among (λ mark. IsMarked true mark (chosen_sign true text span)) note_signs m.Sign text
    ((λ e. (refl, at _ e)), ((λ e. (refl, at _ e)), ((λ e. (refl, at _ e)), tt))) tt
note_sign_marked false text span = tt

other_sign_marked : (note : Bool) (text : List ℕ) (span : Span) → IsMarked note (other_sign_mark note text) (chosen_sign note text span)
other_sign_marked note text span =
    let at = λ (t : List ℕ) (same : text ≡ t). ap (λ (z : List ℕ). chosen_sign note z span) same in
    among (λ mark. IsMarked note mark (chosen_sign note text span)) other_signs (if note then note_sign_mark text else m.Sign) text
    (at _, (at _, (at _, (at _, (at _, (at _, (at _, (at _, (at _, (at _, (at _, tt)))))))))))
    (note_sign_marked note text span)

sign_marked : (note : Bool) (text : List ℕ) (span : Span) → IsMarked note (sign_mark note text) (chosen_sign note text span)
sign_marked note text span =
    let at = λ (t : List ℕ) (same : text ≡ t). ap (λ (z : List ℕ). chosen_sign note z span) same in
    among (λ mark. IsMarked note mark (chosen_sign note text span)) signs (other_sign_mark note text) text
    (at _, (at _, (at _, (at _, (at _, (at _, (at _, (at _, (at _, (at _, (at _, (at _, tt))))))))))))
    (other_sign_marked note text span)

abbrev lexeme_as : TokenKind → List ℕ → Span → Bool → Lexeme
lexeme_as kind text span side = record { kind = kind; text = text; span = span; note = side }

marked_as : (note : Bool) (kind : TokenKind) (text : List ℕ) (span : Span) → IsMarked note (mark_of note kind text) (lexeme_as kind text span note)
marked_as note kinds.Word text span = word_marked note text span (is_name text) refl
marked_as note kinds.Backslash text span = backslash_marked note text span
marked_as note kinds.Number text span = refl
marked_as note kinds.Sign text span = sign_marked note text span

marked_on : (note side : Bool) (kind : TokenKind) (text : List ℕ) (span : Span)
    → IsMarked note (lexeme_mark note (lexeme_as kind text span side)) (lexeme_as kind text span side)
marked_on true true kind text span = marked_as true kind text span
marked_on false false kind text span = marked_as false kind text span
marked_on true false kind text span = tt
marked_on false true kind text span = tt

-- a lexeme is one of its mark's
pub marked : (note : Bool) (mark : Mark) (x : Lexeme) → lexeme_mark note x ≡ mark → IsMarked note mark x
marked note mark x e = subst (λ (z : Mark). IsMarked note z x) e (marked_on note x.note x.kind x.text x.span)

-- ---- the same mark

pub same_is : (a b : Mark) → same_mark a b ≡ true → a ≡ b
unfolding same_mark
same_is a b e = same_true the_type tt a b e
