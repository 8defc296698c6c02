-- What the lexemes are that parts of the grammar begin with.
use Rattle.std.proofs.Common.{◌≡◌, ℕ, Bool, true, false, not, ◌&&◌, ◌||◌, List, [], ◌∷◌, codes, bytes_eq, Ok, refl, ap, ◌∙◌, inl, inr}
use Rattle.std.specs.Prelude.{if◌then◌else◌}
use Rattle.std.proofs.lemmas.Bool.{cases_Bool, and_parts, not-true, or_from}
use Rattle.jesc_lexer.specs.declared.token.TokenKind.{TokenKind}
use Rattle.jesc_lexer.specs.declared.token.TokenKind.TheVariants as kinds
use Rattle.jesc_ast.specs.Lexemes.{Lexeme}
use Rattle.jesc_ast.specs.Words.{is_one_of, is_name}
use Rattle.jesc_jml_grammar.specs.declared.mark.Mark.{Mark}
use Rattle.jesc_jml_grammar.specs.declared.mark.Mark.TheVariants as m
use Rattle.jesc_jml_grammar.specs.Marks as marks
use Rattle.jesc_jml_grammar.specs.Marks.{is_same_side, lexeme_mark, keyword_mark}
use Rattle.jesc_jml_grammar.specs.Steps.{mark_at, take_one}
use Rattle.jesc_jml_grammar.specs.Reading.{opens, is_type_mark}
use Rattle.jesc_jml_parser.specs.laws.CompleteMarks.{same_text}
use Rattle.jesc_java_grammar.specs.declared.statement_mark.StatementMark.{StatementMark}
use Rattle.jesc_java_grammar.specs.declared.statement_mark.StatementMark.TheVariants as s
use Rattle.jesc_java_grammar.specs.Lexing.{is_word_kind, is_sign_kind, is_word, is_sign, next_is, take_if, found_among}
use Rattle.jesc_java_grammar.specs.StatementMarks.{late_word_mark, word_mark, sign_mark, mark_of, statement_mark_at}

-- ---- taking a lexeme

pub took_if : (test : Lexeme → Bool) (x : Lexeme) (ts : List Lexeme) → test x ≡ true → take_if test (x ∷ ts) ≡ Ok (x, ts)
unfolding take_if take_one
took_if test x ts e = rw e refl

-- ---- texts that pass a test are none of those that fail it

pub unlike : (test : List ℕ → Bool) (x y : List ℕ) → test x ≡ true → test y ≡ false → bytes_eq x y ≡ false
unlike test x y t f = elim (cases_Bool (bytes_eq x y)) [ inl e ↦ absurd (cc (same_text x y e)) | inr e ↦ e ]

abbrev pub fail_among : {M : Type 0} → (List ℕ → Bool) → List (List ℕ × M) → Bool
fail_among test [] = true
fail_among test (entry ∷ entries) = not (test entry.0) && fail_among test entries

pub found_none : {M : Type 0} (test : List ℕ → Bool) (entries : List (List ℕ × M)) (other : M) (text : List ℕ) → fail_among test entries ≡ true → test text ≡ true
    → found_among entries other text ≡ other
found_none test [] other text fail t = refl
found_none test (entry ∷ entries) other text fail t =
    let parts = and_parts (not (test entry.0)) (fail_among test entries) fail in
    rw (unlike test text entry.0 t (not-true (test entry.0) parts.0)) (found_none test entries other text parts.1 t)

abbrev pub all_fail : (List ℕ → Bool) → List (List ℕ) → Bool
all_fail test [] = true
all_fail test (word ∷ words) = not (test word) && all_fail test words

pub none_of : (test : List ℕ → Bool) (words : List (List ℕ)) (text : List ℕ) → all_fail test words ≡ true → test text ≡ true → is_one_of words text ≡ false
none_of test [] text fail t = refl
none_of test (word ∷ words) text fail t =
    let parts = and_parts (not (test word)) (all_fail test words) fail in
    or_from (bytes_eq text word) (is_one_of words text) (unlike test text word t (not-true (test word) parts.0)) (none_of test words text parts.1 t)

-- ---- what begins a type, an expression or the empty statement is no mark of a statement

abbrev pub is_plain : Mark → Bool
is_plain m.Semicolon = true
is_plain mark = is_type_mark mark || opens mark

pub plain_opens : (mark : Mark) → opens mark ≡ true → is_plain mark ≡ true
plain_opens m.Semicolon o = refl
plain_opens m.Int o = refl
plain_opens m.Long o = refl
plain_opens m.Boolean o = refl
plain_opens _ o = o

pub plain_type : (mark : Mark) → is_type_mark mark ≡ true → is_plain mark ≡ true
plain_type m.Int o = refl
plain_type m.Long o = refl
plain_type m.Boolean o = refl
plain_type m.Name o = refl
plain_type _ o = absurd cc

abbrev plain_word : List ℕ → Bool
plain_word text = is_plain (if is_name text then m.Name else keyword_mark text)

abbrev plain_sign : List ℕ → Bool
plain_sign text = is_plain (marks.sign_mark false text)

abbrev late_words : List (List ℕ × StatementMark)
late_words = (codes "break", s.Break) ∷ (codes "continue", s.Continue) ∷ (codes "try", s.Try) ∷ (codes "catch", s.Catch) ∷ (codes "final", s.Final) ∷ []

abbrev words : List (List ℕ × StatementMark)
words = (codes "if", s.If) ∷ (codes "else", s.Else) ∷ (codes "while", s.While) ∷ (codes "for", s.For) ∷ (codes "return", s.Return) ∷ (codes "throw", s.Throw) ∷ []

abbrev braces : List (List ℕ × StatementMark)
braces = (codes "{", s.LeftBrace) ∷ (codes "}", s.RightBrace) ∷ []

abbrev pub assign_signs : List (List ℕ)
assign_signs = codes "=" ∷ codes "+=" ∷ codes "-=" ∷ codes "*=" ∷ codes "/=" ∷ codes "%=" ∷ []

abbrev pub step_signs : List (List ℕ)
step_signs = codes "++" ∷ codes "--" ∷ []

plain_kind : (note : Bool) (kind : TokenKind) (text : List ℕ) → is_plain (if is_same_side false note then marks.mark_of false kind text else m.Away) ≡ true
    → mark_of note kind text ≡ s.Other
plain_kind true kind text p = absurd cc
plain_kind false kinds.Word text p = found_none plain_word words (late_word_mark text) text refl p ∙ found_none plain_word late_words s.Other text refl p
plain_kind false kinds.Sign text p = rw (none_of plain_sign assign_signs text refl p) (rw (none_of plain_sign step_signs text refl p) (found_none plain_sign braces s.Other text refl p))
plain_kind false _ text p = refl

pub plain_at : (ts : List Lexeme) → is_plain (mark_at false ts) ≡ true → statement_mark_at ts ≡ s.Other
unfolding mark_at statement_mark_at
plain_at [] p = absurd cc
plain_at (x ∷ ts) p = plain_kind x.note x.kind x.text p

-- ---- the marks of words and signs

abbrev mark_alone : StatementMark → Bool → TokenKind → List ℕ → Type 0
mark_alone mark note kind text = mark_of note kind text ≡ mark

word_marked : (word : List ℕ) (mark : StatementMark) → word_mark word ≡ mark → (note : Bool) (kind : TokenKind) (text : List ℕ)
    → (is_word_kind kind && is_same_side false note && bytes_eq text word) ≡ true → mark_of note kind text ≡ mark
word_marked word mark is false kinds.Word text e = ap word_mark (same_text text word e) ∙ is
word_marked word mark is true kinds.Word text e = absurd cc
word_marked word mark is note _ text e = absurd cc

sign_marked : (sign : List ℕ) (mark : StatementMark) → sign_mark sign ≡ mark → (note : Bool) (kind : TokenKind) (text : List ℕ)
    → (is_sign_kind kind && is_same_side false note && bytes_eq text sign) ≡ true → mark_of note kind text ≡ mark
sign_marked sign mark is false kinds.Sign text e = ap sign_mark (same_text text sign e) ∙ is
sign_marked sign mark is true kinds.Sign text e = absurd cc
sign_marked sign mark is note _ text e = absurd cc

pub word_next : (word : List ℕ) (mark : StatementMark) → word_mark word ≡ mark → (ts : List Lexeme) → next_is (is_word word false) ts ≡ true → statement_mark_at ts ≡ mark
unfolding statement_mark_at
word_next word mark is [] e = absurd cc
word_next word mark is (x ∷ ts) e = word_marked word mark is x.note x.kind x.text e

pub sign_next : (sign : List ℕ) (mark : StatementMark) → sign_mark sign ≡ mark → (ts : List Lexeme) → next_is (is_sign sign false) ts ≡ true → statement_mark_at ts ≡ mark
unfolding statement_mark_at
sign_next sign mark is [] e = absurd cc
sign_next sign mark is (x ∷ ts) e = sign_marked sign mark is x.note x.kind x.text e

-- a list of statements goes on before these marks
abbrev pub is_starting : StatementMark → Bool
is_starting s.RightBrace = false
is_starting s.Else = false
is_starting s.Catch = false
is_starting _ = true

pub starting_word : (word : List ℕ) (mark : StatementMark) → word_mark word ≡ mark → is_starting mark ≡ false → (ts : List Lexeme) → is_starting (statement_mark_at ts) ≡ true
    → next_is (is_word word false) ts ≡ false
starting_word word mark is none ts starts = elim (cases_Bool (next_is (is_word word false) ts)) [
  | inl e ↦ absurd (cc (word_next word mark is ts e))
  | inr e ↦ e
]

pub starting_sign : (sign : List ℕ) (mark : StatementMark) → sign_mark sign ≡ mark → is_starting mark ≡ false → (ts : List Lexeme) → is_starting (statement_mark_at ts) ≡ true
    → next_is (is_sign sign false) ts ≡ false
starting_sign sign mark is none ts starts = elim (cases_Bool (next_is (is_sign sign false) ts)) [
  | inl e ↦ absurd (cc (sign_next sign mark is ts e))
  | inr e ↦ e
]
