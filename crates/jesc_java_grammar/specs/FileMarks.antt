-- What a lexeme is to the grammar of classes and their members.
use Rattle.std.specs.Prelude.{ℕ, Bool, true, false, ◌&&◌, ◌||◌, not, if◌then◌else◌, List, [], ◌∷◌, Ok, codes, bytes_eq}
use Rattle.jesc_lexer.specs.declared.token.TokenKind.{TokenKind}
use Rattle.jesc_lexer.specs.declared.token.TokenKind.TheVariants as kinds
use Rattle.jesc_ast.specs.Lexemes.{Lexeme}
use Rattle.jesc_ast.specs.Words.{is_one_of}
use Rattle.jesc_ast.specs.Members.{is_code_modifier, is_note_modifier}
use Rattle.jesc_jml_grammar.specs.declared.mark.Mark.{Mark}
use Rattle.jesc_jml_grammar.specs.Steps.{Parser, same_mark, mark_at}
use Rattle.jesc_java_grammar.specs.declared.member_mark.MemberMark.{MemberMark}
use Rattle.jesc_java_grammar.specs.declared.member_mark.MemberMark.TheVariants as s
use Rattle.jesc_java_grammar.specs.Lexing.{found_among, is_word_that, is_word, is_sign, next_is}

-- ---- marks

-- the last of the modifiers that stand in annotations
abbrev pub is_late_note_modifier : List ℕ → Bool
is_late_note_modifier = is_one_of (codes "nullable" ∷ codes "non_null" ∷ codes "spec_public" ∷ codes "spec_protected" ∷ codes "instance" ∷ [])

abbrev pub member_word_mark : List ℕ → MemberMark
member_word_mark text =
    if is_code_modifier text then s.Modifier else found_among ((codes "void", s.Void) ∷ (codes "class", s.Class) ∷ (codes "interface", s.Interface) ∷ []) s.Other text

abbrev pub note_word_member_mark : List ℕ → MemberMark
note_word_member_mark text = if is_note_modifier text then s.Modifier else s.Other

abbrev pub mark_of : Bool → TokenKind → List ℕ → MemberMark
mark_of note kinds.Word text = if note then note_word_member_mark text else member_word_mark text
mark_of note kinds.Sign text = if not note && bytes_eq text (codes "@") then s.At else s.Other
mark_of note _ text = s.Other

abbrev pub member_mark : Lexeme → MemberMark
member_mark x = mark_of x.note x.kind x.text

unfoldable pub member_mark_at : List Lexeme → MemberMark
member_mark_at [] = s.Other
member_mark_at (x ∷ xs) = member_mark x

abbrev pub peek_member : Parser MemberMark
peek_member = λ ts. Ok (member_mark_at ts, ts)

abbrev pub is_modifier_mark : MemberMark → Bool
is_modifier_mark s.Modifier = true
is_modifier_mark s.At = true
is_modifier_mark _ = false

-- ---- lexemes of which there are several

abbrev pub is_modifier : Lexeme → Bool
is_modifier x = is_word_that is_code_modifier false x || is_word_that is_note_modifier true x

abbrev pub is_param_modifier : Lexeme → Bool
is_param_modifier x = is_word (codes "final") false x || is_word_that (is_one_of (codes "nullable" ∷ codes "non_null" ∷ [])) true x

-- ---- what goes on with a list

-- a modifier comes next
abbrev pub at_modifier : List Lexeme → Bool
at_modifier ts = is_modifier_mark (member_mark_at ts)

-- this mark of code comes next
abbrev pub at_code : Mark → List Lexeme → Bool
at_code mark ts = same_mark (mark_at false ts) mark

-- no closing brace comes next
abbrev pub before_brace : List Lexeme → Bool
before_brace ts = not (next_is (is_sign (codes "}") false) ts)

-- a lexeme comes next
abbrev pub before_end : List Lexeme → Bool
before_end [] = false
before_end (x ∷ xs) = true
