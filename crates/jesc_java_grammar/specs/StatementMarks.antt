-- What a lexeme is to the grammar of statements.
use Rattle.std.specs.Prelude.{ℕ, Bool, true, false, ◌||◌, if◌then◌else◌, List, [], ◌∷◌, Ok, codes}
use Rattle.jesc_lexer.specs.declared.token.TokenKind.{TokenKind}
use Rattle.jesc_lexer.specs.declared.token.TokenKind.TheVariants as kinds
use Rattle.jesc_ast.specs.Lexemes.{Lexeme}
use Rattle.jesc_ast.specs.Words.{is_one_of}
use Rattle.jesc_ast.specs.Statements.{is_assign_sign, is_step_sign}
use Rattle.jesc_jml_grammar.specs.declared.mark.Mark.{Mark}
use Rattle.jesc_jml_grammar.specs.declared.mark.Mark.TheVariants as m
use Rattle.jesc_jml_grammar.specs.Steps.{Parser}
use Rattle.jesc_jml_grammar.specs.Reading.{opens_at, is_type_mark}
use Rattle.jesc_java_grammar.specs.declared.statement_mark.StatementMark.{StatementMark}
use Rattle.jesc_java_grammar.specs.declared.statement_mark.StatementMark.TheVariants as s
use Rattle.jesc_java_grammar.specs.declared.statement_mark.Slot.{Slot}
use Rattle.jesc_java_grammar.specs.declared.statement_mark.Slot.TheVariants as slots
use Rattle.jesc_java_grammar.specs.Lexing.{found_among, is_word_that, is_sign_that}

-- ---- marks

abbrev pub late_word_mark : List ℕ → StatementMark
late_word_mark = found_among ((codes "break", s.Break) ∷ (codes "continue", s.Continue) ∷ (codes "try", s.Try) ∷ (codes "catch", s.Catch)
    ∷ (codes "final", s.Final) ∷ []) s.Other

abbrev pub word_mark : List ℕ → StatementMark
word_mark text = found_among ((codes "if", s.If) ∷ (codes "else", s.Else) ∷ (codes "while", s.While) ∷ (codes "for", s.For) ∷ (codes "return", s.Return)
    ∷ (codes "throw", s.Throw) ∷ []) (late_word_mark text) text

abbrev pub is_invariant_text : List ℕ → Bool
is_invariant_text = is_one_of (codes "maintaining" ∷ codes "loop_invariant" ∷ [])

abbrev pub note_word_mark : List ℕ → StatementMark
note_word_mark text = if is_invariant_text text then s.Invariant else found_among ((codes "assert", s.Assert) ∷ (codes "set", s.Set) ∷ (codes "ghost", s.Ghost) ∷ []) s.Other text

abbrev pub sign_mark : List ℕ → StatementMark
sign_mark text =
    if is_assign_sign text then s.Assign else if is_step_sign text then s.Step else found_among ((codes "{", s.LeftBrace) ∷ (codes "}", s.RightBrace) ∷ []) s.Other text

abbrev pub mark_of : Bool → TokenKind → List ℕ → StatementMark
mark_of note kinds.Word text = if note then note_word_mark text else word_mark text
mark_of note kinds.Sign text = if note then s.Other else sign_mark text
mark_of note _ text = s.Other

abbrev pub statement_mark : Lexeme → StatementMark
statement_mark x = mark_of x.note x.kind x.text

unfoldable pub statement_mark_at : List Lexeme → StatementMark
statement_mark_at [] = s.Other
statement_mark_at (x ∷ xs) = statement_mark x

abbrev pub peek_statement : Parser StatementMark
peek_statement = λ ts. Ok (statement_mark_at ts, ts)

-- ---- lexemes of which there are several

abbrev pub is_assign : Lexeme → Bool
is_assign = is_sign_that is_assign_sign false

abbrev pub is_step : Lexeme → Bool
is_step = is_sign_that is_step_sign false

abbrev pub is_invariant : Lexeme → Bool
is_invariant = is_word_that is_invariant_text true

-- ---- where statements stand

abbrev pub allows_branch : Slot → Bool
allows_branch slots.Any = true
allows_branch slots.Then = false
allows_branch slots.Else = true

abbrev pub allows_loop : Slot → Bool
allows_loop slots.Any = true
allows_loop _ = false

-- a statement may begin with what is no mark of a statement
abbrev pub begins_plain : Mark → Bool
begins_plain m.Semicolon = true
begins_plain mark = is_type_mark mark || opens_at 13 mark

-- a statement in this slot may begin with these marks of one lexeme
abbrev pub begins : Slot → StatementMark → Mark → Bool
begins slot s.If mark = allows_branch slot
begins slot s.While mark = allows_loop slot
begins slot s.For mark = allows_loop slot
begins slot s.Invariant mark = allows_loop slot
begins slot s.Other mark = begins_plain mark
begins slot s.RightBrace mark = false
begins slot s.Else mark = false
begins slot s.Catch mark = false
begins slot s.Assign mark = false
begins slot _ mark = true
