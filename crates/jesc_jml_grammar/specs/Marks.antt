-- What a lexeme is to the grammar of expressions.
use Rattle.std.specs.Prelude.{ℕ, Bool, true, false, if◌then◌else◌, List, [], ◌∷◌, codes, bytes_eq}
use Rattle.jesc_lexer.specs.declared.token.TokenKind.{TokenKind}
use Rattle.jesc_lexer.specs.declared.token.TokenKind.TheVariants as kinds
use Rattle.jesc_ast.specs.Lexemes.{Lexeme}
use Rattle.jesc_ast.specs.Words.{is_name}
use Rattle.jesc_jml_grammar.specs.declared.mark.Mark.{Mark}
use Rattle.jesc_jml_grammar.specs.declared.mark.Mark.TheVariants as m

-- the text of a mark that has one text alone
abbrev pub spelling : Mark → List ℕ
spelling m.True = codes "true"
spelling m.False = codes "false"
spelling m.Null = codes "null"
spelling m.This = codes "this"
spelling m.New = codes "new"
spelling m.Super = codes "super"
spelling m.InstanceOf = codes "instanceof"
spelling m.Int = codes "int"
spelling m.Long = codes "long"
spelling m.Boolean = codes "boolean"
spelling m.Result = codes "\\result"
spelling m.Old = codes "\\old"
spelling m.Fresh = codes "\\fresh"
spelling m.Forall = codes "\\forall"
spelling m.Exists = codes "\\exists"
spelling m.LeftParen = codes "("
spelling m.RightParen = codes ")"
spelling m.Dot = codes "."
spelling m.Comma = codes ","
spelling m.Semicolon = codes ";"
spelling m.LeftBracket = codes "["
spelling m.RightBracket = codes "]"
spelling m.Plus = codes "+"
spelling m.Minus = codes "-"
spelling m.Times = codes "*"
spelling m.Quotient = codes "/"
spelling m.Remainder = codes "%"
spelling m.Less = codes "<"
spelling m.LessEqual = codes "<="
spelling m.Greater = codes ">"
spelling m.GreaterEqual = codes ">="
spelling m.Equal = codes "=="
spelling m.Unequal = codes "!="
spelling m.And = codes "&&"
spelling m.Or = codes "||"
spelling m.Not = codes "!"
spelling m.Question = codes "?"
spelling m.Colon = codes ":"
spelling m.Implies = codes "==>"
spelling m.Iff = codes "<==>"
spelling m.NotIff = codes "<=!=>"
spelling _ = []

-- the first of these marks that is spelled so, or else the other
abbrev pub mark_among : List Mark → Mark → List ℕ → Mark
mark_among [] other text = other
mark_among (mark ∷ marks) other text = if bytes_eq text (spelling mark) then mark else mark_among marks other text

abbrev pub keyword_mark : List ℕ → Mark
keyword_mark = mark_among (m.True ∷ m.False ∷ m.Null ∷ m.This ∷ m.New ∷ m.Super ∷ m.InstanceOf ∷ m.Int ∷ m.Long ∷ m.Boolean ∷ []) m.Keyword

abbrev pub backslash_mark : List ℕ → Mark
backslash_mark = mark_among (m.Result ∷ m.Old ∷ m.Fresh ∷ m.Forall ∷ m.Exists ∷ []) m.Backslash

-- the signs of annotations alone
abbrev pub note_sign_mark : List ℕ → Mark
note_sign_mark = mark_among (m.Implies ∷ m.Iff ∷ m.NotIff ∷ []) m.Sign

abbrev pub other_sign_mark : Bool → List ℕ → Mark
other_sign_mark note text =
    mark_among (m.Less ∷ m.LessEqual ∷ m.Greater ∷ m.GreaterEqual ∷ m.Equal ∷ m.Unequal ∷ m.And ∷ m.Or ∷ m.Not ∷ m.Question ∷ m.Colon ∷ []) (if note then note_sign_mark text else m.Sign) text

abbrev pub sign_mark : Bool → List ℕ → Mark
sign_mark note text =
    mark_among (m.LeftParen ∷ m.RightParen ∷ m.Dot ∷ m.Comma ∷ m.Semicolon ∷ m.LeftBracket ∷ m.RightBracket ∷ m.Plus ∷ m.Minus ∷ m.Times ∷ m.Quotient ∷ m.Remainder ∷ []) (other_sign_mark note text) text

-- of the side that `note` tells
abbrev pub mark_of : Bool → TokenKind → List ℕ → Mark
mark_of note kinds.Word text = if is_name text then m.Name else keyword_mark text
mark_of note kinds.Backslash text = if note then backslash_mark text else m.Backslash
mark_of note kinds.Number text = m.Number
mark_of note kinds.Sign text = sign_mark note text

abbrev pub is_same_side : Bool → Bool → Bool
is_same_side true true = true
is_same_side false false = true
is_same_side _ _ = false

-- the mark of a lexeme, read on this side
abbrev pub lexeme_mark : Bool → Lexeme → Mark
lexeme_mark note x = if is_same_side note x.note then mark_of note x.kind x.text else m.Away
