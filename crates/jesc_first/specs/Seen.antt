-- What the program's values stand for.
use Rattle.std.specs.Prelude.{◌≡◌, List, [], ◌∷◌, map, Option, Some, None}
use Rattle.jesc_ast.specs.Lexemes as ast
use Rattle.jesc_first.specs.declared.reader.lexeme.Lexeme.{Lexeme}
use Rattle.jesc_first.specs.declared.reader.cursor.Cursor.{Cursor}

abbrev pub lexeme : Lexeme → ast.Lexeme
lexeme x = record { kind = x.kind; text = x.text.now; span = x.span; note = x.note }

-- the lexemes that are left
abbrev pub seen : Cursor → List ast.Lexeme
seen cursor = map (ast.lexeme_of cursor.text.now) cursor.rest.now

-- the first of the lexemes and those behind it, where there are some
abbrev pub Splits : Option (Lexeme × Cursor) → List ast.Lexeme → Type 0
Splits (Some first) tokens = tokens ≡ lexeme first.0 ∷ seen first.1
Splits None tokens = tokens ≡ []
