-- What the program's values stand for.
use Rattle.std.specs.Prelude.{◌≡◌, List, map}
use Rattle.jesc_ast.specs.Lexemes as ast
use Rattle.jesc_jml_grammar.specs.declared.cursor.Cursor.{Cursor}
use Rattle.jesc_jml_grammar.specs.declared.cursor.Lexeme.{Lexeme}

abbrev pub lexeme : Lexeme → ast.Lexeme
lexeme x = record { kind = x.kind; text = x.text.now; span = x.span; note = x.note }

-- the lexemes that are left
abbrev pub seen : Cursor → List ast.Lexeme
seen c = map (ast.lexeme_of c.text.now) c.rest.now

-- the text and the side stay
pub record IsKept (old new : Cursor) : Type 0 where
  pub text : new.text.now ≡ old.text.now
  pub note : new.note ≡ old.note
