-- Which lexemes spell a member that stands in annotations.
use Rattle.std.specs.Prelude.{◌≡◌, List}
use Rattle.jesc_ast.specs.Lexemes.{Lexeme, span_of_all}
use Rattle.jesc_ast.specs.FileTrees.{Member}
use Rattle.jesc_ast.specs.Members.{SpellsNoteMember}

-- A member's span is that of all its lexemes.
pub record SpellsAnnotation (t : Member) (u : List Lexeme) : Type 0 where
  pub form : SpellsNoteMember t.form u
  pub span : t.span ≡ span_of_all u
