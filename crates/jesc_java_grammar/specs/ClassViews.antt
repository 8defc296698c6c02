-- What the program's values of the rules of classes stand for, and the rest of a list.
use Rattle.std.specs.Prelude.{ℕ, false, List}
use Rattle.jesc_ast.specs.declared.word.Word.{Word}
use Rattle.jesc_ast.specs.Lexemes.{Lexeme}
use Rattle.jesc_ast.specs.FileTrees.{Member, Class}
use Rattle.jesc_jml_grammar.specs.declared.mark.Mark.TheVariants as m
use Rattle.jesc_jml_grammar.specs.Steps.{Parser, ◌>>◌, expect}
use Rattle.jesc_jml_grammar.specs.Seen.{lexeme}
use Rattle.jesc_jml_grammar.specs.ClauseFound.{Sized, with_more, with_word}
use Rattle.jesc_jml_grammar.specs.ClauseLists.{until, more_separated}
use Rattle.jesc_java_grammar.specs.declared.make_class.Heading as code_heading
use Rattle.jesc_java_grammar.specs.FileMarks.{at_code, before_brace, before_end}
use Rattle.jesc_java_grammar.specs.FileReading.{Heading, member, class_}
use Rattle.jesc_java_grammar.specs.Views.{part}

abbrev pub heading_view : code_heading.Heading → Heading
heading_view h = record { is_interface = h.is_interface; name = lexeme h.name; extends = h.extends; implements = h.implements }

-- ---- the rest of a list

abbrev pub more_members : ℕ → ℕ → Sized (List Member) → Parser (Sized (List Member))
more_members room = until before_brace (part member room) with_more

abbrev pub more_classes : ℕ → ℕ → Sized (List Class) → Parser (Sized (List Class))
more_classes room = until before_end (part class_ room) with_more

abbrev pub further_part : Parser Lexeme
further_part = expect false m.Dot >> expect false m.Name

abbrev pub more_dotted : ℕ → List Word → Parser (List Word)
more_dotted = more_separated (at_code m.Dot) (expect false m.Dot) (expect false m.Name) with_word
