-- What the program's values of the rules of members stand for, and the rest of a list.
use Rattle.std.specs.Prelude.{ℕ, false, List}
use Rattle.jesc_ast.specs.declared.word.Word.{Word}
use Rattle.jesc_ast.specs.declared.word.TypeTree.{TypeTree}
use Rattle.jesc_ast.specs.declared.class.ParamTree.{ParamTree}
use Rattle.jesc_ast.specs.Lexemes.{Lexeme}
use Rattle.jesc_jml_grammar.specs.declared.mark.Mark.TheVariants as m
use Rattle.jesc_jml_grammar.specs.Steps.{Parser, ◌>>◌, expect}
use Rattle.jesc_jml_grammar.specs.Reading.{type_, type_behind}
use Rattle.jesc_jml_grammar.specs.Nests.{rule}
use Rattle.jesc_jml_grammar.specs.ClauseFound.{with_word}
use Rattle.jesc_jml_grammar.specs.ClauseLists.{until, more_separated}
use Rattle.jesc_java_grammar.specs.declared.make_member.Signature as code_signature
use Rattle.jesc_java_grammar.specs.Lexing.{next_is, take_if}
use Rattle.jesc_java_grammar.specs.FileMarks.{at_code, at_modifier, is_param_modifier}
use Rattle.jesc_java_grammar.specs.FileReading.{Signature, with_param, modifier, param}
use Rattle.jesc_java_grammar.specs.Views.{part}

abbrev pub signature_seen : code_signature.Signature → Signature
signature_seen s = record { params = s.params; throws = s.throws }

-- ---- types of code

abbrev pub code_type : ℕ → Parser TypeTree
code_type room = rule type_ false room 3

abbrev pub code_type_behind : ℕ → Lexeme → Parser TypeTree
code_type_behind room = rule type_behind false room 3

-- ---- the rest of a list

abbrev pub further_name : Parser Lexeme
further_name = expect false m.Comma >> expect false m.Name

abbrev pub more_names : ℕ → List Word → Parser (List Word)
more_names = more_separated (at_code m.Comma) (expect false m.Comma) (expect false m.Name) with_word

abbrev pub more_modifiers : ℕ → ℕ → List Word → Parser (List Word)
more_modifiers room = until at_modifier (part modifier room) with_word

abbrev pub more_param_modifiers : ℕ → List Word → Parser (List Word)
more_param_modifiers = until (next_is is_param_modifier) (take_if is_param_modifier) with_word

abbrev pub further_param : ℕ → Parser ParamTree
further_param room = expect false m.Comma >> part param room

abbrev pub more_params : ℕ → ℕ → List ParamTree → Parser (List ParamTree)
more_params room = more_separated (at_code m.Comma) (expect false m.Comma) (part param room) with_param
