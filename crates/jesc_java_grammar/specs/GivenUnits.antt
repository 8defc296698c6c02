-- The answer of the rules of files by that of their functional form.
use Rattle.std.specs.Prelude.{◌≡◌, List, Result, Ok, Err}
use Rattle.jesc_ast.specs.Lexemes.{Lexeme}
use Rattle.jesc_ast.specs.FileTrees.{SourceUnit}
use Rattle.jesc_jml_grammar.specs.declared.fault.ParseError.{ParseError}
use Rattle.jesc_jml_grammar.specs.declared.fault.ParseError.TheVariants as errors
use Rattle.jesc_jml_grammar.specs.Steps.{Outcome}
use Rattle.jesc_jml_grammar.specs.ClauseFound.{Sized}
use Rattle.jesc_java_grammar.specs.declared.make_class.Unit as code
use Rattle.jesc_java_grammar.specs.UnitViews.{unit_view}

abbrev pub IsUnitGiven : Outcome (Sized SourceUnit) → Result code.Unit ParseError → Type 0
IsUnitGiven outcome (Ok u) = (t : Sized SourceUnit) × (rest : List Lexeme) × (outcome ≡ Ok (t, rest)) × (unit_view u ≡ t.tree)
IsUnitGiven outcome (Err errors.Memory) = Unit {0}
IsUnitGiven outcome (Err (errors.Fault f)) = outcome ≡ Err f
