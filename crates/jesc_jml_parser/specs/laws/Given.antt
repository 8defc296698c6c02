-- What the functions that read a tree give, by the functional forms of their rules.
use Rattle.std.specs.Prelude.{◌≡◌, ℕ, ◌-◌, Bool, List, length, Result, Ok, Err}
use Rattle.jesc_ast.specs.Lexemes.{Lexeme}
use Rattle.jesc_ast.specs.Trees.{Expression}
use Rattle.jesc_jml_grammar.specs.declared.fault.ParseError.{ParseError}
use Rattle.jesc_jml_grammar.specs.declared.fault.ParseError.TheVariants as errors
use Rattle.jesc_jml_grammar.specs.Steps.{Outcome, Parser}
use Rattle.jesc_jml_grammar.specs.Reading.{Parsed, expr, at_first, turns}
use Rattle.jesc_jml_grammar.specs.ClauseFound.{Sized}

-- the parser of whole expressions
abbrev pub whole : Bool → Parser Parsed
whole note = expr note turns 200 3 1 at_first

-- the trees that the functional forms find
abbrev pub parsed_tree : Parsed → Expression
parsed_tree p = p.tree

abbrev pub sized_tree : {T : Type 0} → Sized T → T
sized_tree p = p.tree

-- The answer of so many tokens by that of the functional form. `see` tells what a tree of the program stands for, and
-- `tree_of` which tree was found.
abbrev pub IsTreeGiven : {X T P : Type 0} → (X → T) → (P → T) → Outcome P → ℕ → Result (X × ℕ) ParseError → Type 0
IsTreeGiven {P = P} see tree_of outcome len (Ok a) =
    (p : P) × (rest : List Lexeme) × (outcome ≡ Ok (p, rest)) × (see a.0 ≡ tree_of p) × (a.1 ≡ len - length rest)
IsTreeGiven see tree_of outcome len (Err errors.Memory) = Unit {0}
IsTreeGiven see tree_of outcome len (Err (errors.Fault f)) = outcome ≡ Err f
