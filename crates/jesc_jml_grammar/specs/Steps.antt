-- Parsers on lists of lexemes, and what a parser of the program gives.
use Rattle.std.specs.Prelude.{◌≡◌, ℕ, Bool, false, ◌&&◌, bytes_eq, if◌then◌else◌, Option, Some, None, List, [], ◌∷◌, length, Result, Ok, Err}
use denote.Enum.Bare.{sameb}
use Rattle.jesc_ast.specs.Lexemes.{Lexeme}
use Rattle.jesc_jml_grammar.specs.contracts.mark.Mark.{the_type}
use Rattle.jesc_jml_grammar.specs.declared.mark.Mark.{Mark}
use Rattle.jesc_jml_grammar.specs.declared.mark.Mark.TheVariants as m
use Rattle.jesc_jml_grammar.specs.declared.fault.Fault.{Fault}
use Rattle.jesc_jml_grammar.specs.declared.fault.Fault.TheVariants.{Unexpected, Deep, Long}
use Rattle.jesc_jml_grammar.specs.declared.fault.ParseError.{ParseError}
use Rattle.jesc_jml_grammar.specs.declared.fault.ParseError.TheVariants as errors
use Rattle.jesc_jml_grammar.specs.Marks.{lexeme_mark}

abbrev pub Outcome : Type 0 → Type 0
Outcome A = Result (A × List Lexeme) Fault

abbrev pub Parser : Type 0 → Type 0
Parser A = List Lexeme → Outcome A

abbrev pub and_then : {A B : Type 0} → Outcome A → (A → Parser B) → Outcome B
and_then (Ok p) f = f p.0 p.1
and_then (Err e) f = Err e

infixl 10 ◌>>=◌
abbrev pub ◌>>=◌ : {A B : Type 0} → Parser A → (A → Parser B) → Parser B
p >>= f = λ ts. and_then (p ts) f

infixl 10 ◌>>◌
abbrev pub ◌>>◌ : {A B : Type 0} → Parser A → Parser B → Parser B
p >> q = p >>= (λ _. q)

abbrev pub pure : {A : Type 0} → A → Parser A
pure a = λ ts. Ok (a, ts)

-- these faults tell how many lexemes are left, the one that they stand at among them
abbrev pub refuse : {A : Type 0} → Parser A
refuse = λ ts. Err (Unexpected (length ts))

abbrev pub too_deep : {A : Type 0} → Parser A
too_deep = λ ts. Err (Deep (length ts))

-- where a list takes more turns than are left
abbrev pub too_long : {A : Type 0} → Parser A
too_long = λ ts. Err Long

-- the lexeme that comes next
abbrev pub head : List Lexeme → Option Lexeme
head [] = None
head (x ∷ xs) = Some x

unfoldable pub same_mark : Mark → Mark → Bool
same_mark = sameb the_type

module _ (note : Bool) where
  unfoldable pub mark_at : List Lexeme → Mark
  mark_at [] = m.End
  mark_at (x ∷ xs) = lexeme_mark note x

  abbrev pub peek : Parser Mark
  peek = λ ts. Ok (mark_at ts, ts)

  -- the next lexeme is this name
  abbrev pub is_name_again : List ℕ → List Lexeme → Bool
  is_name_again text [] = false
  is_name_again text (x ∷ xs) = same_mark (lexeme_mark note x) m.Name && bytes_eq x.text text

  abbrev pub peek_again : List ℕ → Parser Bool
  peek_again text = λ ts. Ok (is_name_again text ts, ts)

unfoldable pub take_one : Parser Lexeme
take_one [] = Err (Unexpected 0)
take_one (x ∷ xs) = Ok (x, xs)

unfoldable pub expect : Bool → Mark → Parser Lexeme
expect note mark = peek note >>= λ found. if same_mark found mark then take_one else refuse

-- what a function of the program gives
abbrev pub Reads : {X Y : Type 0} → (X → Y) → Outcome Y → Result X ParseError → List Lexeme → Type 0
Reads view outcome (Ok x) rest = outcome ≡ Ok (view x, rest)
Reads view outcome (Err errors.Memory) rest = Unit {0}
Reads view outcome (Err (errors.Fault f)) rest = outcome ≡ Err f
