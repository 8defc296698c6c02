-- Lists of the grammar, over a parser of their items.
use Rattle.std.specs.Prelude.{ℕ, zero, suc, Bool, if◌then◌else◌, List, Ok}
use Rattle.jesc_ast.specs.Lexemes.{Lexeme}
use Rattle.jesc_jml_grammar.specs.Steps.{Parser, ◌>>=◌, ◌>>◌, pure, too_long}

-- what is seen of the lexemes that are left
abbrev pub look : {A : Type 0} → (List Lexeme → A) → Parser A
look sight = λ ts. Ok (sight ts, ts)

module _ {A B : Type 0} (begins : List Lexeme → Bool) (item : Parser A) (add : B → A → B) where
  -- items as long as the next lexeme begins one, each added to those that were read; as many as the number says are too many
  unfoldable pub until : ℕ → B → Parser B
  until zero found = too_long
  until (suc n) found = do
    more ← look begins
    if more then (do x ← item; until n (add found x)) else pure found

module _ {A B : Type 0} (begins : List Lexeme → Bool) (sign : Parser Lexeme) (item : Parser A) (add : B → A → B) where
  -- further items, each behind a sign
  abbrev pub more_separated : ℕ → B → Parser B
  more_separated = until begins (sign >> item) add

  -- items with a sign between, one at least
  unfoldable pub separated : ℕ → B → Parser B
  separated n found = do
    x ← item
    more_separated n (add found x)
