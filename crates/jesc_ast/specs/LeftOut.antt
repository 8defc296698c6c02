-- Words of Java and of JML that the language leaves out. Where one of them stands and no tree goes on with it, the
-- refusal names it as left out.
use Rattle.std.specs.Prelude.{ℕ, Bool, true, false, ◌||◌, ◌-◌, List, [], ◌∷◌, codes, bytes_eq, drop, length}
use Rattle.jesc_lexer.specs.declared.token.TokenKind.{TokenKind}
use Rattle.jesc_lexer.specs.declared.token.TokenKind.TheVariants as kinds
use Rattle.jesc_ast.specs.Lexemes.{Lexeme}
use Rattle.jesc_ast.specs.Words.{is_one_of}

abbrev pub left_out_of_code : List (List ℕ)
left_out_of_code = codes "import" ∷ codes "enum" ∷ codes "record" ∷ codes "switch" ∷ codes "case" ∷ codes "default" ∷ codes "do"
    ∷ codes "finally" ∷ codes "synchronized" ∷ codes "volatile" ∷ codes "transient" ∷ codes "native" ∷ codes "strictfp" ∷ codes "char"
    ∷ codes "byte" ∷ codes "short" ∷ codes "float" ∷ codes "double" ∷ codes "assert" ∷ codes "var" ∷ []

abbrev pub left_out_of_notes : List (List ℕ)
left_out_of_notes = codes "assume" ∷ codes "axiom" ∷ codes "nowarn" ∷ codes "diverges" ∷ codes "measured_by" ∷ codes "decreases"
    ∷ codes "decreasing" ∷ codes "constraint" ∷ codes "initially" ∷ codes "maps" ∷ codes "accessible" ∷ codes "callable" ∷ codes "captures"
    ∷ codes "forall" ∷ codes "old" ∷ codes "loop_modifies" ∷ codes "loop_assigns" ∷ codes "nullable_by_default" ∷ []

-- words of annotations that begin with a backslash
abbrev pub left_out_with_backslash : List (List ℕ)
left_out_with_backslash = codes "\\sum" ∷ codes "\\product" ∷ codes "\\num_of" ∷ codes "\\max" ∷ codes "\\min" ∷ codes "\\reach" ∷ codes "\\type"
    ∷ codes "\\typeof" ∷ codes "\\bigint" ∷ codes "\\real" ∷ codes "\\such_that" ∷ codes "\\not_specified" ∷ []

abbrev pub ends_redundantly : List ℕ → Bool
ends_redundantly text = bytes_eq (drop (length text - 12) text) (codes "_redundantly")

-- a word without a backslash; in annotations each that ends in `_redundantly` too
abbrev pub is_left_out_word : Bool → List ℕ → Bool
is_left_out_word false text = is_one_of left_out_of_code text
is_left_out_word true text = is_one_of left_out_of_notes text || ends_redundantly text

-- a word with a backslash, which only annotations have
abbrev pub is_left_out_backslash : Bool → List ℕ → Bool
is_left_out_backslash false text = false
is_left_out_backslash true text = is_one_of left_out_with_backslash text

abbrev pub is_left_out_of : TokenKind → Bool → List ℕ → Bool
is_left_out_of kinds.Word note text = is_left_out_word note text
is_left_out_of kinds.Backslash note text = is_left_out_backslash note text
is_left_out_of kinds.Number note text = false
is_left_out_of kinds.Sign note text = false

-- the lexeme is a word, with a backslash or without, that its side leaves out
abbrev pub is_left_out : Lexeme → Bool
is_left_out x = is_left_out_of x.kind x.note x.text
