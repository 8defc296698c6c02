-- The words that are never names, and words with a meaning of their own.
use Rattle.std.specs.Prelude.{ℕ, Bool, not, ◌||◌, List, [], ◌∷◌, codes, bytes_eq}
use Rattle.std.specs.List.{list_any}

abbrev pub is_one_of : List (List ℕ) → List ℕ → Bool
is_one_of words text = list_any (λ w. bytes_eq text w) words

-- the keywords of Java, `_` and its literals
abbrev pub reserved : List (List ℕ)
reserved = codes "abstract" ∷ codes "assert" ∷ codes "boolean" ∷ codes "break" ∷ codes "byte" ∷ codes "case" ∷ codes "catch" ∷ codes "char"
    ∷ codes "class" ∷ codes "const" ∷ codes "continue" ∷ codes "default" ∷ codes "do" ∷ codes "double" ∷ codes "else" ∷ codes "enum"
    ∷ codes "extends" ∷ codes "final" ∷ codes "finally" ∷ codes "float" ∷ codes "for" ∷ codes "goto" ∷ codes "if" ∷ codes "implements"
    ∷ codes "import" ∷ codes "instanceof" ∷ codes "int" ∷ codes "interface" ∷ codes "long" ∷ codes "native" ∷ codes "new" ∷ codes "package"
    ∷ codes "private" ∷ codes "protected" ∷ codes "public" ∷ codes "return" ∷ codes "short" ∷ codes "static" ∷ codes "strictfp" ∷ codes "super"
    ∷ codes "switch" ∷ codes "synchronized" ∷ codes "this" ∷ codes "throw" ∷ codes "throws" ∷ codes "transient" ∷ codes "try" ∷ codes "void"
    ∷ codes "volatile" ∷ codes "while" ∷ codes "_" ∷ codes "true" ∷ codes "false" ∷ codes "null" ∷ []

abbrev pub is_name : List ℕ → Bool
is_name text = not (is_one_of reserved text)

abbrev pub is_primitive : List ℕ → Bool
is_primitive = is_one_of (codes "int" ∷ codes "long" ∷ codes "boolean" ∷ [])

-- what a type begins with
abbrev pub is_type_word : List ℕ → Bool
is_type_word text = is_primitive text || is_name text
