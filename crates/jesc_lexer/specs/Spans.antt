-- Tokens that stand one after another in a text.
use Rattle.std.specs.Prelude.{ℕ, ◌≤◌, ◌<◌, List, [], ◌∷◌}
use Rattle.jesc_lexer.specs.declared.token.Token.{Token}

-- the spans begin at an offset or later, aren't empty, rise, and lie in a text of this size
abbrev pub AreSpans : ℕ → ℕ → List Token → Type 0
AreSpans size from [] = Unit {0}
AreSpans size from (token ∷ tokens) =
    (from ≤ token.span.from) × (token.span.from < token.span.to) × (token.span.to ≤ size) × AreSpans size token.span.to tokens

-- a text, under a name that no type of the code has
abbrev pub Bytes : Type 0
Bytes = List ℕ
