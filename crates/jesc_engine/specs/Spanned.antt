-- That tokens stand one after another has one proof at most.
use Rattle.std.specs.Prelude.{ℕ, List, [], ◌∷◌}
use Rattle.std.specs.Coded.{Unit-prop, le_prop}
use Rattle.jesc_lexer.specs.declared.token.Token.{Token}
use Rattle.jesc_lexer.specs.Spans.{AreSpans}

pub are_spans_prop : (size from : ℕ) (tokens : List Token) → IsProp (AreSpans size from tokens)
are_spans_prop size from [] = Unit-prop
are_spans_prop size from (token ∷ tokens) = hlevel (le_prop, are_spans_prop size token.span.to tokens)
