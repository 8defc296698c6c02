-- A token among others lies in their text.
use Rattle.std.proofs.Common.{◌≡◌, ℕ, zero, suc, List, [], ◌∷◌, IfSome, slice_get, arith}
use Rattle.jesc_lexer.specs.declared.token.Token.{Token}
use Rattle.jesc_lexer.specs.Spans.{AreSpans}
use Rattle.jesc_engine.specs.Causes.{LiesWithin}

pub lies_within : (size from : ℕ) (tokens : List Token) (at : ℕ) → AreSpans size from tokens → IfSome (slice_get tokens at) (LiesWithin size)
lies_within size from [] at spans = tt
lies_within size from (token ∷ tokens) zero spans = record { rising = omega (arith, spans.1); within = spans.2 }
lies_within size from (token ∷ tokens) (suc at) spans = lies_within size token.span.to tokens at spans.3
