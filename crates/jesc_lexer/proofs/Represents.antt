-- The two last tokens of a list.
use Rattle.std.proofs.Common.{◌≡◌, ◌≤◌, ◌<◌, ℕ, ◌-◌, List, [], ◌∷◌, length, drop, refl, ap, ◌∙◌, arith, false, zero, suc, get_or, ◌&&◌, drop-cons}
use Rattle.std.proofs.lemmas.List.{drop_all}
use Rattle.jesc_lexer.specs.declared.token.Token.{Token}
use Rattle.jesc_lexer.specs.Spans.{AreSpans}
use Rattle.jesc_lexer.specs.Reading.{token_text, is_word, is_represents, is_named, after_represents}

pub few : (text : List ℕ) (tokens : List Token) → length tokens < 2 → after_represents text tokens ≡ false
unfolding after_represents
few text [] short = refl
few text (a ∷ []) short = refl
few text (a ∷ (b ∷ tokens)) short = absurd (omega arith)

last_two : (tokens : List Token) (d : Token) → 2 ≤ length tokens
    → drop (length tokens - 2) tokens ≡ get_or tokens (length tokens - 2) d ∷ (get_or tokens (length tokens - 1) d ∷ [])
last_two tokens d enough =
    let n = length tokens in
    let next : suc (n - 2) ≡ n - 1 = omega arith in
    let after : suc (n - 1) ≡ n = omega arith in
    let one : drop (n - 2) tokens ≡ get_or tokens (n - 2) d ∷ drop (suc (n - 2)) tokens = drop-cons tokens (n - 2) d (omega arith) in
    let two : drop (n - 1) tokens ≡ get_or tokens (n - 1) d ∷ drop (suc (n - 1)) tokens = drop-cons tokens (n - 1) d (omega arith) in
    let none : drop (suc (n - 1)) tokens ≡ [] = drop_all (suc (n - 1)) tokens (omega arith) in
    one ∙ ap (λ more. get_or tokens (n - 2) d ∷ more) (ap (λ k. drop k tokens) next ∙ two ∙ ap (λ more. get_or tokens (n - 1) d ∷ more) none)

pub two : (text : List ℕ) (tokens : List Token) (d : Token) → 2 ≤ length tokens
    → after_represents text tokens ≡ (is_word (get_or tokens (length tokens - 1) d).kind && is_represents (token_text text (get_or tokens (length tokens - 2) d)))
unfolding after_represents
two text tokens d enough = ap (is_named text) (last_two tokens d enough)

pub spans_at : (size from : ℕ) (tokens : List Token) (d : Token) (k : ℕ) → AreSpans size from tokens → k < length tokens
    → ((get_or tokens k d).span.from ≤ (get_or tokens k d).span.to) × ((get_or tokens k d).span.to ≤ size)
spans_at size from [] d k spans within = absurd (omega arith)
spans_at size from (token ∷ tokens) d zero spans within = (omega (arith, spans.1), spans.2)
spans_at size from (token ∷ tokens) d (suc k) spans within = spans_at size token.span.to tokens d k spans.3 (omega arith)
