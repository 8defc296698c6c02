-- Tokens that stand one after another in a text.
use Rattle.std.proofs.Common.{◌≡◌, ℕ, zero, suc, ◌+◌, ◌≤◌, Bool, true, false, ◌&&◌, nat_le, IsTrue, List, [], ◌∷◌, length, drop, refl, arith}
use Rattle.std.specs.List.{list_all}
use Rattle.jesc_lexer.specs.declared.token.Token.{Token}
use Rattle.jesc_lexer.specs.Spans.{AreSpans}
use Rattle.jesc_ast.specs.Lexemes.{is_within}

within_spans : (size from : ℕ) (ts : List Token) → AreSpans size from ts → list_all (is_within size) ts ≡ true
within_spans size from [] s = refl
within_spans size from (t ∷ ts) s =
    let order : nat_le t.span.from t.span.to ≡ true = grind (arith, s.1) in
    let fits : nat_le t.span.to size ≡ true = grind (arith, s.2) in
    rw (order, fits) (within_spans size t.span.to ts s.3)

-- each lies in the text
pub are_within : (size : ℕ) (ts : List Token) → AreSpans size 0 ts → IsTrue (list_all (is_within size) ts)
are_within size ts s = within_spans size 0 ts s

spans_fit : (size from : ℕ) (ts : List Token) → from ≤ size → AreSpans size from ts → length ts + from ≤ size
spans_fit size from [] le s = omega arith
spans_fit size from (t ∷ ts) le s = let rest = spans_fit size t.span.to ts s.2 s.3 in omega (arith, rest, s.0, s.1)

-- they are no more than the text has bytes
pub are_few : (size : ℕ) (ts : List Token) → AreSpans size 0 ts → length ts ≤ size
are_few size ts s = let all = spans_fit size 0 ts (omega arith) s in omega (arith, all)

second : (a b : Bool) → (a && b) ≡ true → b ≡ true
second true b e = e
second false b e = absurd cc

pub are_left_within : (size n : ℕ) (ts : List Token) → IsTrue (list_all (is_within size) ts) → IsTrue (list_all (is_within size) (drop n ts))
are_left_within size zero ts e = e
are_left_within size (suc n) [] e = refl
are_left_within size (suc n) (t ∷ ts) e = are_left_within size n ts (second _ _ e)
