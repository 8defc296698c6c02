-- A file of the first profile has no more duties than bytes.
use Rattle.std.proofs.Common.{◌≡◌, ℕ, ◌-◌, ◌≤◌, false, codes, List, [], ◌∷◌, ◌++◌, length, map, refl, ap, suc, arith, length-append}
use Rattle.std.proofs.lemmas.List.{length-map}
use Rattle.jesc_lexer.specs.declared.token.Token.{Token}
use Rattle.jesc_lexer.specs.declared.token.Tokens.{Tokens}
use Rattle.jesc_lexer.specs.Spans.{AreSpans}
use Rattle.jesc_ast.specs.Lexemes.{Lexeme, lexeme_of, lexemes}
use Rattle.jesc_first.specs.declared.tree.Method.{Method}
use Rattle.jesc_first.specs.declared.tree.Class.{Class}
use Rattle.jesc_first.specs.Spelling.{Piece, Match, sign, method_pieces, methods_pieces, class_pieces, classes_pieces}
use Rattle.jesc_first.specs.Accepted.{Accepted}
use Rattle.jesc_engine.specs.Judged.{duty_of, class_duties, all_duties}

matched_length : (lexemes : List Lexeme) (pieces : List Piece) → Match lexemes pieces → length lexemes ≡ length pieces
matched_length [] [] matched = refl
matched_length [] (piece ∷ pieces) matched = absurd matched
matched_length (lexeme ∷ lexemes) [] matched = absurd matched
matched_length (lexeme ∷ lexemes) (piece ∷ pieces) matched = ap suc (matched_length lexemes pieces matched.1)

-- a list with one piece in its midst
some_within : {X : Type 0} (xs ys zs : List X) (x : X) → 1 ≤ length (xs ++ (x ∷ ys) ++ zs)
some_within xs ys zs x = omega (arith, length-append (xs ++ (x ∷ ys)) zs, length-append xs (x ∷ ys))

-- a method has a brace at least
some_in_method : (method : Method) → 1 ≤ length (method_pieces method)
some_in_method method = some_within _ _ _ _

methods_within : (methods : List Method) → length methods ≤ length (methods_pieces methods)
methods_within [] = omega arith
methods_within (method ∷ methods) =
    omega (arith, methods_within methods, some_in_method method, length-append (method_pieces method) (methods_pieces methods))

class_within : (class : Class) → length (class_duties class) ≤ length (class_pieces class)
class_within class =
    omega (arith, methods_within class.methods, length-map class.methods (duty_of class.name), length-append (methods_pieces class.methods) (sign false (codes "}") ∷ []))

duties_within : (classes : List Class) → length (all_duties classes) ≤ length (classes_pieces classes)
duties_within [] = omega arith
duties_within (class ∷ classes) =
    omega (arith, duties_within classes, class_within class, length-append (class_duties class) (all_duties classes), length-append (class_pieces class) (classes_pieces classes))

tokens_within : (size from : ℕ) (tokens : List Token) → AreSpans size from tokens → length tokens ≤ size - from
tokens_within size from [] spans = omega arith
tokens_within size from (token ∷ tokens) spans = let rest = tokens_within size token.span.to tokens spans.3 in omega (arith, rest, spans.0, spans.1, spans.2)

-- the duties of the classes of a file that is not too large
pub few_duties : (before : List (List ℕ)) (tokens : Tokens) (classes : List Class)
    → AreSpans (length tokens.text) 0 tokens.list → length tokens.text ≤ 1048576 → Accepted before (lexemes tokens) classes
    → length (all_duties classes) ≤ 1048576
few_duties before tokens classes spans short accepted =
    omega (
      arith,
      duties_within classes,
      matched_length (lexemes tokens) (classes_pieces classes) accepted.matched,
      length-map tokens.list (lexeme_of tokens.text),
      tokens_within (length tokens.text) 0 tokens.list spans,
      short,
    )
