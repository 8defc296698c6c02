-- The lexemes of tokens from one of them on.
use Rattle.std.proofs.Common.{◌≡◌, ℕ, zero, suc, ◌-◌, Bool, true, IsTrue, List, [], ◌∷◌, map, length, drop, refl, sym, ap, ◌∙◌}
use Rattle.std.specs.Prelude.{slice_get, codes}
use Rattle.std.proofs.lemmas.List.{length-drop, length-map, drop-map}
use Rattle.jesc_lexer.specs.declared.token.Token.{Token}
use Rattle.jesc_lexer.specs.declared.token.Tokens.{Tokens}
use Rattle.jesc_ast.specs.Lexemes.{lexeme_of, lexemes}
use Rattle.jesc_ast.specs.Words.{is_one_of}
use Rattle.jesc_ast.specs.Expressions.{IsQuantifier, is_forall, is_exists}
use Rattle.jesc_jml_grammar.specs.Steps.{mark_at}
use Rattle.jesc_jml_grammar.specs.Reading.{is_quantifier_mark}
use Rattle.jesc_jml_parser.specs.laws.SoundLexemes.{quantifies}
use Rattle.jesc_jml_parser.specs.Refusals.{is_quantifier_next}
use Rattle.jesc_jml_parser.specs.ParsedTrees.{lexemes_from}

pub count : (tokens : Tokens) (from : ℕ) → length (lexemes_from tokens from) ≡ length tokens.list - from
count tokens from = length-drop from (lexemes tokens) ∙ ap (λ (n : ℕ). n - from) (length-map tokens.list (lexeme_of tokens.text))

pub seen_from : (text : List ℕ) (list : List Token) (from : ℕ) → map (lexeme_of text) (drop from list) ≡ drop from (map (lexeme_of text) list)
seen_from text list from = sym (drop-map (lexeme_of text) from list)

quantifier_text : (w : List ℕ) (all : Bool) → IsQuantifier w all → IsTrue (is_one_of (codes "\\forall" ∷ codes "\\exists" ∷ []) w)
quantifier_text w all is_forall = refl
quantifier_text w all is_exists = refl

pub quantifier_at : (note : Bool) (tokens : Tokens) (list : List Token) (at : ℕ)
    → is_quantifier_mark (mark_at note (drop at (map (lexeme_of tokens.text) list))) ≡ true → IsTrue (is_quantifier_next tokens (slice_get list at))
unfolding mark_at
quantifier_at note tokens [] zero e = absurd cc
quantifier_at note tokens [] (suc at) e = absurd cc
quantifier_at note tokens (t ∷ list) zero e =
    quantifier_text _ _ (quantifies note _ e (lexeme_of tokens.text t) refl).quantifier
quantifier_at note tokens (t ∷ list) (suc at) e = quantifier_at note tokens list at e
