-- Rules of statements, opened at their first token.
use Rattle.std.proofs.Common.{◌≡◌, ℕ, false, List, codes, refl}
use Rattle.jesc_ast.specs.Lexemes.{Lexeme}
use Rattle.jesc_ast.specs.Trees.{Clause}
use Rattle.jesc_jml_grammar.specs.ClauseFound.{Sized, no_items}
use Rattle.jesc_jml_grammar.specs.Steps.{◌>>=◌, pure}
use Rattle.jesc_java_grammar.specs.declared.statement_mark.Slot.TheVariants as slots
use Rattle.jesc_java_grammar.specs.Lexing.{is_sign, is_word, take_if}
use Rattle.jesc_java_grammar.specs.StatementFound.{block_of, for_of, attempt_of}
use Rattle.jesc_java_grammar.specs.StatementReading.{block_, for_, attempt_, body_rest, for_head, braced, some_catches}
use Rattle.jesc_java_grammar.specs.StatementNests.{over, statement_within}

pub block_rule : (room : ℕ) (ts : List Lexeme)
    → over block_ room ts ≡ (take_if (is_sign (codes "{") false) >>= (λ p. over body_rest room no_items >>= (λ b. pure (block_of p b)))) ts
unfolding block_
block_rule room ts = refl

pub for_rule : (room : ℕ) (cs : Sized (List Clause)) (ts : List Lexeme)
    → over for_ room cs ts ≡ (take_if (is_word (codes "for") false) >>= (λ r. over for_head room >>= (λ head. statement_within room slots.Then >>= (λ turn. pure (for_of cs r head turn))))) ts
unfolding for_
for_rule room cs ts = refl

pub attempt_rule : (room : ℕ) (ts : List Lexeme)
    → over attempt_ room ts ≡ (take_if (is_word (codes "try") false) >>= (λ r. over braced room >>= (λ b. over some_catches room >>= (λ cs. pure (attempt_of r b cs))))) ts
unfolding attempt_
attempt_rule room ts = refl
