use Rattle.std.proofs.Common.{◌+◌, sym, subst}
use Rattle.jesc_lexer.specs.Inner.{Ends, IsStep, AreBefore, IsTextOf}
use Rattle.jesc_lexer.proofs.Readings.{before_more}
use Rattle.jesc_lexer.proofs.reading.take_piece.Goals as goal

pub returns-in_ok-push_token-in-Lexeme-clause-step : goal.returns-in_ok-push_token-in-Lexeme-clause-step
returns-in_ok-push_token-in-Lexeme-clause-step c = λ text rest step own stands within before.
    let n = c.in-Lexeme.size in
    let ends : Ends rest n = subst (λ p. IsStep rest p) c.in-Lexeme.is step in
    let own_text = subst (λ p. IsTextOf c.args.note rest p) c.in-Lexeme.is own in (
      ends,
      subst (λ tokens. AreBefore text (c.args.at + n) tokens) (sym c.in_ok-push_token-in-Lexeme.ensures.ok)
          (before_more text rest c.args.at c.args.tokens.now c.args.file c.args.note c.in-Lexeme.kind n before ends within stands own_text),
    )
