use Rattle.std.proofs.Common.{◌≡◌, ◌-◌, ◌∙◌, sym, ap, true, false, length, get_or, arith, ◌&&◌}
use Rattle.jesc_lexer.specs.declared.token.Token.{Token}
use Rattle.jesc_lexer.specs.declared.token.TokenKind.TheVariants.{Word}
use Rattle.jesc_lexer.specs.Reading.{token_text, is_word, is_represents}
use Rattle.jesc_lexer.proofs.Represents.{few, two, spans_at}
use Rattle.jesc_lexer.proofs.reading.after_represents.Goals as goal

abbrev blank : Token
blank = record { kind = Word; span = record { file = 0; from = 0; to = 0 }; note = false }

pub returns-then-count-lt2 : goal.returns-then-count-lt2
returns-then-count-lt2 c = sym (few c.args.text.now c.args.tokens.now c.if-count-lt2.true)

pub returns-then-not-is_word : goal.returns-then-not-is_word
returns-then-not-is_word c =
    let tokens = c.args.tokens.now in
    let no_word : is_word (get_or tokens (length tokens - 1) blank).kind ≡ false = sym c.is_word.ensures ∙ c.if-not-is_word.true in
    sym (two c.args.text.now tokens blank c.if-count-lt2.false ∙ ap (λ v. v && is_represents (token_text c.args.text.now (get_or tokens (length tokens - 2) blank))) no_word)

pub text_of-requires-clause-order : goal.text_of-requires-clause-order
text_of-requires-clause-order c =
    let tokens = c.args.tokens.now in (spans_at (length c.args.text.now) 0 tokens blank (length tokens - 2) c.requires (omega (arith, c.if-count-lt2.false))).0

pub text_of-requires-clause-within : goal.text_of-requires-clause-within
text_of-requires-clause-within c =
    let tokens = c.args.tokens.now in (spans_at (length c.args.text.now) 0 tokens blank (length tokens - 2) c.requires (omega (arith, c.if-count-lt2.false))).1

pub returns : goal.returns
returns c =
    let tokens = c.args.tokens.now in
    let word : is_word (get_or tokens (length tokens - 1) blank).kind ≡ true = sym c.is_word.ensures ∙ c.if-not-is_word.false in
    c.is_represents.ensures ∙ ap is_represents c.text_of.ensures
    ∙ sym (two c.args.text.now tokens blank c.if-count-lt2.false ∙ ap (λ v. v && is_represents (token_text c.args.text.now (get_or tokens (length tokens - 2) blank))) word)
