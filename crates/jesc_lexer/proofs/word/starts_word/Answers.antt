use Rattle.std.proofs.Common.{sym, ap, subst, ◌∙◌, ◌<◌, ◌||◌, ◌==◌, get_or}
use Rattle.std.specs.Char.{is_ascii_alphabetic}
use Rattle.jesc_lexer.proofs.Words.{starts_ascii}
use Rattle.jesc_lexer.proofs.word.starts_word.Goals as goal

pub returns-then-first-lt128 : goal.returns-then-first-lt128
returns-then-first-lt128 c =
    let same = c.as_bytes.ensures.value in
    let ascii : get_or c.args.text.now 0 0 < 128 = subst (λ t. get_or t 0 0 < 128) same c.if-first-lt128.true in
    c.is_ascii_start.ensures ∙ ap (λ t. is_ascii_alphabetic (get_or t 0 0) || (get_or t 0 0 == 95) || (get_or t 0 0 == 36)) same ∙ sym (starts_ascii c.args.text.now c.requires ascii)
