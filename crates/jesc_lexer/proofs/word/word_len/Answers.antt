use Rattle.std.proofs.Common.{sym, subst, ◌∙◌, ap, ◌≡◌, ◌<◌, arith, length, get_or}
use Rattle.std.specs.List.{prefix_len}
use Rattle.std.proofs.lemmas.List.Sums.{prefix_len-le-length}
use Rattle.jesc_lexer.specs.Characters.{is_ascii_word_part}
use Rattle.jesc_lexer.proofs.Words.{word_len_ascii}
use Rattle.jesc_lexer.proofs.word.word_len.Goals as goal

pub returns-then-run-bytes : goal.returns-then-run-bytes
returns-then-run-bytes c =
    let same = c.as_bytes-bytes.ensures.value in
    let run : c.ascii_run-run.result ≡ prefix_len is_ascii_word_part c.args.text.now = c.ascii_run-run.ensures ∙ ap (prefix_len is_ascii_word_part) same in
    let whole : c.ascii_run-run.result ≡ length c.args.text.now = c.if-run-bytes.true ∙ ap length same in
    run ∙ sym (word_len_ascii c.args.text.now (λ more. absurd (omega (arith, more, run, whole))))

pub bounds-bytes-run : goal.bounds-bytes-run
bounds-bytes-run c = omega (arith, prefix_len-le-length is_ascii_word_part c.as_bytes-bytes.result.now, c.ascii_run-run.ensures, c.if-run-bytes.false)

pub returns-then-bytes-run-lt128 : goal.returns-then-bytes-run-lt128
returns-then-bytes-run-lt128 c =
    let same = c.as_bytes-bytes.ensures.value in
    let run : c.ascii_run-run.result ≡ prefix_len is_ascii_word_part c.args.text.now = c.ascii_run-run.ensures ∙ ap (prefix_len is_ascii_word_part) same in
    run ∙ sym (word_len_ascii c.args.text.now (λ more. subst (λ n. get_or c.args.text.now n 0 < 128) run (subst (λ t. get_or t c.ascii_run-run.result 0 < 128) same c.if-bytes-run-lt128.true)))
