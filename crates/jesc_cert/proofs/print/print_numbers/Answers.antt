use Rattle.std.proofs.Common.{◌++◌, ◌∷◌, ap, ◌∙◌, sym, take, get_or, pos}
use Rattle.std.proofs.lemmas.List.{take_more}
use Rattle.std.specs.Fmt.{signed_decimal}
use Rattle.jesc_cert.specs.Texts.{numbers_text}
use Rattle.jesc_cert.proofs.Printing.{number_more}
use Rattle.jesc_cert.proofs.print.print_numbers.Goals as goal

pub loop-number-preserved : goal.loop-number-preserved
loop-number-preserved c =
    let items = c.args.numbers.now in
    let i = c.loop-number.number-index in
    let item = get_or items i (pos 0) in
    c.in_ok-print_number.ensures
    ∙ ap (λ t. t ++ 32 ∷ signed_decimal item) c.loop-number.invariant
    ∙ sym (number_more c.args.into.now (take i items) item)
    ∙ ap (λ ns. c.args.into.now ++ numbers_text ns) (sym (take_more items i (pos 0) c.loop-number-test.true))
