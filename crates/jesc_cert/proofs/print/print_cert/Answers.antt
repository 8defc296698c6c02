use Rattle.std.proofs.Common.{◌++◌, [], ◌∷◌, ap, ◌∙◌, sym, take}
use Rattle.std.specs.Prelude.{map}
use Rattle.std.proofs.lemmas.List.{map_more}
use Rattle.jesc_cert.specs.Texts.{cond_text, line_text, ended}
use Rattle.jesc_cert.proofs.Printing.{ended_more}
use Rattle.jesc_cert.proofs.print.print_cert.Goals as goal

pub loop-line-preserved : goal.loop-line-preserved
loop-line-preserved c =
    let items = c.as_slice-line-items.result.now in
    let i = c.loop-line.line-index in
    let item = c.line-item.result in
    let before = c.args.into.now ++ ended (cond_text c.args.duty.now c.args.number ∷ []) in
    c.in_ok-print_line.ensures
    ∙ ap (λ t. t ++ ended (line_text item ∷ [])) c.loop-line.invariant
    ∙ ended_more before (map line_text (take i items)) (line_text item)
    ∙ ap (λ ls. before ++ ended (map line_text (take i items) ++ ls ∷ [])) (ap line_text c.line-item.is)
    ∙ ap (λ ls. before ++ ended ls) (sym (map_more line_text items i item c.loop-line-test.true))
