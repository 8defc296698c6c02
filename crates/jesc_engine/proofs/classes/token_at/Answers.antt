use Rattle.std.proofs.Common.{length, IfSome, slice_get, sym, ap, ◌∙◌, subst}
use Rattle.jesc_engine.specs.Causes.{LiesWithin}
use Rattle.jesc_engine.proofs.TokenSpans.{lies_within}
use Rattle.jesc_engine.proofs.classes.token_at.Goals as goal

pub returns-clause-within : goal.returns-clause-within
returns-clause-within c =
    let tokens = c.args.tokens.now in
    let same = c.nth.ensures ∙ ap (λ list. slice_get list c.args.at) c.as_slice.ensures in
    subst (λ found. IfSome found (LiesWithin (length tokens.text))) (sym same) (lies_within (length tokens.text) 0 tokens.list c.args.at c.requires)
