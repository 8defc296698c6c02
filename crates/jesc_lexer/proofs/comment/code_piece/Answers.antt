use Rattle.std.proofs.Common.{◌≡◌, ◌∙◌, sym, ap, refl, true, nat_eq, codes}
use Rattle.std.specs.List.{starts_with}
use Rattle.jesc_lexer.proofs.Steps.{fit_ends}
use Rattle.jesc_lexer.proofs.comment.code_piece.Goals as goal

pub rest_of-requires : goal.rest_of-requires
rest_of-requires c =
    let fit : starts_with nat_eq c.args.text.now (codes "//") ≡ true = ap (λ t. starts_with nat_eq t (codes "//")) (sym c.as_bytes-bytes.ensures.value) ∙ sym c.starts_with.ensures.value ∙ c.if-starts_with.true in
    (fit_ends c.args.text.now (codes "//") c.utf8.text refl fit).edge

pub rest_of-requires-then-starts_with-2 : goal.rest_of-requires-then-starts_with-2
rest_of-requires-then-starts_with-2 c =
    let fit : starts_with nat_eq c.args.text.now (codes "/*") ≡ true = ap (λ t. starts_with nat_eq t (codes "/*")) (sym c.as_bytes-bytes.ensures.value) ∙ sym c.starts_with-2.ensures.value ∙ c.if-starts_with-2.true in
    (fit_ends c.args.text.now (codes "/*") c.utf8.text refl fit).edge
