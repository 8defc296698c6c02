use Rattle.std.proofs.Common.{◌≡◌, ◌≤◌, ap, sym, ◌∙◌, subst, length, drop, true, arith}
use Rattle.std.specs.Str.{IsCharBoundary}
use Rattle.jesc_lexer.specs.Characters.{begins, is_suffix}
use Rattle.jesc_lexer.specs.Lexemes.{digits_len}
use Rattle.jesc_lexer.proofs.Edges.{digits_edge, suffix_edge}
use Rattle.jesc_lexer.proofs.number.number_at.Goals as goal

pub checked-requires-clause-edge : goal.checked-requires-clause-edge
checked-requires-clause-edge c =
    let n = c.digits_len-digits.result in
    let suffix : begins is_suffix (drop n c.args.text.now) ≡ true = ap (λ t. begins is_suffix (drop n t)) (sym c.as_bytes-bytes.ensures.value) ∙ sym c.has_suffix_at.ensures ∙ c.if-has_suffix_at.true in
    suffix_edge c.args.text.now n c.utf8.text suffix

pub checked-requires-2-clause-edge : goal.checked-requires-2-clause-edge
checked-requires-2-clause-edge c =
    let text = c.args.text.now in
    let same : c.digits_len-digits.result ≡ digits_len text = c.digits_len-digits.ensures.value ∙ ap digits_len c.as_bytes-bytes.ensures.value in
    let within : digits_len text ≤ length text = omega (arith, same, c.digits_len-digits.ensures.within, ap length c.as_bytes-bytes.ensures.value) in
    subst (λ n. IsCharBoundary text n) (sym same) (digits_edge text c.utf8.text c.requires within)
