use Rattle.std.proofs.Common.{◌≡◌, arith, refl, sym, ◌∙◌, true, false, nat_eq, codes}
use Rattle.std.specs.List.{starts_with}
use Rattle.std.proofs.lemmas.Grind.{common_steps}
use Rattle.std.proofs.lemmas.List.Sums.{suffix_len-le-length, prefix_len-le-length}
use Rattle.jesc_lexer.specs.Lexemes.{digits_len}
use Rattle.jesc_lexer.proofs.number.digits_len.Goals as goal

pub overflow_sub-result : goal.overflow_sub-result
overflow_sub-result c = grind (arith, common_steps, suffix_len-le-length, prefix_len-le-length)

pub returns-clause-value : goal.returns-clause-value
unfolding digits_len
returns-clause-value c =
    let other : starts_with nat_eq c.args.bytes.now (codes "0") ≡ false = sym c.starts_with.ensures.value ∙ c.if-starts_with.false in
    rw other (cc)

pub returns-then-starts_with-clause-value : goal.returns-then-starts_with-clause-value
unfolding digits_len
returns-then-starts_with-clause-value c =
    let zero : starts_with nat_eq c.args.bytes.now (codes "0") ≡ true = sym c.starts_with.ensures.value ∙ c.if-starts_with.true in
    rw zero refl
