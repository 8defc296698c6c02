use Rattle.std.proofs.Common.{ℕ, subst, ◌+◌, ◌<◌, sym, ◌∙◌, length}
use Rattle.jesc_lexer.proofs.Values.{Sums, skips, stays, grows}
use Rattle.jesc_member_rules.proofs.literal.sum.Goals as goal
use Rattle.jesc_member_rules.proofs.literal.sum.Goals.{then-is_ascii_digit+then-value, else-is_ascii_digit, else-is_ascii_digit-via-then-is_ascii_digit+else-value, else-is_ascii_digit-via-else-is_ascii_digit}

pub loop-byte-preserved : goal.loop-byte-preserved
loop-byte-preserved c =
    let limit : ℕ = 9223372036854775808 in
    let bytes = c.args.bytes.now in
    let i = c.loop-byte.byte-index in
    let sums : Sums limit c.loop-byte.value bytes i = c.loop-byte.invariant in
    let within : i < length bytes = c.loop-byte-test.true in
    let test = sym c.is_ascii_digit.ensures.value in
    elim c.if-is_ascii_digit.branch [
      | then-is_ascii_digit+then-value w ↦
          subst (λ v. Sums limit v bytes (i + 1)) (sym w.value-is) (grows limit c.loop-byte.value bytes i within (test ∙ w.if-is_ascii_digit.true) w.if-value.true sums)
      | else-is_ascii_digit w ↦
          subst (λ v. Sums limit v bytes (i + 1)) (sym w.value-is)
          (elim w.else-is_ascii_digit.branch [
            | else-is_ascii_digit-via-then-is_ascii_digit+else-value w' ↦ stays limit c.loop-byte.value bytes i within w'.if-value.false sums
            | else-is_ascii_digit-via-else-is_ascii_digit w' ↦ skips limit c.loop-byte.value bytes i within (test ∙ w'.if-is_ascii_digit.false) sums
          ])
    ]
