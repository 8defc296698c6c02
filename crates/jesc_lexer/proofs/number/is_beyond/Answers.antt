use Rattle.std.proofs.Common.{subst, ◌+◌, ◌<◌, sym, ◌∙◌, length}
use Rattle.jesc_lexer.proofs.Values.{Sums, skips, stays, grows}
use Rattle.jesc_lexer.proofs.number.is_beyond.Goals as goal
use Rattle.jesc_lexer.proofs.number.is_beyond.Goals.{then-is_ascii_digit+then-value-limit, else-is_ascii_digit, else-is_ascii_digit-via-then-is_ascii_digit+else-value-limit, else-is_ascii_digit-via-else-is_ascii_digit}

pub loop-byte-preserved : goal.loop-byte-preserved
loop-byte-preserved c =
    let bytes = c.args.bytes.now in
    let i = c.loop-byte.byte-index in
    let sums : Sums c.args.limit c.loop-byte.value bytes i = c.loop-byte.invariant in
    let within : i < length bytes = c.loop-byte-test.true in
    let test = sym c.is_ascii_digit.ensures.value in
    elim c.if-is_ascii_digit.branch [
      | then-is_ascii_digit+then-value-limit w ↦
          subst (λ v. Sums c.args.limit v bytes (i + 1)) (sym w.value-is) (grows c.args.limit c.loop-byte.value bytes i within (test ∙ w.if-is_ascii_digit.true) w.if-value-limit.true sums)
      | else-is_ascii_digit w ↦
          subst (λ v. Sums c.args.limit v bytes (i + 1)) (sym w.value-is)
          (elim w.else-is_ascii_digit.branch [
            | else-is_ascii_digit-via-then-is_ascii_digit+else-value-limit w' ↦ stays c.args.limit c.loop-byte.value bytes i within w'.if-value-limit.false sums
            | else-is_ascii_digit-via-else-is_ascii_digit w' ↦ skips c.args.limit c.loop-byte.value bytes i within (test ∙ w'.if-is_ascii_digit.false) sums
          ])
    ]
