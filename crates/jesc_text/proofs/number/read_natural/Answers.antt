use Rattle.std.proofs.Common.{arith}
use Rattle.std.proofs.lemmas.Int.Digits.{digits_value_more, digits_more}
use Rattle.jesc_text.proofs.Digits.{digit_at, prefix_value}
use Rattle.jesc_text.proofs.number.read_natural.Goals as goal

pub returns-in-None : goal.returns-in-None
returns-in-None c = λ natural.
    let digit = digit_at c.args.bytes.now c.loop-byte.byte-index natural.0.digits c.loop-byte-test.true in
    let least = prefix_value c.args.bytes.now c.loop-byte.byte-index c.loop-byte-test.true in
    let so_far = c.loop-byte.invariant.value in
    c.in-None.ensures (digit, omega (arith, so_far, least, natural.1))

pub loop-byte-preserved : goal.loop-byte-preserved
loop-byte-preserved c =
    let value = digits_value_more 10 c.args.bytes.now c.loop-byte.byte-index c.loop-byte-test.true in
    let digits = digits_more 10 c.args.bytes.now c.loop-byte.byte-index c.loop-byte-test.true c.loop-byte.invariant.digits in
    let added = c.in-Some.ensures in
    record {
      digits = digits added.0;
      value = omega (arith, value, added.1, c.loop-byte.invariant.value);
      small = added.2;
    }
