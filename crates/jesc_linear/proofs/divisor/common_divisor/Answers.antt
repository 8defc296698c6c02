use Rattle.std.proofs.lemmas.Nat.Gcd.{IsGcd-from_mod, IsGcd-from_zero}
use Rattle.jesc_linear.proofs.divisor.common_divisor.Goals as goal

pub loop-lesser-preserved : goal.loop-lesser-preserved
loop-lesser-preserved c = λ d h. c.loop-lesser.invariant d (IsGcd-from_mod c.loop-lesser.greater c.loop-lesser.lesser d h)

pub returns : goal.returns
returns c = c.loop-lesser.invariant c.loop-lesser.greater (IsGcd-from_zero c.loop-lesser.greater c.loop-lesser.lesser c.loop-lesser-test.false)
