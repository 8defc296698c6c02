use Rattle.std.proofs.Common.{◌≡◌, pos, sym, subst, ap, ◌∙◌, arith, to_z, of_z, ◌≤ℤ◌}
use Rattle.std.specs.Int.{w128}
use Rattle.std.specs.Prelude.{unsigned_abs}
use Rattle.std.proofs.lemmas.Int.{ints}
use Rattle.std.specs.Fmt.{decimal}
use Rattle.jesc_text.specs.Numbers.{IsNumber}
use Rattle.jesc_cert.proofs.Numerals.{number_text, text_number, natural_is, natural_text_of, wide}
use Rattle.jesc_cert.proofs.line_reader.read_small.Goals as goal

pub returns-then-n-lt0 : goal.returns-then-n-lt0
returns-then-n-lt0 c = λ n l e.
    let z = c.in-Some.n in
    let is : z ≡ pos n = natural_is c.args.bytes.now z n c.in-Some.ensures (omega (arith, l, c.ranges.most.fits)) e in
    let same : to_z w128 (of_z w128 z) ≡ pos n = wide z (number_text c.args.bytes.now z c.in-Some.ensures).1 ∙ is in
    omega (arith, ints, same, c.if-n-lt0.true)

pub returns-then-n-most : goal.returns-then-n-most
returns-then-n-most c = λ n l e.
    let z = c.in-Some.n in
    let is : z ≡ pos n = natural_is c.args.bytes.now z n c.in-Some.ensures (omega (arith, l, c.ranges.most.fits)) e in
    let same : to_z w128 (of_z w128 z) ≡ pos n = wide z (number_text c.args.bytes.now z c.in-Some.ensures).1 ∙ is in
    omega (arith, ints, same, l, c.ranges.most.fits, c.if-n-most.true)

pub returns-else-n-most : goal.returns-else-n-most
returns-else-n-most c =
    let z = c.in-Some.n in
    let same : to_z w128 (of_z w128 z) ≡ z = wide z (number_text c.args.bytes.now z c.in-Some.ensures).1 in
    let some : pos 0 ≤ℤ z = omega (arith, ints, same, c.if-n-lt0.false) in (
      omega (arith, ints, same, some, c.ranges.most.fits, c.if-n-most.false),
      natural_text_of c.args.bytes.now z c.in-Some.ensures some ∙ ap (λ y. decimal (unsigned_abs y)) (sym same),
    )

pub returns-in-None : goal.returns-in-None
returns-in-None c = λ n l e. c.in-None.ensures (pos n) (subst (λ b. IsNumber b (pos n)) (sym e) (text_number (pos n) (omega (arith, l, c.ranges.most.fits))))
