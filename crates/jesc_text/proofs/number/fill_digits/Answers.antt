use Rattle.std.proofs.Common.{◌≤◌, ◌<◌, ◌^◌, ◌+◌, ◌++◌, length, drop, ap, sym, ◌∙◌, arith}
use Rattle.std.specs.Fmt.{decimal}
use Rattle.std.proofs.lemmas.Fmt.{decimal_digit}
use Rattle.std.proofs.lemmas.List.{append-nil, drop_all}
use Rattle.jesc_text.proofs.Digits.{length_within, length_step, digit_before, first_set}
use Rattle.jesc_text.proofs.number.fill_digits.Goals as goal

pub loop-rest-init : goal.loop-rest-init
loop-rest-init c =
    let fits = c.ranges.n.fits in
    record {
      room = omega (arith, length_within c.args.n fits);
      within = omega arith;
      fits = fits;
      written = ap (λ more. decimal c.args.n ++ more) (drop_all 40 c.args.buffer.now (omega (arith, c.requires))) ∙ append-nil (decimal c.args.n);
    }

pub overflow_sub-first : goal.overflow_sub-first
overflow_sub-first c = omega (arith, c.loop-rest.invariant.room)

pub loop-rest-preserved : goal.loop-rest-preserved
loop-rest-preserved c =
    let n = c.loop-rest.rest in
    let several : 10 ≤ n = c.loop-rest-test.true in
    let fits : n < 2 ^ 128 = c.loop-rest.invariant.fits in
    let wide : n < 10 ^ 64 = omega arith in
    let step = length_step n several wide in
    let room : length (decimal n) < c.loop-rest.first = c.loop-rest.invariant.room in
    record {
      room = omega (arith, step, room);
      within = omega (arith, c.loop-rest.invariant.within);
      fits = omega arith;
      written = digit_before n c.loop-rest.first c.loop-rest.buffer several wide (omega (arith, room)) (omega (arith, c.loop-rest.invariant.within, c.loop-rest.auto.buffer)) ∙ c.loop-rest.invariant.written;
    }

pub returns-clause-room : goal.returns-clause-room
returns-clause-room c =
    let one = ap length (decimal_digit c.loop-rest.rest c.loop-rest-test.false) in omega (arith, one, c.loop-rest.invariant.room)

pub returns-clause-digits : goal.returns-clause-digits
returns-clause-digits c =
    let one = decimal_digit c.loop-rest.rest c.loop-rest-test.false in
    let some : 0 < c.loop-rest.first = omega (arith, ap length one, c.loop-rest.invariant.room) in
    let within : c.loop-rest.first ≤ length c.loop-rest.buffer = omega (arith, c.loop-rest.invariant.within, c.loop-rest.auto.buffer, c.requires) in
    first_set c.loop-rest.first c.loop-rest.buffer (48 + c.loop-rest.rest) some within
    ∙ ap (λ digits. digits ++ drop c.loop-rest.first c.loop-rest.buffer) (sym one)
    ∙ c.loop-rest.invariant.written
