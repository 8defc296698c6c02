use Rattle.std.proofs.Common.{◌+◌, sym, subst, ℤ, ℕ, List, take}
use Rattle.std.proofs.lemmas.List.{take_rest}
use Rattle.jesc_text.specs.Numbers.{IsNumber}
use Rattle.jesc_cert.specs.Inner.{IsNext, IsFirst}
use Rattle.jesc_cert.proofs.Numerals.{wide}
use Rattle.jesc_cert.proofs.NumberLines.{next_is, no_next}
use Rattle.jesc_cert.proofs.line_reader.next_number.Goals as goal

pub returns-in-Some : goal.returns-in-Some
returns-in-Some c =
    let bytes = c.args.bytes.now in
    let n = c.in-Some.number in
    let count = c.bytes_before-count.result in
    let next = next_is bytes count n c.if-bytes-ne32.false
    (subst (λ (t : List ℕ). IsFirst 32 t count) (take_rest bytes 1) c.bytes_before-count.ensures)
    (subst (λ (t : List ℕ). IsNumber (take count t) n) (take_rest bytes 1) c.in-Some.ensures) in
    subst (λ (y : ℤ). IsNext bytes y (count + 1)) (sym (wide n next.within)) next

pub returns-in-None : goal.returns-in-None
returns-in-None c =
    let bytes = c.args.bytes.now in
    let count = c.bytes_before-count.result in
    no_next bytes count
    (subst (λ (t : List ℕ). IsFirst 32 t count) (take_rest bytes 1) c.bytes_before-count.ensures)
    (subst (λ (t : List ℕ). (z : ℤ) → ¬ (IsNumber (take count t) z)) (take_rest bytes 1) c.in-None.ensures)
