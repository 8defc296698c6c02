use Rattle.std.proofs.Common.{◌≡◌, ◌-◌, sym, subst, ◌∙◌, get_or, length, take, drop, Some, refl, true, false}
use Rattle.std.proofs.lemmas.List.{take_rest}
use Rattle.jesc_cert.specs.Texts.{HasForm}
use Rattle.jesc_cert.specs.Inner.{AreNumbers}
use Rattle.jesc_cert.proofs.Conds.{line_same}
use Rattle.jesc_cert.proofs.line_reader.read_line.Goals as goal

pub returns-then-not-has_form : goal.returns-then-not-has_form
returns-then-not-has_form c = λ l line e.
    let bytes = c.args.line.now in
    let numbers = c.in-Some-2.numbers in
    let read : AreNumbers (take (length bytes - 1) (drop 1 bytes)) (Some numbers) = subst (AreNumbers (take (length bytes - 1) (drop 1 bytes))) c.in-Some-2.is c.in_ok-numbers.ensures in
    let form = line_same bytes c.in-Some.kind (get_or bytes 0 0) numbers l c.in-Some.ensures refl read.0 (sym (take_rest bytes 1) ∙ read.1) line e in
    let no : false ≡ true = c.if-not-has_form.ensures.1 (subst (HasForm c.in-Some.kind) (sym c.as_slice.ensures) form) in
    cc
