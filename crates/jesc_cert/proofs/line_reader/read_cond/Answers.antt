use Rattle.std.proofs.Common.{◌≡◌, ◌+◌, ◌-◌, ◌<◌, ◌^◌, ◌++◌, [], ◌∷◌, sym, subst, ap, ◌∙◌, ℕ, List, arith, length, take, drop}
use Rattle.std.specs.Fmt.{decimal}
use Rattle.std.proofs.lemmas.List.{take_rest}
use Rattle.jesc_cert.specs.Inner.{IsCond, Without}
use Rattle.jesc_cert.proofs.Pieces.{without_take, without_drop, text_front}
use Rattle.jesc_cert.proofs.Conds.{no_name, no_number, number_is, read_is}
use Rattle.jesc_cert.proofs.line_reader.read_cond.Goals as goal

pub returns-then-count-eq0 : goal.returns-then-count-eq0
returns-then-count-eq0 c = λ duty number cond e.
    let line = c.args.line.now in
    no_name (take (length line - 5) (drop 5 line)) duty number c.bytes_before-count.result c.bytes_before-count.ensures cond (take_rest line 5 ∙ ap (drop 5) e) c.if-count-eq0.true

pub returns-then-count-rest : goal.returns-then-count-rest
returns-then-count-rest c = λ duty number cond e.
    let line = c.args.line.now in
    no_number (take (length line - 5) (drop 5 line)) duty number c.bytes_before-count.result c.bytes_before-count.ensures cond (take_rest line 5 ∙ ap (drop 5) e) c.if-count-rest.true

pub returns-in-None : goal.returns-in-None
returns-in-None c = λ duty number cond e.
    let line = c.args.line.now in
    let count = c.bytes_before-count.result in
    let rest = take (length line - 5) (drop 5 line) in
    let is = number_is rest duty number count c.bytes_before-count.ensures cond (take_rest line 5 ∙ ap (drop 5) e) c.if-count-rest.false in
    c.in-None.ensures number (omega (arith, cond.small)) (take_rest rest (count + 1) ∙ is)

pub returns : goal.returns
returns c =
    let line = c.args.line.now in
    let count = c.bytes_before-count.result in
    let rest = take (length line - 5) (drop 5 line) in
    let number = c.in-Some.number in
    let read = c.in-Some.ensures in
    let small : number < 2 ^ 32 = omega (arith, read.0) in
    let feed : Without 10 (take count rest) = without_take 10 count rest (without_take 10 (length line - 5) (drop 5 line) (without_drop 10 5 line c.requires)) in
    let is = read_is rest number count c.bytes_before-count.ensures feed c.if-count-eq0.false c.if-count-rest.false small (sym (take_rest rest (count + 1)) ∙ read.1) in
    let name : c.append.new.self ≡ take count rest = c.in_ok-append.ensures.ok ∙ ap (λ t. t ++ take count rest) c.new-duty.ensures in
    let whole : line ≡ 99 ∷ 111 ∷ 110 ∷ 100 ∷ 32 ∷ (take count rest ++ 32 ∷ decimal number) =
    text_front (99 ∷ 111 ∷ 110 ∷ 100 ∷ 32 ∷ []) line c.if-not-starts_with.ensures.value ∙ ap (λ t. 99 ∷ 111 ∷ 110 ∷ 100 ∷ 32 ∷ t) (sym (take_rest line 5) ∙ is.1) in (
      subst (λ (t : List ℕ). IsCond t number) (sym name) is.0,
      subst (λ (t : List ℕ). line ≡ 99 ∷ 111 ∷ 110 ∷ 100 ∷ 32 ∷ (t ++ 32 ∷ decimal number)) (sym name) whole,
    )
