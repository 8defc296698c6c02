use Rattle.std.proofs.Common.{◌≡◌, ◌++◌, [], ◌∷◌, sym, subst, ap, ◌∙◌, arith}
use Rattle.std.proofs.lemmas.List.{take_rest}
use Rattle.std.specs.Prelude.{All}
use Rattle.std.proofs.lemmas.List.Elements.{All-push}
use Rattle.jesc_cert.specs.Inner.{IsNext, IsWithin}
use Rattle.jesc_cert.specs.Texts.{numbers_text}
use Rattle.jesc_cert.proofs.Numerals.{wide}
use Rattle.jesc_cert.proofs.NumberLines.{AreSome, some_step, is_step, none_step}
use Rattle.jesc_cert.proofs.line_reader.read_numbers.Goals as goal

pub loop-rest-preserved : goal.loop-rest-preserved
loop-rest-preserved c =
    let n = c.in-Some.number in
    let count = c.in-Some.count in
    let rest = c.loop-rest.rest.now in
    let next : IsNext rest n count = c.in-Some.ensures in
    let pushed : c.push.new.self ≡ c.loop-rest.numbers ++ n ∷ [] = c.in_ok-push-in-Some.ensures.ok ∙ ap (λ y. c.loop-rest.numbers ++ y ∷ []) (wide n next.within) in
    record {
      done = subst (All IsWithin) (sym pushed) (All-push IsWithin c.loop-rest.numbers n c.loop-rest.invariant.done next.within);
      is = is_step c.args.bytes.now c.loop-rest.numbers rest n count c.loop-rest.invariant.is next
          ∙ (λ i. numbers_text (sym pushed i) ++ sym (take_rest rest count) i);
      all = λ ns all e. subst AreSome (sym (take_rest rest count)) (some_step rest n count next (c.loop-rest.invariant.all ns all e));
    }

pub returns-in-None : goal.returns-in-None
returns-in-None c = λ ns all e. none_step c.loop-rest.rest.now (omega (arith, c.loop-rest-test.true)) c.in-None.ensures (c.loop-rest.invariant.all ns all e)
