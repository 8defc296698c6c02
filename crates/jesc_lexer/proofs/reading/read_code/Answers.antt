use Rattle.std.proofs.Common.{◌≡◌, ◌<◌, ◌+◌, ◌-◌, ◌∙◌, ap, subst, length, drop, ℕ, Ok, Err, arith, length-drop}
use Rattle.std.proofs.lemmas.Str.{IsCharBoundary-from_drop}
use Rattle.std.proofs.lemmas.Result.{err_from_is_err_and}
use Rattle.jesc_lexer.specs.Pieces.{code_piece}
use Rattle.jesc_lexer.specs.Inner.{Continues, Ends, AreBefore}
use Rattle.jesc_lexer.specs.Reading.{behind_code}
use Rattle.jesc_lexer.proofs.Readings.{code_turn, code_fails, code_ends, utf8_turn, within_turn, same_reading, stops_later}
use Rattle.jesc_lexer.proofs.reading.read_code.Goals as goal

pub rest_of-requires : goal.rest_of-requires
rest_of-requires c = IsCharBoundary-from_drop c.args.text.now c.loop-at.at c.loop-at.invariant.within c.loop-at.invariant.utf8

pub returns-in_err-at-clause-reads : goal.returns-in_err-at-clause-reads
returns-in_err-at-clause-reads c =
    let p = err_from_is_err_and c.from_residual.result c.from_residual.ensures.1 in
    rw (p.1, p.2)
    (let text = c.args.text.now in
    let at = c.loop-at.at in
    let rest = drop at text in
    let some : 0 < length rest = omega (arith, length-drop at text, c.loop-at-test.true) in
    let own = subst (λ t. Continues (λ next. behind_code next t c.args.file at c.rest_of.result.now c.loop-at.tokens (code_piece c.rest_of.result.now)) (Err c.in_err-at.field-0.0) c.take_code.new.tokens) c.as_bytes.ensures.value c.in_err-at.ensures.reads in
    let reads = subst (λ t. Continues (λ next. behind_code next text c.args.file at t c.loop-at.tokens (code_piece t)) (Err c.in_err-at.field-0.0) c.take_code.new.tokens) c.rest_of.ensures own in
    same_reading _ _ c.in_err-at.field-0.0 c.take_code.new.tokens c.loop-at.invariant.so_far (code_fails text c.args.file rest at c.loop-at.tokens c.take_code.new.tokens c.in_err-at.field-0.0 some reads))

pub loop-at-preserved : goal.loop-at-preserved
loop-at-preserved c =
    let text = c.args.text.now in
    let at = c.loop-at.at in
    let n = c.in_ok-at.field-0 in
    let step = c.in_ok-at.ensures.step in
    let ends : Ends (drop at text) n = subst (λ t. Ends t n) c.rest_of.ensures step.0 in
    let turn = within_turn text at n c.loop-at-test.true ends in
    let own = subst (λ t. Continues (λ next. behind_code next t c.args.file at c.rest_of.result.now c.loop-at.tokens (code_piece c.rest_of.result.now)) (Ok n) c.take_code.new.tokens) c.as_bytes.ensures.value c.in_ok-at.ensures.reads in
    let reads = subst (λ t. Continues (λ next. behind_code next text c.args.file at t c.loop-at.tokens (code_piece t)) (Ok n) c.take_code.new.tokens) c.rest_of.ensures own in
    record {
      within = turn.0;
      utf8 = utf8_turn text at n c.loop-at.invariant.utf8 ends;
      short = c.requires.short;
      before = subst (λ t. AreBefore t (at + n) c.take_code.new.tokens) c.as_bytes.ensures.value step.1;
      so_far = c.loop-at.invariant.so_far ∙ code_turn text c.args.file at n c.loop-at.tokens c.take_code.new.tokens c.loop-at-test.true turn.1 reads;
    }

pub returns-clause-reads : goal.returns-clause-reads
returns-clause-reads c = c.loop-at.invariant.so_far ∙ code_ends c.args.text.now c.args.file c.args.text.now c.loop-at.at c.loop-at.at c.loop-at.tokens c.loop-at-test.false

pub returns-in_err-at-clause-place : goal.returns-in_err-at-clause-place
returns-in_err-at-clause-place c =
    let p = err_from_is_err_and c.from_residual.result c.from_residual.ensures.1 in
    let size : length c.rest_of.result.now ≡ length c.args.text.now - c.loop-at.at = ap length c.rest_of.ensures ∙ length-drop c.loop-at.at c.args.text.now in
    rw (p.1, p.2) (stops_later ℕ (Unit {0}) c.in_err-at.field-0.0 (c.loop-at.at + length c.rest_of.result.now) (length c.args.text.now) (omega (arith, size, c.loop-at.invariant.within)) c.in_err-at.ensures.place)
