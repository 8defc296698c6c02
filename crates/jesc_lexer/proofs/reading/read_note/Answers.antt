use Rattle.std.proofs.Common.{◌≡◌, ◌<◌, ◌+◌, ◌-◌, Err, ◌∙◌, sym, ap, subst, true, length, drop, ℕ, Ok, arith, length-drop}
use Rattle.std.proofs.lemmas.Str.{IsCharBoundary-from_drop}
use Rattle.jesc_lexer.specs.Inner.{Continues, Ends, AreBefore, StandsAt}
use Rattle.jesc_lexer.specs.Reading.{after_represents, behind}
use Rattle.jesc_lexer.specs.Pieces.{note_piece}
use Rattle.std.proofs.lemmas.Result.{err_from_is_err_and}
use Rattle.jesc_lexer.proofs.KindTexts.{stands_later}
use Rattle.jesc_lexer.proofs.Readings.{note_turn, note_fails, note_ends, utf8_turn, within_turn, same_reading, stops_later}
use Rattle.jesc_lexer.proofs.reading.read_note.Goals as goal

pub rest_of-requires : goal.rest_of-requires
rest_of-requires c = IsCharBoundary-from_drop c.args.inside.now c.loop-at.at c.loop-at.invariant.within c.loop-at.invariant.utf8

pub take_note-requires : goal.take_note-requires
take_note-requires c =
    let size : length c.rest_of.result.now ≡ length c.args.inside.now - c.loop-at.at = ap length c.rest_of.ensures ∙ length-drop c.loop-at.at c.args.inside.now in
    let inside = c.loop-at-test.true in
    record {
      short = c.requires.short;
      within = omega (arith, size, inside, c.requires.within);
      some = omega (arith, size, inside);
      here = subst (λ t. StandsAt c.args.text.now (c.args.start + c.loop-at.at) t) (sym c.rest_of.ensures) (stands_later c.args.text.now c.args.inside.now c.args.start c.loop-at.at c.loop-at.invariant.within c.requires.here);
      before = c.loop-at.invariant.before;
    }

pub returns-in_err-at-clause-reads : goal.returns-in_err-at-clause-reads
returns-in_err-at-clause-reads c =
    let p = err_from_is_err_and c.from_residual.result c.from_residual.ensures.1 in
    rw (p.1, p.2)
    (let text = c.args.text.now in
    let at = c.loop-at.at in
    let rest = drop at c.args.inside.now in
    let some : 0 < length rest = omega (arith, length-drop at c.args.inside.now, c.loop-at-test.true) in
    let reads = subst (λ t. Continues (λ next. behind next c.args.file true (c.args.start + at) c.loop-at.tokens (note_piece c.args.block (after_represents text c.loop-at.tokens) t)) (Err c.in_err-at.field-0.0) c.take_note.new.tokens) c.rest_of.ensures c.in_err-at.ensures.reads in
    same_reading _ _ c.in_err-at.field-0.0 c.take_note.new.tokens c.loop-at.invariant.so_far (note_fails text c.args.file c.args.block rest (c.args.start + at) c.loop-at.tokens c.take_note.new.tokens c.in_err-at.field-0.0 some reads))

pub overflow_add-at : goal.overflow_add-at
overflow_add-at c =
    let ends : Ends (drop c.loop-at.at c.args.inside.now) c.in_ok-at.field-0 = subst (λ t. Ends t c.in_ok-at.field-0) c.rest_of.ensures c.in_ok-at.ensures.step.0 in
    let turn = within_turn c.args.inside.now c.loop-at.at c.in_ok-at.field-0 c.loop-at-test.true ends in
    omega (arith, turn, c.requires.within, c.requires.short)

pub loop-at-smaller : goal.loop-at-smaller
loop-at-smaller c =
    let ends : Ends (drop c.loop-at.at c.args.inside.now) c.in_ok-at.field-0 = subst (λ t. Ends t c.in_ok-at.field-0) c.rest_of.ensures c.in_ok-at.ensures.step.0 in
    let turn = within_turn c.args.inside.now c.loop-at.at c.in_ok-at.field-0 c.loop-at-test.true ends in
    omega (arith, turn)

pub loop-at-preserved : goal.loop-at-preserved
loop-at-preserved c =
    let text = c.args.text.now in
    let inside = c.args.inside.now in
    let at = c.loop-at.at in
    let n = c.in_ok-at.field-0 in
    let step = c.in_ok-at.ensures.step in
    let ends : Ends (drop at inside) n = subst (λ t. Ends t n) c.rest_of.ensures step.0 in
    let turn = within_turn inside at n c.loop-at-test.true ends in
    let place : c.args.start + at + n ≡ c.args.start + (at + n) = omega arith in
    let reads = subst (λ t. Continues (λ next. behind next c.args.file true (c.args.start + at) c.loop-at.tokens (note_piece c.args.block (after_represents text c.loop-at.tokens) t)) (Ok n) c.take_note.new.tokens) c.rest_of.ensures c.in_ok-at.ensures.reads in
    record {
      within = turn.0;
      utf8 = utf8_turn inside at n c.loop-at.invariant.utf8 ends;
      room = c.requires.within;
      here = c.requires.here;
      short = c.requires.short;
      before = subst (λ k. AreBefore text k c.take_note.new.tokens) place step.1;
      so_far = c.loop-at.invariant.so_far ∙ note_turn text c.args.file c.args.block inside c.args.start at n c.loop-at.tokens c.take_note.new.tokens c.loop-at-test.true turn.1 reads;
    }

pub returns-clause-reads : goal.returns-clause-reads
returns-clause-reads c = c.loop-at.invariant.so_far ∙ note_ends c.args.text.now c.args.file c.args.block c.args.inside.now (c.args.start + c.loop-at.at) c.loop-at.at c.loop-at.tokens c.loop-at-test.false

pub returns-in_err-at-clause-place : goal.returns-in_err-at-clause-place
returns-in_err-at-clause-place c =
    let p = err_from_is_err_and c.from_residual.result c.from_residual.ensures.1 in
    rw (p.1, p.2) (stops_later ℕ (Unit {0}) c.in_err-at.field-0.0 (c.args.start + c.loop-at.at) (c.args.start + length c.args.inside.now) (omega (arith, c.loop-at.invariant.within)) c.in_err-at.ensures.place)
