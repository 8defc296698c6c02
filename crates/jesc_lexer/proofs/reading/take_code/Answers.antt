use Rattle.std.proofs.Common.{◌≡◌, ◌≤◌, ◌+◌, ◌-◌, ◌∙◌, sym, ap, subst, length, drop, take, ℕ, Ok, arith}
use Rattle.std.proofs.lemmas.List.{length-take-le, length-drop}
use Rattle.std.proofs.lemmas.Result.{err_from_is_err_and}
use Rattle.jesc_lexer.specs.Pieces.{code_piece}
use Rattle.jesc_lexer.specs.Inner.{Continues, IsStep, StandsAt}
use Rattle.jesc_lexer.specs.Reading.{behind_code, note_tokens}
use Rattle.jesc_lexer.specs.declared.piece.CodePiece.TheVariants.{Plain, Annotation}
use Rattle.jesc_lexer.proofs.Steps.{IsCodeStep, NoteEnds, code_step}
use Rattle.jesc_lexer.proofs.KindTexts.{IsCodeTextOf, code_of, stands_later, stands_front}
use Rattle.jesc_lexer.proofs.Readings.{step_fits, annotation_goes, before_later, stops_later}
use Rattle.jesc_lexer.proofs.reading.take_code.Goals as goal

pub take_piece-requires : goal.take_piece-requires
take_piece-requires c =
    let rest = c.args.rest.now in
    let same : code_piece rest ≡ Plain c.in-Plain.piece = sym c.code_piece.ensures ∙ c.in-Plain.is in
    let step : IsStep rest c.in-Plain.piece = subst (λ p. IsCodeStep rest p) same (code_step rest c.utf8.rest) in
    step_fits rest (length c.args.text.now) c.args.at c.in-Plain.piece step c.requires.within c.requires.short

pub returns-in-Plain-clause-step : goal.returns-in-Plain-clause-step
returns-in-Plain-clause-step c =
    let rest = c.args.rest.now in
    let same : code_piece rest ≡ Plain c.in-Plain.piece = sym c.code_piece.ensures ∙ c.in-Plain.is in
    let step : IsStep rest c.in-Plain.piece = subst (λ p. IsCodeStep rest p) same (code_step rest c.utf8.rest) in
    let own = subst (λ p. IsCodeTextOf rest p) same (code_of rest c.utf8.rest) in
    c.take_piece.ensures.step c.args.text.now rest step own c.requires.here c.requires.within c.requires.before

pub returns-in-Plain-clause-reads : goal.returns-in-Plain-clause-reads
returns-in-Plain-clause-reads c =
    let same : Plain c.in-Plain.piece ≡ code_piece c.args.rest.now = sym c.in-Plain.is ∙ c.code_piece.ensures in
    subst (λ p. Continues (λ next. behind_code next c.args.text.now c.args.file c.args.at c.args.rest.now c.args.tokens.now p) c.take_piece.result c.take_piece.new.tokens) same c.take_piece.ensures.reads

pub inside_of-inside-requires-clause-from : goal.inside_of-inside-requires-clause-from
inside_of-inside-requires-clause-from c =
    let same : code_piece c.args.rest.now ≡ Annotation c.in-Annotation.note = sym c.code_piece.ensures ∙ c.in-Annotation.is in
    let step : NoteEnds c.args.rest.now c.in-Annotation.note = subst (λ p. IsCodeStep c.args.rest.now p) same (code_step c.args.rest.now c.utf8.rest) in step.from

pub inside_of-inside-requires-clause-to : goal.inside_of-inside-requires-clause-to
inside_of-inside-requires-clause-to c =
    let same : code_piece c.args.rest.now ≡ Annotation c.in-Annotation.note = sym c.code_piece.ensures ∙ c.in-Annotation.is in
    let step : NoteEnds c.args.rest.now c.in-Annotation.note = subst (λ p. IsCodeStep c.args.rest.now p) same (code_step c.args.rest.now c.utf8.rest) in step.to

pub inside_of-inside-requires-clause-order : goal.inside_of-inside-requires-clause-order
inside_of-inside-requires-clause-order c =
    let same : code_piece c.args.rest.now ≡ Annotation c.in-Annotation.note = sym c.code_piece.ensures ∙ c.in-Annotation.is in
    let step : NoteEnds c.args.rest.now c.in-Annotation.note = subst (λ p. IsCodeStep c.args.rest.now p) same (code_step c.args.rest.now c.utf8.rest) in step.order

pub overflow_add-at : goal.overflow_add-at
overflow_add-at c =
    let same : code_piece c.args.rest.now ≡ Annotation c.in-Annotation.note = sym c.code_piece.ensures ∙ c.in-Annotation.is in
    let step : NoteEnds c.args.rest.now c.in-Annotation.note = subst (λ p. IsCodeStep c.args.rest.now p) same (code_step c.args.rest.now c.utf8.rest) in
    omega (arith, step.from.0, c.requires.within, c.requires.short)

pub read_note-requires : goal.read_note-requires
read_note-requires c =
    let rest = c.args.rest.now in
    let note = c.in-Annotation.note in
    let same : code_piece rest ≡ Annotation note = sym c.code_piece.ensures ∙ c.in-Annotation.is in
    let step : NoteEnds rest note = subst (λ p. IsCodeStep rest p) same (code_step rest c.utf8.rest) in
    let left = length-drop note.from rest in
    let size : length (take (note.to - note.from) (drop note.from rest)) ≡ note.to - note.from = length-take-le (note.to - note.from) (drop note.from rest) (omega (arith, left, step.to.0)) in
    let inside : length c.inside_of-inside.result.now ≡ note.to - note.from = ap length c.inside_of-inside.ensures ∙ size in
    record {
      short = c.requires.short;
      within = omega (arith, inside, step.order, step.to.0, c.requires.within);
      here = subst (λ t. StandsAt c.args.text.now (c.args.at + note.from) t) (sym c.inside_of-inside.ensures) (stands_front c.args.text.now (drop note.from rest) (c.args.at + note.from) (note.to - note.from) (stands_later c.args.text.now rest c.args.at note.from step.from.0 c.requires.here));
      before = before_later c.args.text.now c.args.at (c.args.at + note.from) c.args.tokens.now (omega arith) c.requires.before;
    }

pub returns-in_ok-read_note-in-Annotation-clause-step : goal.returns-in_ok-read_note-in-Annotation-clause-step
returns-in_ok-read_note-in-Annotation-clause-step c =
    let rest = c.args.rest.now in
    let note = c.in-Annotation.note in
    let same : code_piece rest ≡ Annotation note = sym c.code_piece.ensures ∙ c.in-Annotation.is in
    let step : NoteEnds rest note = subst (λ p. IsCodeStep rest p) same (code_step rest c.utf8.rest) in
    let left = length-drop note.from rest in
    let size : length (take (note.to - note.from) (drop note.from rest)) ≡ note.to - note.from = length-take-le (note.to - note.from) (drop note.from rest) (omega (arith, left, step.to.0)) in
    let inside : length c.inside_of-inside.result.now ≡ note.to - note.from = ap length c.inside_of-inside.ensures ∙ size in
    let later : c.args.at + note.from + length c.inside_of-inside.result.now ≤ c.args.at + note.length = omega (arith, inside, step.order, step.inside) in
    (step.ends, before_later c.args.text.now (c.args.at + note.from + length c.inside_of-inside.result.now) (c.args.at + note.length) c.read_note.new.tokens later c.in_ok-read_note-in-Annotation.ensures.before)

pub returns-in_ok-read_note-in-Annotation-clause-reads : goal.returns-in_ok-read_note-in-Annotation-clause-reads
returns-in_ok-read_note-in-Annotation-clause-reads c =
    let rest = c.args.rest.now in
    let note = c.in-Annotation.note in
    let same : Annotation note ≡ code_piece rest = sym c.in-Annotation.is ∙ c.code_piece.ensures in
    let reads : note_tokens c.args.text.now c.args.file note.block (take (note.to - note.from) (drop note.from rest)) 0 (c.args.at + note.from) c.args.tokens.now ≡ Ok c.read_note.new.tokens
    = ap (λ t. note_tokens c.args.text.now c.args.file note.block t 0 (c.args.at + note.from) c.args.tokens.now) (sym c.inside_of-inside.ensures) ∙ c.in_ok-read_note-in-Annotation.ensures.reads in
    subst (λ p. Continues (λ next. behind_code next c.args.text.now c.args.file c.args.at rest c.args.tokens.now p) (Ok note.length) c.read_note.new.tokens) same
    (annotation_goes c.args.text.now c.args.file c.args.at rest note c.args.tokens.now c.read_note.new.tokens reads)

pub returns-in_err-read_note-in-Annotation-clause-place : goal.returns-in_err-read_note-in-Annotation-clause-place
returns-in_err-read_note-in-Annotation-clause-place c =
    let p = err_from_is_err_and c.from_residual.result c.from_residual.ensures.1 in
    let rest = c.args.rest.now in
    let note = c.in-Annotation.note in
    let same : code_piece rest ≡ Annotation note = sym c.code_piece.ensures ∙ c.in-Annotation.is in
    let step : NoteEnds rest note = subst (λ p. IsCodeStep rest p) same (code_step rest c.utf8.rest) in
    let left = length-drop note.from rest in
    let size : length (take (note.to - note.from) (drop note.from rest)) ≡ note.to - note.from = length-take-le (note.to - note.from) (drop note.from rest) (omega (arith, left, step.to.0)) in
    let inside : length c.inside_of-inside.result.now ≡ note.to - note.from = ap length c.inside_of-inside.ensures ∙ size in
    rw (p.1, p.2) (stops_later (Unit {0}) ℕ c.in_err-read_note-in-Annotation.field-0.0 (c.args.at + note.from + length c.inside_of-inside.result.now) (c.args.at + length rest) (omega (arith, inside, step.order, step.to.0)) c.in_err-read_note-in-Annotation.ensures.place)
