use Rattle.std.proofs.Common.{◌≡◌, ◌∙◌, sym, ap, subst, true, length}
use Rattle.jesc_lexer.specs.Pieces.{note_piece}
use Rattle.jesc_lexer.specs.Inner.{Continues, IsStep, IsTextOf}
use Rattle.jesc_lexer.specs.Reading.{after_represents, behind}
use Rattle.jesc_lexer.proofs.KindTexts.{note_of}
use Rattle.jesc_lexer.proofs.Steps.{note_step}
use Rattle.jesc_lexer.proofs.Readings.{step_fits}
use Rattle.jesc_lexer.proofs.reading.take_note.Goals as goal

pub take_piece-requires : goal.take_piece-requires
take_piece-requires c =
    let rest = c.args.rest.now in
    let step : IsStep rest c.note_piece.result = subst (λ p. IsStep rest p) (sym c.note_piece.ensures) (note_step c.args.block c.after_represents-arrow.result rest c.utf8.rest) in
    step_fits rest (length c.args.text.now) c.args.at c.note_piece.result step c.requires.within c.requires.short

pub returns-clause-reads : goal.returns-clause-reads
returns-clause-reads c =
    let text = c.args.text.now in
    let tokens = c.args.tokens.now in
    let arrow : c.after_represents-arrow.result ≡ after_represents text tokens = c.after_represents-arrow.ensures ∙ ap (after_represents text) c.as_slice.ensures in
    let same : c.note_piece.result ≡ note_piece c.args.block (after_represents text tokens) c.args.rest.now = c.note_piece.ensures ∙ ap (λ v. note_piece c.args.block v c.args.rest.now) arrow in
    subst (λ p. Continues (λ next. behind next c.args.file true c.args.at tokens p) c.take_piece.result c.take_piece.new.tokens) same c.take_piece.ensures.reads

pub returns-clause-step : goal.returns-clause-step
returns-clause-step c =
    let rest = c.args.rest.now in
    let step : IsStep rest c.note_piece.result = subst (λ p. IsStep rest p) (sym c.note_piece.ensures) (note_step c.args.block c.after_represents-arrow.result rest c.utf8.rest) in
    let own = subst (λ p. IsTextOf true rest p) (sym c.note_piece.ensures) (note_of c.args.block c.after_represents-arrow.result rest c.utf8.rest) in
    c.take_piece.ensures.step c.args.text.now rest step own c.requires.here c.requires.within c.requires.before
