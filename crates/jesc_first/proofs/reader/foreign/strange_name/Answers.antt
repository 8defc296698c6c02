use Rattle.std.proofs.Common.{[], ◌∙◌, ap, sym}
use Rattle.jesc_first.specs.Seen.{seen, lexeme}
use Rattle.jesc_first.specs.Recognizing.{State}
use Rattle.jesc_first.specs.Recognized.{state_of}
use Rattle.jesc_first.proofs.Foreign.{read_none, read_more, strange_here}
use Rattle.jesc_first.proofs.reader.foreign.strange_name.Goals as goal

pub loop-found-init : goal.loop-found-init
loop-found-init c =
    read_none (seen c.args.cursor.now) (seen c.again-place.result) c.new-recognizer.result.phase c.again-place.ensures (ap (λ (s : State). s.phase) (c.new-recognizer.ensures []))

pub returns-then-is_strange : goal.returns-then-is_strange
returns-then-is_strange c =
    strange_here (seen c.args.cursor.now) c.args.names.now (seen c.loop-found.place) c.loop-found.recognizer.phase (lexeme c.in-Some.found) (seen c.in-Some.rest) c.loop-found.invariant c.in-Some.ensures
    c.if-not-found.false (sym c.is_before_part.ensures ∙ c.if-is_before_part.true) (sym c.is_strange.ensures ∙ c.if-is_strange.true)

pub loop-found-preserved : goal.loop-found-preserved
loop-found-preserved c =
    read_more (seen c.args.cursor.now) (seen c.loop-found.place) (state_of c.loop-found.recognizer c.loop-found.classes) (lexeme c.in-Some.found) (seen c.in-Some.rest) c.in_ok-step.field-0
    (state_of c.step.new.self c.step.new.classes) c.loop-found.invariant c.in-Some.ensures c.if-not-found.false c.in_ok-step.ensures c.if-not-branch.false
