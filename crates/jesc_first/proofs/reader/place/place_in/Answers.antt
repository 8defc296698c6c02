use Rattle.std.proofs.Common.{Option, IfSome, subst}
use Rattle.jesc_first.specs.declared.reader.cursor.Cursor.{Cursor}
use Rattle.jesc_first.specs.Seen.{seen, lexeme}
use Rattle.jesc_first.specs.Recognized.{state_of}
use Rattle.jesc_first.specs.Fronts.{IsForeignPlace}
use Rattle.jesc_first.proofs.Places.{reached_first, reached_more, place_stops, place_foreign}
use Rattle.jesc_first.proofs.reader.place.place_in.Goals as goal

pub loop-found-init : goal.loop-found-init
loop-found-init c =
    reached_first c.args.classes.now (seen c.args.cursor.now) (seen c.again-place.result) (state_of c.new-recognizer.result c.args.classes.now)
    c.again-place.ensures (c.new-recognizer.ensures c.args.classes.now)

pub returns-in-Some-2 : goal.returns-in-Some-2
returns-in-Some-2 c =
    place_foreign c.args.classes.now (seen c.args.cursor.now) (seen c.loop-found.place) (state_of c.loop-found.recognizer c.loop-found.classes) (seen c.in-Some-2.foreign) c.loop-found.invariant
    (subst (λ (o : Option Cursor). IfSome o (λ at. IsForeignPlace (seen c.loop-found.place) (seen at))) c.in-Some-2.is c.in_ok-foreign.ensures)

pub returns-then-not-branch : goal.returns-then-not-branch
returns-then-not-branch c =
    place_stops c.args.classes.now (seen c.args.cursor.now) (seen c.loop-found.place) (state_of c.loop-found.recognizer c.loop-found.classes) (lexeme c.in-Some.found) (seen c.in-Some.rest)
    c.in_ok-step.field-0 (state_of c.step.new.self c.step.new.classes) c.loop-found.invariant c.in-Some.ensures c.in_ok-step.ensures c.if-not-branch.true

pub loop-found-preserved : goal.loop-found-preserved
loop-found-preserved c =
    reached_more c.args.classes.now (seen c.args.cursor.now) (seen c.loop-found.place) (state_of c.loop-found.recognizer c.loop-found.classes) (lexeme c.in-Some.found) (seen c.in-Some.rest)
    c.in_ok-step.field-0 (state_of c.step.new.self c.step.new.classes) c.loop-found.invariant c.in-Some.ensures c.in_ok-step.ensures c.if-not-branch.false
