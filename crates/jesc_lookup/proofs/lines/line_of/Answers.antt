use Rattle.std.proofs.Common.{◌∙◌, ◌<◌, ◌≤◌, length, get_or, refl, ap, sym, subst, arith}
use Rattle.std.proofs.Math.Seq.{take-length}
use Rattle.jesc_lookup.specs.LineSets.{AddsLine, AreAbove}
use Rattle.jesc_lookup.proofs.LineClimbs.{first_none, first_some, row_is}
use Rattle.jesc_lookup.proofs.LineJoins.{above_next, has_line, joins_first, joins_more, joins_none}
use Rattle.jesc_classes.specs.Order.{supers}
use Rattle.jesc_lookup.proofs.lines.line_of.Goals as goal
use Rattle.jesc_lookup.proofs.lines.line_of.Goals.{in-Some, in-None}

pub loop-at-init : goal.loop-at-init
loop-at-init c =
    let a = c.args in
    let xs = c.as_slice-supers.result.now in
    let row = row_is a.graph.now a.class c.index-graph-class.result xs c.requires.known.given c.index-graph-class.is c.as_slice-supers.ensures in
    let kept = take-length a.versions.now in
    elim c.match-first.branch [
      | in-Some w ↦ let first = first_some xs w.in-Some.first.now w.in-Some.ensures.value in
          joins_first a.graph.now a.rows.now a.held.now a.versions.now a.class c.requires.known (record { version = c.match-first.version; extra = c.new.result }) w.in-Some.first.now first.0 (sym row ∙ first.1) w.version-is c.new.ensures kept
      | in-None w ↦ joins_none a.graph.now a.rows.now a.held.now a.versions.now a.class c.requires.known (record { version = c.match-first.version; extra = c.new.result }) (sym row ∙ first_none xs w.in-None.ensures.value) w.version-is c.new.ensures kept
    ]

pub add_line-requires-clause-above : goal.add_line-requires-clause-above
add_line-requires-clause-above c =
    let a = c.args in
    let l = c.loop-at in
    let xs = c.as_slice-supers.result.now in
    let row = row_is a.graph.now a.class c.index-graph-class.result xs c.requires.known.given c.index-graph-class.is c.as_slice-supers.ensures in
    let inside : l.at < length (supers a.graph.now a.class) = omega (arith, c.loop-at-test.true, ap length row) in
    subst (λ ys. AreAbove a.graph.now a.rows.now (get_or ys l.at 0)) (sym row) (above_next a.graph.now a.rows.now a.held.now a.versions.now a.class c.requires.known l.versions l.line l.at l.invariant inside)

pub loop-at-preserved : goal.loop-at-preserved
loop-at-preserved c =
    let a = c.args in
    let l = c.loop-at in
    let xs = c.as_slice-supers.result.now in
    let row = row_is a.graph.now a.class c.index-graph-class.result xs c.requires.known.given c.index-graph-class.is c.as_slice-supers.ensures in
    let inside : l.at < length (supers a.graph.now a.class) = omega (arith, c.loop-at-test.true, ap length row) in
    joins_more a.graph.now a.rows.now a.held.now a.versions.now a.class c.requires.known l.versions l.line l.at l.invariant inside c.add_line.new.versions c.add_line.new.line
    (subst (λ ys. AddsLine a.graph.now l.versions l.line c.add_line.new.versions c.add_line.new.line (get_or ys l.at 0)) row c.in_ok-add_line.ensures)

pub returns : goal.returns
returns c =
    let a = c.args in
    let l = c.loop-at in
    let xs = c.as_slice-supers.result.now in
    let row = row_is a.graph.now a.class c.index-graph-class.result xs c.requires.known.given c.index-graph-class.is c.as_slice-supers.ensures in
    let all : length (supers a.graph.now a.class) ≤ l.at = omega (arith, c.loop-at-test.false, ap length row) in
    has_line a.graph.now a.rows.now a.held.now a.versions.now a.class c.requires.known l.versions l.line l.at l.invariant all c.put.new.self (record { version = c.in_ok-line.field-0; extra = l.line.extra })
    c.in_ok-line.ensures.ok c.in_ok-line.ensures.number refl
