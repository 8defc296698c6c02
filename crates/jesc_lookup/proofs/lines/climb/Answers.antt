use Rattle.std.proofs.Common.{◌∙◌, sym, subst}
use Rattle.jesc_lookup.specs.LineSets.{Meets}
use Rattle.jesc_lookup.proofs.LineClimbs.{climbs_known, climbs_on, climbs_top, first_none, first_some, row_is}
use Rattle.jesc_lookup.proofs.lines.climb.Goals as goal

pub returns-in_default : goal.returns-in_default
returns-in_default c =
    let l = c.loop-above in
    let xs = c.as_slice.result.now in
    let row = row_is c.args.graph.now l.next c.index-graph-next.result xs l.invariant.given c.index-graph-next.is c.as_slice.ensures in
    climbs_top c.args.graph.now c.args.versions.now c.args.line.now c.args.class l.versions l.line l.next c.meet.new.versions c.meet.new.line l.invariant
    (subst (Meets l.versions l.line c.meet.new.versions c.meet.new.line l.next) c.if-branch.true c.in_ok-meet.ensures) (sym row ∙ first_none xs c.in_default.ensures.value)

pub loop-above-preserved : goal.loop-above-preserved
loop-above-preserved c =
    let l = c.loop-above in
    let xs = c.as_slice.result.now in
    let row = row_is c.args.graph.now l.next c.index-graph-next.result xs l.invariant.given c.index-graph-next.is c.as_slice.ensures in
    let first = first_some xs c.in-Some.above.now c.in-Some.ensures.value in
    climbs_on c.args.graph.now c.args.versions.now c.args.line.now c.args.class l.versions l.line l.next c.meet.new.versions c.meet.new.line l.invariant
    (subst (Meets l.versions l.line c.meet.new.versions c.meet.new.line l.next) c.if-branch.true c.in_ok-meet.ensures) c.in-Some.above.now first.0 c.requires.within (sym row ∙ first.1)

pub returns : goal.returns
returns c =
    let l = c.loop-above in
    climbs_known c.args.graph.now c.args.versions.now c.args.line.now c.args.class l.versions l.line l.next c.meet.new.versions c.meet.new.line l.invariant
    (subst (Meets l.versions l.line c.meet.new.versions c.meet.new.line l.next) c.if-branch.false c.in_ok-meet.ensures)
