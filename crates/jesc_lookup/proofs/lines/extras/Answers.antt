use Rattle.std.proofs.Common.{◌≡◌, refl, length, get_or, subst, sym}
use Rattle.std.proofs.lemmas.Result.{IfOk-weaker}
use Rattle.jesc_lookup.specs.Lines.{AreExtras}
use Rattle.jesc_lookup.specs.LineSets.{AreKnown}
use Rattle.jesc_lookup.proofs.LineWalks.{known, walks_first, walks_last, walks_more}
use Rattle.jesc_lookup.proofs.lines.extras.Goals as goal

pub loop-class-init : goal.loop-class-init
loop-class-init c = walks_first c.args.graph.now c.args.order.now (length c.args.graph.now) c.in_ok-versions.versions c.in_ok-held.held.items c.in_ok-rows.rows.items refl c.in_ok-versions.ensures c.in_ok-held.ensures c.in_ok-rows.ensures

pub line_of-requires : goal.line_of-requires
line_of-requires c =
    let l = c.loop-class in
    let all = known c.args.graph.now c.args.order.now c.requires l.class-index l.versions l.held.items l.rows.items l.invariant c.loop-class-test.true in
    record {
      known = subst (λ rows. AreKnown c.args.graph.now rows c.as_slice-in-loop-class.result.now l.versions (get_or c.args.order.now l.class-index 0)) (sym c.as_slice.ensures.value)
          (subst (λ held. AreKnown c.args.graph.now l.rows.items held l.versions (get_or c.args.order.now l.class-index 0)) (sym c.as_slice-in-loop-class.ensures.value) all);
    }

pub loop-class-preserved : goal.loop-class-preserved
loop-class-preserved c =
    let l = c.loop-class in
    walks_more c.args.graph.now c.args.order.now c.requires l.class-index l.versions l.held.items l.rows.items l.invariant c.loop-class-test.true c.line_of.new.versions c.in_ok-line.line c.in_ok-line.ensures

pub returns : goal.returns
returns c =
    let l = c.loop-class in
    let are = walks_last c.args.graph.now c.args.order.now c.requires l.class-index l.versions l.held.items l.rows.items l.invariant c.loop-class-test.false in
    IfOk-weaker c.listed.result (λ list. list ≡ l.rows.items) (AreExtras c.args.graph.now) (λ list e. subst (AreExtras c.args.graph.now) (sym e) are) c.listed.ensures
