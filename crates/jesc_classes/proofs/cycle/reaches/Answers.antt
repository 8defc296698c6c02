use Rattle.std.proofs.Common.{◌<◌, ◌∙◌, ℕ, List, [], ◌∷◌, ◌++◌, true, false, ap, arith, refl, get_or, length, subst, sym}
use Rattle.std.proofs.Math.ListN.{set}
use Rattle.std.specs.List.{All, Contains}
use Rattle.std.proofs.lemmas.List.{get_or_default, take_all}
use Rattle.std.proofs.lemmas.List.Elements.{Contains-get_or}
use Rattle.jesc_classes.proofs.Ranked.{named}
use Rattle.jesc_classes.proofs.Marked.{Has, begin, class_there, ends, few, leave, mark, pass, read, visit}
use Rattle.jesc_classes.proofs.cycle.reaches.Goals as goal
use Rattle.jesc_classes.proofs.cycle.reaches.Goals.{then-not-index+in_ok-push-2, else-not-index}

pub loop-k-init : goal.loop-k-init
loop-k-init c =
    begin c.args.graph.now c.args.first c.push.new.self (set c.in_ok-marks.marks.items c.args.first true) c.requires.first
    (c.in_ok-push.ensures.ok ∙ ap (λ l. l ++ c.args.first ∷ []) c.new-met.ensures) (ap (λ l. set l c.args.first true) c.in_ok-marks.ensures)

pub bounds-graph-class : goal.bounds-graph-class
bounds-graph-class c =
    let lt : c.loop-k.k < length c.loop-k.met = omega (arith, c.loop-k-test.true, c.len.ensures) in
    subst (λ (ms : List ℕ). get_or ms c.loop-k.k 0 < length c.args.graph.now) (sym c.as_slice.ensures)
    (class_there c.args.graph.now c.args.first c.loop-k.k c.loop-k.met c.loop-k.marks.items c.requires.within c.requires.first c.loop-k.invariant c.loop-k.k lt)

pub loop-above-init : goal.loop-above-init
loop-above-init c =
    let lt : c.loop-k.k < length c.loop-k.met = omega (arith, c.loop-k-test.true, c.len.ensures) in
    visit c.args.graph.now c.args.first c.loop-k.k (get_or c.as_slice.result.now c.loop-k.k 0) c.as_slice-above-items.result.now c.loop-k.met c.loop-k.marks.items c.loop-k.invariant lt
    (ap (λ (ms : List ℕ). get_or ms c.loop-k.k 0) (sym c.as_slice.ensures))

pub loop-above-preserved : goal.loop-above-preserved
loop-above-preserved c =
    let lt : c.loop-k.k < length c.loop-k.met = omega (arith, c.loop-k-test.true, c.len.ensures) in
    let graph = c.args.graph.now in
    let class = get_or c.as_slice.result.now c.loop-k.k 0 in
    let xs = c.as_slice-above-items.result.now in
    let i = c.loop-above.above-index in
    let met = c.loop-above.met in
    let marks = c.loop-above.marks.items in
    let x = get_or xs i 0 in
    let bound = subst (λ (ms : List ℕ). get_or ms c.loop-k.k 0 < length c.args.graph.now) (sym c.as_slice.ensures)
    (class_there c.args.graph.now c.args.first c.loop-k.k c.loop-k.met c.loop-k.marks.items c.requires.within c.requires.first c.loop-k.invariant c.loop-k.k lt) in
    let es = c.as_slice-above-items.ensures ∙ (c.index-graph-class.is ∙ get_or_default graph class c.index-graph-class.result [] bound) in
    let lx = named graph class x c.requires.within bound (subst (λ (ss : List ℕ). Contains ss x) es (Contains-get_or xs i 0 c.loop-above-test.true)) in
    let lm : x < length marks = omega (arith, lx, c.loop-above.invariant.walk.all.count) in
    elim c.if-not-index.branch [
      | then-not-index+in_ok-push-2 w ↦ mark graph c.args.first c.loop-k.k class i x xs met marks c.loop-above.invariant c.loop-above-test.true refl es lx
          (read marks x c.index.result.now false c.index.ensures lm w.if-not-index.true) c.if-not-index.met c.if-not-index.marks.items (w.met-is ∙ w.in_ok-push-2.ensures.ok) (ap (λ v. v.items) w.marks-is)
      | else-not-index w ↦ pass graph c.args.first c.loop-k.k class i x xs met marks c.loop-above.invariant c.loop-above-test.true refl
          (read marks x c.index.result.now true c.index.ensures lm w.if-not-index.false) c.if-not-index.met c.if-not-index.marks.items w.met-is (ap (λ v. v.items) w.marks-is)
    ]

pub loop-k-preserved : goal.loop-k-preserved
loop-k-preserved c =
    let lt : c.loop-k.k < length c.loop-k.met = omega (arith, c.loop-k-test.true, c.len.ensures) in
    let graph = c.args.graph.now in
    let class = get_or c.as_slice.result.now c.loop-k.k 0 in
    let marks = c.loop-above.marks.items in
    let v = c.loop-above.invariant in
    let bound = subst (λ (ms : List ℕ). get_or ms c.loop-k.k 0 < length c.args.graph.now) (sym c.as_slice.ensures)
    (class_there c.args.graph.now c.args.first c.loop-k.k c.loop-k.met c.loop-k.marks.items c.requires.within c.requires.first c.loop-k.invariant c.loop-k.k lt) in
    let es = c.as_slice-above-items.ensures ∙ (c.index-graph-class.is ∙ get_or_default graph class c.index-graph-class.result [] bound) in
    leave graph c.args.first c.loop-k.k class c.loop-above.met marks v.walk v.left v.here
    (subst (All (Has marks)) (take_all c.loop-above.above-index c.as_slice-above-items.result.now c.loop-above-test.false ∙ es) v.above)

pub loop-k-smaller : goal.loop-k-smaller
loop-k-smaller c = omega (arith, few c.loop-k.invariant, c.loop-k-test.true, c.len.ensures)

pub returns : goal.returns
returns c =
    ends c.args.graph.now c.args.first c.loop-k.k c.loop-k.met c.loop-k.marks.items c.loop-k.invariant (omega (arith, c.loop-k-test.false, c.len.ensures)) c.args.second c.index-2.result.now
    c.requires.second c.index-2.ensures
