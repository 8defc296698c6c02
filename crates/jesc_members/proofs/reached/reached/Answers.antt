use Rattle.std.proofs.Common.{◌<◌, ◌≡◌, ◌∙◌, ℕ, List, [], length, get_or, ap, arith, subst, sym}
use Rattle.std.proofs.lemmas.List.{get_or_default}
use Rattle.jesc_members.proofs.GroupReach.{none_same, walk_begins, walk_on, walk_ends, found_few, next_there}
use Rattle.jesc_members.proofs.reached.reached.Goals as goal

pub add_new-requires : goal.add_new-requires
add_new-requires c = none_same c.new-met.result.keys c.new-found.result c.new-met.ensures.empty c.new-found.ensures

pub loop-k-init : goal.loop-k-init
loop-k-init c =
    let graph = c.args.graph.now in
    let row = c.as_slice.ensures ∙ (c.index-graph-start.is ∙ get_or_default graph c.args.start c.index-graph-start.result [] c.requires.start) in
    walk_begins graph c.args.start c.as_slice.result.now c.new-found.result c.add_new.new.met.keys c.add_new.new.found c.new-found.ensures row c.in_ok-add_new.ensures.same c.in_ok-add_new.ensures.on

pub bounds-graph-next : goal.bounds-graph-next
bounds-graph-next c =
    let lt : c.loop-k.k < length c.loop-k.found = omega (arith, c.loop-k-test.true, c.len.ensures) in
    subst (λ (ms : List ℕ). get_or ms c.loop-k.k 0 < length c.args.graph.now) (sym c.as_slice-in-loop-k.ensures)
    (next_there c.args.graph.now c.args.start c.loop-k.k c.loop-k.met.keys c.loop-k.found c.requires.within c.requires.start c.loop-k.invariant lt)

pub loop-k-smaller : goal.loop-k-smaller
loop-k-smaller c = omega (arith, found_few c.args.graph.now c.args.start c.loop-k.k c.loop-k.met.keys c.loop-k.found c.requires.within c.requires.start c.loop-k.invariant, c.loop-k-test.true, c.len.ensures)

pub loop-k-preserved : goal.loop-k-preserved
loop-k-preserved c =
    let graph = c.args.graph.now in
    let lt : c.loop-k.k < length c.loop-k.found = omega (arith, c.loop-k-test.true, c.len.ensures) in
    let same_next : get_or c.as_slice-in-loop-k.result.now c.loop-k.k 0 ≡ get_or c.loop-k.found c.loop-k.k 0 = ap (λ (ms : List ℕ). get_or ms c.loop-k.k 0) c.as_slice-in-loop-k.ensures in
    let there = next_there graph c.args.start c.loop-k.k c.loop-k.met.keys c.loop-k.found c.requires.within c.requires.start c.loop-k.invariant lt in
    let next = get_or c.as_slice-in-loop-k.result.now c.loop-k.k 0 in
    let bound = subst (λ n. n < length graph) (sym same_next) there in
    let row = c.as_slice-in-loop-k-2.ensures ∙ (c.index-graph-next.is ∙ get_or_default graph next c.index-graph-next.result [] bound) ∙ ap (λ n. get_or graph n []) same_next in
    walk_on graph c.args.start c.loop-k.k c.as_slice-in-loop-k-2.result.now c.loop-k.found c.loop-k.met.keys c.add_new-in-loop-k.new.found c.add_new-in-loop-k.new.met.keys c.loop-k.invariant lt row c.in_ok-add_new-2.ensures.same c.in_ok-add_new-2.ensures.on

pub returns-clause-all : goal.returns-clause-all
returns-clause-all c = walk_ends c.args.graph.now c.args.start c.loop-k.k c.loop-k.met.keys c.loop-k.found c.loop-k.invariant (omega (arith, c.loop-k-test.false, c.len.ensures))
