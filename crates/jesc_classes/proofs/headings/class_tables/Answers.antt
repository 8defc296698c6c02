use Rattle.std.proofs.Common.{◌∙◌, ℕ, List, [], length, ap, sym, subst, arith}
use Rattle.jesc_classes.specs.Headings.{graph_of}
use Rattle.jesc_classes.specs.Order.{IsOrder, IsWithin}
use Rattle.jesc_classes.specs.Entries.{AreEntries}
use Rattle.jesc_classes.specs.laws.Graphs.{graph_within, graph_length}
use Rattle.jesc_classes.proofs.Ordered.{few_by, placed_by, single_by, moved, numbering_by, long_by, tables_by}
use Rattle.jesc_classes.proofs.headings.class_tables.Goals as goal

pub supertypes-requires : goal.supertypes-requires
supertypes-requires c = few_by c.args.files.now c.args.given.now c.requires.same c.requires.given

pub order-requires-clause-few : goal.order-requires-clause-few
order-requires-clause-few c =
    let few = few_by c.args.files.now c.args.given.now c.requires.same c.requires.given in
    let same = ap (λ g. length g) (c.as_slice.ensures ∙ c.in_ok-graph.ensures) in
    omega (arith, few, same, graph_length c.args.given.now)

pub order-requires-clause-within : goal.order-requires-clause-within
order-requires-clause-within c = subst IsWithin (sym (c.as_slice.ensures ∙ c.in_ok-graph.ensures)) (graph_within c.args.given.now)

pub judge_all-requires-clause-few : goal.judge_all-requires-clause-few
judge_all-requires-clause-few c = few_by c.args.files.now c.args.given.now c.requires.same c.requires.given

pub judge_all-requires-clause-placed : goal.judge_all-requires-clause-placed
judge_all-requires-clause-placed c = placed_by c.args.files.now c.args.given.now c.requires.same c.requires.given

pub table-requires-clause-few : goal.table-requires-clause-few
table-requires-clause-few c = few_by c.args.files.now c.args.given.now c.requires.same c.requires.given

pub table-requires-clause-placed : goal.table-requires-clause-placed
table-requires-clause-placed c = placed_by c.args.files.now c.args.given.now c.requires.same c.requires.given

pub table-requires-clause-one : goal.table-requires-clause-one
table-requires-clause-one c = single_by c.args.files.now c.args.given.now c.requires.same c.requires.given

pub table-requires-clause-order : goal.table-requires-clause-order
table-requires-clause-order c =
    let given = c.args.given.now in
    numbering_by given c.as_slice-4.result.now (moved given c.as_slice.result.now c.in_ok-graph.graph c.as_slice-4.result.now c.in_ok-order.order c.as_slice.ensures c.in_ok-graph.ensures c.as_slice-4.ensures c.in_ok-order.ensures)

pub table-requires-clause-whole : goal.table-requires-clause-whole
table-requires-clause-whole c =
    let given = c.args.given.now in
    long_by given c.as_slice-4.result.now c.in_ok-judge_all.ensures (moved given c.as_slice.result.now c.in_ok-graph.graph c.as_slice-4.result.now c.in_ok-order.order c.as_slice.ensures c.in_ok-graph.ensures c.as_slice-4.ensures c.in_ok-order.ensures)

pub returns-clause-tables : goal.returns-clause-tables
returns-clause-tables c =
    let given = c.args.given.now in
    let is = moved given c.as_slice.result.now c.in_ok-graph.graph c.as_slice-4.result.now c.in_ok-order.order c.as_slice.ensures c.in_ok-graph.ensures c.as_slice-4.ensures c.in_ok-order.ensures in
    let order = c.in_ok-order.order in
    let classes = c.in_ok-classes.classes in
    tables_by given (record { graph = c.in_ok-graph.graph; order = order; classes = classes }) c.in_ok-judge_all.ensures
    (subst (λ (o : List ℕ). ∥ IsOrder (graph_of given) [] o ∥₁) c.as_slice-4.ensures is) c.in_ok-graph.ensures
    (subst (λ (o : List ℕ). AreEntries given o classes) c.as_slice-4.ensures c.in_ok-classes.ensures)
