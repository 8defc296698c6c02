-- Each row in the ways of a method has a form, carried along the facts.
use Rattle.std.proofs.Common.{ℕ, zero, suc, ◌+◌, ◌≤◌, ◌<◌, List, [], ◌∷◌, ◌++◌, length, pos, arith, Option, Some, None, All, slice_get, unwrap_or}
use Rattle.std.proofs.lemmas.List.Elements.{All-nil, All-cons, All-append, All-head, All-tail}
use Rattle.jesc_linear.specs.declared.rows.Row.{Row}
use Rattle.jesc_first.specs.declared.check.Kind.{Kind}
use Rattle.jesc_first.specs.declared.check.Kind.TheVariants.{Overflow, Assert as AssertKind, Undefined, Postcondition}
use Rattle.jesc_first.specs.declared.tree.Operator.{Operator}
use Rattle.jesc_first.specs.declared.tree.Part.{Part}
use Rattle.jesc_first.specs.declared.tree.Part.TheVariants.{Number as Literal, Slot, Outcome}
use Rattle.jesc_first.specs.declared.tree.Operation.{Operation}
use Rattle.jesc_first.specs.declared.tree.Sum.{Sum}
use Rattle.jesc_first.specs.declared.tree.Condition.{Condition}
use Rattle.jesc_first.specs.declared.tree.Clause.{Clause}
use Rattle.jesc_first.specs.declared.tree.Stmt.{Stmt}
use Rattle.jesc_first.specs.declared.tree.Stmt.TheVariants.{Local, Assign, Assert}
use Rattle.jesc_first.specs.declared.tree.Method.{Method}
use Rattle.jesc_first.specs.Machine.{check}
use Rattle.jesc_engine.specs.declared.ways.atom.Atom.{Atom}
use Rattle.jesc_engine.specs.declared.ways.atom.Atom.TheVariants.{Number, Term}
use Rattle.jesc_engine.specs.Ways.{Obligation, Facts, atom_in, ties, in_range, below_range, above_range, tied, operated, operation_ways, facts_after, atom_after, ways_along, sum_facts, sum_atom, sum_ways, overflows_along, sum_overflows, holding, breaking, sides_facts, left_atom, right_atom, condition_facts, concat, trouble_ways, each_way, break_ways, condition_obligations, with_atom, no_outcome, clause_obligations, value_obligations, value_facts, value_atom, body_obligations, terms_from, ranges_from, argument_facts, demand_facts, obligations}
use Rattle.jesc_engine.proofs.Forms.{IsBelow, below_more, HasForm, HaveForms, one_row, ties_form, in_range_form, below_range_form, above_range_form, holding_form, breaking_form}

-- the rows of each way
abbrev pub WaysHaveForms : List (List Row) → Type 0
WaysHaveForms ways = All HaveForms ways

-- the rows of each way of an obligation
abbrev pub ObligationHasForms : Obligation → Type 0
ObligationHasForms obligation = WaysHaveForms obligation.ways

-- the rows of each way of each obligation
abbrev pub AllHaveForms : List Obligation → Type 0
AllHaveForms those = All ObligationHasForms those

-- each part's atom is below this number
abbrev pub PartsBelow : ℕ → (Part → Atom) → Type 0
PartsBelow n atom = (part : Part) → IsBelow n (atom part)

-- each atom of the list is below this number
abbrev pub AtomsBelow : ℕ → List Atom → Type 0
AtomsBelow n [] = Unit {0}
AtomsBelow n (x ∷ atoms) = IsBelow n x × AtomsBelow n atoms

-- atoms of parts are below greater numbers too
parts_more : (m n : ℕ) (atom : Part → Atom) → m ≤ n → PartsBelow m atom → PartsBelow n atom
parts_more m n atom l b part = below_more m n (atom part) l (b part)

-- atoms of a list are below greater numbers too
atoms_more : (m n : ℕ) (atoms : List Atom) → m ≤ n → AtomsBelow m atoms → AtomsBelow n atoms
atoms_more m n [] l b = tt
atoms_more m n (x ∷ atoms) l b = (below_more m n x l b.0, atoms_more m n atoms l b.1)

-- the atom of a slot, also of one past the end
slot_below : (n : ℕ) (atoms : List Atom) (slot : ℕ) → AtomsBelow n atoms → IsBelow n (unwrap_or (slice_get atoms slot) (Number (pos 0)))
slot_below n [] slot b = tt
slot_below n (x ∷ atoms) zero b = b.0
slot_below n (x ∷ atoms) (suc slot) b = slot_below n atoms slot b.1

-- the parts, where the slots hold atoms below the number
pub parts_below : (n : ℕ) (atoms : List Atom) (outcome : Atom) → AtomsBelow n atoms → IsBelow n outcome → PartsBelow n (atom_in atoms outcome)
parts_below n atoms outcome b o (Literal k) = tt
parts_below n atoms outcome b o (Slot slot) = slot_below n atoms slot b
parts_below n atoms outcome b o Outcome = o

-- one slot more
pub atoms_pushed : (n : ℕ) (atoms : List Atom) (x : Atom) → AtomsBelow n atoms → IsBelow n x → AtomsBelow n (atoms ++ x ∷ [])
atoms_pushed n [] x b h = (h, tt)
atoms_pushed n (y ∷ atoms) x b h = (b.0, atoms_pushed n atoms x b.1 h)

-- a slot that is given anew
pub atoms_set : (n : ℕ) (atoms : List Atom) (slot : ℕ) (x : Atom) → AtomsBelow n atoms → IsBelow n x → AtomsBelow n (with_atom atoms slot x)
atoms_set n [] slot x b h = tt
atoms_set n (y ∷ atoms) zero x b h = (h, b.1)
atoms_set n (y ∷ atoms) (suc slot) x b h = (b.0, atoms_set n atoms slot x b.1 h)

-- ---- operations and sums

-- the facts with an operation tied to its parts
pub tied_form : (facts : Facts) (x : Atom) (operator : Operator) (y : Atom) → HaveForms facts.rows → IsBelow facts.fresh x → IsBelow facts.fresh y
    → HaveForms (tied facts x operator y).rows
tied_form facts x operator y h l m = All-append HasForm facts.rows (ties facts.fresh x operator y) h (ties_form facts.fresh x operator y l m)

-- the facts with an operation that is tied and in range
pub operated_form : (facts : Facts) (x : Atom) (operator : Operator) (y : Atom) → HaveForms facts.rows → IsBelow facts.fresh x → IsBelow facts.fresh y
    → HaveForms (operated facts x operator y).rows
operated_form facts x operator y h l m =
    All-append HasForm (tied facts x operator y).rows (in_range facts.fresh) (tied_form facts x operator y h l m) (in_range_form facts.fresh)

-- the two ways of an operation
pub operation_ways_form : (facts : Facts) (x : Atom) (operator : Operator) (y : Atom) → HaveForms facts.rows → IsBelow facts.fresh x → IsBelow facts.fresh y
    → WaysHaveForms (operation_ways facts x operator y)
operation_ways_form facts x operator y h l m =
    let rows = (tied facts x operator y).rows in
    let low = below_range facts.fresh in
    let high = above_range facts.fresh in
    let tie = tied_form facts x operator y h l m in
    All-cons HaveForms (rows ++ low ∷ []) ((rows ++ high ∷ []) ∷ []) (All-append HasForm rows (low ∷ []) tie (one_row low (below_range_form facts.fresh)))
    (All-cons HaveForms (rows ++ high ∷ []) [] (All-append HasForm rows (high ∷ []) tie (one_row high (above_range_form facts.fresh))) (All-nil HaveForms))

-- facts that have grown, with rows that have forms
pub record Grown (before after : Facts) : Type 0 where
  pub fresh : before.fresh ≤ after.fresh
  pub rows : HaveForms after.rows

-- what the facts after a sum, its atom and its obligations are
pub record SumFormed (atom : Part → Atom) (facts : Facts) (x : Atom) (operations : List Operation) : Type 0 where
  pub after : Grown facts (facts_after atom facts x operations)
  pub atom_below : IsBelow (facts_after atom facts x operations).fresh (atom_after atom facts x operations)
  pub ways : WaysHaveForms (concat (ways_along atom facts x operations))
  pub each : AllHaveForms (overflows_along atom facts x operations)

-- a sum from its value so far on
operations_formed : (atom : Part → Atom) (facts : Facts) (x : Atom) (operations : List Operation) → HaveForms facts.rows → PartsBelow facts.fresh atom → IsBelow facts.fresh x
    → SumFormed atom facts x operations
operations_formed atom facts x [] h p l = record {
  after = record { fresh = omega arith; rows = h };
  atom_below = l;
  ways = All-nil HaveForms;
  each = All-nil ObligationHasForms;
}
operations_formed atom facts x (operation ∷ rest) h p l =
    let y = atom operation.part in
    let next = operated facts x operation.operator y in
    let grows : facts.fresh ≤ next.fresh = omega arith in
    let last : facts.fresh < next.fresh = omega arith in
    let later = operations_formed atom next (Term facts.fresh) rest (operated_form facts x operation.operator y h l (p operation.part)) (parts_more facts.fresh next.fresh atom grows p) last in
    let ways = operation_ways_form facts x operation.operator y h l (p operation.part) in
    let more : facts.fresh ≤ (facts_after atom next (Term facts.fresh) rest).fresh = omega (arith, later.after.fresh) in
    record {
      after = record { fresh = more; rows = later.after.rows };
      atom_below = later.atom_below;
      ways = All-append HaveForms (operation_ways facts x operation.operator y) (concat (ways_along atom next (Term facts.fresh) rest)) ways later.ways;
      each = All-cons ObligationHasForms (let o : Obligation = record { check = check Overflow operation.at None; ways = operation_ways facts x operation.operator y } in o)
          (overflows_along atom next (Term facts.fresh) rest) ways later.each;
    }

-- a whole sum
pub sum_formed : (atom : Part → Atom) (facts : Facts) (sum : Sum) → HaveForms facts.rows → PartsBelow facts.fresh atom → SumFormed atom facts (atom sum.first) sum.rest
sum_formed atom facts sum h p = operations_formed atom facts (atom sum.first) sum.rest h p (p sum.first)

-- ---- conditions

-- rows that have forms, with one way more
pub each_way_form : (rows ways : List Row) → HaveForms rows → HaveForms ways → WaysHaveForms (each_way rows ways)
each_way_form rows [] h w = All-nil HaveForms
each_way_form rows (way ∷ rest) h w =
    All-cons HaveForms (rows ++ way ∷ []) (each_way rows rest) (All-append HasForm rows (way ∷ []) h (one_row way (All-head HasForm way rest w)))
    (each_way_form rows rest h (All-tail HasForm way rest w))

-- what the facts after a condition and its ways are
pub record ConditionFormed (atom : Part → Atom) (facts : Facts) (condition : Condition) : Type 0 where
  pub after : Grown facts (condition_facts atom facts condition)
  pub troubles : WaysHaveForms (trouble_ways atom facts condition)
  pub breaks : WaysHaveForms (break_ways atom facts condition)

-- a condition, over facts that have forms
pub condition_formed : (atom : Part → Atom) (facts : Facts) (condition : Condition) → HaveForms facts.rows → PartsBelow facts.fresh atom → ConditionFormed atom facts condition
condition_formed atom facts condition h p =
    let left = sum_formed atom facts condition.left h p in
    let middle = sum_facts atom facts condition.left in
    let right = sum_formed atom middle condition.right left.after.rows (parts_more facts.fresh middle.fresh atom left.after.fresh p) in
    let sides = sides_facts atom facts condition in
    let x = left_atom atom facts condition in
    let y = right_atom atom facts condition in
    let more : facts.fresh ≤ sides.fresh = omega (arith, left.after.fresh, right.after.fresh) in
    record {
      after = record { fresh = more; rows = All-append HasForm sides.rows (holding condition.comparison x y) right.after.rows (holding_form condition.comparison x y) };
      troubles = All-append HaveForms (concat (sum_ways atom facts condition.left)) (concat (sum_ways atom middle condition.right)) left.ways right.ways;
      breaks = each_way_form sides.rows (breaking condition.comparison x y) right.after.rows (breaking_form condition.comparison x y);
    }

-- the two obligations of a condition
pub condition_obligations_form : (atom : Part → Atom) (facts : Facts) (kind : Kind) (at : ℕ) (by : Option ℕ) (condition : Condition) → ConditionFormed atom facts condition
    → AllHaveForms (condition_obligations atom facts kind at by condition)
condition_obligations_form atom facts kind at by condition c =
    let trouble : Obligation = record { check = check Undefined at by; ways = trouble_ways atom facts condition } in
    let broken : Obligation = record { check = check kind at by; ways = break_ways atom facts condition } in
    All-cons ObligationHasForms trouble (broken ∷ []) c.troubles (All-cons ObligationHasForms broken [] c.breaks (All-nil ObligationHasForms))

-- ---- bodies and methods

-- the obligations of the `ensures`
clauses_form : (atom : Part → Atom) (facts : Facts) (exit : ℕ) (clauses : List Clause) → HaveForms facts.rows → PartsBelow facts.fresh atom
    → AllHaveForms (clause_obligations atom facts exit clauses)
clauses_form atom facts exit [] h p = All-nil ObligationHasForms
clauses_form atom facts exit (clause ∷ rest) h p =
    let here = condition_formed atom facts clause.condition h p in
    let next = condition_facts atom facts clause.condition in
    All-append ObligationHasForms (condition_obligations atom facts Postcondition exit (Some clause.at) clause.condition) (clause_obligations atom next exit rest)
    (condition_obligations_form atom facts Postcondition exit (Some clause.at) clause.condition here)
    (clauses_form atom next exit rest here.after.rows (parts_more facts.fresh next.fresh atom here.after.fresh p))

-- the obligations of the end
exit_form : (exit : ℕ) (promises : List Clause) (arguments atoms : List Atom) (facts : Facts) (value : Option Sum) → HaveForms facts.rows → AtomsBelow facts.fresh arguments → AtomsBelow facts.fresh atoms
    → AllHaveForms (value_obligations atoms facts value ++ clause_obligations (atom_in arguments (value_atom atoms facts value)) (value_facts atoms facts value) exit promises)
exit_form exit promises arguments atoms facts (Some sum) h a b =
    let atom = atom_in atoms no_outcome in
    let here = sum_formed atom facts sum h (parts_below facts.fresh atoms no_outcome b tt) in
    let next = sum_facts atom facts sum in
    let outcome = sum_atom atom facts sum in
    All-append ObligationHasForms (sum_overflows atom facts sum) (clause_obligations (atom_in arguments outcome) next exit promises) here.each
    (clauses_form (atom_in arguments outcome) next exit promises here.after.rows (parts_below next.fresh arguments outcome (atoms_more facts.fresh next.fresh arguments here.after.fresh a) here.atom_below))
exit_form exit promises arguments atoms facts None h a b =
    clauses_form (atom_in arguments no_outcome) facts exit promises h (parts_below facts.fresh arguments no_outcome a tt)

-- the obligations of the statements that are left and of the end
body_form : (method : Method) (arguments atoms : List Atom) (facts : Facts) (body : List Stmt) → HaveForms facts.rows → AtomsBelow facts.fresh arguments → AtomsBelow facts.fresh atoms
    → AllHaveForms (body_obligations method arguments atoms facts body)
body_form method arguments atoms facts [] h a b = exit_form method.exit method.promises arguments atoms facts method.value h a b
body_form method arguments atoms facts (Local name sum ∷ rest) h a b =
    let atom = atom_in atoms no_outcome in
    let here = sum_formed atom facts sum h (parts_below facts.fresh atoms no_outcome b tt) in
    let next = sum_facts atom facts sum in
    let x = sum_atom atom facts sum in
    All-append ObligationHasForms (sum_overflows atom facts sum) (body_obligations method arguments (atoms ++ x ∷ []) next rest) here.each
    (body_form method arguments (atoms ++ x ∷ []) next rest here.after.rows (atoms_more facts.fresh next.fresh arguments here.after.fresh a)
    (atoms_pushed next.fresh atoms x (atoms_more facts.fresh next.fresh atoms here.after.fresh b) here.atom_below))
body_form method arguments atoms facts (Assign slot sum ∷ rest) h a b =
    let atom = atom_in atoms no_outcome in
    let here = sum_formed atom facts sum h (parts_below facts.fresh atoms no_outcome b tt) in
    let next = sum_facts atom facts sum in
    let x = sum_atom atom facts sum in
    All-append ObligationHasForms (sum_overflows atom facts sum) (body_obligations method arguments (with_atom atoms slot x) next rest) here.each
    (body_form method arguments (with_atom atoms slot x) next rest here.after.rows (atoms_more facts.fresh next.fresh arguments here.after.fresh a)
    (atoms_set next.fresh atoms slot x (atoms_more facts.fresh next.fresh atoms here.after.fresh b) here.atom_below))
body_form method arguments atoms facts (Assert at condition ∷ rest) h a b =
    let atom = atom_in atoms no_outcome in
    let here = condition_formed atom facts condition h (parts_below facts.fresh atoms no_outcome b tt) in
    let next = condition_facts atom facts condition in
    All-append ObligationHasForms (condition_obligations atom facts AssertKind at None condition) (body_obligations method arguments atoms next rest)
    (condition_obligations_form atom facts AssertKind at None condition here)
    (body_form method arguments atoms next rest here.after.rows (atoms_more facts.fresh next.fresh arguments here.after.fresh a) (atoms_more facts.fresh next.fresh atoms here.after.fresh b))

-- the facts after the `requires`
demands_form : (atom : Part → Atom) (facts : Facts) (conditions : List Condition) → HaveForms facts.rows → PartsBelow facts.fresh atom → Grown facts (demand_facts atom facts conditions)
demands_form atom facts [] h p = record { fresh = omega arith; rows = h }
demands_form atom facts (condition ∷ rest) h p =
    let here = condition_formed atom facts condition h p in
    let next = condition_facts atom facts condition in
    let later = demands_form atom next rest here.after.rows (parts_more facts.fresh next.fresh atom here.after.fresh p) in
    record { fresh = omega (arith, here.after.fresh, later.fresh); rows = later.rows }

-- the ranges of the parameters
pub ranges_form : (k : ℕ) (names : List (List ℕ)) → HaveForms (ranges_from k names)
ranges_form k [] = All-nil HasForm
ranges_form k (name ∷ rest) = All-append HasForm (in_range k) (ranges_from (k + 1) rest) (in_range_form k) (ranges_form (k + 1) rest)

-- the terms of the parameters are below their number
pub terms_below : (n k : ℕ) (names : List (List ℕ)) → k + length names ≤ n → AtomsBelow n (terms_from k names)
terms_below n k [] l = tt
terms_below n k (name ∷ rest) l = (omega arith, terms_below n (k + 1) rest (omega arith))

-- every row in the ways of a method has a form
pub rows_are_forms : (method : Method) → AllHaveForms (obligations method)
rows_are_forms method =
    let arguments = terms_from 0 method.parameters in
    let facts = argument_facts method in
    let below : AtomsBelow facts.fresh arguments = terms_below (length method.parameters) 0 method.parameters (omega arith) in
    let demands = demands_form (atom_in arguments no_outcome) facts method.demands (ranges_form 0 method.parameters) (parts_below facts.fresh arguments no_outcome below tt) in
    let after = demand_facts (atom_in arguments no_outcome) facts method.demands in
    let more = atoms_more facts.fresh after.fresh arguments demands.fresh below in
    body_form method arguments arguments after method.body demands.rows more more
