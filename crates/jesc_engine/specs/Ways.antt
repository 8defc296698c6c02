-- The ways in which the checks of a method can fail, each as a list of rows.
--
-- A parameter is the term of its slot's number, and each operation has a new term of its own, which two rows tie to
-- its parts. A list holds the ranges of the arguments, the `requires` with the ranges of their operations, what the
-- earlier checks have passed, and one way to fail.
use Rattle.std.specs.Prelude.{ℕ, zero, suc, ◌+◌, ℤ, pos, negsuc, List, [], ◌∷◌, ◌++◌, length, Option, Some, None, slice_get, unwrap_or}
use Rattle.jesc_linear.specs.declared.rows.Row.{Row}
use Rattle.jesc_first.specs.declared.check.Kind.{Kind}
use Rattle.jesc_first.specs.declared.check.Kind.TheVariants.{Overflow, Assert as AssertKind, Undefined, Postcondition}
use Rattle.jesc_first.specs.declared.check.Check.{Check}
use Rattle.jesc_first.specs.declared.tree.Operator.{Operator}
use Rattle.jesc_first.specs.declared.tree.Operator.TheVariants.{Plus, Minus}
use Rattle.jesc_first.specs.declared.tree.Comparison.{Comparison}
use Rattle.jesc_first.specs.declared.tree.Comparison.TheVariants.{Less, AtMost, Greater, AtLeast, Equal}
use Rattle.jesc_first.specs.declared.tree.Part.{Part}
use Rattle.jesc_first.specs.declared.tree.Part.TheVariants.{Number as Literal, Slot, Outcome}
use Rattle.jesc_first.specs.declared.tree.Operation.{Operation}
use Rattle.jesc_first.specs.declared.tree.Sum.{Sum}
use Rattle.jesc_first.specs.declared.tree.Condition.{Condition}
use Rattle.jesc_first.specs.declared.tree.Clause.{Clause}
use Rattle.jesc_first.specs.declared.tree.Stmt.{Stmt}
use Rattle.jesc_first.specs.declared.tree.Stmt.TheVariants.{Local, Assign, Assert}
use Rattle.jesc_first.specs.declared.tree.Method.{Method}
use Rattle.jesc_first.specs.Machine.{check}
use Rattle.jesc_engine.specs.declared.ways.atom.Atom.{Atom}
use Rattle.jesc_engine.specs.declared.ways.atom.Atom.TheVariants.{Number, Term}
use Rattle.jesc_engine.specs.Rows.{pair_row, tie_row, at_most, minus_at_most}

-- A check with its ways to fail, each a list of rows.
pub record Obligation : Type 0 where
  pub check : Check
  pub ways : List (List Row)

-- The rows gathered so far, and the number of the next new term.
pub record Facts : Type 0 where
  pub rows : List Row
  pub fresh : ℕ

-- the facts and these rows
abbrev pub with_rows : Facts → List Row → Facts
with_rows facts rows = record { rows = facts.rows ++ rows; fresh = facts.fresh }

abbrev pub atom_in : List Atom → Atom → Part → Atom
atom_in atoms outcome (Literal n) = Number (pos n)
atom_in atoms outcome (Slot slot) = unwrap_or (slice_get atoms slot) (Number (pos 0))
atom_in atoms outcome Outcome = outcome

abbrev pub sign_of : Operator → ℤ
sign_of Plus = pos 1
sign_of Minus = negsuc 0

abbrev pub opposite_of : Operator → ℤ
opposite_of Plus = negsuc 0
opposite_of Minus = pos 1

-- the new term is x + y or x - y
abbrev pub ties : ℕ → Atom → Operator → Atom → List Row
ties fresh x operator y =
    tie_row (negsuc 0) x (opposite_of operator) y (pos 1) fresh ∷ tie_row (pos 1) x (sign_of operator) y (negsuc 0) fresh ∷ []

-- the term lies in the range of `int`
abbrev pub in_range : ℕ → List Row
in_range term = at_most term (pos 2147483647) ∷ minus_at_most term (pos 2147483648) ∷ []

abbrev pub below_range : ℕ → Row
below_range term = at_most term (negsuc 2147483648)

abbrev pub above_range : ℕ → Row
above_range term = minus_at_most term (negsuc 2147483647)

-- the operation is tied to its parts
abbrev pub tied : Facts → Atom → Operator → Atom → Facts
tied facts x operator y = record { rows = facts.rows ++ ties facts.fresh x operator y; fresh = facts.fresh + 1 }

-- the operation is tied to its parts and in range
abbrev pub operated : Facts → Atom → Operator → Atom → Facts
operated facts x operator y = with_rows (tied facts x operator y) (in_range facts.fresh)

-- the two ways in which an operation leaves `int`, the one below first
abbrev pub operation_ways : Facts → Atom → Operator → Atom → List (List Row)
operation_ways facts x operator y =
    (let rows = (tied facts x operator y).rows in (rows ++ below_range facts.fresh ∷ []) ∷ (rows ++ above_range facts.fresh ∷ []) ∷ [])

-- the facts after the operations, all in range
abbrev pub facts_after : (Part → Atom) → Facts → Atom → List Operation → Facts
facts_after atom facts x [] = facts
facts_after atom facts x (operation ∷ rest) =
    facts_after atom (operated facts x operation.operator (atom operation.part)) (Term facts.fresh) rest

-- the atom of their value
abbrev pub atom_after : (Part → Atom) → Facts → Atom → List Operation → Atom
atom_after atom facts x [] = x
atom_after atom facts x (operation ∷ rest) =
    atom_after atom (operated facts x operation.operator (atom operation.part)) (Term facts.fresh) rest

-- for each operation, with those before it in range, its ways
abbrev pub ways_along : (Part → Atom) → Facts → Atom → List Operation → List (List (List Row))
ways_along atom facts x [] = []
ways_along atom facts x (operation ∷ rest) =
    operation_ways facts x operation.operator (atom operation.part)
    ∷ ways_along atom (operated facts x operation.operator (atom operation.part)) (Term facts.fresh) rest

abbrev pub sum_facts : (Part → Atom) → Facts → Sum → Facts
sum_facts atom facts sum = facts_after atom facts (atom sum.first) sum.rest

abbrev pub sum_atom : (Part → Atom) → Facts → Sum → Atom
sum_atom atom facts sum = atom_after atom facts (atom sum.first) sum.rest

abbrev pub sum_ways : (Part → Atom) → Facts → Sum → List (List (List Row))
sum_ways atom facts sum = ways_along atom facts (atom sum.first) sum.rest

-- an Overflow for each operation of a sum
abbrev pub overflows_along : (Part → Atom) → Facts → Atom → List Operation → List Obligation
overflows_along atom facts x [] = []
overflows_along atom facts x (operation ∷ rest) =
    (let o : Obligation = record { check = check Overflow operation.at None; ways = operation_ways facts x operation.operator (atom operation.part) } in o)
    ∷ overflows_along atom (operated facts x operation.operator (atom operation.part)) (Term facts.fresh) rest

abbrev pub sum_overflows : (Part → Atom) → Facts → Sum → List Obligation
sum_overflows atom facts sum = overflows_along atom facts (atom sum.first) sum.rest

-- x is less than y, and at most y
abbrev pub less : Atom → Atom → Row
less x y = pair_row (pos 1) x (negsuc 0) y (negsuc 0)

abbrev pub no_more : Atom → Atom → Row
no_more x y = pair_row (pos 1) x (negsuc 0) y (pos 0)

-- the comparison is true
abbrev pub holding : Comparison → Atom → Atom → List Row
holding Less x y = less x y ∷ []
holding AtMost x y = no_more x y ∷ []
holding Greater x y = less y x ∷ []
holding AtLeast x y = no_more y x ∷ []
holding Equal x y = no_more x y ∷ no_more y x ∷ []

-- the ways in which it is false; that of an equality below first
abbrev pub breaking : Comparison → Atom → Atom → List Row
breaking Less x y = no_more y x ∷ []
breaking AtMost x y = less y x ∷ []
breaking Greater x y = no_more x y ∷ []
breaking AtLeast x y = less x y ∷ []
breaking Equal x y = less x y ∷ less y x ∷ []

-- the facts after both sides of a condition
abbrev pub sides_facts : (Part → Atom) → Facts → Condition → Facts
sides_facts atom facts condition = sum_facts atom (sum_facts atom facts condition.left) condition.right

abbrev pub left_atom : (Part → Atom) → Facts → Condition → Atom
left_atom atom facts condition = sum_atom atom facts condition.left

abbrev pub right_atom : (Part → Atom) → Facts → Condition → Atom
right_atom atom facts condition = sum_atom atom (sum_facts atom facts condition.left) condition.right

-- the facts after a condition that is true without trouble
abbrev pub condition_facts : (Part → Atom) → Facts → Condition → Facts
condition_facts atom facts condition =
    with_rows (sides_facts atom facts condition) (holding condition.comparison (left_atom atom facts condition) (right_atom atom facts condition))

abbrev pub concat : List (List (List Row)) → List (List Row)
concat [] = []
concat (ways ∷ rest) = ways ++ concat rest

-- two ways for each operation of a condition, in order
abbrev pub trouble_ways : (Part → Atom) → Facts → Condition → List (List Row)
trouble_ways atom facts condition =
    concat (sum_ways atom facts condition.left) ++ concat (sum_ways atom (sum_facts atom facts condition.left) condition.right)

-- the rows and one way more
abbrev pub each_way : List Row → List Row → List (List Row)
each_way rows [] = []
each_way rows (way ∷ rest) = (rows ++ way ∷ []) ∷ each_way rows rest

abbrev pub break_ways : (Part → Atom) → Facts → Condition → List (List Row)
break_ways atom facts condition =
    each_way (sides_facts atom facts condition).rows
    (breaking condition.comparison (left_atom atom facts condition) (right_atom atom facts condition))

-- a clause: first its trouble, then its falsehood
abbrev pub condition_obligations : (Part → Atom) → Facts → Kind → ℕ → Option ℕ → Condition → List Obligation
condition_obligations atom facts kind at by condition =
    (let trouble : Obligation = record { check = check Undefined at by; ways = trouble_ways atom facts condition } in trouble)
    ∷ (let broken : Obligation = record { check = check kind at by; ways = break_ways atom facts condition } in broken)
    ∷ []

abbrev pub with_atom : List Atom → ℕ → Atom → List Atom
with_atom [] slot x = []
with_atom (y ∷ atoms) zero x = x ∷ atoms
with_atom (y ∷ atoms) (suc slot) x = y ∷ with_atom atoms slot x

-- `\result` stands in no code
abbrev pub no_outcome : Atom
no_outcome = Number (pos 0)

abbrev pub statement_obligations : List Atom → Facts → Stmt → List Obligation
statement_obligations atoms facts (Local name value) = sum_overflows (atom_in atoms no_outcome) facts value
statement_obligations atoms facts (Assign slot value) = sum_overflows (atom_in atoms no_outcome) facts value
statement_obligations atoms facts (Assert at condition) =
    condition_obligations (atom_in atoms no_outcome) facts AssertKind at None condition

abbrev pub statement_facts : List Atom → Facts → Stmt → Facts
statement_facts atoms facts (Local name value) = sum_facts (atom_in atoms no_outcome) facts value
statement_facts atoms facts (Assign slot value) = sum_facts (atom_in atoms no_outcome) facts value
statement_facts atoms facts (Assert at condition) = condition_facts (atom_in atoms no_outcome) facts condition

abbrev pub statement_atoms : List Atom → Facts → Stmt → List Atom
statement_atoms atoms facts (Local name value) = atoms ++ sum_atom (atom_in atoms no_outcome) facts value ∷ []
statement_atoms atoms facts (Assign slot value) = with_atom atoms slot (sum_atom (atom_in atoms no_outcome) facts value)
statement_atoms atoms facts (Assert at condition) = atoms

-- each `ensures` in order, where the atoms are those of the arguments
abbrev pub clause_obligations : (Part → Atom) → Facts → ℕ → List Clause → List Obligation
clause_obligations atom facts exit [] = []
clause_obligations atom facts exit (clause ∷ rest) =
    condition_obligations atom facts Postcondition exit (Some clause.at) clause.condition
    ++ clause_obligations atom (condition_facts atom facts clause.condition) exit rest

abbrev pub value_obligations : List Atom → Facts → Option Sum → List Obligation
value_obligations atoms facts (Some value) = sum_overflows (atom_in atoms no_outcome) facts value
value_obligations atoms facts None = []

abbrev pub value_facts : List Atom → Facts → Option Sum → Facts
value_facts atoms facts (Some value) = sum_facts (atom_in atoms no_outcome) facts value
value_facts atoms facts None = facts

abbrev pub value_atom : List Atom → Facts → Option Sum → Atom
value_atom atoms facts (Some value) = sum_atom (atom_in atoms no_outcome) facts value
value_atom atoms facts None = no_outcome

-- the statements that are left and the end of the method
abbrev pub body_obligations : Method → List Atom → List Atom → Facts → List Stmt → List Obligation
body_obligations method arguments atoms facts [] =
    value_obligations atoms facts method.value
    ++ clause_obligations (atom_in arguments (value_atom atoms facts method.value)) (value_facts atoms facts method.value) method.exit method.promises
body_obligations method arguments atoms facts (statement ∷ rest) =
    statement_obligations atoms facts statement
    ++ body_obligations method arguments (statement_atoms atoms facts statement) (statement_facts atoms facts statement) rest

-- the terms from a number on, one for each parameter
abbrev pub terms_from : ℕ → List (List ℕ) → List Atom
terms_from k [] = []
terms_from k (name ∷ rest) = Term k ∷ terms_from (k + 1) rest

abbrev pub ranges_from : ℕ → List (List ℕ) → List Row
ranges_from k [] = []
ranges_from k (name ∷ rest) = in_range k ++ ranges_from (k + 1) rest

abbrev pub argument_facts : Method → Facts
argument_facts method = record { rows = ranges_from 0 method.parameters; fresh = length method.parameters }

abbrev pub demand_facts : (Part → Atom) → Facts → List Condition → Facts
demand_facts atom facts [] = facts
demand_facts atom facts (condition ∷ rest) = demand_facts atom (condition_facts atom facts condition) rest

-- the checks of a method in order, each with its ways to fail
abbrev pub obligations : Method → List Obligation
obligations method =
    (let arguments = terms_from 0 method.parameters in
    body_obligations method arguments arguments (demand_facts (atom_in arguments no_outcome) (argument_facts method) method.demands) method.body)
