-- The runs of a method: a machine that takes one statement a step, on whole numbers.
use Rattle.std.specs.Prelude.{◌≡◌, ℕ, zero, suc, Bool, ◌&&◌, if◌then◌else◌, ℤ, pos, negsuc, ◌+ℤ◌, ◌-ℤ◌, ◌≤ℤ◌, List, [], ◌∷◌, ◌++◌, length, Option, Some, None, All, slice_get, unwrap_or}
use Rattle.std.specs.Int.Signed.{le_z, lt_z}
use Rattle.jesc_first.specs.declared.check.Kind.{Kind}
use Rattle.jesc_first.specs.declared.check.Kind.TheVariants.{Overflow, Assert as AssertKind, Undefined, Postcondition}
use Rattle.jesc_first.specs.declared.check.Check.{Check}
use Rattle.jesc_first.specs.declared.tree.Operator.{Operator}
use Rattle.jesc_first.specs.declared.tree.Operator.TheVariants.{Plus, Minus}
use Rattle.jesc_first.specs.declared.tree.Comparison.{Comparison}
use Rattle.jesc_first.specs.declared.tree.Comparison.TheVariants.{Less, AtMost, Greater, AtLeast, Equal}
use Rattle.jesc_first.specs.declared.tree.Part.{Part}
use Rattle.jesc_first.specs.declared.tree.Part.TheVariants.{Number, Slot, Outcome}
use Rattle.jesc_first.specs.declared.tree.Operation.{Operation}
use Rattle.jesc_first.specs.declared.tree.Sum.{Sum}
use Rattle.jesc_first.specs.declared.tree.Condition.{Condition}
use Rattle.jesc_first.specs.declared.tree.Clause.{Clause}
use Rattle.jesc_first.specs.declared.tree.Stmt.{Stmt}
use Rattle.jesc_first.specs.declared.tree.Stmt.TheVariants.{Local, Assign, Assert}
use Rattle.jesc_first.specs.declared.tree.Method.{Method}

-- the values of `int`
abbrev pub IsInt : ℤ → Type 0
IsInt z = (negsuc 2147483647 ≤ℤ z) × (z ≤ℤ pos 2147483647)

abbrev pub is_int : ℤ → Bool
is_int z = le_z (negsuc 2147483647) z && le_z z (pos 2147483647)

-- The values of the slots.
abbrev pub Slots : Type 0
Slots = List ℤ

abbrev pub value_in : Slots → ℤ → Part → ℤ
value_in slots outcome (Number n) = pos n
value_in slots outcome (Slot slot) = unwrap_or (slice_get slots slot) (pos 0)
value_in slots outcome Outcome = outcome

-- A sum has a value, or an operation of it leaves `int` first.
pub data Evaluated : Type 0 where
  is : ℤ → Evaluated
  overflows : ℕ → Evaluated

abbrev pub applied : Operator → ℤ → ℤ → ℤ
applied Plus x y = x +ℤ y
applied Minus x y = x -ℤ y

abbrev pub evaluated_from : (Part → ℤ) → ℤ → List Operation → Evaluated
evaluated_from v x [] = is x
evaluated_from v x (operation ∷ rest) =
    let y = applied operation.operator x (v operation.part) in
    if is_int y then evaluated_from v y rest else overflows operation.at

abbrev pub evaluated : (Part → ℤ) → Sum → Evaluated
evaluated v sum = evaluated_from v (v sum.first) sum.rest

abbrev pub compared : Comparison → ℤ → ℤ → Bool
compared Less x y = lt_z x y
compared AtMost x y = le_z x y
compared Greater x y = lt_z y x
compared AtLeast x y = le_z y x
compared Equal x y = le_z x y && le_z y x

-- A condition is true or false, or its arithmetic leaves `int`.
pub data Judged : Type 0 where
  holds : Judged
  breaks : Judged
  trouble : Judged

abbrev pub judged_values : Comparison → Evaluated → Evaluated → Judged
judged_values comparison (is x) (is y) = if compared comparison x y then holds else breaks
judged_values comparison (is x) (overflows at) = trouble
judged_values comparison (overflows at) right = trouble

abbrev pub judged : (Part → ℤ) → Condition → Judged
judged v condition = judged_values condition.comparison (evaluated v condition.left) (evaluated v condition.right)

abbrev pub check : Kind → ℕ → Option ℕ → Check
check kind at by = record { kind = kind; at = at; by = by }

-- A method is in the midst of its body, has ended, or has failed a check.
pub data Configuration : Type 0 where
  running : Slots → List Stmt → Configuration
  done : Configuration
  failed : Check → Configuration

abbrev pub with_slot : Slots → ℕ → ℤ → Slots
with_slot [] slot z = []
with_slot (x ∷ slots) zero z = z ∷ slots
with_slot (x ∷ slots) (suc slot) z = x ∷ with_slot slots slot z

-- a clause of the method's end, where what follows is given
abbrev pub ended_clause : ℕ → ℕ → Judged → Configuration → Configuration
ended_clause exit by holds next = next
ended_clause exit by breaks next = failed (check Postcondition exit (Some by))
ended_clause exit by trouble next = failed (check Undefined exit (Some by))

-- each `ensures` in order, at the arguments of the call
abbrev pub ended : (Part → ℤ) → ℕ → List Clause → Configuration
ended v exit [] = done
ended v exit (clause ∷ rest) = ended_clause exit clause.at (judged v clause.condition) (ended v exit rest)

abbrev pub exited_with : Method → List ℤ → Evaluated → Configuration
exited_with method arguments (is x) = ended (value_in arguments x) method.exit method.promises
exited_with method arguments (overflows at) = failed (check Overflow at None)

-- the end of the body: the value, and then each `ensures`
abbrev pub exited : Method → List ℤ → Slots → Option Sum → Configuration
exited method arguments slots (Some value) = exited_with method arguments (evaluated (value_in slots (pos 0)) value)
exited method arguments slots None = exited_with method arguments (is (pos 0))

abbrev pub asserted : ℕ → Judged → Configuration → Configuration
asserted at holds next = next
asserted at breaks next = failed (check AssertKind at None)
asserted at trouble next = failed (check Undefined at None)

-- the slots with the value of a sum put in
abbrev pub assigned : Evaluated → (ℤ → Slots) → List Stmt → Configuration
assigned (is x) slots rest = running (slots x) rest
assigned (overflows at) slots rest = failed (check Overflow at None)

abbrev pub stepped : Slots → Stmt → List Stmt → Configuration
stepped slots (Local name value) rest = assigned (evaluated (value_in slots (pos 0)) value) (λ x. slots ++ x ∷ []) rest
stepped slots (Assign slot value) rest = assigned (evaluated (value_in slots (pos 0)) value) (with_slot slots slot) rest
stepped slots (Assert at condition) rest = asserted at (judged (value_in slots (pos 0)) condition) (running slots rest)

-- one step of a call of the method with these arguments
abbrev pub step : Method → List ℤ → Configuration → Configuration
step method arguments (running slots []) = exited method arguments slots method.value
step method arguments (running slots (statement ∷ rest)) = stepped slots statement rest
step method arguments done = done
step method arguments (failed check) = failed check

abbrev pub run : Method → List ℤ → ℕ → Configuration → Configuration
run method arguments zero configuration = configuration
run method arguments (suc n) configuration = run method arguments n (step method arguments configuration)

-- the call begins with the arguments in the first slots
abbrev pub start : Method → List ℤ → Configuration
start method arguments = running arguments method.body

-- `int` arguments, as many as the parameters, from which each `requires` is true without trouble
pub record Starts (method : Method) (arguments : List ℤ) : Type 0 where
  pub count : length arguments ≡ length method.parameters
  pub ints : All IsInt arguments
  pub applies : All (λ condition. judged (value_in arguments (pos 0)) condition ≡ holds) method.demands

-- a call with these arguments fails this check
abbrev pub FailsWith : Method → List ℤ → Check → Type 0
FailsWith method arguments check = (n : ℕ) × (run method arguments n (start method arguments) ≡ failed check)

-- some call that starts fails this check
abbrev pub CanFail : Method → Check → Type 0
CanFail method check = (arguments : List ℤ) × Starts method arguments × FailsWith method arguments check

-- no number of steps of a call that starts fails a check
abbrev pub IsSafe : Method → Type 0
IsSafe method = (check : Check) → ¬ (CanFail method check)
