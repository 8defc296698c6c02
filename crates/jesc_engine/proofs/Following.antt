-- From what a body ends in to what rows say: numbers for the terms that follow the call meet a way of the check that it fails.
use Rattle.std.proofs.Common.{◌≡◌, ℕ, List, [], ◌∷◌, ◌++◌, ℤ, pos, refl, sym, ◌∙◌, subst, Option, Some, None, map}
use Rattle.jesc_first.specs.declared.check.Kind.TheVariants.{Overflow, Assert as AssertKind, Postcondition}
use Rattle.jesc_first.specs.declared.check.Check.{Check}
use Rattle.jesc_first.specs.declared.tree.Part.{Part}
use Rattle.jesc_first.specs.declared.tree.Sum.{Sum}
use Rattle.jesc_first.specs.declared.tree.Condition.{Condition}
use Rattle.jesc_first.specs.declared.tree.Clause.{Clause}
use Rattle.jesc_first.specs.declared.tree.Stmt.{Stmt}
use Rattle.jesc_first.specs.declared.tree.Stmt.TheVariants.{Local, Assign, Assert}
use Rattle.jesc_first.specs.declared.tree.Method.{Method}
use Rattle.jesc_first.specs.Machine.{Slots, Evaluated, is, overflows, evaluated, value_in, Judged, holds, breaks, trouble, judged, check, Configuration, done, failed, with_slot, ended_clause, ended, exited_with, exited, asserted}
use Rattle.jesc_engine.specs.declared.ways.atom.Atom.{Atom}
use Rattle.jesc_engine.specs.Rows.{worth}
use Rattle.jesc_engine.specs.Ways.{Obligation, Facts, atom_in, sum_facts, sum_atom, sum_overflows, condition_facts, condition_obligations, with_atom, no_outcome, clause_obligations, value_obligations, value_facts, value_atom, body_obligations}
use Rattle.jesc_engine.proofs.Meeting.{Met, BrokenBy, Broken, one_left, one_right}
use Rattle.jesc_engine.proofs.Summing.{Agrees, sum_values, Follows, follows_after, SumSays, sum_says}
use Rattle.jesc_engine.proofs.Judging.{condition_values, ConditionSays, condition_says, condition_broken, follows_condition}
use Rattle.jesc_engine.proofs.Slots.{slots_agree, worths_pushed, worths_set}
use Rattle.jesc_engine.proofs.Ending.{with_value, ends}

-- ---- the values of all operations of a call, in the order of their terms

-- those after a value, where there is one
abbrev pub values_after : Evaluated → (ℤ → List ℤ) → List ℤ
values_after (is x) next = next x
values_after (overflows at) next = []

-- the operations of the clauses of the end, whether or not one fails
abbrev pub clause_values : (Part → ℤ) → List Clause → List ℤ
clause_values val [] = []
clause_values val (clause ∷ rest) = condition_values val clause.condition ++ clause_values val rest

-- the operations of the end
abbrev pub exit_values : Method → List ℤ → Slots → Option Sum → List ℤ
exit_values method arguments slots (Some sum) =
    sum_values (value_in slots (pos 0)) sum ++ values_after (evaluated (value_in slots (pos 0)) sum) (λ x. clause_values (value_in arguments x) method.promises)
exit_values method arguments slots None = clause_values (value_in arguments (pos 0)) method.promises

-- the operations of the statements that are left and of the end
abbrev pub body_values : Method → List ℤ → Slots → List Stmt → List ℤ
body_values method arguments slots [] = exit_values method arguments slots method.value
body_values method arguments slots (Local name sum ∷ rest) =
    sum_values (value_in slots (pos 0)) sum ++ values_after (evaluated (value_in slots (pos 0)) sum) (λ x. body_values method arguments (slots ++ x ∷ []) rest)
body_values method arguments slots (Assign slot sum ∷ rest) =
    sum_values (value_in slots (pos 0)) sum ++ values_after (evaluated (value_in slots (pos 0)) sum) (λ x. body_values method arguments (with_slot slots slot x) rest)
body_values method arguments slots (Assert at condition ∷ rest) =
    condition_values (value_in slots (pos 0)) condition ++ body_values method arguments slots rest

-- ---- from the end to rows

-- which check has failed
same_failed : (c d : Check) → failed c ≡ failed d → c ≡ d
same_failed c d e = cc

-- a call that has ended has failed no check
not_done : (c : Check) → done ≡ failed c → ⊥
not_done c e = cc

-- a clause of the end fails, or what is left does
clause_broken : (v : ℕ → ℤ) (atom : Part → Atom) (facts : Facts) (exit by : ℕ) (condition : Condition) (rest : List Obligation) (outcome : Judged) (next : Configuration) (failing : Check)
    → ConditionSays v atom facts condition outcome
    → (Met v (condition_facts atom facts condition).rows → next ≡ failed failing → Broken v rest failing)
    → ended_clause exit by outcome next ≡ failed failing → Broken v (condition_obligations atom facts Postcondition exit (Some by) condition ++ rest) failing
clause_broken v atom facts exit by condition rest holds next failing s later e =
    one_right (BrokenBy v failing) (condition_obligations atom facts Postcondition exit (Some by) condition) rest (later s e)
clause_broken v atom facts exit by condition rest breaks next failing s later e =
    one_left (BrokenBy v failing) (condition_obligations atom facts Postcondition exit (Some by) condition) rest
    (condition_broken v atom facts Postcondition exit (Some by) condition failing breaks s (same_failed _ _ e))
clause_broken v atom facts exit by condition rest trouble next failing s later e =
    one_left (BrokenBy v failing) (condition_obligations atom facts Postcondition exit (Some by) condition) rest
    (condition_broken v atom facts Postcondition exit (Some by) condition failing trouble s (same_failed _ _ e))

-- where the end fails an `ensures`, v meets a way of it
clauses_broken : (v : ℕ → ℤ) (atom : Part → Atom) (val : Part → ℤ) (facts : Facts) (exit : ℕ) (clauses : List Clause) (failing : Check) → Agrees v atom val
    → Met v facts.rows → Follows v facts.fresh (clause_values val clauses) → ended val exit clauses ≡ failed failing → Broken v (clause_obligations atom facts exit clauses) failing
clauses_broken v atom val facts exit [] failing agrees m f e = absurd (not_done failing e)
clauses_broken v atom val facts exit (clause ∷ rest) failing agrees m f e =
    let parts = follows_condition v atom val facts clause.condition (clause_values val rest) f in
    let next = condition_facts atom facts clause.condition in
    clause_broken v atom facts exit clause.at clause.condition (clause_obligations atom next exit rest) (judged val clause.condition) (ended val exit rest) failing
    (condition_says v atom val facts clause.condition agrees m parts.0)
    (λ met h. clauses_broken v atom val next exit rest failing agrees met parts.1 h) e

-- a sum overflows, or what follows its value fails
value_broken : (v : ℕ → ℤ) (atom : Part → Atom) (facts : Facts) (sum : Sum) (rest : List Obligation) (outcome : Evaluated) (following : ℤ → List ℤ) (next : ℤ → Configuration) (failing : Check)
    → SumSays v atom facts (atom sum.first) sum.rest outcome → Follows v (sum_facts atom facts sum).fresh (values_after outcome following)
    → ((x : ℤ) → x ≡ worth v (sum_atom atom facts sum) → Met v (sum_facts atom facts sum).rows → Follows v (sum_facts atom facts sum).fresh (following x) → next x ≡ failed failing → Broken v rest failing)
    → with_value outcome next ≡ failed failing → Broken v (sum_overflows atom facts sum ++ rest) failing
value_broken v atom facts sum rest (is x) following next failing s f later e =
    one_right (BrokenBy v failing) (sum_overflows atom facts sum) rest (later x s.1 s.0 f e)
value_broken v atom facts sum rest (overflows at) following next failing s f later e =
    one_left (BrokenBy v failing) (sum_overflows atom facts sum) rest (subst (Broken v (sum_overflows atom facts sum)) (same_failed (check Overflow at None) failing e) s)

-- the same with the sum's own value
sum_broken : (v : ℕ → ℤ) (atom : Part → Atom) (val : Part → ℤ) (facts : Facts) (sum : Sum) (rest : List Obligation) (following : ℤ → List ℤ) (next : ℤ → Configuration) (failing : Check)
    → Agrees v atom val → Met v facts.rows → Follows v facts.fresh (sum_values val sum ++ values_after (evaluated val sum) following)
    → ((x : ℤ) → x ≡ worth v (sum_atom atom facts sum) → Met v (sum_facts atom facts sum).rows → Follows v (sum_facts atom facts sum).fresh (following x) → next x ≡ failed failing → Broken v rest failing)
    → with_value (evaluated val sum) next ≡ failed failing → Broken v (sum_overflows atom facts sum ++ rest) failing
sum_broken v atom val facts sum rest following next failing agrees m f later e =
    let parts = follows_after v atom val facts (atom sum.first) (val sum.first) sum.rest (values_after (evaluated val sum) following) f in
    value_broken v atom facts sum rest (evaluated val sum) following next failing
    (sum_says v atom val facts (atom sum.first) (val sum.first) sum.rest agrees (agrees sum.first) m parts.0) parts.1 later e

-- what the end of a method is, where its value is a sum
exited_is : (method : Method) (arguments : List ℤ) (outcome : Evaluated) → exited_with method arguments outcome ≡ with_value outcome (λ x. ended (value_in arguments x) method.exit method.promises)
exited_is method arguments (is x) = refl
exited_is method arguments (overflows at) = refl

-- where the end fails a check, v meets a way of it
exit_broken : (v : ℕ → ℤ) (method : Method) (arguments slots : List ℤ) (argument_atoms atoms : List Atom) (facts : Facts) (value : Option Sum) (failing : Check)
    → arguments ≡ map (worth v) argument_atoms → slots ≡ map (worth v) atoms → Met v facts.rows → Follows v facts.fresh (exit_values method arguments slots value)
    → exited method arguments slots value ≡ failed failing
    → Broken v (value_obligations atoms facts value ++ clause_obligations (atom_in argument_atoms (value_atom atoms facts value)) (value_facts atoms facts value) method.exit method.promises) failing
exit_broken v method arguments slots argument_atoms atoms facts (Some sum) failing ea es m f e =
    let atom = sum_atom (atom_in atoms no_outcome) facts sum in
    let next = sum_facts (atom_in atoms no_outcome) facts sum in
    sum_broken v (atom_in atoms no_outcome) (value_in slots (pos 0)) facts sum (clause_obligations (atom_in argument_atoms atom) next method.exit method.promises)
    (λ x. clause_values (value_in arguments x) method.promises) (λ x. ended (value_in arguments x) method.exit method.promises) failing
    (slots_agree v atoms slots no_outcome (pos 0) es refl) m f
    (λ x o met g h. clauses_broken v (atom_in argument_atoms atom) (value_in arguments x) next method.exit method.promises failing (slots_agree v argument_atoms arguments atom x ea o) met g h)
    (sym (exited_is method arguments (evaluated (value_in slots (pos 0)) sum)) ∙ e)
exit_broken v method arguments slots argument_atoms atoms facts None failing ea es m f e =
    clauses_broken v (atom_in argument_atoms no_outcome) (value_in arguments (pos 0)) facts method.exit method.promises failing
    (slots_agree v argument_atoms arguments no_outcome (pos 0) ea refl) m f e

-- an assertion fails, or what is left does
assert_broken : (v : ℕ → ℤ) (atom : Part → Atom) (facts : Facts) (at : ℕ) (condition : Condition) (rest : List Obligation) (outcome : Judged) (next : Configuration) (failing : Check)
    → ConditionSays v atom facts condition outcome
    → (Met v (condition_facts atom facts condition).rows → next ≡ failed failing → Broken v rest failing)
    → asserted at outcome next ≡ failed failing → Broken v (condition_obligations atom facts AssertKind at None condition ++ rest) failing
assert_broken v atom facts at condition rest holds next failing s later e =
    one_right (BrokenBy v failing) (condition_obligations atom facts AssertKind at None condition) rest (later s e)
assert_broken v atom facts at condition rest breaks next failing s later e =
    one_left (BrokenBy v failing) (condition_obligations atom facts AssertKind at None condition) rest
    (condition_broken v atom facts AssertKind at None condition failing breaks s (same_failed _ _ e))
assert_broken v atom facts at condition rest trouble next failing s later e =
    one_left (BrokenBy v failing) (condition_obligations atom facts AssertKind at None condition) rest
    (condition_broken v atom facts AssertKind at None condition failing trouble s (same_failed _ _ e))

-- where the body ends in a check, v meets a way of an obligation for it
pub body_broken : (v : ℕ → ℤ) (method : Method) (arguments slots : List ℤ) (argument_atoms atoms : List Atom) (facts : Facts) (body : List Stmt) (failing : Check)
    → arguments ≡ map (worth v) argument_atoms → slots ≡ map (worth v) atoms → Met v facts.rows → Follows v facts.fresh (body_values method arguments slots body)
    → ends method arguments slots body ≡ failed failing → Broken v (body_obligations method argument_atoms atoms facts body) failing
body_broken v method arguments slots argument_atoms atoms facts [] failing ea es m f e = exit_broken v method arguments slots argument_atoms atoms facts method.value failing ea es m f e
body_broken v method arguments slots argument_atoms atoms facts (Local name sum ∷ rest) failing ea es m f e =
    let atom = sum_atom (atom_in atoms no_outcome) facts sum in
    let next = sum_facts (atom_in atoms no_outcome) facts sum in
    sum_broken v (atom_in atoms no_outcome) (value_in slots (pos 0)) facts sum (body_obligations method argument_atoms (atoms ++ atom ∷ []) next rest)
    (λ x. body_values method arguments (slots ++ x ∷ []) rest) (λ x. ends method arguments (slots ++ x ∷ []) rest) failing
    (slots_agree v atoms slots no_outcome (pos 0) es refl) m f
    (λ x o met g h. body_broken v method arguments (slots ++ x ∷ []) argument_atoms (atoms ++ atom ∷ []) next rest failing ea (worths_pushed v atoms slots atom x es o) met g h) e
body_broken v method arguments slots argument_atoms atoms facts (Assign slot sum ∷ rest) failing ea es m f e =
    let atom = sum_atom (atom_in atoms no_outcome) facts sum in
    let next = sum_facts (atom_in atoms no_outcome) facts sum in
    sum_broken v (atom_in atoms no_outcome) (value_in slots (pos 0)) facts sum (body_obligations method argument_atoms (with_atom atoms slot atom) next rest)
    (λ x. body_values method arguments (with_slot slots slot x) rest) (λ x. ends method arguments (with_slot slots slot x) rest) failing
    (slots_agree v atoms slots no_outcome (pos 0) es refl) m f
    (λ x o met g h. body_broken v method arguments (with_slot slots slot x) argument_atoms (with_atom atoms slot atom) next rest failing ea (worths_set v atoms slots slot atom x es o) met g h) e
body_broken v method arguments slots argument_atoms atoms facts (Assert at condition ∷ rest) failing ea es m f e =
    let atom = atom_in atoms no_outcome in
    let val = value_in slots (pos 0) in
    let next = condition_facts atom facts condition in
    let agrees = slots_agree v atoms slots no_outcome (pos 0) es refl in
    let parts = follows_condition v atom val facts condition (body_values method arguments slots rest) f in
    assert_broken v atom facts at condition (body_obligations method argument_atoms atoms next rest) (judged val condition) (ends method arguments slots rest) failing
    (condition_says v atom val facts condition agrees m parts.0)
    (λ met h. body_broken v method arguments slots argument_atoms atoms next rest failing ea es met parts.1 h) e
