-- From what rows say to what a body ends in: where numbers meet a way of a check, the call fails it.
use Rattle.std.proofs.Common.{◌≡◌, ℕ, List, [], ◌∷◌, ◌++◌, ℤ, pos, refl, ◌∙◌, ap, inl, inr, Option, Some, None, map}
use Rattle.jesc_first.specs.declared.check.Kind.TheVariants.{Assert as AssertKind, Postcondition}
use Rattle.jesc_first.specs.declared.check.Check.{Check}
use Rattle.jesc_first.specs.declared.tree.Part.{Part}
use Rattle.jesc_first.specs.declared.tree.Sum.{Sum}
use Rattle.jesc_first.specs.declared.tree.Clause.{Clause}
use Rattle.jesc_first.specs.declared.tree.Stmt.{Stmt}
use Rattle.jesc_first.specs.declared.tree.Stmt.TheVariants.{Local, Assign, Assert}
use Rattle.jesc_first.specs.declared.tree.Method.{Method}
use Rattle.jesc_first.specs.Machine.{evaluated, value_in, Judged, holds, breaks, trouble, judged, Configuration, failed, with_slot, ended_clause, ended, exited_with, exited, asserted}
use Rattle.jesc_engine.specs.declared.ways.atom.Atom.{Atom}
use Rattle.jesc_engine.specs.Rows.{worth}
use Rattle.jesc_engine.specs.Ways.{Obligation, Facts, atom_in, sum_facts, sum_atom, sum_overflows, condition_facts, condition_obligations, with_atom, no_outcome, clause_obligations, value_obligations, value_facts, value_atom, body_obligations}
use Rattle.jesc_engine.proofs.Meeting.{Met, BrokenBy, Broken, one_cases}
use Rattle.jesc_engine.proofs.Summing.{Agrees, sum_is, Overflowed, sum_overflowed}
use Rattle.jesc_engine.proofs.Judging.{condition_holds, Fails, condition_fails}
use Rattle.jesc_engine.proofs.Slots.{slots_agree, worths_pushed, worths_set}
use Rattle.jesc_engine.proofs.Ending.{with_value, ends}

-- a clause that is false or in trouble fails its check
clause_fails : (exit by : ℕ) (outcome : Judged) (next : Configuration) (failing : Check) → Fails Postcondition exit (Some by) outcome failing → ended_clause exit by outcome next ≡ failed failing
clause_fails exit by holds next failing f = elim f [ ]
clause_fails exit by breaks next failing f = ap failed f
clause_fails exit by trouble next failing f = ap failed f

-- where v meets a way of an `ensures`, the end fails it
clauses_fail : (v : ℕ → ℤ) (atom : Part → Atom) (val : Part → ℤ) (facts : Facts) (exit : ℕ) (clauses : List Clause) (failing : Check) → Agrees v atom val
    → Broken v (clause_obligations atom facts exit clauses) failing → Met v facts.rows × (ended val exit clauses ≡ failed failing)
clauses_fail v atom val facts exit [] failing agrees b = elim b [ ]
clauses_fail v atom val facts exit (clause ∷ rest) failing agrees b =
    let next = condition_facts atom facts clause.condition in
    elim (one_cases (BrokenBy v failing) (condition_obligations atom facts Postcondition exit (Some clause.at) clause.condition) (clause_obligations atom next exit rest) b) [
      | inl h ↦ let out = condition_fails v atom val facts Postcondition exit (Some clause.at) clause.condition failing agrees h in
          (out.0, clause_fails exit clause.at (judged val clause.condition) (ended val exit rest) failing out.1)
      | inr h ↦ let later = clauses_fail v atom val next exit rest failing agrees h in
          let here = condition_holds v atom val facts clause.condition agrees later.0 in
          (here.0, ap (λ j. ended_clause exit clause.at j (ended val exit rest)) here.1 ∙ later.1)
    ]

-- a sum that overflows fails its check, whatever follows
overflow_fails : (val : Part → ℤ) (sum : Sum) (failing : Check) (next : ℤ → Configuration) → Overflowed val (val sum.first) sum.rest failing
    → with_value (evaluated val sum) next ≡ failed failing
overflow_fails val sum failing next o = ap (λ r. with_value r next) o.overflowed ∙ ap failed o.same

-- the same of the value that is returned
exit_overflow_fails : (method : Method) (arguments : List ℤ) (val : Part → ℤ) (sum : Sum) (failing : Check) → Overflowed val (val sum.first) sum.rest failing
    → exited_with method arguments (evaluated val sum) ≡ failed failing
exit_overflow_fails method arguments val sum failing o = ap (exited_with method arguments) o.overflowed ∙ ap failed o.same

-- where v meets a way of the end, the end fails it
exit_fails : (v : ℕ → ℤ) (method : Method) (arguments slots : List ℤ) (argument_atoms atoms : List Atom) (facts : Facts) (value : Option Sum) (failing : Check)
    → arguments ≡ map (worth v) argument_atoms → slots ≡ map (worth v) atoms
    → Broken v (value_obligations atoms facts value ++ clause_obligations (atom_in argument_atoms (value_atom atoms facts value)) (value_facts atoms facts value) method.exit method.promises) failing
    → Met v facts.rows × (exited method arguments slots value ≡ failed failing)
exit_fails v method arguments slots argument_atoms atoms facts (Some sum) failing ea es b =
    let agrees = slots_agree v atoms slots no_outcome (pos 0) es refl in
    let outcome = sum_atom (atom_in atoms no_outcome) facts sum in
    let next = sum_facts (atom_in atoms no_outcome) facts sum in
    elim (one_cases (BrokenBy v failing) (sum_overflows (atom_in atoms no_outcome) facts sum) (clause_obligations (atom_in argument_atoms outcome) next method.exit method.promises) b) [
      | inl h ↦ let out = sum_overflowed v (atom_in atoms no_outcome) (value_in slots (pos 0)) facts (atom_in atoms no_outcome sum.first) (value_in slots (pos 0) sum.first) sum.rest failing agrees (agrees sum.first) h in
          (out.0, exit_overflow_fails method arguments (value_in slots (pos 0)) sum failing out.1)
      | inr h ↦ let out = clauses_fail v (atom_in argument_atoms outcome) (value_in arguments (worth v outcome)) next method.exit method.promises failing
          (slots_agree v argument_atoms arguments outcome (worth v outcome) ea refl) h in
          let here = sum_is v (atom_in atoms no_outcome) (value_in slots (pos 0)) facts (atom_in atoms no_outcome sum.first) (value_in slots (pos 0) sum.first) sum.rest agrees (agrees sum.first) out.0 in
          (here.0, ap (exited_with method arguments) here.1 ∙ out.1)
    ]
exit_fails v method arguments slots argument_atoms atoms facts None failing ea es b =
    clauses_fail v (atom_in argument_atoms no_outcome) (value_in arguments (pos 0)) facts method.exit method.promises failing
    (slots_agree v argument_atoms arguments no_outcome (pos 0) ea refl) b

-- an assertion that is false or in trouble fails its check
assert_fails : (at : ℕ) (outcome : Judged) (next : Configuration) (failing : Check) → Fails AssertKind at None outcome failing → asserted at outcome next ≡ failed failing
assert_fails at holds next failing f = elim f [ ]
assert_fails at breaks next failing f = ap failed f
assert_fails at trouble next failing f = ap failed f

-- a statement that gives a sum to a slot, where the rest is walked
value_fails : (v : ℕ → ℤ) (slots : List ℤ) (atoms : List Atom) (facts : Facts) (sum : Sum) (rest : List Obligation) (next : ℤ → Configuration) (failing : Check)
    → slots ≡ map (worth v) atoms
    → (Broken v rest failing → Met v (sum_facts (atom_in atoms no_outcome) facts sum).rows × (next (worth v (sum_atom (atom_in atoms no_outcome) facts sum)) ≡ failed failing))
    → Broken v (sum_overflows (atom_in atoms no_outcome) facts sum ++ rest) failing
    → Met v facts.rows × (with_value (evaluated (value_in slots (pos 0)) sum) next ≡ failed failing)
value_fails v slots atoms facts sum rest next failing es walk b =
    let agrees = slots_agree v atoms slots no_outcome (pos 0) es refl in
    elim (one_cases (BrokenBy v failing) (sum_overflows (atom_in atoms no_outcome) facts sum) rest b) [
      | inl h ↦ let out = sum_overflowed v (atom_in atoms no_outcome) (value_in slots (pos 0)) facts (atom_in atoms no_outcome sum.first) (value_in slots (pos 0) sum.first) sum.rest failing agrees (agrees sum.first) h in
          (out.0, overflow_fails (value_in slots (pos 0)) sum failing next out.1)
      | inr h ↦ let later = walk h in
          let here = sum_is v (atom_in atoms no_outcome) (value_in slots (pos 0)) facts (atom_in atoms no_outcome sum.first) (value_in slots (pos 0) sum.first) sum.rest agrees (agrees sum.first) later.0 in
          (here.0, ap (λ r. with_value r next) here.1 ∙ later.1)
    ]

-- where v meets a way of an obligation, the body ends in its check
pub body_fails : (v : ℕ → ℤ) (method : Method) (arguments slots : List ℤ) (argument_atoms atoms : List Atom) (facts : Facts) (body : List Stmt) (failing : Check)
    → arguments ≡ map (worth v) argument_atoms → slots ≡ map (worth v) atoms
    → Broken v (body_obligations method argument_atoms atoms facts body) failing → Met v facts.rows × (ends method arguments slots body ≡ failed failing)
body_fails v method arguments slots argument_atoms atoms facts [] failing ea es b = exit_fails v method arguments slots argument_atoms atoms facts method.value failing ea es b
body_fails v method arguments slots argument_atoms atoms facts (Local name sum ∷ rest) failing ea es b =
    let atom = sum_atom (atom_in atoms no_outcome) facts sum in
    let next = sum_facts (atom_in atoms no_outcome) facts sum in
    value_fails v slots atoms facts sum (body_obligations method argument_atoms (atoms ++ atom ∷ []) next rest) (λ x. ends method arguments (slots ++ x ∷ []) rest) failing es
    (λ h. body_fails v method arguments (slots ++ worth v atom ∷ []) argument_atoms (atoms ++ atom ∷ []) next rest failing ea (worths_pushed v atoms slots atom (worth v atom) es refl) h) b
body_fails v method arguments slots argument_atoms atoms facts (Assign slot sum ∷ rest) failing ea es b =
    let atom = sum_atom (atom_in atoms no_outcome) facts sum in
    let next = sum_facts (atom_in atoms no_outcome) facts sum in
    value_fails v slots atoms facts sum (body_obligations method argument_atoms (with_atom atoms slot atom) next rest) (λ x. ends method arguments (with_slot slots slot x) rest) failing es
    (λ h. body_fails v method arguments (with_slot slots slot (worth v atom)) argument_atoms (with_atom atoms slot atom) next rest failing ea (worths_set v atoms slots slot atom (worth v atom) es refl) h) b
body_fails v method arguments slots argument_atoms atoms facts (Assert at condition ∷ rest) failing ea es b =
    let agrees = slots_agree v atoms slots no_outcome (pos 0) es refl in
    let next = condition_facts (atom_in atoms no_outcome) facts condition in
    elim (one_cases (BrokenBy v failing) (condition_obligations (atom_in atoms no_outcome) facts AssertKind at None condition) (body_obligations method argument_atoms atoms next rest) b) [
      | inl h ↦ let out = condition_fails v (atom_in atoms no_outcome) (value_in slots (pos 0)) facts AssertKind at None condition failing agrees h in
          (out.0, assert_fails at (judged (value_in slots (pos 0)) condition) (ends method arguments slots rest) failing out.1)
      | inr h ↦ let later = body_fails v method arguments slots argument_atoms atoms next rest failing ea es h in
          let here = condition_holds v (atom_in atoms no_outcome) (value_in slots (pos 0)) facts condition agrees later.0 in
          (here.0, ap (λ j. asserted at j (ends method arguments slots rest)) here.1 ∙ later.1)
    ]
