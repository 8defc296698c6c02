-- What a call ends in, by recursion on the body, and that the machine comes to just that.
use Rattle.std.proofs.Common.{◌≡◌, ℕ, zero, suc, List, [], ◌∷◌, ◌++◌, length, ℤ, pos, refl, sym, ◌∙◌, Option, Some, None}
use Rattle.jesc_first.specs.declared.check.Kind.TheVariants.{Overflow, Assert as AssertKind, Undefined, Postcondition}
use Rattle.jesc_first.specs.declared.check.Check.{Check}
use Rattle.jesc_first.specs.declared.tree.Part.{Part}
use Rattle.jesc_first.specs.declared.tree.Sum.{Sum}
use Rattle.jesc_first.specs.declared.tree.Clause.{Clause}
use Rattle.jesc_first.specs.declared.tree.Stmt.{Stmt}
use Rattle.jesc_first.specs.declared.tree.Stmt.TheVariants.{Local, Assign, Assert}
use Rattle.jesc_first.specs.declared.tree.Method.{Method}
use Rattle.jesc_first.specs.Machine.{Slots, Evaluated, is, overflows, evaluated, value_in, Judged, holds, breaks, trouble, judged, check, Configuration, running, done, failed, with_slot, ended_clause, ended, exited_with, exited, asserted, assigned, run}

-- what follows a value, where there is one
abbrev pub with_value : Evaluated → (ℤ → Configuration) → Configuration
with_value (is x) next = next x
with_value (overflows at) next = failed (check Overflow at None)

-- what the statements that are left and the end of the method come to
abbrev pub ends : Method → List ℤ → Slots → List Stmt → Configuration
ends method arguments slots [] = exited method arguments slots method.value
ends method arguments slots (Local name value ∷ rest) = with_value (evaluated (value_in slots (pos 0)) value) (λ x. ends method arguments (slots ++ x ∷ []) rest)
ends method arguments slots (Assign slot value ∷ rest) = with_value (evaluated (value_in slots (pos 0)) value) (λ x. ends method arguments (with_slot slots slot x) rest)
ends method arguments slots (Assert at condition ∷ rest) = asserted at (judged (value_in slots (pos 0)) condition) (ends method arguments slots rest)

-- a check that has failed stays failed
run_failed : (method : Method) (arguments : List ℤ) (n : ℕ) (c : Check) → run method arguments n (failed c) ≡ failed c
run_failed method arguments zero c = refl
run_failed method arguments (suc n) c = run_failed method arguments n c

-- a call that has ended stays so
run_done : (method : Method) (arguments : List ℤ) (n : ℕ) → run method arguments n done ≡ done
run_done method arguments zero = refl
run_done method arguments (suc n) = run_done method arguments n

-- more steps change nothing here
abbrev Stays : Method → List ℤ → Configuration → Type 0
Stays method arguments configuration = (n : ℕ) → run method arguments n configuration ≡ configuration

-- a clause of the end, before what stays
clause_stays : (method : Method) (arguments : List ℤ) (exit by : ℕ) (outcome : Judged) (next : Configuration) → Stays method arguments next → Stays method arguments (ended_clause exit by outcome next)
clause_stays method arguments exit by holds next s n = s n
clause_stays method arguments exit by breaks next s n = run_failed method arguments n (check Postcondition exit (Some by))
clause_stays method arguments exit by trouble next s n = run_failed method arguments n (check Undefined exit (Some by))

-- the clauses of the end
ended_stays : (method : Method) (arguments : List ℤ) (val : Part → ℤ) (exit : ℕ) (clauses : List Clause) → Stays method arguments (ended val exit clauses)
ended_stays method arguments val exit [] n = run_done method arguments n
ended_stays method arguments val exit (clause ∷ rest) n =
    clause_stays method arguments exit clause.at (judged val clause.condition) (ended val exit rest) (ended_stays method arguments val exit rest) n

-- the end, with a value or an overflow
exited_with_stays : (method : Method) (arguments : List ℤ) (outcome : Evaluated) → Stays method arguments (exited_with method arguments outcome)
exited_with_stays method arguments (is x) n = ended_stays method arguments (value_in arguments x) method.exit method.promises n
exited_with_stays method arguments (overflows at) n = run_failed method arguments n (check Overflow at None)

-- the end of the body
exited_stays : (method : Method) (arguments : List ℤ) (slots : Slots) (value : Option Sum) → Stays method arguments (exited method arguments slots value)
exited_stays method arguments slots (Some value) n = exited_with_stays method arguments (evaluated (value_in slots (pos 0)) value) n
exited_stays method arguments slots None n = exited_with_stays method arguments (is (pos 0)) n

-- one statement of the body, where the rest comes to its end
assigned_reaches : (method : Method) (arguments : List ℤ) (rest : List Stmt) (outcome : Evaluated) (next : ℤ → Slots)
    → ((x : ℤ) → run method arguments (suc (length rest)) (running (next x) rest) ≡ ends method arguments (next x) rest)
    → run method arguments (suc (length rest)) (assigned outcome next rest) ≡ with_value outcome (λ x. ends method arguments (next x) rest)
assigned_reaches method arguments rest (is x) next h = h x
assigned_reaches method arguments rest (overflows at) next h = run_failed method arguments (suc (length rest)) (check Overflow at None)

-- an assertion, where the rest comes to its end
asserted_reaches : (method : Method) (arguments : List ℤ) (slots : Slots) (rest : List Stmt) (at : ℕ) (outcome : Judged)
    → run method arguments (suc (length rest)) (running slots rest) ≡ ends method arguments slots rest
    → run method arguments (suc (length rest)) (asserted at outcome (running slots rest)) ≡ asserted at outcome (ends method arguments slots rest)
asserted_reaches method arguments slots rest at holds h = h
asserted_reaches method arguments slots rest at breaks h = run_failed method arguments (suc (length rest)) (check AssertKind at None)
asserted_reaches method arguments slots rest at trouble h = run_failed method arguments (suc (length rest)) (check Undefined at None)

-- the machine comes to what the body ends in
pub reaches_end : (method : Method) (arguments : List ℤ) (slots : Slots) (body : List Stmt) → run method arguments (suc (length body)) (running slots body) ≡ ends method arguments slots body
reaches_end method arguments slots [] = refl
reaches_end method arguments slots (Local name value ∷ rest) =
    assigned_reaches method arguments rest (evaluated (value_in slots (pos 0)) value) (λ x. slots ++ x ∷ []) (λ x. reaches_end method arguments (slots ++ x ∷ []) rest)
reaches_end method arguments slots (Assign slot value ∷ rest) =
    assigned_reaches method arguments rest (evaluated (value_in slots (pos 0)) value) (with_slot slots slot) (λ x. reaches_end method arguments (with_slot slots slot x) rest)
reaches_end method arguments slots (Assert at condition ∷ rest) =
    asserted_reaches method arguments slots rest at (judged (value_in slots (pos 0)) condition) (reaches_end method arguments slots rest)

-- one statement of the body, where the rest fails only as it ends
assigned_fails : (method : Method) (arguments : List ℤ) (n : ℕ) (rest : List Stmt) (outcome : Evaluated) (next : ℤ → Slots) (failing : Check)
    → ((x : ℤ) → run method arguments n (running (next x) rest) ≡ failed failing → ends method arguments (next x) rest ≡ failed failing)
    → run method arguments n (assigned outcome next rest) ≡ failed failing → with_value outcome (λ x. ends method arguments (next x) rest) ≡ failed failing
assigned_fails method arguments n rest (is x) next failing h e = h x e
assigned_fails method arguments n rest (overflows at) next failing h e = sym (run_failed method arguments n (check Overflow at None)) ∙ e

-- an assertion, where the rest fails only as it ends
asserted_fails : (method : Method) (arguments : List ℤ) (n : ℕ) (slots : Slots) (rest : List Stmt) (at : ℕ) (outcome : Judged) (failing : Check)
    → (run method arguments n (running slots rest) ≡ failed failing → ends method arguments slots rest ≡ failed failing)
    → run method arguments n (asserted at outcome (running slots rest)) ≡ failed failing → asserted at outcome (ends method arguments slots rest) ≡ failed failing
asserted_fails method arguments n slots rest at holds failing h e = h e
asserted_fails method arguments n slots rest at breaks failing h e = sym (run_failed method arguments n (check AssertKind at None)) ∙ e
asserted_fails method arguments n slots rest at trouble failing h e = sym (run_failed method arguments n (check Undefined at None)) ∙ e

-- a call in the midst of its body has not failed
not_failed : (slots : Slots) (body : List Stmt) (failing : Check) → running slots body ≡ failed failing → ⊥
not_failed slots body failing e = cc

-- where the machine fails a check after some steps, the body ends in it
pub fails_at_end : (method : Method) (arguments : List ℤ) (n : ℕ) (slots : Slots) (body : List Stmt) (failing : Check)
    → run method arguments n (running slots body) ≡ failed failing → ends method arguments slots body ≡ failed failing
fails_at_end method arguments zero slots body failing e = absurd (not_failed slots body failing e)
fails_at_end method arguments (suc n) slots [] failing e = sym (exited_stays method arguments slots method.value n) ∙ e
fails_at_end method arguments (suc n) slots (Local name value ∷ rest) failing e =
    assigned_fails method arguments n rest (evaluated (value_in slots (pos 0)) value) (λ x. slots ++ x ∷ []) failing
    (λ x. fails_at_end method arguments n (slots ++ x ∷ []) rest failing) e
fails_at_end method arguments (suc n) slots (Assign slot value ∷ rest) failing e =
    assigned_fails method arguments n rest (evaluated (value_in slots (pos 0)) value) (with_slot slots slot) failing
    (λ x. fails_at_end method arguments n (with_slot slots slot x) rest failing) e
fails_at_end method arguments (suc n) slots (Assert at condition ∷ rest) failing e =
    asserted_fails method arguments n slots rest at (judged (value_in slots (pos 0)) condition) failing (fails_at_end method arguments n slots rest failing) e
