-- One statement more of a body, one `ensures` more, and the end of a body.
use Rattle.std.proofs.Common.{◌≡◌, ℕ, ◌+◌, ◌<◌, ◌≤◌, List, [], ◌∷◌, ◌++◌, length, get_or, drop, refl, sym, ◌∙◌, ap, subst}
use Rattle.std.specs.Prelude.{Some}
use Rattle.std.proofs.lemmas.List.{drop_more, drop_all}
use Rattle.jesc_first.specs.declared.check.Kind.TheVariants.{Postcondition}
use Rattle.jesc_first.specs.declared.tree.Clause.{Clause}
use Rattle.jesc_first.specs.declared.tree.Sum.{Sum}
use Rattle.jesc_first.specs.declared.tree.Stmt.{Stmt}
use Rattle.jesc_first.specs.declared.tree.Method.{Method}
use Rattle.jesc_engine.specs.declared.answer.Finding.{Finding}
use Rattle.jesc_engine.specs.declared.ways.atom.Atom.{Atom}
use Rattle.jesc_engine.specs.Ways.{Facts, atom_in, no_outcome, sum_facts, sum_atom, with_atom, condition_facts, condition_obligations, clause_obligations, statement_obligations, statement_facts, statement_atoms, value_obligations, value_facts, value_atom, body_obligations}
use Rattle.jesc_engine.specs.Walk.{IsScope, IsSummed, IsGrown, IsAfter, Extends}
use Rattle.jesc_engine.proofs.AnswerLists.{extends_none, extends_on}
use Rattle.jesc_engine.proofs.Sums.{scope_later}
use Rattle.jesc_engine.proofs.Parameters.{scope_push, scope_put}

pub after_local : (before : Facts) (value : Sum) (atoms : List Atom) (x : Atom) (now : Facts) (longer : List Atom)
    → IsSummed atoms no_outcome before value x now → IsScope before.fresh atoms no_outcome → longer ≡ atoms ++ x ∷ []
    → IsAfter before (sum_facts (atom_in atoms no_outcome) before value) now (atoms ++ sum_atom (atom_in atoms no_outcome) before value ∷ []) longer
after_local before value atoms x now longer s h e = record {
  facts = s.facts;
  grows = s.grows;
  slots = e ∙ ap (λ (z : Atom). atoms ++ z ∷ []) s.atom;
  scope = rw e (scope_push now.fresh atoms x (scope_later before.fresh now.fresh atoms no_outcome s.grows h) s.below);
}

pub after_assignment : (before : Facts) (value : Sum) (atoms : List Atom) (slot : ℕ) (x : Atom) (now : Facts) (changed : List Atom)
    → IsSummed atoms no_outcome before value x now → IsScope before.fresh atoms no_outcome → changed ≡ with_atom atoms slot x
    → IsAfter before (sum_facts (atom_in atoms no_outcome) before value) now (with_atom atoms slot (sum_atom (atom_in atoms no_outcome) before value)) changed
after_assignment before value atoms slot x now changed s h e = record {
  facts = s.facts;
  grows = s.grows;
  slots = e ∙ ap (λ (z : Atom). with_atom atoms slot z) s.atom;
  scope = rw e (scope_put now.fresh atoms slot x (scope_later before.fresh now.fresh atoms no_outcome s.grows h) s.below);
}

pub after_assert : (before wanted now : Facts) (atoms : List Atom) → IsGrown before wanted now → IsScope before.fresh atoms no_outcome
    → IsAfter before wanted now atoms atoms
after_assert before wanted now atoms g h = record {
  facts = g.same;
  grows = g.grows;
  slots = refl;
  scope = scope_later before.fresh now.fresh atoms no_outcome g.grows h;
}

pub clause_step : (atoms : List Atom) (outcome : Atom) (exit : ℕ) (clauses : List Clause) (now : Facts) (findings : List Finding) (i : ℕ) (clause : Clause)
    (after : Facts) (longer : List Finding) → i < length clauses → clause ≡ get_or clauses i clause
    → IsGrown now (condition_facts (atom_in atoms outcome) now clause.condition) after
    → Extends (condition_obligations (atom_in atoms outcome) now Postcondition exit (Some clause.at) clause.condition) findings longer
    → (final : List Finding) → Extends (clause_obligations (atom_in atoms outcome) after exit (drop (i + 1) clauses)) longer final
    → Extends (clause_obligations (atom_in atoms outcome) now exit (drop i clauses)) findings final
clause_step atoms outcome exit clauses now findings i clause after longer l r g one final h =
    let rest = drop (i + 1) clauses in
    let cons : drop i clauses ≡ clause ∷ rest = drop_more clauses i clause l ∙ ap (λ (c : Clause). c ∷ rest) (sym r) in
    let later = subst (λ (f : Facts). Extends (clause_obligations (atom_in atoms outcome) f exit rest) longer final) g.same h in
    subst (λ (left : List Clause). Extends (clause_obligations (atom_in atoms outcome) now exit left) findings final) (sym cons)
    (extends_on (condition_obligations (atom_in atoms outcome) now Postcondition exit (Some clause.at) clause.condition)
    (clause_obligations (atom_in atoms outcome) (condition_facts (atom_in atoms outcome) now clause.condition) exit rest) findings longer final one later)

pub clauses_end : (atoms : List Atom) (outcome : Atom) (exit : ℕ) (clauses promises : List Clause) (before now : Facts) (old findings : List Finding) (i : ℕ)
    → clauses ≡ promises → length clauses ≤ i
    → ((final : List Finding) → Extends (clause_obligations (atom_in atoms outcome) now exit (drop i clauses)) findings final
    → Extends (clause_obligations (atom_in atoms outcome) before exit clauses) old final)
    → Extends (clause_obligations (atom_in atoms outcome) before exit promises) old findings
clauses_end atoms outcome exit clauses promises before now old findings i e l h =
    let none : Extends (clause_obligations (atom_in atoms outcome) now exit (drop i clauses)) findings findings =
    subst (λ (rest : List Clause). Extends (clause_obligations (atom_in atoms outcome) now exit rest) findings findings) (sym (drop_all i clauses l))
    (extends_none findings) in
    subst (λ (c : List Clause). Extends (clause_obligations (atom_in atoms outcome) before exit c) old findings) e (h findings none)

pub statement_step : (method : Method) (arguments : List Atom) (statements : List Stmt) (atoms : List Atom) (now : Facts) (findings : List Finding) (i : ℕ)
    (statement : Stmt) (atoms_after : List Atom) (after : Facts) (longer : List Finding) → i < length statements → statement ≡ get_or statements i statement
    → IsAfter now (statement_facts atoms now statement) after (statement_atoms atoms now statement) atoms_after
    → Extends (statement_obligations atoms now statement) findings longer
    → (final : List Finding) → Extends (body_obligations method arguments atoms_after after (drop (i + 1) statements)) longer final
    → Extends (body_obligations method arguments atoms now (drop i statements)) findings final
statement_step method arguments statements atoms now findings i statement atoms_after after longer l r a one final h =
    let rest = drop (i + 1) statements in
    let cons : drop i statements ≡ statement ∷ rest = drop_more statements i statement l ∙ ap (λ (s : Stmt). s ∷ rest) (sym r) in
    let at_facts = subst (λ (f : Facts). Extends (body_obligations method arguments atoms_after f rest) longer final) a.facts h in
    let later = subst (λ (slots : List Atom). Extends (body_obligations method arguments slots (statement_facts atoms now statement) rest) longer final)
    a.slots at_facts in
    subst (λ (left : List Stmt). Extends (body_obligations method arguments atoms now left) findings final) (sym cons)
    (extends_on (statement_obligations atoms now statement)
    (body_obligations method arguments (statement_atoms atoms now statement) (statement_facts atoms now statement) rest) findings longer final one later)

pub statements_end : (method : Method) (arguments : List Atom) (statements : List Stmt) (atoms_before atoms : List Atom) (before now : Facts)
    (old findings final : List Finding) (i : ℕ) → statements ≡ method.body → length statements ≤ i
    → ((final : List Finding) → Extends (body_obligations method arguments atoms now (drop i statements)) findings final
    → Extends (body_obligations method arguments atoms_before before statements) old final)
    → Extends (body_obligations method arguments atoms now []) findings final
    → Extends (body_obligations method arguments atoms_before before method.body) old final
statements_end method arguments statements atoms_before atoms before now old findings final i e l h g =
    let rest : Extends (body_obligations method arguments atoms now (drop i statements)) findings final =
    subst (λ (left : List Stmt). Extends (body_obligations method arguments atoms now left) findings final) (sym (drop_all i statements l)) g in
    subst (λ (body : List Stmt). Extends (body_obligations method arguments atoms_before before body) old final) e (h final rest)

pub end_of_body : (method : Method) (arguments atoms : List Atom) (before : Facts) (outcome : Atom) (now : Facts) (old findings final : List Finding)
    → outcome ≡ value_atom atoms before method.value → now ≡ value_facts atoms before method.value
    → Extends (value_obligations atoms before method.value) old findings
    → Extends (clause_obligations (atom_in arguments outcome) now method.exit method.promises) findings final
    → Extends (body_obligations method arguments atoms before []) old final
end_of_body method arguments atoms before outcome now old findings final o f one h =
    let at_facts = subst (λ (facts : Facts). Extends (clause_obligations (atom_in arguments outcome) facts method.exit method.promises) findings final) f h in
    let later = subst (λ (z : Atom). Extends (clause_obligations (atom_in arguments z) (value_facts atoms before method.value) method.exit method.promises)
    findings final) o at_facts in
    extends_on (value_obligations atoms before method.value)
    (clause_obligations (atom_in arguments (value_atom atoms before method.value)) (value_facts atoms before method.value) method.exit method.promises)
    old findings final one later
