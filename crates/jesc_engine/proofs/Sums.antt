-- One operation more of a sum.
use Rattle.std.proofs.Common.{◌≡◌, ℕ, ◌+◌, ◌<◌, ◌≤◌, List, [], ◌∷◌, length, get_or, drop, refl, sym, ◌∙◌, ap, subst, arith}
use Rattle.std.specs.Prelude.{None}
use Rattle.std.proofs.lemmas.List.{drop_more, drop_all}
use Rattle.std.proofs.lemmas.List.Elements.{All-weaker}
use Rattle.jesc_first.specs.declared.check.Kind.TheVariants.{Overflow}
use Rattle.jesc_first.specs.declared.tree.Operation.{Operation}
use Rattle.jesc_first.specs.declared.tree.Sum.{Sum}
use Rattle.jesc_first.specs.Machine.{check}
use Rattle.jesc_engine.specs.declared.answer.Answer.{Answer}
use Rattle.jesc_engine.specs.declared.answer.Finding.{Finding}
use Rattle.jesc_engine.specs.declared.ways.atom.Atom.{Atom}
use Rattle.jesc_engine.specs.declared.ways.atom.Atom.TheVariants.{Number, Term}
use Rattle.jesc_engine.specs.Ways.{Obligation, Facts, atom_in, facts_after, atom_after, operated, operation_ways, ways_along, overflows_along, concat}
use Rattle.jesc_engine.specs.Walk.{IsBelow, IsScope, IsSummed, IsSumming, Continues, Extends}
use Rattle.jesc_engine.proofs.AnswerLists.{continues_none, continues_on, extends_none, extends_on}

pub below_later : (fresh later : ℕ) (x : Atom) → fresh ≤ later → IsBelow fresh x → IsBelow later x
below_later fresh later (Number z) h b = tt
below_later fresh later (Term k) h b = omega (arith, h, b)

pub scope_later : (fresh later : ℕ) (atoms : List Atom) (outcome : Atom) → fresh ≤ later → IsScope fresh atoms outcome → IsScope later atoms outcome
scope_later fresh later atoms outcome h s = record {
  slots = All-weaker (IsBelow fresh) (IsBelow later) (λ x b. below_later fresh later x h b) atoms s.slots;
  outcome_below = below_later fresh later outcome h s.outcome_below;
}

module _ (atoms : List Atom) (outcome : Atom) (before : Facts) (first : Atom) (operations : List Operation) where
  pub summing_start : IsBelow before.fresh first → IsScope before.fresh atoms outcome → IsSumming atoms outcome before first operations before first operations
  summing_start b s = record { facts = refl; atom = refl; grows = omega arith; below = b; scope = s }

  -- the next operation, in the list as it is read
  pub summing_next : (now : Facts) (x : Atom) (operation : Operation) (rest : List Operation) (y made : Atom) (after : Facts)
      → IsSumming atoms outcome before first operations now x (operation ∷ rest)
      → y ≡ atom_in atoms outcome operation.part → made ≡ Term now.fresh → after ≡ operated now x operation.operator y
      → IsSumming atoms outcome before first operations after made rest
  summing_next now x operation rest y made after s e m a =
      let to : operated now x operation.operator (atom_in atoms outcome operation.part) ≡ after = ap (operated now x operation.operator) (sym e) ∙ sym a in
      let fresh : after.fresh ≡ now.fresh + 1 = ap (λ (f : Facts). f.fresh) a in
      let below : IsBelow (now.fresh + 1) (Term now.fresh) = omega arith in
      record {
        facts = s.facts ∙ ap (λ (f : Facts). facts_after (atom_in atoms outcome) f (Term now.fresh) rest) to
            ∙ ap (λ (z : Atom). facts_after (atom_in atoms outcome) after z rest) (sym m);
        atom = s.atom ∙ ap (λ (f : Facts). atom_after (atom_in atoms outcome) f (Term now.fresh) rest) to
            ∙ ap (λ (z : Atom). atom_after (atom_in atoms outcome) after z rest) (sym m);
        grows = omega (arith, s.grows, fresh);
        below = rw (m, fresh) below;
        scope = scope_later now.fresh after.fresh atoms outcome (omega (arith, fresh)) s.scope;
      }

  pub summing_step : (now : Facts) (x : Atom) (i : ℕ) (d : Operation) (y made : Atom) (after : Facts) → i < length operations
      → IsSumming atoms outcome before first operations now x (drop i operations)
      → y ≡ atom_in atoms outcome (get_or operations i d).part → made ≡ Term now.fresh
      → after ≡ operated now x (get_or operations i d).operator y
      → IsSumming atoms outcome before first operations after made (drop (i + 1) operations)
  summing_step now x i d y made after l s e m a =
      let next : IsSumming atoms outcome before first operations now x (get_or operations i d ∷ drop (i + 1) operations) =
      subst (λ (rest : List Operation). IsSumming atoms outcome before first operations now x rest) (drop_more operations i d l) s in
      summing_next now x (get_or operations i d) (drop (i + 1) operations) y made after next e m a

  pub summed : (sum : Sum) (now : Facts) (x : Atom) (i : ℕ) → first ≡ atom_in atoms outcome sum.first → operations ≡ sum.rest → length operations ≤ i
      → IsSumming atoms outcome before first operations now x (drop i operations) → IsSummed atoms outcome before sum x now
  summed sum now x i f r l s =
      let none : drop i operations ≡ [] = drop_all i operations l in
      let ends : IsSumming atoms outcome before first operations now x [] = rw none at s in
      let begins : IsSumming atoms outcome before (atom_in atoms outcome sum.first) sum.rest now x [] = rw (f, r) at ends in
      record { atom = sym begins.atom; facts = sym begins.facts; grows = begins.grows; below = begins.below }

-- the ways of one operation, and those of the operations that are left
pub continues_step : (atoms : List Atom) (outcome : Atom) (operations : List Operation) (now : Facts) (x : Atom) (answer : Answer) (i : ℕ)
    (d : Operation) (y made : Atom) (after : Facts) (then_answer : Answer) → i < length operations
    → y ≡ atom_in atoms outcome (get_or operations i d).part → made ≡ Term now.fresh → after ≡ operated now x (get_or operations i d).operator y
    → Continues answer (operation_ways now x (get_or operations i d).operator y) then_answer
    → (final : Answer) → Continues then_answer (concat (ways_along (atom_in atoms outcome) after made (drop (i + 1) operations))) final
    → Continues answer (concat (ways_along (atom_in atoms outcome) now x (drop i operations))) final
continues_step atoms outcome operations now x answer i d y made after then_answer l e m a one final g =
    let rest = drop (i + 1) operations in
    let operation : Operation = get_or operations i d in
    let cons : drop i operations ≡ operation ∷ rest = drop_more operations i d l in
    let g1 = subst (λ (z : Atom). Continues then_answer (concat (ways_along (atom_in atoms outcome) after z rest)) final) m g in
    let g2 = subst (λ (f : Facts). Continues then_answer (concat (ways_along (atom_in atoms outcome) f (Term now.fresh) rest)) final)
    (a ∙ ap (operated now x operation.operator) e) g1 in
    let one1 = subst (λ (z : Atom). Continues answer (operation_ways now x operation.operator z) then_answer) e one in
    subst (λ (left : List Operation). Continues answer (concat (ways_along (atom_in atoms outcome) now x left)) final) (sym cons)
    (continues_on answer then_answer final (operation_ways now x operation.operator (atom_in atoms outcome operation.part))
    (concat (ways_along (atom_in atoms outcome) (operated now x operation.operator (atom_in atoms outcome operation.part)) (Term now.fresh) rest)) one1 g2)

abbrev pub overflow_of : Facts → Atom → Operation → Atom → Obligation
overflow_of now x operation y = record { check = check Overflow operation.at None; ways = operation_ways now x operation.operator y }

-- the overflow of one operation, and those of the operations that are left
pub extends_step : (atoms : List Atom) (outcome : Atom) (operations : List Operation) (now : Facts) (x : Atom) (findings : List Finding) (i : ℕ)
    (d : Operation) (y made : Atom) (after : Facts) (longer : List Finding) → i < length operations
    → y ≡ atom_in atoms outcome (get_or operations i d).part → made ≡ Term now.fresh → after ≡ operated now x (get_or operations i d).operator y
    → Extends (overflow_of now x (get_or operations i d) y ∷ []) findings longer
    → (final : List Finding) → Extends (overflows_along (atom_in atoms outcome) after made (drop (i + 1) operations)) longer final
    → Extends (overflows_along (atom_in atoms outcome) now x (drop i operations)) findings final
extends_step atoms outcome operations now x findings i d y made after longer l e m a one final g =
    let rest = drop (i + 1) operations in
    let operation : Operation = get_or operations i d in
    let cons : drop i operations ≡ operation ∷ rest = drop_more operations i d l in
    let g1 = subst (λ (z : Atom). Extends (overflows_along (atom_in atoms outcome) after z rest) longer final) m g in
    let g2 = subst (λ (f : Facts). Extends (overflows_along (atom_in atoms outcome) f (Term now.fresh) rest) longer final)
    (a ∙ ap (operated now x operation.operator) e) g1 in
    let one1 = subst (λ (z : Atom). Extends (overflow_of now x operation z ∷ []) findings longer) e one in
    subst (λ (left : List Operation). Extends (overflows_along (atom_in atoms outcome) now x left) findings final) (sym cons)
    (extends_on (overflow_of now x operation (atom_in atoms outcome operation.part) ∷ [])
    (overflows_along (atom_in atoms outcome) (operated now x operation.operator (atom_in atoms outcome operation.part)) (Term now.fresh) rest) findings longer final one1 g2)

pub continues_end : (atoms : List Atom) (outcome : Atom) (sum : Sum) (operations : List Operation) (before : Facts) (first : Atom) (known : Answer)
    (now : Facts) (x : Atom) (answer : Answer) (i : ℕ) → first ≡ atom_in atoms outcome sum.first → operations ≡ sum.rest → length operations ≤ i
    → ((final : Answer) → Continues answer (concat (ways_along (atom_in atoms outcome) now x (drop i operations))) final
    → Continues known (concat (ways_along (atom_in atoms outcome) before first operations)) final)
    → Continues known (concat (ways_along (atom_in atoms outcome) before (atom_in atoms outcome sum.first) sum.rest)) answer
continues_end atoms outcome sum operations before first known now x answer i f r l h =
    let none : Continues answer (concat (ways_along (atom_in atoms outcome) now x (drop i operations))) answer =
    subst (λ (rest : List Operation). Continues answer (concat (ways_along (atom_in atoms outcome) now x rest)) answer) (sym (drop_all i operations l))
    (continues_none answer) in
    subst (λ (z : Atom). Continues known (concat (ways_along (atom_in atoms outcome) before z sum.rest)) answer) f
    (subst (λ (rest : List Operation). Continues known (concat (ways_along (atom_in atoms outcome) before first rest)) answer) r (h answer none))

pub extends_end : (atoms : List Atom) (outcome : Atom) (sum : Sum) (operations : List Operation) (before : Facts) (first : Atom) (old : List Finding)
    (now : Facts) (x : Atom) (findings : List Finding) (i : ℕ) → first ≡ atom_in atoms outcome sum.first → operations ≡ sum.rest → length operations ≤ i
    → ((final : List Finding) → Extends (overflows_along (atom_in atoms outcome) now x (drop i operations)) findings final
    → Extends (overflows_along (atom_in atoms outcome) before first operations) old final)
    → Extends (overflows_along (atom_in atoms outcome) before (atom_in atoms outcome sum.first) sum.rest) old findings
extends_end atoms outcome sum operations before first old now x findings i f r l h =
    let none : Extends (overflows_along (atom_in atoms outcome) now x (drop i operations)) findings findings =
    subst (λ (rest : List Operation). Extends (overflows_along (atom_in atoms outcome) now x rest) findings findings) (sym (drop_all i operations l))
    (extends_none findings) in
    subst (λ (z : Atom). Extends (overflows_along (atom_in atoms outcome) before z sum.rest) old findings) f
    (subst (λ (rest : List Operation). Extends (overflows_along (atom_in atoms outcome) before first rest) old findings) r (h findings none))
