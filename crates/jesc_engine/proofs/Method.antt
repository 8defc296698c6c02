-- The findings on a body are those on its method.
use Rattle.std.proofs.Common.{◌≡◌, ℕ, List, [], length, ◌∙◌, ap, subst}
use Rattle.jesc_first.specs.declared.tree.Method.{Method}
use Rattle.jesc_engine.specs.declared.answer.Finding.{Finding}
use Rattle.jesc_engine.specs.declared.ways.atom.Atom.{Atom}
use Rattle.jesc_engine.specs.Ways.{Facts, atom_in, no_outcome, terms_from, ranges_from, argument_facts, demand_facts, body_obligations, obligations}
use Rattle.jesc_engine.specs.Outcomes.{AnswerAll}
use Rattle.jesc_engine.specs.Walk.{Extends}

pub found : (method : Method) (names : List (List ℕ)) (entry arguments atoms : List Atom) (start now : Facts) (old findings : List Finding)
    → names ≡ method.parameters → entry ≡ terms_from 0 names → arguments ≡ terms_from 0 names → atoms ≡ terms_from 0 names
    → start ≡ record { rows = ranges_from 0 names; fresh = length names }
    → now ≡ demand_facts (atom_in entry no_outcome) start method.demands → old ≡ []
    → Extends (body_obligations method arguments atoms now method.body) old findings
    → AnswerAll (obligations method) findings
found method names entry arguments atoms start now old findings e a b d s f o h =
    let terms = terms_from 0 method.parameters in
    let same : terms_from 0 names ≡ terms = ap (λ (n : List (List ℕ)). terms_from 0 n) e in
    let ranges : List (List ℕ) → Facts = λ n. record { rows = ranges_from 0 n; fresh = length n } in
    let begins : start ≡ argument_facts method = s ∙ ap ranges e in
    let grown : now ≡ demand_facts (atom_in terms no_outcome) (argument_facts method) method.demands =
    f ∙ ap (λ (slots : List Atom). demand_facts (atom_in slots no_outcome) start method.demands) (a ∙ same)
    ∙ ap (λ (facts : Facts). demand_facts (atom_in terms no_outcome) facts method.demands) begins in
    let h1 = subst (λ (slots : List Atom). Extends (body_obligations method slots atoms now method.body) old findings) (b ∙ same) h in
    let h2 = subst (λ (slots : List Atom). Extends (body_obligations method terms slots now method.body) old findings) (d ∙ same) h1 in
    let h3 = subst (λ (facts : Facts). Extends (body_obligations method terms terms facts method.body) old findings) grown h2 in
    let h4 = subst (λ (before : List Finding). Extends (obligations method) before findings) o h3 in
    h4 [] tt
