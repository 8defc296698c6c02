-- The atoms of slots and parameters.
use Rattle.std.proofs.Common.{◌≡◌, ℕ, zero, suc, ◌+◌, ◌<◌, ◌≤◌, List, [], ◌∷◌, ◌++◌, length, set, drop, refl, sym, ◌∙◌, ap, arith, append_assoc}
use Rattle.std.specs.Prelude.{All}
use Rattle.std.proofs.lemmas.List.{drop_more, drop_all, append-nil}
use Rattle.std.proofs.lemmas.List.Elements.{All-nil, All-cons, All-push, All-set}
use Rattle.jesc_linear.specs.declared.rows.Row.{Row}
use Rattle.jesc_engine.specs.declared.ways.atom.Atom.{Atom}
use Rattle.jesc_engine.specs.declared.ways.atom.Atom.TheVariants.{Term}
use Rattle.jesc_engine.specs.Ways.{with_atom, terms_from, ranges_from, in_range, no_outcome}
use Rattle.jesc_engine.specs.Walk.{IsBelow, IsScope}

pub with_atom_is : (atoms : List Atom) (slot : ℕ) (x : Atom) → with_atom atoms slot x ≡ set atoms slot x
with_atom_is [] slot x = refl
with_atom_is (y ∷ atoms) zero x = refl
with_atom_is (y ∷ atoms) (suc slot) x = ap (λ (left : List Atom). y ∷ left) (with_atom_is atoms slot x)

pub scope_push : (fresh : ℕ) (atoms : List Atom) (x : Atom) → IsScope fresh atoms no_outcome → IsBelow fresh x → IsScope fresh (atoms ++ x ∷ []) no_outcome
scope_push fresh atoms x s b = record { slots = All-push (IsBelow fresh) atoms x s.slots b; outcome_below = tt }

pub scope_put : (fresh : ℕ) (atoms : List Atom) (slot : ℕ) (x : Atom) → IsScope fresh atoms no_outcome → IsBelow fresh x
    → IsScope fresh (with_atom atoms slot x) no_outcome
scope_put fresh atoms slot x s b =
    rw (with_atom_is atoms slot x) (record { slots = All-set (IsBelow fresh) atoms slot x b s.slots; outcome_below = tt })

pub scope_with : (fresh : ℕ) (atoms : List Atom) (outcome : Atom) → IsScope fresh atoms no_outcome → IsBelow fresh outcome → IsScope fresh atoms outcome
scope_with fresh atoms outcome s b = record { slots = s.slots; outcome_below = b }

terms_below : (k fresh : ℕ) (names : List (List ℕ)) → k + length names ≤ fresh → All (IsBelow fresh) (terms_from k names)
terms_below k fresh [] h = All-nil (IsBelow fresh)
terms_below k fresh (name ∷ rest) h =
    let here : IsBelow fresh (Term k) = omega (arith, h) in
    All-cons (IsBelow fresh) (Term k) (terms_from (k + 1) rest) here (terms_below (k + 1) fresh rest (omega (arith, h)))

pub parameters_below : (names : List (List ℕ)) → IsScope (length names) (terms_from 0 names) no_outcome
parameters_below names = record { slots = terms_below 0 (length names) names (omega arith); outcome_below = tt }

pub terms_step : (k : ℕ) (names : List (List ℕ)) (terms longer : List Atom) → k < length names → longer ≡ terms ++ Term k ∷ []
    → terms_from 0 names ≡ terms ++ terms_from k (drop k names) → terms_from 0 names ≡ longer ++ terms_from (k + 1) (drop (k + 1) names)
terms_step k names terms longer l e h =
    h ∙ ap (λ (left : List (List ℕ)). terms ++ terms_from k left) (drop_more names k [] l)
    ∙ sym (append_assoc terms (Term k ∷ []) (terms_from (k + 1) (drop (k + 1) names)))
    ∙ ap (λ (left : List Atom). left ++ terms_from (k + 1) (drop (k + 1) names)) (sym e)

pub terms_end : (k : ℕ) (names : List (List ℕ)) (terms : List Atom) → length names ≤ k → terms_from 0 names ≡ terms ++ terms_from k (drop k names) → terms ≡ terms_from 0 names
terms_end k names terms l h = sym (h ∙ ap (λ (left : List (List ℕ)). terms ++ terms_from k left) (drop_all k names l) ∙ append-nil terms)

pub ranges_step : (k : ℕ) (names : List (List ℕ)) (rows longer : List Row) → k < length names → longer ≡ rows ++ in_range k
    → ranges_from 0 names ≡ rows ++ ranges_from k (drop k names) → ranges_from 0 names ≡ longer ++ ranges_from (k + 1) (drop (k + 1) names)
ranges_step k names rows longer l e h =
    h ∙ ap (λ (left : List (List ℕ)). rows ++ ranges_from k left) (drop_more names k [] l)
    ∙ sym (append_assoc rows (in_range k) (ranges_from (k + 1) (drop (k + 1) names)))
    ∙ ap (λ (left : List Row). left ++ ranges_from (k + 1) (drop (k + 1) names)) (sym e)

pub ranges_end : (k : ℕ) (names : List (List ℕ)) (rows : List Row) → length names ≤ k → ranges_from 0 names ≡ rows ++ ranges_from k (drop k names) → rows ≡ ranges_from 0 names
ranges_end k names rows l h = sym (h ∙ ap (λ (left : List (List ℕ)). rows ++ ranges_from k left) (drop_all k names l) ∙ append-nil rows)

pub parameters_scope : (names : List (List ℕ)) (fresh : ℕ) (atoms : List Atom) → fresh ≡ length names → atoms ≡ terms_from 0 names → IsScope fresh atoms no_outcome
parameters_scope names fresh atoms e f = rw (e, f) (parameters_below names)
