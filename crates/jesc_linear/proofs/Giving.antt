-- The way back, a stage at a time.
use Rattle.std.proofs.Common.{◌≡◌, ℕ, zero, suc, ◌≤◌, ◌^◌, ◌==◌, Bool, true, false, if◌then◌else◌, ℤ, ◌+◌, ◌-◌, ◌<◌, List, [], ◌∷◌, length, get_or, drop, Ok, refl, sym, ap, ◌∙◌, subst, arith}
use Rattle.std.proofs.lemmas.List.{at_drop_more}
use Rattle.std.specs.Prelude.{unsigned_abs}
use Rattle.jesc_linear.specs.declared.rows.LinStep.{LinStep}
use Rattle.jesc_linear.specs.declared.stop.Stop.{Stop}
use Rattle.jesc_linear.specs.declared.stage.Stage.{Stage}
use Rattle.jesc_linear.specs.Rows.{value_at}
use Rattle.jesc_linear.specs.Courses.{Entry, and_then, within}
use Rattle.jesc_linear.specs.Elimination.{Values, Limits, limits_of, no_limits, chosen, give}
use Rattle.jesc_linear.specs.Tables.{IsEnd, HasValues, back, entries_of}
use Rattle.jesc_linear.specs.Limits.{AreWithin}
use Rattle.jesc_linear.proofs.Endings.{ends_on}

-- the list of values with one more
abbrev pub IsSet : ℕ → ℤ → List ℤ → List ℤ → Type 0
IsSet term value old new = (other : ℕ) → value_at new other ≡ (if term == other then value else value_at old other)

pub has_more : (term : ℕ) (value : ℤ) (old new : List ℤ) (found : Values) → IsSet term value old new → HasValues old found → HasValues new ((term, value) ∷ found)
has_more term value old new found set has other = set other ∙ ap (λ x. if term == other then value else x) (has other)

chosen_within : (b : Bool) (x y : ℤ) → unsigned_abs x ≤ 2 ^ 94 → unsigned_abs y ≤ 2 ^ 94 → unsigned_abs (if b then x else y) ≤ 2 ^ 94
chosen_within true x y p q = p
chosen_within false x y p q = q

pub within_more : (term : ℕ) (value : ℤ) (old new : List ℤ) → IsSet term value old new → unsigned_abs value ≤ 2 ^ 94 → AreWithin old → AreWithin new
within_more term value old new set small within other =
    subst (λ (x : ℤ). unsigned_abs x ≤ 2 ^ 94) (sym (set other)) (chosen_within (term == other) value (value_at old other) small (within other))

-- the parts of a stage's step
pub give_limits : (term : ℕ) (entries : List Entry) (found : Values) (limits : Limits) → limits_of found term entries no_limits ≡ Ok limits
    → give term entries found ≡ and_then (chosen limits.least limits.greatest) (λ value. and_then (within 94 value) (λ v. Ok ((term, value) ∷ found)))
give_limits term entries found limits e = ap (λ c. and_then c (λ l. and_then (chosen l.least l.greatest) (λ value. and_then (within 94 value) (λ v. Ok ((term, value) ∷ found))))) e

pub give_chosen : (term : ℕ) (entries : List Entry) (found : Values) (limits : Limits) (value : ℤ) → limits_of found term entries no_limits ≡ Ok limits → chosen limits.least limits.greatest ≡ Ok value
    → give term entries found ≡ and_then (within 94 value) (λ v. Ok ((term, value) ∷ found))
give_chosen term entries found limits value e f =
    give_limits term entries found limits e ∙ ap (λ c. and_then c (λ value. and_then (within 94 value) (λ v. Ok ((term, value) ∷ found)))) f

pub give_value : (term : ℕ) (entries : List Entry) (found : Values) (limits : Limits) (value : ℤ) → limits_of found term entries no_limits ≡ Ok limits → chosen limits.least limits.greatest ≡ Ok value
    → within 94 value ≡ Ok value → give term entries found ≡ Ok ((term, value) ∷ found)
give_value term entries found limits value e f g = give_chosen term entries found limits value e f ∙ ap (λ c. and_then c (λ v. Ok ((term, value) ∷ found))) g

-- where the way through the last stages ends, the whole way ends
pub ends_back : (log : List LinStep) (stages : List Stage) (k : ℕ) (stop : Stop) → IsEnd log stop (back log (drop k stages) (Ok [])) → IsEnd log stop (back log stages (Ok []))
ends_back log stages zero stop h = h
ends_back log [] (suc k) stop h = h
ends_back log (stage ∷ later) (suc k) stop h =
    ends_on log stop (back log later (Ok [])) (give stage.term (entries_of log stage.held.items)) (ends_back log later k stop h)

-- one stage more
pub step_back : (log : List LinStep) (stages : List Stage) (at : ℕ) (stage : Stage) (found : Values) → 0 < at → at ≤ length stages → stage ≡ get_or stages (at - 1) stage
    → back log (drop at stages) (Ok []) ≡ Ok found → back log (drop (at - 1) stages) (Ok []) ≡ give stage.term (entries_of log stage.held.items) found
step_back log stages at stage found some here is e =
    let next : at - 1 + 1 ≡ at = omega arith in
    let below : at - 1 < length stages = omega arith in
    let rest : back log (drop (at - 1 + 1) stages) (Ok []) ≡ Ok found = ap (λ n. back log (drop n stages) (Ok [])) next ∙ e in
    at_drop_more (λ (s : List Stage). back log s (Ok [])) stages (at - 1) stage below
    ∙ ap (λ (s : Stage). back log (s ∷ drop (at - 1 + 1) stages) (Ok [])) (sym is)
    ∙ ap (λ c. and_then c (give stage.term (entries_of log stage.held.items))) rest

pub has_none : HasValues [] []
has_none term = refl

pub none_within : AreWithin []
none_within term = omega arith
