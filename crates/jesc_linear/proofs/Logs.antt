-- The last step of a log.
use Rattle.std.proofs.Common.{◌≡◌, suc, ◌-◌, ◌≤◌, List, [], ◌∷◌, length, get_or, sym, ◌∙◌, ap, subst, arith}
use Rattle.jesc_linear.specs.declared.rows.LinStep.{LinStep}
use Rattle.jesc_linear.specs.Steps.{IsAbsurd, EndsAbsurd}

-- the last of a list that goes on is the last of its rest
last_of : (s t : LinStep) (ts : List LinStep) (x : LinStep)
    → get_or (s ∷ t ∷ ts) (length (s ∷ t ∷ ts) - 1) x ≡ get_or (t ∷ ts) (length (t ∷ ts) - 1) x
last_of s t ts x =
    let here : length (s ∷ t ∷ ts) - 1 ≡ suc (length (t ∷ ts) - 1) = omega arith in
    ap (λ n. get_or (s ∷ t ∷ ts) n x) here

pub last_is_absurd : (steps : List LinStep) (x : LinStep) → 1 ≤ length steps → x ≡ get_or steps (length steps - 1) x → EndsAbsurd steps → IsAbsurd x
last_is_absurd [] x l e h = absurd (omega arith)
last_is_absurd (s ∷ []) x l e h = subst IsAbsurd (sym e) h
last_is_absurd (s ∷ t ∷ ts) x l e h = last_is_absurd (t ∷ ts) x (omega arith) (e ∙ last_of s t ts x) h

pub ends_with_last : (steps : List LinStep) (x : LinStep) → 1 ≤ length steps → x ≡ get_or steps (length steps - 1) x → IsAbsurd x → EndsAbsurd steps
ends_with_last [] x l e h = absurd (omega arith)
ends_with_last (s ∷ []) x l e h = subst IsAbsurd e h
ends_with_last (s ∷ t ∷ ts) x l e h = ends_with_last (t ∷ ts) x (omega arith) (e ∙ last_of s t ts x) h
