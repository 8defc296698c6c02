-- What meets two rows meets each row derived from them, so steps that end absurdly leave no solution.
use Rattle.std.proofs.Common.{◌≡◌, ℕ, ◌+◌, ◌*◌, ◌/◌, ◌≤◌, ◌<◌, List, [], ◌∷◌, ◌++◌, ℤ, pos, negsuc, sym, ap, subst, arith, Option, Some, None, inl, inr}
use Rattle.std.proofs.lemmas.Int.{ints}
use Rattle.std.proofs.Math.IntN.{◌+ℤ◌, ◌*ℤ◌, pos-*ℤ-pos, pos-*ℤ-negsuc}
use Rattle.std.proofs.lemmas.List.Elements.{All-push}
use Rattle.std.proofs.lemmas.Option.{slice_get_cases}
use Rattle.std.specs.Prelude.{◌≤ℤ◌, ◌<ℤ◌, All, slice_get, IfSome}
use Rattle.std.specs.Int.{int_div_euclid}
use Rattle.jesc_linear.specs.declared.rows.Row.{Row}
use Rattle.jesc_linear.specs.declared.rows.LinStep.{LinStep}
use Rattle.jesc_linear.specs.Forms.{Form, value}
use Rattle.jesc_linear.specs.Rows.{Meets, HaveNoSolution}
use Rattle.jesc_linear.specs.Steps.{Derives, DerivesFrom, AreSteps, EndsAbsurd, Refutes}
use Rattle.jesc_linear.proofs.Whole.{keeps_order}
use Rattle.jesc_linear.proofs.Combined.{value_of_combined}

natural_greatest : (d n a : ℕ) → 0 < d → d * n ≤ a → n ≤ a / d
natural_greatest d n a p h = grind arith

natural_least : (d m a : ℕ) → 0 < d → a < d * (m + 1) → a / d ≤ m
natural_least d m a p h = grind arith

natural_multiple : (d a : ℕ) → 0 < d → d * (a / d) ≤ a
natural_multiple d a p = grind arith

natural_next : (d a : ℕ) → 0 < d → a < d * (a / d + 1)
natural_next d a p = grind arith

-- the quotient rounded down is the greatest number whose multiple is no more
pub quotient_is_greatest : (d x s : ℤ) → pos 1 ≤ℤ d → (d *ℤ x) ≤ℤ s → x ≤ℤ int_div_euclid s d
quotient_is_greatest (pos d) (pos n) (pos a) p h =
    let q = natural_greatest d n a (omega (arith, ints)) (omega (arith, ints, pos-*ℤ-pos d n)) in omega (arith, ints)
quotient_is_greatest (pos d) (negsuc n) (pos a) p h = omega (arith, ints)
quotient_is_greatest (pos d) (pos n) (negsuc a) p h = absurd (omega (arith, ints, pos-*ℤ-pos d n))
quotient_is_greatest (pos d) (negsuc m) (negsuc a) p h =
    let q = natural_least d m a (omega (arith, ints)) (omega (arith, ints, pos-*ℤ-negsuc d m)) in omega (arith, ints)
quotient_is_greatest (negsuc d) x s p h = absurd (omega (arith, ints))

-- and its multiple is no more than the number
pub quotient_multiple : (d s : ℤ) → pos 1 ≤ℤ d → (d *ℤ int_div_euclid s d) ≤ℤ s
quotient_multiple (pos d) (pos a) p =
    let q : d * (a / d) ≤ a = natural_multiple d a (omega (arith, ints)) in omega (arith, ints, pos-*ℤ-pos d (a / d))
quotient_multiple (pos d) (negsuc a) p =
    let q : a < d * (a / d + 1) = natural_next d a (omega (arith, ints)) in omega (arith, ints, pos-*ℤ-negsuc d (a / d))
quotient_multiple (negsuc d) s p = absurd (omega (arith, ints))

derived_is_met : (v : ℕ → ℤ) (f g : Row) (s : LinStep) → Meets v f → Meets v g → Derives f g s → Meets v s.row
derived_is_met v f g s mf mg w =
    let equal = value_of_combined v s.a f.form s.b g.form s.d s.row.form w.first_row.form.rises w.second_row.form.rises w.made_row.form.rises w.form in
    let left = keeps_order s.a (value v f.form) f.bound (omega (arith, ints, w.range.a_low)) mf in
    let right = keeps_order s.b (value v g.form) g.bound w.range.b_low mg in
    let below : (s.d *ℤ value v s.row.form) ≤ℤ (s.a *ℤ f.bound +ℤ s.b *ℤ g.bound) = omega (arith, ints, equal, left, right) in
    subst (λ b. value v s.row.form ≤ℤ b) (sym w.bound) (quotient_is_greatest s.d (value v s.row.form) (s.a *ℤ f.bound +ℤ s.b *ℤ g.bound) w.range.d_low below)

found_is_met : (v : ℕ → ℤ) (table : List Row) (i : ℕ) → All (Meets v) table → IfSome (slice_get table i) (Meets v)
found_is_met v table i met = elim (slice_get_cases table i).1 [
  | inl w ↦ let here : Meets v w.0 = subst (Meets v) w.3 (met i w.0 w.1) in subst (λ o. IfSome o (Meets v)) (sym w.2) here
  | inr w ↦ subst (λ o. IfSome o (Meets v)) (sym w.1) tt
]

step_is_met : (v : ℕ → ℤ) (f g : Option Row) (s : LinStep) → IfSome f (Meets v) → IfSome g (Meets v) → DerivesFrom f g s → Meets v s.row
step_is_met v (Some f) (Some g) s mf mg w = derived_is_met v f g s mf mg w
step_is_met v (Some f) None s mf mg w = elim w [ ]
step_is_met v None g s mf mg w = elim w [ ]

absurd_is_met : (v : ℕ → ℤ) (form : Form) (bound : ℤ) → form ≡ [] → bound <ℤ pos 0 → value v form ≤ℤ bound → ⊥
absurd_is_met v form bound e n m = omega (arith, ints, ap (value v) e)

refuted_from : (v : ℕ → ℤ) (table : List Row) (steps : List LinStep) → All (Meets v) table → AreSteps table steps → EndsAbsurd steps → ⊥
refuted_from v table [] met are ends = ends
refuted_from v table (s ∷ []) met are ends =
    let here = step_is_met v (slice_get table s.i) (slice_get table s.j) s (found_is_met v table s.i met) (found_is_met v table s.j met) are.0 in
    absurd_is_met v s.row.form s.row.bound ends.0 ends.1 here
refuted_from v table (s ∷ t ∷ ts) met are ends =
    let here = step_is_met v (slice_get table s.i) (slice_get table s.j) s (found_is_met v table s.i met) (found_is_met v table s.j met) are.0 in
    refuted_from v (table ++ s.row ∷ []) (t ∷ ts) (All-push (Meets v) table s.row met here) are.1 ends

-- steps that refute the rows leave them no solution
pub no_solution : (rows : List Row) (steps : List LinStep) → Refutes steps rows → HaveNoSolution rows
no_solution rows steps r v met = refuted_from v rows steps met r.0 r.1
