-- Agreement at each term of the three forms is agreement at every term.
use Rattle.std.proofs.Common.{◌≡◌, ℕ, zero, suc, [], ◌∷◌, pos, refl, ap, subst, arith, ◌⊎◌, inl, inr}
use Rattle.std.proofs.lemmas.Int.{ints}
use Rattle.std.proofs.lemmas.Bool.Decides.{nat_tests}
use Rattle.std.proofs.Math.IntN.{◌*ℤ◌, *ℤ-zero}
use Rattle.jesc_linear.specs.declared.rows.Row.{Row}
use Rattle.jesc_linear.specs.declared.rows.LinStep.{LinStep}
use Rattle.jesc_linear.specs.Forms.{Form, coefficient_of}
use Rattle.jesc_linear.specs.Steps.{Combines}
use Rattle.jesc_linear.specs.Inner.{AgreesAt, AgreesOn}

equal_or_not : (m n : ℕ) → (m ≡ n) ⊎ (m ≡ n → ⊥)
equal_or_not zero zero = inl refl
equal_or_not zero (suc n) = inr (λ e. omega arith)
equal_or_not (suc m) zero = inr (λ e. omega arith)
equal_or_not (suc m) (suc n) = elim (equal_or_not m n) [ inl e ↦ inl (ap suc e) | inr d ↦ inr (λ e. d (omega arith)) ]

-- where a test holds at each term of a form, it holds at this term or the form lacks it
agrees_or_absent : (f g : Row) (s : LinStep) (form : Form) (t : ℕ) → AgreesOn f g s form → AgreesAt f g s t ⊎ (coefficient_of form t ≡ pos 0)
agrees_or_absent f g s [] t h = inr refl
agrees_or_absent f g s (p ∷ ps) t h = elim (equal_or_not p.1 t) [
  | inl e ↦ inl (subst (AgreesAt f g s) e h.0)
  | inr n ↦ elim (agrees_or_absent f g s ps t h.1) [
    | inl a ↦ inl a
    | inr z ↦ inr (grind (arith, nat_tests))
  ]
]

pub agrees_everywhere : (f g : Row) (s : LinStep) (form : Form) → Combines s.a f.form s.b g.form s.d s.row.form → AgreesOn f g s form
agrees_everywhere f g s [] c = tt
agrees_everywhere f g s (p ∷ ps) c = (c p.1, agrees_everywhere f g s ps c)

pub combined : (f g : Row) (s : LinStep) → AgreesOn f g s f.form → AgreesOn f g s g.form → AgreesOn f g s s.row.form
    → Combines s.a f.form s.b g.form s.d s.row.form
combined f g s hf hg hh t = elim (agrees_or_absent f g s f.form t hf) [
  | inl a ↦ a
  | inr zf ↦ elim (agrees_or_absent f g s g.form t hg) [
    | inl a ↦ a
    | inr zg ↦ elim (agrees_or_absent f g s s.row.form t hh) [
      | inl a ↦ a
      | inr zh ↦ omega (arith, ints, ap (λ x. s.d *ℤ x) zh, ap (λ x. s.a *ℤ x) zf, ap (λ x. s.b *ℤ x) zg, *ℤ-zero s.d, *ℤ-zero s.a, *ℤ-zero s.b)
    ]
  ]
]
