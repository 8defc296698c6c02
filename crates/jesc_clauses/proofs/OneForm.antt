-- A form is given by what each of its terms counts, and so a term has one sum.
use Rattle.std.proofs.Common.{◌≡◌, true, ℕ, zero, suc, ◌+◌, ◌<◌, List, [], ◌∷◌, length, ℤ, pos, Some, slice_get, refl, sym, ap, ◌∙◌, subst, arith, ◌⊎◌, inl, inr}
use Rattle.std.proofs.lemmas.Int.{ints}
use Rattle.std.proofs.lemmas.Option.{slice_get_cases}
use Rattle.std.proofs.lemmas.List.Elements.{All-head, All-tail}
use Rattle.std.proofs.Math.IntN.{◌+ℤ◌, ◌*ℤ◌, *ℤ_comm, zero-*ℤ, suc_ℤ-*ℤ}
use Rattle.std.specs.Prelude.{All}
use Rattle.jesc_linear.specs.Forms.{Form, RisesFrom, IsNonzero, IsForm, value}
use Rattle.jesc_logic.specs.Terms.{Term}
use Rattle.jesc_clauses.specs.declared.lin.Lin.{Lin}
use Rattle.jesc_clauses.specs.Merges.{only_at}
use Rattle.jesc_clauses.specs.Readings.{reading, is_opaque}
use Rattle.jesc_clauses.specs.Sums.{IsReadAs, valued}
use Rattle.jesc_clauses.proofs.Merging.{only_above, only_itself, only_under}
use Rattle.jesc_clauses.proofs.Reading.{AreDistinct, constant_is, is_only, one_is, only_of, same_value}

order : (a b : ℕ) → (a < b) ⊎ ((a ≡ b) ⊎ (b < a))
order zero zero = inr (inl refl)
order zero (suc b) = inl (omega arith)
order (suc a) zero = inr (inr (omega arith))
order (suc a) (suc b) = elim (order a b) [
  | inl p ↦ inl (omega (arith, p))
  | inr q ↦ elim q [ inl e ↦ inr (inl (ap suc e)) | inr p ↦ inr (inr (omega (arith, p))) ]
]

pub times_one : (x : ℤ) → x *ℤ pos 1 ≡ x
times_one x = omega (arith, ints, *ℤ_comm x (pos 1), suc_ℤ-*ℤ (pos 0) x, zero-*ℤ x)

-- ---- first parts

first_counts : (low : ℕ) (part : ℤ × ℕ) (f : Form) → RisesFrom low (part ∷ f) → value (only_at part.1) (part ∷ f) ≡ part.0
first_counts low part f r =
    omega (arith, ints, only_above part.1 (part.1 + 1) f (omega arith) r.1, ap (λ x. part.0 *ℤ x) (only_itself part.1), times_one part.0)

-- a form without the first term of another counts it otherwise
not_above : (low n : ℕ) (part : ℤ × ℕ) (f g : Form) → RisesFrom low (part ∷ f) → IsNonzero part → RisesFrom n g → part.1 < n → value (only_at part.1) (part ∷ f) ≡ value (only_at part.1) g → ⊥
not_above low n part f g r z s l e = z (sym (first_counts low part f r) ∙ (e ∙ only_above part.1 n g l s))

-- ---- whole forms

one_form : (low : ℕ) (f g : Form) → RisesFrom low f → RisesFrom low g → All IsNonzero f → All IsNonzero g → ((i : ℕ) → value (only_at i) f ≡ value (only_at i) g) → f ≡ g
one_form low [] [] r s y z same = refl
one_form low [] (q ∷ g) r s y z same = absurd (not_above low (q.1 + 1) q g [] s (All-head IsNonzero q g z) tt (omega arith) (sym (same q.1)))
one_form low (p ∷ f) [] r s y z same = absurd (not_above low (p.1 + 1) p f [] r (All-head IsNonzero p f y) tt (omega arith) (same p.1))
one_form low (p ∷ f) (q ∷ g) r s y z same = elim (order p.1 q.1) [
  | inl l ↦ absurd (not_above low q.1 p f (q ∷ g) r (All-head IsNonzero p f y) (omega arith, s.1) l (same p.1))
  | inr o ↦ elim o [
    | inr l ↦ absurd (not_above low p.1 q g (p ∷ f) s (All-head IsNonzero q g z) (omega arith, r.1) l (sym (same q.1)))
    | inl e ↦
        let c : p.0 ≡ q.0 = sym (first_counts low p f r) ∙ (same p.1 ∙ (ap (λ i. value (only_at i) (q ∷ g)) e ∙ first_counts low q g s)) in
        let rest = one_form (p.1 + 1) f g r.1 (subst (λ (n : ℕ). RisesFrom (n + 1) g) (sym e) s.1) (All-tail IsNonzero p f y) (All-tail IsNonzero q g z)
        (λ i. let part : p.0 *ℤ only_at i p.1 ≡ q.0 *ℤ only_at i q.1 = (λ k. c k *ℤ only_at i (e k)) in omega (arith, ints, same i, part)) in
        λ k. (c k, e k) ∷ rest k
  ]
]

pub same_counts : (f g : Form) → IsForm f → IsForm g → ((i : ℕ) → value (only_at i) f ≡ value (only_at i) g) → f ≡ g
same_counts f g h k same = one_form 0 f g h.rises k.rises h.nonzero k.nonzero same

-- ---- the sum of a term

module _ (names : List Term) (distinct : AreDistinct names) (opaque : (i : ℕ) (x : Term) → slice_get names i ≡ Some x → is_opaque x ≡ true) (t : Term) where
  at_only : (lin : Lin) → IsReadAs names t lin → (i : ℕ) (x : Term) → slice_get names i ≡ Some x → value (only_at i) lin.form +ℤ lin.constant ≡ reading (only_of x) t
  at_only lin h i x e =
      ap (λ z. z +ℤ lin.constant) (same_value (length names) (only_at i) (valued (only_of x) names) lin.form h.there (λ j p. sym (one_is names distinct x (opaque i x e) (only_of x) (is_only x) i j e)))
      ∙ h.worth (only_of x)

  -- the term has one sum
  pub one_sum : (x y : Lin) → IsReadAs names t x → IsReadAs names t y → x ≡ y
  one_sum x y h k = λ i. record { form = form i; constant = constant i }
    where
      constant : x.constant ≡ y.constant
      constant = sym (constant_is names t x h) ∙ constant_is names t y k

      each : (i : ℕ) → value (only_at i) x.form ≡ value (only_at i) y.form
      each i = elim (slice_get_cases names i).1 [
        | inl u ↦ omega (arith, ints, at_only x h i u.0 u.2, at_only y k i u.0 u.2, constant)
        | inr p ↦ only_under i (length names) x.form p.0 h.there ∙ sym (only_under i (length names) y.form p.0 k.there)
      ]

      form : x.form ≡ y.form
      form = same_counts x.form y.form h.bounded.sized.sorted k.bounded.sized.sorted each
