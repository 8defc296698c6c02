-- What the rows say of what the atoms are worth.
use Rattle.std.proofs.Common.{◌≡◌, ℕ, zero, suc, true, false, if◌then◌else◌, nat_lt, [], ◌∷◌, ◌++◌, ℤ, pos, negsuc, ◌≤ℤ◌, refl, ◌∙◌, ap, arith, ◌⊎◌, inl, inr}
use Rattle.std.proofs.lemmas.Int.{ints}
use Rattle.std.proofs.lemmas.Bool.Decides.{nat_tests}
use Rattle.std.proofs.Math.IntN.{◌+ℤ◌, ◌*ℤ◌, neg_ℤ, zero-*ℤ, *ℤ-zero}
use Rattle.jesc_linear.specs.Forms.{Form, value}
use Rattle.jesc_linear.specs.Rows.{Meets}
use Rattle.jesc_engine.specs.declared.ways.atom.Atom.{Atom}
use Rattle.jesc_engine.specs.declared.ways.atom.Atom.TheVariants.{Number, Term}
use Rattle.jesc_engine.specs.Rows.{worth, is_zero, one_part, pair_form, pair_constant, pair_row, tie_row, at_most, minus_at_most}
use Rattle.jesc_engine.proofs.Integers.{sum_times, one_times, minus_one_times}

-- a number is 0 or not
pub zero_or_not : (c : ℤ) → ((is_zero c ≡ true) × (c ≡ pos 0)) ⊎ (is_zero c ≡ false)
zero_or_not (pos zero) = inl (refl, refl)
zero_or_not (pos (suc n)) = inr (grind (arith, ints))
zero_or_not (negsuc n) = inr (grind (arith, ints))

-- a part at one term is worth its product, also where it is left out
pub one_part_value : (v : ℕ → ℤ) (c : ℤ) (k : ℕ) → value v (one_part c k) ≡ c *ℤ v k
one_part_value v c k = elim (zero_or_not c) [
  | inl z ↦ ap (λ t. value v (if t then [] else (c, k) ∷ [])) z.0 ∙ omega (arith, ints, ap (λ x. x *ℤ v k) z.1, zero-*ℤ (v k))
  | inr z ↦ ap (λ t. value v (if t then [] else (c, k) ∷ [])) z ∙ omega (arith, ints)
]

-- two terms in order, out of order, or equal
pub order_cases : (j k : ℕ) → (nat_lt j k ≡ true) ⊎ ((nat_lt j k ≡ false) × (nat_lt k j ≡ true)) ⊎ ((nat_lt j k ≡ false) × (nat_lt k j ≡ false) × (j ≡ k))
order_cases j k = grind (arith, nat_tests)

-- what a form of two terms is worth
terms_value : (v : ℕ → ℤ) (a : ℤ) (j : ℕ) (b : ℤ) (k : ℕ) → value v (pair_form a (Term j) b (Term k)) ≡ a *ℤ v j +ℤ b *ℤ v k
terms_value v a j b k = elim (order_cases j k) [
  | inl l ↦ ap (λ t. value v (if t then (a, j) ∷ (b, k) ∷ [] else (if nat_lt k j then (b, k) ∷ (a, j) ∷ [] else one_part (a +ℤ b) j))) l ∙ omega (arith, ints)
  | inr more ↦ elim more [
    | inl l ↦ ap (λ t. value v (if t then (a, j) ∷ (b, k) ∷ [] else (if nat_lt k j then (b, k) ∷ (a, j) ∷ [] else one_part (a +ℤ b) j))) l.0
        ∙ ap (λ t. value v (if t then (b, k) ∷ (a, j) ∷ [] else one_part (a +ℤ b) j)) l.1 ∙ omega (arith, ints)
    | inr l ↦ ap (λ t. value v (if t then (a, j) ∷ (b, k) ∷ [] else (if nat_lt k j then (b, k) ∷ (a, j) ∷ [] else one_part (a +ℤ b) j))) l.0
        ∙ ap (λ t. value v (if t then (b, k) ∷ (a, j) ∷ [] else one_part (a +ℤ b) j)) l.1
        ∙ one_part_value v (a +ℤ b) j ∙ sum_times a b (v j) ∙ ap (λ n. a *ℤ v j +ℤ b *ℤ v n) l.2
  ]
]

-- terms and numbers together are a * x + b * y
pub pair_value : (v : ℕ → ℤ) (a : ℤ) (x : Atom) (b : ℤ) (y : Atom) → value v (pair_form a x b y) +ℤ pair_constant a x b y ≡ a *ℤ worth v x +ℤ b *ℤ worth v y
pair_value v a (Number x) b (Number y) = omega (arith, ints)
pair_value v a (Term j) b (Number y) = omega (arith, ints, *ℤ-zero a)
pair_value v a (Number x) b (Term k) = omega (arith, ints, *ℤ-zero b)
pair_value v a (Term j) b (Term k) = omega (arith, ints, terms_value v a j b k, *ℤ-zero a, *ℤ-zero b)

-- what one part more adds to a form
value_more : (v : ℕ → ℤ) (form : Form) (c : ℤ) (k : ℕ) → value v (form ++ (c, k) ∷ []) ≡ value v form +ℤ c *ℤ v k
value_more v [] c k = omega (arith, ints)
value_more v (part ∷ rest) c k = omega (arith, ints, value_more v rest c k)

-- what the row of two atoms says
pub pair_to : (v : ℕ → ℤ) (a : ℤ) (x : Atom) (b : ℤ) (y : Atom) (bound : ℤ) → Meets v (pair_row a x b y bound) → (a *ℤ worth v x +ℤ b *ℤ worth v y) ≤ℤ bound
pair_to v a x b y bound m = omega (arith, ints, m, pair_value v a x b y)

-- where its sum is at most the bound, v meets it
pub pair_from : (v : ℕ → ℤ) (a : ℤ) (x : Atom) (b : ℤ) (y : Atom) (bound : ℤ) → (a *ℤ worth v x +ℤ b *ℤ worth v y) ≤ℤ bound → Meets v (pair_row a x b y bound)
pair_from v a x b y bound m = omega (arith, ints, m, pair_value v a x b y)

-- what the row of two atoms and a new term says
pub tie_to : (v : ℕ → ℤ) (a : ℤ) (x : Atom) (b : ℤ) (y : Atom) (c : ℤ) (fresh : ℕ) → Meets v (tie_row a x b y c fresh) → (a *ℤ worth v x +ℤ b *ℤ worth v y +ℤ c *ℤ v fresh) ≤ℤ pos 0
tie_to v a x b y c fresh m = omega (arith, ints, m, pair_value v a x b y, value_more v (pair_form a x b y) c fresh)

-- where its sum is at most 0, v meets it
pub tie_from : (v : ℕ → ℤ) (a : ℤ) (x : Atom) (b : ℤ) (y : Atom) (c : ℤ) (fresh : ℕ) → (a *ℤ worth v x +ℤ b *ℤ worth v y +ℤ c *ℤ v fresh) ≤ℤ pos 0 → Meets v (tie_row a x b y c fresh)
tie_from v a x b y c fresh m = omega (arith, ints, m, pair_value v a x b y, value_more v (pair_form a x b y) c fresh)

-- what an upper bound says
pub at_most_to : (v : ℕ → ℤ) (term : ℕ) (bound : ℤ) → Meets v (at_most term bound) → v term ≤ℤ bound
at_most_to v term bound m = omega (arith, ints, m, one_times (v term))

-- where the number is at most the bound, v meets it
pub at_most_from : (v : ℕ → ℤ) (term : ℕ) (bound : ℤ) → v term ≤ℤ bound → Meets v (at_most term bound)
at_most_from v term bound m = omega (arith, ints, m, one_times (v term))

-- what a lower bound says
pub minus_to : (v : ℕ → ℤ) (term : ℕ) (bound : ℤ) → Meets v (minus_at_most term bound) → neg_ℤ (v term) ≤ℤ bound
minus_to v term bound m = omega (arith, ints, m, minus_one_times (v term))

-- where minus the number is at most the bound, v meets it
pub minus_from : (v : ℕ → ℤ) (term : ℕ) (bound : ℤ) → neg_ℤ (v term) ≤ℤ bound → Meets v (minus_at_most term bound)
minus_from v term bound m = omega (arith, ints, m, minus_one_times (v term))
