-- Differences of sums and the numbers of their normal forms.
use Rattle.std.proofs.Common.{◌≡◌, ℕ, zero, suc, ◌+◌, ◌*◌, ◌<◌, ◌≤◌, ◌^◌, ℤ, pos, negsuc, [], ◌∷◌, Some, slice_get, Err, FitsSigned, to_z, of_z, refl, sym, ap, ◌∙◌, subst, arith, ◌⊎◌, inl, inr}
use Rattle.std.proofs.lemmas.Int.{ints, unsigned_abs-mul, to_z-of_z, fits_signed_from_abs}
use Rattle.std.proofs.lemmas.Bool.Decides.{nat_tests}
use Rattle.std.proofs.Math.IntN.{◌+ℤ◌, ◌-ℤ◌, ◌*ℤ◌, neg_ℤ, zero-*ℤ, suc_ℤ-*ℤ}
use Rattle.std.proofs.lemmas.List.Elements.{All-nil, All-cons, All-head, All-tail}
use Rattle.std.specs.Prelude.{unsigned_abs, int_le, ◌≤ℤ◌, ◌<ℤ◌, All}
use Rattle.jesc_linear.specs.Forms.{Form, value}
use Rattle.jesc_clauses.specs.declared.lin.Lin.{Lin}
use Rattle.jesc_clauses.specs.declared.atom.Atom.{Atom}
use Rattle.jesc_clauses.specs.declared.normal.Normal.{Normal}
use Rattle.jesc_clauses.specs.declared.normal.Normal.TheVariants.{Constant, Holds, Fails}
use Rattle.jesc_clauses.specs.Countermodels.{lin_value}
use Rattle.jesc_clauses.specs.Merges.{IsSized, IsTogether, IsWideTogether, only_at, multiples, OnWide}
use Rattle.jesc_clauses.specs.Normals.{IsShort, IsNormalOf, scaled, is_so}
use Rattle.jesc_clauses.specs.Sums.{capped}
use Rattle.jesc_clauses.specs.Comparisons.{IsComparison, IsShortNormal, IsWideAtom}
use Rattle.std.specs.Int.{int_div_euclid, w128}
use Rattle.jesc_clauses.specs.declared.error.ClauseError.{ClauseError}
use Rattle.jesc_clauses.specs.declared.error.ClauseError.TheVariants.{Wide, OutOfMemory}
use Rattle.jesc_clauses.proofs.Turned.{quotient_size}
use Rattle.jesc_clauses.proofs.Exact.{minus_one_times, normal_exact}
use Rattle.jesc_clauses.proofs.Merging.{only_itself}
use Rattle.jesc_clauses.proofs.Terms.{nat_or_not}
use Rattle.jesc_clauses.proofs.Reading.{one_value}
use Rattle.jesc_clauses.proofs.Wide.{capped_small}

not_it : (i j : ℕ) → (i ≡ j → ⊥) → only_at i j ≡ pos 0
not_it i j n = grind (arith, nat_tests)

only_once : (i j : ℕ) → (only_at i j ≡ pos 0) ⊎ ((only_at i j ≡ pos 1) × ((k : ℕ) → (k ≡ j → ⊥) → only_at i k ≡ pos 0))
only_once i j = elim (nat_or_not i j) [
  | inl e ↦ inr (subst (λ (k : ℕ). only_at i k ≡ pos 1) e (only_itself i), (λ k n. not_it i k (λ p. n (sym p ∙ e))))
  | inr n ↦ inl (not_it i j n)
]

coefficient_small : (i : ℕ) (f : Form) → IsSized (2 ^ 31) f → unsigned_abs (value (only_at i) f) ≤ 2 ^ 31
coefficient_small i f h = one_value 0 (only_at i) f h.sorted.rises h.within (only_once i)

minus_times : (x : ℤ) → negsuc 0 *ℤ x ≡ neg_ℤ x
minus_times x = minus_one_times x

one_times : (x : ℤ) → pos 1 *ℤ x ≡ x
one_times x = omega (arith, ints, suc_ℤ-*ℤ (pos 0) x, zero-*ℤ x)

difference_small : (x y : ℤ) → unsigned_abs x ≤ 2 ^ 31 → unsigned_abs y ≤ 2 ^ 31 → unsigned_abs (x -ℤ y) ≤ 2 ^ 32
difference_small x y p q = omega (arith, ints)

pub worth_difference : (v : ℕ → ℤ) (f g : Form) → multiples v (pos 1) f (negsuc 0) g ≡ value v f -ℤ value v g
worth_difference v f g = omega (arith, ints, one_times (value v f), minus_times (value v g))

-- a coefficient of a difference isn't that large
pub never_wide : (f g : Form) (n : ℤ) → IsSized (2 ^ 31) f → IsSized (2 ^ 31) g → IsWideTogether (2 ^ 33) (pos 1) f (negsuc 0) g n → ⊥
never_wide f g n p q h =
    let a = coefficient_small h.term f p in
    let b = coefficient_small h.term g q in
    let s = difference_small (value (only_at h.term) f) (value (only_at h.term) g) a b in
    let e : n ≡ value (only_at h.term) f -ℤ value (only_at h.term) g = h.is ∙ worth_difference (only_at h.term) f g in
    let k : unsigned_abs n ≤ 2 ^ 32 = subst (λ (z : ℤ). unsigned_abs z ≤ 2 ^ 32) (sym e) s in
    let w = h.passes in
    absurd (omega (arith, k, w))

pub short_form : (f : Form) → IsSized (2 ^ 33) f → All IsShort f
short_form f h = h.within

-- the same comparison
same_order : (a b c d : ℤ) → int_le (a -ℤ b) (d -ℤ c) ≡ int_le (a +ℤ c) (b +ℤ d)
same_order a b c d = grind (arith, ints)

pub compared : (v : ℕ → ℤ) (x y : Lin) (form : Form) → IsTogether (2 ^ 33) (pos 1) x.form (negsuc 0) y.form form → int_le (value v form) (y.constant -ℤ x.constant) ≡ int_le (lin_value v x) (lin_value v y)
compared v x y form h = ap (λ s. int_le s (y.constant -ℤ x.constant)) (h.worth v ∙ worth_difference v x.form y.form) ∙ same_order (value v x.form) (value v y.form) x.constant y.constant

pub wide_part : (atom : Atom) (k term : ℕ) (c : ℤ) → slice_get atom.form k ≡ Some (c, term) → 2 ^ 31 < unsigned_abs c → unsigned_abs c ≤ 2 ^ 126 → IsWideAtom atom c
wide_part atom k term c e p s = record { wide = c; is = capped_small c s; how = inl ((k, term, e), p) }

-- ---- coefficients of normal forms

no_more : (d n : ℕ) → 0 < d → n ≤ d * n
no_more d n p = grind arith

pub size_times : (d c : ℤ) → pos 0 <ℤ d → unsigned_abs c ≤ unsigned_abs (d *ℤ c)
size_times d c p =
    let k = no_more (unsigned_abs d) (unsigned_abs c) (positive_size d p) in
    subst (λ (n : ℕ). unsigned_abs c ≤ n) (sym (unsigned_abs-mul d c)) k
  where
    positive_size : (e : ℤ) → pos 0 <ℤ e → 0 < unsigned_abs e
    positive_size (pos e) q = omega (arith, ints)
    positive_size (negsuc e) q = omega arith

short_scaled : (d : ℤ) (f : Form) → pos 0 <ℤ d → All IsShort (scaled d f) → All IsShort f
short_scaled d [] p all = All-nil IsShort
short_scaled d (part ∷ f) p all =
    let h = All-head IsShort (d *ℤ part.0, part.1) (scaled d f) all in
    let k = size_times d part.0 p in
    All-cons IsShort part f (omega (arith, h, k)) (short_scaled d f p (All-tail IsShort (d *ℤ part.0, part.1) (scaled d f) all))

turned_size : (c : ℤ) → unsigned_abs (negsuc 0 *ℤ c) ≡ unsigned_abs c
turned_size c = unsigned_abs-mul (negsuc 0) c ∙ omega arith

short_turned : (f : Form) → All IsShort f → All IsShort (scaled (neg_ℤ (pos 1)) f)
short_turned [] all = All-nil IsShort
short_turned (part ∷ f) all =
    All-cons IsShort (neg_ℤ (pos 1) *ℤ part.0, part.1) (scaled (neg_ℤ (pos 1)) f)
    (let h = All-head IsShort part f all in let e = turned_size part.0 in omega (arith, h, e)) (short_turned f (All-tail IsShort part f all))

one_less_small : (q : ℤ) (n : ℕ) → unsigned_abs q ≤ n → unsigned_abs (neg_ℤ q -ℤ pos 1) ≤ n + 1
one_less_small (pos zero) n h = omega arith
one_less_small (pos (suc k)) n h = omega (arith, ints)
one_less_small (negsuc k) n h =
    let e : pos (suc k) -ℤ pos 1 ≡ pos k = omega (arith, ints) in
    subst (λ (y : ℤ). unsigned_abs y ≤ n + 1) (sym e) (let p : k ≤ n + 1 = omega (arith, h) in p)

from_one : (d : ℤ) → pos 0 <ℤ d → pos 1 ≤ℤ d
from_one d p = omega (arith, ints)

pub short_normal : (form : Form) (bound : ℤ) (n : Normal) → All IsShort form → unsigned_abs bound ≤ 2 ^ 95 → IsNormalOf form bound n → IsShortNormal n
short_normal form bound (Constant truth) all small h = tt
short_normal form bound (Holds atom) all small h = record {
  coefficients = short_scaled h.0 atom.form h.1.0.positive (subst (λ (f : Form). All IsShort f) (sym h.1.0.times) all);
  small = subst (λ (b : ℤ). unsigned_abs b ≤ 2 ^ 97) (sym h.1.1) (let k = quotient_size bound h.0 (from_one h.0 h.1.0.positive) in omega (arith, k, small));
}
short_normal form bound (Fails atom) all small h = record {
  coefficients = short_scaled h.0 atom.form h.1.0.positive (subst (λ (f : Form). All IsShort f) (sym h.1.0.times) (short_turned form all));
  small = subst (λ (b : ℤ). unsigned_abs b ≤ 2 ^ 97) (sym h.1.1)
      (let k = quotient_size bound h.0 (from_one h.0 h.1.0.positive) in
      let q : unsigned_abs (int_div_euclid bound h.0) ≤ 2 ^ 95 = omega (arith, k, small) in
      let r = one_less_small (int_div_euclid bound h.0) (2 ^ 95) q in omega (arith, r));
}

pub wide_bound : (atom : Atom) (e : ClauseError) → OnWide {T = ℤ} (λ m. (m ≡ capped atom.bound) × (2 ^ 94 < unsigned_abs atom.bound)) (Err e) → OnWide {T = Unit {0}} (IsWideAtom atom) (Err e)
wide_bound atom (Wide n) h = record { wide = atom.bound; is = h.0; how = inr (refl, h.1) }
wide_bound atom OutOfMemory h = tt

pub constants_small : (x y : ℤ) → unsigned_abs x ≤ 2 ^ 94 → unsigned_abs y ≤ 2 ^ 94 → unsigned_abs (x -ℤ y) ≤ 2 ^ 95
constants_small x y p q = omega (arith, ints)

-- ---- the whole comparison, as the code computes it

one_fits : (x : ℤ) → unsigned_abs x ≤ 2 ^ 94 → to_z w128 (of_z w128 x) ≡ x
one_fits x p = to_z-of_z w128 x (fits_signed_from_abs w128 x (omega (arith, p)))

less_fits : (x y : ℤ) → unsigned_abs x ≤ 2 ^ 94 → unsigned_abs y ≤ 2 ^ 94 → FitsSigned w128 (x -ℤ y)
less_fits x y p q = omega (arith, ints)

abbrev pub computed : ℤ → ℤ → ℤ
computed x y = to_z w128 (of_z w128 (to_z w128 (of_z w128 x) -ℤ to_z w128 (of_z w128 y)))

bound_is : (x y : ℤ) → unsigned_abs x ≤ 2 ^ 94 → unsigned_abs y ≤ 2 ^ 94 → computed x y ≡ x -ℤ y
bound_is x y p q = ap (λ z. to_z w128 (of_z w128 z)) (λ i. one_fits x p i -ℤ one_fits y q i) ∙ to_z-of_z w128 (x -ℤ y) (less_fits x y p q)

module _ (x y : Lin) (sx : unsigned_abs x.constant ≤ 2 ^ 94) (sy : unsigned_abs y.constant ≤ 2 ^ 94) (xs ys fs form : Form) (ex : xs ≡ x.form) (ey : ys ≡ y.form) (ef : fs ≡ form)
    (h : IsTogether (2 ^ 33) (pos 1) xs (negsuc 0) ys form) (n : Normal) (d : IsNormalOf fs (computed y.constant x.constant) n) where
  differs : IsTogether (2 ^ 33) (pos 1) x.form (negsuc 0) y.form form
  differs = subst (λ (f : Form). IsTogether (2 ^ 33) (pos 1) f (negsuc 0) y.form form) ex (subst (λ (f : Form). IsTogether (2 ^ 33) (pos 1) xs (negsuc 0) f form) ey h)

  of_form : IsNormalOf form (y.constant -ℤ x.constant) n
  of_form = subst (λ (b : ℤ). IsNormalOf form b n) (bound_is y.constant x.constant sy sx) (subst (λ (f : Form). IsNormalOf f (computed y.constant x.constant) n) ef d)

  pub comparison_of : IsComparison x y n
  comparison_of = record { form = form; together = differs; normal_of = of_form }

  pub exact_of : (v : ℕ → ℤ) → is_so v n ≡ int_le (lin_value v x) (lin_value v y)
  exact_of v = normal_exact v form (y.constant -ℤ x.constant) n of_form ∙ compared v x y form differs

  pub short_of : IsShortNormal n
  short_of = short_normal form (y.constant -ℤ x.constant) n (short_form form differs.sized) (constants_small y.constant x.constant sy sx) of_form
