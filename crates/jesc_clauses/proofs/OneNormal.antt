-- A comparison has one normal form.
use Rattle.std.proofs.Common.{◌≡◌, ℕ, zero, suc, ◌*◌, ◌/◌, ◌%◌, ◌<◌, ◌≤◌, ◌^◌, [], ◌∷◌, ℤ, pos, negsuc, refl, sym, ap, ◌∙◌, subst, arith, inl, inr}
use Rattle.std.proofs.lemmas.Int.{ints, unsigned_abs-mul}
use Rattle.std.proofs.lemmas.Option.{get_or_from_slice_get}
use Rattle.std.proofs.lemmas.Nat.Gcd.{IsGcd-from_zero, IsGcd-from_mod, dvd-zero}
use Rattle.std.proofs.Math.Nat.{dvd-mul_right, dvd_of_mul-dvd-mul_left, mod-lt, mul-div_cancel'}
use Rattle.std.proofs.Math.IntN.{◌+ℤ◌, ◌-ℤ◌, ◌*ℤ◌, neg_ℤ}
use Rattle.std.specs.Prelude.{◌<ℤ◌, unsigned_abs}
use Rattle.std.specs.Int.{◌∣◌, IsGcd, int_div_euclid}
use Rattle.jesc_linear.specs.Forms.{Form}
use Rattle.jesc_linear.proofs.Whole.{keeps_order, sum_under_times}
use Rattle.jesc_logic.proofs.Lists.{within}
use Rattle.jesc_clauses.specs.declared.atom.Atom.{Atom}
use Rattle.jesc_clauses.specs.declared.lin.Lin.{Lin}
use Rattle.jesc_clauses.specs.declared.normal.Normal.{Normal}
use Rattle.jesc_clauses.specs.declared.normal.Normal.TheVariants.{Constant, Holds, Fails}
use Rattle.jesc_clauses.specs.Comparisons.{IsComparison, IsNarrowAtom, IsNarrowNormal, IsWideAtom, IsWideComparison, IsWideNormal}
use Rattle.jesc_clauses.specs.Merges.{IsTogether, IsWithin, only_at}
use Rattle.jesc_clauses.specs.Normals.{Divides, IsFirstPositive, IsNormalOf, IsOver, scaled}
use Rattle.jesc_clauses.proofs.Comparing.{size_times}
use Rattle.jesc_clauses.proofs.Divisors.{Divisor, divides_less}
use Rattle.jesc_clauses.proofs.Exact.{minus_one_times}
use Rattle.jesc_clauses.proofs.Normalized.{positive_abs}
use Rattle.jesc_clauses.proofs.OneForm.{same_counts, times_one}

-- ---- the greatest divisor of a form

gcd_there : (n a b : ℕ) → b ≤ n → (g : ℕ) × IsGcd a b g
gcd_there n a zero p = (a, IsGcd-from_zero a zero refl)
gcd_there zero a (suc b) p = absurd (omega (arith, p))
gcd_there (suc n) a (suc b) p =
    let l : a % suc b < suc b = mod-lt a (omega arith) in
    let r = gcd_there n (suc b) (a % suc b) (omega (arith, l, p)) in
    (r.0, IsGcd-from_mod a (suc b) r.0 r.1)

divisor_there : (f : Form) → (d : ℕ) × Divisor f d
divisor_there [] = (0, record { divides = tt; greatest = λ e h. dvd-zero e })
divisor_there (part ∷ f) =
    let r = divisor_there f in
    let g = gcd_there (unsigned_abs part.0) r.0 (unsigned_abs part.0) (omega arith) in
    (g.0, record { divides = (g.1.1, divides_less g.0 r.0 f g.1.0 r.1.divides); greatest = λ e h. g.1.2 e (r.1.greatest e h.1) h.0 })

factor_divides : (d : ℤ) (f : Form) → Divides (unsigned_abs d) (scaled d f)
factor_divides d [] = tt
factor_divides d (part ∷ f) = (subst (λ (n : ℕ). unsigned_abs d ∣ n) (sym (unsigned_abs-mul d part.0)) (dvd-mul_right (unsigned_abs d) (unsigned_abs part.0)), factor_divides d f)

divides_under : (d : ℤ) (k : ℕ) (f : Form) → 0 < unsigned_abs d → Divides (unsigned_abs d * k) (scaled d f) → Divides k f
divides_under d k [] p h = tt
divides_under d k (part ∷ f) p h =
    (dvd_of_mul-dvd-mul_left {k = unsigned_abs d} k p (subst (λ (n : ℕ). (unsigned_abs d * k) ∣ n) (unsigned_abs-mul d part.0) h.0), divides_under d k f p h.1)

-- a multiple of a normal form has the factor as its greatest divisor
factor_greatest : (d : ℤ) (f : Form) (g : ℕ) → 0 < unsigned_abs d → Divisor (scaled d f) g → ((k : ℕ) → Divides k f → k ≡ 1) → unsigned_abs d ≡ g
factor_greatest d f g p h none =
    let whole : unsigned_abs d * (g / unsigned_abs d) ≡ g = mul-div_cancel' (unsigned_abs d) (h.greatest (unsigned_abs d) (factor_divides d f)) in
    let one : g / unsigned_abs d ≡ 1 = none (g / unsigned_abs d) (divides_under d (g / unsigned_abs d) f p (subst (λ (n : ℕ). Divides n (scaled d f)) (sym whole) h.divides)) in
    let same : unsigned_abs d ≡ unsigned_abs d * 1 = omega arith in
    same ∙ (ap (λ n. unsigned_abs d * n) (sym one) ∙ whole)

same_positive : (d e : ℤ) → pos 0 <ℤ d → pos 0 <ℤ e → unsigned_abs d ≡ unsigned_abs e → d ≡ e
same_positive (pos d) (pos e) p q h = ap pos h
same_positive (pos d) (negsuc e) p q h = absurd (omega (arith, ints))
same_positive (negsuc d) e p q h = absurd (omega (arith, ints))

-- ---- a form under a factor

times_none : (d z : ℤ) → pos 0 <ℤ d → d *ℤ z ≡ pos 0 → z ≡ pos 0
times_none d z p e =
    let k : unsigned_abs z ≤ 0 = subst (λ (x : ℤ). unsigned_abs z ≤ unsigned_abs x) e (size_times d z p) in
    omega (arith, ints, k)

same_factor : (d x y : ℤ) → pos 0 <ℤ d → d *ℤ x ≡ d *ℤ y → x ≡ y
same_factor d x y p e =
    let whole : x -ℤ y +ℤ y ≡ x = omega (arith, ints) in
    let z : x -ℤ y ≡ pos 0 = times_none d (x -ℤ y) p (omega (arith, ints, sum_under_times d (x -ℤ y) y, ap (λ k. d *ℤ k) whole, e)) in
    omega (arith, ints, z)

abbrev first_of : Form → ℤ × ℕ
first_of [] = (pos 0, 0)
first_of (part ∷ f) = part

same_under : (d : ℤ) (f g : Form) → pos 0 <ℤ d → scaled d f ≡ scaled d g → f ≡ g
same_under d [] [] p e = refl
same_under d [] (y ∷ g) p e = cc
same_under d (x ∷ f) [] p e = cc
same_under d (x ∷ f) (y ∷ g) p e =
    let same : d *ℤ x.0 ≡ d *ℤ y.0 = ap (λ (h : Form). (first_of h).0) e in
    let term : x.1 ≡ y.1 = ap (λ (h : Form). (first_of h).1) e in
    let tail : scaled d f ≡ scaled d g = cc in
    let c = same_factor d x.0 y.0 p same in
    let rest = same_under d f g p tail in
    λ i. (c i, term i) ∷ rest i

same_over : (form : Form) (d e : ℤ) (a b : Atom) → IsOver d form a → IsOver e form b → (d ≡ e) × (a.form ≡ b.form)
same_over form d e a b h k =
    let g = divisor_there form in
    let x = factor_greatest d a.form g.0 (positive_abs d h.positive) (subst (λ (f : Form). Divisor f g.0) (sym h.times) g.1) h.normal.divisor in
    let y = factor_greatest e b.form g.0 (positive_abs e k.positive) (subst (λ (f : Form). Divisor f g.0) (sym k.times) g.1) k.normal.divisor in
    let s = same_positive d e h.positive k.positive (x ∙ sym y) in
    (s, same_under d a.form b.form h.positive (h.times ∙ (sym k.times ∙ ap (λ (z : ℤ). scaled z b.form) (sym s))))

-- ---- which of the three

none_first : (d : ℤ) (f : Form) → scaled d f ≡ [] → IsFirstPositive f → ⊥
none_first d [] e p = p
none_first d (x ∷ f) e p = cc

positive_times : (d c : ℤ) → pos 0 <ℤ d → pos 0 <ℤ c → pos 0 <ℤ (d *ℤ c)
positive_times d c p q = omega (arith, ints, keeps_order d (pos 1) c (omega (arith, ints)) (omega (arith, ints)), times_one d)

first_times : (d : ℤ) (f : Form) → pos 0 <ℤ d → IsFirstPositive f → IsFirstPositive (scaled d f)
first_times d [] p h = h
first_times d (x ∷ f) p h = positive_times d x.0 p h

over_first : (form : Form) (d : ℤ) (a : Atom) → IsOver d form a → IsFirstPositive form
over_first form d a h = subst IsFirstPositive h.times (first_times d a.form h.positive h.normal.first)

not_turned : (f : Form) → IsFirstPositive f → IsFirstPositive (scaled (neg_ℤ (pos 1)) f) → ⊥
not_turned [] p q = p
not_turned (x ∷ f) p q = absurd (omega (arith, ints, p, q, minus_one_times x.0))

not_empty : (form : Form) → form ≡ [] → IsFirstPositive form → ⊥
not_empty form e h = subst IsFirstPositive e h

turned_empty : (form : Form) → form ≡ [] → IsFirstPositive (scaled (neg_ℤ (pos 1)) form) → ⊥
turned_empty form e h = subst (λ (f : Form). IsFirstPositive (scaled (neg_ℤ (pos 1)) f)) e h

same_atom : (a b : Atom) → a.form ≡ b.form → a.bound ≡ b.bound → a ≡ b
same_atom a b e k = λ i. record { form = e i; bound = k i }

same_normal : (form : Form) (bound : ℤ) (n m : Normal) → IsNormalOf form bound n → IsNormalOf form bound m → n ≡ m
same_normal form bound (Constant t) (Constant u) h k = ap Constant (h.1 ∙ sym k.1)
same_normal form bound (Constant t) (Holds b) h k = absurd (not_empty form h.0 (over_first form k.0 b k.1.0))
same_normal form bound (Constant t) (Fails b) h k = absurd (turned_empty form h.0 (over_first (scaled (neg_ℤ (pos 1)) form) k.0 b k.1.0))
same_normal form bound (Holds a) (Constant u) h k = absurd (not_empty form k.0 (over_first form h.0 a h.1.0))
same_normal form bound (Fails a) (Constant u) h k = absurd (turned_empty form k.0 (over_first (scaled (neg_ℤ (pos 1)) form) h.0 a h.1.0))
same_normal form bound (Holds a) (Fails b) h k = absurd (not_turned form (over_first form h.0 a h.1.0) (over_first (scaled (neg_ℤ (pos 1)) form) k.0 b k.1.0))
same_normal form bound (Fails a) (Holds b) h k = absurd (not_turned form (over_first form k.0 b k.1.0) (over_first (scaled (neg_ℤ (pos 1)) form) h.0 a h.1.0))
same_normal form bound (Holds a) (Holds b) h k =
    let s = same_over form h.0 k.0 a b h.1.0 k.1.0 in
    ap Holds (same_atom a b s.1 (h.1.1 ∙ (ap (int_div_euclid bound) s.0 ∙ sym k.1.1)))
same_normal form bound (Fails a) (Fails b) h k =
    let s = same_over (scaled (neg_ℤ (pos 1)) form) h.0 k.0 a b h.1.0 k.1.0 in
    ap Fails (same_atom a b s.1 (h.1.1 ∙ (ap (λ (d : ℤ). neg_ℤ (int_div_euclid bound d) -ℤ pos 1) s.0 ∙ sym k.1.1)))

-- ---- comparisons

same_together : (limit : ℕ) (k : ℤ) (first : Form) (m : ℤ) (second f g : Form) → IsTogether limit k first m second f → IsTogether limit k first m second g → f ≡ g
same_together limit k first m second f g p q = same_counts f g p.sized.sorted q.sized.sorted (λ i. p.worth (only_at i) ∙ sym (q.worth (only_at i)))

-- a comparison comes to one normal form
pub same_comparison : (x y : Lin) (n m : Normal) → IsComparison x y n → IsComparison x y m → n ≡ m
same_comparison x y n m h k =
    let f = same_together (2 ^ 33) (pos 1) x.form (negsuc 0) y.form h.form k.form h.together k.together in
    same_normal k.form (y.constant -ℤ x.constant) n m (subst (λ (g : Form). IsNormalOf g (y.constant -ℤ x.constant) n) f h.normal_of) k.normal_of

narrow_atom : (a : Atom) (n : ℤ) → IsNarrowAtom a → IsWideAtom a n → ⊥
narrow_atom a n h w = elim w.how [
  | inl p ↦
      let at = p.0.2 in
      let small : unsigned_abs w.wide ≤ 2 ^ 31 = subst (IsWithin (2 ^ 31)) (get_or_from_slice_get a.form p.0.0 (w.wide, p.0.1) (w.wide, p.0.1) at) (h.within p.0.0 (w.wide, p.0.1) (within a.form p.0.0 (w.wide, p.0.1) at)) in
      absurd (omega (arith, small, p.1))
  | inr p ↦
      let small : unsigned_abs w.wide ≤ 2 ^ 94 = subst (λ (z : ℤ). unsigned_abs z ≤ 2 ^ 94) (sym p.0) h.small in
      absurd (omega (arith, small, p.1))
]

narrow_normal : (n : Normal) (z : ℤ) → IsNarrowNormal n → IsWideNormal n z → ⊥
narrow_normal (Constant t) z h w = w
narrow_normal (Holds a) z h w = narrow_atom a z h w
narrow_normal (Fails a) z h w = narrow_atom a z h w

-- a comparison that comes to a normal form in bounds has no number that is too large
pub never_wide : (x y : Lin) (n : Normal) → IsComparison x y n → IsNarrowNormal n → (z : ℤ) → IsWideComparison x y z → ⊥
never_wide x y n h narrow z w = narrow_normal n z narrow (subst (λ (m : Normal). IsWideNormal m z) (same_comparison x y w.normal n w.is h) w.wide)
