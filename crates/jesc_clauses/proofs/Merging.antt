-- What two forms that are put together, one term after the other, have been put together to.
use Rattle.std.proofs.Common.{◌≡◌, ◌==◌, Bool, true, false, ℕ, zero, suc, ◌+◌, ◌<◌, ◌≤◌, ◌^◌, [], ◌∷◌, ◌++◌, length, ℤ, pos, negsuc, ◌⊎◌, inl, inr, refl, sym, ap, ◌∙◌, subst, arith}
use Rattle.std.proofs.lemmas.Int.{ints}
use Rattle.std.proofs.lemmas.Bool.{eqb-true, eq-eqb}
use Rattle.std.proofs.lemmas.Bool.Decides.{nat_tests}
use Rattle.std.proofs.Math.IntN.{◌+ℤ◌, ◌*ℤ◌, *ℤ_comm, zero-*ℤ, *ℤ-zero, suc_ℤ-*ℤ}
use Rattle.std.proofs.lemmas.List.Elements.{All-head, All-tail, All-push, All-weaker}
use Rattle.std.specs.Prelude.{unsigned_abs, All}
use Rattle.jesc_linear.specs.Forms.{Form, RisesFrom, IsNonzero, value}
use Rattle.jesc_linear.proofs.Whole.{times_over_sum, sum_under_times, times_times}
use Rattle.jesc_clauses.specs.Merges.{IsWithin, IsTogether, only_at, multiples, head_at, past, StartsFrom, IsFirst, with_part}

pub record IsRest (low : ℕ) (f : Form) : Type 0 where
  pub rises : RisesFrom low f
  pub within : All (IsWithin (2 ^ 31)) f

abbrev pub IsUnder : ℕ → ℤ × ℕ → Type 0
IsUnder n part = part.1 < n

pub record IsMerging (limit : ℕ) (k : ℤ) (first0 : Form) (m : ℤ) (second0 : Form) (form first second : Form) : Type 0 where
  pub low : ℕ
  pub rises : RisesFrom 0 form
  pub under : All (IsUnder low) form
  pub nonzero : All IsNonzero form
  pub within : All (IsWithin limit) form
  pub left : IsRest low first
  pub right : IsRest low second
  pub there : (n : ℕ) → All (IsUnder n) first0 → All (IsUnder n) second0 → All (IsUnder n) form × All (IsUnder n) first × All (IsUnder n) second
  pub worth : (v : ℕ → ℤ) → value v form +ℤ multiples v k first m second ≡ multiples v k first0 m second0

-- ---- one side

equal_test : (a b : ℕ) → (a == b ≡ true) → a ≡ b
equal_test a b e = eqb-true a b e

pub head_within : (f : Form) (t : ℕ) → All (IsWithin (2 ^ 31)) f → unsigned_abs (head_at f t) ≤ 2 ^ 31
head_within [] t all = omega arith
head_within (part ∷ f) t all = let h = All-head (IsWithin (2 ^ 31)) part f all in grind (arith, nat_tests)

pub first_from : (low : ℕ) (f : Form) (t : ℕ) → RisesFrom low f → IsFirst t f → low ≤ t
first_from low [] t r h = absurd h
first_from low (part ∷ f) t r h = omega (arith, r.0, h)

pub past_all : (P : ℤ × ℕ → Type 0) (f : Form) (t : ℕ) → All P f → All P (past f t)
past_all P [] t all = all
past_all P (part ∷ f) t all = by (part.1 == t) refl
  where
    by : (b : Bool) → part.1 == t ≡ b → All P (past (part ∷ f) t)
    by true e = rw e (All-tail P part f all)
    by false e = rw e all

pub past_rises : (low : ℕ) (f : Form) (t : ℕ) → RisesFrom low f → StartsFrom t f → RisesFrom (t + 1) (past f t)
past_rises low [] t r s = tt
past_rises low (part ∷ f) t r s = by (part.1 == t) refl
  where
    by : (b : Bool) → part.1 == t ≡ b → RisesFrom (t + 1) (past (part ∷ f) t)
    by true e = rw e (subst (λ (n : ℕ). RisesFrom (n + 1) f) (equal_test part.1 t e) r.1)
    by false e = rw e ((let h : t + 1 ≤ part.1 = grind (arith, nat_tests, e, s) in h), r.1)

pub value_past : (v : ℕ → ℤ) (f : Form) (t : ℕ) → value v f ≡ head_at f t *ℤ v t +ℤ value v (past f t)
value_past v [] t = omega (arith, ints, zero-*ℤ (v t))
value_past v (part ∷ f) t = by (part.1 == t) refl
  where
    by : (b : Bool) → part.1 == t ≡ b → value v (part ∷ f) ≡ head_at (part ∷ f) t *ℤ v t +ℤ value v (past (part ∷ f) t)
    by true e = rw e (ap (λ (n : ℕ). part.0 *ℤ v n +ℤ value v f) (equal_test part.1 t e))
    by false e = rw e (omega (arith, ints, zero-*ℤ (v t)))

pub past_length : (f : Form) (t : ℕ) → length (past f t) ≤ length f
past_length [] t = omega arith
past_length (part ∷ f) t = by (part.1 == t) refl
  where
    by : (b : Bool) → part.1 == t ≡ b → length (past (part ∷ f) t) ≤ length (part ∷ f)
    by true e = rw e (omega arith)
    by false e = rw e (omega arith)

pub past_shorter : (f : Form) (t : ℕ) → IsFirst t f → length (past f t) < length f
past_shorter [] t h = absurd h
past_shorter (part ∷ f) t h = rw (eq-eqb part.1 t (sym h)) (omega arith)

pub first_under : (n : ℕ) (f : Form) (t : ℕ) → All (IsUnder n) f → IsFirst t f → t < n
first_under n [] t all h = absurd h
first_under n (part ∷ f) t all h = let k = All-head (IsUnder n) part f all in omega (arith, k, h)

-- ---- only one term counts

not_at : (i j : ℕ) → (i ≡ j → ⊥) → only_at i j ≡ pos 0
not_at i j n = grind (arith, nat_tests)

pub only_itself : (i : ℕ) → only_at i i ≡ pos 1
only_itself i = grind (arith, nat_tests)

pub only_above : (i low : ℕ) (f : Form) → i < low → RisesFrom low f → value (only_at i) f ≡ pos 0
only_above i low [] l r = refl
only_above i low (part ∷ f) l r =
    omega (arith, ints, only_above i (part.1 + 1) f (omega (arith, r.0)) r.1, ap (λ x. part.0 *ℤ x) (not_at i part.1 (λ e. omega (arith, r.0, e))), *ℤ-zero part.0)

pub only_under : (i low : ℕ) (f : Form) → low ≤ i → All (IsUnder low) f → value (only_at i) f ≡ pos 0
only_under i low [] l all = refl
only_under i low (part ∷ f) l all =
    let h = All-head (IsUnder low) part f all in
    omega (arith, ints, only_under i low f l (All-tail (IsUnder low) part f all), ap (λ x. part.0 *ℤ x) (not_at i part.1 (λ e. omega (arith, h, e))), *ℤ-zero part.0)

pub only_head : (low : ℕ) (f : Form) (t : ℕ) → RisesFrom low f → StartsFrom t f → value (only_at t) f ≡ head_at f t
only_head low f t r s =
    omega (arith, ints, value_past (only_at t) f t, only_above t (t + 1) (past f t) (omega arith) (past_rises low f t r s), ap (λ x. head_at f t *ℤ x) (only_itself t), *ℤ_comm (head_at f t) (pos 1), one_times (head_at f t))
  where
    one_times : (x : ℤ) → pos 1 *ℤ x ≡ x
    one_times x = omega (arith, ints, suc_ℤ-*ℤ (pos 0) x, zero-*ℤ x)

-- ---- a part at the end

pub value_push : (v : ℕ → ℤ) (f : Form) (part : ℤ × ℕ) → value v (f ++ part ∷ []) ≡ value v f +ℤ part.0 *ℤ v part.1
value_push v [] part = omega (arith, ints)
value_push v (x ∷ f) part = omega (arith, ints, value_push v f part)

pub rises_push : (a low : ℕ) (f : Form) (part : ℤ × ℕ) → RisesFrom a f → All (IsUnder low) f → low ≤ part.1 → a ≤ part.1 → RisesFrom a (f ++ part ∷ [])
rises_push a low [] part r all l h = (h, tt)
rises_push a low (x ∷ f) part r all l h =
    let k = All-head (IsUnder low) x f all in
    (r.0, rises_push (x.1 + 1) low f part r.1 (All-tail (IsUnder low) x f all) l (omega (arith, k)))

pub under_more : (n m : ℕ) (f : Form) → n ≤ m → All (IsUnder n) f → All (IsUnder m) f
under_more n m f l all = All-weaker (IsUnder n) (IsUnder m) (λ part p. omega (arith, p)) f all

-- what the form with a part behind it is
pub record IsWith (limit : ℕ) (f : Form) (c : ℤ) (t : ℕ) (g : Form) : Type 0 where
  pub rises : RisesFrom 0 g
  pub under : All (IsUnder (t + 1)) g
  pub nonzero : All IsNonzero g
  pub within : All (IsWithin limit) g
  pub there : (n : ℕ) → t < n → All (IsUnder n) f → All (IsUnder n) g
  pub worth : (v : ℕ → ℤ) → value v g ≡ value v f +ℤ c *ℤ v t

pushed : (limit low : ℕ) (f : Form) (c : ℤ) (t : ℕ) → (c ≡ pos 0 → ⊥) → RisesFrom 0 f → All (IsUnder low) f → All IsNonzero f → All (IsWithin limit) f → low ≤ t → unsigned_abs c ≤ limit → IsWith limit f c t (f ++ (c, t) ∷ [])
pushed limit low f c t n r u z w l s = record {
  rises = rises_push 0 low f (c, t) r u l (omega arith);
  under = All-push (IsUnder (t + 1)) f (c, t) (under_more low (t + 1) f (omega arith) u) (omega arith);
  nonzero = All-push IsNonzero f (c, t) z n;
  within = All-push (IsWithin limit) f (c, t) w s;
  there = λ n p all. All-push (IsUnder n) f (c, t) all p;
  worth = λ v. value_push v f (c, t);
}

pub with_is : (limit low : ℕ) (f : Form) (c : ℤ) (t : ℕ) → RisesFrom 0 f → All (IsUnder low) f → All IsNonzero f → All (IsWithin limit) f → low ≤ t → unsigned_abs c ≤ limit → IsWith limit f c t (with_part f c t)
with_is limit low f (pos zero) t r u z w l s = record {
  rises = r;
  under = under_more low (t + 1) f (omega arith) u;
  nonzero = z;
  within = w;
  there = λ n p all. all;
  worth = λ v. omega (arith, ints, zero-*ℤ (v t));
}
with_is limit low f (pos (suc n)) t r u z w l s = pushed limit low f (pos (suc n)) t (λ e. cc) r u z w l s
with_is limit low f (negsuc n) t r u z w l s = pushed limit low f (negsuc n) t (λ e. cc) r u z w l s

-- ---- one more term

regroup : (k m a b x y s : ℤ) → k *ℤ (a *ℤ s +ℤ x) +ℤ m *ℤ (b *ℤ s +ℤ y) ≡ (k *ℤ a +ℤ m *ℤ b) *ℤ s +ℤ (k *ℤ x +ℤ m *ℤ y)
regroup k m a b x y s =
    omega (arith, ints, sum_under_times k (a *ℤ s) x, sum_under_times m (b *ℤ s) y, times_over_sum (k *ℤ a) (m *ℤ b) s, times_times k a s, times_times m b s)

module _ (limit : ℕ) (k : ℤ) (first0 : Form) (m : ℤ) (second0 : Form) (form first second : Form) (h : IsMerging limit k first0 m second0 form first second) (t : ℕ) (is : IsFirst t first ⊎ IsFirst t second) (s : StartsFrom t first) (s2 : StartsFrom t second) where
  abbrev coefficient : ℤ
  coefficient = k *ℤ head_at first t +ℤ m *ℤ head_at second t

  pub low_first : h.low ≤ t
  low_first = elim is [ inl i ↦ first_from h.low first t h.left.rises i | inr i ↦ first_from h.low second t h.right.rises i ]

  first_there : (n : ℕ) → All (IsUnder n) first → All (IsUnder n) second → t < n
  first_there n a b = elim is [ inl i ↦ first_under n first t a i | inr i ↦ first_under n second t b i ]

  pub shorter : length (past first t) + length (past second t) < length first + length second
  shorter = elim is [
    | inl i ↦ omega (arith, past_shorter first t i, past_length second t)
    | inr i ↦ omega (arith, past_shorter second t i, past_length first t)
  ]

  worth_of : (v : ℕ → ℤ) → multiples v k first m second ≡ coefficient *ℤ v t +ℤ multiples v k (past first t) m (past second t)
  worth_of v = (λ i. k *ℤ value_past v first t i +ℤ m *ℤ value_past v second t i) ∙ regroup k m (head_at first t) (head_at second t) (value v (past first t)) (value v (past second t)) (v t)

  pub next_merging : (g : Form) → IsWith limit form coefficient t g → IsMerging limit k first0 m second0 g (past first t) (past second t)
  next_merging g w = record {
    low = t + 1;
    rises = w.rises;
    under = w.under;
    nonzero = w.nonzero;
    within = w.within;
    left = record { rises = past_rises h.low first t h.left.rises s; within = past_all (IsWithin (2 ^ 31)) first t h.left.within };
    right = record { rises = past_rises h.low second t h.right.rises s2; within = past_all (IsWithin (2 ^ 31)) second t h.right.within };
    there = λ n a b. let r = h.there n a b in (w.there n (first_there n r.1 r.2) r.0, past_all (IsUnder n) first t r.1, past_all (IsUnder n) second t r.2);
    worth = λ v. omega (arith, ints, w.worth v, worth_of v, h.worth v);
  }

  pub coefficient_is : coefficient ≡ multiples (only_at t) k first0 m second0
  coefficient_is =
      let a = ap (λ x. k *ℤ x) (only_head h.low first t h.left.rises s) in
      let b = ap (λ x. m *ℤ x) (only_head h.low second t h.right.rises s2) in
      omega (arith, ints, a, b, h.worth (only_at t), only_under t h.low form low_first h.under)

-- at the end
pub merged : (limit : ℕ) (k : ℤ) (first0 : Form) (m : ℤ) (second0 : Form) (form first second : Form) → IsMerging limit k first0 m second0 form first second → first ≡ [] → second ≡ [] → IsTogether limit k first0 m second0 form
merged limit k first0 m second0 form first second h e e2 = record {
  sized = record { sorted = record { rises = h.rises; nonzero = h.nonzero }; within = h.within };
  there = λ n a b. (h.there n a b).0;
  worth = λ v. let a = ap (λ (f : Form). k *ℤ value v f) e ∙ *ℤ-zero k in let b = ap (λ (f : Form). m *ℤ value v f) e2 ∙ *ℤ-zero m in omega (arith, ints, h.worth v, a, b);
}
