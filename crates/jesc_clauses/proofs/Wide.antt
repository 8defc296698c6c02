-- What is made of forms put together, and which numbers are too large.
use Rattle.std.proofs.Common.{◌≡◌, ℕ, ◌<◌, ◌≤◌, ◌^◌, min, suc, ℤ, pos, negsuc, Result, Ok, Err, IfOk, OnOk, refl, sym, ap, ◌∙◌, subst, arith, inl, inr}
use Rattle.std.proofs.lemmas.Int.{ints}
use Rattle.std.proofs.Math.IntN.{◌+ℤ◌, ◌*ℤ◌, neg_ℤ, zero-*ℤ, suc_ℤ-*ℤ}
use Rattle.std.specs.Prelude.{unsigned_abs}
use Rattle.std.specs.Result.{IsErrAnd}
use Rattle.jesc_linear.specs.Forms.{Form, value}
use Rattle.jesc_linear.proofs.Whole.{sum_under_times}
use Rattle.jesc_clauses.specs.declared.lin.Lin.{Lin}
use Rattle.jesc_clauses.specs.declared.error.ClauseError.{ClauseError}
use Rattle.jesc_clauses.specs.declared.error.ClauseError.TheVariants.{Wide, OutOfMemory}
use Rattle.jesc_clauses.specs.Countermodels.{lin_value}
use Rattle.jesc_clauses.specs.Merges.{OnWide, only_at, multiples, IsTogether, IsWideTogether}
use Rattle.jesc_clauses.specs.Sums.{IsMade, IsBelowAll, IsOneOf, IsTooWide, capped}

-- an error handed on
pub handed : (T U : Type 0) (P Q : ℤ → Type 0) → ((n : ℤ) → Q n → P n) → (r : Result T ClauseError) (e : ClauseError) → IsErrAnd r (λ f. f ≡ e) → OnWide {T = U} Q (Err e) → OnWide P r
handed T U P Q f (Ok x) e h w = absurd h
handed T U P Q f (Err g) (Wide n) h w = subst (λ (x : ClauseError). OnWide {T = T} P (Err x)) (sym h) (f n w)
handed T U P Q f (Err g) OutOfMemory h w = subst (λ (x : ClauseError). OnWide {T = T} P (Err x)) (sym h) tt

pub if_ok : {T : Type 0} (P Q : T → Type 0) → ((x : T) → P x → Q x) → (r : Result T ClauseError) → IfOk r P → IfOk r Q
if_ok P Q f (Ok x) h = f x h
if_ok P Q f (Err e) h = tt

pub on_ok : {T : Type 0} (P Q : Type 0) → (P → Q) → (r : Result T ClauseError) → OnOk r P → OnOk r Q
on_ok P Q f (Ok x) h = f h
on_ok P Q f (Err e) h = tt

pub on_wide : {T : Type 0} (P Q : ℤ → Type 0) → ((n : ℤ) → P n → Q n) → (r : Result T ClauseError) → OnWide P r → OnWide Q r
on_wide P Q f (Ok x) h = tt
on_wide P Q f (Err (Wide n)) h = f n h
on_wide P Q f (Err OutOfMemory) h = tt

pub capped_small : (n : ℤ) → unsigned_abs n ≤ 2 ^ 126 → n ≡ capped n
capped_small (pos n) h = ap pos (let e : n ≡ min n (2 ^ 126) = omega arith in e)
capped_small (negsuc n) h = ap (λ m. neg_ℤ (pos m)) (let e : suc n ≡ min (suc n) (2 ^ 126) = omega arith in e)

one_times : (x : ℤ) → pos 1 *ℤ x ≡ x
one_times x = omega (arith, ints, suc_ℤ-*ℤ (pos 0) x, zero-*ℤ x)

pub multiples_once : (v : ℕ → ℤ) (f g : Form) → multiples v (pos 1) f (pos 1) g ≡ value v f +ℤ value v g
multiples_once v f g = λ i. one_times (value v f) i +ℤ one_times (value v g) i

pub multiples_one : (v : ℕ → ℤ) (k : ℤ) (f g : Form) → multiples v k f (pos 0) g ≡ k *ℤ value v f
multiples_one v k f g = omega (arith, ints, zero-*ℤ (value v g))

pub wide_form : (k : ℤ) (f : Form) (m : ℤ) (g : Form) (coefficient : ℕ → ℤ) (c : ℤ) → ((i : ℕ) → multiples (only_at i) k f m g ≡ coefficient i) → (n : ℤ) → IsWideTogether (2 ^ 31) k f m g n → IsTooWide (IsOneOf coefficient) c n
wide_form k f m g coefficient c same n h = record { wide = n; is = capped_small n h.small; how = inl ((h.term, h.is ∙ same h.term), h.passes) }

pub wide_constant : (P : ℤ → Type 0) (c n : ℤ) → n ≡ capped c → 2 ^ 94 < unsigned_abs c → IsTooWide P c n
wide_constant P c n e h = record { wide = c; is = e; how = inr (refl, h) }

pub added_made : (x y : Lin) (r : Lin) → IsTogether (2 ^ 31) (pos 1) x.form (pos 1) y.form r.form → r.constant ≡ x.constant +ℤ y.constant → unsigned_abs (x.constant +ℤ y.constant) ≤ 2 ^ 94 → IsMade (λ v. lin_value v x +ℤ lin_value v y) (λ n. IsBelowAll x n × IsBelowAll y n) r
added_made x y r h e s = record {
  bounded = record { sized = h.sized; constant = subst (λ (c : ℤ). unsigned_abs c ≤ 2 ^ 94) (sym e) s };
  there = λ n p. h.there n p.0 p.1;
  is = λ v. omega (arith, ints, h.worth v, multiples_once v x.form y.form, e);
}

pub multiplied_made : (k : ℤ) (x : Lin) (r : Lin) → IsTogether (2 ^ 31) k x.form (pos 0) x.form r.form → r.constant ≡ k *ℤ x.constant → unsigned_abs (k *ℤ x.constant) ≤ 2 ^ 94 → IsMade (λ v. k *ℤ lin_value v x) (IsBelowAll x) r
multiplied_made k x r h e s = record {
  bounded = record { sized = h.sized; constant = subst (λ (c : ℤ). unsigned_abs c ≤ 2 ^ 94) (sym e) s };
  there = λ n p. h.there n p p;
  is = λ v. omega (arith, ints, h.worth v, multiples_one v k x.form x.form, e, sum_under_times k (value v x.form) x.constant);
}
