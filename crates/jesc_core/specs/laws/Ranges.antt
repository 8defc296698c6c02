-- What is tried at each number of a range is tried at all whole numbers from its first to its last.
use Rattle.std.specs.Prelude.{◌≡◌, ◌↔◌, ◌⊎◌, ℕ, zero, suc, ◌<◌, ℤ, pos, negsuc, ◌+ℤ◌, ◌-ℤ◌, ◌≤ℤ◌, Bool, true, false, ◌&&◌, ◌||◌}
use Rattle.std.proofs.Common.{refl, sym, ap, ◌∙◌, inl, inr, arith}
use Rattle.std.proofs.lemmas.Int.{ints}
use Rattle.jesc_core.specs.Values.{natural, count, each_from, some_from, Span, at_each, at_some}

-- the number of that place in the range
pub record IsInRange (low high v : ℤ) : Type 0 where
  pub place : ℕ
  pub less : place < count low high
  pub is : v ≡ low +ℤ pos place

natural_of : (z : ℤ) (n : ℕ) → z ≡ pos n → natural z ≡ n
natural_of z n e = ap natural e

pub in_range : (low high v : ℤ) → low ≤ℤ v → v ≤ℤ high → IsInRange low high v
in_range low high v a b = by_gap (v -ℤ low) ((high +ℤ pos 1) -ℤ low) refl refl a b
  where
    by_gap : (g h : ℤ) → v -ℤ low ≡ g → (high +ℤ pos 1) -ℤ low ≡ h → low ≤ℤ v → v ≤ℤ high → IsInRange low high v
    by_gap (pos n) (pos m) e f p q =
        record { place = n; less = let x = natural_of ((high +ℤ pos 1) -ℤ low) m f in let y : n < m = omega (arith, ints) in omega arith; is = omega (arith, ints) }
    by_gap (pos n) (negsuc m) e f p q = absurd (omega (arith, ints))
    by_gap (negsuc n) h e f p q = absurd (omega (arith, ints))

pub range_within : (low high : ℤ) (n : ℕ) → n < count low high → (low ≤ℤ (low +ℤ pos n)) × ((low +ℤ pos n) ≤ℤ high)
range_within low high n l = (omega (arith, ints), by_gap ((high +ℤ pos 1) -ℤ low) refl)
  where
    by_gap : (h : ℤ) → (high +ℤ pos 1) -ℤ low ≡ h → (low +ℤ pos n) ≤ℤ high
    by_gap (pos m) f = let x = natural_of ((high +ℤ pos 1) -ℤ low) m f in let y : n < m = omega arith in omega (arith, ints)
    by_gap (negsuc m) f = let x : natural ((high +ℤ pos 1) -ℤ low) ≡ 0 = ap natural f in absurd (omega arith)

and_parts : (a b : Bool) → a && b ≡ true → (a ≡ true) × (b ≡ true)
and_parts true b e = (refl, e)
and_parts false b e = cc

or_parts : (a b : Bool) → a || b ≡ true → (a ≡ true) ⊎ (b ≡ true)
or_parts true b e = inl refl
or_parts false b e = inr e

or_second : (a b : Bool) → b ≡ true → a || b ≡ true
or_second true b e = refl
or_second false b e = e

next_is : (low : ℤ) (k : ℕ) → (low +ℤ pos 1) +ℤ pos k ≡ low +ℤ pos (suc k)
next_is low k = omega (arith, ints)

zero_is : (low : ℤ) → low +ℤ pos 0 ≡ low
zero_is low = omega (arith, ints)

from_says : (n : ℕ) (low : ℤ) (p : ℤ → Bool) → each_from n low p ≡ true → (k : ℕ) → k < n → p (low +ℤ pos k) ≡ true
from_says zero low p e k l = absurd (omega arith)
from_says (suc n) low p e zero l = ap p (zero_is low) ∙ (let q = and_parts (p low) (each_from n (low +ℤ pos 1) p) e in q.0)
from_says (suc n) low p e (suc k) l = ap p (sym (next_is low k)) ∙ from_says n (low +ℤ pos 1) p (let q = and_parts (p low) (each_from n (low +ℤ pos 1) p) e in q.1) k (omega arith)

from_met : (n : ℕ) (low : ℤ) (p : ℤ → Bool) → ((k : ℕ) → k < n → p (low +ℤ pos k) ≡ true) → each_from n low p ≡ true
from_met zero low p h = refl
from_met (suc n) low p h = λ i. (ap p (sym (zero_is low)) ∙ h 0 (omega arith)) i && from_met n (low +ℤ pos 1) p (λ k l. ap p (next_is low k) ∙ h (suc k) (omega arith)) i

-- a place where the test is true
record IsMetAt (n : ℕ) (low : ℤ) (p : ℤ → Bool) : Type 0 where
  place : ℕ
  less : place < n
  is : p (low +ℤ pos place) ≡ true

some_says : (n : ℕ) (low : ℤ) (p : ℤ → Bool) → some_from n low p ≡ true → IsMetAt n low p
some_says zero low p e = cc
some_says (suc n) low p e = by (or_parts (p low) (some_from n (low +ℤ pos 1) p) e) (some_says n (low +ℤ pos 1) p)
  where
    by : (p low ≡ true) ⊎ (some_from n (low +ℤ pos 1) p ≡ true) → (some_from n (low +ℤ pos 1) p ≡ true → IsMetAt n (low +ℤ pos 1) p) → IsMetAt (suc n) low p
    by (inl f) on = record { place = 0; less = omega arith; is = ap p (zero_is low) ∙ f }
    by (inr f) on = let m = on f in let l = m.less in record { place = suc m.place; less = omega arith; is = ap p (sym (next_is low m.place)) ∙ m.is }

some_met : (n : ℕ) (low : ℤ) (p : ℤ → Bool) (k : ℕ) → k < n → p (low +ℤ pos k) ≡ true → some_from n low p ≡ true
some_met zero low p k l e = absurd (omega arith)
some_met (suc n) low p zero l e = ap (λ b. b || some_from n (low +ℤ pos 1) p) (ap p (sym (zero_is low)) ∙ e)
some_met (suc n) low p (suc k) l e = or_second (p low) (some_from n (low +ℤ pos 1) p) (some_met n (low +ℤ pos 1) p k (omega arith) (ap p (next_is low k) ∙ e))

pub each_says : (s : Span) → (at_each s ≡ true) ↔ ((v : ℤ) → s.low ≤ℤ v → v ≤ℤ s.high → s.body v ≡ true)
each_says s = (
  λ e v a b. let r = in_range s.low s.high v a b in ap s.body r.is ∙ from_says (count s.low s.high) s.low s.body e r.place r.less,
  λ h. from_met (count s.low s.high) s.low s.body (λ k l. let r = range_within s.low s.high k l in h (s.low +ℤ pos k) r.0 r.1),
)

pub record SomeIn (s : Span) : Type 0 where
  pub number : ℤ
  pub above : s.low ≤ℤ number
  pub below : number ≤ℤ s.high
  pub is : s.body number ≡ true

pub some_is : (s : Span) → (at_some s ≡ true) ↔ SomeIn s
some_is s = (
  λ e. let m = some_says (count s.low s.high) s.low s.body e in let r = range_within s.low s.high m.place m.less in record { number = s.low +ℤ pos m.place; above = r.0; below = r.1; is = m.is },
  λ w. let r = in_range s.low s.high w.number w.above w.below in some_met (count s.low s.high) s.low s.body r.place r.less (ap s.body (sym r.is) ∙ w.is),
)
