-- When all and when some numbers of a range pass a test, and when they don't.
use Rattle.std.proofs.Common.{◌≡◌, Bool, true, false, refl, sym, ◌∙◌}
use Rattle.std.specs.Prelude.{ℤ, ◌≤ℤ◌, not}
use Rattle.jesc_core.specs.Values.{Span, at_each, at_some}
use Rattle.jesc_core.specs.laws.Ranges.{each_says, some_is}

-- some number of the range is so
abbrev pub SomeNumber : Span → Bool → Type 0
SomeNumber s b = (v : ℤ) × (s.low ≤ℤ v) × (v ≤ℤ s.high) × (s.body v ≡ b)

abbrev pub EachNumber : Span → Bool → Type 0
EachNumber s b = (v : ℤ) → s.low ≤ℤ v → v ≤ℤ s.high → s.body v ≡ b

module _ (s : Span) where
  pub each_true : at_each s ≡ true → EachNumber s true
  each_true e = let l = each_says s in l.0 e

  pub true_each : EachNumber s true → at_each s ≡ true
  true_each h = let l = each_says s in l.1 h

  pub some_true : at_some s ≡ true → SomeNumber s true
  some_true e = let l = some_is s in let w = l.0 e in (w.number, w.above, w.below, w.is)

  pub true_some : SomeNumber s true → at_some s ≡ true
  true_some (v, a, b, e) = let l = some_is s in l.1 record { number = v; above = a; below = b; is = e }

  pub some_false : at_some s ≡ false → EachNumber s false
  some_false e v a b = by (s.body v) refl
    where
      by : (t : Bool) → s.body v ≡ t → t ≡ false
      by true d = let l = some_is s in sym (l.1 record { number = v; above = a; below = b; is = d }) ∙ e
      by false d = refl

  pub false_some : EachNumber s false → at_some s ≡ false
  false_some h = by (at_some s) refl
    where
      by : (t : Bool) → at_some s ≡ t → t ≡ false
      by true e = let l = some_is s in let w = l.0 e in let f : true ≡ false = sym w.is ∙ h w.number w.above w.below in f
      by false e = refl

  pub false_each : SomeNumber s false → at_each s ≡ false
  false_each (v, a, b, e) = by (at_each s) refl
    where
      by : (t : Bool) → at_each s ≡ t → t ≡ false
      by true d = let l = each_says s in sym (l.0 d v a b) ∙ e
      by false d = refl

not_true : (b : Bool) → not b ≡ true → b ≡ false
not_true true e = cc
not_true false e = refl

not_false : (b : Bool) → not b ≡ false → b ≡ true
not_false true e = refl
not_false false e = cc

-- where the test fails
abbrev turned : Span → Span
turned s = record { low = s.low; high = s.high; body = λ v. not (s.body v) }

pub each_false : (s : Span) → at_each s ≡ false → SomeNumber s false
each_false s e = by (at_some (turned s)) refl
  where
    by : (t : Bool) → at_some (turned s) ≡ t → SomeNumber s false
    by true d = let w = some_true (turned s) d in (w.0, w.1, w.2, not_true (s.body w.0) w.3)
    by false d =
        let all = some_false (turned s) d in
        let f : true ≡ false = sym (true_each s (λ v a b. not_false (s.body v) (all v a b))) ∙ e in
        cc
