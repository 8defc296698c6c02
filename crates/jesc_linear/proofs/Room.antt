-- An upper and a lower row of which one has a coefficient of 1 or -1 leave room, where their sum is met.
use Rattle.std.proofs.Common.{◌≡◌, ◌≢◌, ℕ, zero, suc, ◌*◌, ◌≤◌, ◌∷◌, ◌⊎◌, inl, inr, ℤ, pos, negsuc, refl, sym, ◌∙◌, ap, subst, arith}
use Rattle.std.proofs.lemmas.Int.{ints}
use Rattle.std.proofs.Math.IntN.{◌+ℤ◌, ◌*ℤ◌, neg_ℤ, *ℤ-zero, pos-*ℤ-pos}
use Rattle.std.specs.Prelude.{Ok, ◌≤ℤ◌, ◌<ℤ◌, unsigned_abs}
use Rattle.std.specs.Int.{int_div_euclid}
use Rattle.jesc_linear.specs.declared.rows.Row.{Row}
use Rattle.jesc_linear.specs.Forms.{value, coefficient_of, IsForm}
use Rattle.jesc_linear.specs.Rows.{Meets}
use Rattle.jesc_linear.specs.Sums.{sum_of, multiplier}
use Rattle.jesc_linear.specs.Elimination.{Values, value_in, slack}
use Rattle.jesc_linear.proofs.Whole.{sum_under_times, times_times, keeps_order}
use Rattle.jesc_linear.proofs.Sound.{quotient_is_greatest}
use Rattle.jesc_linear.proofs.Cancelled.{one_times, multipliers, sum_value}
use Rattle.jesc_linear.proofs.Returning.{slack_is}

times_minus : (d s : ℤ) → d *ℤ neg_ℤ s ≡ neg_ℤ (d *ℤ s)
times_minus d s =
    let none : s +ℤ neg_ℤ s ≡ pos 0 = omega (arith, ints) in
    omega (arith, ints, sum_under_times d s (neg_ℤ s), ap (λ x. d *ℤ x) none, *ℤ-zero d)

-- where the sum of the pair leaves nothing less than 0
room_between : (upper lower : ℕ) (above below : ℤ) → 1 ≤ upper → 1 ≤ lower → (upper ≡ 1) ⊎ (lower ≡ 1) → pos 0 ≤ℤ (pos lower *ℤ above +ℤ pos upper *ℤ below)
    → neg_ℤ (int_div_euclid below (pos lower)) ≤ℤ int_div_euclid above (pos upper)
room_between upper lower above below p q (inl one) h =
    let own : pos upper *ℤ above ≡ above = ap (λ (n : ℕ). pos n *ℤ above) one ∙ one_times above in
    let other : pos upper *ℤ below ≡ below = ap (λ (n : ℕ). pos n *ℤ below) one ∙ one_times below in
    let first = quotient_is_greatest (pos upper) above above (omega (arith, ints, p)) (omega (arith, ints, own)) in
    let second = quotient_is_greatest (pos lower) (neg_ℤ above) below (omega (arith, ints, q)) (omega (arith, ints, h, other, times_minus (pos lower) above)) in
    omega (arith, ints, first, second)
room_between upper lower above below p q (inr one) h =
    let own : pos lower *ℤ below ≡ below = ap (λ (n : ℕ). pos n *ℤ below) one ∙ one_times below in
    let other : pos lower *ℤ above ≡ above = ap (λ (n : ℕ). pos n *ℤ above) one ∙ one_times above in
    let first = quotient_is_greatest (pos lower) below below (omega (arith, ints, q)) (omega (arith, ints, own)) in
    let second = quotient_is_greatest (pos upper) (neg_ℤ below) above (omega (arith, ints, p)) (omega (arith, ints, h, other, times_minus (pos upper) below)) in
    omega (arith, ints, first, second)

one_scaled : (g m whole : ℕ) (x : ℤ) → g * m ≡ whole → pos g *ℤ (pos m *ℤ x) ≡ pos whole *ℤ x
one_scaled g m whole x e = sym (times_times (pos g) (pos m) x) ∙ ap (λ y. y *ℤ x) (pos-*ℤ-pos g m ∙ ap pos e)

scaled : (g m n lower upper : ℕ) (above below : ℤ) → g * m ≡ lower → g * n ≡ upper → pos 0 ≤ℤ (pos m *ℤ above +ℤ pos n *ℤ below)
    → pos 0 ≤ℤ (pos lower *ℤ above +ℤ pos upper *ℤ below)
scaled g m n lower upper above below p q h =
    let more = keeps_order (pos g) (pos 0) (pos m *ℤ above +ℤ pos n *ℤ below) (omega (arith, ints)) h in
    omega (arith, ints, more, *ℤ-zero (pos g), sum_under_times (pos g) (pos m *ℤ above) (pos n *ℤ below), one_scaled g m lower above p, one_scaled g n upper below q)

-- what the two rows leave, from the sum of their values
left_over : (m n : ℕ) (first second above below : ℤ) (upper_bound lower_bound : ℤ) → first +ℤ above ≡ upper_bound → second +ℤ below ≡ lower_bound
    → (pos m *ℤ first +ℤ pos n *ℤ second) ≤ℤ (pos m *ℤ upper_bound +ℤ pos n *ℤ lower_bound) → pos 0 ≤ℤ (pos m *ℤ above +ℤ pos n *ℤ below)
left_over m n first second above below upper_bound lower_bound p q h =
    omega (arith, ints, h, ap (λ x. pos m *ℤ x) p, ap (λ x. pos n *ℤ x) q, sum_under_times (pos m) first above, sum_under_times (pos n) second below)

positive_is : (c : ℤ) → pos 0 <ℤ c → c ≡ pos (unsigned_abs c)
positive_is (pos n) p = refl
positive_is (negsuc n) p = absurd (omega (arith, ints, p))

pub size_some : (c : ℤ) → c ≢ pos 0 → 1 ≤ unsigned_abs c
size_some (pos zero) n = absurd (n refl)
size_some (pos (suc m)) n = omega arith
size_some (negsuc m) n = omega arith

pub above_not_none : (c : ℤ) → pos 0 <ℤ c → c ≢ pos 0
above_not_none c p e = let k : pos 0 <ℤ pos 0 = subst (λ x. pos 0 <ℤ x) e p in omega (arith, ints, k)

pub below_not_none : (c : ℤ) → c <ℤ pos 0 → c ≢ pos 0
below_not_none c p e = let k : pos 0 <ℤ pos 0 = subst (λ x. x <ℤ pos 0) e p in omega (arith, ints, k)

-- an upper and a lower row whose sum is met have room between them, if one of the coefficients is 1 or -1
pub pair_has_room : (values : Values) (term : ℕ) (upper lower : Row) (above below : ℤ) → IsForm upper.form → IsForm lower.form
    → pos 0 <ℤ coefficient_of upper.form term → coefficient_of lower.form term <ℤ pos 0
    → slack values term upper ≡ Ok above → slack values term lower ≡ Ok below → Meets (value_in ((term, pos 0) ∷ values)) (sum_of term upper lower)
    → (unsigned_abs (coefficient_of upper.form term) ≡ 1) ⊎ (unsigned_abs (coefficient_of lower.form term) ≡ 1)
    → neg_ℤ (int_div_euclid below (pos (unsigned_abs (coefficient_of lower.form term)))) ≤ℤ int_div_euclid above (coefficient_of upper.form term)
pair_has_room values term upper lower above below fu fl p q su sl met one =
    let x : ℤ = coefficient_of upper.form term in
    let y : ℤ = coefficient_of lower.form term in
    let v : ℕ → ℤ = value_in ((term, pos 0) ∷ values) in
    let g = multipliers x y (above_not_none x p) (below_not_none y q) in
    let first : value v upper.form +ℤ above ≡ upper.bound = slack_is values term (pos 0) upper above fu.rises su ∙ omega (arith, ints, *ℤ-zero x) in
    let second : value v lower.form +ℤ below ≡ lower.bound = slack_is values term (pos 0) lower below fl.rises sl ∙ omega (arith, ints, *ℤ-zero y) in
    let sum = subst (λ (s : ℤ). s ≤ℤ (sum_of term upper lower).bound) (sum_value v term upper lower fu.rises fl.rises) met in
    let left = left_over (multiplier x y) (multiplier y x) (value v upper.form) (value v lower.form) above below upper.bound lower.bound first second sum in
    let whole = scaled g.0 (multiplier x y) (multiplier y x) (unsigned_abs y) (unsigned_abs x) above below g.2 g.3 left in
    let room = room_between (unsigned_abs x) (unsigned_abs y) above below (size_some x (above_not_none x p)) (size_some y (below_not_none y q)) one whole in
    subst (λ c. neg_ℤ (int_div_euclid below (pos (unsigned_abs y))) ≤ℤ int_div_euclid above c) (sym (positive_is x p)) room
