-- What the rows of an operation and of a comparison say.
use Rattle.std.proofs.Common.{◌≡◌, ℕ, Bool, true, false, ◌&&◌, ℤ, pos, negsuc, ◌≤ℤ◌, ◌<ℤ◌, refl, sym, ◌∙◌, ap, arith, ◌⊎◌, inl, inr, true≢false}
use Rattle.std.specs.Int.Signed.{le_z, lt_z}
use Rattle.std.proofs.lemmas.Int.{ints, by_lt_z}
use Rattle.jesc_linear.specs.Rows.{Meets}
use Rattle.jesc_first.specs.declared.tree.Operator.{Operator}
use Rattle.jesc_first.specs.declared.tree.Operator.TheVariants.{Plus, Minus}
use Rattle.jesc_first.specs.declared.tree.Comparison.{Comparison}
use Rattle.jesc_first.specs.declared.tree.Comparison.TheVariants.{Less, AtMost, Greater, AtLeast, Equal}
use Rattle.jesc_first.specs.Machine.{IsInt, is_int, applied, compared}
use Rattle.jesc_engine.specs.declared.ways.atom.Atom.{Atom}
use Rattle.jesc_engine.specs.Rows.{worth}
use Rattle.jesc_engine.specs.Ways.{ties, in_range, below_range, above_range, less, no_more, holding, breaking}
use Rattle.jesc_engine.proofs.Integers.{one_times, minus_one_times}
use Rattle.jesc_engine.proofs.Worth.{pair_to, pair_from, tie_to, tie_from, at_most_to, at_most_from, minus_to, minus_from}
use Rattle.jesc_engine.proofs.Meeting.{Met, OneOf}

-- where v meets the rows of an operation, the new term has its value
pub ties_to : (v : ℕ → ℤ) (fresh : ℕ) (x : Atom) (operator : Operator) (y : Atom) → Met v (ties fresh x operator y) → v fresh ≡ applied operator (worth v x) (worth v y)
ties_to v fresh x Plus y m =
    let low = tie_to v (negsuc 0) x (negsuc 0) y (pos 1) fresh m.0 in
    let high = tie_to v (pos 1) x (pos 1) y (negsuc 0) fresh m.1.0 in
    omega (arith, ints, low, high, one_times (worth v x), one_times (worth v y), one_times (v fresh), minus_one_times (worth v x), minus_one_times (worth v y), minus_one_times (v fresh))
ties_to v fresh x Minus y m =
    let low = tie_to v (negsuc 0) x (pos 1) y (pos 1) fresh m.0 in
    let high = tie_to v (pos 1) x (negsuc 0) y (negsuc 0) fresh m.1.0 in
    omega (arith, ints, low, high, one_times (worth v x), one_times (worth v y), one_times (v fresh), minus_one_times (worth v x), minus_one_times (worth v y), minus_one_times (v fresh))

-- where the new term has the value of the operation, v meets its rows
pub ties_from : (v : ℕ → ℤ) (fresh : ℕ) (x : Atom) (operator : Operator) (y : Atom) → v fresh ≡ applied operator (worth v x) (worth v y) → Met v (ties fresh x operator y)
ties_from v fresh x Plus y e = (
  tie_from v (negsuc 0) x (negsuc 0) y (pos 1) fresh (omega (arith, ints, e, one_times (v fresh), minus_one_times (worth v x), minus_one_times (worth v y))),
  (tie_from v (pos 1) x (pos 1) y (negsuc 0) fresh (omega (arith, ints, e, one_times (worth v x), one_times (worth v y), minus_one_times (v fresh))), tt),
)
ties_from v fresh x Minus y e = (
  tie_from v (negsuc 0) x (pos 1) y (pos 1) fresh (omega (arith, ints, e, one_times (v fresh), minus_one_times (worth v x), one_times (worth v y))),
  (tie_from v (pos 1) x (negsuc 0) y (negsuc 0) fresh (omega (arith, ints, e, one_times (worth v x), minus_one_times (worth v y), minus_one_times (v fresh))), tt),
)

-- a number between the bounds is in range
inside : (z : ℤ) → negsuc 2147483647 ≤ℤ z → z ≤ℤ pos 2147483647 → is_int z ≡ true
inside z l h = grind (arith, ints)

-- a number that is too small is not
under : (z : ℤ) → z <ℤ negsuc 2147483647 → is_int z ≡ false
under z l = let t : le_z (negsuc 2147483647) z ≡ false = grind (arith, ints) in ap (λ b. b && le_z z (pos 2147483647)) t

-- a conjunction whose last part is false
false_end : (b : Bool) → (b && false) ≡ false
false_end true = refl
false_end false = refl

-- a number that is too great is not
over : (z : ℤ) → pos 2147483647 <ℤ z → is_int z ≡ false
over z h = let t : le_z z (pos 2147483647) ≡ false = grind (arith, ints) in
    ap (λ b. le_z (negsuc 2147483647) z && b) t ∙ false_end (le_z (negsuc 2147483647) z)

-- inside the range, or on one side of it
abbrev Side : ℤ → Type 0
Side z = IsInt z ⊎ ((z <ℤ negsuc 2147483647) ⊎ (pos 2147483647 <ℤ z))

-- each number has its side
side_of : (z : ℤ) → Side z
side_of z = by_lt_z {P = Side z} z (negsuc 2147483647) (λ l. inr (inl l)) (λ l.
    by_lt_z {P = Side z} (pos 2147483647) z (λ h. inr (inr h)) (λ h. inl (l, h)))

-- the test of a number in range
pub is_int_from : (z : ℤ) → IsInt z → is_int z ≡ true
is_int_from z h = inside z h.0 h.1

-- a number that passes the test is in range
pub is_int_to : (z : ℤ) → is_int z ≡ true → IsInt z
is_int_to z t = elim (side_of z) [
  | inl h ↦ h
  | inr o ↦ elim o [
    | inl l ↦ absurd (true≢false (sym t ∙ under z l))
    | inr h ↦ absurd (true≢false (sym t ∙ over z h))
  ]
]

-- a number that fails the test is too small or too great
not_int : (z : ℤ) → is_int z ≡ false → (z <ℤ negsuc 2147483647) ⊎ (pos 2147483647 <ℤ z)
not_int z t = elim (side_of z) [
  | inl h ↦ absurd (true≢false (sym (inside z h.0 h.1) ∙ t))
  | inr o ↦ o
]

-- where v meets the range of a term, its number is in range
pub range_to : (v : ℕ → ℤ) (term : ℕ) → Met v (in_range term) → is_int (v term) ≡ true
range_to v term m =
    let high = at_most_to v term (pos 2147483647) m.0 in
    let low = minus_to v term (pos 2147483648) m.1.0 in
    inside (v term) (omega (arith, ints, low)) high

-- where the number of a term is in range, v meets its range
pub range_from : (v : ℕ → ℤ) (term : ℕ) → is_int (v term) ≡ true → Met v (in_range term)
range_from v term t =
    let b = is_int_to (v term) t in
    (at_most_from v term (pos 2147483647) b.1, (minus_from v term (pos 2147483648) (omega (arith, ints, b.0)), tt))

-- where v meets the row below the range, the number is out of range
pub below_to : (v : ℕ → ℤ) (term : ℕ) → Meets v (below_range term) → is_int (v term) ≡ false
below_to v term m = under (v term) (omega (arith, ints, at_most_to v term (negsuc 2147483648) m))

-- where v meets the row above the range, the number is out of range
pub above_to : (v : ℕ → ℤ) (term : ℕ) → Meets v (above_range term) → is_int (v term) ≡ false
above_to v term m = over (v term) (omega (arith, ints, minus_to v term (negsuc 2147483647) m))

-- where the number is out of range, v meets one of the two rows
pub outside_from : (v : ℕ → ℤ) (term : ℕ) → is_int (v term) ≡ false → Meets v (below_range term) ⊎ Meets v (above_range term)
outside_from v term t = elim (not_int (v term) t) [
  | inl l ↦ inl (at_most_from v term (negsuc 2147483648) (omega (arith, ints, l)))
  | inr h ↦ inr (minus_from v term (negsuc 2147483647) (omega (arith, ints, h)))
]

-- v meets the row of one atom less than another
pub less_to : (v : ℕ → ℤ) (x y : Atom) → Meets v (less x y) → worth v x <ℤ worth v y
less_to v x y m = omega (arith, ints, pair_to v (pos 1) x (negsuc 0) y (negsuc 0) m, one_times (worth v x), minus_one_times (worth v y))

-- one atom is worth less than another
pub less_from : (v : ℕ → ℤ) (x y : Atom) → worth v x <ℤ worth v y → Meets v (less x y)
less_from v x y l = pair_from v (pos 1) x (negsuc 0) y (negsuc 0) (omega (arith, ints, l, one_times (worth v x), minus_one_times (worth v y)))

-- v meets the row of one atom at most another
pub no_more_to : (v : ℕ → ℤ) (x y : Atom) → Meets v (no_more x y) → worth v x ≤ℤ worth v y
no_more_to v x y m = omega (arith, ints, pair_to v (pos 1) x (negsuc 0) y (pos 0) m, one_times (worth v x), minus_one_times (worth v y))

-- one atom is worth at most another
pub no_more_from : (v : ℕ → ℤ) (x y : Atom) → worth v x ≤ℤ worth v y → Meets v (no_more x y)
no_more_from v x y l = pair_from v (pos 1) x (negsuc 0) y (pos 0) (omega (arith, ints, l, one_times (worth v x), minus_one_times (worth v y)))

-- a test for less that succeeds
lt_true : (x y : ℤ) → x <ℤ y → lt_z x y ≡ true
lt_true x y l = grind (arith, ints)

-- a test for less that fails
lt_false : (x y : ℤ) → y ≤ℤ x → lt_z x y ≡ false
lt_false x y l = grind (arith, ints)

-- a test for at most that succeeds
le_true : (x y : ℤ) → x ≤ℤ y → le_z x y ≡ true
le_true x y l = grind (arith, ints)

-- a test for at most that fails
le_false : (x y : ℤ) → y <ℤ x → le_z x y ≡ false
le_false x y l = grind (arith, ints)

-- what a test for less says where it succeeds
true_lt : (x y : ℤ) → lt_z x y ≡ true → x <ℤ y
true_lt x y t = by_lt_z {P = x <ℤ y} x y (λ l. l) (λ l. absurd (true≢false (sym t ∙ lt_false x y l)))

-- what it says where it fails
false_lt : (x y : ℤ) → lt_z x y ≡ false → y ≤ℤ x
false_lt x y t = by_lt_z {P = y ≤ℤ x} x y (λ l. absurd (true≢false (sym (lt_true x y l) ∙ t))) (λ l. l)

-- what a test for at most says where it succeeds
true_le : (x y : ℤ) → le_z x y ≡ true → x ≤ℤ y
true_le x y t = by_lt_z {P = x ≤ℤ y} y x (λ l. absurd (true≢false (sym t ∙ le_false x y l))) (λ l. l)

-- what it says where it fails
false_le : (x y : ℤ) → le_z x y ≡ false → y <ℤ x
false_le x y t = by_lt_z {P = y <ℤ x} y x (λ l. l) (λ l. absurd (true≢false (sym (le_true x y l) ∙ t)))

-- two numbers, each at most the other
both_true : (x y : ℤ) → x ≤ℤ y → y ≤ℤ x → (le_z x y && le_z y x) ≡ true
both_true x y l h = ap (λ b. b && le_z y x) (le_true x y l) ∙ le_true y x h

-- what both tests say where they succeed
true_both : (x y : ℤ) → (le_z x y && le_z y x) ≡ true → (x ≤ℤ y) × (y ≤ℤ x)
true_both x y t = by_lt_z {P = (x ≤ℤ y) × (y ≤ℤ x)} y x
    (λ l. absurd (true≢false (sym t ∙ ap (λ b. b && le_z y x) (le_false x y l))))
    (λ l. (l, true_le y x (sym (ap (λ b. b && le_z y x) (le_true x y l)) ∙ t)))

-- what they say where one fails
false_both : (x y : ℤ) → (le_z x y && le_z y x) ≡ false → (x <ℤ y) ⊎ (y <ℤ x)
false_both x y t = by_lt_z {P = (x <ℤ y) ⊎ (y <ℤ x)} x y (λ l. inl l) (λ l.
    by_lt_z {P = (x <ℤ y) ⊎ (y <ℤ x)} y x (λ h. inr h) (λ h. absurd (true≢false (sym (both_true x y h l) ∙ t))))

-- where v meets the rows of a comparison, it is true of the worths
pub holding_to : (v : ℕ → ℤ) (comparison : Comparison) (x y : Atom) → Met v (holding comparison x y) → compared comparison (worth v x) (worth v y) ≡ true
holding_to v Less x y m = let l = less_to v x y m.0 in lt_true (worth v x) (worth v y) l
holding_to v AtMost x y m = le_true (worth v x) (worth v y) (no_more_to v x y m.0)
holding_to v Greater x y m = lt_true (worth v y) (worth v x) (less_to v y x m.0)
holding_to v AtLeast x y m = le_true (worth v y) (worth v x) (no_more_to v y x m.0)
holding_to v Equal x y m = both_true (worth v x) (worth v y) (no_more_to v x y m.0) (no_more_to v y x m.1.0)

-- where the comparison of the worths is true, v meets its rows
pub holding_from : (v : ℕ → ℤ) (comparison : Comparison) (x y : Atom) → compared comparison (worth v x) (worth v y) ≡ true → Met v (holding comparison x y)
holding_from v Less x y t = (less_from v x y (true_lt (worth v x) (worth v y) t), tt)
holding_from v AtMost x y t = (no_more_from v x y (true_le (worth v x) (worth v y) t), tt)
holding_from v Greater x y t = (less_from v y x (true_lt (worth v y) (worth v x) t), tt)
holding_from v AtLeast x y t = (no_more_from v y x (true_le (worth v y) (worth v x) t), tt)
holding_from v Equal x y t = let b = true_both (worth v x) (worth v y) t in (no_more_from v x y b.0, (no_more_from v y x b.1, tt))

-- where v meets a way of its falsehood, it is false of the worths
pub breaking_to : (v : ℕ → ℤ) (comparison : Comparison) (x y : Atom) → OneOf (Meets v) (breaking comparison x y) → compared comparison (worth v x) (worth v y) ≡ false
breaking_to v Less x y o = elim o [ inl m ↦ lt_false (worth v x) (worth v y) (no_more_to v y x m) | inr r ↦ elim r [ ] ]
breaking_to v AtMost x y o = elim o [ inl m ↦ le_false (worth v x) (worth v y) (less_to v y x m) | inr r ↦ elim r [ ] ]
breaking_to v Greater x y o = elim o [ inl m ↦ lt_false (worth v y) (worth v x) (no_more_to v x y m) | inr r ↦ elim r [ ] ]
breaking_to v AtLeast x y o = elim o [ inl m ↦ le_false (worth v y) (worth v x) (less_to v x y m) | inr r ↦ elim r [ ] ]
breaking_to v Equal x y o = elim o [
  | inl m ↦ ap (λ b. le_z (worth v x) (worth v y) && b) (le_false (worth v y) (worth v x) (less_to v x y m)) ∙ false_end (le_z (worth v x) (worth v y))
  | inr r ↦ elim r [
    | inl m ↦ ap (λ b. b && le_z (worth v y) (worth v x)) (le_false (worth v x) (worth v y) (less_to v y x m))
    | inr n ↦ elim n [ ]
  ]
]

-- where the comparison of the worths is false, v meets a way
pub breaking_from : (v : ℕ → ℤ) (comparison : Comparison) (x y : Atom) → compared comparison (worth v x) (worth v y) ≡ false → OneOf (Meets v) (breaking comparison x y)
breaking_from v Less x y t = inl (no_more_from v y x (false_lt (worth v x) (worth v y) t))
breaking_from v AtMost x y t = inl (less_from v y x (false_le (worth v x) (worth v y) t))
breaking_from v Greater x y t = inl (no_more_from v x y (false_lt (worth v y) (worth v x) t))
breaking_from v AtLeast x y t = inl (less_from v x y (false_le (worth v y) (worth v x) t))
breaking_from v Equal x y t = elim (false_both (worth v x) (worth v y) t) [
  | inl l ↦ inl (less_from v x y l)
  | inr l ↦ inr (inl (less_from v y x l))
]
