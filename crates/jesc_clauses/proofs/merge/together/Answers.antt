use Rattle.std.proofs.Common.{◌≡◌, negsuc, length, ◌+◌, ◌≤◌, ◌<◌, ◌^◌, ◌*◌, ℕ, ℤ, pos, sym, ap, ◌∙◌, subst, arith, ◌+ℤ◌, ◌*ℤ◌, FitsSigned, to_z, of_z, w64}
use Rattle.std.proofs.lemmas.Int.{ints, to_z-of_z, fits_signed_from_abs, unsigned_abs-mul}
use Rattle.std.proofs.Math.Nat.{mul-le-mul}
use Rattle.std.specs.Int.{w128}
use Rattle.std.specs.Prelude.{unsigned_abs, All}
use Rattle.jesc_linear.specs.Forms.{Form}
use Rattle.jesc_clauses.specs.Merges.{IsWithin, head_at, past, with_part, IsWideTogether}
use Rattle.jesc_clauses.proofs.Merging.{IsMerging, head_within, low_first, shorter, next_merging, coefficient_is, with_is, merged}
use Rattle.jesc_clauses.proofs.merge.together.Goals as goal

fits : (x : ℤ) → unsigned_abs x ≤ 2 ^ 126 → FitsSigned w128 x
fits x h = fits_signed_from_abs w128 x (omega (arith, h))

times_most : (a b : ℕ) → a ≤ 2 ^ 94 → b ≤ 2 ^ 31 → a * b ≤ 2 ^ 125
times_most a b p q = mul-le-mul {n₁ = a} {m₁ = b} {n₂ = 2 ^ 94} {m₂ = 2 ^ 31} p q

module _ (k a : ℤ) (sk : unsigned_abs k ≤ 2 ^ 94) (sa : unsigned_abs a ≤ 2 ^ 31) where
  product_small : unsigned_abs (k *ℤ a) ≤ 2 ^ 125
  product_small = subst (λ (n : ℕ). n ≤ 2 ^ 125) (sym (unsigned_abs-mul k a)) (times_most (unsigned_abs k) (unsigned_abs a) sk sa)

  factors : to_z w128 (of_z w128 k) *ℤ to_z w128 (of_z w128 (to_z w64 (of_z w64 a))) ≡ k *ℤ a
  factors =
      let e : to_z w64 (of_z w64 a) ≡ a = to_z-of_z w64 a (fits_signed_from_abs w64 a (omega (arith, sa))) in
      λ i. to_z-of_z w128 k (fits k (omega (arith, sk))) i *ℤ (ap (λ x. to_z w128 (of_z w128 x)) e ∙ to_z-of_z w128 a (fits a (omega (arith, sa)))) i

  product_fits : FitsSigned w128 (to_z w128 (of_z w128 k) *ℤ to_z w128 (of_z w128 (to_z w64 (of_z w64 a))))
  product_fits = subst (FitsSigned w128) (sym factors) (fits (k *ℤ a) (let h = product_small in omega (arith, h)))

  product_is : to_z w128 (of_z w128 (to_z w128 (of_z w128 k) *ℤ to_z w128 (of_z w128 (to_z w64 (of_z w64 a))))) ≡ k *ℤ a
  product_is = ap (λ x. to_z w128 (of_z w128 x)) factors ∙ to_z-of_z w128 (k *ℤ a) (fits (k *ℤ a) (let h = product_small in omega (arith, h)))

-- |x + y| is at most |x| + |y|
abs_sum : (x y : ℤ) (n : ℕ) → unsigned_abs x ≤ n → unsigned_abs y ≤ n → unsigned_abs (x +ℤ y) ≤ n + n
abs_sum (pos a) (pos b) n p q = omega arith
abs_sum (pos a) (negsuc b) n p q = omega (arith, ints)
abs_sum (negsuc a) (pos b) n p q = omega (arith, ints)
abs_sum (negsuc a) (negsuc b) n p q = omega (arith, ints)

sum_small : (x y : ℤ) → unsigned_abs x ≤ 2 ^ 125 → unsigned_abs y ≤ 2 ^ 125 → unsigned_abs (x +ℤ y) ≤ 2 ^ 126
sum_small x y p q = abs_sum x y (2 ^ 125) p q

-- the two products and their sum, as the code computes them
module _ (k m a b : ℤ) (sk : unsigned_abs k ≤ 2 ^ 94) (sm : unsigned_abs m ≤ 2 ^ 94) (sa : unsigned_abs a ≤ 2 ^ 31) (sb : unsigned_abs b ≤ 2 ^ 31) where
  abbrev computed : ℤ
  computed = to_z w128 (of_z w128 (to_z w128 (of_z w128 k) *ℤ to_z w128 (of_z w128 (to_z w64 (of_z w64 a))))) +ℤ to_z w128 (of_z w128 (to_z w128 (of_z w128 m) *ℤ to_z w128 (of_z w128 (to_z w64 (of_z w64 b)))))

  computed_is : computed ≡ k *ℤ a +ℤ m *ℤ b
  computed_is = λ i. product_is k a sk sa i +ℤ product_is m b sm sb i

  total_small : unsigned_abs (k *ℤ a +ℤ m *ℤ b) ≤ 2 ^ 126
  total_small = sum_small (k *ℤ a) (m *ℤ b) (product_small k a sk sa) (product_small m b sm sb)

  computed_fits : FitsSigned w128 computed
  computed_fits = subst (FitsSigned w128) (sym computed_is) (fits (k *ℤ a +ℤ m *ℤ b) total_small)

  total_is : to_z w128 (of_z w128 computed) ≡ k *ℤ a +ℤ m *ℤ b
  total_is = ap (λ x. to_z w128 (of_z w128 x)) computed_is ∙ to_z-of_z w128 (k *ℤ a +ℤ m *ℤ b) (fits (k *ℤ a +ℤ m *ℤ b) total_small)

small : (f : Form) (t : ℕ) (x : ℤ) → All (IsWithin (2 ^ 31)) f → x ≡ head_at f t → unsigned_abs x ≤ 2 ^ 31
small f t x all e = subst (λ (x : ℤ). unsigned_abs x ≤ 2 ^ 31) (sym e) (head_within f t all)

-- the multipliers as the code has them, and as they are
module _ (limit : ℕ) (k m : ℤ) (first0 second0 form first second : Form) (fk : FitsSigned w128 k) (fm : FitsSigned w128 m) where
  plain : IsMerging limit (to_z w128 (of_z w128 k)) first0 (to_z w128 (of_z w128 m)) second0 form first second → IsMerging limit k first0 m second0 form first second
  plain h = subst (λ (x : ℤ). IsMerging limit x first0 m second0 form first second) (to_z-of_z w128 k fk) (subst (λ (x : ℤ). IsMerging limit (to_z w128 (of_z w128 k)) first0 x second0 form first second) (to_z-of_z w128 m fm) h)

  coded : IsMerging limit k first0 m second0 form first second → IsMerging limit (to_z w128 (of_z w128 k)) first0 (to_z w128 (of_z w128 m)) second0 form first second
  coded h = subst (λ (x : ℤ). IsMerging limit x first0 (to_z w128 (of_z w128 m)) second0 form first second) (sym (to_z-of_z w128 k fk)) (subst (λ (x : ℤ). IsMerging limit k first0 x second0 form first second) (sym (to_z-of_z w128 m fm)) h)

pub overflow_mul-coefficient : goal.overflow_mul-coefficient
overflow_mul-coefficient c = product_fits c.args.k c.head.result c.requires.k (small c.loop-term.first.now c.in-Some.term c.head.result c.loop-term.invariant.left.within c.head.ensures)

pub overflow_mul-coefficient-in-Some : goal.overflow_mul-coefficient-in-Some
overflow_mul-coefficient-in-Some c = product_fits c.args.m c.head-in-Some.result c.requires.m (small c.loop-term.second.now c.in-Some.term c.head-in-Some.result c.loop-term.invariant.right.within c.head-in-Some.ensures)

pub overflow_add-coefficient : goal.overflow_add-coefficient
overflow_add-coefficient c = computed_fits c.args.k c.args.m c.head.result c.head-in-Some.result c.requires.k c.requires.m (small c.loop-term.first.now c.in-Some.term c.head.result c.loop-term.invariant.left.within c.head.ensures) (small c.loop-term.second.now c.in-Some.term c.head-in-Some.result c.loop-term.invariant.right.within c.head-in-Some.ensures)

pub returns-then-unsigned_abs-limit-clause-wide : goal.returns-then-unsigned_abs-limit-clause-wide
returns-then-unsigned_abs-limit-clause-wide c =
    let h = (plain c.args.limit c.args.k c.args.m c.args.first.now c.args.second.now c.loop-term.form c.loop-term.first.now c.loop-term.second.now c.ranges.k c.ranges.m c.loop-term.invariant) in
    let first = c.loop-term.first.now in
    let second = c.loop-term.second.now in
    let t = c.in-Some.term in
    let a = small first t c.head.result h.left.within c.head.ensures in
    let b = small second t c.head-in-Some.result h.right.within c.head-in-Some.ensures in
    let heads : c.args.k *ℤ c.head.result +ℤ c.args.m *ℤ c.head-in-Some.result ≡ c.args.k *ℤ head_at first t +ℤ c.args.m *ℤ head_at second t = λ i. c.args.k *ℤ c.head.ensures i +ℤ c.args.m *ℤ c.head-in-Some.ensures i in
    let is = total_is c.args.k c.args.m c.head.result c.head-in-Some.result c.requires.k c.requires.m a b in
    let same = coefficient_is c.args.limit c.args.k c.args.first.now c.args.m c.args.second.now c.loop-term.form first second h t c.in-Some.ensures.0 c.in-Some.ensures.1 c.in-Some.ensures.2 in
    let few = total_small c.args.k c.args.m c.head.result c.head-in-Some.result c.requires.k c.requires.m a b in
    subst (IsWideTogether c.args.limit c.args.k c.args.first.now c.args.m c.args.second.now) (sym is)
    (record { term = t; is = heads ∙ same; passes = (let e = c.unsigned_abs.ensures.value ∙ ap unsigned_abs is in omega (arith, e, c.if-unsigned_abs-limit.true)); small = few })

pub loop-term-smaller : goal.loop-term-smaller
loop-term-smaller c =
    let h = shorter c.args.limit c.args.k c.args.first.now c.args.m c.args.second.now c.loop-term.form c.loop-term.first.now c.loop-term.second.now (plain c.args.limit c.args.k c.args.m c.args.first.now c.args.second.now c.loop-term.form c.loop-term.first.now c.loop-term.second.now c.ranges.k c.ranges.m c.loop-term.invariant) c.in-Some.term c.in-Some.ensures.0 c.in-Some.ensures.1 c.in-Some.ensures.2 in
    subst (λ (f : Form). length f + length c.behind-second.result.now < length c.loop-term.first.now + length c.loop-term.second.now) (sym c.behind-first.ensures)
    (subst (λ (f : Form). length (past c.loop-term.first.now c.in-Some.term) + length f < length c.loop-term.first.now + length c.loop-term.second.now) (sym c.behind-second.ensures) h)

pub loop-term-preserved : goal.loop-term-preserved
loop-term-preserved c =
    let k = c.args.k in
    let m = c.args.m in
    let first = c.loop-term.first.now in
    let second = c.loop-term.second.now in
    let t = c.in-Some.term in
    let h = (plain c.args.limit c.args.k c.args.m c.args.first.now c.args.second.now c.loop-term.form c.loop-term.first.now c.loop-term.second.now c.ranges.k c.ranges.m c.loop-term.invariant) in
    let a = small first t c.head.result h.left.within c.head.ensures in
    let b = small second t c.head-in-Some.result h.right.within c.head-in-Some.ensures in
    let heads : k *ℤ c.head.result +ℤ m *ℤ c.head-in-Some.result ≡ k *ℤ head_at first t +ℤ m *ℤ head_at second t = λ i. k *ℤ c.head.ensures i +ℤ m *ℤ c.head-in-Some.ensures i in
    let is = total_is k m c.head.result c.head-in-Some.result c.requires.k c.requires.m a b ∙ heads in
    let low = low_first c.args.limit k c.args.first.now m c.args.second.now c.loop-term.form first second h t c.in-Some.ensures.0 c.in-Some.ensures.1 c.in-Some.ensures.2 in
    let coefficient = k *ℤ head_at first t +ℤ m *ℤ head_at second t in
    let short : unsigned_abs coefficient ≤ c.args.limit = (let e = c.unsigned_abs.ensures.value ∙ ap unsigned_abs is in omega (arith, e, c.if-unsigned_abs-limit.false)) in
    let added = with_is c.args.limit h.low c.loop-term.form coefficient t h.rises h.under h.nonzero h.within low short in
    let appended : c.append.new.form ≡ with_part c.loop-term.form coefficient t =
    c.in_ok-append.ensures ∙ ap (λ (x : ℤ). with_part c.loop-term.form x t) (ap (λ (x : ℤ). to_z w64 (of_z w64 x)) is ∙ to_z-of_z w64 coefficient (fits_signed_from_abs w64 coefficient (omega (arith, short, c.requires.limit)))) in
    let next = next_merging c.args.limit k c.args.first.now m c.args.second.now c.loop-term.form first second h t c.in-Some.ensures.0 c.in-Some.ensures.1 c.in-Some.ensures.2 (with_part c.loop-term.form coefficient t) added in
    coded c.args.limit k m c.args.first.now c.args.second.now c.append.new.form c.behind-first.result.now c.behind-second.result.now c.ranges.k c.ranges.m
    (subst (λ (f : Form). IsMerging c.args.limit k c.args.first.now m c.args.second.now f c.behind-first.result.now c.behind-second.result.now) (sym appended)
    (subst (λ (f : Form). IsMerging c.args.limit k c.args.first.now m c.args.second.now (with_part c.loop-term.form coefficient t) f c.behind-second.result.now) (sym c.behind-first.ensures)
    (subst (λ (f : Form). IsMerging c.args.limit k c.args.first.now m c.args.second.now (with_part c.loop-term.form coefficient t) (past first t) f) (sym c.behind-second.ensures) next)))

pub returns-clause-together : goal.returns-clause-together
returns-clause-together c = merged c.args.limit c.args.k c.args.first.now c.args.m c.args.second.now c.loop-term.form c.loop-term.first.now c.loop-term.second.now (plain c.args.limit c.args.k c.args.m c.args.first.now c.args.second.now c.loop-term.form c.loop-term.first.now c.loop-term.second.now c.ranges.k c.ranges.m c.loop-term.invariant) c.in_default.ensures.0 c.in_default.ensures.1
