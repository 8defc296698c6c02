-- Laws of whole numbers that sums of products need.
use Rattle.std.proofs.Common.{◌≡◌, ℤ, pos, negsuc, ◌∙◌, ap, arith}
use Rattle.std.proofs.lemmas.Int.{ints}
use Rattle.std.proofs.Math.IntN.{◌+ℤ◌, ◌-ℤ◌, ◌*ℤ◌, neg_ℤ, ℤ_ind, suc_ℤ-*ℤ, pred_ℤ-*ℤ, +ℤ_one, -ℤ_one, zero-*ℤ}

-- one more in the first factor
one_more : (m k : ℤ) → (m +ℤ pos 1) *ℤ k ≡ m *ℤ k +ℤ k
one_more m k = ap (λ x. x *ℤ k) (+ℤ_one m) ∙ suc_ℤ-*ℤ m k

-- one less in the first factor
one_less : (m k : ℤ) → (m -ℤ pos 1) *ℤ k ≡ m *ℤ k -ℤ k
one_less m k = ap (λ x. x *ℤ k) (-ℤ_one m) ∙ pred_ℤ-*ℤ m k

-- the law for one more
step_up : (x n k : ℤ) → (x +ℤ n) *ℤ k ≡ x *ℤ k +ℤ n *ℤ k → (x +ℤ pos 1 +ℤ n) *ℤ k ≡ (x +ℤ pos 1) *ℤ k +ℤ n *ℤ k
step_up x n k h =
    let moved : x +ℤ pos 1 +ℤ n ≡ x +ℤ n +ℤ pos 1 = omega (arith, ints) in
    ap (λ y. y *ℤ k) moved ∙ omega (arith, ints, one_more (x +ℤ n) k, one_more x k, h)

-- the law for one less
step_down : (x n k : ℤ) → (x +ℤ n) *ℤ k ≡ x *ℤ k +ℤ n *ℤ k → (x -ℤ pos 1 +ℤ n) *ℤ k ≡ (x -ℤ pos 1) *ℤ k +ℤ n *ℤ k
step_down x n k h =
    let moved : x -ℤ pos 1 +ℤ n ≡ x +ℤ n -ℤ pos 1 = omega (arith, ints) in
    ap (λ y. y *ℤ k) moved ∙ omega (arith, ints, one_less (x +ℤ n) k, one_less x k, h)

-- a product of a sum is the sum of the products
pub sum_times : (m n k : ℤ) → (m +ℤ n) *ℤ k ≡ m *ℤ k +ℤ n *ℤ k
sum_times m n k = ℤ_ind (λ x. (x +ℤ n) *ℤ k ≡ x *ℤ k +ℤ n *ℤ k)
    (omega (arith, ints, zero-*ℤ k, ap (λ y. y *ℤ k) (let e : pos 0 +ℤ n ≡ n = omega (arith, ints) in e)))
    (λ i h. step_up (pos i) n k h)
    (λ i h. step_down (neg_ℤ (pos i)) n k h)
    m

-- 1 times a number
pub one_times : (x : ℤ) → pos 1 *ℤ x ≡ x
one_times x = omega (arith, ints, one_more (pos 0) x, zero-*ℤ x)

-- -1 times a number
pub minus_one_times : (x : ℤ) → negsuc 0 *ℤ x ≡ neg_ℤ x
minus_one_times x = omega (arith, ints, one_less (pos 0) x, zero-*ℤ x)
