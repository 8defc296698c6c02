-- Parts of forms in the numbers of a line. Words that only contracts inside the crate use.
use Rattle.std.specs.Prelude.{◌≡◌, ◌≤◌, ◌^◌, ℕ, ℤ, pos, unsigned_abs}
use Rattle.jesc_accept.specs.Lemmas.{IsThere}

-- the two numbers are the coefficient and the term of the part, within their bounds
pub record IsPartOf (terms : ℕ) (coefficient term : ℤ) (part : ℤ × ℕ) : Type 0 where
  pub coefficient_is : coefficient ≡ part.0
  pub term_is : term ≡ pos part.1
  pub narrow : unsigned_abs part.0 ≤ 2 ^ 31
  pub there : IsThere terms part

-- they are those of no part
abbrev pub AreNoPart : ℕ → ℤ → ℤ → Type 0
AreNoPart terms coefficient term = (part : ℤ × ℕ) → IsPartOf terms coefficient term part → ⊥
