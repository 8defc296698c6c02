-- The normal form of 'a sum is at most a bound'.
use Rattle.std.specs.Prelude.{◌≡◌, ℕ, ◌≤◌, ◌^◌, ℤ, pos, ◌-ℤ◌, ◌*ℤ◌, ◌<ℤ◌, int_le, unsigned_abs, [], ◌∷◌, not, Bool}
use Rattle.std.specs.Int.{int_div_euclid, ◌∣◌}
use Rattle.std.proofs.Math.IntN.{neg_ℤ}
use Rattle.jesc_linear.specs.Forms.{Form, IsForm, value}
use Rattle.jesc_clauses.specs.declared.atom.Atom.{Atom}
use Rattle.jesc_clauses.specs.declared.normal.Normal.{Normal}
use Rattle.jesc_clauses.specs.declared.normal.Normal.TheVariants.{Constant, Holds, Fails}

-- each coefficient times k
abbrev pub scaled : ℤ → Form → Form
scaled k [] = []
scaled k (part ∷ rest) = (k *ℤ part.0, part.1) ∷ scaled k rest

-- d divides each coefficient
abbrev pub Divides : ℕ → Form → Type 0
Divides d [] = Unit {0}
Divides d (part ∷ rest) = (d ∣ unsigned_abs part.0) × Divides d rest

abbrev pub IsFirstPositive : Form → Type 0
IsFirstPositive [] = ⊥
IsFirstPositive (part ∷ rest) = pos 0 <ℤ part.0

-- the terms rise, no coefficient is 0, the first is positive and no number but 1 divides them all
pub record IsNormal (form : Form) : Type 0 where
  pub sorted : IsForm form
  pub first : IsFirstPositive form
  pub divisor : (d : ℕ) → Divides d form → d ≡ 1

-- the atom over d: its form is the given one over d
pub record IsOver (d : ℤ) (form : Form) (atom : Atom) : Type 0 where
  pub positive : pos 0 <ℤ d
  pub times : scaled d atom.form ≡ form
  pub normal : IsNormal atom.form

-- a constant comparison comes to its truth; any other to the atom over the greatest divisor, the bound rounded down, or,
-- where the first coefficient is negative, to the negation of the atom of the turned sum
abbrev pub IsNormalOf : Form → ℤ → Normal → Type 0
IsNormalOf form bound (Constant truth) = (form ≡ []) × (truth ≡ int_le (pos 0) bound)
IsNormalOf form bound (Holds atom) = (d : ℤ) × (IsOver d form atom × (atom.bound ≡ int_div_euclid bound d))
IsNormalOf form bound (Fails atom) = (d : ℤ) × (IsOver d (scaled (neg_ℤ (pos 1)) form) atom × (atom.bound ≡ neg_ℤ (int_div_euclid bound d) -ℤ pos 1))

-- the atom's sum is at most its bound
abbrev pub is_met : (ℕ → ℤ) → Atom → Bool
is_met v atom = int_le (value v atom.form) atom.bound

-- what the normal form says
abbrev pub is_so : (ℕ → ℤ) → Normal → Bool
is_so v (Constant truth) = truth
is_so v (Holds atom) = is_met v atom
is_so v (Fails atom) = not (is_met v atom)

-- a difference of two coefficients of 32 bits
abbrev pub IsShort : ℤ × ℕ → Type 0
IsShort part = unsigned_abs part.0 ≤ 2 ^ 33
