-- The way back: a value that is given to a term meets the rows that were set aside for it.
use Rattle.std.proofs.Common.{◌≡◌, ◌≢◌, ℕ, zero, suc, ◌+◌, ◌==◌, List, [], ◌∷◌, Bool, true, false, cond, inl, inr, Option, Some, None, ℤ, pos, negsuc, refl, sym, ◌∙◌, ap, subst, arith}
use Rattle.std.proofs.lemmas.Bool.{cases_eq, eq-eqb, ne_eqb, not-true}
use Rattle.std.proofs.lemmas.Bool.Decides.{Decides-int_eq, not_from_Decides}
use Rattle.std.proofs.lemmas.Int.{ints}
use Rattle.std.proofs.Math.IntN.{◌+ℤ◌, ◌-ℤ◌, ◌*ℤ◌, neg_ℤ, *ℤ-zero, zero-*ℤ}
use Rattle.std.specs.Prelude.{Ok, Err, ◌≤ℤ◌, ◌<ℤ◌, int_lt, unsigned_abs, IfSome}
use Rattle.std.specs.Ordering.{int_eq}
use Rattle.std.specs.Int.{int_div_euclid}
use Rattle.jesc_linear.specs.declared.rows.Row.{Row}
use Rattle.jesc_linear.specs.Forms.{Form, value, coefficient_of, RisesFrom}
use Rattle.jesc_linear.specs.Rows.{Meets}
use Rattle.jesc_linear.specs.Courses.{Entry, and_then, within}
use Rattle.jesc_linear.specs.Elimination.{coefficient_at, has_term, is_upper, Values, value_in, sum_without, slack, Limit, Limits, lesser, greater, tightened, limits_of, gap_of, chosen, no_limits, give}
use Rattle.jesc_linear.proofs.Whole.{times_over_sum, sum_under_times, keeps_order}
use Rattle.jesc_linear.proofs.Combined.{coefficient_before, coefficient_here, coefficient_other}
use Rattle.jesc_linear.proofs.Sound.{quotient_multiple}
use Rattle.jesc_linear.proofs.Listed.{Every}
use Rattle.jesc_linear.proofs.Entered.{ok_is, not_ok, goes_on, within_is, true_less, false_less}

-- ---- values that differ at one term

abbrev pub AgreeBut : ℕ → (ℕ → ℤ) → (ℕ → ℤ) → Type 0
AgreeBut term v w = (t : ℕ) → t ≢ term → v t ≡ w t

-- a form that lacks the term has the same value
pub value_without : (v w : ℕ → ℤ) (term low : ℕ) (form : Form) → AgreeBut term v w → RisesFrom low form → coefficient_of form term ≡ pos 0 → value v form ≡ value w form
value_without v w term low [] same r none = refl
value_without v w term low (part ∷ rest) same r none = elim (cases_eq part.1 term) [
  | inl here ↦
      let number : part.0 ≡ pos 0 = sym (subst (λ t. coefficient_of (part ∷ rest) t ≡ part.0) here (coefficient_here part rest)) ∙ none in
      let after : coefficient_of rest term ≡ pos 0 = coefficient_before (part.1 + 1) rest term r.1 (omega (arith, here)) in
      let others = value_without v w term (part.1 + 1) rest same r.1 after in
      omega (arith, ints, others, ap (λ x. x *ℤ v part.1) number, ap (λ x. x *ℤ w part.1) number, zero-*ℤ (v part.1), zero-*ℤ (w part.1))
  | inr other ↦
      let after : coefficient_of rest term ≡ pos 0 = sym (coefficient_other part rest term (λ e. other (sym e))) ∙ none in
      let others = value_without v w term (part.1 + 1) rest same r.1 after in
      omega (arith, ints, others, ap (λ x. part.0 *ℤ x) (same part.1 other))
]

pub value_given : (values : Values) (term : ℕ) (z : ℤ) → value_in ((term, z) ∷ values) term ≡ z
value_given values term z = let e : (term == term) ≡ true = eq-eqb term term refl in rw e refl

pub value_kept : (values : Values) (term : ℕ) (z : ℤ) → AgreeBut term (value_in values) (value_in ((term, z) ∷ values))
value_kept values term z t other = let e : (term == t) ≡ false = ne_eqb term t (λ same. other (sym same)) in rw e refl

-- ---- the sum without the term

pub summed : (values : Values) (term : ℕ) (z : ℤ) (low : ℕ) (sum : ℤ) (form : Form) (total : ℤ) → RisesFrom low form → sum_without values term sum form ≡ Ok total
    → value (value_in ((term, z) ∷ values)) form +ℤ sum ≡ total +ℤ coefficient_of form term *ℤ z
summed values term z low sum [] total r e = omega (arith, ints, ok_is sum total e, zero-*ℤ z)
summed values term z low sum (part ∷ rest) total r e = elim (cases_eq part.1 term) [
  | inl here ↦
      let test : (part.1 == term) ≡ true = eq-eqb part.1 term here in
      let left : sum_without values term sum rest ≡ Ok total = rw test at e in
      let others = summed values term z (part.1 + 1) sum rest total r.1 left in
      let after : coefficient_of rest term ≡ pos 0 = coefficient_before (part.1 + 1) rest term r.1 (omega (arith, here)) in
      let own : coefficient_of (part ∷ rest) term ≡ part.0 = subst (λ t. coefficient_of (part ∷ rest) t ≡ part.0) here (coefficient_here part rest) in
      let given : value_in ((term, z) ∷ values) part.1 ≡ z = ap (value_in ((term, z) ∷ values)) here ∙ value_given values term z in
      omega (arith, ints, others, ap (λ x. x *ℤ z) after, ap (λ x. x *ℤ z) own, ap (λ x. part.0 *ℤ x) given, zero-*ℤ z)
  | inr other ↦
      let test : (part.1 == term) ≡ false = ne_eqb part.1 term other in
      let product : ℤ = part.0 *ℤ value_in values part.1 in
      let left : and_then (within 125 (sum +ℤ product)) (λ more. sum_without values term more rest) ≡ Ok total = rw test at e in
      let step = goes_on (within 125 (sum +ℤ product)) (λ more. sum_without values term more rest) total left in
      let more : sum +ℤ product ≡ step.0 = within_is 125 (sum +ℤ product) step.0 step.1 in
      let others = summed values term z (part.1 + 1) step.0 rest total r.1 step.2 in
      let own : coefficient_of (part ∷ rest) term ≡ coefficient_of rest term = coefficient_other part rest term (λ k. other (sym k)) in
      let kept : value_in values part.1 ≡ value_in ((term, z) ∷ values) part.1 = value_kept values term z part.1 other in
      omega (arith, ints, others, more, ap (λ x. x *ℤ z) own, ap (λ x. part.0 *ℤ x) kept)
]

-- what is left to the term, where it has that value
pub slack_is : (values : Values) (term : ℕ) (z : ℤ) (row : Row) (left : ℤ) → RisesFrom 0 row.form → slack values term row ≡ Ok left
    → value (value_in ((term, z) ∷ values)) row.form +ℤ left ≡ row.bound +ℤ coefficient_of row.form term *ℤ z
slack_is values term z row left r e =
    let step = goes_on (sum_without values term (pos 0) row.form) (λ sum. Ok (row.bound -ℤ sum)) left e in
    let total : ℤ = step.0 in
    let whole = summed values term z 0 (pos 0) row.form total r step.1 in
    let rest : row.bound -ℤ total ≡ left = ok_is (row.bound -ℤ total) left step.2 in
    omega (arith, ints, whole, rest)

-- ---- the strictest limits

abbrev pub AtLeast : ℤ → Option Limit → Type 0
AtLeast z limit = IfSome limit (λ l. l.0 ≤ℤ z)

abbrev pub AtMost : ℤ → Option Limit → Type 0
AtMost z limit = IfSome limit (λ l. z ≤ℤ l.0)

abbrev pub Allows : ℤ → Limits → Type 0
Allows z limits = AtLeast z limits.least × AtMost z limits.greatest

under_lesser : (z : ℤ) (older : Option Limit) (limit : Limit) → AtMost z (lesser older limit) → AtMost z older × (z ≤ℤ limit.0)
under_lesser z None limit h = (tt, h)
under_lesser z (Some older) limit h = by (int_lt limit.0 older.0) refl h
  where
    by : (t : Bool) → int_lt limit.0 older.0 ≡ t → AtMost z (cond t (Some limit) (Some older)) → (z ≤ℤ older.0) × (z ≤ℤ limit.0)
    by true e k = let l = true_less limit.0 older.0 e in (omega (arith, ints, k, l), k)
    by false e k = let l = false_less limit.0 older.0 e in (k, omega (arith, ints, k, l))

over_greater : (z : ℤ) (older : Option Limit) (limit : Limit) → AtLeast z (greater older limit) → AtLeast z older × (limit.0 ≤ℤ z)
over_greater z None limit h = (tt, h)
over_greater z (Some older) limit h = by (int_lt older.0 limit.0) refl h
  where
    by : (t : Bool) → int_lt older.0 limit.0 ≡ t → AtLeast z (cond t (Some limit) (Some older)) → (older.0 ≤ℤ z) × (limit.0 ≤ℤ z)
    by true e k = let l = true_less older.0 limit.0 e in (omega (arith, ints, k, l), k)
    by false e k = let l = false_less older.0 limit.0 e in (k, omega (arith, ints, k, l))

pub chosen_allowed : (least greatest : Option Limit) (z : ℤ) → chosen least greatest ≡ Ok z → AtLeast z least × AtMost z greatest
chosen_allowed None None z e = (tt, tt)
chosen_allowed None (Some greatest) z e = let same = ok_is greatest.0 z e in (tt, omega (arith, ints, same))
chosen_allowed (Some least) None z e = let same = ok_is least.0 z e in (omega (arith, ints, same), tt)
chosen_allowed (Some least) (Some greatest) z e = by (int_lt greatest.0 least.0) refl e
  where
    by : (t : Bool) → int_lt greatest.0 least.0 ≡ t → cond t (Err (gap_of least.1 greatest.1)) (Ok least.0) ≡ Ok z → (least.0 ≤ℤ z) × (z ≤ℤ greatest.0)
    by true l h = absurd (not_ok z (gap_of least.1 greatest.1) h)
    by false l h = let same = ok_is least.0 z h in let more = false_less greatest.0 least.0 l in (omega (arith, ints, same), omega (arith, ints, same, more))

-- ---- what a limit leaves

under_upper : (c left z : ℤ) → pos 0 <ℤ c → z ≤ℤ int_div_euclid left c → (c *ℤ z) ≤ℤ left
under_upper c left z p h =
    let more = keeps_order c z (int_div_euclid left c) (omega (arith, ints, p)) h in
    let floor = quotient_multiple c left (omega (arith, ints, p)) in
    omega (arith, ints, more, floor)

negated : (n : ℕ) (z : ℤ) → neg_ℤ (pos n) *ℤ z ≡ pos n *ℤ neg_ℤ z
negated n z =
    let none : neg_ℤ (pos n) +ℤ pos n ≡ pos 0 = omega (arith, ints) in
    let also : z +ℤ neg_ℤ z ≡ pos 0 = omega (arith, ints) in
    omega (arith, ints, times_over_sum (neg_ℤ (pos n)) (pos n) z, ap (λ x. x *ℤ z) none, zero-*ℤ z, sum_under_times (pos n) z (neg_ℤ z), ap (λ x. pos n *ℤ x) also, *ℤ-zero (pos n))

over_lower : (c left z : ℤ) → c <ℤ pos 0 → neg_ℤ (int_div_euclid left (pos (unsigned_abs c))) ≤ℤ z → (c *ℤ z) ≤ℤ left
over_lower (pos n) left z p h = absurd (omega (arith, ints, p))
over_lower (negsuc n) left z p h =
    let turned : neg_ℤ z ≤ℤ int_div_euclid left (pos (suc n)) = omega (arith, ints, h) in
    let more = keeps_order (pos (suc n)) (neg_ℤ z) (int_div_euclid left (pos (suc n))) (omega (arith, ints)) turned in
    let floor = quotient_multiple (pos (suc n)) left (omega (arith, ints)) in
    omega (arith, ints, more, floor, negated (suc n) z)

pub is_lower_one : (term : ℕ) (entry : Entry) → has_term term entry ≡ true → is_upper term entry ≡ false → coefficient_at term entry <ℤ pos 0
is_lower_one term entry some not_upper =
    let c : ℤ = coefficient_at term entry in
    let most : c ≤ℤ pos 0 = false_less (pos 0) c not_upper in
    let nonzero : c ≢ pos 0 = not_from_Decides (int_eq c (pos 0)) (Decides-int_eq c (pos 0)) (not-true (int_eq c (pos 0)) some) in
    below c most nonzero
  where
    below : (c : ℤ) → c ≤ℤ pos 0 → c ≢ pos 0 → c <ℤ pos 0
    below (pos zero) l n = absurd (n refl)
    below (pos (suc m)) l n = absurd (omega (arith, ints, l))
    below (negsuc m) l n = omega (arith, ints)

-- one row's limit
one_limit : (term : ℕ) (entry : Entry) (left z : ℤ) (limits : Limits) → has_term term entry ≡ true → Allows z (tightened term entry left limits)
    → Allows z limits × ((coefficient_at term entry *ℤ z) ≤ℤ left)
one_limit term entry left z limits some h = by (is_upper term entry) refl h
  where
    c : ℤ
    c = coefficient_at term entry

    by : (t : Bool) → is_upper term entry ≡ t
        → Allows z (cond t (record { least = limits.least; greatest = lesser limits.greatest (int_div_euclid left c, entry) })
        (record { least = greater limits.least (neg_ℤ (int_div_euclid left (pos (unsigned_abs c))), entry); greatest = limits.greatest }))
        → Allows z limits × ((c *ℤ z) ≤ℤ left)
    by true e k =
        let parts = under_lesser z limits.greatest (int_div_euclid left c, entry) k.1 in
        ((k.0, parts.0), under_upper c left z (true_less (pos 0) c e) parts.1)
    by false e k =
        let parts = over_greater z limits.least (neg_ℤ (int_div_euclid left (pos (unsigned_abs c))), entry) k.0 in
        ((parts.0, k.1), over_lower c left z (is_lower_one term entry some e) parts.1)

-- what the row leaves to the term is at least the term's product
abbrev pub HasRoom : Values → ℕ → ℤ → Entry → Type 0
HasRoom values term z entry = (left : ℤ) × (slack values term entry.row ≡ Ok left) × ((coefficient_at term entry *ℤ z) ≤ℤ left)

all_limits : (values : Values) (term : ℕ) (z : ℤ) (entries : List Entry) (limits out : Limits) → Every (λ entry. has_term term entry ≡ true) entries
    → limits_of values term entries limits ≡ Ok out → Allows z out → Allows z limits × Every (HasRoom values term z) entries
all_limits values term z [] limits out some e h = (subst (Allows z) (sym (ok_is limits out e)) h, λ x k. elim k [ ])
all_limits values term z (entry ∷ entries) limits out some e h =
    let step = goes_on (slack values term entry.row) (λ left. limits_of values term entries (tightened term entry left limits)) out e in
    let rest = all_limits values term z entries (tightened term entry step.0 limits) out (λ x k. some x (inr k)) step.2 h in
    let here = one_limit term entry step.0 z limits (some entry (inl refl)) rest.0 in
    (here.0, λ x k. elim k [ inl same ↦ subst (HasRoom values term z) (sym same) (step.0, step.1, here.1) | inr later ↦ rest.1 x later ])

abbrev pub MeetsEach : (ℕ → ℤ) → List Entry → Type 0
MeetsEach v entries = Every (λ entry. Meets v entry.row) entries

-- the value that is given meets each row
pub given_meets : (values : Values) (term : ℕ) (entries : List Entry) (found : Values) → Every (λ entry. has_term term entry ≡ true) entries
    → Every (λ entry. RisesFrom 0 entry.row.form) entries → give term entries values ≡ Ok found
    → (z : ℤ) × (found ≡ (term, z) ∷ values) × MeetsEach (value_in ((term, z) ∷ values)) entries
given_meets values term entries found some rise e =
    let limits = goes_on (limits_of values term entries no_limits)
    (λ limits. and_then (chosen limits.least limits.greatest) (λ value. and_then (within 94 value) (λ v. Ok ((term, value) ∷ values)))) found e in
    let choice = goes_on (chosen limits.0.least limits.0.greatest) (λ value. and_then (within 94 value) (λ v. Ok ((term, value) ∷ values))) found limits.2 in
    let z : ℤ = choice.0 in
    let last = goes_on (within 94 z) (λ v. Ok ((term, z) ∷ values)) found choice.2 in
    let room = all_limits values term z entries no_limits limits.0 some limits.1 (chosen_allowed limits.0.least limits.0.greatest z choice.1) in (
      z,
      sym (ok_is ((term, z) ∷ values) found last.2),
      λ x k.
          let r = room.1 x k in
          let whole = slack_is values term z x.row r.0 (rise x k) r.1 in
          omega (arith, ints, whole, r.2),
    )
