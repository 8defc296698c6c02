-- The rows that set the strictest limits, between which there is a gap.
use Rattle.std.proofs.Common.{◌≡◌, ℕ, List, [], ◌∷◌, Bool, true, false, cond, inl, inr, Option, Some, None, ℤ, pos, refl, sym, ap, subst}
use Rattle.std.proofs.Math.IntN.{neg_ℤ}
use Rattle.std.specs.Prelude.{Ok, Err, ◌<ℤ◌, int_lt, unsigned_abs, IfSome}
use Rattle.std.specs.Int.{int_div_euclid}
use Rattle.jesc_linear.specs.Courses.{Entry, Ending, Course, and_then, within}
use Rattle.jesc_linear.specs.Courses.Ending.{gap}
use Rattle.jesc_linear.specs.Elimination.{Values, is_upper, coefficient_at, slack, Limit, Limits, lesser, greater, tightened, limits_of, gap_of, chosen, no_limits, give}
use Rattle.jesc_linear.proofs.Listed.{In, Every}
use Rattle.jesc_linear.proofs.Entered.{ok_is, not_ok, goes_on, true_less}
use Rattle.jesc_linear.proofs.Gapless.{none_then, no_gap, none_within, none_limits, err_is, ends_later}

pub record IsLower (values : Values) (term : ℕ) (entries : List Entry) (limit : Limit) : Type 0 where
  pub there : In limit.1 entries
  pub kind : is_upper term limit.1 ≡ false
  pub left : ℤ
  pub leaves : slack values term limit.1.row ≡ Ok left
  pub is : limit.0 ≡ neg_ℤ (int_div_euclid left (pos (unsigned_abs (coefficient_at term limit.1))))

pub record IsUpper (values : Values) (term : ℕ) (entries : List Entry) (limit : Limit) : Type 0 where
  pub there : In limit.1 entries
  pub kind : is_upper term limit.1 ≡ true
  pub left : ℤ
  pub leaves : slack values term limit.1.row ≡ Ok left
  pub is : limit.0 ≡ int_div_euclid left (coefficient_at term limit.1)

abbrev AreSet : Values → ℕ → List Entry → Limits → Type 0
AreSet values term entries limits = IfSome limits.least (IsLower values term entries) × IfSome limits.greatest (IsUpper values term entries)

one_or_other : (P : Limit → Type 0) (t : Bool) (x y : Limit) → P x → P y → IfSome (cond t (Some x) (Some y)) P
one_or_other P true x y h k = h
one_or_other P false x y h k = k

lesser_is : (P : Limit → Type 0) (older : Option Limit) (limit : Limit) → IfSome older P → P limit → IfSome (lesser older limit) P
lesser_is P None limit h k = k
lesser_is P (Some older) limit h k = one_or_other P (int_lt limit.0 older.0) limit older k h

greater_is : (P : Limit → Type 0) (older : Option Limit) (limit : Limit) → IfSome older P → P limit → IfSome (greater older limit) P
greater_is P None limit h k = k
greater_is P (Some older) limit h k = one_or_other P (int_lt older.0 limit.0) limit older k h

one_set : (values : Values) (term : ℕ) (all : List Entry) (entry : Entry) (left : ℤ) (limits : Limits) → In entry all → slack values term entry.row ≡ Ok left
    → AreSet values term all limits → AreSet values term all (tightened term entry left limits)
one_set values term all entry left limits there leaves h = by (is_upper term entry) refl
  where
    c : ℤ
    c = coefficient_at term entry

    by : (t : Bool) → is_upper term entry ≡ t
        → AreSet values term all (cond t (record { least = limits.least; greatest = lesser limits.greatest (int_div_euclid left c, entry) })
        (record { least = greater limits.least (neg_ℤ (int_div_euclid left (pos (unsigned_abs c))), entry); greatest = limits.greatest }))
    by true e = (
      h.0,
      lesser_is (IsUpper values term all) limits.greatest (int_div_euclid left c, entry) h.1
          (record { there = there; kind = e; left = left; leaves = leaves; is = refl }),
    )
    by false e = (
      greater_is (IsLower values term all) limits.least (neg_ℤ (int_div_euclid left (pos (unsigned_abs c))), entry) h.0
          (record { there = there; kind = e; left = left; leaves = leaves; is = refl }),
      h.1,
    )

all_set : (values : Values) (term : ℕ) (all entries : List Entry) (limits out : Limits) → Every (λ entry. In entry all) entries → AreSet values term all limits
    → limits_of values term entries limits ≡ Ok out → AreSet values term all out
all_set values term all [] limits out there h e = subst (AreSet values term all) (ok_is limits out e) h
all_set values term all (entry ∷ entries) limits out there h e =
    let step = goes_on (slack values term entry.row) (λ left. limits_of values term entries (tightened term entry left limits)) out e in
    all_set values term all entries (tightened term entry step.0 limits) out (λ x k. there x (inr k))
    (one_set values term all entry step.0 limits (there entry (inl refl)) step.1 h) step.2

-- ---- the gap

-- the strictest limits leave no value
pub record Crossed (values : Values) (term : ℕ) (entries : List Entry) (ending : Ending) : Type 0 where
  pub least : Limit
  pub greatest : Limit
  pub lower : IsLower values term entries least
  pub upper : IsUpper values term entries greatest
  pub past : greatest.0 <ℤ least.0
  pub is : gap_of least.1 greatest.1 ≡ ending

chosen_crossed : (values : Values) (term : ℕ) (entries : List Entry) (least greatest : Option Limit) (ending : Ending) → IfSome least (IsLower values term entries)
    → IfSome greatest (IsUpper values term entries) → chosen least greatest ≡ Err ending → Crossed values term entries ending
chosen_crossed values term entries None None ending h k e = absurd (not_ok (pos 0) ending (sym e))
chosen_crossed values term entries None (Some greatest) ending h k e = absurd (not_ok greatest.0 ending (sym e))
chosen_crossed values term entries (Some least) None ending h k e = absurd (not_ok least.0 ending (sym e))
chosen_crossed values term entries (Some least) (Some greatest) ending h k e = by (int_lt greatest.0 least.0) refl e
  where
    by : (t : Bool) → int_lt greatest.0 least.0 ≡ t → cond t (Err (gap_of least.1 greatest.1)) (Ok least.0) ≡ Err ending → Crossed values term entries ending
    by true l q = record { least = least; greatest = greatest; lower = h; upper = k; past = true_less greatest.0 least.0 l; is = err_is (gap_of least.1 greatest.1) ending q }
    by false l q = absurd (not_ok least.0 ending (sym q))

pub give_crossed : (values : Values) (term : ℕ) (entries : List Entry) (e f : Entry) → give term entries values ≡ Err (gap e f) → Crossed values term entries (gap e f)
give_crossed values term entries e f same =
    let first = ends_later (limits_of values term entries no_limits)
    (λ limits. and_then (chosen limits.least limits.greatest) (λ value. and_then (within 94 value) (λ v. Ok ((term, value) ∷ values)))) e f
    (none_limits values term entries no_limits) same in
    let limits : Limits = first.0 in
    let set = all_set values term entries entries no_limits limits (λ x k. k) (tt, tt) first.1 in
    chosen_crossed values term entries limits.least limits.greatest (gap e f) set.0 set.1 (choice (chosen limits.least limits.greatest) first.2)
  where
    choice : (c : Course ℤ) → and_then c (λ value. and_then (within 94 value) (λ v. Ok ((term, value) ∷ values))) ≡ Err (gap e f) → c ≡ Err (gap e f)
    choice (Err ending) h = ap (λ (x : Ending). Err x) (err_is ending (gap e f) h)
    choice (Ok z) h = absurd (no_gap (and_then (within 94 z) (λ v. Ok ((term, z) ∷ values))) e f
        (none_then (within 94 z) (λ v. Ok ((term, z) ∷ values)) (none_within 94 z) (λ v. tt)) h)
