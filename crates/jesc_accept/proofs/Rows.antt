-- Rows of literals and of steps, where terms have numbers.
use Rattle.std.proofs.Common.{◌≡◌, ℕ, zero, suc, Bool, true, false, List, [], ◌∷◌, ℤ, pos, negsuc, ◌⊎◌, inl, inr, Option, Some, None, refl, sym, ap, ◌∙◌, subst, arith}
use Rattle.std.proofs.lemmas.Bool.{cases_lt}
use Rattle.std.proofs.lemmas.Int.{ints}
use Rattle.std.proofs.lemmas.List.Elements.{All-nil, All-cons}
use Rattle.std.proofs.lemmas.Option.{slice_get_cases}
use Rattle.std.proofs.Math.IntN.{◌+ℤ◌, ◌-ℤ◌, ◌*ℤ◌, neg_ℤ}
use Rattle.std.specs.Prelude.{◌≤ℤ◌, ◌<ℤ◌, ◌||◌, not, All, IfSome, slice_get, int_le}
use Rattle.jesc_linear.specs.declared.rows.Row.{Row}
use Rattle.jesc_linear.specs.declared.rows.LinStep.{LinStep}
use Rattle.jesc_linear.specs.Forms.{Form, value}
use Rattle.jesc_linear.specs.Rows.{Meets}
use Rattle.jesc_linear.specs.Steps.{Derives, DerivesFrom, IsAbsurd}
use Rattle.jesc_linear.proofs.Whole.{keeps_order}
use Rattle.jesc_linear.proofs.Combined.{value_of_combined}
use Rattle.jesc_clauses.specs.declared.atom.Atom.{Atom}
use Rattle.jesc_clauses.specs.Countermodels.{is_met_some, is_unmet_some, is_true_literal, is_true_clause}
use Rattle.jesc_clauses.specs.Normals.{scaled}
use Rattle.jesc_clauses.proofs.Exact.{value_scaled, minus_one_times}
use Rattle.jesc_clauses.proofs.Rounding.{quotient_is_greatest}
use Rattle.jesc_accept.specs.Lemmas.{IsRowOf, AreRowsOf, negations}

-- ---- tests

pub or_left : (a b : Bool) → a ≡ true → (a || b) ≡ true
or_left true b e = refl
or_left false b e = cc

pub or_right : (a b : Bool) → b ≡ true → (a || b) ≡ true
or_right true b e = refl
or_right false b e = e

-- whole numbers, one or the other
pub le_or_more : (x y : ℤ) → (x ≤ℤ y) ⊎ (y <ℤ x)
le_or_more (pos m) (pos n) = elim (cases_lt n m) [ inl l ↦ inr (omega (arith, ints)) | inr l ↦ inl (omega (arith, ints)) ]
le_or_more (pos m) (negsuc n) = inr (omega (arith, ints))
le_or_more (negsuc m) (pos n) = inl (omega (arith, ints))
le_or_more (negsuc m) (negsuc n) = elim (cases_lt m n) [ inl l ↦ inr (omega (arith, ints)) | inr l ↦ inl (omega (arith, ints)) ]

pub le_true : (x y : ℤ) → x ≤ℤ y → int_le x y ≡ true
le_true x y h = grind (arith, ints)

pub more_false : (x y : ℤ) → y <ℤ x → int_le x y ≡ false
more_false x y h = grind (arith, ints)

-- ---- rows of literals

turned_met : (v : ℕ → ℤ) (form : Form) (bound : ℤ) → bound <ℤ value v form → value v (scaled (negsuc 0) form) ≤ℤ (neg_ℤ bound -ℤ pos 1)
turned_met v form bound h = omega (arith, ints, h, value_scaled v (negsuc 0) form, minus_one_times (value v form))

-- the literal's row is met, or its negation is true
row_or_turned : (v : ℕ → ℤ) (atoms : List Atom) (k : ℤ) (row : Row) → IsRowOf atoms k row → Meets v row ⊎ (is_true_literal v atoms (neg_ℤ k) ≡ true)
row_or_turned v atoms (pos zero) row h = absurd h
row_or_turned v atoms (pos (suc k)) row h = elim (le_or_more (value v h.0.form) h.0.bound) [
  | inl l ↦ inl (subst (Meets v) (sym h.1.1) l)
  | inr l ↦ inr (ap (is_unmet_some v) h.1.0 ∙ ap not (more_false (value v h.0.form) h.0.bound l))
]
row_or_turned v atoms (negsuc k) row h = elim (le_or_more (value v h.0.form) h.0.bound) [
  | inl l ↦ inr (ap (is_met_some v) h.1.0 ∙ le_true (value v h.0.form) h.0.bound l)
  | inr l ↦ inl (subst (Meets v) (sym h.1.1) (turned_met v h.0.form h.0.bound l))
]

-- the literals' rows are met, or one of the negations is true
pub rows_or_turned : (v : ℕ → ℤ) (atoms : List Atom) (literals : List ℤ) (rows : List Row) → AreRowsOf atoms literals rows → All (Meets v) rows ⊎ (is_true_clause v atoms (negations literals) ≡ true)
rows_or_turned v atoms [] [] h = inl (All-nil (Meets v))
rows_or_turned v atoms [] (row ∷ rows) h = absurd h
rows_or_turned v atoms (k ∷ literals) [] h = absurd h
rows_or_turned v atoms (k ∷ literals) (row ∷ rows) h = elim (row_or_turned v atoms k row h.0) [
  | inr t ↦ inr (or_left (is_true_literal v atoms (neg_ℤ k)) (is_true_clause v atoms (negations literals)) t)
  | inl m ↦ elim (rows_or_turned v atoms literals rows h.1) [
    | inl all ↦ inl (All-cons (Meets v) row rows m all)
    | inr t ↦ inr (or_right (is_true_literal v atoms (neg_ℤ k)) (is_true_clause v atoms (negations literals)) t)
  ]
]

-- ---- rows of steps

derived_is_met : (v : ℕ → ℤ) (f g : Row) (l : LinStep) → Meets v f → Meets v g → Derives f g l → Meets v l.row
derived_is_met v f g l mf mg w =
    let equal = value_of_combined v l.a f.form l.b g.form l.d l.row.form w.first_row.form.rises w.second_row.form.rises w.made_row.form.rises w.form in
    let left = keeps_order l.a (value v f.form) f.bound (omega (arith, ints, w.range.a_low)) mf in
    let right = keeps_order l.b (value v g.form) g.bound w.range.b_low mg in
    let below : (l.d *ℤ value v l.row.form) ≤ℤ (l.a *ℤ f.bound +ℤ l.b *ℤ g.bound) = omega (arith, ints, equal, left, right) in
    subst (λ b. value v l.row.form ≤ℤ b) (sym w.bound) (quotient_is_greatest l.d (value v l.row.form) (l.a *ℤ f.bound +ℤ l.b *ℤ g.bound) w.range.d_low below)

found_is_met : (v : ℕ → ℤ) (rows : List Row) (i : ℕ) → All (Meets v) rows → IfSome (slice_get rows i) (Meets v)
found_is_met v rows i met = elim (slice_get_cases rows i).1 [
  | inl w ↦ let here : Meets v w.0 = subst (Meets v) w.3 (met i w.0 w.1) in subst (λ o. IfSome o (Meets v)) (sym w.2) here
  | inr w ↦ subst (λ o. IfSome o (Meets v)) (sym w.1) tt
]

made_is_met : (v : ℕ → ℤ) (f g : Option Row) (l : LinStep) → IfSome f (Meets v) → IfSome g (Meets v) → DerivesFrom f g l → Meets v l.row
made_is_met v (Some f) (Some g) l mf mg w = derived_is_met v f g l mf mg w
made_is_met v (Some f) None l mf mg w = absurd w
made_is_met v None g l mf mg w = absurd w

pub step_is_met : (v : ℕ → ℤ) (rows : List Row) (l : LinStep) → All (Meets v) rows → DerivesFrom (slice_get rows l.i) (slice_get rows l.j) l → Meets v l.row
step_is_met v rows l met w = made_is_met v (slice_get rows l.i) (slice_get rows l.j) l (found_is_met v rows l.i met) (found_is_met v rows l.j met) w

pub absurd_is_met : (v : ℕ → ℤ) (l : LinStep) → IsAbsurd l → Meets v l.row → ⊥
absurd_is_met v l h m = omega (arith, ints, ap (value v) h.0, h.1, m)
