-- A table with a row put in: what holds of each entry before and after.
use Rattle.std.proofs.Common.{◌≡◌, ℕ, List, [], ◌∷◌, length, Bool, true, false, cond, not, ◌&&◌, ltb, ◌⊎◌, inl, inr, refl, sym, ap, subst, filter, arith, ℤ, pos}
use Rattle.std.proofs.lemmas.Bool.{cases_Bool, and_parts, not-true, not-false, false≢true}
use Rattle.std.proofs.lemmas.Int.{ints}
use Rattle.std.specs.Prelude.{Result, Ok, Err, ◌≤ℤ◌, ◌<ℤ◌, int_lt, int_le}
use Rattle.std.specs.List.{list_any}
use Rattle.jesc_linear.specs.declared.rows.Row.{Row}
use Rattle.jesc_linear.specs.Forms.{Form}
use Rattle.jesc_linear.specs.Courses.{Entry, Course, and_then, within, look_at_form, looked_at}
use Rattle.jesc_linear.specs.Courses.Ending.{refuted, wide_forms}
use Rattle.jesc_linear.specs.Elimination.{same_form, covers, stays, is_absurd, entered, limited, put_row}
use Rattle.jesc_linear.proofs.Reductions.{passed}
use Rattle.jesc_linear.proofs.Forming.{equal_forms}
use Rattle.jesc_linear.proofs.Listed.{Every, in_left, in_right, in_either, from_filter, to_filter, any_true, any_false}

-- ---- tests

pub true_less : (x y : ℤ) → int_lt x y ≡ true → x <ℤ y
true_less x y h = grind (arith, ints)

pub false_less : (x y : ℤ) → int_lt x y ≡ false → y ≤ℤ x
false_less x y h = grind (arith, ints)

true_most : (x y : ℤ) → int_le x y ≡ true → x ≤ℤ y
true_most x y h = grind (arith, ints)

false_most : (x y : ℤ) → int_le x y ≡ false → y ≤ℤ x
false_most x y h = grind (arith, ints)

-- ---- courses

pub ok_is : {A B : Type 0} (a b : A) → Path (Result A B) (Ok a) (Ok b) → a ≡ b
ok_is a b e = cc

pub not_ok : {A B : Type 0} (a : A) (b : B) → Err b ≡ Ok a → ⊥
not_ok a b e = cc

pub goes_on : {A B : Type 0} (c : Course A) (f : A → Course B) (b : B) → and_then c f ≡ Ok b → (a : A) × (c ≡ Ok a) × (f a ≡ Ok b)
goes_on (Ok a) f b e = (a, refl, e)
goes_on (Err x) f b e = absurd (not_ok b x e)

pub within_is : (power : ℕ) (number n : ℤ) → within power number ≡ Ok n → number ≡ n
within_is power number n e = sym (passed power number n e).0

pub looked_is : (row r : Row) → looked_at row ≡ Ok r → row ≡ r
looked_is row r e =
    let form = goes_on (look_at_form row.form) (λ u. and_then (within 94 row.bound) (λ n. Ok row)) r e in
    let bound = goes_on (within 94 row.bound) (λ n. Ok row) r form.2 in
    ok_is row r bound.2

limited_is : (entries after : List Entry) → limited entries ≡ Ok after → entries ≡ after
limited_is entries after e = by (ltb 3000 (length entries)) e
  where
    by : (t : Bool) → cond t (Err (wide_forms (length entries))) (Ok entries) ≡ Ok after → entries ≡ after
    by true e = absurd (not_ok after (wide_forms (length entries)) e)
    by false e = ok_is entries after e

-- ---- which rows stay

no_cover : (entries : List Entry) (form : Form) (bound : ℤ) → stays entries (record { form = form; bound = bound }) ≡ true
    → (form ≡ [] → ⊥) × (list_any (covers (record { form = form; bound = bound })) entries ≡ false)
no_cover entries [] bound e = absurd (false≢true e)
no_cover entries (part ∷ rest) bound e = (λ k. cc, not-true (list_any (covers (record { form = part ∷ rest; bound = bound })) entries) e)

some_cover : (entries : List Entry) (form : Form) (bound : ℤ) → stays entries (record { form = form; bound = bound }) ≡ false
    → (form ≡ []) ⊎ (list_any (covers (record { form = form; bound = bound })) entries ≡ true)
some_cover entries [] bound e = inl refl
some_cover entries (part ∷ rest) bound e = inr (not-false (list_any (covers (record { form = part ∷ rest; bound = bound })) entries) e)

not_absurd : (form : Form) (bound : ℤ) → is_absurd (record { form = form; bound = bound }) ≡ false → form ≡ [] → pos 0 ≤ℤ bound
not_absurd [] bound e k = false_less bound (pos 0) e
not_absurd (part ∷ rest) bound e k = absurd (cc)

-- how a row goes in: it is dropped, or it stays and is the last
abbrev pub IsPut : ℕ → Row → List Entry → List Entry → Type 0
IsPut number row entries after =
    (is_absurd row ≡ false) × (((stays entries row ≡ true) × (entered number row entries ≡ after)) ⊎ ((stays entries row ≡ false) × (entries ≡ after)))

put_is : (number : ℕ) (row : Row) (entries after : List Entry) → put_row number row entries ≡ Ok after → IsPut number row entries after
put_is number row entries after e = by (is_absurd row) refl (stays entries row) refl e
  where
    by : (a : Bool) → is_absurd row ≡ a → (s : Bool) → stays entries row ≡ s
        → cond a (Err refuted) (cond s (limited (entered number row entries)) (Ok entries)) ≡ Ok after → IsPut number row entries after
    by true ea s es h = absurd (not_ok after refuted h)
    by false ea true es h = (ea, inl (es, limited_is (entered number row entries) after h))
    by false ea false es h = (ea, inr (es, ok_is entries after h))

-- ---- what holds of a table's rows holds of those that are gone

-- it holds with a greater bound too, and of the empty form with a bound of 0 or more
pub record Lasts (P : Form → ℤ → Type 0) : Type 0 where
  pub looser : (form : Form) (less more : ℤ) → P form less → less ≤ℤ more → P form more
  pub empty : (bound : ℤ) → pos 0 ≤ℤ bound → P [] bound

abbrev pub Has : (Form → ℤ → Type 0) → Row → Type 0
Has P row = P row.form row.bound

abbrev pub EachHas : (Form → ℤ → Type 0) → List Entry → Type 0
EachHas P entries = Every (λ entry. Has P entry.row) entries

second_false : (a b : Bool) → a ≡ true → (a && b) ≡ false → b ≡ false
second_false true b e h = h
second_false false b e h = absurd (false≢true e)

replaced_has : (P : Form → ℤ → Type 0) → Lasts P → (number : ℕ) (row : Row) (entries : List Entry) → list_any (covers row) entries ≡ false
    → EachHas P (entered number row entries) → EachHas P entries
replaced_has P l number row entries none every x h = elim (cases_Bool (same_form x.row.form row.form)) [
  | inl same ↦
      let form : x.row.form ≡ row.form = equal_forms x.row.form row.form same in
      let last : Entry = record { number = number; row = row } in
      let own : Has P row = every last (in_right last (filter (λ entry. not (same_form entry.row.form row.form)) entries) (last ∷ []) (inl refl)) in
      let none_here : covers row x ≡ false = any_false (covers row) entries none x h in
      let more : row.bound ≤ℤ x.row.bound = false_most x.row.bound row.bound (second_false (same_form x.row.form row.form) (int_le x.row.bound row.bound) same none_here) in
      subst (λ f. P f x.row.bound) (sym form) (l.looser row.form row.bound x.row.bound own more)
  | inr other ↦
      let last : Entry = record { number = number; row = row } in
      every x (in_left x (filter (λ entry. not (same_form entry.row.form row.form)) entries) (last ∷ [])
      (to_filter (λ entry. not (same_form entry.row.form row.form)) x entries h (ap not other)))
]

covered_has : (P : Form → ℤ → Type 0) → Lasts P → (row : Row) (entries : List Entry) → list_any (covers row) entries ≡ true → EachHas P entries → Has P row
covered_has P l row entries some every =
    let found = any_true (covers row) entries some in
    let x : Entry = found.0 in
    let parts = and_parts (same_form x.row.form row.form) (int_le x.row.bound row.bound) found.2 in
    let form : x.row.form ≡ row.form = equal_forms x.row.form row.form parts.0 in
    subst (λ f. P f row.bound) form (l.looser x.row.form x.row.bound row.bound (every x found.1) (true_most x.row.bound row.bound parts.1))

dropped_has : (P : Form → ℤ → Type 0) → Lasts P → (row : Row) (entries : List Entry) → is_absurd row ≡ false → stays entries row ≡ false → EachHas P entries → Has P row
dropped_has P l row entries plain dropped every = elim (some_cover entries row.form row.bound dropped) [
  | inl none ↦ subst (λ f. P f row.bound) (sym none) (l.empty row.bound (not_absurd row.form row.bound plain none))
  | inr some ↦ covered_has P l row entries some every
]

pub put_back : (P : Form → ℤ → Type 0) → Lasts P → (number : ℕ) (row : Row) (entries after : List Entry) → put_row number row entries ≡ Ok after
    → EachHas P after → EachHas P entries × Has P row
put_back P l number row entries after e every =
    let put = put_is number row entries after e in
    elim put.1 [
      | inl h ↦
          let last : Entry = record { number = number; row = row } in
          let here : EachHas P (entered number row entries) = subst (EachHas P) (sym h.1) every in (
            replaced_has P l number row entries (no_cover entries row.form row.bound h.0).1 here,
            here last (in_right last (filter (λ entry. not (same_form entry.row.form row.form)) entries) (last ∷ []) (inl refl)),
          )
      | inr h ↦
          let here : EachHas P entries = subst (EachHas P) (sym h.1) every in
          (here, dropped_has P l row entries put.0 h.0 here)
    ]

-- ---- what holds of a table's entries and the row holds of those after

pub put_on : (Q : Entry → Type 0) (number : ℕ) (row : Row) (entries after : List Entry) → put_row number row entries ≡ Ok after
    → Every Q entries → ((row.form ≡ [] → ⊥) → Q (record { number = number; row = row })) → Every Q after
put_on Q number row entries after e every own = elim (put_is number row entries after e).1 [
  | inl h ↦ subst (Every Q) h.1 (λ x k. elim (in_either x (filter (λ entry. not (same_form entry.row.form row.form)) entries) (record { number = number; row = row } ∷ []) k) [
    | inl old ↦ every x (from_filter (λ entry. not (same_form entry.row.form row.form)) x entries old).0
    | inr new ↦ elim new [ inl same ↦ subst Q (sym same) (own (no_cover entries row.form row.bound h.0).0) | inr none ↦ elim none [ ] ]
  ])
  | inr h ↦ subst (Every Q) h.1 every
]
