-- A gap comes only between two rows whose coefficients at the variable have a size of 2 or more.
use Rattle.std.proofs.Common.{◌≡◌, ℕ, ◌≤◌, List, [], ◌∷◌, length, Bool, true, false, cond, not, ltb, ◌⊎◌, inl, inr, filter, ℤ, pos, refl, sym, ◌∙◌, ap, subst, arith}
use Rattle.std.proofs.lemmas.Bool.{cases_eq, true≢false}
use Rattle.std.proofs.lemmas.Bool.Decides.{Decides-int_eq}
use Rattle.std.specs.Ordering.{int_eq}
use Rattle.std.proofs.lemmas.Int.{ints}
use Rattle.std.specs.Prelude.{Ok, Err, All, ◌≤ℤ◌, ◌<ℤ◌, int_lt, unsigned_abs}
use Rattle.jesc_linear.specs.declared.rows.Row.{Row}
use Rattle.jesc_linear.specs.Forms.{Form, value, coefficient_of, IsForm}
use Rattle.jesc_linear.specs.Rows.{Meets}
use Rattle.jesc_linear.specs.Sums.{sum_of}
use Rattle.jesc_linear.specs.Evidence.{HaveGap}
use Rattle.jesc_linear.specs.Courses.{Entry, Ending, Course}
use Rattle.jesc_linear.specs.Courses.Ending.{gap}
use Rattle.jesc_linear.specs.Elimination.{Table, Values, value_in, put_given, stage, coefficient_at, has_term, without, gap_of, give, Solves, Decides}
use Rattle.jesc_linear.specs.Elimination.Solves.{no_variable, stage_ends, stage_done}
use Rattle.jesc_linear.specs.Elimination.Decides.{rows_end, rows_put}
use Rattle.jesc_linear.proofs.Listed.{In, Every, from_filter}
use Rattle.jesc_linear.proofs.Entered.{not_ok, true_less, Lasts, EachHas}
use Rattle.jesc_linear.proofs.Rounds.{sum_row, IsPair, stage_back, stage_on}
use Rattle.jesc_linear.proofs.Quotients.{divided_lacks, divided_met}
use Rattle.jesc_linear.proofs.Cancelled.{sum_lacks}
use Rattle.jesc_linear.proofs.Returning.{is_lower_one, MeetsEach}
use Rattle.jesc_linear.proofs.Meeting.{InOrder, order_of_given, order_of_stage, order_of_rest, rest_meets, solution_meets}
use Rattle.jesc_linear.proofs.Gapless.{no_gap, none_given, none_stage, err_is, later_or_here}
use Rattle.jesc_linear.proofs.Strictest.{Crossed, give_crossed}
use Rattle.jesc_linear.proofs.Room.{size_some, above_not_none, below_not_none, pair_has_room}

-- ---- the rows stood in the table before the stage, so their sum went in

sum_has_none : (term : ℕ) (upper lower : Entry) (entries : List Entry) → IsPair term entries upper lower → coefficient_of (sum_row term upper.row lower.row).form term ≡ pos 0
sum_has_none term upper lower entries pair = divided_lacks (sum_of term upper.row lower.row) term
    (sum_lacks term upper.row lower.row (true_less (pos 0) (coefficient_at term upper) pair.1) (true_less (coefficient_at term lower) (pos 0) pair.3))

zero_has_none : (c : ℤ) → c ≡ pos 0 → not (int_eq c (pos 0)) ≡ false
zero_has_none c e = ap not ((Decides-int_eq c (pos 0)).1 e)

stood_before : (term : ℕ) (table after : Table) → stage term table ≡ Ok after → Every (λ x. has_term term x ≡ true → In x table.entries) after.entries
stood_before term table after e = stage_on (λ x. has_term term x ≡ true → In x table.entries) term table after e (λ x h some. h)
    (λ at upper lower pair some has. absurd (true≢false (sym has ∙ zero_has_none (coefficient_of (sum_row term upper.row lower.row).form term) (sum_has_none term upper lower table.entries pair))))

-- a form without the term is met
abbrev HoldsWithout : ℕ → (ℕ → ℤ) → Form → ℤ → Type 0
HoldsWithout term v form bound = coefficient_of form term ≡ pos 0 → value v form ≤ℤ bound

without_lasts : (term : ℕ) (v : ℕ → ℤ) → Lasts (HoldsWithout term v)
without_lasts term v = record { looser = λ form less more h l e. omega (arith, ints, h e, l); empty = λ bound l e. l }

sum_is_met : (term : ℕ) (table after : Table) (values : Values) → Every InOrder table.entries → stage term table ≡ Ok after → MeetsEach (value_in values) (without term after).entries
    → (upper lower : Entry) → IsPair term table.entries upper lower → Meets (value_in ((term, pos 0) ∷ values)) (sum_of term upper.row lower.row)
sum_is_met term table after values order e meets upper lower pair =
    let v : ℕ → ℤ = value_in ((term, pos 0) ∷ values) in
    let later = order_of_stage term table after e order in
    let each : EachHas (HoldsWithout term v) after.entries = λ x h none. rest_meets values term (pos 0) after later meets x h (zero_has_none (coefficient_at term x) none) in
    let sum = (stage_back (HoldsWithout term v) (without_lasts term v) term table after e each).1 upper lower pair in
    divided_met v (sum_of term upper.row lower.row) (sum (sum_has_none term upper lower table.entries pair))

less_true : (x y : ℤ) → x <ℤ y → int_lt x y ≡ true
less_true x y h = grind (arith, ints)

neither_one : (m n : ℕ) → 1 ≤ m → 1 ≤ n → ((m ≡ 1) ⊎ (n ≡ 1) → ⊥) → (2 ≤ m) × (2 ≤ n)
neither_one m n p q none = (more m p (λ e. none (inl e)), more n q (λ e. none (inr e)))
  where
    more : (k : ℕ) → 1 ≤ k → (k ≡ 1 → ⊥) → 2 ≤ k
    more k l other = elim (cases_eq k 1) [ inl e ↦ absurd (other e) | inr d ↦ omega (arith, d) ]

either_way : (first second : Row) → HaveGap first second → HaveGap second first
either_way first second h = (h.0, h.2, h.1)

named_gap : (a b e f : Entry) → gap_of a b ≡ gap e f → HaveGap a.row b.row → HaveGap e.row f.row
named_gap a b e f same h = by (ltb a.number b.number) same
  where
    by : (t : Bool) → cond t (gap a b) (gap b a) ≡ gap e f → HaveGap e.row f.row
    by true k = let p : a ≡ e = cc in let q : b ≡ f = cc in subst (λ (x : Entry). HaveGap x.row f.row) p (subst (λ (x : Entry). HaveGap a.row x.row) q h)
    by false k = let p : b ≡ e = cc in let q : a ≡ f = cc in subst (λ (x : Entry). HaveGap x.row f.row) p (subst (λ (x : Entry). HaveGap b.row x.row) q (either_way a.row b.row h))

stage_is_wide : (term : ℕ) (table after : Table) (values : Values) (e f : Entry) → Every InOrder table.entries → stage term table ≡ Ok after
    → MeetsEach (value_in values) (without term after).entries → give term (filter (has_term term) after.entries) values ≡ Err (gap e f) → HaveGap e.row f.row
stage_is_wide term table after values e f order s meets g = named_gap least greatest e f c.is (term, sizes.1, sizes.0)
  where
    held : List Entry
    held = filter (has_term term) after.entries

    c : Crossed values term held (gap e f)
    c = give_crossed values term held e f g

    least : Entry
    least = c.least.1

    greatest : Entry
    greatest = c.greatest.1

    x : ℤ
    x = coefficient_at term greatest

    y : ℤ
    y = coefficient_at term least

    below : y <ℤ pos 0
    below = is_lower_one term least (from_filter (has_term term) least after.entries c.lower.there).1 c.lower.kind

    above : pos 0 <ℤ x
    above = true_less (pos 0) x c.upper.kind

    stood : (z : Entry) → In z held → In z table.entries
    stood z h = let k = from_filter (has_term term) z after.entries h in stood_before term table after s z k.0 k.1

    pair : IsPair term table.entries greatest least
    pair = (stood greatest c.upper.there, c.upper.kind, stood least c.lower.there, less_true y (pos 0) below)

    room : (unsigned_abs x ≡ 1) ⊎ (unsigned_abs y ≡ 1) → ⊥
    room one =
        let between = pair_has_room values term greatest.row least.row c.upper.left c.lower.left (order greatest pair.0).form (order least pair.2).form above below
        c.upper.leaves c.lower.leaves (sum_is_met term table after values order s meets greatest least pair) one in
        omega (arith, ints, between, c.past, c.lower.is, c.upper.is)

    sizes : (2 ≤ unsigned_abs x) × (2 ≤ unsigned_abs y)
    sizes = neither_one (unsigned_abs x) (unsigned_abs y) (size_some x (above_not_none x above)) (size_some y (below_not_none y below)) room

-- ---- the whole

solution_is_wide : (table : Table) (course : Course Values) (e f : Entry) → Solves table course → course ≡ Err (gap e f) → Every InOrder table.entries → HaveGap e.row f.row
solution_is_wide table course e f (no_variable t none) same order = absurd (not_ok [] (gap e f) (sym same))
solution_is_wide table course e f (stage_ends t term ending next s) same order = absurd (no_gap (stage term table) e f (none_stage term table) (s ∙ ap (λ (x : Ending). Err x) (err_is ending (gap e f) same)))
solution_is_wide table course e f (stage_done t after term later whole next s rest w) same order =
    let after_order = order_of_rest term after (order_of_stage term table after s order) in
    elim (later_or_here later (give term (filter (has_term term) after.entries)) (gap e f) (sym w ∙ same)) [
      | inl ended ↦ solution_is_wide (without term after) later e f rest ended after_order
      | inr here ↦ stage_is_wide term table after here.0 e f order s (solution_meets (without term after) later here.0 rest here.1 after_order) here.2
    ]

-- the rows of a gap both have a coefficient of size 2 at least at one variable
pub gap_is_wide : (rows : List Row) (e f : Entry) → All (λ row. IsForm row.form) rows → Decides rows (Err (gap e f)) → HaveGap e.row f.row
gap_is_wide rows e f forms decides = wide rows (Err (gap e f)) forms decides refl
  where
    wide : (rows : List Row) (course : Course Values) → All (λ row. IsForm row.form) rows → Decides rows course → course ≡ Err (gap e f) → HaveGap e.row f.row
    wide rows course forms (rows_end ending s) same =
        absurd (no_gap (put_given 0 rows []) e f (none_given 0 rows []) (s ∙ ap (λ (x : Ending). Err x) (err_is ending (gap e f) same)))
    wide rows course forms (rows_put entries c s solves) same =
        solution_is_wide (record { entries = entries; next = length rows; pairs = 0 }) course e f solves same (order_of_given rows entries forms s)
