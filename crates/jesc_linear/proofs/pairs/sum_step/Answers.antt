use Rattle.std.proofs.Common.{◌≡◌, ◌≢◌, ℕ, ◌+◌, ◌<◌, ◌≤◌, ◌^◌, ◌++◌, List, length, map, ℤ, pos, sym, ap, subst, ◌∙◌, FitsSigned, to_z, of_z, w64, arith, Some, Ok}
use mir.Syntax.{w128}
use Rattle.std.specs.Prelude.{◌≤ℤ◌, ◌<ℤ◌, unsigned_abs, slice_get}
use Rattle.std.proofs.lemmas.Int.{ints, to_z-of_z, fits_signed_from_abs}
use Rattle.jesc_linear.specs.declared.rows.Row.{Row}
use Rattle.jesc_linear.specs.declared.rows.LinStep.{LinStep}
use Rattle.jesc_linear.specs.declared.reduce.Quotient.{Quotient}
use Rattle.jesc_linear.specs.Forms.{Form, coefficient_of}
use Rattle.jesc_linear.specs.Steps.{IsRow, AreSteps, DerivesFrom}
use Rattle.jesc_linear.specs.Inner.{row_of}
use Rattle.jesc_linear.specs.Divisors.{divided, divisor_of}
use Rattle.jesc_linear.specs.Sums.{added, combined, multiplier, sum_of}
use Rattle.jesc_linear.specs.Courses.{looked_at}
use Rattle.jesc_linear.specs.Tables.{row_at}
use Rattle.jesc_linear.proofs.Sizes.{fits_wider}
use Rattle.jesc_linear.proofs.Divisors.{divisor_at_most}
use Rattle.jesc_linear.proofs.Merging.{coefficient_narrow, added_sizes}
use Rattle.jesc_linear.proofs.Reductions.{stops_too}
use Rattle.jesc_linear.proofs.Tables.{row_by_number, steps_are_rows, row_at_is_row}
use Rattle.jesc_linear.proofs.Pairing.{combination_derives, derives_from}
use Rattle.jesc_linear.proofs.pairs.sum_step.Goals as goal

-- a number as it is passed on
abbrev coded : ℤ → ℤ
coded x = to_z w64 (of_z w64 x)

abbrev wide : ℤ → ℤ
wide x = to_z w128 (of_z w128 (coded x))

wide_is : (x : ℤ) → FitsSigned w64 x → wide x ≡ x
wide_is x f = ap (λ (z : ℤ). to_z w128 (of_z w128 z)) (to_z-of_z w64 x f) ∙ to_z-of_z w128 x (fits_wider x f)

sized : (x y : ℤ) (n : ℕ) → x ≡ y → unsigned_abs y ≤ n → unsigned_abs x ≤ n
sized x y n e h = subst (λ (z : ℤ). unsigned_abs z ≤ n) (sym e) h

some_above : (x y : ℤ) → x ≡ y → pos 0 <ℤ y → x ≢ pos 0
some_above x y e h z = omega (arith, ints, e, h, z)

some_below : (x y : ℤ) → x ≡ y → y <ℤ pos 0 → x ≢ pos 0
some_below x y e h z = omega (arith, ints, e, h, z)

-- the coefficient of a row of the log
coefficient_is : (log : List LinStep) (at term : ℕ) (row : Row) (f : Form) (x : ℤ) → FitsSigned w64 x → row ≡ row_at log at → f ≡ row.form → x ≡ coefficient_of f term
    → coded x ≡ coefficient_of (row_at log at).form term
coefficient_is log at term row f x fits r e h =
    to_z-of_z w64 x fits ∙ (h ∙ (ap (λ (g : Form). coefficient_of g term) e ∙ ap (λ (s : Row). coefficient_of s.form term) r))

row_there : (rows : List Row) (log : List LinStep) (at : ℕ) → AreSteps rows log → at < length log → IsRow (row_at log at)
row_there rows log at steps l = row_at_is_row log at (steps_are_rows rows log steps) l

narrow_there : (rows : List Row) (log : List LinStep) (at term : ℕ) → AreSteps rows log → at < length log → unsigned_abs (coefficient_of (row_at log at).form term) ≤ 2 ^ 31
narrow_there rows log at term steps l = coefficient_narrow (row_at log at).form term (row_there rows log at steps l).narrow

-- the combination that the code makes is the sum
sum_is : (term : ℕ) (upper lower first second : Row) (x y a b : ℤ) → FitsSigned w64 a → FitsSigned w64 b
    → first ≡ upper → second ≡ lower → coded x ≡ coefficient_of upper.form term → coded y ≡ coefficient_of lower.form term
    → a ≡ pos (multiplier (coded x) (coded y)) → b ≡ pos (multiplier (coded y) (coded x))
    → combined (coded a) first (coded b) second ≡ sum_of term upper lower
sum_is term upper lower first second x y a b fa fb p q ex ey ea eb =
    let ma : coded a ≡ pos (multiplier (coefficient_of upper.form term) (coefficient_of lower.form term)) =
    to_z-of_z w64 a fa ∙ (ea ∙ (λ i. pos (multiplier (ex i) (ey i)))) in
    let mb : coded b ≡ pos (multiplier (coefficient_of lower.form term) (coefficient_of upper.form term)) =
    to_z-of_z w64 b fb ∙ (eb ∙ (λ i. pos (multiplier (ey i) (ex i)))) in
    λ i. combined (ma i) (p i) (mb i) (q i)

positive : (a : ℤ) (m : ℕ) → a ≡ pos m → 1 ≤ unsigned_abs a → pos 1 ≤ℤ a
positive a m e h = let k : 1 ≤ m = subst (λ (z : ℤ). 1 ≤ unsigned_abs z) e h in omega (arith, ints, e, k)

-- the step is derived
step_derives : (rows : List Row) (log : List LinStep) (u l : ℕ) (first second made : Row) (a b d : ℤ) (m n : ℕ) → AreSteps rows log → u < length log → l < length log
    → first ≡ row_at log u → second ≡ row_at log l → FitsSigned w64 a → FitsSigned w64 b
    → a ≡ pos m → 1 ≤ unsigned_abs a → unsigned_abs a ≤ 2 ^ 31 → b ≡ pos n → 1 ≤ unsigned_abs b → unsigned_abs b ≤ 2 ^ 31
    → d ≡ pos (divisor_of (added (coded a) first.form (coded b) second.form))
    → looked_at (divided (combined (coded a) first (coded b) second)) ≡ Ok made
    → DerivesFrom (slice_get (rows ++ map row_of log) (length rows + u)) (slice_get (rows ++ map row_of log) (length rows + l))
    (record { a = wide a; i = length rows + u; b = wide b; j = length rows + l; d = to_z w128 (of_z w128 d); row = made })
step_derives rows log u l first second made a b d m n steps tu tl p q fa fb ea la ha eb lb hb ed look =
    let step : LinStep = record { a = wide a; i = length rows + u; b = wide b; j = length rows + l; d = to_z w128 (of_z w128 d); row = made } in
    let table = rows ++ map row_of log in
    let row1 : IsRow first = subst IsRow (sym p) (row_there rows log u steps tu) in
    let row2 : IsRow second = subst IsRow (sym q) (row_there rows log l steps tl) in
    let form : added (coded a) first.form (coded b) second.form ≡ added (wide a) first.form (wide b) second.form =
    λ i. added ((to_z-of_z w64 a fa ∙ sym (wide_is a fa)) i) first.form ((to_z-of_z w64 b fb ∙ sym (wide_is b fb)) i) second.form in
    let whole : combined (coded a) first (coded b) second ≡ combined (wide a) first (wide b) second =
    λ i. combined ((to_z-of_z w64 a fa ∙ sym (wide_is a fa)) i) first ((to_z-of_z w64 b fb ∙ sym (wide_is b fb)) i) second in
    let few = divisor_at_most (added (coded a) first.form (coded b) second.form) (2 ^ 63)
    (added_sizes (coded a) first.form (coded b) second.form (sized (coded a) a (2 ^ 31) (to_z-of_z w64 a fa) ha) (sized (coded b) b (2 ^ 31) (to_z-of_z w64 b fb) hb) row1.narrow row2.narrow) (omega arith) in
    let fd : FitsSigned w128 d = fits_signed_from_abs w128 d (omega (arith, ints, few, ed)) in
    derives_from table (length rows + u) (length rows + l) first second step
    (row_by_number rows log u tu ∙ ap (λ (r : Row). Some r) (sym p)) (row_by_number rows log l tl ∙ ap (λ (r : Row). Some r) (sym q))
    (combination_derives first second step row1 row2
    (subst (λ (z : ℤ). pos 1 ≤ℤ z) (sym (wide_is a fa)) (positive a m ea la)) (sized (wide a) a (2 ^ 31) (wide_is a fa) ha)
    (subst (λ (z : ℤ). pos 1 ≤ℤ z) (sym (wide_is b fb)) (positive b n eb lb)) (sized (wide b) b (2 ^ 31) (wide_is b fb) hb)
    (to_z-of_z w128 d fd ∙ (ed ∙ ap (λ (f : Form). pos (divisor_of f)) form))
    (ap (λ (r : Row). looked_at (divided r)) (sym whole) ∙ look))

pub multiplier-a-requires : goal.multiplier-a-requires
multiplier-a-requires c =
    let log = c.args.log.now in
    let term = c.args.term in
    let x : coded c.coefficient-left.result ≡ coefficient_of (row_at log c.args.upper.at).form term =
    coefficient_is log c.args.upper.at term c.row_in-first.result.now c.as_slice.result.now c.coefficient-left.result (record { sfits = c.coefficient-left.type_inv }) c.row_in-first.ensures c.as_slice.ensures c.coefficient-left.ensures in
    let y : coded c.coefficient-right.result ≡ coefficient_of (row_at log c.args.lower.at).form term =
    coefficient_is log c.args.lower.at term c.row_in-second.result.now c.as_slice-2.result.now c.coefficient-right.result (record { sfits = c.coefficient-right.type_inv }) c.row_in-second.ensures c.as_slice-2.ensures c.coefficient-right.ensures in
    record {
      own = some_above _ _ x c.requires.upper_sign;
      other = some_below _ _ y c.requires.lower_sign;
      own_size = sized _ _ (2 ^ 31) x (narrow_there c.args.rows.now log c.args.upper.at term c.requires.steps c.requires.upper.there);
      other_size = sized _ _ (2 ^ 31) y (narrow_there c.args.rows.now log c.args.lower.at term c.requires.steps c.requires.lower.there);
    }

pub multiplier-b-requires : goal.multiplier-b-requires
multiplier-b-requires c =
    let log = c.args.log.now in
    let term = c.args.term in
    let x : coded c.coefficient-left.result ≡ coefficient_of (row_at log c.args.upper.at).form term =
    coefficient_is log c.args.upper.at term c.row_in-first.result.now c.as_slice.result.now c.coefficient-left.result (record { sfits = c.coefficient-left.type_inv }) c.row_in-first.ensures c.as_slice.ensures c.coefficient-left.ensures in
    let y : coded c.coefficient-right.result ≡ coefficient_of (row_at log c.args.lower.at).form term =
    coefficient_is log c.args.lower.at term c.row_in-second.result.now c.as_slice-2.result.now c.coefficient-right.result (record { sfits = c.coefficient-right.type_inv }) c.row_in-second.ensures c.as_slice-2.ensures c.coefficient-right.ensures in
    record {
      own = some_below _ _ y c.requires.lower_sign;
      other = some_above _ _ x c.requires.upper_sign;
      own_size = sized _ _ (2 ^ 31) y (narrow_there c.args.rows.now log c.args.lower.at term c.requires.steps c.requires.lower.there);
      other_size = sized _ _ (2 ^ 31) x (narrow_there c.args.rows.now log c.args.upper.at term c.requires.steps c.requires.upper.there);
    }

pub combined-requires : goal.combined-requires
combined-requires c = record {
  first = subst IsRow (sym c.row_in-first.ensures) (row_there c.args.rows.now c.args.log.now c.args.upper.at c.requires.steps c.requires.upper.there);
  second = subst IsRow (sym c.row_in-second.ensures) (row_there c.args.rows.now c.args.log.now c.args.lower.at c.requires.steps c.requires.lower.there);
  a = sized _ _ (2 ^ 31) (to_z-of_z w64 c.multiplier-a.result (record { sfits = c.multiplier-a.type_inv })) c.multiplier-a.ensures.high;
  b = sized _ _ (2 ^ 31) (to_z-of_z w64 c.multiplier-b.result (record { sfits = c.multiplier-b.type_inv })) c.multiplier-b.ensures.high;
}

pub returns-in_err-quotient-clause-course : goal.returns-in_err-quotient-clause-course
returns-in_err-quotient-clause-course c =
    let log = c.args.log.now in
    let term = c.args.term in
    let upper = row_at log c.args.upper.at in
    let lower = row_at log c.args.lower.at in
    let x : coded c.coefficient-left.result ≡ coefficient_of upper.form term =
    coefficient_is log c.args.upper.at term c.row_in-first.result.now c.as_slice.result.now c.coefficient-left.result (record { sfits = c.coefficient-left.type_inv }) c.row_in-first.ensures c.as_slice.ensures c.coefficient-left.ensures in
    let y : coded c.coefficient-right.result ≡ coefficient_of lower.form term =
    coefficient_is log c.args.lower.at term c.row_in-second.result.now c.as_slice-2.result.now c.coefficient-right.result (record { sfits = c.coefficient-right.type_inv }) c.row_in-second.ensures c.as_slice-2.ensures c.coefficient-right.ensures in
    let whole = sum_is term upper lower c.row_in-first.result.now c.row_in-second.result.now c.coefficient-left.result c.coefficient-right.result c.multiplier-a.result c.multiplier-b.result
    (record { sfits = c.multiplier-a.type_inv }) (record { sfits = c.multiplier-b.type_inv }) c.row_in-first.ensures c.row_in-second.ensures x y c.multiplier-a.ensures.exact c.multiplier-b.ensures.exact in
    stops_too Quotient LinStep (λ q. q.row) (λ s. s.row)
    (looked_at (divided (combined (coded c.multiplier-a.result) c.row_in-first.result.now (coded c.multiplier-b.result) c.row_in-second.result.now)))
    (looked_at (divided (sum_of term upper lower))) c.in_err-quotient.field-0.0 c.from_residual.result
    (λ ending e. ap (λ (r : Row). looked_at (divided r)) (sym whole) ∙ e) c.in_err-quotient.ensures.course c.from_residual.ensures.1

pub returns-clause-course : goal.returns-clause-course
returns-clause-course c =
    let log = c.args.log.now in
    let term = c.args.term in
    let upper = row_at log c.args.upper.at in
    let lower = row_at log c.args.lower.at in
    let x : coded c.coefficient-left.result ≡ coefficient_of upper.form term =
    coefficient_is log c.args.upper.at term c.row_in-first.result.now c.as_slice.result.now c.coefficient-left.result (record { sfits = c.coefficient-left.type_inv }) c.row_in-first.ensures c.as_slice.ensures c.coefficient-left.ensures in
    let y : coded c.coefficient-right.result ≡ coefficient_of lower.form term =
    coefficient_is log c.args.lower.at term c.row_in-second.result.now c.as_slice-2.result.now c.coefficient-right.result (record { sfits = c.coefficient-right.type_inv }) c.row_in-second.ensures c.as_slice-2.ensures c.coefficient-right.ensures in
    let whole = sum_is term upper lower c.row_in-first.result.now c.row_in-second.result.now c.coefficient-left.result c.coefficient-right.result c.multiplier-a.result c.multiplier-b.result
    (record { sfits = c.multiplier-a.type_inv }) (record { sfits = c.multiplier-b.type_inv }) c.row_in-first.ensures c.row_in-second.ensures x y c.multiplier-a.ensures.exact c.multiplier-b.ensures.exact in
    ap (λ (r : Row). looked_at (divided r)) (sym whole) ∙ c.in_ok-quotient.ensures.course

pub returns-clause-derived : goal.returns-clause-derived
returns-clause-derived c =
    step_derives c.args.rows.now c.args.log.now c.args.upper.at c.args.lower.at c.row_in-first.result.now c.row_in-second.result.now c.in_ok-quotient.quotient.row
    c.multiplier-a.result c.multiplier-b.result c.in_ok-quotient.quotient.divisor _ _ c.requires.steps c.requires.upper.there c.requires.lower.there c.row_in-first.ensures c.row_in-second.ensures
    (record { sfits = c.multiplier-a.type_inv }) (record { sfits = c.multiplier-b.type_inv })
    c.multiplier-a.ensures.exact c.multiplier-a.ensures.low c.multiplier-a.ensures.high c.multiplier-b.ensures.exact c.multiplier-b.ensures.low c.multiplier-b.ensures.high
    c.in_ok-quotient.ensures.divisor c.in_ok-quotient.ensures.course
