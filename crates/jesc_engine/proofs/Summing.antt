-- Sums: what the rows of their operations say, and numbers for the new terms.
use Rattle.std.proofs.Common.{◌≡◌, ℕ, ◌+◌, Bool, true, false, if◌then◌else◌, List, [], ◌∷◌, ◌++◌, ℤ, refl, sym, ◌∙◌, ap, subst, ◌⊎◌, inl, inr, None}
use Rattle.jesc_linear.specs.declared.rows.Row.{Row}
use Rattle.jesc_first.specs.declared.check.Kind.TheVariants.{Overflow}
use Rattle.jesc_first.specs.declared.check.Check.{Check}
use Rattle.jesc_first.specs.declared.tree.Operator.{Operator}
use Rattle.jesc_first.specs.declared.tree.Part.{Part}
use Rattle.jesc_first.specs.declared.tree.Operation.{Operation}
use Rattle.jesc_first.specs.declared.tree.Sum.{Sum}
use Rattle.jesc_first.specs.Machine.{Evaluated, is, overflows, evaluated_from, applied, is_int, check}
use Rattle.jesc_engine.specs.declared.ways.atom.Atom.{Atom}
use Rattle.jesc_engine.specs.declared.ways.atom.Atom.TheVariants.{Term}
use Rattle.jesc_engine.specs.Rows.{worth}
use Rattle.jesc_engine.specs.Ways.{Facts, ties, in_range, below_range, above_range, operated, operation_ways, facts_after, atom_after, ways_along, overflows_along, concat}
use Rattle.jesc_engine.proofs.Meeting.{Met, OneOf, Broken, met_both, met_left, met_right, one_left, one_right, one_cases}
use Rattle.jesc_engine.proofs.Operating.{ties_to, ties_from, range_to, range_from, below_to, above_to, outside_from}

-- each part has the worth of its atom
abbrev pub Agrees : (ℕ → ℤ) → (Part → Atom) → (Part → ℤ) → Type 0
Agrees v atom val = (part : Part) → val part ≡ worth v (atom part)

-- the values of the operations in order, whether or not they are in range
abbrev pub values_along : (Part → ℤ) → ℤ → List Operation → List ℤ
values_along val x [] = []
values_along val x (operation ∷ rest) =
    applied operation.operator x (val operation.part) ∷ values_along val (applied operation.operator x (val operation.part)) rest

-- the values of the operations of a whole sum
abbrev pub sum_values : (Part → ℤ) → Sum → List ℤ
sum_values val sum = values_along val (val sum.first) sum.rest

-- v gives the terms from n on these numbers
abbrev pub Follows : (ℕ → ℤ) → ℕ → List ℤ → Type 0
Follows v n [] = Unit {0}
Follows v n (z ∷ zs) = (v n ≡ z) × Follows v (n + 1) zs

-- the first numbers alone
pub follows_prefix : (v : ℕ → ℤ) (n : ℕ) (zs more : List ℤ) → Follows v n (zs ++ more) → Follows v n zs
follows_prefix v n [] more f = tt
follows_prefix v n (z ∷ zs) more f = (f.0, follows_prefix v (n + 1) zs more f.1)

-- the numbers of a sum's operations, and those after them
pub follows_after : (v : ℕ → ℤ) (atom : Part → Atom) (val : Part → ℤ) (facts : Facts) (x : Atom) (X : ℤ) (operations : List Operation) (more : List ℤ)
    → Follows v facts.fresh (values_along val X operations ++ more)
    → Follows v facts.fresh (values_along val X operations) × Follows v (facts_after atom facts x operations).fresh more
follows_after v atom val facts x X [] more f = (tt, f)
follows_after v atom val facts x X (operation ∷ rest) more f =
    let after = follows_after v atom val (operated facts x operation.operator (atom operation.part)) (Term facts.fresh) (applied operation.operator X (val operation.part)) rest more f.1 in
    ((f.0, after.0), after.1)

-- the operation's value with the worths put in
applied_worth : (v : ℕ → ℤ) (atom : Part → Atom) (val : Part → ℤ) (x : Atom) (X : ℤ) (operator : Operator) (part : Part) → Agrees v atom val → X ≡ worth v x
    → applied operator (worth v x) (worth v (atom part)) ≡ applied operator X (val part)
applied_worth v atom val x X operator part agrees e =
    ap (λ z. applied operator z (worth v (atom part))) (sym e) ∙ ap (λ z. applied operator X z) (sym (agrees part))

-- one step of a sum whose operation is in range
goes_on : (val : Part → ℤ) (X y : ℤ) (operation : Operation) (rest : List Operation) → y ≡ applied operation.operator X (val operation.part) → is_int y ≡ true
    → evaluated_from val X (operation ∷ rest) ≡ evaluated_from val y rest
goes_on val X y operation rest e t =
    let z = applied operation.operator X (val operation.part) in
    let inside : is_int z ≡ true = ap is_int (sym e) ∙ t in
    ap (λ b. if b then evaluated_from val z rest else overflows operation.at) inside ∙ ap (λ w. evaluated_from val w rest) (sym e)

-- one step of a sum whose operation is out of range
stops : (val : Part → ℤ) (X y : ℤ) (operation : Operation) (rest : List Operation) → y ≡ applied operation.operator X (val operation.part) → is_int y ≡ false
    → evaluated_from val X (operation ∷ rest) ≡ overflows operation.at
stops val X y operation rest e t =
    let z = applied operation.operator X (val operation.part) in
    let outside : is_int z ≡ false = ap is_int (sym e) ∙ t in
    ap (λ b. if b then evaluated_from val z rest else overflows operation.at) outside

-- where v meets the rows of all operations, the sum has the worth of its atom
pub sum_is : (v : ℕ → ℤ) (atom : Part → Atom) (val : Part → ℤ) (facts : Facts) (x : Atom) (X : ℤ) (operations : List Operation)
    → Agrees v atom val → X ≡ worth v x → Met v (facts_after atom facts x operations).rows
    → Met v facts.rows × (evaluated_from val X operations ≡ is (worth v (atom_after atom facts x operations)))
sum_is v atom val facts x X [] agrees e m = (m, ap is e)
sum_is v atom val facts x X (operation ∷ rest) agrees e m =
    let next = operated facts x operation.operator (atom operation.part) in
    let later = sum_is v atom val next (Term facts.fresh) (v facts.fresh) rest agrees refl m in
    let tie_rows = facts.rows ++ ties facts.fresh x operation.operator (atom operation.part) in
    let both : Met v tie_rows = met_left v tie_rows (in_range facts.fresh) later.0 in
    let range = range_to v facts.fresh (met_right v tie_rows (in_range facts.fresh) later.0) in
    let tie = ties_to v facts.fresh x operation.operator (atom operation.part) (met_right v facts.rows (ties facts.fresh x operation.operator (atom operation.part)) both) in (
      met_left v facts.rows (ties facts.fresh x operation.operator (atom operation.part)) both,
      goes_on val X (v facts.fresh) operation rest (tie ∙ applied_worth v atom val x X operation.operator operation.part agrees e) range ∙ later.1,
    )

-- a sum overflows, and this is its check
pub record Overflowed (val : Part → ℤ) (X : ℤ) (operations : List Operation) (failing : Check) : Type 0 where
  pub at : ℕ
  pub overflowed : evaluated_from val X operations ≡ overflows at
  pub same : check Overflow at None ≡ failing

-- where v meets one of the two ways of an operation, its number is out of range
out_of_range : (v : ℕ → ℤ) (rows : List Row) (term : ℕ) → OneOf (Met v) ((rows ++ below_range term ∷ []) ∷ (rows ++ above_range term ∷ []) ∷ []) → Met v rows × (is_int (v term) ≡ false)
out_of_range v rows term o = elim o [
  | inl m ↦ (met_left v rows (below_range term ∷ []) m, below_to v term (met_right v rows (below_range term ∷ []) m).0)
  | inr q ↦ elim q [
    | inl m ↦ (met_left v rows (above_range term ∷ []) m, above_to v term (met_right v rows (above_range term ∷ []) m).0)
    | inr r ↦ elim r [ ]
  ]
]

-- where v meets a way of an operation, the sum overflows there
pub sum_overflowed : (v : ℕ → ℤ) (atom : Part → Atom) (val : Part → ℤ) (facts : Facts) (x : Atom) (X : ℤ) (operations : List Operation) (failing : Check)
    → Agrees v atom val → X ≡ worth v x → Broken v (overflows_along atom facts x operations) failing
    → Met v facts.rows × Overflowed val X operations failing
sum_overflowed v atom val facts x X [] failing agrees e b = elim b [ ]
sum_overflowed v atom val facts x X (operation ∷ rest) failing agrees e b =
    let next = operated facts x operation.operator (atom operation.part) in
    let tie_list = ties facts.fresh x operation.operator (atom operation.part) in
    let tie_rows = facts.rows ++ tie_list in
    elim b [
      | inl h ↦ let out = out_of_range v tie_rows facts.fresh h.way in
          let tie = ties_to v facts.fresh x operation.operator (atom operation.part) (met_right v facts.rows tie_list out.0) in (
            met_left v facts.rows tie_list out.0,
            record {
              at = operation.at;
              overflowed = stops val X (v facts.fresh) operation rest (tie ∙ applied_worth v atom val x X operation.operator operation.part agrees e) out.1;
              same = h.same;
            },
          )
      | inr h ↦ let later = sum_overflowed v atom val next (Term facts.fresh) (v facts.fresh) rest failing agrees refl h in
          let both : Met v tie_rows = met_left v tie_rows (in_range facts.fresh) later.0 in
          let range = range_to v facts.fresh (met_right v tie_rows (in_range facts.fresh) later.0) in
          let tie = ties_to v facts.fresh x operation.operator (atom operation.part) (met_right v facts.rows tie_list both) in (
            met_left v facts.rows tie_list both,
            record {
              at = later.1.at;
              overflowed = goes_on val X (v facts.fresh) operation rest (tie ∙ applied_worth v atom val x X operation.operator operation.part agrees e) range ∙ later.1.overflowed;
              same = later.1.same;
            },
          )
    ]

-- what the rows say of a sum with this value: they are met where it is in range, and else a way is
abbrev pub SumSays : (ℕ → ℤ) → (Part → Atom) → Facts → Atom → List Operation → Evaluated → Type 0
SumSays v atom facts x operations (is z) = Met v (facts_after atom facts x operations).rows × (z ≡ worth v (atom_after atom facts x operations))
SumSays v atom facts x operations (overflows at) = Broken v (overflows_along atom facts x operations) (check Overflow at None)

-- a number is in range or not
is_or_not : (z : ℤ) → (is_int z ≡ true) ⊎ (is_int z ≡ false)
is_or_not z = by (is_int z) refl
  where
    by : (b : Bool) → is_int z ≡ b → (is_int z ≡ true) ⊎ (is_int z ≡ false)
    by true e = inl e
    by false e = inr e

-- a sum after an operation in range, and the sum with it
says_later : (v : ℕ → ℤ) (atom : Part → Atom) (facts : Facts) (x : Atom) (operation : Operation) (rest : List Operation) (outcome : Evaluated)
    → SumSays v atom (operated facts x operation.operator (atom operation.part)) (Term facts.fresh) rest outcome → SumSays v atom facts x (operation ∷ rest) outcome
says_later v atom facts x operation rest (is z) s = s
says_later v atom facts x operation rest (overflows at) s = inr s

-- where v follows the operations, the rows say so
pub sum_says : (v : ℕ → ℤ) (atom : Part → Atom) (val : Part → ℤ) (facts : Facts) (x : Atom) (X : ℤ) (operations : List Operation)
    → Agrees v atom val → X ≡ worth v x → Met v facts.rows → Follows v facts.fresh (values_along val X operations)
    → SumSays v atom facts x operations (evaluated_from val X operations)
sum_says v atom val facts x X [] agrees e m f = (m, e)
sum_says v atom val facts x X (operation ∷ rest) agrees e m f =
    let next = operated facts x operation.operator (atom operation.part) in
    let tie_list = ties facts.fresh x operation.operator (atom operation.part) in
    let tie_rows = facts.rows ++ tie_list in
    let y = applied operation.operator X (val operation.part) in
    let tie : v facts.fresh ≡ applied operation.operator (worth v x) (worth v (atom operation.part)) = f.0 ∙ sym (applied_worth v atom val x X operation.operator operation.part agrees e) in
    let met : Met v tie_rows = met_both v facts.rows tie_list m (ties_from v facts.fresh x operation.operator (atom operation.part) tie) in
    elim (is_or_not (v facts.fresh)) [
      | inl t ↦ let later = sum_says v atom val next (Term facts.fresh) y rest agrees (sym f.0) (met_both v tie_rows (in_range facts.fresh) met (range_from v facts.fresh t)) f.1 in
          subst (SumSays v atom facts x (operation ∷ rest)) (sym (goes_on val X y operation rest refl (ap is_int (sym f.0) ∙ t))) (says_later v atom facts x operation rest (evaluated_from val y rest) later)
      | inr t ↦ subst (SumSays v atom facts x (operation ∷ rest)) (sym (stops val X y operation rest refl (ap is_int (sym f.0) ∙ t)))
          (inl (record {
            same = refl;
            way = elim (outside_from v facts.fresh t) [
              | inl l ↦ inl (met_both v tie_rows (below_range facts.fresh ∷ []) met (l, tt))
              | inr h ↦ inr (inl (met_both v tie_rows (above_range facts.fresh ∷ []) met (h, tt)))
            ];
          }))
    ]

-- a way of some operation, and so its obligation
pub way_overflows : (v : ℕ → ℤ) (atom : Part → Atom) (facts : Facts) (x : Atom) (operations : List Operation) → OneOf (Met v) (concat (ways_along atom facts x operations))
    → (failing : Check) × Broken v (overflows_along atom facts x operations) failing
way_overflows v atom facts x [] o = elim o [ ]
way_overflows v atom facts x (operation ∷ rest) o =
    elim (one_cases (Met v) (operation_ways facts x operation.operator (atom operation.part)) (concat (ways_along atom (operated facts x operation.operator (atom operation.part)) (Term facts.fresh) rest)) o) [
      | inl h ↦ (check Overflow operation.at None, inl (record { same = refl; way = h }))
      | inr h ↦ let later = way_overflows v atom (operated facts x operation.operator (atom operation.part)) (Term facts.fresh) rest h in (later.0, inr later.1)
    ]

-- an obligation of some operation, and so a way
pub overflow_way : (v : ℕ → ℤ) (atom : Part → Atom) (facts : Facts) (x : Atom) (operations : List Operation) (failing : Check)
    → Broken v (overflows_along atom facts x operations) failing → OneOf (Met v) (concat (ways_along atom facts x operations))
overflow_way v atom facts x [] failing b = elim b [ ]
overflow_way v atom facts x (operation ∷ rest) failing b =
    let here = operation_ways facts x operation.operator (atom operation.part) in
    let there = concat (ways_along atom (operated facts x operation.operator (atom operation.part)) (Term facts.fresh) rest) in
    elim b [
      | inl h ↦ one_left (Met v) here there h.way
      | inr h ↦ one_right (Met v) here there (overflow_way v atom (operated facts x operation.operator (atom operation.part)) (Term facts.fresh) rest failing h)
    ]
