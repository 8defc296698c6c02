-- The rows that stand for operations and comparisons have forms: their terms rise strictly, and no coefficient is 0.
use Rattle.std.proofs.Common.{◌≡◌, ◌≢◌, ℕ, ◌+◌, ◌≤◌, ◌<◌, false, if◌then◌else◌, nat_lt, List, [], ◌∷◌, ◌++◌, ℤ, pos, negsuc, sym, ◌∙◌, ap, subst, arith, inl, inr, All, true≢false}
use Rattle.std.proofs.lemmas.Bool.Decides.{nat_tests}
use Rattle.std.proofs.lemmas.List.Elements.{All-nil, All-cons, All-append}
use Rattle.std.proofs.Math.IntN.{◌+ℤ◌}
use Rattle.jesc_linear.specs.declared.rows.Row.{Row}
use Rattle.jesc_linear.specs.Forms.{Form, RisesFrom, IsNonzero, IsForm}
use Rattle.jesc_first.specs.declared.tree.Operator.{Operator}
use Rattle.jesc_first.specs.declared.tree.Operator.TheVariants.{Plus, Minus}
use Rattle.jesc_first.specs.declared.tree.Comparison.{Comparison}
use Rattle.jesc_first.specs.declared.tree.Comparison.TheVariants.{Less, AtMost, Greater, AtLeast, Equal}
use Rattle.jesc_engine.specs.declared.ways.atom.Atom.{Atom}
use Rattle.jesc_engine.specs.declared.ways.atom.Atom.TheVariants.{Number, Term}
use Rattle.jesc_engine.specs.Rows.{is_zero, one_part, pair_form, pair_row, tie_row, at_most, minus_at_most}
use Rattle.jesc_engine.specs.Ways.{sign_of, opposite_of, ties, in_range, below_range, above_range, less, no_more, holding, breaking}
use Rattle.jesc_engine.proofs.Worth.{zero_or_not, order_cases}

-- the atom's term, if it has one, is below this number
abbrev pub IsBelow : ℕ → Atom → Type 0
IsBelow fresh (Number z) = Unit {0}
IsBelow fresh (Term k) = k < fresh

-- an atom is below greater numbers too
pub below_more : (m n : ℕ) (x : Atom) → m ≤ n → IsBelow m x → IsBelow n x
below_more m n (Number z) l b = tt
below_more m n (Term k) l b = omega arith

-- each term of the form is below this number
abbrev TermsBelow : ℕ → Form → Type 0
TermsBelow n [] = Unit {0}
TermsBelow n (part ∷ rest) = (part.1 < n) × TermsBelow n rest

-- one coefficient that is not 0
one_nonzero : (c : ℤ) (k : ℕ) → c ≢ pos 0 → All IsNonzero ((c, k) ∷ [])
one_nonzero c k h = All-cons IsNonzero (c, k) [] h (All-nil IsNonzero)

-- two coefficients that are not 0
two_nonzero : (a : ℤ) (j : ℕ) (b : ℤ) (k : ℕ) → a ≢ pos 0 → b ≢ pos 0 → All IsNonzero ((a, j) ∷ (b, k) ∷ [])
two_nonzero a j b k h g = All-cons IsNonzero (a, j) ((b, k) ∷ []) h (one_nonzero b k g)

-- what the test for 0 says where it fails
nonzero : (c : ℤ) → is_zero c ≡ false → c ≢ pos 0
nonzero c t e = true≢false (sym (ap is_zero e) ∙ t)

-- a form, with its terms below a number
record FormBelow (n : ℕ) (form : Form) : Type 0 where
  is_form : IsForm form
  below : TermsBelow n form

-- one part alone
one_form : (n : ℕ) (c : ℤ) (k : ℕ) → c ≢ pos 0 → k < n → FormBelow n ((c, k) ∷ [])
one_form n c k h l = record { is_form = record { rises = (omega arith, tt); nonzero = one_nonzero c k h }; below = (l, tt) }

-- no part at all
no_form : (n : ℕ) → FormBelow n []
no_form n = record { is_form = record { rises = tt; nonzero = All-nil IsNonzero }; below = tt }

-- two parts with rising terms
two_form : (n : ℕ) (a : ℤ) (j : ℕ) (b : ℤ) (k : ℕ) → a ≢ pos 0 → b ≢ pos 0 → j < k → k < n → FormBelow n ((a, j) ∷ (b, k) ∷ [])
two_form n a j b k h g l m = record { is_form = record { rises = (omega arith, (omega arith, tt)); nonzero = two_nonzero a j b k h g }; below = (omega arith, (m, tt)) }

-- one term, whose part is left out where its coefficient is 0
same_term_form : (n : ℕ) (c : ℤ) (k : ℕ) → k < n → FormBelow n (one_part c k)
same_term_form n c k l = elim (zero_or_not c) [
  | inl z ↦ subst (λ t. FormBelow n (if t then [] else (c, k) ∷ [])) (sym z.0) (no_form n)
  | inr z ↦ subst (λ t. FormBelow n (if t then [] else (c, k) ∷ [])) (sym z) (one_form n c k (nonzero c z) l)
]

-- two terms, in either order or equal
terms_form : (n : ℕ) (a : ℤ) (j : ℕ) (b : ℤ) (k : ℕ) → a ≢ pos 0 → b ≢ pos 0 → j < n → k < n → FormBelow n (pair_form a (Term j) b (Term k))
terms_form n a j b k h g l m = elim (order_cases j k) [
  | inl t ↦ subst (λ t. FormBelow n (if t then (a, j) ∷ (b, k) ∷ [] else (if nat_lt k j then (b, k) ∷ (a, j) ∷ [] else one_part (a +ℤ b) j))) (sym t)
      (let less_one : j < k = grind (arith, nat_tests) in two_form n a j b k h g less_one m)
  | inr more ↦ elim more [
    | inl t ↦ subst (λ t. FormBelow n (if t then (a, j) ∷ (b, k) ∷ [] else (if nat_lt k j then (b, k) ∷ (a, j) ∷ [] else one_part (a +ℤ b) j))) (sym t.0)
        (subst (λ t. FormBelow n (if t then (b, k) ∷ (a, j) ∷ [] else one_part (a +ℤ b) j)) (sym t.1)
        (let less_one : k < j = grind (arith, nat_tests) in two_form n b k a j g h less_one l))
    | inr t ↦ subst (λ t. FormBelow n (if t then (a, j) ∷ (b, k) ∷ [] else (if nat_lt k j then (b, k) ∷ (a, j) ∷ [] else one_part (a +ℤ b) j))) (sym t.0)
        (subst (λ t. FormBelow n (if t then (b, k) ∷ (a, j) ∷ [] else one_part (a +ℤ b) j)) (sym t.1) (same_term_form n (a +ℤ b) j l))
  ]
]

-- two atoms
pair_form_below : (n : ℕ) (a : ℤ) (x : Atom) (b : ℤ) (y : Atom) → a ≢ pos 0 → b ≢ pos 0 → IsBelow n x → IsBelow n y → FormBelow n (pair_form a x b y)
pair_form_below n a (Number x) b (Number y) h g l m = no_form n
pair_form_below n a (Term j) b (Number y) h g l m = one_form n a j h l
pair_form_below n a (Number x) b (Term k) h g l m = one_form n b k g m
pair_form_below n a (Term j) b (Term k) h g l m = terms_form n a j b k h g l m

-- a number above the terms of two atoms
past : Atom → ℕ
past (Number z) = 0
past (Term k) = k + 1

-- an atom is below each number that is past it
below_past : (n : ℕ) (x : Atom) → past x ≤ n → IsBelow n x
unfolding past
below_past n (Number z) l = tt
below_past n (Term k) l = omega arith

-- the row of two atoms
pub pair_row_form : (a : ℤ) (x : Atom) (b : ℤ) (y : Atom) (bound : ℤ) → a ≢ pos 0 → b ≢ pos 0 → IsForm (pair_row a x b y bound).form
pair_row_form a x b y bound h g =
    let n : ℕ = past x + past y in
    let form = pair_form_below n a x b y h g (below_past n x (omega arith)) (below_past n y (omega arith)) in
    form.is_form

-- a greater term at the end of rising terms
rises_more : (low n : ℕ) (form : Form) (c : ℤ) → RisesFrom low form → TermsBelow n form → low ≤ n → RisesFrom low (form ++ (c, n) ∷ [])
rises_more low n [] c r b l = (l, tt)
rises_more low n (part ∷ rest) c r b l = (r.0, rises_more (part.1 + 1) n rest c r.1 b.1 (omega arith))

-- the row of two atoms and a new term, which is greater than theirs
pub tie_row_form : (a : ℤ) (x : Atom) (b : ℤ) (y : Atom) (c : ℤ) (fresh : ℕ) → a ≢ pos 0 → b ≢ pos 0 → c ≢ pos 0 → IsBelow fresh x → IsBelow fresh y
    → IsForm (tie_row a x b y c fresh).form
tie_row_form a x b y c fresh h g i l m =
    let form = pair_form_below fresh a x b y h g l m in
    record {
      rises = rises_more 0 fresh (pair_form a x b y) c form.is_form.rises form.below (omega arith);
      nonzero = All-append IsNonzero (pair_form a x b y) ((c, fresh) ∷ []) form.is_form.nonzero (one_nonzero c fresh i);
    }

-- 1 is not 0
one_is_not : pos 1 ≢ pos 0
one_is_not e = cc

-- -1 is not 0
minus_one_is_not : negsuc 0 ≢ pos 0
minus_one_is_not e = cc

-- the row of a term with an upper bound
pub at_most_form : (term : ℕ) (bound : ℤ) → IsForm (at_most term bound).form
at_most_form term bound = record { rises = (omega arith, tt); nonzero = one_nonzero (pos 1) term one_is_not }

-- the row of a term with a lower bound
pub minus_at_most_form : (term : ℕ) (bound : ℤ) → IsForm (minus_at_most term bound).form
minus_at_most_form term bound = record { rises = (omega arith, tt); nonzero = one_nonzero (negsuc 0) term minus_one_is_not }

-- ---- the rows of operations and comparisons

-- the row has a form
abbrev pub HasForm : Row → Type 0
HasForm row = IsForm row.form

-- each of the rows has a form
abbrev pub HaveForms : List Row → Type 0
HaveForms rows = All HasForm rows

-- a single row
pub one_row : (row : Row) → HasForm row → HaveForms (row ∷ [])
one_row row h = All-cons HasForm row [] h (All-nil HasForm)

-- two rows
pub two_rows : (row next : Row) → HasForm row → HasForm next → HaveForms (row ∷ next ∷ [])
two_rows row next h g = All-cons HasForm row (next ∷ []) h (one_row next g)

-- the sign of an operator is not 0
sign_is_not : (operator : Operator) → sign_of operator ≢ pos 0
sign_is_not Plus = one_is_not
sign_is_not Minus = minus_one_is_not

-- nor is the opposite sign
opposite_is_not : (operator : Operator) → opposite_of operator ≢ pos 0
opposite_is_not Plus = minus_one_is_not
opposite_is_not Minus = one_is_not

-- the rows that tie a new term to its parts
pub ties_form : (fresh : ℕ) (x : Atom) (operator : Operator) (y : Atom) → IsBelow fresh x → IsBelow fresh y → HaveForms (ties fresh x operator y)
ties_form fresh x operator y l m =
    two_rows (tie_row (negsuc 0) x (opposite_of operator) y (pos 1) fresh) (tie_row (pos 1) x (sign_of operator) y (negsuc 0) fresh)
    (tie_row_form (negsuc 0) x (opposite_of operator) y (pos 1) fresh minus_one_is_not (opposite_is_not operator) one_is_not l m)
    (tie_row_form (pos 1) x (sign_of operator) y (negsuc 0) fresh one_is_not (sign_is_not operator) minus_one_is_not l m)

-- the rows of a range
pub in_range_form : (term : ℕ) → HaveForms (in_range term)
in_range_form term = two_rows (at_most term (pos 2147483647)) (minus_at_most term (pos 2147483648)) (at_most_form term (pos 2147483647)) (minus_at_most_form term (pos 2147483648))

-- the row of a term that is too small
pub below_range_form : (term : ℕ) → HasForm (below_range term)
below_range_form term = at_most_form term (negsuc 2147483648)

-- the row of a term that is too great
pub above_range_form : (term : ℕ) → HasForm (above_range term)
above_range_form term = minus_at_most_form term (negsuc 2147483647)

-- the row of one atom less than another
pub less_form : (x y : Atom) → HasForm (less x y)
less_form x y = pair_row_form (pos 1) x (negsuc 0) y (negsuc 0) one_is_not minus_one_is_not

-- the row of one atom at most another
pub no_more_form : (x y : Atom) → HasForm (no_more x y)
no_more_form x y = pair_row_form (pos 1) x (negsuc 0) y (pos 0) one_is_not minus_one_is_not

-- the rows of a comparison that is true
pub holding_form : (comparison : Comparison) (x y : Atom) → HaveForms (holding comparison x y)
holding_form Less x y = one_row (less x y) (less_form x y)
holding_form AtMost x y = one_row (no_more x y) (no_more_form x y)
holding_form Greater x y = one_row (less y x) (less_form y x)
holding_form AtLeast x y = one_row (no_more y x) (no_more_form y x)
holding_form Equal x y = two_rows (no_more x y) (no_more y x) (no_more_form x y) (no_more_form y x)

-- the ways of a comparison that is false
pub breaking_form : (comparison : Comparison) (x y : Atom) → HaveForms (breaking comparison x y)
breaking_form Less x y = one_row (no_more y x) (no_more_form y x)
breaking_form AtMost x y = one_row (less y x) (less_form y x)
breaking_form Greater x y = one_row (no_more x y) (no_more_form x y)
breaking_form AtLeast x y = one_row (less x y) (less_form x y)
breaking_form Equal x y = two_rows (less x y) (less y x) (less_form x y) (less_form y x)
