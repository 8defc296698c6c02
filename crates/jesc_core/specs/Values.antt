-- What terms and formulas of a core mean in a state.
use Rattle.std.specs.Prelude.{ℕ, zero, suc, ℤ, pos, negsuc, ◌+ℤ◌, ◌-ℤ◌, ◌*ℤ◌, Bool, true, false, ◌&&◌, ◌||◌, not, int_le, List, [], ◌∷◌, if◌then◌else◌}
use Rattle.std.specs.Ordering.{int_eq}
use Rattle.jesc_logic.specs.Structures.{quotient, remainder}
use Rattle.jesc_core.specs.declared.term.HeapName.{HeapName}
use Rattle.jesc_core.specs.declared.term.HeapName.TheVariants.{Present, Kept}
use Rattle.jesc_core.specs.Trees.{TermTree, number, variable, applied, field, element, top, built, choose, TermTrees, no_terms, more_terms, FormulaTree, truth, falsity, at_most, equal, negation, both, either, all, any, RangeTree, range}
use Rattle.jesc_core.specs.Heaps.{Reading, Heap, State, with_variable}

abbrev pub heap_named : State → HeapName → Heap
heap_named st Present = st.heap
heap_named st (Kept k) = st.kept k

-- symbols 0 to 3 are sum, product, quotient and remainder, and what another symbol is worth the structure tells
abbrev pub of_two : Reading → ℕ → ℤ → ℤ → ℤ
of_two reading zero x y = x +ℤ y
of_two reading (suc zero) x y = x *ℤ y
of_two reading (suc (suc zero)) x y = quotient x y
of_two reading (suc (suc (suc zero))) x y = remainder x y
of_two reading (suc (suc (suc (suc n)))) x y = reading (suc (suc (suc (suc n)))) (x ∷ y ∷ [])

abbrev pub worth : Reading → ℕ → List ℤ → ℤ
worth reading symbol (x ∷ y ∷ []) = of_two reading symbol x y
worth reading symbol xs = reading symbol xs

-- ---- ranges

-- how many whole numbers there are from the first to the second
abbrev pub natural : ℤ → ℕ
natural (pos n) = n
natural (negsuc n) = 0

abbrev pub count : ℤ → ℤ → ℕ
count low high = natural ((high +ℤ pos 1) -ℤ low)

-- at each of so many numbers from the first on
abbrev pub each_from : ℕ → ℤ → (ℤ → Bool) → Bool
each_from zero low p = true
each_from (suc n) low p = p low && each_from n (low +ℤ pos 1) p

-- at one of them
abbrev pub some_from : ℕ → ℤ → (ℤ → Bool) → Bool
some_from zero low p = false
some_from (suc n) low p = p low || some_from n (low +ℤ pos 1) p

-- ---- terms and formulas

-- what a range is to be tried at: its bounds and its body
pub record Span : Type 0 where
  pub low : ℤ
  pub high : ℤ
  pub body : ℤ → Bool

abbrev pub at_each : Span → Bool
at_each s = each_from (count s.low s.high) s.low s.body

abbrev pub at_some : Span → Bool
at_some s = some_from (count s.low s.high) s.low s.body

module _ (reading : Reading) where
  abbrev mutual
    pub value : TermTree → State → ℤ
    value (number n) st = n
    value (variable x) st = st.variables x
    value (applied symbol args) st = worth reading symbol (values args st)
    value (field h f object) st = (heap_named st h).field f (value object st)
    value (element h array index) st = (heap_named st h).element (value array st) (value index st)
    value (top h) st = (heap_named st h).top
    value (built h object) st = (heap_named st h).built (value object st)
    value (choose f a b) st = if is_true f st then value a st else value b st

    pub values : TermTrees → State → List ℤ
    values no_terms st = []
    values (more_terms t ts) st = value t st ∷ values ts st

    pub is_true : FormulaTree → State → Bool
    is_true truth st = true
    is_true falsity st = false
    is_true (at_most a b) st = int_le (value a st) (value b st)
    is_true (equal a b) st = int_eq (value a st) (value b st)
    is_true (negation f) st = not (is_true f st)
    is_true (both f g) st = is_true f st && is_true g st
    is_true (either f g) st = is_true f st || is_true g st
    is_true (all r) st = at_each (span r st)
    is_true (any r) st = at_some (span r st)

    pub span : RangeTree → State → Span
    span (range x sort low high body) st = record { low = value low st; high = value high st; body = λ v. is_true body (with_variable st x v) }
