-- Facts as plain data, and structures that agree on what came before.
use Rattle.std.specs.Prelude.{◌≡◌, ◌≢◌, ◌⊎◌, ℕ, ◌+◌, ◌<◌, ◌≤◌, ℤ, pos, ◌<ℤ◌, true, List, [], ◌∷◌, length}
use Rattle.jesc_logic.specs.declared.fact.Sort.{Sort}
use Rattle.jesc_logic.specs.Terms.{Term, number, constant, unary, binary, ternary}
use Rattle.jesc_logic.specs.Claims.{Claim, Each}
use Rattle.jesc_logic.specs.Structures.{Structure, read, with_values, is_true}
use Rattle.jesc_core.specs.Heaps.{Reading}

-- the sorts of its variables, and what is said of their values
pub record FactTree : Type 0 where
  pub sorts : List Sort
  pub body : Claim Term

abbrev pub IsMet : Structure → FactTree → Type 0
IsMet s f = (xs : List ℤ) → length xs ≡ length f.sorts → is_true (with_values 32 xs s) f.body ≡ true

abbrev pub AreMet : Structure → List FactTree → Type 0
AreMet s [] = Unit {0}
AreMet s (f ∷ fs) = IsMet s f × AreMet s fs

-- ---- what came before

-- the first auxiliary symbol
abbrev pub auxiliary : ℕ
auxiliary = 2147483648

-- symbols 13 and 14 read a version, whose number is their first argument
abbrev pub IsPlain : ℕ → Type 0
IsPlain symbol = (symbol ≢ 13) × (symbol ≢ 14)

-- The symbol at these arguments is known before the auxiliary symbol and version c is made, and holds no variable from the
-- n-th on.
abbrev pub IsOld : ℕ → ℕ → ℕ → List ℤ → Type 0
IsOld c n symbol [] = (symbol < auxiliary + c) × ((symbol < 32 + n) ⊎ (63 < symbol))
IsOld c n symbol (x ∷ xs) = (symbol < auxiliary + c) × (IsPlain symbol ⊎ x <ℤ pos c)

-- the structures agree on what was known then
abbrev pub Agree : ℕ → ℕ → Structure → Structure → Type 0
Agree c n s t = (symbol : ℕ) (args : List ℤ) → IsOld c n symbol args → read s symbol args ≡ read t symbol args

-- the term is the number of a version that was made before
abbrev pub IsVersion : ℕ → Term → Type 0
IsVersion c t = (v : ℕ) × (t ≡ number (pos v)) × (v < c)

abbrev pub IsKnown : ℕ → ℕ → Term → Type 0
IsKnown c symbol first = (symbol < auxiliary + c) × (IsPlain symbol ⊎ IsVersion c first)

-- the term holds only what was known then
abbrev pub IsBelow : ℕ → ℕ → Term → Type 0
IsBelow c n (number x) = Unit {0}
IsBelow c n (constant symbol) = IsOld c n symbol []
IsBelow c n (unary symbol a) = IsKnown c symbol a × IsBelow c n a
IsBelow c n (binary symbol a b) = IsKnown c symbol a × IsBelow c n a × IsBelow c n b
IsBelow c n (ternary symbol a b d) = IsKnown c symbol a × IsBelow c n a × IsBelow c n b × IsBelow c n d

abbrev pub AreBelow : ℕ → ℕ → List Term → Type 0
AreBelow c n [] = Unit {0}
AreBelow c n (t ∷ ts) = IsBelow c n t × AreBelow c n ts

abbrev pub IsBelowFact : ℕ → FactTree → Type 0
IsBelowFact c f = Each (IsBelow c (length f.sorts)) f.body

abbrev pub AreBelowFacts : ℕ → List FactTree → Type 0
AreBelowFacts c [] = Unit {0}
AreBelowFacts c (f ∷ fs) = IsBelowFact c f × AreBelowFacts c fs

-- ---- what cores and structures share

-- the symbols from 4 to 12 and those of fields: all that a core reads of a structure, besides arithmetic
abbrev pub IsShared : ℕ → Type 0
IsShared symbol = ((4 ≤ symbol) × (symbol < 13)) ⊎ ((64 ≤ symbol) × (symbol < auxiliary))

-- the structure reads as is told on what is shared
abbrev pub Shares : Reading → Structure → Type 0
Shares reading s = (symbol : ℕ) (args : List ℤ) → IsShared symbol → reading symbol args ≡ read s symbol args

-- ---- how many variables

-- facts have at most 32 variables
abbrev pub AreShort : List FactTree → Type 0
AreShort [] = Unit {0}
AreShort (f ∷ fs) = (length f.sorts ≤ 32) × AreShort fs
