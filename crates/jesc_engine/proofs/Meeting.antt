-- Rows that are met, ways of which one is met, and obligations of which one is broken, by recursion on the lists.
use Rattle.std.proofs.Common.{◌≡◌, ℕ, zero, suc, ◌<◌, List, [], ◌∷◌, ◌++◌, ℤ, ◌⊎◌, inl, inr, sym, subst, arith, Any, length, slice_index_or}
use Rattle.std.proofs.lemmas.List.Elements.{All-nil, All-cons, All-head, All-tail}
use Rattle.jesc_linear.specs.declared.rows.Row.{Row}
use Rattle.jesc_linear.specs.Rows.{Meets, MeetsAll}
use Rattle.jesc_first.specs.declared.check.Check.{Check}
use Rattle.jesc_engine.specs.Ways.{Obligation, each_way}
use Rattle.jesc_engine.specs.Outcomes.{HasSolution}

-- v meets each of the rows
abbrev pub Met : (ℕ → ℤ) → List Row → Type 0
Met v [] = Unit {0}
Met v (row ∷ rest) = Meets v row × Met v rest

-- one of the elements has the property
abbrev pub OneOf : {A : Type 0} → (A → Type 0) → List A → Type 0
OneOf P [] = ⊥
OneOf P (x ∷ xs) = P x ⊎ OneOf P xs

-- v meets a way in which the check fails
pub record BrokenBy (v : ℕ → ℤ) (check : Check) (obligation : Obligation) : Type 0 where
  pub same : obligation.check ≡ check
  pub way : OneOf (Met v) obligation.ways

-- v meets a way of an obligation with this check
abbrev pub Broken : (ℕ → ℤ) → List Obligation → Check → Type 0
Broken v obligations check = OneOf (BrokenBy v check) obligations

-- v meets the rows of both lists
pub met_both : (v : ℕ → ℤ) (xs ys : List Row) → Met v xs → Met v ys → Met v (xs ++ ys)
met_both v [] ys mx my = my
met_both v (x ∷ xs) ys mx my = (mx.0, met_both v xs ys mx.1 my)

-- v meets the first rows of a list
pub met_left : (v : ℕ → ℤ) (xs ys : List Row) → Met v (xs ++ ys) → Met v xs
met_left v [] ys m = tt
met_left v (x ∷ xs) ys m = (m.0, met_left v xs ys m.1)

-- v meets the last rows of a list
pub met_right : (v : ℕ → ℤ) (xs ys : List Row) → Met v (xs ++ ys) → Met v ys
met_right v [] ys m = m
met_right v (x ∷ xs) ys m = met_right v xs ys m.1

-- from the words of contracts
pub met_from_all : (v : ℕ → ℤ) (rows : List Row) → MeetsAll v rows → Met v rows
met_from_all v [] m = tt
met_from_all v (row ∷ rest) m = (All-head (Meets v) row rest m, met_from_all v rest (All-tail (Meets v) row rest m))

-- to the words of contracts
pub all_from_met : (v : ℕ → ℤ) (rows : List Row) → Met v rows → MeetsAll v rows
all_from_met v [] m = All-nil (Meets v)
all_from_met v (row ∷ rest) m = All-cons (Meets v) row rest m.0 (all_from_met v rest m.1)

-- an element of the first list
pub one_left : {A : Type 0} (P : A → Type 0) (xs ys : List A) → OneOf P xs → OneOf P (xs ++ ys)
one_left P [] ys o = elim o [ ]
one_left P (x ∷ xs) ys o = elim o [ inl p ↦ inl p | inr q ↦ inr (one_left P xs ys q) ]

-- an element of the second list
pub one_right : {A : Type 0} (P : A → Type 0) (xs ys : List A) → OneOf P ys → OneOf P (xs ++ ys)
one_right P [] ys o = o
one_right P (x ∷ xs) ys o = inr (one_right P xs ys o)

-- an element of one of two lists
pub one_cases : {A : Type 0} (P : A → Type 0) (xs ys : List A) → OneOf P (xs ++ ys) → OneOf P xs ⊎ OneOf P ys
one_cases P [] ys o = inr o
one_cases P (x ∷ xs) ys o = elim o [
  | inl p ↦ inl (inl p)
  | inr q ↦ elim (one_cases P xs ys q) [ inl l ↦ inl (inr l) | inr r ↦ inr r ]
]

-- where v meets the rows with one way more, it meets the rows and a way
pub each_to : (v : ℕ → ℤ) (rows : List Row) (ways : List Row) → OneOf (Met v) (each_way rows ways) → Met v rows × OneOf (Meets v) ways
each_to v rows [] o = elim o [ ]
each_to v rows (way ∷ rest) o = elim o [
  | inl m ↦ (met_left v rows (way ∷ []) m, inl (met_right v rows (way ∷ []) m).0)
  | inr q ↦ let r = each_to v rows rest q in (r.0, inr r.1)
]

-- where v meets the rows and a way, it meets the rows with that way
pub each_from : (v : ℕ → ℤ) (rows : List Row) (ways : List Row) → Met v rows → OneOf (Meets v) ways → OneOf (Met v) (each_way rows ways)
each_from v rows [] m o = elim o [ ]
each_from v rows (way ∷ rest) m o = elim o [
  | inl h ↦ inl (met_both v rows (way ∷ []) m (h, tt))
  | inr q ↦ inr (each_from v rows rest m q)
]

-- the way at this index has a solution
one_at : (ways : List (List Row)) (k : ℕ) (x : List Row) → k < length ways → slice_index_or ways k x ≡ x → HasSolution x → (v : ℕ → ℤ) × OneOf (Met v) ways
one_at [] k x l e h = absurd (omega arith)
one_at (way ∷ rest) zero x l e h = (h.0, inl (met_from_all h.0 way (subst (MeetsAll h.0) (sym e) h.1)))
one_at (way ∷ rest) (suc k) x l e h = let r = one_at rest k x (omega arith) e h in (r.0, inr r.1)

-- where a way has a solution, some numbers meet one of the ways
pub one_from_any : (ways : List (List Row)) → Any HasSolution ways → (v : ℕ → ℤ) × OneOf (Met v) ways
one_from_any ways a = one_at ways a.0 a.1 a.2 a.3 a.4
