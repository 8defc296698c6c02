-- Clauses that grow by definitions of literals. Words that only contracts inside the crate use.
use Rattle.std.specs.Prelude.{◌≡◌, ℕ, ◌+◌, ◌*◌, ◌<◌, ◌≤◌, ◌^◌, Bool, ◌&&◌, not, IsTrue, ℤ, pos, List, [], ◌∷◌, ◌++◌, length, map, sum, All, Some, slice_get}
use Rattle.std.proofs.Math.IntN.{neg_ℤ}
use Rattle.jesc_logic.specs.declared.terms.TermId.{TermId}
use Rattle.jesc_logic.specs.Terms.{Term, unary, number, StandsFor}
use Rattle.jesc_logic.specs.Claims.{Claim, over, node_count}
use Rattle.jesc_logic.specs.Structures.{holds}
use Rattle.jesc_clauses.specs.declared.atom.Atom.{Atom}
use Rattle.jesc_clauses.specs.declared.lin.Lin.{Lin}
use Rattle.jesc_clauses.specs.declared.clause.Opaque.{Opaque}
use Rattle.jesc_clauses.specs.declared.builder.Builder.{Builder}
use Rattle.jesc_clauses.specs.declared.builder.Truth.{Truth}
use Rattle.jesc_clauses.specs.declared.builder.Truth.TheVariants.{Constant, Literal}
use Rattle.jesc_clauses.specs.Countermodels.{is_true_literal, is_true_clause, lin_value}
use Rattle.jesc_clauses.specs.Comparisons.{IsWideComparison}
use Rattle.jesc_clauses.specs.Readings.{Compares}
use Rattle.jesc_clauses.specs.Readers.{Entries, IsSumAt}
use Rattle.jesc_clauses.specs.Sums.{IsLin, IsBelowAll}
use Rattle.jesc_clauses.specs.Clausified.{size_of, AreScoped, IsLiteral, most_for_a_node}

-- ---- truths

-- each clause is true
abbrev pub AreTrue : (ℕ → ℤ) → List Atom → List (List ℤ) → Type 0
AreTrue v atoms clauses = All (λ literals. IsTrue (is_true_clause v atoms literals)) clauses

-- the constant, or a literal of so many atoms
abbrev pub IsTruth : ℕ → Truth → Type 0
IsTruth count (Constant truth) = Unit {0}
IsTruth count (Literal k) = IsLiteral count k

abbrev pub is_true : (ℕ → ℤ) → List Atom → Truth → Bool
is_true v atoms (Constant truth) = truth
is_true v atoms (Literal k) = is_true_literal v atoms k

-- the other constant, or the other sign
abbrev pub turned : Truth → Truth
turned (Constant truth) = Constant (not truth)
turned (Literal k) = Literal (neg_ℤ k)

-- u and v give the numbers below n the same
abbrev pub IsSameBelow : ℕ → (ℕ → ℤ) → (ℕ → ℤ) → Type 0
IsSameBelow n u v = (i : ℕ) → i < n → u i ≡ v i

-- ---- sums of terms

-- each sum is in bounds, over terms by number below n, and no term has two
pub record AreSums (n : ℕ) (sums : Entries) : Type 0 where
  pub each : (id : ℕ) (lin : Lin) → IsSumAt sums id lin → IsLin lin × IsBelowAll lin n
  pub one : (id : ℕ) (x y : Lin) → IsSumAt sums id x → IsSumAt sums id y → x ≡ y

-- g gives each term by number what its sum is worth
abbrev pub IsWorth : Entries → (ℕ → ℤ) → (TermId → ℤ) → Type 0
IsWorth sums v g = (id : TermId) (lin : Lin) → IsSumAt sums id.0 lin → g id ≡ lin_value v lin

-- ---- what was built

-- how many terms by number there are
abbrev pub count_of : Builder → ℕ
count_of b = length b.opaques

-- how many atoms, clauses and literals there are
abbrev pub extent : Builder → ℕ
extent b = size_of b.atoms b.clauses

-- the clauses are true
abbrev pub IsMet : (ℕ → ℤ) → Builder → Type 0
IsMet v b = AreTrue v b.atoms b.clauses

-- the term of number i is a symbol of no formula over i
pub record IsDefined (table : List Term) (symbol i : ℕ) (o : Opaque) : Type 0 where
  pub symbol_is : o.symbol ≡ symbol
  pub args_is : o.args ≡ record { form = []; constant = pos i } ∷ []
  pub stands : StandsFor table o.id (unary symbol (number (pos i)))

-- the terms behind those that were read are defined
pub record IsBuilt (table : List Term) (b : Builder) : Type 0 where
  pub short : count_of b < 2 ^ 32
  pub read : b.first ≤ count_of b
  pub few : length b.atoms < 2 ^ 31
  pub each : (i : ℕ) (o : Opaque) → b.first ≤ i → slice_get b.opaques i ≡ Some o → IsDefined table b.symbol i o
  pub scoped : AreScoped (count_of b) b.atoms b.clauses

-- behind what was there stand further terms, atoms and clauses; other numbers than those of the terms that were there can
-- be given so that the added clauses are true
pub record IsExtended (b c : Builder) : Type 0 where
  pub symbol : c.symbol ≡ b.symbol
  pub first : c.first ≡ b.first
  pub added_opaques : List Opaque
  pub opaques : c.opaques ≡ b.opaques ++ added_opaques
  pub added_atoms : List Atom
  pub atoms : c.atoms ≡ b.atoms ++ added_atoms
  pub added : List (List ℤ)
  pub clauses : c.clauses ≡ b.clauses ++ added
  pub extends : (v : ℕ → ℤ) → (u : ℕ → ℤ) × (IsSameBelow (count_of b) u v × AreTrue u c.atoms added)

-- an atom stands behind the others, and the literal is its
pub record IsAtomPut (b c : Builder) (atom : Atom) (k : ℤ) : Type 0 where
  pub symbol : c.symbol ≡ b.symbol
  pub first : c.first ≡ b.first
  pub opaques : c.opaques ≡ b.opaques
  pub atoms : c.atoms ≡ b.atoms ++ atom ∷ []
  pub clauses : c.clauses ≡ b.clauses
  pub few : length c.atoms < 2 ^ 31
  pub literal : k ≡ pos (length c.atoms)

-- a clause stands behind the others
pub record IsClausePut (b c : Builder) (literals : List ℤ) : Type 0 where
  pub symbol : c.symbol ≡ b.symbol
  pub first : c.first ≡ b.first
  pub opaques : c.opaques ≡ b.opaques
  pub atoms : c.atoms ≡ b.atoms
  pub clauses : c.clauses ≡ b.clauses ++ literals ∷ []

-- a defined term stands behind the others, and the form is it alone
pub record IsTermPut (table : List Term) (b c : Builder) (form : List (ℤ × ℕ)) : Type 0 where
  pub symbol : c.symbol ≡ b.symbol
  pub first : c.first ≡ b.first
  pub opaque : Opaque
  pub opaques : c.opaques ≡ b.opaques ++ opaque ∷ []
  pub is : IsDefined table b.symbol (count_of b) opaque
  pub short : count_of c < 2 ^ 32
  pub atoms : c.atoms ≡ b.atoms
  pub clauses : c.clauses ≡ b.clauses
  pub form_is : form ≡ (pos 1, count_of b) ∷ []

-- none of the terms has the symbol
abbrev pub IsFree : List Opaque → ℕ → Type 0
IsFree opaques symbol = (i : ℕ) (o : Opaque) → slice_get opaques i ≡ Some o → o.symbol ≡ symbol → ⊥

-- ---- what formulas come to

-- what was built tells a truth, and is at most so much larger
pub record IsTold (table : List Term) (b c : Builder) (size : ℕ) (truth : Truth) : Type 0 where
  pub built : IsBuilt table c
  pub extended : IsExtended b c
  pub is : IsTruth (length c.atoms) truth
  pub counted : extent c ≤ extent b + size

-- where the clauses are true, the truth is that of both
abbrev pub IsBoth : Builder → Truth → Truth → Truth → Type 0
IsBoth b first second truth = (v : ℕ → ℤ) → IsMet v b → is_true v b.atoms truth ≡ (is_true v b.atoms first && is_true v b.atoms second)

-- where the clauses are true, the truth is that of the formula
abbrev pub Tells : Entries → Builder → Truth → Claim TermId → Type 0
Tells sums b truth f = (v : ℕ → ℤ) (g : TermId → ℤ) → IsWorth sums v g → IsMet v b → is_true v b.atoms truth ≡ holds (over g f)

-- two terms that the formula compares have sums, and the atom of the comparison has a number that is too large
pub record IsWideAt (sums : Entries) (f : Claim TermId) (n : ℤ) : Type 0 where
  pub a : TermId
  pub b : TermId
  pub compares : Compares a b f
  pub x : Lin
  pub y : Lin
  pub sum_a : IsSumAt sums a.0 x
  pub sum_b : IsSumAt sums b.0 y
  pub wide : IsWideComparison x y n

-- no atom of a comparison in the formula has a number that is too large
abbrev pub AreNarrowAt : Entries → Claim TermId → Type 0
AreNarrowAt sums f = (n : ℤ) → IsWideAt sums f n → ⊥

-- each formula is true
abbrev pub AllHold : (TermId → ℤ) → List (Claim TermId) → Type 0
AllHold g formulas = All (λ f. IsTrue (holds (over g f))) formulas

-- what was built says of the terms that were there that the formulas are true, and no more
pub record IsAsserted (sums : Entries) (table : List Term) (b c : Builder) (formulas : List (Claim TermId)) : Type 0 where
  pub built : IsBuilt table c
  pub symbol : c.symbol ≡ b.symbol
  pub first : c.first ≡ b.first
  pub added_opaques : List Opaque
  pub opaques : c.opaques ≡ b.opaques ++ added_opaques
  pub counted : extent c ≤ extent b + most_for_a_node * sum (map (λ f. node_count f) formulas)
  pub keeps : (v : ℕ → ℤ) → IsMet v c → IsMet v b
  pub says : (v : ℕ → ℤ) (g : TermId → ℤ) → IsWorth sums v g → IsMet v c → AllHold g formulas
  pub extends : (v : ℕ → ℤ) (g : TermId → ℤ) → IsWorth sums v g → IsMet v b → AllHold g formulas → (u : ℕ → ℤ) × (IsSameBelow (count_of b) u v × IsMet u c)

-- a formula of the list has terms that it compares, the atom of which has a number that is too large
abbrev pub IsWideOneAt : Entries → List (Claim TermId) → ℤ → Type 0
IsWideOneAt sums formulas n = (k : ℕ) × (f : Claim TermId) × (slice_get formulas k ≡ Some f) × IsWideAt sums f n
