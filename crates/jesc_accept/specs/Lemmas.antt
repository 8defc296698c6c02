-- What the lines of lemmas say.
use Rattle.std.specs.Prelude.{◌≡◌, ℕ, zero, suc, ◌<◌, ◌^◌, true, false, ℤ, pos, negsuc, ◌-ℤ◌, List, [], ◌∷◌, ◌++◌, length, map, Option, Some, None, slice_get}
use Rattle.std.specs.Option.{option_map}
use Rattle.std.proofs.Math.IntN.{neg_ℤ}
use Rattle.jesc_linear.specs.declared.rows.Row.{Row}
use Rattle.jesc_clauses.specs.declared.atom.Atom.{Atom}
use Rattle.jesc_clauses.specs.declared.lin.Lin.{Lin}
use Rattle.jesc_clauses.specs.declared.clause.Opaque.{Opaque}
use Rattle.jesc_clauses.specs.declared.normal.Normal.{Normal}
use Rattle.jesc_clauses.specs.declared.normal.Normal.TheVariants as normal
use Rattle.jesc_clauses.specs.declared.builder.Truth.{Truth}
use Rattle.jesc_clauses.specs.declared.builder.Truth.TheVariants.{Constant, Literal}
use Rattle.jesc_clauses.specs.Builders.{turned}
use Rattle.jesc_clauses.specs.Comparisons.{IsComparison, IsNarrowNormal}
use Rattle.jesc_clauses.specs.Normals.{scaled}
use Rattle.jesc_clauses.specs.Sums.{IsLin}

-- ---- numbers of a line

-- the parts of a form, one behind the other
abbrev pub flat : List (ℤ × ℕ) → List ℤ
flat [] = []
flat (part ∷ form) = part.0 ∷ pos part.1 ∷ flat form

-- the bound, the count of parts and the parts
abbrev pub sum_numbers : ℤ → List (ℤ × ℕ) → List ℤ
sum_numbers bound form = bound ∷ pos (length form) ∷ flat form

-- the term of the part is one of so many, and its number is below 2^32
abbrev pub IsThere : ℕ → ℤ × ℕ → Type 0
IsThere terms part = (part.1 < terms) × (part.1 < 2 ^ 32)

-- ---- comparisons that are read in the table of atoms

-- the smallest number that the atom has
pub record IsFirstOf (atoms : List Atom) (atom : Atom) (k : ℕ) : Type 0 where
  pub there : slice_get atoms k ≡ Some atom
  pub first : (j : ℕ) → j < k → slice_get atoms j ≡ Some atom → ⊥

-- what a comparison's normal form says, with the number of its atom
abbrev pub ReadsNormal : List Atom → Normal → Truth → Type 0
ReadsNormal atoms (normal.Constant c) t = t ≡ Constant c
ReadsNormal atoms (normal.Holds atom) t = (k : ℕ) × (IsFirstOf atoms atom k × (t ≡ Literal (pos (suc k))))
ReadsNormal atoms (normal.Fails atom) t = (k : ℕ) × (IsFirstOf atoms atom k × (t ≡ Literal (negsuc k)))

-- the two sums are in bounds, and that the first is at most the second comes to this truth, over an atom in bounds
pub record ReadsAtMost (atoms : List Atom) (x y : Lin) (t : Truth) : Type 0 where
  pub first : IsLin x
  pub second : IsLin y
  pub normal : Normal
  pub is : IsComparison x y normal
  pub narrow : IsNarrowNormal normal
  pub reads : ReadsNormal atoms normal t

-- ---- lemmas of congruence

-- the sum of one term
abbrev pub one : ℕ → Lin
one i = record { form = (pos 1, i) ∷ []; constant = pos 0 }

-- for each argument, that the first is not at most the second and that the second is not at most the first
abbrev pub Differ : List Atom → List Lin → List Lin → List Truth → Type 0
Differ atoms [] [] truths = truths ≡ []
Differ atoms [] (y ∷ ys) truths = ⊥
Differ atoms (x ∷ xs) [] truths = ⊥
Differ atoms (x ∷ xs) (y ∷ ys) truths = (s t : Truth) × (rest : List Truth) × (ReadsAtMost atoms x y s × (ReadsAtMost atoms y x t × (Differ atoms xs ys rest × (truths ≡ turned s ∷ turned t ∷ rest))))

-- some argument differs, or term i is at most term j
pub record IsCongruence (atoms : List Atom) (terms : List Opaque) (i j : ℕ) (truths : List Truth) : Type 0 where
  pub a : Opaque
  pub b : Opaque
  pub first : slice_get terms i ≡ Some a
  pub second : slice_get terms j ≡ Some b
  pub short : (i < 2 ^ 32) × (j < 2 ^ 32)
  pub symbol : a.symbol ≡ b.symbol
  pub differ : List Truth
  pub arguments : Differ atoms a.args b.args differ
  pub last : Truth
  pub at_most : ReadsAtMost atoms (one i) (one j) last
  pub are : truths ≡ differ ++ last ∷ []

-- the literals of the lemma that one of these is true; none where one is true by itself
abbrev pub literals_of : List Truth → Option (List ℤ)
literals_of [] = Some []
literals_of (Constant true ∷ truths) = None
literals_of (Constant false ∷ truths) = literals_of truths
literals_of (Literal k ∷ truths) = option_map (λ ks. k ∷ ks) (literals_of truths)

-- ---- lemmas of linear arithmetic

-- the row of a literal: the atom's, or that of its negation
abbrev pub IsRowOf : List Atom → ℤ → Row → Type 0
IsRowOf atoms (pos zero) row = ⊥
IsRowOf atoms (pos (suc k)) row = (atom : Atom) × ((slice_get atoms k ≡ Some atom) × (row ≡ record { form = atom.form; bound = atom.bound }))
IsRowOf atoms (negsuc k) row = (atom : Atom) × ((slice_get atoms k ≡ Some atom) × (row ≡ record { form = scaled (negsuc 0) atom.form; bound = neg_ℤ atom.bound -ℤ pos 1 }))

abbrev pub AreRowsOf : List Atom → List ℤ → List Row → Type 0
AreRowsOf atoms [] [] = Unit {0}
AreRowsOf atoms [] (row ∷ rows) = ⊥
AreRowsOf atoms (k ∷ ks) [] = ⊥
AreRowsOf atoms (k ∷ ks) (row ∷ rows) = IsRowOf atoms k row × AreRowsOf atoms ks rows

-- not all of the literals hold
abbrev pub negations : List ℤ → List ℤ
negations literals = map (λ k. neg_ℤ k) literals
