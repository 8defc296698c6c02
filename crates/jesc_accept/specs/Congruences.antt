-- What the code of lemmas of congruence keeps. Words that only contracts inside the crate use.
use Rattle.std.specs.Prelude.{◌≡◌, ℕ, suc, Bool, true, false, ℤ, pos, negsuc, List, [], ◌∷◌, ◌++◌, Option, Some, None}
use Rattle.jesc_clauses.specs.declared.atom.Atom.{Atom}
use Rattle.jesc_clauses.specs.declared.lin.Lin.{Lin}
use Rattle.jesc_clauses.specs.declared.clause.Opaque.{Opaque}
use Rattle.jesc_clauses.specs.declared.builder.Truth.{Truth}
use Rattle.jesc_clauses.specs.declared.builder.Truth.TheVariants.{Constant, Literal}
use Rattle.jesc_clauses.specs.Builders.{turned}
use Rattle.jesc_accept.specs.declared.congruence.Said.{Said}
use Rattle.jesc_accept.specs.declared.congruence.Said.TheVariants as said
use Rattle.jesc_accept.specs.Lemmas.{ReadsAtMost, Differ, IsCongruence, literals_of, one}

-- the truth that was said
abbrev pub truth_of : Said → Truth
truth_of (said.Constant truth) = Constant truth
truth_of (said.Is k) = Literal (pos (suc k))
truth_of (said.Isnt k) = Literal (negsuc k)

-- the literals of a lemma of further truths
abbrev pub Adds : Option (List ℤ) → List Truth → Option (List ℤ) → Type 0
Adds old more new = (truths : List Truth) → old ≡ literals_of truths → new ≡ literals_of (truths ++ more)

-- the lemma grows by what tells one argument from another, or the comparisons aren't among the atoms
abbrev pub AddsDifference : List Atom → Lin → Lin → Option (List ℤ) → Option (List ℤ) → Bool → Type 0
AddsDifference atoms x y old new true = (s t : Truth) × (ReadsAtMost atoms x y s × (ReadsAtMost atoms y x t × Adds old (turned s ∷ turned t ∷ []) new))
AddsDifference atoms x y old new false = (s t : Truth) → ReadsAtMost atoms x y s → ReadsAtMost atoms y x t → ⊥

-- the same of lists of arguments
abbrev pub AddsDifferences : List Atom → List Lin → List Lin → Option (List ℤ) → Option (List ℤ) → Bool → Type 0
AddsDifferences atoms xs ys old new true = (more : List Truth) × (Differ atoms xs ys more × Adds old more new)
AddsDifferences atoms xs ys old new false = (more : List Truth) → Differ atoms xs ys more → ⊥

-- the lemma of two terms, or there is none
abbrev pub IsLemmaOf : List Atom → List Opaque → ℕ → ℕ → Option (Option (List ℤ)) → Type 0
IsLemmaOf atoms terms i j (Some lemma) = (truths : List Truth) × (IsCongruence atoms terms i j truths × (lemma ≡ literals_of truths))
IsLemmaOf atoms terms i j None = (truths : List Truth) → IsCongruence atoms terms i j truths → ⊥

-- the lemma grows by that term i is at most term j, or that isn't among the atoms
abbrev pub AddsAtMost : List Atom → ℕ → ℕ → Option (List ℤ) → Option (List ℤ) → Bool → Type 0
AddsAtMost atoms i j old new true = (last : Truth) × (ReadsAtMost atoms (one i) (one j) last × Adds old (last ∷ []) new)
AddsAtMost atoms i j old new false = (last : Truth) → ReadsAtMost atoms (one i) (one j) last → ⊥
