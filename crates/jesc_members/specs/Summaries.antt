-- What is known of some methods of one key together.
use Rattle.std.specs.Prelude.{◌≡◌, ◌↔◌, ℕ, true, Option, Some, None, List, [], slice_get, get_or}
use Rattle.std.specs.List.{Contains}
use Rattle.jesc_members.specs.declared.summary.Summary.{Summary}
use Rattle.jesc_members.specs.Methods.{MethodOf, signature, is_hidden, is_final}

-- the method of that number
abbrev pub IsMethodAt : List MethodOf → ℕ → MethodOf → Type 0
IsMethodAt methods i m = slice_get methods i ≡ Some m

-- two of these methods are declared by different types
abbrev pub AreMany : List MethodOf → List ℕ → Type 0
AreMany methods of = (i j : ℕ) × (a b : MethodOf) × Contains of i × Contains of j × IsMethodAt methods i a × IsMethodAt methods j b × (a.class ≡ b.class → ⊥)

-- two of them have different signatures
abbrev pub AreMixed : List MethodOf → List ℕ → Type 0
AreMixed methods of = (i j : ℕ) × (a b : MethodOf) × Contains of i × Contains of j × IsMethodAt methods i a × IsMethodAt methods j b × (signature a.tree ≡ signature b.tree → ⊥)

-- one of them is as said
abbrev pub IsOneSuch : List MethodOf → (MethodOf → Type 0) → List ℕ → Type 0
IsOneSuch methods P of = (i : ℕ) × (a : MethodOf) × Contains of i × IsMethodAt methods i a × P a

pub record IsSummary (methods : List MethodOf) (of : List ℕ) (s : Summary) : Type 0 where
  pub sample : Contains of s.sample
  pub many : (s.many ≡ true) ↔ AreMany methods of
  pub mixed : (s.mixed ≡ true) ↔ AreMixed methods of
  pub hides : (s.hides ≡ true) ↔ IsOneSuch methods (λ a. is_hidden a.tree ≡ true) of
  pub sealed : (s.sealed ≡ true) ↔ IsOneSuch methods (λ a. is_final a.tree ≡ true) of

-- no summary where there are none
abbrev pub IsSummaryOf : List MethodOf → List ℕ → Option Summary → Type 0
IsSummaryOf methods of None = of ≡ []
IsSummaryOf methods of (Some s) = IsSummary methods of s

-- the item is one of the key that a class of the list declares
abbrev pub IsKeyedIn : List ℕ → List (List ℕ) → List ℕ → ℕ → ℕ → Type 0
IsKeyedIn keys rows classes key i = (c : ℕ) × Contains classes c × Contains (get_or rows c []) i × (get_or keys i 0 ≡ key)

-- the summary is that of the items of the key which these classes declare
abbrev pub Summarizes : List MethodOf → List ℕ → List (List ℕ) → List ℕ → ℕ → Option Summary → Type 0
Summarizes methods keys rows classes key s =
    (of : List ℕ) × ((i : ℕ) → Contains of i ↔ IsKeyedIn keys rows classes key i) × IsSummaryOf methods of s
