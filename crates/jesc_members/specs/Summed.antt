-- Keys of the given methods, and what the summary of those above a class says of one more.
use Rattle.std.specs.Prelude.{◌≡◌, ◌↔◌, ℕ, ◌⊎◌, true, Option, Some, None, List, [], get_or}
use Rattle.std.specs.List.{Contains}
use Rattle.jesc_classes.specs.Headings.{Source}
use Rattle.jesc_members.specs.declared.summary.Summary.{Summary}
use Rattle.jesc_members.specs.Methods.{MethodOf, methods_of, is_hidden}
use Rattle.jesc_members.specs.Overriding.{AreAlike, Differ}
use Rattle.jesc_members.specs.Summaries.{IsMethodAt}

pub record AreKeysOf (given : List Source) (keys : List ℕ) (rows : List (List ℕ)) : Type 0 where
  -- two methods have one key exactly where they are alike
  pub keyed : (i j : ℕ) (a b : MethodOf) → IsMethodAt (methods_of given) i a → IsMethodAt (methods_of given) j b → (get_or keys i 0 ≡ get_or keys j 0) ↔ AreAlike a b
  -- the row of a class has the numbers of its methods
  pub rowed : (class i : ℕ) → Contains (get_or rows class []) i ↔ ((m : MethodOf) × IsMethodAt (methods_of given) i m × (m.class ≡ class))

-- two of them have different signatures, or the sample has another one than the method
abbrev pub DiffersFrom : List MethodOf → MethodOf → Option Summary → Type 0
DiffersFrom methods m None = ⊥
DiffersFrom methods m (Some s) = (s.mixed ≡ true) ⊎ ((a : MethodOf) × IsMethodAt methods s.sample a × Differ m a)

-- the method or one of them is private or static
abbrev pub HidesWith : MethodOf → Option Summary → Type 0
HidesWith m None = ⊥
HidesWith m (Some s) = (is_hidden m.tree ≡ true) ⊎ (s.hides ≡ true)

abbrev pub IsSealed : Option Summary → Type 0
IsSealed None = ⊥
IsSealed (Some s) = s.sealed ≡ true
