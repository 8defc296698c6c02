-- What a parser answers of the trees of some kind: the longest one that the lexemes begin with, or where they stop.
use Rattle.std.specs.Prelude.{◌≡◌, ℕ, ◌+◌, ◌≤◌, ◌<◌, List, ◌++◌, length, take}
use Rattle.jesc_ast.specs.Lexemes.{Lexeme}

-- `spells` says which lexemes spell a tree, and `fits` which trees are within the limits.
module _ {T : Type 0} (spells : T → List Lexeme → Type 0) where
  -- the lexemes of a tree begin with these
  abbrev pub Begins : List Lexeme → Type 0
  Begins u = (t : T) × (more : List Lexeme) × spells t (u ++ more)

  -- No tree begins with the lexemes up to the one at this place. Where that is the end, they spell none.
  pub record IsRefused (ts : List Lexeme) (at : ℕ) : Type 0 where
    pub within : at ≤ length ts
    pub lexeme : at < length ts → Begins (take (at + 1) ts) → ⊥
    pub end : at ≡ length ts → (t : T) → spells t ts → ⊥

module _ {T : Type 0} (spells : T → List Lexeme → Type 0) (fits : T → Type 0) where
  -- those of one within the limits do
  abbrev pub BeginsWithin : List Lexeme → Type 0
  BeginsWithin u = (t : T) × (more : List Lexeme) × spells t (u ++ more) × fits t

  -- The first n lexemes spell the tree, which is within the limits, and no tree begins with them and the next.
  pub record IsLongest (ts : List Lexeme) (t : T) (n : ℕ) : Type 0 where
    pub within : n ≤ length ts
    pub spelled : spells t (take n ts)
    pub limited : fits t
    pub longest : n < length ts → Begins spells (take (n + 1) ts) → ⊥

  -- No tree within the limits does.
  pub record IsStuck (ts : List Lexeme) (at : ℕ) : Type 0 where
    pub within : at ≤ length ts
    pub lexeme : at < length ts → BeginsWithin (take (at + 1) ts) → ⊥
    pub end : at ≡ length ts → (t : T) → spells t ts → fits t → ⊥
