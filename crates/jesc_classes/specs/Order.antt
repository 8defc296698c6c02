-- The order in which classes get their ids, and who is whose supertype.
--
-- A class is known by its number: the predefined ones come first, and then the given ones in source order.
use Rattle.std.specs.Prelude.{◌↔◌, ℕ, ◌<◌, List, [], ◌∷◌, ◌++◌, length, get_or}
use Rattle.std.specs.List.{Contains, All}

-- of each class the numbers of the classes that its heading names
abbrev pub Graph : Type 0
Graph = List (List ℕ)

abbrev pub supers : Graph → ℕ → List ℕ
supers graph class = get_or graph class []

-- the second is a supertype of the first, direct or not
pub data Above (graph : Graph) : ℕ → ℕ → Type 0 where
  direct : (a b : ℕ) → Contains (supers graph a) b → Above graph a b
  further : (a b c : ℕ) → Contains (supers graph a) b → Above graph b c → Above graph a c

-- no class is its own supertype
abbrev pub IsAcyclic : Graph → Type 0
IsAcyclic graph = (a : ℕ) → Above graph a a → ⊥

-- ---- ids

-- the class has no id yet, and its supertypes all have ids
pub record IsReady (graph : Graph) (done : List ℕ) (class : ℕ) : Type 0 where
  pub given : class < length graph
  pub waits : Contains done class → ⊥
  pub above : All (Contains done) (supers graph class)

-- the first such class
pub record IsNext (graph : Graph) (done : List ℕ) (class : ℕ) : Type 0 where
  pub ready : IsReady graph done class
  pub first : (other : ℕ) → IsReady graph done other → other < class → ⊥

-- again and again, the next id goes to the first class in source order whose supertypes all have ids
pub data IsOrder (graph : Graph) : List ℕ → List ℕ → Type 0 where
  ended : (done : List ℕ) → ((class : ℕ) → IsReady graph done class → ⊥) → IsOrder graph done done
  next : (done order : List ℕ) (class : ℕ) → IsNext graph done class → IsOrder graph (done ++ class ∷ []) order → IsOrder graph done order

-- every class has an id
abbrev pub IsWhole : Graph → List ℕ → Type 0
IsWhole graph order = (class : ℕ) → class < length graph → Contains order class

-- the classes that a heading names are there
abbrev pub IsWithin : Graph → Type 0
IsWithin graph = All (All (λ above. above < length graph)) graph

-- every class gets an id exactly where no class is its own supertype
abbrev pub WholeWhereAcyclic : Type 0
WholeWhereAcyclic = (graph : Graph) (order : List ℕ) → IsWithin graph → IsOrder graph [] order → IsWhole graph order ↔ IsAcyclic graph
