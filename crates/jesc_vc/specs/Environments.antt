-- The terms of a core's variables and heaps, and the state that they are worth in a structure.
use Rattle.std.specs.Prelude.{◌⊎◌, ℕ, ◌+◌, ◌<◌, ◌≤◌, pos, [], ◌∷◌, nat_lt, if◌then◌else◌}
use Rattle.jesc_logic.specs.Terms.{Term, number, unary, binary, ternary}
use Rattle.jesc_logic.specs.Structures.{Structure, read, value}
use Rattle.jesc_core.specs.declared.term.HeapName.{HeapName}
use Rattle.jesc_core.specs.declared.term.HeapName.TheVariants.{Present, Kept}
use Rattle.jesc_core.specs.Heaps.{Heap, State, with_natural}
use Rattle.jesc_vc.specs.Facts.{auxiliary, IsPlain, IsBelow}

-- Where a field, the marks or the elements of a heap are read: a symbol, and the number that is its first argument, which is
-- a choice or a version.
abbrev pub Source : Type 0
Source = ℕ × ℕ

abbrev pub read_one : Source → Term → Term
read_one source o = binary source.0 (number (pos source.1)) o

abbrev pub read_two : Source → Term → Term → Term
read_two source a i = ternary source.0 (number (pos source.1)) a i

pub record HeapTree : Type 0 where
  pub top : Term
  pub built : Source
  pub field : ℕ → Source
  pub element : Source

pub record EnvTree : Type 0 where
  pub variables : ℕ → Term
  pub heap : HeapTree
  pub kept : ℕ → HeapTree
  pub choice : ℕ

abbrev pub tree_named : EnvTree → HeapName → HeapTree
tree_named env Present = env.heap
tree_named env (Kept k) = env.kept k

abbrev pub env_with : EnvTree → ℕ → Term → EnvTree
env_with env x t = record env { variables = with_natural env.variables x t }

-- ---- choices

-- the heap of a choice
abbrev pub choice_tree : ℕ → HeapTree
choice_tree j = record { top = unary 4 (number (pos j)); built = (7, j); field = λ f. (64 + f, j); element = (8, j) }

abbrev pub first_env : EnvTree
first_env = record { variables = λ x. number (pos 0); heap = choice_tree 0; kept = λ k. choice_tree 0; choice = 0 }

-- ---- what they are worth

-- the fields of a core are below `fields`
abbrev pub heap_in : ℕ → Structure → HeapTree → Heap
heap_in fields s h = record {
  top = value s h.top;
  built = λ o. read s h.built.0 (pos h.built.1 ∷ o ∷ []);
  field = λ f o. if nat_lt f fields then read s (h.field f).0 (pos (h.field f).1 ∷ o ∷ []) else pos 0;
  element = λ a i. read s h.element.0 (pos h.element.1 ∷ a ∷ i ∷ []);
}

abbrev pub state_in : ℕ → Structure → EnvTree → State
state_in fields s env = record {
  variables = λ x. value s (env.variables x);
  heap = heap_in fields s env.heap;
  kept = λ k. heap_in fields s (env.kept k);
  choice = env.choice;
}

-- ---- what came before

abbrev pub IsSource : ℕ → Source → Type 0
IsSource c source = (4 ≤ source.0) × (source.0 < auxiliary) × (IsPlain source.0 ⊎ source.1 < c)

pub record IsBelowHeap (fields c n : ℕ) (h : HeapTree) : Type 0 where
  pub top : IsBelow c n h.top
  pub built : IsSource c h.built
  pub field : (f : ℕ) → f < fields → IsSource c (h.field f)
  pub element : IsSource c h.element

pub record IsBelowEnv (fields c n : ℕ) (env : EnvTree) : Type 0 where
  pub variables : (x : ℕ) → IsBelow c n (env.variables x)
  pub heap : IsBelowHeap fields c n env.heap
  pub kept : (k : ℕ) → IsBelowHeap fields c n (env.kept k)
