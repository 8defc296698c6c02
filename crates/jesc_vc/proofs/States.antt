-- States and core terms, as structures change on what came later.
use Rattle.std.proofs.Common.{◌≡◌, ◌⊎◌, ℕ, zero, suc, ◌<◌, ◌≤◌, Bool, true, false, nat_lt, List, [], ◌∷◌, ◌++◌, map, length, refl, sym, ◌∙◌, inl, inr, arith, if◌then◌else◌}
use Rattle.std.specs.Prelude.{ℤ, pos, nat_eq}
use Rattle.std.specs.List.{All, Contains}
use Rattle.std.proofs.lemmas.Int.{ints}
use Rattle.std.proofs.lemmas.Bool.Decides.{nat_tests}
use Rattle.std.proofs.lemmas.List.Elements.{All-cons, All-contains}
use Rattle.jesc_logic.specs.Terms.{Term, number, applied}
use Rattle.jesc_logic.specs.Structures.{Structure, read, with_values, value, of_two}
use Rattle.jesc_core.specs.declared.term.HeapName.{HeapName}
use Rattle.jesc_core.specs.declared.term.HeapName.TheVariants.{Present, Kept}
use Rattle.jesc_core.specs.Heaps.{Reading, with_variable}
use Rattle.jesc_core.specs.Values as core
use Rattle.jesc_core.specs.Proper.{core_symbols}
use Rattle.jesc_vc.specs.Facts.{IsOld, Agree, IsBelow, AreBelow, IsKnown, IsShared, Shares}
use Rattle.jesc_vc.specs.Environments.{Source, HeapTree, EnvTree, env_with, tree_named, heap_in, state_in, IsSource, IsBelowHeap, IsBelowEnv}
use Rattle.jesc_vc.proofs.Readings.{agree_further, read_further, read_low, read_high}
use Rattle.jesc_vc.proofs.Below.{same_value, below_later}

-- ---- what is shared

shared_is_old : (c symbol : ℕ) (args : List ℤ) → IsShared symbol → IsOld c 0 symbol args
shared_is_old c symbol [] (inl s) = (omega arith, inl (omega arith))
shared_is_old c symbol [] (inr s) = (omega arith, inr (omega arith))
shared_is_old c symbol (x ∷ xs) (inl s) = (omega arith, inl ((λ e. omega arith), (λ e. omega arith)))
shared_is_old c symbol (x ∷ xs) (inr s) = (omega arith, inl ((λ e. omega arith), (λ e. omega arith)))

pub shares_later : (reading : Reading) (c : ℕ) (s t : Structure) → Agree c 0 s t → Shares reading s → Shares reading t
shares_later reading c s t h k symbol args shared = k symbol args shared ∙ h symbol args (shared_is_old c symbol args shared)

pub shares_under : (reading : Reading) (s : Structure) (xs : List ℤ) → length xs ≤ 32 → Shares reading s → Shares reading (with_values 32 xs s)
shares_under reading s xs few h symbol (y ∷ ys) shared = h symbol (y ∷ ys) shared ∙ sym (read_further s xs symbol y ys)
shares_under reading s xs few h symbol [] (inl shared) = h symbol [] (inl shared) ∙ sym (read_low s xs symbol (omega arith))
shares_under reading s xs few h symbol [] (inr shared) = h symbol [] (inr shared) ∙ sym (read_high s xs symbol (omega arith))

-- ---- symbols of a core

-- arithmetic over two, or a shared symbol over two at most
abbrev IsCoreSymbol : ℕ × ℕ → Type 0
IsCoreSymbol entry = ((entry.0 < 4) × (entry.1 ≡ 2)) ⊎ ((4 ≤ entry.0) × (entry.0 < 13) × (entry.1 ≤ 2))

abbrev EachIs : List (ℕ × ℕ) → Type 0
EachIs [] = Unit {0}
EachIs (entry ∷ entries) = IsCoreSymbol entry × EachIs entries

each_is : (entries : List (ℕ × ℕ)) → EachIs entries → All IsCoreSymbol entries
each_is [] h = λ k d lt. absurd (omega arith)
each_is (entry ∷ entries) h = All-cons IsCoreSymbol entry entries h.0 (each_is entries h.1)

all_core_symbols : EachIs core_symbols
all_core_symbols = (
  inl (omega arith, refl),
  (
    inl (omega arith, refl),
    (
      inl (omega arith, refl),
      (
        inl (omega arith, refl),
        (
          inr (omega arith, omega arith, omega arith),
          (
            inr (omega arith, omega arith, omega arith),
            (
              inr (omega arith, omega arith, omega arith),
              (inr (omega arith, omega arith, omega arith), (inr (omega arith, omega arith, omega arith), (inr (omega arith, omega arith, omega arith), tt))),
            ),
          ),
        ),
      ),
    ),
  ),
)

pub core_symbol : (symbol n : ℕ) → Contains core_symbols (symbol, n) → IsCoreSymbol (symbol, n)
core_symbol symbol n h = All-contains IsCoreSymbol core_symbols (symbol, n) (each_is core_symbols all_core_symbols) h

-- the value of a symbol of a core is the same in the structure
module _ (reading : Reading) (s : Structure) (h : Shares reading s) where
  two_as_core : (symbol : ℕ) (x y : ℤ) → ((symbol < 4) ⊎ ((4 ≤ symbol) × (symbol < 13))) → of_two s symbol x y ≡ core.of_two reading symbol x y
  two_as_core zero x y p = refl
  two_as_core (suc zero) x y p = refl
  two_as_core (suc (suc zero)) x y p = refl
  two_as_core (suc (suc (suc zero))) x y p = refl
  two_as_core (suc (suc (suc (suc n)))) x y (inl p) = absurd (omega arith)
  two_as_core (suc (suc (suc (suc n)))) x y (inr p) = sym (h (suc (suc (suc (suc n)))) (x ∷ y ∷ []) (inl p))

  pub worth_as_core : (symbol : ℕ) (ts : List Term) → IsCoreSymbol (symbol, length ts) → value s (applied symbol ts) ≡ core.worth reading symbol (map (value s) ts)
  worth_as_core symbol [] (inl p) = absurd (omega arith)
  worth_as_core symbol [] (inr p) = sym (h symbol [] (inl (p.0, p.1)))
  worth_as_core symbol (a ∷ []) (inl p) = absurd (omega arith)
  worth_as_core symbol (a ∷ []) (inr p) = sym (h symbol (value s a ∷ []) (inl (p.0, p.1)))
  worth_as_core symbol (a ∷ b ∷ []) (inl p) = two_as_core symbol (value s a) (value s b) (inl p.0)
  worth_as_core symbol (a ∷ b ∷ []) (inr p) = two_as_core symbol (value s a) (value s b) (inr (p.0, p.1))
  worth_as_core symbol (a ∷ b ∷ c ∷ rest) (inl p) = absurd (omega arith)
  worth_as_core symbol (a ∷ b ∷ c ∷ rest) (inr p) = absurd (omega arith)

pub core_symbol_below : (c n symbol : ℕ) (ts : List Term) → IsCoreSymbol (symbol, length ts) → AreBelow c n ts → IsBelow c n (applied symbol ts)
core_symbol_below c n symbol [] (inl p) b = absurd (omega arith)
core_symbol_below c n symbol [] (inr p) b = (omega arith, inl (omega arith))
core_symbol_below c n symbol (a ∷ []) (inl p) b = absurd (omega arith)
core_symbol_below c n symbol (a ∷ []) (inr p) b = ((omega arith, inl ((λ e. omega arith), (λ e. omega arith))), b.0)
core_symbol_below c n symbol (a ∷ d ∷ []) (inl p) b = ((omega arith, inl ((λ e. omega arith), (λ e. omega arith))), b.0, b.1.0)
core_symbol_below c n symbol (a ∷ d ∷ []) (inr p) b = ((omega arith, inl ((λ e. omega arith), (λ e. omega arith))), b.0, b.1.0)
core_symbol_below c n symbol (a ∷ d ∷ e ∷ rest) (inl p) b = absurd (omega arith)
core_symbol_below c n symbol (a ∷ d ∷ e ∷ rest) (inr p) b = absurd (omega arith)

-- ---- sources

pub source_is_old : (c n : ℕ) (source : Source) (args : List ℤ) → IsSource c source → IsOld c n source.0 (pos source.1 ∷ args)
source_is_old c n source args (high, low, inl p) = (omega arith, inl p)
source_is_old c n source args (high, low, inr v) = (omega arith, inr (omega (arith, ints)))

-- a source is read by its symbol
pub two_is_read : (s : Structure) (symbol : ℕ) (x y : ℤ) → 4 ≤ symbol → of_two s symbol x y ≡ read s symbol (x ∷ y ∷ [])
two_is_read s zero x y p = absurd (omega arith)
two_is_read s (suc zero) x y p = absurd (omega arith)
two_is_read s (suc (suc zero)) x y p = absurd (omega arith)
two_is_read s (suc (suc (suc zero))) x y p = absurd (omega arith)
two_is_read s (suc (suc (suc (suc n)))) x y p = refl

pub source_later : (c d : ℕ) (source : Source) → c ≤ d → IsSource c source → IsSource d source
source_later c d source p (high, low, inl q) = (high, low, inl q)
source_later c d source p (high, low, inr v) = (high, low, inr (omega arith))

pub source_known : (c : ℕ) (source : Source) → IsSource c source → IsKnown c source.0 (number (pos source.1))
source_known c source (high, low, inl p) = (omega arith, inl p)
source_known c source (high, low, inr v) = (omega arith, inr (source.1, refl, v))

-- ---- heaps and states

module _ (fields c n : ℕ) (s t : Structure) (a : Agree c n s t) where
  pub same_heap : (h : HeapTree) → IsBelowHeap fields c n h → heap_in fields s h ≡ heap_in fields t h
  same_heap h b = λ i. record {
    top = same_value c n s t a h.top b.top i;
    built = λ o. a h.built.0 (pos h.built.1 ∷ o ∷ []) (source_is_old c n h.built (o ∷ []) b.built) i;
    field = λ f o. same_field f o i;
    element = λ x y. a h.element.0 (pos h.element.1 ∷ x ∷ y ∷ []) (source_is_old c n h.element (x ∷ y ∷ []) b.element) i;
  }
    where
      by : (f : ℕ) (o : ℤ) (u : Bool) → nat_lt f fields ≡ u → (if u then read s (h.field f).0 (pos (h.field f).1 ∷ o ∷ []) else pos 0) ≡ (if u then read t (h.field f).0 (pos (h.field f).1 ∷ o ∷ []) else pos 0)
      by f o true e = a (h.field f).0 (pos (h.field f).1 ∷ o ∷ []) (source_is_old c n (h.field f) (o ∷ []) (b.field f (grind (arith, nat_tests))))
      by f o false e = refl

      same_field : (f : ℕ) (o : ℤ) → (if nat_lt f fields then read s (h.field f).0 (pos (h.field f).1 ∷ o ∷ []) else pos 0) ≡ (if nat_lt f fields then read t (h.field f).0 (pos (h.field f).1 ∷ o ∷ []) else pos 0)
      same_field f o = by f o (nat_lt f fields) refl

  pub same_state : (env : EnvTree) → IsBelowEnv fields c n env → state_in fields s env ≡ state_in fields t env
  same_state env b = λ i. record {
    variables = λ x. same_value c n s t a (env.variables x) (b.variables x) i;
    heap = same_heap env.heap b.heap i;
    kept = λ k. same_heap (env.kept k) (b.kept k) i;
    choice = env.choice;
  }

module _ (fields c d n m : ℕ) (p : c ≤ d) (q : n ≤ m) where
  pub heap_later : (h : HeapTree) → IsBelowHeap fields c n h → IsBelowHeap fields d m h
  heap_later h b = record {
    top = below_later c d n m p q h.top b.top;
    built = source_later c d h.built p b.built;
    field = λ f lt. source_later c d (h.field f) p (b.field f lt);
    element = source_later c d h.element p b.element;
  }

  pub env_later : (env : EnvTree) → IsBelowEnv fields c n env → IsBelowEnv fields d m env
  env_later env b = record {
    variables = λ x. below_later c d n m p q (env.variables x) (b.variables x);
    heap = heap_later env.heap b.heap;
    kept = λ k. heap_later (env.kept k) (b.kept k);
  }

pub named_below : (fields c n : ℕ) (env : EnvTree) (h : HeapName) → IsBelowEnv fields c n env → IsBelowHeap fields c n (tree_named env h)
named_below fields c n env Present b = b.heap
named_below fields c n env (Kept k) b = b.kept k

-- the heap of that name in the state is what the terms are worth
pub named_in : (fields : ℕ) (s : Structure) (env : EnvTree) (h : HeapName) → core.heap_named (state_in fields s env) h ≡ heap_in fields s (tree_named env h)
named_in fields s env Present = refl
named_in fields s env (Kept k) = refl

-- an environment with a term for a variable
pub with_below : (fields c n : ℕ) (env : EnvTree) (x : ℕ) (t : Term) → IsBelowEnv fields c n env → IsBelow c n t → IsBelowEnv fields c n (env_with env x t)
with_below fields c n env x t b k = record { variables = λ y. by y (nat_eq y x); heap = b.heap; kept = b.kept }
  where
    by : (y : ℕ) (u : Bool) → IsBelow c n (if u then t else env.variables y)
    by y true = k
    by y false = b.variables y

value_of_either : (s : Structure) (u : Bool) (a b : Term) → value s (if u then a else b) ≡ (if u then value s a else value s b)
value_of_either s true a b = refl
value_of_either s false a b = refl

pub with_in : (fields : ℕ) (s : Structure) (env : EnvTree) (x : ℕ) (t : Term) → state_in fields s (env_with env x t) ≡ with_variable (state_in fields s env) x (value s t)
with_in fields s env x t = λ i. record {
  variables = λ y. value_of_either s (nat_eq y x) t (env.variables y) i;
  heap = heap_in fields s env.heap;
  kept = λ k. heap_in fields s (env.kept k);
  choice = env.choice;
}

-- with more variables the state is the same
pub further_in : (fields c : ℕ) (s : Structure) (env : EnvTree) (xs ys : List ℤ) → length (xs ++ ys) ≤ 32 → IsBelowEnv fields c (length xs) env → state_in fields (with_values 32 (xs ++ ys) s) env ≡ state_in fields (with_values 32 xs s) env
further_in fields c s env xs ys few b = sym (same_state fields c (length xs) (with_values 32 xs s) (with_values 32 (xs ++ ys) s) (agree_further c s xs ys few) env b)
