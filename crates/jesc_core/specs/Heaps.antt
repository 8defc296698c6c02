-- The states of a core run.
use Rattle.std.specs.Prelude.{ℕ, suc, ◌+◌, ℤ, pos, ◌+ℤ◌, nat_eq, nat_lt, int_lt, List, [], ◌∷◌, if◌then◌else◌}
use Rattle.std.specs.Ordering.{int_eq}

-- what a structure reads as, by symbol and arguments
abbrev pub Reading : Type 0
Reading = ℕ → List ℤ → ℤ

-- Each field has a value at every whole number, the elements have one at every two, and every whole number has a mark that
-- tells whether it is built. The objects are the numbers from 1 below `top`. The dynamic type and the length of an object
-- are the same in all heaps of a run: those that symbols 5 and 6 of the structure give.
pub record Heap : Type 0 where
  pub top : ℤ
  pub built : ℤ → ℤ
  -- by field and object
  pub field : ℕ → ℤ → ℤ
  -- by array and index
  pub element : ℤ → ℤ → ℤ

pub record State : Type 0 where
  pub variables : ℕ → ℤ
  -- the present heap
  pub heap : Heap
  -- the heaps that are kept, by number
  pub kept : ℕ → Heap
  -- the number of the choice that was taken last
  pub choice : ℕ

-- the function with another value at one place
abbrev pub with_natural : {T : Type 0} → (ℕ → T) → ℕ → T → ℕ → T
with_natural f x v y = if nat_eq y x then v else f y

abbrev pub with_integer : {T : Type 0} → (ℤ → T) → ℤ → T → ℤ → T
with_integer f x v y = if int_eq y x then v else f y

abbrev pub with_variable : State → ℕ → ℤ → State
with_variable st x v = record st { variables = with_natural st.variables x v }

abbrev pub with_heap : State → Heap → State
with_heap st h = record st { heap = h }

abbrev pub with_kept : State → ℕ → State
with_kept st k = record st { kept = with_natural st.kept k st.heap }

-- ---- changes of a heap

abbrev pub with_field : Heap → ℕ → ℤ → ℤ → Heap
with_field h f o v = record h { field = with_natural h.field f (with_integer (h.field f) o v) }

abbrev pub with_element : Heap → ℤ → ℤ → ℤ → Heap
with_element h a i v = record h { element = with_integer h.element a (with_integer (h.element a) i v) }

abbrev pub with_built : Heap → ℤ → Heap
with_built h o = record h { built = with_integer h.built o (pos 1) }

-- arrays have types below 0, and are built from the start
abbrev pub first_mark : ℤ → ℤ
first_mark ty = if int_lt ty (pos 0) then pos 1 else pos 0

-- one object more, at `top`, whose fields and elements are 0
abbrev pub with_object : Heap → ℤ → Heap
with_object h ty = record {
  top = h.top +ℤ pos 1;
  built = with_integer h.built h.top (first_mark ty);
  field = λ f. with_integer (h.field f) h.top (pos 0);
  element = with_integer h.element h.top (λ i. pos 0);
}

-- ---- what a structure gives

-- The heap of choice j. A core speaks of fields below `fields` alone, and the others read 0.
abbrev pub chosen_heap : Reading → ℕ → ℕ → Heap
chosen_heap reading fields j = record {
  top = reading 4 (pos j ∷ []);
  built = λ o. reading 7 (pos j ∷ o ∷ []);
  field = λ f o. if nat_lt f fields then reading (64 + f) (pos j ∷ o ∷ []) else pos 0;
  element = λ a i. reading 8 (pos j ∷ a ∷ i ∷ []);
}

-- a run begins with the heap of choice 0 as the present one and under every number, and with each variable at 0
abbrev pub first_state : Reading → ℕ → State
first_state reading fields = record { variables = λ x. pos 0; heap = chosen_heap reading fields 0; kept = λ k. chosen_heap reading fields 0; choice = 0 }

-- the next choice is taken: its heap becomes the present one, and the variable its number
abbrev pub next_choice : Reading → ℕ → ℕ → State → State
next_choice reading fields x st = record {
  variables = with_natural st.variables x (pos (suc st.choice));
  heap = chosen_heap reading fields (suc st.choice);
  kept = st.kept;
  choice = suc st.choice;
}
