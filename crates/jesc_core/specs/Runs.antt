-- What a core does in a structure along given turns.
--
-- A run is told by what it comes to: `After` says of a state and of the turns that are still to come what has to hold where
-- a run gets there. So `run_step s step after left` says of a state that the run of the step from there fails the given
-- check, or goes on to a state where `after` holds, or leaves a block to where `left` holds at the block's depth.
use Rattle.std.specs.Prelude.{◌≡◌, ℕ, zero, suc, ◌⊎◌, ℤ, pos, ◌<ℤ◌, ◌≤ℤ◌, true, false, List, [], ◌∷◌, slice_get, unwrap_or}
use Rattle.jesc_text.specs.declared.place.Place.{Place}
use Rattle.jesc_core.specs.Trees.{FormulaTree, falsity, Failure, FrameTree, StepTree, assume, check, assign, keep, write, write_element, make, build, havoc, branch, block, leave, stop, CoreTree, done, next, CoreTrees, no_cores, more_cores}
use Rattle.jesc_core.specs.Heaps.{Reading, Heap, State, with_variable, with_heap, with_kept, with_field, with_element, with_built, with_object, chosen_heap, first_state, next_choice}
use Rattle.jesc_core.specs.Values.{value, is_true}
use Rattle.jesc_core.specs.Fields.{field_count}

-- the way that is taken at the branch of this place
abbrev pub Turn : Type 0
Turn = Place × ℕ

-- what follows where a block of each depth is left, inside one block more
abbrev pub inside_block {ℓ} : {T : Type ℓ} → T → (ℕ → T) → ℕ → T
inside_block after left zero = after
inside_block after left (suc depth) = left depth

-- ---- frames

-- formula k of a list; beyond the list it is false
abbrev pub formula_at : List FormulaTree → ℕ → FormulaTree
formula_at formulas k = unwrap_or (slice_get formulas k) falsity

-- from the state to the new heap no object changed its mark, and no location outside the frame its value
pub record StaysInFrame (reading : Reading) (frame : FrameTree) (st : State) (new : Heap) : Type 0 where
  pub marks : (o : ℤ) → pos 1 ≤ℤ o → o <ℤ st.heap.top → new.built o ≡ st.heap.built o
  pub fields : (f : ℕ) (o : ℤ) → is_true reading (formula_at frame.fields f) (with_variable st frame.object o) ≡ false → new.field f o ≡ st.heap.field f o
  pub elements : (a i : ℤ) → is_true reading frame.elements (with_variable (with_variable st frame.object a) frame.index i) ≡ false → new.element a i ≡ st.heap.element a i

-- ---- runs

abbrev pub After : Type 1
After = State → List Turn → Type 0

-- the structure has such an object at the number
abbrev pub HasObject : Reading → ℤ → ℤ → ℤ → Type 0
HasObject reading o ty size = (reading 5 (o ∷ []) ≡ ty) × (reading 6 (o ∷ []) ≡ size)

-- A structure's run of a core that speaks of so many fields fails a check of its own.
module _ (reading : Reading) (fields : ℕ) (failure : Failure) where
  abbrev mutual
    pub run_step : StepTree → After → (ℕ → After) → After
    run_step (assume f) after left st turns = (is_true reading f st ≡ true) × after st turns
    run_step (check here f) after left st turns =
        ((is_true reading f st ≡ false) × (here ≡ failure) × (turns ≡ [])) ⊎ ((is_true reading f st ≡ true) × after st turns)
    run_step (assign x t) after left st turns = after (with_variable st x (value reading t st)) turns
    run_step (keep k) after left st turns = after (with_kept st k) turns
    run_step (write f object v) after left st turns = after (with_heap st (with_field st.heap f (value reading object st) (value reading v st))) turns
    run_step (write_element array index v) after left st turns =
        after (with_heap st (with_element st.heap (value reading array st) (value reading index st) (value reading v st))) turns
    run_step (make x ty size) after left st turns =
        HasObject reading st.heap.top ty (value reading size st) × after (with_variable (with_heap st (with_object st.heap ty)) x st.heap.top) turns
    run_step (build object) after left st turns = after (with_heap st (with_built st.heap (value reading object st))) turns
    run_step (havoc x frame) after left st turns =
        StaysInFrame reading frame st (chosen_heap reading fields (suc st.choice)) × after (next_choice reading fields x st) turns
    run_step (branch place cores) after left st [] = ⊥
    run_step (branch place cores) after left st (turn ∷ turns) = (turn.0 ≡ place) × run_way cores turn.1 after left st turns
    run_step (block core) after left st turns = run_core core after (inside_block after left) st turns
    run_step (leave depth) after left st turns = left depth st turns
    run_step stop after left st turns = ⊥

    pub run_core : CoreTree → After → (ℕ → After) → After
    run_core done after left = after
    run_core (next step rest) after left = run_step step (run_core rest after left) left

    -- the core of that number
    pub run_way : CoreTrees → ℕ → After → (ℕ → After) → After
    run_way no_cores way after left st turns = ⊥
    run_way (more_cores core cores) zero after left st turns = run_core core after left st turns
    run_way (more_cores core cores) (suc way) after left st turns = run_way cores way after left st turns

-- no run comes to this
abbrev pub nowhere : After
nowhere st turns = ⊥

-- the structure's run of the core takes these turns and fails this check
abbrev pub Fails : Reading → CoreTree → List Turn → Failure → Type 0
Fails reading core turns failure =
    run_core reading (field_count core) failure core nowhere (λ depth. nowhere) (first_state reading (field_count core)) turns
