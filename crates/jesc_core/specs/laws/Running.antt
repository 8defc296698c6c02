-- Runs: what a run comes to matters only where it gets there, a run of steps behind steps, and that one check fails at most.
use Rattle.std.specs.Prelude.{◌≡◌, ℕ, zero, suc, true, false, List, [], ◌∷◌, ◌++◌}
use Rattle.std.proofs.Common.{sym, ◌∙◌, inl, inr, refl}
use Rattle.jesc_core.specs.Trees.{Failure, StepTree, assume, check, assign, keep, write, write_element, make, build, havoc, branch, block, leave, stop, CoreTree, done, next, CoreTrees, no_cores, more_cores, core_of}
use Rattle.jesc_core.specs.Fields.{field_count}
use Rattle.jesc_core.specs.Heaps.{Reading, State, first_state}
use Rattle.jesc_core.specs.Runs.{Turn, After, inside_block, run_step, run_core, run_way, nowhere, Fails}

-- where the one holds, so does the other
abbrev pub Implies : After → After → Type 0
Implies before after = (st : State) (turns : List Turn) → before st turns → after st turns

implies_inside : (a b : After) (l m : ℕ → After) → Implies a b → ((d : ℕ) → Implies (l d) (m d)) → (d : ℕ) → Implies (inside_block a l d) (inside_block b m d)
implies_inside a b l m h k zero = h
implies_inside a b l m h k (suc d) = k d

module _ (reading : Reading) (fields : ℕ) (failure : Failure) where
  mutual
    pub weaker_step : (s : StepTree) (a b : After) (l m : ℕ → After) → Implies a b → ((d : ℕ) → Implies (l d) (m d)) → Implies (run_step reading fields failure s a l) (run_step reading fields failure s b m)
    weaker_step (assume f) a b l m h k st turns r = (r.0, h st turns r.1)
    weaker_step (check here f) a b l m h k st turns (inl r) = inl r
    weaker_step (check here f) a b l m h k st turns (inr r) = inr (r.0, h st turns r.1)
    weaker_step (assign x t) a b l m h k st turns r = h _ turns r
    weaker_step (keep n) a b l m h k st turns r = h _ turns r
    weaker_step (write f object v) a b l m h k st turns r = h _ turns r
    weaker_step (write_element array index v) a b l m h k st turns r = h _ turns r
    weaker_step (make x ty size) a b l m h k st turns r = (r.0, h _ turns r.1)
    weaker_step (build object) a b l m h k st turns r = h _ turns r
    weaker_step (havoc x frame) a b l m h k st turns r = (r.0, h _ turns r.1)
    weaker_step (branch place cores) a b l m h k st [] r = r
    weaker_step (branch place cores) a b l m h k st (turn ∷ turns) r = (r.0, weaker_way cores turn.1 a b l m h k st turns r.1)
    weaker_step (block core) a b l m h k st turns r = weaker_core core a b (inside_block a l) (inside_block b m) h (implies_inside a b l m h k) st turns r
    weaker_step (leave depth) a b l m h k st turns r = k depth st turns r
    weaker_step stop a b l m h k st turns r = r

    pub weaker_core : (c : CoreTree) (a b : After) (l m : ℕ → After) → Implies a b → ((d : ℕ) → Implies (l d) (m d)) → Implies (run_core reading fields failure c a l) (run_core reading fields failure c b m)
    weaker_core done a b l m h k st turns r = h st turns r
    weaker_core (next s rest) a b l m h k st turns r =
        weaker_step s (run_core reading fields failure rest a l) (run_core reading fields failure rest b m) l m (weaker_core rest a b l m h k) k st turns r

    weaker_way : (cs : CoreTrees) (way : ℕ) (a b : After) (l m : ℕ → After) → Implies a b → ((d : ℕ) → Implies (l d) (m d)) → Implies (run_way reading fields failure cs way a l) (run_way reading fields failure cs way b m)
    weaker_way no_cores way a b l m h k st turns r = r
    weaker_way (more_cores c cs) zero a b l m h k st turns r = weaker_core c a b l m h k st turns r
    weaker_way (more_cores c cs) (suc way) a b l m h k st turns r = weaker_way cs way a b l m h k st turns r

  -- steps behind steps
  pub run_behind : (steps more : List StepTree) (after : After) (left : ℕ → After) → run_core reading fields failure (core_of (steps ++ more)) after left ≡ run_core reading fields failure (core_of steps) (run_core reading fields failure (core_of more) after left) left
  run_behind [] more after left = refl
  run_behind (s ∷ steps) more after left = λ i. run_step reading fields failure s (run_behind steps more after left i) left

-- ---- one check fails at most

module _ (reading : Reading) (fields : ℕ) (f g : Failure) where
  -- runs that get there fail the same check
  abbrev Agree : After → After → Type 0
  Agree a b = (st : State) (turns : List Turn) → a st turns → b st turns → f ≡ g

  agree_inside : (a b : After) (l m : ℕ → After) → Agree a b → ((d : ℕ) → Agree (l d) (m d)) → (d : ℕ) → Agree (inside_block a l d) (inside_block b m d)
  agree_inside a b l m h k zero = h
  agree_inside a b l m h k (suc d) = k d

  mutual
    same_step : (s : StepTree) (a b : After) (l m : ℕ → After) → Agree a b → ((d : ℕ) → Agree (l d) (m d)) → Agree (run_step reading fields f s a l) (run_step reading fields g s b m)
    same_step (assume t) a b l m h k st turns r q = h st turns r.1 q.1
    same_step (check here t) a b l m h k st turns (inl r) (inl q) = sym r.1 ∙ q.1
    same_step (check here t) a b l m h k st turns (inl r) (inr q) = let e : false ≡ true = sym r.0 ∙ q.0 in cc
    same_step (check here t) a b l m h k st turns (inr r) (inl q) = let e : true ≡ false = sym r.0 ∙ q.0 in cc
    same_step (check here t) a b l m h k st turns (inr r) (inr q) = h st turns r.1 q.1
    same_step (assign x t) a b l m h k st turns r q = h _ turns r q
    same_step (keep n) a b l m h k st turns r q = h _ turns r q
    same_step (write n object v) a b l m h k st turns r q = h _ turns r q
    same_step (write_element array index v) a b l m h k st turns r q = h _ turns r q
    same_step (make x ty size) a b l m h k st turns r q = h _ turns r.1 q.1
    same_step (build object) a b l m h k st turns r q = h _ turns r q
    same_step (havoc x frame) a b l m h k st turns r q = h _ turns r.1 q.1
    same_step (branch place cores) a b l m h k st [] r q = absurd r
    same_step (branch place cores) a b l m h k st (turn ∷ turns) r q = same_way cores turn.1 a b l m h k st turns r.1 q.1
    same_step (block core) a b l m h k st turns r q = same_core core a b (inside_block a l) (inside_block b m) h (agree_inside a b l m h k) st turns r q
    same_step (leave depth) a b l m h k st turns r q = k depth st turns r q
    same_step stop a b l m h k st turns r q = absurd r

    pub same_core : (c : CoreTree) (a b : After) (l m : ℕ → After) → Agree a b → ((d : ℕ) → Agree (l d) (m d)) → Agree (run_core reading fields f c a l) (run_core reading fields g c b m)
    same_core done a b l m h k st turns r q = h st turns r q
    same_core (next s rest) a b l m h k st turns r q =
        same_step s (run_core reading fields f rest a l) (run_core reading fields g rest b m) l m (same_core rest a b l m h k) k st turns r q

    same_way : (cs : CoreTrees) (way : ℕ) (a b : After) (l m : ℕ → After) → Agree a b → ((d : ℕ) → Agree (l d) (m d)) → Agree (run_way reading fields f cs way a l) (run_way reading fields g cs way b m)
    same_way no_cores way a b l m h k st turns r q = absurd r
    same_way (more_cores c cs) zero a b l m h k st turns r q = same_core c a b l m h k st turns r q
    same_way (more_cores c cs) (suc way) a b l m h k st turns r q = same_way cs way a b l m h k st turns r q

pub same_failure : (reading : Reading) (core : CoreTree) (turns : List Turn) (f g : Failure) → Fails reading core turns f → Fails reading core turns g → f ≡ g
same_failure reading core turns f g r q =
    same_core reading (field_count core) f g core nowhere nowhere (λ depth. nowhere) (λ depth. nowhere) (λ st turns p o. absurd p) (λ depth st turns p o. absurd p)
    (first_state reading (field_count core)) turns r q
