-- The paths of a core: its control alone is followed, each check is passed, and at a branch each way is open.
use Rattle.std.specs.Prelude.{◌≡◌, ℕ, zero, suc, List, [], ◌∷◌, ◌++◌, map}
use Rattle.jesc_text.specs.declared.place.Place.{Place}
use Rattle.jesc_core.specs.Trees.{Failure, StepTree, assume, check, assign, keep, write, write_element, make, build, havoc, branch, block, leave, stop, CoreTree, done, next, CoreTrees, no_cores, more_cores}
use Rattle.jesc_core.specs.Runs.{Turn, inside_block}

-- ---- one path

-- what has to be said of the turns that are still to come, where a walk gets there
abbrev pub Onward : Type 1
Onward = List Turn → Type 0

abbrev mutual
  pub walk_step : StepTree → Onward → (ℕ → Onward) → Onward
  walk_step (assume f) after left turns = after turns
  walk_step (check failure f) after left turns = after turns
  walk_step (assign x t) after left turns = after turns
  walk_step (keep k) after left turns = after turns
  walk_step (write f object v) after left turns = after turns
  walk_step (write_element array index v) after left turns = after turns
  walk_step (make x ty size) after left turns = after turns
  walk_step (build object) after left turns = after turns
  walk_step (havoc x frame) after left turns = after turns
  walk_step (branch place cores) after left [] = ⊥
  walk_step (branch place cores) after left (turn ∷ turns) = (turn.0 ≡ place) × walk_way cores turn.1 after left turns
  walk_step (block core) after left turns = walk_core core after (inside_block after left) turns
  walk_step (leave depth) after left turns = left depth turns
  walk_step stop after left turns = turns ≡ []

  pub walk_core : CoreTree → Onward → (ℕ → Onward) → Onward
  walk_core done after left = after
  walk_core (next step rest) after left = walk_step step (walk_core rest after left) left

  -- through the core of that number
  pub walk_way : CoreTrees → ℕ → Onward → (ℕ → Onward) → Onward
  walk_way no_cores way after left turns = ⊥
  walk_way (more_cores core cores) zero after left turns = walk_core core after left turns
  walk_way (more_cores core cores) (suc way) after left turns = walk_way cores way after left turns

-- a walk through the whole core takes these turns
abbrev pub IsPath : CoreTree → List Turn → Type 0
IsPath core turns = walk_core core (λ rest. rest ≡ []) (λ depth rest. ⊥) turns

-- ---- all paths

abbrev pub Paths : Type 0
Paths = List (List Turn)

abbrev mutual
  pub paths_of_step : StepTree → Paths → (ℕ → Paths) → Paths
  paths_of_step (assume f) after left = after
  paths_of_step (check failure f) after left = after
  paths_of_step (assign x t) after left = after
  paths_of_step (keep k) after left = after
  paths_of_step (write f object v) after left = after
  paths_of_step (write_element array index v) after left = after
  paths_of_step (make x ty size) after left = after
  paths_of_step (build object) after left = after
  paths_of_step (havoc x frame) after left = after
  paths_of_step (branch place cores) after left = paths_of_ways cores place 0 after left
  paths_of_step (block core) after left = paths_of_core core after (inside_block after left)
  paths_of_step (leave depth) after left = left depth
  paths_of_step stop after left = [] ∷ []

  pub paths_of_core : CoreTree → Paths → (ℕ → Paths) → Paths
  paths_of_core done after left = after
  paths_of_core (next step rest) after left = paths_of_step step (paths_of_core rest after left) left

  -- the first of the cores is that of the way
  pub paths_of_ways : CoreTrees → Place → ℕ → Paths → (ℕ → Paths) → Paths
  paths_of_ways no_cores place way after left = []
  paths_of_ways (more_cores core cores) place way after left =
      map (λ turns. (place, way) ∷ turns) (paths_of_core core after left) ++ paths_of_ways cores place (suc way) after left

-- each path once, the lesser way first
abbrev pub paths_of : CoreTree → Paths
paths_of core = paths_of_core core ([] ∷ []) (λ depth. [])

-- ---- all checks

-- a check, behind the turns that lead to it
abbrev pub Reached : Type 0
Reached = List Turn × Failure

abbrev mutual
  pub checks_of_step : StepTree → List Reached → (ℕ → List Reached) → List Reached
  checks_of_step (assume f) after left = after
  checks_of_step (check failure f) after left = ([], failure) ∷ after
  checks_of_step (assign x t) after left = after
  checks_of_step (keep k) after left = after
  checks_of_step (write f object v) after left = after
  checks_of_step (write_element array index v) after left = after
  checks_of_step (make x ty size) after left = after
  checks_of_step (build object) after left = after
  checks_of_step (havoc x frame) after left = after
  checks_of_step (branch place cores) after left = checks_of_ways cores place 0 after left
  checks_of_step (block core) after left = checks_of_core core after (inside_block after left)
  checks_of_step (leave depth) after left = left depth
  checks_of_step stop after left = []

  pub checks_of_core : CoreTree → List Reached → (ℕ → List Reached) → List Reached
  checks_of_core done after left = after
  checks_of_core (next step rest) after left = checks_of_step step (checks_of_core rest after left) left

  pub checks_of_ways : CoreTrees → Place → ℕ → List Reached → (ℕ → List Reached) → List Reached
  checks_of_ways no_cores place way after left = []
  checks_of_ways (more_cores core cores) place way after left =
      map (λ (turns, failure). ((place, way) ∷ turns, failure)) (checks_of_core core after left) ++ checks_of_ways cores place (suc way) after left

-- each check of each path up to it, depth first: a check comes before those behind it, and the lesser way first
abbrev pub checks_of : CoreTree → List Reached
checks_of core = checks_of_core core [] (λ depth. [])
