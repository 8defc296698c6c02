-- The number of paths, where each sum stops at the limit, is the number of paths up to the limit.
use Rattle.std.proofs.Common.{◌≡◌, ℕ, zero, suc, ◌+◌, [], ◌∷◌, map, length, refl, sym, ap, ◌∙◌, arith, length-append}
use Rattle.std.proofs.lemmas.List.{length-map}
use Rattle.jesc_text.specs.declared.place.Place.{Place}
use Rattle.jesc_core.specs.Trees.{StepTree, assume, check, assign, keep, write, write_element, make, build, havoc, branch, block, leave, stop, CoreTree, done, next, CoreTrees, no_cores, more_cores}
use Rattle.jesc_core.specs.Runs.{inside_block}
use Rattle.jesc_core.specs.Walks.{Paths, paths_of_step, paths_of_core, paths_of_ways, paths_of}
use Rattle.jesc_core.specs.Counts.{limited, count_step, count_core, count_ways}

limited_sum : (m n : ℕ) → limited (limited m + limited n) ≡ limited (m + n)
limited_sum m n = omega arith

-- the numbers are those of the paths, up to the limit
abbrev Numbers : (ℕ → Paths) → (ℕ → ℕ) → Type 0
Numbers left l = (d : ℕ) → l d ≡ limited (length (left d))

inside : (after : Paths) (left : ℕ → Paths) (a : ℕ) (l : ℕ → ℕ) → a ≡ limited (length after) → Numbers left l → Numbers (inside_block after left) (inside_block a l)
inside after left a l e h zero = e
inside after left a l e h (suc d) = h d

mutual
  counted_step : (s : StepTree) (after : Paths) (left : ℕ → Paths) (a : ℕ) (l : ℕ → ℕ) → a ≡ limited (length after) → Numbers left l → count_step s a l ≡ limited (length (paths_of_step s after left))
  counted_step (assume f) after left a l e h = e
  counted_step (check failure f) after left a l e h = e
  counted_step (assign x t) after left a l e h = e
  counted_step (keep k) after left a l e h = e
  counted_step (write f object v) after left a l e h = e
  counted_step (write_element array index v) after left a l e h = e
  counted_step (make x ty size) after left a l e h = e
  counted_step (build object) after left a l e h = e
  counted_step (havoc x frame) after left a l e h = e
  counted_step (branch place cores) after left a l e h = counted_ways cores place 0 after left a l e h
  counted_step (block core) after left a l e h = counted_core core after (inside_block after left) a (inside_block a l) e (inside after left a l e h)
  counted_step (leave depth) after left a l e h = h depth
  counted_step stop after left a l e h = refl

  pub counted_core : (core : CoreTree) (after : Paths) (left : ℕ → Paths) (a : ℕ) (l : ℕ → ℕ) → a ≡ limited (length after) → Numbers left l → count_core core a l ≡ limited (length (paths_of_core core after left))
  counted_core done after left a l e h = e
  counted_core (next step rest) after left a l e h = counted_step step (paths_of_core rest after left) left (count_core rest a l) l (counted_core rest after left a l e h) h

  counted_ways : (cores : CoreTrees) (place : Place) (way : ℕ) (after : Paths) (left : ℕ → Paths) (a : ℕ) (l : ℕ → ℕ) → a ≡ limited (length after) → Numbers left l → count_ways cores a l ≡ limited (length (paths_of_ways cores place way after left))
  counted_ways no_cores place way after left a l e h = refl
  counted_ways (more_cores core cores) place way after left a l e h =
      let first = paths_of_core core after left in
      let others = paths_of_ways cores place (suc way) after left in
      (λ i. limited (counted_core core after left a l e h i + counted_ways cores place (suc way) after left a l e h i))
      ∙ limited_sum (length first) (length others)
      ∙ ap limited (sym (length-append (map (λ turns. (place, way) ∷ turns) first) others ∙ ap (λ n. n + length others) (length-map first (λ turns. (place, way) ∷ turns))))

pub counted : (core : CoreTree) → count_core core 1 (λ depth. 0) ≡ limited (length (paths_of core))
counted core = counted_core core ([] ∷ []) (λ depth. []) 1 (λ depth. 0) refl (λ depth. refl)
