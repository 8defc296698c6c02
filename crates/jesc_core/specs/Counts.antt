-- Words that only contracts inside the crate use: the number of paths, where each sum stops at a limit.
use Rattle.std.specs.Prelude.{ℕ, ◌+◌, min}
use Rattle.jesc_core.specs.Trees.{StepTree, assume, check, assign, keep, write, write_element, make, build, havoc, branch, block, leave, stop, CoreTree, done, next, CoreTrees, no_cores, more_cores}
use Rattle.jesc_core.specs.Runs.{inside_block}
use Rattle.jesc_core.specs.declared.count.Blocks.{Blocks, Outside, Inside'}

-- the number, or a thousand millions where it is greater
abbrev pub limited : ℕ → ℕ
limited n = min n 1000000000

-- by the numbers of paths of what comes after the step, and after each block around it
abbrev mutual
  pub count_step : StepTree → ℕ → (ℕ → ℕ) → ℕ
  count_step (assume f) after left = after
  count_step (check failure f) after left = after
  count_step (assign x t) after left = after
  count_step (keep k) after left = after
  count_step (write f object v) after left = after
  count_step (write_element array index v) after left = after
  count_step (make x ty size) after left = after
  count_step (build object) after left = after
  count_step (havoc x frame) after left = after
  count_step (branch place cores) after left = count_ways cores after left
  count_step (block core) after left = count_core core after (inside_block after left)
  count_step (leave depth) after left = left depth
  count_step stop after left = 1

  pub count_core : CoreTree → ℕ → (ℕ → ℕ) → ℕ
  count_core done after left = after
  count_core (next step rest) after left = count_step step (count_core rest after left) left

  pub count_ways : CoreTrees → ℕ → (ℕ → ℕ) → ℕ
  count_ways no_cores after left = 0
  count_ways (more_cores core cores) after left = limited (count_core core after left + count_ways cores after left)

-- the number of paths of what comes after the block of each depth, and 0 where there is no such block
abbrev pub left_of : Blocks → ℕ → ℕ
left_of Outside depth = 0
left_of (Inside' after at outer) depth = inside_block after (left_of outer) depth
