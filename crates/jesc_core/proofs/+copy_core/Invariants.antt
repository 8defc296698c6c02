use Rattle.std.proofs.Common.{◌≡◌, take}
use Rattle.jesc_core.proofs.+copy_core.Given as goal

abbrev pub invariant-copy::steps::copy_cores-loop-core : goal.invariant-copy::steps::copy_cores-loop-core
invariant-copy::steps::copy_cores-loop-core l = l.copies ≡ take l.core-index l.core-items

abbrev pub invariant-steps::Core::copy-loop-step : goal.invariant-steps::Core::copy-loop-step
invariant-steps::Core::copy-loop-step l = l.steps ≡ take l.step-index l.step-items
