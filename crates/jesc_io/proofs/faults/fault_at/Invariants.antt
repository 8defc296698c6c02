use Rattle.std.proofs.Common.{◌≡◌, drop}
use Rattle.jesc_io.specs.Schedule.{fault_of}
use Rattle.jesc_io.proofs.faults.fault_at.Given as goal

abbrev pub invariant-loop-fault : goal.invariant-loop-fault
invariant-loop-fault l = fault_of l.list l.call ≡ fault_of (drop l.fault-index l.list) l.call
