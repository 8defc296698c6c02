use Rattle.std.proofs.Common.{[], ◌∷◌, ◌++◌}
use Rattle.jesc_classes.proofs.Release.{Releases}
use Rattle.jesc_classes.proofs.order.Progress.release.Given as goal

abbrev pub invariant-loop-waiting : goal.invariant-loop-waiting
invariant-loop-waiting l = Releases l.graph (l.fn.self.order ++ l.class ∷ []) l.waiting-items l.waiting-index l.self
