use Rattle.std.proofs.Common.{vec_len}
use Rattle.jesc_classes.proofs.components.Search.complete.Given as goal

abbrev pub decreases-loop-class : goal.decreases-loop-class
decreases-loop-class l = vec_len l.self.open
