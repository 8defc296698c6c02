use Rattle.std.proofs.Common.{arith}
use Rattle.std.proofs.lemmas.Grind.{common_steps}
use Rattle.std.proofs.lemmas.List.Sums.{suffix_len-le-length}
use Rattle.jesc_text.proofs.place.place_of.Goals as goal

pub overflow_add-col : goal.overflow_add-col
overflow_add-col c = grind (arith, common_steps, suffix_len-le-length)
