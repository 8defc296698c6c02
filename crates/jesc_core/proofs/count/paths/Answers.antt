use Rattle.std.proofs.Common.{◌∙◌}
use Rattle.jesc_core.specs.Trees.{core_view}
use Rattle.jesc_core.proofs.Counted.{counted}
use Rattle.jesc_core.proofs.count.paths.Goals as goal

pub returns : goal.returns
returns c = c.paths_through.ensures ∙ counted (core_view c.args.core.now)
