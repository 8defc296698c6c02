use Rattle.std.proofs.Common.{◌∙◌, ap, sym, Some}
use Rattle.jesc_io.specs.Memory.{steady_store}
use Rattle.jesc_io.proofs.Stores.{added_none}
use Rattle.jesc_io.proofs.steady_files.SteadyFilesFiles.put.Goals as goal

pub returns-in-Err-clause-change : goal.returns-in-Err-clause-change
returns-in-Err-clause-change c = (0, ap Some (c.in-Err.ensures.err ∙ sym (added_none (steady_store c.args.self.now))))
