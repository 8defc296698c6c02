use Rattle.std.proofs.Common.{◌∙◌, ap, sym, Some}
use Rattle.jesc_io.specs.Memory.{mem_store}
use Rattle.jesc_io.proofs.Stores.{added_none}
use Rattle.jesc_io.proofs.mem_files.MemFilesFiles.put.Goals as goal

pub returns-in-Err-clause-change : goal.returns-in-Err-clause-change
returns-in-Err-clause-change c = (0, ap Some (c.in-Err.ensures.err ∙ sym (added_none (mem_store c.args.self.now))))
