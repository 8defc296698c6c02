use Rattle.std.proofs.Common.{length, refl}
use Rattle.std.proofs.lemmas.Option.{slice_get_read}
use Rattle.jesc_sites.specs.Sites.{setting}
use Rattle.jesc_references.proofs.Ranges.{result_type}
use Rattle.jesc_references.proofs.methods.method_entry.Goals as goal

pub returns-clause-within : goal.returns-clause-within
returns-clause-within c =
    let s = setting c.args.site.now in
    let m = c.index-methods-method.result in
    result_type s c.requires.setting c.args.method.0 m (slice_get_read s.methods (length s.methods) c.args.method.0 m refl c.requires.method (rw c.methods.ensures at c.index-methods-method.is))
