use Rattle.std.proofs.Common.{length, refl}
use Rattle.std.proofs.lemmas.Option.{slice_get_read}
use Rattle.jesc_sites.specs.Sites.{setting}
use Rattle.jesc_references.proofs.Ranges.{field_type}
use Rattle.jesc_references.proofs.fields.entry.Goals as goal

pub returns-clause-within : goal.returns-clause-within
returns-clause-within c =
    let s = setting c.args.site.now in
    let f = c.index-fields-field.result in
    field_type s c.requires.setting c.args.field.0 f (slice_get_read s.fields (length s.fields) c.args.field.0 f refl c.requires.field (rw c.fields.ensures at c.index-fields-field.is))
