use Rattle.std.proofs.Common.{sym, ◌∙◌}
use Rattle.jesc_sites.specs.Sites.{setting}
use Rattle.jesc_references.proofs.Ranges.{local_type}
use Rattle.jesc_references.proofs.meaning.meaning_of.Goals as goal

pub returns-in-Some-get-clause-there : goal.returns-in-Some-get-clause-there
returns-in-Some-get-clause-there c = local_type (setting c.args.site.now) c.requires.setting c.args.name.now c.in-Some-get.local (sym c.get.ensures ∙ c.in-Some-get.is)
