use Rattle.std.proofs.Common.{ap, ◌∙◌}
use Rattle.jesc_member_rules.specs.Types.{literal_value}
use Rattle.jesc_sites.proofs.plain.value_of.Goals as goal

pub returns : goal.returns
returns c = c.literal_value.ensures ∙ ap literal_value c.requires
