use Rattle.std.proofs.Common.{◌∙◌}
use Rattle.jesc_member_rules.proofs.JudgingKnown.{later_field}
use Rattle.jesc_members.specs.Seen.{seen_field}
use Rattle.jesc_member_rules.proofs.known.Known.is_later_field.Goals as goal

pub returns-in-Some : goal.returns-in-Some
returns-in-Some c =
    later_field c.args.self.now c.self.inside.inheritance.now c.as_slice-name.result.now (seen_field c.args.field.now) c.in-Some.first c.args.number
    (c.self.invariant.inherited ∙ c.self.view_is) c.as_slice-name.ensures c.requires.given c.in-Some.ensures
