use Rattle.std.proofs.Common.{◌∙◌}
use Rattle.jesc_member_rules.proofs.JudgingKnown.{later_method}
use Rattle.jesc_members.specs.Seen.{seen_method}
use Rattle.jesc_member_rules.proofs.known.Known.is_later_method.Goals as goal

pub returns-in-Some : goal.returns-in-Some
returns-in-Some c =
    later_method c.args.self.now c.self.inside.inheritance.now c.as_slice-name.result.now c.len.result (seen_method c.args.method.now) c.in-Some.first c.args.number
    (c.self.invariant.inherited ∙ c.self.view_is) c.as_slice-name.ensures c.len.ensures c.requires.given c.in-Some.ensures
