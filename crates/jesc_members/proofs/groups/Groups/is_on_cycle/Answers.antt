use Rattle.std.proofs.Common.{◌≡◌, ◌↔◌, true, subst}
use Rattle.std.proofs.lemmas.Result.{IfOk-weaker}
use Rattle.jesc_members.specs.Groups.{IsMember}
use Rattle.jesc_members.proofs.GroupLists.{cycle_says}
use Rattle.jesc_members.proofs.groups.Groups.is_on_cycle.Goals as goal

pub returns : goal.returns
returns c =
    IfOk-weaker c.is_above_itself.result _ (λ yes. (yes ≡ true) ↔ IsMember c.args.self.now c.args.field c.args.field) (λ yes says. subst (λ given. (yes ≡ true) ↔ IsMember given c.args.field c.args.field) c.self.view_is
    (cycle_says c.self.inside.inheritance.now c.self.inside.graph c.as_slice.result.now c.self.invariant.groups c.as_slice.ensures c.args.field yes says)) c.is_above_itself.ensures
