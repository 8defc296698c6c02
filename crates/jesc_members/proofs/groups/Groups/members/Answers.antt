use Rattle.std.proofs.Common.{◌↔◌, ℕ, subst, sym}
use Rattle.std.proofs.lemmas.Result.{IfOk-weaker}
use Rattle.std.specs.List.{Contains}
use Rattle.jesc_classes.specs.Order.{IsWithin}
use Rattle.jesc_members.specs.Groups.{IsMember}
use Rattle.jesc_members.proofs.GroupEdges.{reverse_within}
use Rattle.jesc_members.proofs.GroupLists.{members_say}
use Rattle.jesc_members.proofs.groups.Groups.members.Goals as goal

pub reached-requires-clause-within : goal.reached-requires-clause-within
reached-requires-clause-within c = subst IsWithin (sym c.as_slice.ensures.value) (reverse_within c.self.inside.graph c.self.inside.named_by.items c.self.invariant.reversed)

pub returns-clause-all : goal.returns-clause-all
returns-clause-all c =
    IfOk-weaker c.reached.result _ (λ members. (f : ℕ) → Contains members f ↔ IsMember c.args.self.now f c.args.field) (λ members says. subst (λ given. (f : ℕ) → Contains members f ↔ IsMember given f c.args.field) c.self.view_is
    (members_say c.self.inside.inheritance.now c.self.inside.graph c.self.inside.named_by.items c.as_slice.result.now c.self.invariant.groups c.self.invariant.reversed c.as_slice.ensures.value c.args.field members says)) c.reached.ensures.all
