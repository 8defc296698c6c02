use Rattle.std.proofs.Common.{take}
use Rattle.jesc_members.proofs.GroupLists.{IsNamed}
use Rattle.jesc_members.proofs.grouping.groups_of.Given as goal

abbrev pub invariant-loop-word : goal.invariant-loop-word
invariant-loop-word l = IsNamed l.inheritance l.field.number (take l.word-index l.word-items) l.groups
