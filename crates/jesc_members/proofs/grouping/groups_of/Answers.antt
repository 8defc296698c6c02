use Rattle.std.proofs.Common.{◌≡◌, ◌↔◌, ◌∙◌, ℕ, Some, List, subst, take_all}
use Rattle.jesc_ast.specs.declared.word.Word.{Word}
use Rattle.jesc_members.specs.Groups.{NamesModel}
use Rattle.jesc_members.proofs.GroupLists.{IsNamed, names_one, names_no}
use Rattle.jesc_members.proofs.grouping.groups_of.Goals as goal
use Rattle.jesc_members.proofs.grouping.groups_of.Goals.{in-Some+in_ok-push, in_default}

pub loop-word-preserved : goal.loop-word-preserved
loop-word-preserved c =
    let given = c.args.inheritance.now in
    let class = c.args.field.now.number in
    let words = c.as_slice-word-items.result.now in
    let i = c.loop-word.word-index in
    let w = c.word-item.result in
    let found = c.model_named.result in
    let means = subst (λ (name : List ℕ). (g : ℕ) → (found ≡ Some g) ↔ NamesModel given class name g) c.as_slice.ensures c.model_named.ensures in
    elim c.match-model_named.branch [
      | in-Some+in_ok-push v ↦ names_one given class words i w c.loop-word-test.true c.word-item.is found means c.loop-word.groups c.loop-word.invariant v.in-Some.group v.in-Some.is c.match-model_named.groups (v.groups-is ∙ v.in_ok-push.ensures.ok)
      | in_default v ↦ names_no given class words i w c.loop-word-test.true c.word-item.is found means c.loop-word.groups c.loop-word.invariant v.in_default.not-Some c.match-model_named.groups v.groups-is
    ]

pub returns : goal.returns
returns c =
    subst (λ (ws : List Word). IsNamed c.args.inheritance.now c.args.field.now.number ws c.loop-word.groups) (take_all c.loop-word.word-index c.as_slice-word-items.result.now c.loop-word-test.false ∙ c.as_slice-word-items.ensures) c.loop-word.invariant
