use Rattle.std.proofs.Common.{◌∙◌, None, Some, sym, true≢false}
use Rattle.jesc_classes.specs.Sources.{seen}
use Rattle.jesc_classes.proofs.Words.{known, unknown, on_cycle, of_wrong_kind, holds}
use Rattle.jesc_classes.proofs.judge.judge_word.Goals as goal

pub is_on_cycle-requires : goal.is_on_cycle-requires
is_on_cycle-requires c =
    c.requires.names c.in-Some.above (known c.args.hierarchy.now c.hierarchy.inside.classes.now c.args.word.now c.as_slice.result.now (Some c.in-Some.above) c.hierarchy.view_is c.as_slice.ensures c.in-Some.ensures)

pub returns-in_ok-refuse-in-None : goal.returns-in_ok-refuse-in-None
returns-in_ok-refuse-in-None c =
    unknown c.args.hierarchy.now c.args.clause c.args.number (seen c.args.class.now) c.args.word.now c.in_ok-refuse-in-None.field-0 c.in_ok-refuse-in-None.ensures
    (known c.args.hierarchy.now c.hierarchy.inside.classes.now c.args.word.now c.as_slice.result.now None c.hierarchy.view_is c.as_slice.ensures c.in-None.ensures)

pub returns-in_ok-refuse-in-Some : goal.returns-in_ok-refuse-in-Some
returns-in_ok-refuse-in-Some c =
    on_cycle c.args.hierarchy.now c.args.clause c.args.number (seen c.args.class.now) c.args.word.now c.in-Some.above
    (known c.args.hierarchy.now c.hierarchy.inside.classes.now c.args.word.now c.as_slice.result.now (Some c.in-Some.above) c.hierarchy.view_is c.as_slice.ensures c.in-Some.ensures)
    c.in_ok-refuse-in-Some.field-0 c.in_ok-refuse-in-Some.ensures (c.in_ok-is_on_cycle-in-Some.ensures.0 c.if-branch.true)

pub returns-in_ok-refuse-in-Some-2 : goal.returns-in_ok-refuse-in-Some-2
returns-in_ok-refuse-in-Some-2 c =
    of_wrong_kind c.args.hierarchy.now c.args.clause c.args.number (seen c.args.class.now) c.args.word.now c.in-Some.above
    (known c.args.hierarchy.now c.hierarchy.inside.classes.now c.args.word.now c.as_slice.result.now (Some c.in-Some.above) c.hierarchy.view_is c.as_slice.ensures c.in-Some.ensures)
    c.in_ok-refuse-in-Some-2.field-0 c.in_ok-refuse-in-Some-2.ensures
    (λ cycle. true≢false (sym (c.in_ok-is_on_cycle-in-Some.ensures.1 cycle) ∙ c.if-branch.false))
    (λ may. true≢false (sym (c.may_stand.ensures.1 may) ∙ c.if-may_stand.false))

pub returns-then-may_stand : goal.returns-then-may_stand
returns-then-may_stand c = (
  holds c.args.hierarchy.now c.args.clause c.args.number (seen c.args.class.now) c.args.word.now c.in-Some.above
      (known c.args.hierarchy.now c.hierarchy.inside.classes.now c.args.word.now c.as_slice.result.now (Some c.in-Some.above) c.hierarchy.view_is c.as_slice.ensures c.in-Some.ensures)
      (λ cycle. true≢false (sym (c.in_ok-is_on_cycle-in-Some.ensures.1 cycle) ∙ c.if-branch.false))
      (c.may_stand.ensures.0 c.if-may_stand.true),
  tt,
)
