use Rattle.std.proofs.Common.{rules, [], List, refl, subst}
use Rattle.jesc_ast.specs.declared.class.MemberTree.{MemberTree}
use Rattle.jesc_classes.specs.Sources.{seen}
use Rattle.jesc_member_rules.specs.Members.{Judges, member_parts, members_from, met}
use Rattle.jesc_member_rules.proofs.JudgingMembers.{start, field_begins, method_begins, parts_left, next, end_fields, end_methods, end_judged}
use Rattle.jesc_member_rules.proofs.JudgingWalk.{along, stops}
use Rattle.jesc_member_rules.proofs.judge.judge_all.Goals as goal

pub loop-member-init : goal.loop-member-init
loop-member-init c =
    let s = seen c.args.class.now in
    start c.args.known.now c.args.number s (met c.args.before.fields c.args.before.methods [] []) s.tree.members c.as_slice-members.result.now _ c.as_slice-members.ensures
    (record { fields = refl; methods = refl; represented = search rules; constructors = search rules }) c.requires.fields c.requires.methods

pub judge_member-requires-clause-fields : goal.judge_member-requires-clause-fields
judge_member-requires-clause-fields c =
    field_begins c.args.number (seen c.args.class.now) c.args.known.now (met c.args.before.fields c.args.before.methods [] []) c.as_slice-members.result.now c.loop-member.member-index c.loop-member.met c.loop-member.invariant c.member-item.result c.loop-member-test.true c.member-item.is

pub judge_member-requires-clause-methods : goal.judge_member-requires-clause-methods
judge_member-requires-clause-methods c =
    method_begins c.args.number (seen c.args.class.now) c.args.known.now (met c.args.before.fields c.args.before.methods [] []) c.as_slice-members.result.now c.loop-member.member-index c.loop-member.met c.loop-member.invariant c.member-item.result c.loop-member-test.true c.member-item.is

pub returns-in_err-judge_member-clause-judged : goal.returns-in_err-judge_member-clause-judged
returns-in_err-judge_member-clause-judged c =
    let given = c.args.known.now in
    let s = seen c.args.class.now in
    let at = c.loop-member.invariant in
    let before = met c.args.before.fields c.args.before.methods [] [] in
    subst (λ (ms : List MemberTree). Judges given c.from_residual.result (members_from c.args.number s before ms)) c.as_slice-members.ensures
    (at.rest _ (along given _ _ _ (parts_left c.args.number s given before c.as_slice-members.result.now c.loop-member.member-index c.loop-member.met at c.member-item.result c.loop-member-test.true c.member-item.is)
    (stops given (member_parts c.args.number s at.b c.member-item.result.node) _ _ c.in_err-judge_member.field-0.0 c.from_residual.ensures.1 (c.in_err-judge_member.ensures.judged at.b at.is))))

pub loop-member-preserved : goal.loop-member-preserved
loop-member-preserved c =
    let at = c.loop-member.invariant in
    next c.args.number (seen c.args.class.now) c.args.known.now (met c.args.before.fields c.args.before.methods [] []) c.as_slice-members.result.now c.loop-member.member-index c.loop-member.met at c.member-item.result c.loop-member-test.true c.member-item.is
    c.judge_member.new.met (c.in_ok-judge_member.ensures.met at.b at.is) (c.in_ok-judge_member.ensures.judged at.b at.is)

pub returns-clause-judged : goal.returns-clause-judged
returns-clause-judged c =
    end_judged c.args.known.now c.args.number (seen c.args.class.now) (met c.args.before.fields c.args.before.methods [] []) c.args.class.now.tree.now.members c.as_slice-members.result.now c.loop-member.member-index c.loop-member.met c.as_slice-members.ensures c.loop-member.invariant c.loop-member-test.false
    (record { fields = c.loop-member.met.fields; methods = c.loop-member.met.methods })

pub returns-clause-fields : goal.returns-clause-fields
returns-clause-fields c =
    end_fields c.args.known.now c.args.number (seen c.args.class.now) (met c.args.before.fields c.args.before.methods [] []) c.args.class.now.tree.now.members c.as_slice-members.result.now c.loop-member.member-index c.loop-member.met c.as_slice-members.ensures c.loop-member.invariant c.loop-member-test.false

pub returns-clause-methods : goal.returns-clause-methods
returns-clause-methods c =
    end_methods c.args.known.now c.args.number (seen c.args.class.now) (met c.args.before.fields c.args.before.methods [] []) c.args.class.now.tree.now.members c.as_slice-members.result.now c.loop-member.member-index c.loop-member.met c.as_slice-members.ensures c.loop-member.invariant c.loop-member-test.false
