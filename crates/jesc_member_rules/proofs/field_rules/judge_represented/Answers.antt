use Rattle.std.proofs.Common.{◌≡◌, ◌↔◌, true, ℕ, List, subst}
use Rattle.jesc_classes.specs.Sources.{seen}
use Rattle.jesc_members.specs.Groups.{NamesModel}
use Rattle.jesc_member_rules.specs.Members.{represented}
use Rattle.jesc_member_rules.proofs.JudgingNames.{repeated_clause, fresh_clause}
use Rattle.jesc_member_rules.proofs.field_rules.judge_represented.Goals as goal

pub returns-in_ok-refuse-in-Some-clause-judged : goal.returns-in_ok-refuse-in-Some-clause-judged
returns-in_ok-refuse-in-Some-clause-judged c before are =
    repeated_clause c.args.known.now (seen c.args.class.now) c.args.number c.args.word.now before c.args.names.now c.as_slice-text.result.now are c.as_slice-text.ensures c.in-Some.field-0 c.in_ok-refuse-in-Some.field-0 c.in-Some.ensures c.in_ok-refuse-in-Some.ensures

pub returns-in-None-clause-judged : goal.returns-in-None-clause-judged
returns-in-None-clause-judged c before are =
    let given = c.args.known.now in
    let s = seen c.args.class.now in
    let w = c.args.word.now in
    let means = subst (λ (t : List ℕ). (c.names_model.result ≡ true) ↔ ((g : ℕ) × NamesModel given c.args.number t g)) c.as_slice-text.ensures c.names_model.ensures in
    c.answer_at.ensures given (represented c.args.number s before w)
    (fresh_clause given s c.args.number w before c.args.names.now c.as_slice-text.result.now are c.as_slice-text.ensures c.names_model.result c.if_broken-broken.result c.if-class.false c.in-None.ensures means c.if_broken-broken.ensures)
