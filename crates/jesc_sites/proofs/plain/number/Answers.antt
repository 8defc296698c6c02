use Rattle.std.proofs.Common.{Ok, sym, ap, ◌∙◌, rules}
use Rattle.std.proofs.lemmas.Int.{to_z-of_z}
use mir.Syntax.{w128}
use Rattle.jesc_tree.specs.Trees.{number, view}
use Rattle.jesc_member_rules.specs.Types.{number_value}
use Rattle.jesc_sites.specs.Parts.{plain}
use Rattle.jesc_sites.specs.Plain.{may_be_read, number_of, number_type}
use Rattle.jesc_sites.proofs.Numbers.{read, refuses, unread, without_value}
use Rattle.jesc_sites.proofs.plain.number.Goals as goal

pub returns-in_default-clause-answers : goal.returns-in_default-clause-answers
returns-in_default-clause-answers c =
    let a = c.args in
    let span = c.span_of-span.result in
    refuses view _ _ _ _ _ c.in_ok-refuse_at.ensures
    (ap (λ at. number_of a.lines.now a.role at a.text.now) (sym c.span_of-span.ensures)
    ∙ without_value a.lines.now a.role span a.text.now (number_value a.text.now) (λ n e. c.in_default.not-Some n (c.value_of.ensures ∙ e)))

pub returns-then-not-may_be_read-clause-answers : goal.returns-then-not-may_be_read-clause-answers
returns-then-not-may_be_read-clause-answers c =
    let a = c.args in
    let span = c.span_of-span.result in
    let exact = to_z-of_z w128 c.in-Some.value (search rules) in
    refuses view _ _ _ _ _ c.in_ok-refuse_at-2.ensures
    (ap (λ at. number_of a.lines.now a.role at a.text.now) (sym c.span_of-span.ensures)
    ∙ unread a.lines.now a.role span a.text.now (number_value a.text.now) c.in-Some.value (sym c.value_of.ensures ∙ c.in-Some.is) (ap (may_be_read a.role a.text.now) (sym exact) ∙ sym c.may_be_read.ensures ∙ c.if-not-may_be_read.true))

pub returns-clause-answers : goal.returns-clause-answers
returns-clause-answers c =
    let a = c.args in
    let span = c.span_of-span.result in
    let exact = to_z-of_z w128 c.in-Some.value (search rules) in
    ap (λ at. number_of a.lines.now a.role at a.text.now) (sym c.span_of-span.ensures)
    ∙ read a.lines.now a.role span a.text.now (number_value a.text.now) c.in-Some.value (sym c.value_of.ensures ∙ c.in-Some.is) (ap (may_be_read a.role a.text.now) (sym exact) ∙ sym c.may_be_read.ensures ∙ c.if-not-may_be_read.false)
    ∙ ap (λ n. Ok (plain a.lines.now span (number_type a.text.now) (number n))) (sym exact)
    ∙ ap Ok (sym c.in_ok-made_number.ensures.made)
