use Rattle.std.proofs.Common.{◌∙◌, List, ℕ, Bool, sym, subst, arith}
use Rattle.jesc_classes.specs.Headings.{graph_of}
use Rattle.jesc_classes.specs.Order.{Graph}
use Rattle.jesc_lookup.specs.Numbering.{IsArranged}
use Rattle.jesc_member_rules.specs.Throwables.{AreThrowables}
use Rattle.jesc_names.specs.laws.Arranged.{arranged}
use Rattle.jesc_names.proofs.member_headings.judge_all.Goals as goal

pub throwables-requires : goal.throwables-requires
throwables-requires c =
    let t = c.args.tables.now in
    let few = c.requires.few.classes in
    let is = arranged c.args.classes.now t (omega (arith, few)) c.requires.tables in
    subst (λ (g : Graph). IsArranged g c.as_slice-2.result.now) (sym c.as_slice.ensures) (subst (λ (o : List ℕ). IsArranged t.graph o) (sym c.as_slice-2.ensures) is)

pub judge_members-requires-clause-throwables : goal.judge_members-requires-clause-throwables
judge_members-requires-clause-throwables c =
    let are = subst (λ (g : Graph). AreThrowables g c.in_ok-throwables.throwables) (c.as_slice.ensures ∙ c.requires.tables.graph) c.in_ok-throwables.ensures in
    subst (λ (xs : List Bool). AreThrowables (graph_of c.args.classes.now) xs) (sym c.as_slice-3.ensures) are
