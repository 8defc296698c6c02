use Rattle.std.proofs.Common.{ℕ, List, sym, subst, arith}
use Rattle.jesc_classes.specs.Order.{Graph}
use Rattle.jesc_lookup.specs.Numbering.{IsArranged}
use Rattle.jesc_names.specs.laws.Arranged.{arranged}
use Rattle.jesc_names.proofs.member_headings.member_headings.Goals as goal

pub new-requires-clause-order : goal.new-requires-clause-order
new-requires-clause-order c =
    let t = c.args.tables in
    let few = c.requires.few.classes in
    let is = arranged c.args.classes.now t (omega (arith, few)) c.requires.tables in
    subst (λ (g : Graph). IsArranged g c.as_slice-2.result.now) (sym c.as_slice.ensures) (subst (λ (o : List ℕ). IsArranged t.graph o) (sym c.as_slice-2.ensures) is)
