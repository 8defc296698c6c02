use Rattle.std.proofs.Common.{sym, subst, List}
use Rattle.jesc_classes.specs.Headings.{Source, graph_of}
use Rattle.jesc_classes.specs.Sources.{seen}
use Rattle.jesc_member_rules.specs.Throwables.{AreThrowables}
use Rattle.jesc_member_rules.proofs.JudgingThrown.{known, within, throws}
use Rattle.jesc_member_rules.proofs.known.Known.broken_by_thrown.Goals as goal

pub bounds-self-inside-number : goal.bounds-self-inside-number
bounds-self-inside-number c =
    within c.self.inside.classes.now c.as_slice.result.now c.in-Some.number c.self.inside.throwables.now c.self.invariant.throwable (sym c.in-Some.ensures)

pub returns-in-Some : goal.returns-in-Some
returns-in-Some c =
    let found = known c.args.self.now c.self.inside.classes.now c.as_slice.result.now c.args.word.now c.in-Some.number c.self.view_is c.as_slice.ensures (sym c.in-Some.ensures) in
    let are = subst (λ (l : List Source). AreThrowables (graph_of l) c.self.inside.throwables.now) c.self.view_is c.self.invariant.throwable in
    throws c.args.self.now (seen c.args.class.now) c.args.word.now c.in-Some.number c.self.inside.throwables.now c.if_broken.result are found c.if_broken.ensures
