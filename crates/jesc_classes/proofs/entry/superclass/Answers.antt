use Rattle.std.proofs.Common.{sym, ◌∙◌, arith}
use Rattle.jesc_classes.specs.laws.Graphs.{class_within}
use Rattle.jesc_classes.proofs.entry.superclass.Goals as goal

pub bounds-ids-number : goal.bounds-ids-number
bounds-ids-number c =
    let within = class_within c.args.given.now c.as_slice-in-Some.result.now c.in-Some-find.number (sym c.find.ensures ∙ c.in-Some-find.is) in
    omega (arith, within, c.requires.ids)
