use Rattle.std.proofs.Common.{get_or, [], ◌∷◌, subst, sym, take}
use Rattle.std.proofs.lemmas.List.{take_more}
use Rattle.jesc_lookup.specs.LineSets.{Merges}
use Rattle.jesc_lookup.proofs.LineGrowth.{merges_more}
use Rattle.jesc_lookup.proofs.lines.merge.Goals as goal

pub loop-class-preserved : goal.loop-class-preserved
loop-class-preserved c =
    let xs = c.args.classes.now in
    let i = c.loop-class.class-index in
    subst (Merges c.args.versions.now c.args.line.now c.meet.new.versions c.meet.new.line) (sym (take_more xs i 0 c.loop-class-test.true))
    (merges_more c.args.versions.now c.args.line.now c.loop-class.versions c.loop-class.line c.meet.new.versions c.meet.new.line (take i xs) (get_or xs i 0 ∷ []) c.loop-class.invariant c.in_ok-meet.ensures.merges)
