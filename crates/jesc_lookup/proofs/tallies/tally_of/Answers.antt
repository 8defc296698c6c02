use Rattle.std.proofs.Common.{◌∙◌, [], get_or, ap, sym, arith}
use Rattle.jesc_lookup.specs.Tallies.{mark_of, marked_in}
use Rattle.jesc_lookup.specs.laws.Marks.{none_marked, sum_fits, sum_is}
use Rattle.jesc_lookup.proofs.tallies.tally_of.Goals as goal

pub returns-then-version-eq0 : goal.returns-then-version-eq0
returns-then-version-eq0 c =
    sym (ap (λ v. marked_in c.args.marks.now (get_or c.args.versions.now v [])) c.if-version-eq0.true ∙ none_marked c.args.marks.now (get_or c.args.versions.now 0 []) c.made-made.ensures.first)

pub overflow_add-result : goal.overflow_add-result
overflow_add-result c =
    let v = c.made-made.result in
    let made = c.made-made.ensures.each (omega (arith, c.if-version-eq0.false)) in
    let small = c.made-made.ensures.small v.from (omega (arith, made.older, c.requires.version)) in
    let fits = sum_fits c.args.marks.now c.args.versions.now c.args.tallies.now c.args.version c.requires.version c.requires.tallies v made c.mark-old.result c.mark-new.result (c.mark-old.ensures ∙ ap (mark_of c.args.marks.now) c.get.ensures) c.mark-new.ensures small in
    omega (arith, fits)

pub overflow_sub-result : goal.overflow_sub-result
overflow_sub-result c =
    let v = c.made-made.result in
    let made = c.made-made.ensures.each (omega (arith, c.if-version-eq0.false)) in
    let is = sum_is c.args.marks.now c.args.versions.now c.args.tallies.now c.args.version c.requires.version c.requires.tallies v made c.mark-old.result c.mark-new.result (c.mark-old.ensures ∙ ap (mark_of c.args.marks.now) c.get.ensures) c.mark-new.ensures in
    omega (arith, is)

pub returns : goal.returns
returns c =
    let v = c.made-made.result in
    let made = c.made-made.ensures.each (omega (arith, c.if-version-eq0.false)) in
    let is = sum_is c.args.marks.now c.args.versions.now c.args.tallies.now c.args.version c.requires.version c.requires.tallies v made c.mark-old.result c.mark-new.result (c.mark-old.ensures ∙ ap (mark_of c.args.marks.now) c.get.ensures) c.mark-new.ensures in
    omega (arith, is)
