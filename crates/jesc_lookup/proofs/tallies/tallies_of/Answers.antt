use Rattle.std.proofs.Common.{◌∙◌, ap, map, arith}
use Rattle.std.proofs.lemmas.List.{take_all}
use Rattle.jesc_lookup.specs.Tallies.{marked_in}
use Rattle.jesc_lookup.specs.laws.Marks.{count_more}
use Rattle.jesc_lookup.proofs.tallies.tallies_of.Goals as goal

pub loop-version-preserved : goal.loop-version-preserved
loop-version-preserved c =
    count_more c.args.marks.now c.args.versions.now c.loop-version.tallies c.push.new.self c.loop-version.version c.tally_of-tally.result (omega (arith, c.loop-version-test.true, c.len-version-end.ensures)) c.loop-version.invariant c.tally_of-tally.ensures c.in_ok-push.ensures.ok

pub returns : goal.returns
returns c = c.loop-version.invariant ∙ ap (map (marked_in c.args.marks.now)) (take_all c.loop-version.version c.args.versions.now (omega (arith, c.loop-version-test.false, c.len-version-end.ensures)))
