use Rattle.std.proofs.Common.{drop, map}
use Rattle.jesc_classes.specs.Clauses.{part_in}
use Rattle.jesc_classes.specs.Headings.{Judges}
use Rattle.jesc_classes.specs.Sources.{seen}
use Rattle.jesc_classes.proofs.Walk.{Answer}
use Rattle.jesc_classes.proofs.judge.judge_words.Given as goal

-- what is answered for the words that are left is the answer for all
abbrev pub invariant-loop-word : goal.invariant-loop-word
invariant-loop-word l =
    let part = part_in l.clause l.number (seen l.class) in
    (r : Answer) → Judges l.hierarchy r (map part (drop l.word-index l.words)) → Judges l.hierarchy r (map part l.words)
