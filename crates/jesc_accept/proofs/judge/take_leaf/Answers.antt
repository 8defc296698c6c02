use Rattle.std.proofs.Common.{pos, arith}
use Rattle.std.proofs.lemmas.Int.{ints}
use Rattle.jesc_cert.specs.declared.cert.CertLine.{CertLine}
use Rattle.jesc_cert.specs.declared.cert.CertKind.TheVariants.{C, M}
use Rattle.jesc_accept.specs.States.{TakesLeaf}
use Rattle.jesc_accept.proofs.SameLines.{of_line}
use Rattle.jesc_accept.proofs.TreeLines.{split_line, lone}
use Rattle.jesc_accept.proofs.judge.take_leaf.Goals as goal

pub returns-in-S : goal.returns-in-S
returns-in-S c = split_line c.args.tables.now c.args.tree.now c.split.new.self c.args.line.now _ c.split.result c.split.ensures c.in-S.is
    (lone _ _ (pos 0) _ (omega (arith, ints)) c.as_slice-numbers.ensures c.if-numbers-ne1.false)

pub returns-in-C : goal.returns-in-C
returns-in-C c = of_line (λ (l : CertLine). TakesLeaf c.args.tables.now c.args.tree.now l c.close_by_clause.new.tree c.close_by_clause.result) c.args.line.now C _ c.in-C.is
    (lone _ _ (pos 0) _ (omega (arith, ints)) c.as_slice-numbers.ensures c.if-numbers-ne1.false) c.close_by_clause.ensures

pub returns-in-M : goal.returns-in-M
returns-in-M c = of_line (λ (l : CertLine). TakesLeaf c.args.tables.now c.args.tree.now l c.close_by_lemma.new.tree c.close_by_lemma.result) c.args.line.now M _ c.in-M.is
    (lone _ _ (pos 0) _ (omega (arith, ints)) c.as_slice-numbers.ensures c.if-numbers-ne1.false) c.close_by_lemma.ensures
