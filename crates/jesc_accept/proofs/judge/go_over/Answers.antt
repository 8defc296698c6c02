use Rattle.std.proofs.Common.{◌≡◌, true, Bool, get_or, length, sym, subst, ◌∙◌, arith}
use Rattle.std.proofs.lemmas.Bool.{false≢true}
use Rattle.jesc_cert.specs.declared.cert.CertLine.{CertLine}
use Rattle.jesc_accept.specs.States.{TakesLeaf}
use Rattle.jesc_accept.specs.Verdicts.{IsFirstBad}
use Rattle.jesc_accept.proofs.LinesOn.{tree_more, tree_open}
use Rattle.jesc_accept.proofs.judge.go_over.Goals as goal

pub loop-n-preserved : goal.loop-n-preserved
loop-n-preserved c =
    let line = c.index-lines-n.result in
    let taken : TakesLeaf c.args.tables.now c.loop-n.tree (get_or c.args.lines.now c.loop-n.n line) c.take_leaf.new.tree true =
    subst (λ (l : CertLine). TakesLeaf c.args.tables.now c.loop-n.tree l c.take_leaf.new.tree true) c.index-lines-n.is
    (subst (λ (b : Bool). TakesLeaf c.args.tables.now c.loop-n.tree line c.take_leaf.new.tree b) c.if-not-branch.false c.in_ok-take_leaf.ensures) in
    tree_more c.args.tables.now c.loop-n.tree c.take_leaf.new.tree c.args.lines.now c.loop-n.n line c.loop-n-test.true taken c.loop-n.invariant

pub returns : goal.returns
returns c =
    let whole : c.loop-n.n ≡ length c.args.lines.now = let w = c.loop-n.invariant.within in omega (arith, w) in
    subst (IsFirstBad c.args.tables.now.clauses.now c.args.lines.now) whole
    (tree_open c.args.tables.now c.loop-n.tree c.args.lines.now c.loop-n.n whole (λ e. false≢true (sym c.if-is_closed.false ∙ c.is_closed.ensures.1 e)) c.loop-n.invariant)
