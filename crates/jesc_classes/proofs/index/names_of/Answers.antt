use Rattle.std.proofs.Common.{map, ◌+◌, arith}
use Rattle.jesc_tree.specs.Programs.{predefined}
use Rattle.jesc_classes.specs.Sources.{seen}
use Rattle.jesc_classes.proofs.Firsts.{next, whole, given_name, given_inside, given_end}
use Rattle.jesc_classes.proofs.index.names_of.Goals as goal

pub loop-i-preserved : goal.loop-i-preserved
loop-i-preserved c =
    let list = c.args.list.now in
    let i = c.loop-i.i in
    let text = c.as_slice.result.now in
    next c.loop-i.names c.add_first.new.names (map (λ p. p.0) predefined) (map (λ s. s.tree.name.text) (map seen list)) text (i + 7) i
    (given_inside list i c.loop-i-test.true) (given_name list i c.index-list-i.result text c.loop-i-test.true c.index-list-i.is c.as_slice.ensures) (omega arith) c.in_ok-add_first.ensures c.loop-i.invariant

pub returns : goal.returns
returns c = whole c.loop-i.names (map (λ p. p.0) predefined) (map (λ s. s.tree.name.text) (map seen c.args.list.now)) c.loop-i.i (given_end c.args.list.now c.loop-i.i c.loop-i-test.false) c.loop-i.invariant
