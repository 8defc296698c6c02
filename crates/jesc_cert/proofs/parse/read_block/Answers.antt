use Rattle.std.proofs.Common.{◌+◌, take, drop, List, ℕ, subst, Some}
use Rattle.std.proofs.lemmas.List.{take_rest}
use Rattle.jesc_cert.specs.Inner.{AreLines, IsCondText, IsReadCond}
use Rattle.jesc_cert.proofs.Blocks.{stops_without, no_cond, block_is}
use Rattle.jesc_cert.proofs.parse.read_block.Goals as goal

pub returns-in-None : goal.returns-in-None
returns-in-None c = stops_without IsCondText c.args.bytes.now c.in-None.ensures

pub returns-in-None-2 : goal.returns-in-None-2
returns-in-None-2 c =
    no_cond c.args.bytes.now c.in-Some.first c.in-Some.ensures (subst (IsReadCond (take c.in-Some.first c.args.bytes.now)) c.in-None-2.is c.in_ok-cond.ensures)

pub returns : goal.returns
returns c =
    let bytes = c.args.bytes.now in
    let first = c.in-Some.first in
    let cond : IsReadCond (take first bytes) (Some c.in-Some-2.cond) = subst (IsReadCond (take first bytes)) c.in-Some-2.is c.in_ok-cond.ensures in
    let lines : AreLines (drop (first + 1) bytes) c.in_ok-lines.lines c.in_ok-lines.count =
    subst (λ (t : List ℕ). AreLines t c.in_ok-lines.lines c.in_ok-lines.count) (take_rest bytes (first + 1)) c.in_ok-lines.ensures in
    block_is bytes first c.in_ok-lines.count c.in-Some-2.cond.0 c.in-Some-2.cond.1 c.in_ok-lines.lines c.in-Some.ensures cond.0 cond.1 lines
