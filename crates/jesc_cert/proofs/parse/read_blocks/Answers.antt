use Rattle.std.proofs.Common.{◌≡◌, ◌+◌, ◌-◌, ◌++◌, [], ◌∷◌, length, take, drop, List, ℕ, sym, subst, Some}
use Rattle.std.specs.Prelude.{All}
use Rattle.std.proofs.lemmas.List.{take_rest}
use Rattle.std.proofs.lemmas.List.Elements.{All-push}
use Rattle.jesc_cert.specs.declared.cert.Cert.{Cert}
use Rattle.jesc_cert.specs.Texts.{IsBlock, blocks_lines}
use Rattle.jesc_cert.specs.Inner.{IsReadBlock, IsNextBlock, StopsBehind}
use Rattle.jesc_cert.proofs.Blocks.{Takes, block_more, stops_behind}
use Rattle.jesc_cert.proofs.parse.read_blocks.Goals as goal

pub loop-at-preserved : goal.loop-at-preserved
loop-at-preserved c =
    let bytes = c.args.bytes.now in
    let at = c.loop-at.at in
    let block = c.in-Some.block in
    let count = c.in-Some.count in
    let raw : IsReadBlock (take (length bytes - at) (drop at bytes)) (Some (block, count)) = subst (IsReadBlock (take (length bytes - at) (drop at bytes))) c.in-Some.is c.in_ok-block.ensures in
    let next : IsNextBlock (drop at bytes) block count = subst (λ (t : List ℕ). IsNextBlock t block count) (take_rest bytes at) raw in
    let pushed : c.push.new.self ≡ c.loop-at.list ++ block ∷ [] = c.in_ok-push-in-Some.ensures.ok in
    record {
      takes = subst (λ (bs : List (List ℕ × ℕ × Cert)). Takes bytes (at + count) (blocks_lines bs)) (sym pushed) (block_more bytes at count c.loop-at.list block c.loop-at.invariant.takes next);
      all = subst (All IsBlock) (sym pushed) (All-push IsBlock c.loop-at.list block c.loop-at.invariant.all next.is);
      stops = subst (λ (bs : List (List ℕ × ℕ × Cert)). StopsBehind bs (drop (at + count) bytes)) (sym pushed) (stops_behind bytes at count c.loop-at.list block next);
    }
