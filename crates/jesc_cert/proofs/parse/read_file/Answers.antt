use Rattle.std.proofs.Common.{rules, ◌≡◌, ◌+◌, ◌-◌, ◌≤◌, ◌++◌, [], ◌∷◌, length, take, drop, List, ℕ, ap, ◌∙◌, sym, subst, arith}
use Rattle.std.specs.Prelude.{codes}
use Rattle.std.specs.Fmt.{decimal}
use Rattle.std.specs.List.{starts_with}
use Rattle.std.proofs.Common.{nat_eq, ◌<◌}
use Rattle.std.proofs.lemmas.List.{take_rest, length-drop, drop-drop}
use Rattle.jesc_cert.specs.Inner.{AreBlocks, Without, StopsAt, StopsBehind, IsCondText}
use Rattle.jesc_cert.proofs.Blocks.{stops_without, stops_feed, feed_at, slice_at}
use Rattle.jesc_cert.proofs.Files.{stuck_first, stuck_second, stuck_blocks, stuck_end, whole, first_takes, second_takes, blocks_taken, no_end, end_taken, IsRoundsText}
use Rattle.jesc_cert.proofs.parse.read_file.Goals as goal

pub returns-in-None : goal.returns-in-None
returns-in-None c = stuck_first c.args.bytes.now (stops_without (λ next. next ≡ codes "jescert 1") c.args.bytes.now c.in-None.ensures)

pub returns-then-ne : goal.returns-then-ne
returns-then-ne c =
    let other : take c.in-Some.first c.args.bytes.now ≡ codes "jescert 1" → ⊥ = search rules in
    stuck_first c.args.bytes.now (stops_feed (λ next. next ≡ codes "jescert 1") c.args.bytes.now c.in-Some.first c.in-Some.ensures other)

pub returns-in-None-line_feed : goal.returns-in-None-line_feed
returns-in-None-line_feed c =
    let bytes = c.args.bytes.now in
    let first = c.in-Some.first in
    let head : take first bytes ≡ codes "jescert 1" = search rules in
    stuck_second bytes (first + 1) (first_takes bytes first c.in-Some.ensures head)
    (stops_without IsRoundsText (drop (first + 1) bytes) (subst (Without 10) (take_rest bytes (first + 1)) c.in-None-line_feed.ensures))

pub returns-in-None-read_rounds : goal.returns-in-None-read_rounds
returns-in-None-read_rounds c =
    let bytes = c.args.bytes.now in
    let first = c.in-Some.first in
    let second = c.in-Some-line_feed.second in
    let head : take first bytes ≡ codes "jescert 1" = search rules in
    let none : (n : ℕ) → n ≤ 5 → take second (drop (first + 1) bytes) ≡ codes "rounds " ++ decimal n → ⊥ =
    λ n l e. c.in-None-read_rounds.ensures n l (slice_at bytes (first + 1) second ∙ e) in
    stuck_second bytes (first + 1) (first_takes bytes first c.in-Some.ensures head)
    (stops_feed IsRoundsText (drop (first + 1) bytes) second (feed_at bytes (first + 1) second c.in-Some-line_feed.ensures) (λ (n, l, e). none n l e))

-- where the last line is due: the bytes so far, and what is behind them
pub returns-then-not-starts_with : goal.returns-then-not-starts_with
returns-then-not-starts_with c =
    let bytes = c.args.bytes.now in
    let first = c.in-Some.first in
    let second = c.in-Some-line_feed.second in
    let n = c.in-Some-read_rounds.rounds in
    let bs = c.in_ok-list.list in
    let from = first + 1 + second + 1 in
    let at = from + c.in_ok-list.count in
    let head : take first bytes ≡ codes "jescert 1" = search rules in
    let front = second_takes bytes (first + 1) second n (first_takes bytes first c.in-Some.ensures head) (feed_at bytes (first + 1) second c.in-Some-line_feed.ensures) (sym (slice_at bytes (first + 1) second) ∙ c.in-Some-read_rounds.ensures.1) in
    let are : AreBlocks (drop from bytes) bs c.in_ok-list.count = subst (λ (t : List ℕ). AreBlocks t bs c.in_ok-list.count) (take_rest bytes from) c.in_ok-list.ensures in
    let behind = drop-drop c.in_ok-list.count from bytes in
    stuck_blocks bytes at n bs c.in-Some-read_rounds.ensures.0 are.all (blocks_taken bytes from c.in_ok-list.count n bs front are)
    (subst (StopsBehind bs) behind are.lines) (subst (StopsAt IsCondText) behind are.conds)
    (subst (StopsAt (λ t. t ≡ codes "end")) (take_rest bytes at) (no_end (take (length bytes - at) (drop at bytes)) c.if-not-starts_with.ensures.value))

pub returns-then-rest-gt4 : goal.returns-then-rest-gt4
returns-then-rest-gt4 c =
    let bytes = c.args.bytes.now in
    let first = c.in-Some.first in
    let second = c.in-Some-line_feed.second in
    let n = c.in-Some-read_rounds.rounds in
    let bs = c.in_ok-list.list in
    let from = first + 1 + second + 1 in
    let at = from + c.in_ok-list.count in
    let head : take first bytes ≡ codes "jescert 1" = search rules in
    let front = second_takes bytes (first + 1) second n (first_takes bytes first c.in-Some.ensures head) (feed_at bytes (first + 1) second c.in-Some-line_feed.ensures) (sym (slice_at bytes (first + 1) second) ∙ c.in-Some-read_rounds.ensures.1) in
    let are : AreBlocks (drop from bytes) bs c.in_ok-list.count = subst (λ (t : List ℕ). AreBlocks t bs c.in_ok-list.count) (take_rest bytes from) c.in_ok-list.ensures in
    let takes = end_taken bytes at n bs (blocks_taken bytes from c.in_ok-list.count n bs front are) (c.if-not-starts_with.ensures.value ∙ ap (λ t. starts_with nat_eq t (101 ∷ 110 ∷ 100 ∷ 10 ∷ [])) (take_rest bytes at)) in
    let long : 4 < length (drop at bytes) = subst (λ (t : List ℕ). 4 < length t) (take_rest bytes at) c.if-rest-gt4.true in
    stuck_end bytes (at + 4) n bs c.in-Some-read_rounds.ensures.0 are.all takes (λ e. omega (arith, ap length e, length-drop (at + 4) bytes, length-drop at bytes, long))

pub returns : goal.returns
returns c =
    let bytes = c.args.bytes.now in
    let first = c.in-Some.first in
    let second = c.in-Some-line_feed.second in
    let n = c.in-Some-read_rounds.rounds in
    let bs = c.in_ok-list.list in
    let from = first + 1 + second + 1 in
    let at = from + c.in_ok-list.count in
    let head : take first bytes ≡ codes "jescert 1" = search rules in
    let front = second_takes bytes (first + 1) second n (first_takes bytes first c.in-Some.ensures head) (feed_at bytes (first + 1) second c.in-Some-line_feed.ensures) (sym (slice_at bytes (first + 1) second) ∙ c.in-Some-read_rounds.ensures.1) in
    let are : AreBlocks (drop from bytes) bs c.in_ok-list.count = subst (λ (t : List ℕ). AreBlocks t bs c.in_ok-list.count) (take_rest bytes from) c.in_ok-list.ensures in
    let takes = end_taken bytes at n bs (blocks_taken bytes from c.in_ok-list.count n bs front are) (c.if-not-starts_with.ensures.value ∙ ap (λ t. starts_with nat_eq t (101 ∷ 110 ∷ 100 ∷ 10 ∷ [])) (take_rest bytes at)) in
    let short : length (drop at bytes) ≤ 4 = subst (λ (t : List ℕ). length t ≤ 4) (take_rest bytes at) c.if-rest-gt4.false in
    whole bytes (at + 4) n bs c.in-Some-read_rounds.ensures.0 are.all takes (omega (arith, length-drop at bytes, short))
