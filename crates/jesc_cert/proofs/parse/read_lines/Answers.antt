use Rattle.std.proofs.Common.{◌≡◌, ◌+◌, ◌-◌, ◌++◌, [], ◌∷◌, take, drop, List, ℕ, sym, subst, None, Some}
use Rattle.std.specs.Prelude.{All, map}
use Rattle.std.proofs.lemmas.List.{take_rest}
use Rattle.std.proofs.lemmas.List.Elements.{All-push}
use Rattle.jesc_cert.specs.declared.cert.CertLine.{CertLine}
use Rattle.jesc_cert.specs.Texts.{IsLine, line_text}
use Rattle.jesc_cert.specs.Inner.{IsLineText, Without, IsFeed, IsReadLine}
use Rattle.jesc_cert.proofs.Blocks.{Takes, line_more, lines_are, stops_without, no_line, feed_at, slice_at}
use Rattle.jesc_cert.proofs.parse.read_lines.Goals as goal

pub returns-in-None : goal.returns-in-None
returns-in-None c =
    lines_are c.args.bytes.now c.loop-at.lines c.loop-at.at c.loop-at.invariant.takes c.loop-at.invariant.all
    (stops_without IsLineText (drop c.loop-at.at c.args.bytes.now) (subst (Without 10) (take_rest c.args.bytes.now c.loop-at.at) c.in-None.ensures))

pub returns-in-None-2 : goal.returns-in-None-2
returns-in-None-2 c =
    let bytes = c.args.bytes.now in
    let at = c.loop-at.at in
    let count = c.in-Some.count in
    let feed : IsFeed (drop at bytes) count = feed_at bytes at count c.in-Some.ensures in
    let none : IsReadLine (take count (drop at bytes)) None =
    subst (λ (t : List ℕ). IsReadLine t None) (slice_at bytes at count) (subst (IsReadLine (take (at + count - at) (drop at bytes))) c.in-None-2.is c.in_ok-line.ensures) in
    lines_are bytes c.loop-at.lines at c.loop-at.invariant.takes c.loop-at.invariant.all (no_line (drop at bytes) count feed none)

pub loop-at-preserved : goal.loop-at-preserved
loop-at-preserved c =
    let bytes = c.args.bytes.now in
    let at = c.loop-at.at in
    let count = c.in-Some.count in
    let line = c.in-Some-2.line in
    let feed : IsFeed (drop at bytes) count = feed_at bytes at count c.in-Some.ensures in
    let read : IsReadLine (take count (drop at bytes)) (Some line) =
    subst (λ (t : List ℕ). IsReadLine t (Some line)) (slice_at bytes at count) (subst (IsReadLine (take (at + count - at) (drop at bytes))) c.in-Some-2.is c.in_ok-line.ensures) in
    let pushed : c.push.new.self ≡ c.loop-at.lines ++ line ∷ [] = c.in_ok-push-in-Some-2.ensures.ok in
    record {
      takes = subst (λ (ls : List CertLine). Takes bytes (at + (count + 1)) (map line_text ls)) (sym pushed) (line_more bytes at count c.loop-at.lines line c.loop-at.invariant.takes feed read.1);
      all = subst (All IsLine) (sym pushed) (All-push IsLine c.loop-at.lines line c.loop-at.invariant.all read.0);
    }
