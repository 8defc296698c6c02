use Rattle.jesc_engine.proofs.Pieces.{and_then}
use Rattle.jesc_engine.proofs.report.warning.put_warning.Goals as goal

pub returns : goal.returns
returns c =
    let e1 = c.in_ok-put_place.ensures in
    let e2 = and_then _ _ _ _ _ e1 c.in_ok-append.ensures.ok in
    let e3 = and_then _ _ _ _ _ e2 c.in_ok-put_kind.ensures in
    let e4 = and_then _ _ _ _ _ e3 c.in_ok-put_by.ensures in
    let e5 = and_then _ _ _ _ _ e4 c.in_ok-append-2.ensures.ok in
    let e6 = and_then _ _ _ _ _ e5 c.in_ok-append-3.ensures.ok in
    let e7 = and_then _ _ _ _ _ e6 c.in_ok-append-4.ensures.ok in
    let e8 = and_then _ _ _ _ _ e7 c.in_ok-put_cause.ensures in
    let e9 = and_then _ _ _ _ _ e8 c.in_ok-append-5.ensures.ok in
    e9
