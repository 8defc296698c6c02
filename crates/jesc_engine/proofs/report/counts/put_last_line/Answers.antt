use Rattle.std.proofs.Common.{◌++◌, length, codes, map}
use Rattle.std.specs.Fmt.{decimal}
use Rattle.jesc_engine.specs.Report.{all_judgements, count_verified, count_warned}
use Rattle.jesc_engine.specs.Files.{report_of}
use Rattle.jesc_engine.proofs.Pieces.{and_then}
use Rattle.jesc_engine.proofs.report.counts.put_last_line.Goals as goal

pub returns : goal.returns
returns c =
    let text = c.args.into.now in
    let judgements = all_judgements (map report_of c.args.files.now) in
    let p1 = codes "methods " in
    let p2 = p1 ++ decimal (length judgements) in
    let p3 = p2 ++ codes ", verified " in
    let p4 = p3 ++ decimal (count_verified judgements) in
    let p5 = p4 ++ codes ", warned " in
    let p6 = p5 ++ decimal (count_warned judgements) in
    let e2 = and_then text c.append.new.self c.put_count.new.into p1 (decimal (length judgements)) c.in_ok-append.ensures.ok (rw c.count_duties.ensures at c.in_ok-put_count.ensures) in
    let e3 = and_then text c.put_count.new.into c.append-2.new.self p2 (codes ", verified ") e2 c.in_ok-append-2.ensures.ok in
    let e4 = and_then text c.append-2.new.self c.put_count-2.new.into p3 (decimal (count_verified judgements)) e3 (rw c.count_verified.ensures at c.in_ok-put_count-2.ensures) in
    let e5 = and_then text c.put_count-2.new.into c.append-3.new.self p4 (codes ", warned ") e4 c.in_ok-append-3.ensures.ok in
    let e6 = and_then text c.append-3.new.self c.put_count-3.new.into p5 (decimal (count_warned judgements)) e5 (rw c.count_warned.ensures at c.in_ok-put_count-3.ensures) in
    let e7 = and_then text c.put_count-3.new.into c.append-4.new.self p6 (codes ", skipped 0\n") e6 c.in_ok-append-4.ensures.ok in
    e7
