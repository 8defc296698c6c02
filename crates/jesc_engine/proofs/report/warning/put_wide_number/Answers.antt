use Rattle.std.proofs.Common.{◌≡◌, ◌++◌, codes, rules}
use Rattle.std.specs.Fmt.{signed_decimal}
use Rattle.std.proofs.lemmas.Int.{to_z-of_z}
use Rattle.jesc_engine.proofs.Pieces.{and_then}
use Rattle.jesc_engine.proofs.report.warning.put_wide_number.Goals as goal

pub returns : goal.returns
returns c =
    let number : c.put_number.new.into ≡ c.append.new.self ++ signed_decimal c.args.n.now = search (rules, to_z-of_z) in
    and_then c.args.into.now c.append.new.self c.put_number.new.into (codes "wide number ") (signed_decimal c.args.n.now) c.in_ok-append.ensures.ok number
