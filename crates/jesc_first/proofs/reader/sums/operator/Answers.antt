use Rattle.jesc_first.specs.Seen.{seen}
use Rattle.jesc_first.proofs.Equal.{operator_kept}
use Rattle.jesc_first.proofs.reader.sums.operator.Goals as goal

pub returns-clause-reads : goal.returns-clause-reads
returns-clause-reads c =
    let plus = c.in_default.ensures in
    let minus = c.in_default-expect.ensures in
    operator_kept c.args.note (seen c.args.cursor.now) (seen c.expect.new.self) (seen c.expect-2.new.self) plus.missing minus.missing plus.refused minus.refused
