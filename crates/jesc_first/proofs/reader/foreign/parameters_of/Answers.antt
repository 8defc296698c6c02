use Rattle.jesc_first.specs.Seen.{seen}
use Rattle.jesc_first.proofs.Headings.{heading_is}
use Rattle.jesc_first.proofs.reader.foreign.parameters_of.Goals as goal

pub returns : goal.returns
returns c = heading_is (seen c.args.cursor.now) (seen c.opening.new.cursor) (seen c.parameters.new.cursor) c.parameters.new.names c.in_ok-expect.field-0 (seen c.expect.new.self)
    c.in_ok-opening.ensures c.in_ok-parameters.ensures c.in_ok-expect.ensures.reads
