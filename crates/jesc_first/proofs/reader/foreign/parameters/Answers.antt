use Rattle.jesc_first.specs.Seen.{seen}
use Rattle.jesc_first.proofs.Headings.{lists_if}
use Rattle.jesc_first.proofs.reader.foreign.parameters.Goals as goal

pub returns : goal.returns
returns c = lists_if (seen c.args.cursor.now) c.args.names.now c.in_ok-first.first.now (seen c.any_parameter.new.cursor) c.in_ok-add.field-0 c.add.new.self
    (seen c.further_parameters.new.cursor) c.further_parameters.new.names c.further_parameters.result c.in_ok-first.ensures.reads c.in_ok-add.ensures.added c.further_parameters.ensures
