use Rattle.std.proofs.Common.{◌∙◌, sym}
use Rattle.jesc_first.specs.Seen.{seen}
use Rattle.jesc_first.proofs.Headings.{was_taken, furthers_more}
use Rattle.jesc_first.proofs.reader.foreign.further_parameters.Goals as goal

pub loop-cursor-preserved : goal.loop-cursor-preserved
loop-cursor-preserved c =
    let comma = was_taken _ c.expect.result (seen c.expect.new.self) (sym c.is_ok.ensures.value ∙ c.loop-cursor-test.true) c.expect.ensures.reads in
    furthers_more (seen c.args.cursor.now) c.args.names.now (seen c.loop-cursor.cursor) c.loop-cursor.names comma.0 (seen c.expect.new.self)
    c.in_ok-name.name.now (seen c.any_parameter.new.cursor) c.in_ok-add.field-0 c.add.new.self
    c.loop-cursor.invariant comma.1 c.in_ok-name.ensures.reads c.in_ok-add.ensures.added
