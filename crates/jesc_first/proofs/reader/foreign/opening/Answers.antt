use Rattle.jesc_first.specs.Seen.{seen}
use Rattle.jesc_first.proofs.Headings.{opens_is}
use Rattle.jesc_first.proofs.reader.foreign.opening.Goals as goal

pub returns : goal.returns
returns c = opens_is (seen c.args.cursor.now) (seen c.expect.new.self) (seen c.returns_value.new.cursor) (seen c.name.new.self) (seen c.expect-2.new.self)
    c.in_ok-expect.field-0 c.in_ok-expect-2.field-0 c.in_ok-returns_value.field-0 c.in_ok-name.field-0.now
    c.in_ok-expect.ensures.reads c.in_ok-returns_value.ensures.reads c.in_ok-name.ensures.reads c.in_ok-expect-2.ensures.reads
