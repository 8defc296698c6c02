use Rattle.jesc_clauses.proofs.Stepping.{opaque_read}
use Rattle.jesc_clauses.proofs.reader.Reader.opaque.Goals as goal

pub returns-in-Ok-clause-read : goal.returns-in-Ok-clause-read
returns-in-Ok-clause-read c =
    opaque_read c.args.terms.now c.args.self.now.sums c.args.self.now.opaques c.requires.reader c.args.id c.requires.there c.in_default.ensures c.args.symbol c.args.args.now c.requires.args c.requires.opaque c.requires.symbol c.requires.arguments
    c.put_opaque.new.self.sums c.put_opaque.new.self.opaques c.in-Ok.ensures
