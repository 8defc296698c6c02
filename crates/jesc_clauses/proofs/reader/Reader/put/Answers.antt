use Rattle.jesc_clauses.proofs.Stepping.{put_read}
use Rattle.jesc_clauses.proofs.reader.Reader.put.Goals as goal

pub returns-in-Ok-clause-read : goal.returns-in-Ok-clause-read
returns-in-Ok-clause-read c = put_read c.args.terms.now c.args.self.now.sums c.args.self.now.opaques c.requires.reader c.args.id c.requires.there c.requires.plain c.requires.args c.args.lin c.requires.read c.put.new.self c.in-Ok.ensures
