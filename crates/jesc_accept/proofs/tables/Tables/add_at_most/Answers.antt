use Rattle.jesc_accept.specs.Lemmas.{one}
use Rattle.jesc_accept.specs.States.{atoms_of}
use Rattle.jesc_accept.proofs.CongruenceLines.{unread, unread_at}
use Rattle.jesc_accept.proofs.tables.Tables.add_at_most.Goals as goal

pub returns : goal.returns
returns c = unread_at (atoms_of c.args.self.now) c.in_ok-x.x c.in_ok-y.y (one c.args.i) (one c.args.j) c.in_ok-x.ensures c.in_ok-y.ensures (unread (atoms_of c.args.self.now) c.in_ok-x.x c.in_ok-y.y c.in_ok-said.field-0 c.in-None.is c.in_ok-said.ensures)
