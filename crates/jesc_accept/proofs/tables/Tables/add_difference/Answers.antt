use Rattle.jesc_accept.specs.States.{atoms_of}
use Rattle.jesc_accept.proofs.CongruenceLines.{unread}
use Rattle.jesc_accept.proofs.tables.Tables.add_difference.Goals as goal

pub returns-in_default : goal.returns-in_default
returns-in_default c = λ s t r q. unread (atoms_of c.args.self.now) c.args.x.now c.args.y.now c.in_ok-first.field-0 c.in_default.is c.in_ok-first.ensures s r

pub returns-in_default-2 : goal.returns-in_default-2
returns-in_default-2 c = λ s t r q. unread (atoms_of c.args.self.now) c.args.y.now c.args.x.now c.in_ok-second.field-0 c.in_default-2.is c.in_ok-second.ensures t q
