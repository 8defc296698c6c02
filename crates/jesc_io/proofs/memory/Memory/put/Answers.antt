use Rattle.jesc_io.proofs.Stores.{stored, kept, then_ok, then_err}
use Rattle.jesc_io.proofs.memory.Memory.put.Goals as goal

pub returns-in-Some-get_mut-clause-ok : goal.returns-in-Some-get_mut-clause-ok
returns-in-Some-get_mut-clause-ok c = then_ok c.append.result
    (stored c.args.self.now (c.get_mut.follows.lender c.append.new.self) c.in-Some.name c.as_str.result.now c.in-Some-get_mut.text.now c.append.new.self c.args.piece.now
    c.in-Some.is c.as_str.ensures.value c.in-Some-get_mut.ensures.value (c.get_mut.follows.holds c.append.new.self)) c.append.ensures.ok

pub returns-in-Some-get_mut-clause-err : goal.returns-in-Some-get_mut-clause-err
returns-in-Some-get_mut-clause-err c = then_err c.append.result
    (kept c.args.self.now (c.get_mut.follows.lender c.append.new.self) c.as_str.result.now c.in-Some-get_mut.text.now c.append.new.self
    c.in-Some-get_mut.ensures.value (c.get_mut.follows.holds c.append.new.self)) c.append.ensures.err
