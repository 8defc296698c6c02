use Rattle.jesc_accept.proofs.OneState.{one_state}
use Rattle.jesc_accept.proofs.law.one_state.Goals as goal

pub returns : goal.returns
returns c = one_state
