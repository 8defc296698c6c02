use Rattle.jesc_meanings.specs.laws.Finding.{found_in_order}
use Rattle.jesc_meanings.proofs.law.found_is_in_order.Goals as goal

pub returns : goal.returns
returns c = found_in_order
