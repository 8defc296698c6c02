use Rattle.jesc_classes.specs.laws.Orders.{whole_exactly_acyclic}
use Rattle.jesc_classes.proofs.law.order_is_whole.Goals as goal

pub returns : goal.returns
returns c = whole_exactly_acyclic
