use Rattle.std.proofs.Common.{sym, subst}
use Rattle.jesc_tree.specs.Subtypes.{parent_list}
use Rattle.jesc_tree.proofs.Sets.{Adds, adds-one, on_ok}
use Rattle.jesc_tree.proofs.subtype.add_parent.Goals as goal

pub returns-in-Some : goal.returns-in-Some
returns-in-Some c =
    on_ok c.add.result (λ a. subst (λ p. Adds c.args.met.now.keys (parent_list p) c.add.new.met.keys) (sym c.in-Some.is) (adds-one c.args.met.now.keys c.add.new.met.keys c.in-Some.class.0 a)) c.add.ensures
