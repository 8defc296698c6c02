use Rattle.std.proofs.Common.{subst, map}
use Rattle.jesc_tree.specs.Subtypes.{parent_list}
use Rattle.jesc_tree.proofs.Sets.{Adds, adds-both, on_ok}
use Rattle.jesc_tree.proofs.subtype.add_supertypes.Goals as goal

pub returns : goal.returns
returns c =
    on_ok c.add_all.result (λ a. adds-both c.args.met.now.keys c.add_parent.new.met.keys c.add_all.new.met.keys (parent_list c.args.class.now.parent) (map (λ i. i.0) c.args.class.now.interfaces) c.in_ok-add_parent.ensures
    (subst (λ xs. Adds c.add_parent.new.met.keys (map (λ i. i.0) xs) c.add_all.new.met.keys) c.as_slice.ensures a)) c.add_all.ensures
