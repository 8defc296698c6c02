use Rattle.std.proofs.Common.{All, List, sym, subst}
use Rattle.std.proofs.Math.Logic.{∥∥₁_elim}
use Rattle.std.proofs.Props.{props}
use Rattle.jesc_classes.specs.Headings.{Source}
use Rattle.jesc_classes.specs.laws.Givens.{few}
use Rattle.jesc_members.specs.Placed.{AreFew, AreMembersPlaced}
use Rattle.jesc_names.specs.laws.Spelled.{members_few}
use Rattle.jesc_names.proofs.TablesPlaced.{placed_by}
use Rattle.jesc_names.proofs.member_headings.headings.Goals as goal

pub new-requires : goal.new-requires
new-requires c = ∥∥₁_elim c.requires.given (hlevel props) (few c.args.files.now)

pub member_headings-requires-clause-few : goal.member_headings-requires-clause-few
member_headings-requires-clause-few c = subst (λ (ss : List Source). AreFew ss) (sym c.in_ok-classes.ensures) (∥∥₁_elim c.requires.given (hlevel props) (members_few c.args.files.now))

pub member_headings-requires-clause-placed : goal.member_headings-requires-clause-placed
member_headings-requires-clause-placed c = subst (λ (ss : List Source). All AreMembersPlaced ss) (sym c.in_ok-classes.ensures) (placed_by c.args.files.now c.requires.given)
