-- That members are placed is a proposition.
use Rattle.std.proofs.Common.{◌≡◌, Option, Some, None, All, List}
use Rattle.std.proofs.Math.Logic.{∥∥₁_elim}
use Rattle.std.proofs.Props.{props}
use Rattle.jesc_ast.specs.declared.word.TypeTree.{TypeTree}
use Rattle.jesc_ast.specs.declared.class.File.{File}
use Rattle.jesc_ast.specs.declared.class.MemberNode.{MemberNode}
use Rattle.jesc_ast.specs.declared.class.MemberNode.TheVariants as members
use Rattle.jesc_classes.specs.Given.{AreGiven}
use Rattle.jesc_classes.specs.Headings.{sources}
use Rattle.jesc_members.specs.Placed.{AreMembersPlaced, IsPlacedMember, IsPlacedResult}
use Rattle.jesc_names.specs.laws.Spelled.{members_placed}

result_prop : (t : Option TypeTree) (x y : IsPlacedResult t) → x ≡ y
result_prop None = hlevel props
result_prop (Some t) = hlevel props

node_prop : (m : MemberNode) (x y : IsPlacedMember m) → x ≡ y
node_prop members.Empty = hlevel props
node_prop (members.Field f) = hlevel props
node_prop (members.SpecField f) = hlevel props
node_prop (members.Invariant i) = hlevel props
node_prop (members.Represents r) = hlevel props
node_prop (members.Method m) = hlevel (props, result_prop)
node_prop (members.Constructor c) = hlevel props

pub placed_by : (files : List File) → ∥ AreGiven files ∥₁ → All AreMembersPlaced (sources files)
placed_by files given = ∥∥₁_elim given (hlevel (props, node_prop)) (members_placed files)
