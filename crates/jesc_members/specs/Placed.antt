-- What is true of members that the tokens of files spell: their words stand in short texts, and they are few.
use Rattle.std.specs.Prelude.{◌≤◌, ◌<◌, ◌^◌, List, length, Option, Some, None}
use Rattle.std.specs.List.{All}
use Rattle.jesc_ast.specs.declared.word.TypeTree.{TypeTree}
use Rattle.jesc_ast.specs.declared.class.FieldTree.{FieldTree}
use Rattle.jesc_ast.specs.declared.class.MethodTree.{MethodTree}
use Rattle.jesc_ast.specs.declared.class.ConstructorTree.{ConstructorTree}
use Rattle.jesc_ast.specs.declared.class.ParamTree.{ParamTree}
use Rattle.jesc_ast.specs.declared.class.MemberNode.{MemberNode}
use Rattle.jesc_ast.specs.declared.class.MemberNode.TheVariants as members
use Rattle.jesc_ast.specs.Lines.{IsLines}
use Rattle.jesc_classes.specs.Given.{IsPlaced}
use Rattle.jesc_classes.specs.Headings.{Source}
use Rattle.jesc_members.specs.Fields.{fields_of}
use Rattle.jesc_members.specs.Methods.{methods_of}

abbrev pub IsPlacedType : TypeTree → Type 0
IsPlacedType t = t.span.from ≤ 1048576

abbrev pub IsPlacedResult : Option TypeTree → Type 0
IsPlacedResult None = Unit {0}
IsPlacedResult (Some t) = IsPlacedType t

pub record IsPlacedField (f : FieldTree) : Type 0 where
  pub modifiers : All IsPlaced f.modifiers
  pub ty : IsPlacedType f.ty
  pub name : IsPlaced f.name
  pub groups : All IsPlaced f.groups

pub record IsPlacedParam (p : ParamTree) : Type 0 where
  pub modifiers : All IsPlaced p.modifiers
  pub ty : IsPlacedType p.ty
  pub name : IsPlaced p.name

pub record IsPlacedMethod (m : MethodTree) : Type 0 where
  pub modifiers : All IsPlaced m.modifiers
  pub result : IsPlacedResult m.result
  pub name : IsPlaced m.name
  pub params : All IsPlacedParam m.params
  pub throws : All IsPlaced m.throws

pub record IsPlacedConstructor (c : ConstructorTree) : Type 0 where
  pub modifiers : All IsPlaced c.modifiers
  pub name : IsPlaced c.name
  pub params : All IsPlacedParam c.params
  pub throws : All IsPlaced c.throws

abbrev pub IsPlacedMember : MemberNode → Type 0
IsPlacedMember members.Empty = Unit {0}
IsPlacedMember (members.Field f) = IsPlacedField f
IsPlacedMember (members.SpecField f) = IsPlacedField f
IsPlacedMember (members.Invariant i) = Unit {0}
IsPlacedMember (members.Represents r) = IsPlaced r.name
IsPlacedMember (members.Method m) = IsPlacedMethod m
IsPlacedMember (members.Constructor c) = IsPlacedConstructor c

-- the members of a class
pub record AreMembersPlaced (s : Source) : Type 0 where
  pub lines : IsLines s.lines
  pub name : IsPlaced s.tree.name
  pub members : All (λ m. IsPlacedMember m.node) s.tree.members

-- the numbers of classes, fields and methods are small
pub record AreFew (given : List Source) : Type 0 where
  pub classes : length given < 2 ^ 24
  pub fields : length (fields_of given) < 2 ^ 24
  pub methods : length (methods_of given) < 2 ^ 24
