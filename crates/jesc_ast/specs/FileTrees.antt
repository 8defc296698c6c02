-- The trees of members, classes and files as plain data, and how the program's trees are seen as it.
use Rattle.std.specs.Prelude.{Bool, Option, Some, None, List, map}
use Rattle.jesc_text.specs.declared.place.Span.{Span}
use Rattle.jesc_ast.specs.declared.word.Word.{Word}
use Rattle.jesc_ast.specs.declared.word.TypeTree.{TypeTree}
use Rattle.jesc_ast.specs.declared.stmt.BodyTree.{BodyTree}
use Rattle.jesc_ast.specs.declared.class.ParamTree.{ParamTree}
use Rattle.jesc_ast.specs.declared.class.MemberTree.{MemberTree}
use Rattle.jesc_ast.specs.declared.class.MemberNode.{MemberNode}
use Rattle.jesc_ast.specs.declared.class.MemberNode.TheVariants as members
use Rattle.jesc_ast.specs.declared.class.ClassTree.{ClassTree}
use Rattle.jesc_ast.specs.declared.class.File.{File}
use Rattle.jesc_ast.specs.Trees.{Expression, view, optional_view, Body, body_view}
use Rattle.jesc_ast.specs.SpecTrees.{Specification, optional_spec_view}

pub data MemberForm : Type 0 where
  no_member : MemberForm
  field : List Word → TypeTree → Word → Option Span → Option Expression → List Word → MemberForm
  spec_field : List Word → TypeTree → Word → Option Span → Option Expression → List Word → MemberForm
  class_invariant : List Word → Expression → MemberForm
  represents : Option Word → Word → Word → Expression → MemberForm
  method : Option Specification → List Word → Option TypeTree → Word → List ParamTree → List Word → Option Body → MemberForm
  constructor_member : Option Specification → List Word → Word → List ParamTree → List Word → Body → MemberForm

abbrev pub optional_body_view : Option BodyTree → Option Body
optional_body_view None = None
optional_body_view (Some b) = Some (body_view b)

abbrev pub member_form : MemberNode → MemberForm
member_form members.Empty = no_member
member_form (members.Field f) = field f.modifiers f.ty f.name f.equals (optional_view f.value) f.groups
member_form (members.SpecField f) = spec_field f.modifiers f.ty f.name f.equals (optional_view f.value) f.groups
member_form (members.Invariant i) = class_invariant i.modifiers (view i.e)
member_form (members.Represents r) = represents r.visibility r.name r.sign (view r.e)
member_form (members.Method m) = method (optional_spec_view m.spec) m.modifiers m.result m.name m.params m.throws (optional_body_view m.body)
member_form (members.Constructor c) = constructor_member (optional_spec_view c.spec) c.modifiers c.name c.params c.throws (body_view c.body)

pub record Member : Type 0 where
  pub span : Span
  pub form : MemberForm

abbrev pub member_of : Span → MemberForm → Member
member_of s form = record { span = s; form = form }

abbrev pub member_view : MemberTree → Member
member_view m = member_of m.span (member_form m.node)

pub record Class : Type 0 where
  pub span : Span
  pub modifiers : List Word
  pub is_interface : Bool
  pub name : Word
  pub extends : List Word
  pub implements : List Word
  pub members : List Member

abbrev pub class_of : Span → List Word → Bool → Word → List Word → List Word → List Member → Class
class_of s ws is_interface w extends implements ms =
    record { span = s; modifiers = ws; is_interface = is_interface; name = w; extends = extends; implements = implements; members = ms }

abbrev pub class_view : ClassTree → Class
class_view c = class_of c.span c.modifiers c.is_interface c.name c.extends c.implements (map member_view c.members)

-- what a file holds, the places of its lines aside
pub record SourceUnit : Type 0 where
  pub in_package : List Word
  pub classes : List Class

abbrev pub unit_of : List Word → List Class → SourceUnit
unit_of names classes = record { in_package = names; classes = classes }

abbrev pub file_view : File → SourceUnit
file_view f = unit_of f.package (map class_view f.classes)
