-- What the tables rest on: no rule is broken, so the names of types and of thrown classes are known and words have places.
use Rattle.std.specs.Prelude.{◌≡◌, ℕ, ◌+◌, ◌<◌, ◌≤◌, false, Option, Some, None, List, length}
use Rattle.std.specs.List.{All}
use Rattle.jesc_ast.specs.declared.word.Word.{Word}
use Rattle.jesc_ast.specs.declared.word.TypeTree.{TypeTree}
use Rattle.jesc_ast.specs.declared.class.MethodTree.{MethodTree}
use Rattle.jesc_ast.specs.declared.class.ConstructorTree.{ConstructorTree}
use Rattle.jesc_ast.specs.declared.class.ParamTree.{ParamTree}
use Rattle.jesc_ast.specs.declared.class.MemberNode.{MemberNode}
use Rattle.jesc_ast.specs.declared.class.MemberNode.TheVariants as members
use Rattle.jesc_ast.specs.Lines.{IsLines}
use Rattle.jesc_ast.specs.Words.{is_primitive}
use Rattle.jesc_classes.specs.Given.{IsPlaced}
use Rattle.jesc_classes.specs.Headings.{Source, class_named}
use Rattle.jesc_classes.specs.Entries.{AreIds}
use Rattle.jesc_members.specs.Fields.{FieldOf}
use Rattle.jesc_members.specs.Placed.{AreMembersPlaced}

abbrev pub IsKnownName : List Source → List ℕ → Type 0
IsKnownName given name = class_named given name ≡ None → ⊥

abbrev pub IsKnownType : List Source → TypeTree → Type 0
IsKnownType given t = is_primitive t.base ≡ false → IsKnownName given t.base

abbrev pub IsKnownResult : List Source → Option TypeTree → Type 0
IsKnownResult given None = Unit {0}
IsKnownResult given (Some t) = IsKnownType given t

abbrev pub IsKnownParam : List Source → ParamTree → Type 0
IsKnownParam given p = IsKnownType given p.ty

abbrev pub IsKnownThrown : List Source → Word → Type 0
IsKnownThrown given w = IsKnownName given w.text

pub record IsKnownMethod (given : List Source) (m : MethodTree) : Type 0 where
  pub params : All (IsKnownParam given) m.params
  pub result : IsKnownResult given m.result
  pub throws : All (IsKnownThrown given) m.throws

pub record IsKnownConstructor (given : List Source) (c : ConstructorTree) : Type 0 where
  pub params : All (IsKnownParam given) c.params
  pub throws : All (IsKnownThrown given) c.throws

abbrev pub IsKnownMember : List Source → MemberNode → Type 0
IsKnownMember given members.Empty = Unit {0}
IsKnownMember given (members.Field f) = IsKnownType given f.ty
IsKnownMember given (members.SpecField f) = IsKnownType given f.ty
IsKnownMember given (members.Invariant i) = Unit {0}
IsKnownMember given (members.Represents r) = Unit {0}
IsKnownMember given (members.Method m) = IsKnownMethod given m
IsKnownMember given (members.Constructor c) = IsKnownConstructor given c

-- a class whose words have places and whose names are known
pub record IsReady (given : List Source) (s : Source) : Type 0 where
  pub placed : AreMembersPlaced s
  pub known : All (λ m. IsKnownMember given m.node) s.tree.members

pub record IsReadyField (given : List Source) (f : FieldOf) : Type 0 where
  pub low : 7 ≤ f.class
  pub high : f.class < length given + 7
  pub lines : IsLines f.source.lines
  pub name : IsPlaced f.tree.name
  pub known : IsKnownType given f.tree.ty

-- the ids of all classes by number
pub record AreNumbers (given : List Source) (order ids : List ℕ) : Type 0 where
  pub count : length ids ≡ length given + 7
  pub each : AreIds order ids
