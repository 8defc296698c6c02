-- The methods that the given classes declare, in source order, without constructors: a method is known by its number in
-- this list.
use Rattle.std.specs.Prelude.{ℕ, ◌+◌, nat_eq, ◌&&◌, ◌||◌, Bool, true, false, Option, Some, None, List, [], ◌∷◌, ◌++◌, length, map, bytes_eq, codes}
use Rattle.jesc_ast.specs.declared.class.MethodTree.{MethodTree}
use Rattle.jesc_ast.specs.declared.class.MemberTree.{MemberTree}
use Rattle.jesc_ast.specs.declared.class.MemberNode.{MemberNode}
use Rattle.jesc_ast.specs.declared.class.MemberNode.TheVariants as members
use Rattle.jesc_ast.specs.declared.word.Word.{Word}
use Rattle.jesc_ast.specs.declared.word.TypeTree.{TypeTree}
use Rattle.jesc_classes.specs.Headings.{Source}
use Rattle.jesc_members.specs.Fields.{first_that, has}

-- a method, with the number of its class
pub record MethodOf : Type 0 where
  pub class : ℕ
  pub source : Source
  pub tree : MethodTree

abbrev pub method_of : ℕ → Source → MethodTree → MethodOf
method_of class source tree = record { class = class; source = source; tree = tree }

-- the method that a member is
abbrev pub method_in : ℕ → Source → MemberNode → List MethodOf
method_in class s members.Empty = []
method_in class s (members.Field f) = []
method_in class s (members.SpecField f) = []
method_in class s (members.Invariant i) = []
method_in class s (members.Represents r) = []
method_in class s (members.Method m) = method_of class s m ∷ []
method_in class s (members.Constructor c) = []

abbrev pub methods_in : ℕ → Source → List MemberTree → List MethodOf
methods_in class s [] = []
methods_in class s (m ∷ ms) = method_in class s m.node ++ methods_in class s ms

abbrev pub methods_from : ℕ → List Source → List MethodOf
methods_from class [] = []
methods_from class (s ∷ rest) = methods_in class s s.tree.members ++ methods_from (class + 1) rest

abbrev pub methods_of : List Source → List MethodOf
methods_of given = methods_from 7 given

abbrev pub is_method_named : List ℕ → ℕ → ℕ → MethodOf → Bool
is_method_named name count class m = nat_eq class m.class && (bytes_eq name m.tree.name.text && nat_eq count (length m.tree.params))

-- the first method of that name and number of parameters that the class itself declares
abbrev pub own_method : List Source → List ℕ → ℕ → ℕ → Option ℕ
own_method given name count class = first_that (is_method_named name count class) 0 (methods_of given)

abbrev pub is_static : MethodTree → Bool
is_static m = has (codes "static") m.modifiers

abbrev pub is_private : MethodTree → Bool
is_private m = has (codes "private") m.modifiers

abbrev pub is_hidden : MethodTree → Bool
is_hidden m = is_private m || is_static m

abbrev pub is_final : MethodTree → Bool
is_final m = has (codes "final") m.modifiers

abbrev pub has_body : MethodTree → Bool
has_body m = by m.body
  where
    by : {X : Type 0} → Option X → Bool
    by None = false
    by (Some b) = true

-- a type as it is written
abbrev pub written : TypeTree → List ℕ × Bool
written t = (t.base, t.array)

-- whether null may stand there
abbrev pub may_be_null : List Word → Bool
may_be_null = has (codes "nullable")

pub record Signature : Type 0 where
  pub params : List ((List ℕ × Bool) × Bool)
  pub result : Option (List ℕ × Bool)
  pub nullable : Bool

abbrev pub optional_written : Option TypeTree → Option (List ℕ × Bool)
optional_written None = None
optional_written (Some t) = Some (written t)

-- the types of a method's parameters and of its result, and which of them may be null; names are those of all classes
-- together, so that equal texts are equal types
abbrev pub signature : MethodTree → Signature
signature m = record {
  params = map (λ p. (written p.ty, may_be_null p.modifiers)) m.params;
  result = optional_written m.result;
  nullable = may_be_null m.modifiers;
}
