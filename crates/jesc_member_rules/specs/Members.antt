-- The rules on members, in the order of the walk: classes as they are written, and the words of each one's members.
--
-- A type's own rules on what it inherits come first, at the name in its heading; then its members from left to right. What
-- a whole member breaks stands at the member's name. Where one part breaks several rules, the first one counts.
use Rattle.std.specs.Prelude.{◌≡◌, ℕ, ◌+◌, ◌<◌, ◌⊎◌, ◌&&◌, ◌||◌, not, Bool, true, false, Option, Some, None, Result, Ok, Err, List, [], ◌∷◌, ◌++◌, length, map, codes, bytes_eq}
use Rattle.std.specs.List.{Contains, list_any}
use Rattle.jesc_ast.specs.declared.word.Word.{Word}
use Rattle.jesc_ast.specs.declared.word.TypeTree.{TypeTree}
use Rattle.jesc_ast.specs.declared.class.ConstructorTree.{ConstructorTree}
use Rattle.jesc_ast.specs.declared.class.ParamTree.{ParamTree}
use Rattle.jesc_ast.specs.declared.class.MemberTree.{MemberTree}
use Rattle.jesc_ast.specs.declared.class.MemberNode.{MemberNode}
use Rattle.jesc_ast.specs.declared.class.MemberNode.TheVariants as members
use Rattle.jesc_ast.specs.Lines.{place_at}
use Rattle.jesc_ast.specs.Words.{is_primitive}
use Rattle.jesc_classes.specs.declared.rule.Rule.TheVariants.{N1, N2, N4, N5, N6, N7, N8, N9, Y1}
use Rattle.jesc_classes.specs.declared.rule.RuleError.{RuleError}
use Rattle.jesc_classes.specs.declared.rule.RuleError.TheVariants.{Refused, Limit, OutOfMemory}
use Rattle.jesc_classes.specs.Answers.{Refusal, refusal}
use Rattle.jesc_classes.specs.Headings.{Source, class_named, graph_of, refusal_at}
use Rattle.jesc_classes.specs.Order.{Above}
use Rattle.jesc_members.specs.Fields.{FieldOf, field_of, fields_in, own_field, has, is_model}
use Rattle.jesc_members.specs.Methods.{MethodOf, method_of, methods_in, own_method, is_static, is_private, is_final, has_body}
use Rattle.jesc_member_rules.specs.Modifiers.{Bearer, java_field, spec_field, method, constructor_of, parameter, modifier_stands, is_there}
use Rattle.jesc_members.specs.Groups.{NamesModel, IsMember}
use Rattle.jesc_members.specs.Overriding.{Differ, IsOneHidden, IsPairAbove, IsLikeAbove, IsOpen}

-- ---- the parts of a class, in the order of its words

pub data Part : Type 0 where
  -- what the class of this number inherits
  inheritance : ℕ → Source → Part
  -- a modifier, behind others
  modifier : Source → Bearer → List Word → Word → Part
  written_type : Source → TypeTree → Part
  -- a field and its number
  field_name : ℕ → FieldOf → Part
  -- a name behind `in`
  group : ℕ → Source → Word → Part
  -- the name of a represents clause, behind those of others
  represented : ℕ → Source → List Word → Word → Part
  -- a method and its number
  method_name : ℕ → MethodOf → Part
  -- a constructor, behind others
  constructor_name : Source → List ConstructorTree → ConstructorTree → Part
  -- a parameter, behind others
  parameter_name : Source → List ParamTree → ParamTree → Part
  -- a name behind `throws`
  thrown : Source → Word → Part

abbrev pub modifiers_from : Source → Bearer → List Word → List Word → List Part
modifiers_from s on before [] = []
modifiers_from s on before (w ∷ ws) = modifier s on before w ∷ modifiers_from s on (before ++ w ∷ []) ws

abbrev pub parameters_from : Source → List ParamTree → List ParamTree → List Part
parameters_from s before [] = []
parameters_from s before (p ∷ ps) = modifiers_from s (parameter p) [] p.modifiers ++ written_type s p.ty ∷ parameter_name s before p ∷ parameters_from s (before ++ p ∷ []) ps

abbrev pub result_parts : Source → Option TypeTree → List Part
result_parts s None = []
result_parts s (Some t) = written_type s t ∷ []

abbrev pub field_parts : Bearer → ℕ → FieldOf → List Part
field_parts on n f = modifiers_from f.source on [] f.tree.modifiers ++ written_type f.source f.tree.ty ∷ field_name n f ∷ map (group f.class f.source) f.tree.groups

abbrev pub method_parts : ℕ → MethodOf → List Part
method_parts n m = modifiers_from m.source (method m.tree) [] m.tree.modifiers ++ (result_parts m.source m.tree.result ++ method_name n m ∷ (parameters_from m.source [] m.tree.params ++ map (thrown m.source) m.tree.throws))

abbrev pub constructor_parts : Source → List ConstructorTree → ConstructorTree → List Part
constructor_parts s before c = modifiers_from s constructor_of [] c.modifiers ++ constructor_name s before c ∷ (parameters_from s [] c.params ++ map (thrown s) c.throws)

-- what was met before a member: how many fields and methods in all, and this class's represents clauses and constructors
pub record Met : Type 0 where
  pub fields : ℕ
  pub methods : ℕ
  pub represented : List Word
  pub constructors : List ConstructorTree

abbrev pub met : ℕ → ℕ → List Word → List ConstructorTree → Met
met fields methods names constructors = record { fields = fields; methods = methods; represented = names; constructors = constructors }

abbrev pub member_parts : ℕ → Source → Met → MemberNode → List Part
member_parts class s b members.Empty = []
member_parts class s b (members.Field f) = field_parts (java_field f) b.fields (field_of class s false f)
member_parts class s b (members.SpecField f) = field_parts (spec_field f) b.fields (field_of class s true f)
member_parts class s b (members.Invariant i) = []
member_parts class s b (members.Represents r) = represented class s b.represented r.name ∷ []
member_parts class s b (members.Method m) = method_parts b.methods (method_of class s m)
member_parts class s b (members.Constructor c) = constructor_parts s b.constructors c

abbrev pub met_after : Met → MemberNode → Met
met_after b members.Empty = b
met_after b (members.Field f) = met (b.fields + 1) b.methods b.represented b.constructors
met_after b (members.SpecField f) = met (b.fields + 1) b.methods b.represented b.constructors
met_after b (members.Invariant i) = b
met_after b (members.Represents r) = met b.fields b.methods (b.represented ++ r.name ∷ []) b.constructors
met_after b (members.Method m) = met b.fields (b.methods + 1) b.represented b.constructors
met_after b (members.Constructor c) = met b.fields b.methods b.represented (b.constructors ++ c ∷ [])

abbrev pub members_from : ℕ → Source → Met → List MemberTree → List Part
members_from class s b [] = []
members_from class s b (m ∷ ms) = member_parts class s b m.node ++ members_from class s (met_after b m.node) ms

-- the parts of a class, before which so many fields and methods were met
abbrev pub class_parts : ℕ → ℕ → ℕ → Source → List Part
class_parts class fields methods s = inheritance class s ∷ members_from class s (met fields methods [] []) s.tree.members

abbrev pub classes_from : ℕ → ℕ → ℕ → List Source → List Part
classes_from class fields methods [] = []
classes_from class fields methods (s ∷ rest) =
    class_parts class fields methods s
    ++ classes_from (class + 1) (fields + length (fields_in class s s.tree.members)) (methods + length (methods_in class s s.tree.members)) rest

-- the walk: the first given class has the number 7
abbrev pub member_walk : List Source → List Part
member_walk given = classes_from 7 0 0 given

-- ---- the rules

-- this rule, where the condition is met, and else the rest
abbrev pub Else : Type 0 → Refusal → Refusal → Type 0 → Type 0
Else P here r rest = (P × (r ≡ here)) ⊎ ((P → ⊥) × rest)

-- a class that isn't abstract
abbrev pub is_concrete : Source → Bool
is_concrete s = not (s.tree.is_interface || has (codes "abstract") s.tree.modifiers)

-- a field of an interface is a model field with `instance`, and a model field has no value
abbrev pub field_stands : FieldOf → Bool
field_stands f =
    (not f.source.tree.is_interface || (is_model f && has (codes "instance") f.tree.modifiers))
    && not (is_model f && is_there f.tree.value)

abbrev pub is_abstract : MethodOf → Bool
is_abstract m = m.source.tree.is_interface || has (codes "abstract") m.tree.modifiers

-- a method has a body exactly where it isn't abstract, and an abstract one isn't static, private or final
abbrev pub method_stands : MethodOf → Bool
method_stands m = by (is_abstract m)
  where
    by : Bool → Bool
    by true = not (has_body m.tree || (is_static m.tree || (is_private m.tree || is_final m.tree)))
    by false = has_body m.tree

-- a constructor has the name of its class, which is no interface
abbrev pub constructor_stands : Source → ConstructorTree → Bool
constructor_stands s c = not s.tree.is_interface && bytes_eq s.tree.name.text c.name.text

abbrev pub has_as_many : ConstructorTree → ConstructorTree → Type 0
has_as_many c d = length d.params ≡ length c.params

-- the class is Throwable or below it
abbrev pub IsThrowable : List Source → ℕ → Type 0
IsThrowable given class = (class ≡ 1) ⊎ Above (graph_of given) class 1

-- which rule a part breaks
abbrev pub Breaks : List Source → Part → Refusal → Type 0
Breaks given (inheritance class s) r =
    Else (IsPairAbove given class Differ) (refusal_at N4 s s.tree.name) r
    (Else ((is_concrete s ≡ true) × IsOpen given class) (refusal_at N5 s s.tree.name) r
    (Else (IsPairAbove given class IsOneHidden) (refusal_at N8 s s.tree.name) r ⊥))
Breaks given (modifier s on before w) r = (modifier_stands on before w ≡ false) × (r ≡ refusal_at N9 s w)
Breaks given (written_type s t) r = (is_primitive t.base ≡ false) × (class_named given t.base ≡ None) × (r ≡ refusal N1 (place_at s.lines t.span) t.base)
Breaks given (field_name n f) r =
    Else ((k : ℕ) × (own_field given f.tree.name.text f.class ≡ Some k) × (k < n)) (refusal_at N2 f.source f.tree.name) r
    (Else (IsMember given n n) (refusal_at N7 f.source f.tree.name) r
    (Else (field_stands f ≡ false) (refusal_at N9 f.source f.tree.name) r ⊥))
Breaks given (group class s w) r = (((g : ℕ) × NamesModel given class w.text g) → ⊥) × (r ≡ refusal_at N7 s w)
Breaks given (represented class s before w) r =
    ((s.tree.is_interface ≡ true) ⊎ ((has w.text before ≡ true) ⊎ (((g : ℕ) × NamesModel given class w.text g) → ⊥))) × (r ≡ refusal_at N7 s w)
Breaks given (method_name n m) r =
    Else (IsLikeAbove given m (Differ m)) (refusal_at N4 m.source m.tree.name) r
    (Else ((k : ℕ) × (own_method given m.tree.name.text (length m.tree.params) m.class ≡ Some k) × (k < n)) (refusal_at N6 m.source m.tree.name) r
    (Else (IsLikeAbove given m (IsOneHidden m)) (refusal_at N8 m.source m.tree.name) r
    (Else ((method_stands m ≡ false) ⊎ IsLikeAbove given m (λ b. is_final b.tree ≡ true)) (refusal_at N9 m.source m.tree.name) r ⊥)))
Breaks given (constructor_name s before c) r =
    Else ((d : ConstructorTree) × Contains before d × has_as_many c d) (refusal_at N6 s c.name) r
    (Else (constructor_stands s c ≡ false) (refusal_at N9 s c.name) r ⊥)
Breaks given (parameter_name s before p) r = (list_any (λ q. bytes_eq p.name.text q.name.text) before ≡ true) × (r ≡ refusal_at N2 s p.name)
Breaks given (thrown s w) r =
    ((class_named given w.text ≡ None) × (r ≡ refusal_at N1 s w))
    ⊎ ((j : ℕ) × (class_named given w.text ≡ Some j) × (IsThrowable given j → ⊥) × (r ≡ refusal_at Y1 s w))

abbrev pub Holds : List Source → Part → Type 0
Holds given p = (r : Refusal) → Breaks given p r → ⊥

abbrev pub AllHold : List Source → List Part → Type 0
AllHold given [] = Unit {0}
AllHold given (p ∷ ps) = Holds given p × AllHold given ps

-- the first part that breaks a rule breaks this one
abbrev pub FirstBroken : List Source → List Part → Refusal → Type 0
FirstBroken given [] r = ⊥
FirstBroken given (p ∷ ps) r = Breaks given p r ⊎ (Holds given p × FirstBroken given ps r)

-- Ok exactly where no rule is broken in the parts, and else the first one broken
abbrev pub Judges : {A : Type 0} → List Source → Result A RuleError → List Part → Type 0
Judges given (Ok a) ps = AllHold given ps
Judges given (Err (Refused number place word)) ps = FirstBroken given ps (refusal number place word)
Judges given (Err (Limit number count)) ps = ⊥
Judges given (Err OutOfMemory) ps = Unit {0}
