-- The rules on class headings, in the order of the walk: files, classes as they are written, and the words of a heading.
use Rattle.std.specs.Prelude.{◌≡◌, ℕ, ◌+◌, ◌<◌, List, [], ◌∷◌, ◌++◌, map, Bool, true, false, Option, Some, None, Result, Ok, Err, ◌⊎◌, bytes_eq, codes, slice_get, if◌then◌else◌}
use Rattle.std.specs.List.{list_any}
use Rattle.jesc_ast.specs.declared.word.Word.{Word}
use Rattle.jesc_ast.specs.declared.class.ClassTree.{ClassTree}
use Rattle.jesc_ast.specs.declared.class.File.{File}
use Rattle.jesc_ast.specs.Lines.{place_at}
use Rattle.jesc_ast.specs.Words.{is_one_of}
use Rattle.jesc_tree.specs.Programs.{predefined}
use Rattle.jesc_classes.specs.declared.rule.Rule.{Rule}
use Rattle.jesc_classes.specs.declared.rule.Rule.TheVariants.{N1, N2, N3, N9}
use Rattle.jesc_classes.specs.declared.rule.RuleError.{RuleError}
use Rattle.jesc_classes.specs.declared.rule.RuleError.TheVariants.{Refused, Limit, OutOfMemory}
use Rattle.jesc_classes.specs.Answers.{Refusal, refusal}
use Rattle.jesc_classes.specs.Order.{Graph, Above}

-- a given class, with where the lines of its file begin
pub record Source : Type 0 where
  pub lines : List ℕ
  pub tree : ClassTree

abbrev pub source : List ℕ → ClassTree → Source
source lines tree = record { lines = lines; tree = tree }

-- the given classes in source order
abbrev pub sources : List File → List Source
sources [] = []
sources (f ∷ fs) = map (source f.lines) f.classes ++ sources fs

-- ---- which class a name means

-- the names of all classes, by number
abbrev pub class_names : List Source → List (List ℕ)
class_names given = map (λ p. p.0) predefined ++ map (λ s. s.tree.name.text) given

abbrev pub first_from : ℕ → List ℕ → List (List ℕ) → Option ℕ
first_from i name [] = None
first_from i name (n ∷ names) = if bytes_eq name n then Some i else first_from (i + 1) name names

-- the first class of that name
abbrev pub class_named : List Source → List ℕ → Option ℕ
class_named given name = first_from 0 name (class_names given)

abbrev pub with_class : Option ℕ → List ℕ → List ℕ
with_class None more = more
with_class (Some class) more = class ∷ more

-- the classes of those names, as far as they are known
abbrev pub classes_named : List Source → List Word → List ℕ
classes_named given [] = []
classes_named given (w ∷ ws) = with_class (class_named given w.text) (classes_named given ws)

-- a class without `extends` has the superclass Object (JLS 8.1.4)
abbrev pub extended_by : List Source → ClassTree → List Word → List ℕ
extended_by given c [] = if c.is_interface then [] else (0 ∷ [])
extended_by given c (w ∷ ws) = classes_named given (w ∷ ws)

-- the supertypes that each heading names
abbrev pub graph_of : List Source → Graph
graph_of given = map (λ p. p.1) predefined ++ map (λ s. extended_by given s.tree s.tree.extends ++ classes_named given s.tree.implements) given

-- ---- the kinds of classes

abbrev pub kinds : List Source → List Bool
kinds given = map (λ p. false) predefined ++ map (λ s. s.tree.is_interface) given

abbrev pub is_word : List ℕ → Word → Bool
is_word text w = bytes_eq text w.text

abbrev pub finals : List Source → List Bool
finals given = map (λ p. false) predefined ++ map (λ s. list_any (is_word (codes "final")) s.tree.modifiers) given

abbrev pub IsInterface : List Source → ℕ → Type 0
IsInterface given j = slice_get (kinds given) j ≡ Some true

abbrev pub IsFinal : List Source → ℕ → Type 0
IsFinal given j = slice_get (finals given) j ≡ Some true

-- ---- the parts of a heading, in the order of its words

pub data Part : Type 0 where
  -- a modifier, behind others
  modifier : Source → List Word → Word → Part
  own_name : ℕ → Source → Part
  extended : ℕ → Source → Word → Part
  implemented : ℕ → Source → Word → Part

abbrev pub modifiers_from : Source → List Word → List Word → List Part
modifiers_from s before [] = []
modifiers_from s before (w ∷ ws) = modifier s before w ∷ modifiers_from s (before ++ w ∷ []) ws

abbrev pub heading : ℕ → Source → List Part
heading i s = modifiers_from s [] s.tree.modifiers ++ own_name i s ∷ (map (extended i s) s.tree.extends ++ map (implemented i s) s.tree.implements)

abbrev pub headings_from : ℕ → List Source → List Part
headings_from i [] = []
headings_from i (s ∷ rest) = heading i s ++ headings_from (i + 1) rest

-- the walk: the first given class has the number 7
abbrev pub walk : List Source → List Part
walk given = headings_from 7 given

-- ---- the rules

abbrev pub class_modifiers : List (List ℕ)
class_modifiers = codes "public" ∷ codes "final" ∷ codes "abstract" ∷ []

abbrev pub interface_modifiers : List (List ℕ)
interface_modifiers = codes "public" ∷ codes "abstract" ∷ []

abbrev pub allowed : Bool → List (List ℕ)
allowed true = interface_modifiers
allowed false = class_modifiers

abbrev pub refusal_at : Rule → Source → Word → Refusal
refusal_at number s w = refusal number (place_at s.lines w.span) w.text

-- the class is above itself by way of its supertype j
abbrev pub IsOnCycle : List Source → ℕ → ℕ → Type 0
IsOnCycle given i j = (j ≡ i) ⊎ Above (graph_of given) j i

-- a class extends a class that isn't final, and an interface extends interfaces
abbrev pub MayExtend : List Source → Bool → ℕ → Type 0
MayExtend given true j = IsInterface given j
MayExtend given false j = (IsInterface given j → ⊥) × (IsFinal given j → ⊥)

-- the rules on a name of a supertype: it is known, no cycle goes through it, and it is of a kind that may stand there
abbrev pub BreaksAbove : List Source → ℕ → Source → Word → (ℕ → Type 0) → Refusal → Type 0
BreaksAbove given i s w MayStand r =
    ((class_named given w.text ≡ None) × (r ≡ refusal_at N1 s w))
    ⊎ ((j : ℕ) × (class_named given w.text ≡ Some j)
    × ((IsOnCycle given i j × (r ≡ refusal_at N3 s w)) ⊎ ((IsOnCycle given i j → ⊥) × (MayStand j → ⊥) × (r ≡ refusal_at N9 s w))))

-- which rule a part breaks
abbrev pub Breaks : List Source → Part → Refusal → Type 0
Breaks given (modifier s before w) r =
    ((list_any (is_word w.text) before ≡ true) ⊎ (is_one_of (allowed s.tree.is_interface) w.text ≡ false)) × (r ≡ refusal_at N9 s w)
Breaks given (own_name i s) r = (j : ℕ) × (class_named given s.tree.name.text ≡ Some j) × (j < i) × (r ≡ refusal_at N2 s s.tree.name)
Breaks given (extended i s w) r = BreaksAbove given i s w (MayExtend given s.tree.is_interface) r
Breaks given (implemented i s w) r = BreaksAbove given i s w (IsInterface given) r

abbrev pub Holds : List Source → Part → Type 0
Holds given p = (r : Refusal) → Breaks given p r → ⊥

abbrev pub AllHold : List Source → List Part → Type 0
AllHold given [] = Unit {0}
AllHold given (p ∷ ps) = Holds given p × AllHold given ps

-- the first part that breaks a rule breaks this one
abbrev pub FirstBroken : List Source → List Part → Refusal → Type 0
FirstBroken given [] r = ⊥
FirstBroken given (p ∷ ps) r = Breaks given p r ⊎ (Holds given p × FirstBroken given ps r)

-- Ok exactly where no rule is broken in the parts, and else the first one broken
abbrev pub Judges : {A : Type 0} → List Source → Result A RuleError → List Part → Type 0
Judges given (Ok a) ps = AllHold given ps
Judges given (Err (Refused number place word)) ps = FirstBroken given ps (refusal number place word)
Judges given (Err (Limit number count)) ps = ⊥
Judges given (Err OutOfMemory) ps = Unit {0}
