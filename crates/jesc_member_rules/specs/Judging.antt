-- What the functions that judge members say of each other.
use Rattle.std.specs.Prelude.{◌≡◌, ℕ, ◌≤◌, Bool, Option, Some, None, List, [], ◌∷◌, ◌++◌, length, map, drop}
use Rattle.jesc_text.specs.declared.place.Place.{Place}
use Rattle.jesc_ast.specs.declared.class.ParamTree.{ParamTree}
use Rattle.jesc_classes.specs.declared.rule.Rule.{Rule}
use Rattle.jesc_classes.specs.Answers.{refusal}
use Rattle.jesc_classes.specs.Headings.{Source, graph_of}
use Rattle.jesc_classes.specs.Named.{Named}
use Rattle.jesc_member_rules.specs.declared.bearer.Bearer as code_bearer
use Rattle.jesc_member_rules.specs.declared.bearer.Bearer.TheVariants.{JavaField, SpecField, Method, Constructor, Parameter}
use Rattle.jesc_members.specs.declared.fields.GivenField.{GivenField}
use Rattle.jesc_member_rules.specs.declared.met.Met as code_met
use Rattle.jesc_members.specs.Fields.{fields_of}
use Rattle.jesc_member_rules.specs.Members.{Part, Breaks, Holds, Met, modifiers_from, written_type, parameter_name}
use Rattle.jesc_member_rules.specs.Modifiers.{Bearer, java_field, spec_field, method, constructor_of, parameter}
use Rattle.jesc_members.specs.Placed.{AreFew}
use Rattle.jesc_members.specs.Seen.{seen_field}
use Rattle.jesc_member_rules.specs.Throwables.{AreThrowables}

-- what members are judged by stands for the same classes
pub record IsKnown (given inheritance groups : List Source) (throwables : List Bool) (fields : List GivenField) : Type 0 where
  pub few : AreFew given
  pub inherited : inheritance ≡ given
  pub grouped : groups ≡ given
  pub throwable : AreThrowables (graph_of given) throwables
  pub seen : map seen_field fields ≡ fields_of given

abbrev pub seen_bearer : code_bearer.Bearer → Bearer
seen_bearer (JavaField f) = java_field f.now
seen_bearer (SpecField f) = spec_field f.now
seen_bearer (Method m) = method m.now
seen_bearer Constructor = constructor_of
seen_bearer (Parameter p) = parameter p.now

-- the part breaks this rule, at that place and with that text, or none
abbrev pub Decides : List Source → Part → Place → List ℕ → Option Rule → Type 0
Decides given p place text None = Holds given p
Decides given p place text (Some rule) = Breaks given p (refusal rule place text)

-- these items of the list begin at that index
pub record Begins {X : Type 0} (all : List X) (n : ℕ) (items : List X) : Type 0 where
  pub within : n ≤ length all
  pub others : List X
  pub behind : drop n all ≡ items ++ others

-- the table has the names of these items in order
abbrev pub AreNames : {X : Type 0} → (X → List ℕ) → List X → List (Named ℕ) → Type 0
AreNames name items table = map (λ e. e.0) table ≡ map name items

-- a parameter's own parts, behind other parameters
abbrev pub parameter_parts : Source → List ParamTree → ParamTree → List Part
parameter_parts s before p = modifiers_from s (parameter p) [] p.modifiers ++ written_type s p.ty ∷ parameter_name s before p ∷ []

-- what the code keeps of the members before
pub record IsMet (m : code_met.Met) (b : Met) : Type 0 where
  pub fields : m.fields ≡ b.fields
  pub methods : m.methods ≡ b.methods
  pub represented : AreNames (λ w. w.text) b.represented m.represented
  pub constructors : m.constructors ≡ map (λ c. length c.params) b.constructors
