-- The member whose body statements stand in, and the locals in scope there.
use Rattle.std.specs.Prelude.{ℕ, Bool, true, false, Option, Some, None, List, [], ◌∷◌, ◌++◌, length}
use Rattle.jesc_ast.specs.declared.word.Word.{Word}
use Rattle.jesc_classes.specs.Answers.{Checked}
use Rattle.jesc_classes.specs.Named.{Named, find}
use Rattle.jesc_classes.specs.declared.rule.Rule.TheVariants.{N2}
use Rattle.jesc_tree.specs.declared.ty.Ty.{Ty}
use Rattle.jesc_sites.specs.Parts.{refused_at}
use Rattle.jesc_sites.specs.Sites.{Around, Setting}
use Rattle.jesc_sites.specs.Specified.{local_id}
use Rattle.jesc_sites.specs.declared.site.Binding.{Binding}
use Rattle.jesc_sites.specs.declared.site.Role.{Role}
use Rattle.jesc_sites.specs.declared.site.This.{This}
use Rattle.jesc_sites.specs.declared.site.This.TheVariants.{Absent}

abbrev pub Scope : Type 0
Scope = List (Named Binding)

-- the member: its place in the program without any locals, the type of what it returns, where it returns something, and
-- whether it is a constructor
pub record Owner : Type 0 where
  pub setting : Setting
  pub returns : Option Ty
  pub is_constructor : Bool

-- ---- where the expressions of statements stand

abbrev pub setting_with : Setting → Bool → This → Bool → Scope → Setting
setting_with s is_code this has_past scope = record {
  classes = s.classes;
  fields = s.fields;
  methods = s.methods;
  lines = s.lines;
  class = s.class;
  is_code = is_code;
  this = this;
  result = None;
  has_past = has_past;
  locals = scope;
}

-- code
abbrev pub in_code : Owner → Scope → Setting
in_code o scope = setting_with o.setting true o.setting.this false scope

-- an annotation in a body, where the past may be spoken of or not
abbrev pub in_note : Owner → Bool → Scope → Setting
in_note o has_past scope = setting_with o.setting false o.setting.this has_past scope

-- the arguments of `super(..)`, where there is no own object yet
abbrev pub in_super : Owner → Scope → Setting
in_super o scope = setting_with o.setting true Absent false scope

-- at the top of an expression
abbrev pub standing : Role → Around
standing role = record { variables = []; in_old = false; role = role }

-- ---- scopes

-- a local that is not a parameter; its number is that of the locals before it
abbrev pub binding : Scope → Ty → Bool → Bool → Binding
binding scope t is_final is_ghost = record { local = local_id (length scope); ty = t; is_parameter = false; is_final = is_final; is_ghost = is_ghost }

abbrev pub declared : Scope → Word → Ty → Bool → Bool → Scope
declared scope w t is_final is_ghost = scope ++ (w.text, binding scope t is_final is_ghost) ∷ []

abbrev pub new_by : {A : Type 0} → List ℕ → Word → Option Binding → Checked A → Checked A
new_by lines w None rest = rest
new_by lines w (Some b) rest = refused_at N2 lines w.span w.text

-- no local or parameter in scope has that name
abbrev pub if_new : {A : Type 0} → Owner → Scope → Word → Checked A → Checked A
if_new o scope w rest = new_by o.setting.lines w (find w.text scope) rest
