-- Where an expression stands, and what is known there.
use Rattle.std.specs.Prelude.{ℕ, ◌+◌, ◌<◌, ◌≤◌, Bool, Option, List, length, map}
use Rattle.std.specs.List.{All}
use Rattle.jesc_ast.specs.Lines.{IsLines}
use Rattle.jesc_classes.specs.Named.{Named}
use Rattle.jesc_tree.specs.declared.class.Class.{Class}
use Rattle.jesc_tree.specs.declared.class.Field.{Field}
use Rattle.jesc_tree.specs.declared.class.Method.{Method}
use Rattle.jesc_tree.specs.declared.ty.Ty.{Ty}
use Rattle.jesc_tree.specs.Ids.{if_there, ty_ids}
use Rattle.jesc_tree.specs.Programs.{IsInRange, IsLawful}
use Rattle.jesc_sites.specs.declared.site.Binding.{Binding}
use Rattle.jesc_sites.specs.declared.site.Position.{Position}
use Rattle.jesc_sites.specs.declared.site.Role.{Role}
use Rattle.jesc_sites.specs.declared.site.Site.{Site}
use Rattle.jesc_sites.specs.declared.site.This.{This}

-- the member that an expression stands in: the program, where the lines of its file begin, its class, whether it is code
-- or a specification, what may be said of `this`, the type of `\result` where that may stand, whether `\old` and `\fresh`
-- may, and the locals in scope
pub record Setting : Type 0 where
  pub classes : List Class
  pub fields : List Field
  pub methods : List Method
  pub lines : List ℕ
  pub class : ℕ
  pub is_code : Bool
  pub this : This
  pub result : Option Ty
  pub has_past : Bool
  pub locals : List (Named Binding)

-- the setting that the code's value tells
abbrev pub setting : Site → Setting
setting s = record {
  classes = s.names.now.program.now.classes;
  fields = s.names.now.program.now.fields;
  methods = s.names.now.program.now.methods;
  lines = s.lines.now;
  class = s.class.0;
  is_code = s.is_code;
  this = s.this;
  result = s.result;
  has_past = s.has_past;
  locals = s.locals.now;
}

-- what stands around an expression in its member: the variables of quantifiers in scope, the innermost last, whether it
-- stands inside `\old`, and what it is to the part around it
pub record Around : Type 0 where
  pub variables : List (List ℕ)
  pub in_old : Bool
  pub role : Role

abbrev pub around : Position → Around
around p = record {
  variables = map (λ name. name.now) p.variables.now;
  in_old = p.in_old;
  role = p.role;
}

-- the same place in the member with that part in it
abbrev pub with_role : Role → Around → Around
with_role role a = record { variables = a.variables; in_old = a.in_old; role = role }

abbrev pub IsType : Setting → Ty → Type 0
IsType s t = All (IsInRange s.classes s.fields s.methods) (ty_ids t)

-- what a caller knows of a setting: the program is lawful, the class and all types are its own, and there are numbers for
-- all locals and for the variables of quantifiers
pub record IsSetting (s : Setting) : Type 0 where
  pub lawful : IsLawful s.classes s.fields s.methods
  pub lines : IsLines s.lines
  pub class : s.class < length s.classes
  pub result : All (IsInRange s.classes s.fields s.methods) (if_there ty_ids s.result)
  pub locals : All (λ l. IsType s l.1.ty) s.locals
  pub few : length s.locals + 4 ≤ 4294967296
