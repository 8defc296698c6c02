-- The targets of assignments, and what is assigned (JLS 15.26; JML Reference Manual 13.4.3).
use Rattle.std.specs.Prelude.{ℕ, ◌&&◌, ◌||◌, ◌==◌, not, Bool, true, false, Option, Some, None, List, Ok, codes, bytes_eq, if◌then◌else◌}
use Rattle.jesc_text.specs.declared.place.Span.{Span}
use Rattle.jesc_ast.specs.declared.word.Word.{Word}
use Rattle.jesc_ast.specs.Trees as ast
use Rattle.jesc_classes.specs.Answers.{Checked, and_then}
use Rattle.jesc_classes.specs.declared.rule.Rule.TheVariants.{Y1, Y2, Y3, Y4, Y5}
use Rattle.jesc_operands.specs.Deciding.{fits, is_truth}
use Rattle.jesc_operands.specs.Operands.{is_number}
use Rattle.jesc_tree.specs.declared.class.Field.{Field}
use Rattle.jesc_tree.specs.declared.ops.TAssign.{TAssign}
use Rattle.jesc_tree.specs.declared.ops.TAssign.TheVariants.{Set, Add, Sub, Mul, Div, Rem, Up, Down}
use Rattle.jesc_tree.specs.declared.ty.Ty.{Ty}
use Rattle.jesc_tree.specs.Trees.{Expression, Form, constant, expression, member, size}
use Rattle.std.specs.List.{slice_get}
use Rattle.jesc_sites.specs.Parts.{refused_at, refused_in, type_of}
use Rattle.jesc_sites.specs.Sites.{Setting}
use Rattle.jesc_sites.specs.declared.site.Binding.{Binding}
use Rattle.jesc_sites.specs.declared.site.Role.{Role}
use Rattle.jesc_sites.specs.declared.site.Role.TheVariants.{Operand, Whole, Target}
use Rattle.jesc_references.specs.Fields.{is_absent, is_of_specification, is_static}
use Rattle.jesc_references.specs.Known as known
use Rattle.jesc_references.specs.Known.{Meaning, meaning_of}
use Rattle.jesc_expressions.specs.Resolving.{resolved}
use Rattle.jesc_statements.specs.Bodies.{Owner, Scope, standing, in_code, in_note}

-- ---- values

-- a value whose type fits the one that is wanted (JLS 5.2)
abbrev pub fitting : Setting → Role → Ty → ast.Expression → Checked Expression
fitting s role wanted e = and_then (resolved s (standing role) e) (λ x. if fits s.classes (type_of x) wanted then Ok x else refused_in Y1 s.lines e)

-- a truth value
abbrev pub condition : Setting → ast.Expression → Checked Expression
condition s e = and_then (resolved s (standing Operand) e) (λ x. if is_truth (type_of x) then Ok x else refused_in Y1 s.lines e)

-- ---- which fields and locals may be assigned

-- a final field is assigned in the constructors of its class alone
abbrev pub is_fixed : Owner → Field → Bool
is_fixed o f = f.is_final && not (o.is_constructor && (f.owner.0 == o.setting.class))

-- the rules on the field that a target names, alone or behind a dot: that it may be assigned, that the own object may be
-- implied, that code names none of the specification's, and that `set` names one marked `ghost`
abbrev pub field_assigned : Owner → Bool → Bool → ast.Expression → Span → List ℕ → Field → Expression → Checked Expression
field_assigned o is_code is_implied e span name f x =
    if is_fixed o f || f.is_model then refused_in Y2 o.setting.lines e
    else if is_implied && is_absent o.setting.this then refused_in Y3 o.setting.lines e
    else if is_code && is_of_specification f then refused_at Y4 o.setting.lines span name
    else if not is_code && not f.is_ghost then refused_in Y5 o.setting.lines e
    else Ok x

abbrev pub local_assigned : Owner → Bool → ast.Expression → Binding → Expression → Checked Expression
local_assigned o is_code e b x =
    if b.is_final then refused_in Y2 o.setting.lines e
    else if is_code && b.is_ghost then refused_in Y4 o.setting.lines e
    else if not is_code && not b.is_ghost then refused_in Y5 o.setting.lines e
    else Ok x

abbrev pub name_assigned : Owner → Bool → ast.Expression → Span → List ℕ → Meaning → Expression → Checked Expression
name_assigned o is_code e span name (known.local b) x = local_assigned o is_code e b x
name_assigned o is_code e span name (known.field id f) x =
    if is_static f then refused_in Y2 o.setting.lines e else field_assigned o is_code true e span name f x
name_assigned o is_code e span name _ x = Ok x

abbrev pub entry_assigned : Owner → Bool → ast.Expression → Word → Option Field → Expression → Checked Expression
entry_assigned o is_code e w (Some f) x = field_assigned o is_code false e w.span w.text f x
entry_assigned o is_code e w None x = Ok x

-- what stands behind a dot, by what it turned out to be: neither a static field nor a length may be assigned
abbrev pub form_assigned : Owner → Bool → ast.Expression → Word → Form → Expression → Checked Expression
form_assigned o is_code e w (constant f) x = refused_in Y2 o.setting.lines e
form_assigned o is_code e w (size y) x = refused_in Y2 o.setting.lines e
form_assigned o is_code e w (member y f) x = entry_assigned o is_code e w (slice_get o.setting.fields f.0) x
form_assigned o is_code e w form x = Ok x

abbrev pub form_of : Expression → Form
form_of (expression start at dot t form) = form

-- the target's own rules, once it is known what it stands for
abbrev pub target_by : Owner → Bool → Setting → ast.Expression → Expression → Checked Expression
target_by o is_code s (ast.name span name) x = name_assigned o is_code (ast.name span name) span name (meaning_of s (standing Target) name) x
target_by o is_code s (ast.member span e dot w) x = form_assigned o is_code (ast.member span e dot w) w (form_of x) x
target_by o is_code s (ast.index span e bracket i) x = if is_code then Ok x else refused_in Y5 o.setting.lines (ast.index span e bracket i)
target_by o is_code s e x = Ok x

-- the target of an assignment in code
abbrev pub assigned : Owner → Scope → ast.Expression → Checked Expression
assigned o scope e = and_then (resolved (in_code o scope) (standing Target) e) (target_by o true (in_code o scope) e)

-- the target of `set`
abbrev pub ghost_assigned : Owner → Scope → ast.Expression → Checked Expression
ghost_assigned o scope e = and_then (resolved (in_note o true scope) (standing Target) e) (target_by o false (in_note o true scope) e)

-- ---- assignments by their signs

abbrev pub sign_of : List ℕ → TAssign
sign_of sign =
    if bytes_eq sign (codes "=") then Set
    else if bytes_eq sign (codes "+=") then Add
    else if bytes_eq sign (codes "-=") then Sub
    else if bytes_eq sign (codes "*=") then Mul
    else if bytes_eq sign (codes "/=") then Div
    else if bytes_eq sign (codes "%=") then Rem
    else if bytes_eq sign (codes "++") then Up
    else Down

-- `=` takes the whole value, and another sign an operand
abbrev pub value_role : TAssign → Role
value_role Set = Whole
value_role sign = Operand

-- the types of target and value: the value fits the target, or both are numbers, and the result is brought back
abbrev pub value_fits : Owner → TAssign → ast.Expression → ast.Expression → Expression → Expression → Checked (Unit {0})
value_fits o Set target value x y = if fits o.setting.classes (type_of y) (type_of x) then Ok tt else refused_in Y1 o.setting.lines value
value_fits o sign target value x y =
    if not (is_number (type_of x)) then refused_in Y1 o.setting.lines target
    else if not (is_number (type_of y)) then refused_in Y1 o.setting.lines value
    else Ok tt
