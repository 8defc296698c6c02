-- The rules of names and of what stands behind a dot (JLS 6.5.6, 15.11).
use Rattle.std.specs.Prelude.{ℕ, ◌+◌, ◌&&◌, ◌||◌, not, Bool, true, false, Option, Some, None, List, length, Ok, codes, bytes_eq, is_some, if◌then◌else◌}
use Rattle.jesc_text.specs.declared.place.Span.{Span}
use Rattle.jesc_ast.specs.declared.word.Word.{Word}
use Rattle.jesc_ast.specs.Trees as ast
use Rattle.jesc_classes.specs.Answers.{Checked}
use Rattle.jesc_classes.specs.declared.rule.Rule.TheVariants.{N1, Y1, Y3, Y4, Y6}
use Rattle.jesc_meanings.specs.Ids.{field_id}
use Rattle.jesc_tree.specs.declared.class.Field.{Field}
use Rattle.jesc_tree.specs.declared.ty.Ty.{Ty}
use Rattle.jesc_tree.specs.declared.ty.Ty.TheVariants as ty
use Rattle.jesc_tree.specs.Subtypes.{class_id}
use Rattle.jesc_tree.specs.Trees.{Expression, constant, local, member, this}
use Rattle.jesc_sites.specs.Arrays.{length_of}
use Rattle.jesc_sites.specs.Parts.{checked_at, plain, refused_at, refused_in, type_of}
use Rattle.jesc_sites.specs.Sites.{Around, Setting}
use Rattle.jesc_sites.specs.Specified.{local_id}
use Rattle.jesc_sites.specs.declared.site.Binding.{Binding}
use Rattle.jesc_sites.specs.declared.site.Role.{Role}
use Rattle.jesc_sites.specs.declared.site.Role.TheVariants.{Target}
use Rattle.jesc_sites.specs.declared.site.This.{This}
use Rattle.jesc_sites.specs.declared.site.This.TheVariants.{Absent}
use Rattle.jesc_references.specs.Known as known
use Rattle.jesc_references.specs.Known.{Meaning, field_in, meaning_of, unknown, variable}

-- ---- what is known of a field

-- a static final field, which stands for its value
abbrev pub is_static : Field → Bool
is_static f = is_some f.constant

-- a field of specifications alone
abbrev pub is_of_specification : Field → Bool
is_of_specification f = f.is_ghost || f.is_model

-- the rules on a target's own name are the statement's, in the order of its rules
abbrev pub is_target : Role → Bool
is_target Target = true
is_target role = false

-- code reads what is the specification's alone
abbrev pub reads_specification : Setting → Role → Bool → Bool
reads_specification s role is_specified = s.is_code && (is_specified && not (is_target role))

abbrev pub is_absent : This → Bool
is_absent Absent = true
is_absent _ = false

-- ---- plain names

abbrev pub variable_of : Setting → Span → ℕ → Checked Expression
variable_of s span i = Ok (plain s.lines span ty.Int (local (local_id (length s.locals + i))))

abbrev pub local_of : Setting → Around → Span → List ℕ → Binding → Checked Expression
local_of s a span x b =
    if reads_specification s a.role b.is_ghost then refused_at Y4 s.lines span x
    else if a.in_old && not b.is_parameter then refused_at Y6 s.lines span x
    else Ok (plain s.lines span b.ty (local b.local))

-- `this`, where it is implied at that span
abbrev pub implied_this : Setting → Span → Expression
implied_this s span = plain s.lines span (ty.Ref (class_id s.class)) this

abbrev pub own_field_of : Setting → Role → Span → List ℕ → ℕ → Field → Checked Expression
own_field_of s role span x id f =
    if is_static f then Ok (plain s.lines span f.ty (constant (field_id id)))
    else if is_absent s.this && not (is_target role) then refused_at Y3 s.lines span x
    else if reads_specification s role (is_of_specification f) then refused_at Y4 s.lines span x
    else Ok (plain s.lines span f.ty (member (implied_this s span) (field_id id)))

abbrev pub name_by : Setting → Around → Span → List ℕ → Meaning → Checked Expression
name_by s a span x (variable i) = variable_of s span i
name_by s a span x (known.local b) = local_of s a span x b
name_by s a span x (known.field id f) = own_field_of s a.role span x id f
name_by s a span x unknown = refused_at N1 s.lines span x

-- a plain name
abbrev pub name_of : Setting → Around → Span → List ℕ → Checked Expression
name_of s a span x = name_by s a span x (meaning_of s a x)

-- ---- behind the name of a class

abbrev pub static_field_by : Setting → Span → ast.Expression → Word → Option (ℕ × Field) → Checked Expression
static_field_by s span whole w (Some f) =
    if is_static f.1 then Ok (plain s.lines span f.1.ty (constant (field_id f.0))) else refused_in Y1 s.lines whole
static_field_by s span whole w None = refused_at N1 s.lines w.span w.text

-- the static field of that name; `whole` is the class, the dot and the name
abbrev pub static_field_of : Setting → Span → ast.Expression → Word → ℕ → Checked Expression
static_field_of s span whole w class = static_field_by s span whole w (field_in s class w.text)

-- ---- behind an expression

abbrev pub field_by : Setting → Role → Span → ast.Expression → Span → Word → Expression → Option (ℕ × Field) → Checked Expression
field_by s role span whole dot w x (Some f) =
    if is_static f.1 then refused_in Y1 s.lines whole
    else if reads_specification s role (is_of_specification f.1) then refused_at Y4 s.lines w.span w.text
    else Ok (checked_at s.lines span dot f.1.ty (member x (field_id f.0)))
field_by s role span whole dot w x None = refused_at N1 s.lines w.span w.text

abbrev pub is_length : Word → Bool
is_length w = bytes_eq w.text (codes "length")

-- the length of an array, which has nothing else behind a dot
abbrev pub length_by : List ℕ → Span → Span → Word → Expression → Checked Expression
length_by lines span dot w x = if is_length w then Ok (length_of lines span dot x) else refused_at N1 lines w.span w.text

abbrev pub member_by : Setting → Role → Span → ast.Expression → ast.Expression → Span → Word → Expression → Ty → Checked Expression
member_by s role span whole e dot w x (ty.Ref c) = field_by s role span whole dot w x (field_in s c.0 w.text)
member_by s role span whole e dot w x (ty.Array element) = length_by s.lines span dot w x
member_by s role span whole e dot w x t = if is_length w then refused_in Y1 s.lines e else refused_at N1 s.lines w.span w.text

-- a field of an object, or the length of an array; `whole` is all of it, and `e` what stands before the dot
abbrev pub member_of : Setting → Role → Span → ast.Expression → ast.Expression → Span → Word → Expression → Checked Expression
member_of s role span whole e dot w x = member_by s role span whole e dot w x (type_of x)
