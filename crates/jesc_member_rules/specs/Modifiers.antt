-- Which modifiers may stand on a member or parameter.
use Rattle.std.specs.Prelude.{ℕ, ℤ, ◌&&◌, ◌||◌, not, Bool, true, false, Option, Some, None, List, [], ◌∷◌, ◌++◌, codes}
use Rattle.std.specs.List.{list_any}
use Rattle.jesc_ast.specs.declared.word.Word.{Word}
use Rattle.jesc_ast.specs.declared.word.TypeTree.{TypeTree}
use Rattle.jesc_ast.specs.declared.class.FieldTree.{FieldTree}
use Rattle.jesc_ast.specs.declared.class.MethodTree.{MethodTree}
use Rattle.jesc_ast.specs.declared.class.ParamTree.{ParamTree}
use Rattle.jesc_ast.specs.Trees.{Expression, optional_view}
use Rattle.jesc_ast.specs.Words.{is_one_of}
use Rattle.jesc_classes.specs.Headings.{is_word}
use Rattle.jesc_members.specs.Fields.{has}
use Rattle.jesc_members.specs.Methods.{is_static, is_private}
use Rattle.jesc_member_rules.specs.Types.{is_reference, literal_value}

-- what the modifiers stand on; a field of the specification is marked ghost or model
pub data Bearer : Type 0 where
  java_field : FieldTree → Bearer
  spec_field : FieldTree → Bearer
  method : MethodTree → Bearer
  constructor_of : Bearer
  parameter : ParamTree → Bearer

abbrev pub visibilities : List (List ℕ)
visibilities = codes "public" ∷ codes "protected" ∷ codes "private" ∷ []

abbrev pub nullities : List (List ℕ)
nullities = codes "nullable" ∷ codes "non_null" ∷ []

abbrev pub spec_visibilities : List (List ℕ)
spec_visibilities = codes "spec_public" ∷ codes "spec_protected" ∷ []

abbrev pub allowed_on : Bearer → List (List ℕ)
allowed_on (java_field f) = codes "static" ∷ codes "final" ∷ codes "instance" ∷ (visibilities ++ nullities ++ spec_visibilities)
allowed_on (spec_field f) = codes "ghost" ∷ codes "model" ∷ codes "instance" ∷ (visibilities ++ nullities)
allowed_on (method m) = codes "static" ∷ codes "final" ∷ codes "abstract" ∷ codes "Override" ∷ codes "pure" ∷ codes "helper" ∷ (visibilities ++ nullities ++ spec_visibilities)
allowed_on constructor_of = codes "pure" ∷ (visibilities ++ spec_visibilities)
allowed_on (parameter p) = codes "final" ∷ nullities

abbrev pub is_some_reference : Option TypeTree → Bool
is_some_reference None = false
is_some_reference (Some t) = is_reference t

-- null may or may not stand in a reference
abbrev pub bears_reference : Bearer → Bool
bears_reference (java_field f) = is_reference f.ty
bears_reference (spec_field f) = is_reference f.ty
bears_reference (method m) = is_some_reference m.result
bears_reference constructor_of = false
bears_reference (parameter p) = is_reference p.ty

abbrev pub is_there : {X : Type 0} → Option X → Bool
is_there None = false
is_there (Some x) = true

abbrev pub optional_value : Option Expression → Option ℤ
optional_value None = None
optional_value (Some e) = literal_value e

-- a static field is final, of a primitive type, and has a literal for its value
abbrev pub may_be_static : Bearer → Bool
may_be_static (java_field f) = has (codes "final") f.modifiers && (not (is_reference f.ty) && is_there (optional_value (optional_view f.value)))
may_be_static (spec_field f) = false
may_be_static (method m) = true
may_be_static constructor_of = false
may_be_static (parameter p) = false

-- a helper is a private instance method or a static method
abbrev pub may_be_helper : Bearer → Bool
may_be_helper (java_field f) = false
may_be_helper (spec_field f) = false
may_be_helper (method m) = is_private m || is_static m
may_be_helper constructor_of = false
may_be_helper (parameter p) = false

abbrev pub implies : Bool → Bool → Bool
implies a b = not a || b

-- whether the word may stand behind these modifiers: it is allowed there, stands there for the first time, `nullable` or
-- `non_null` stands alone and on a reference type, `static` and `helper` where they may
abbrev pub modifier_stands : Bearer → List Word → Word → Bool
modifier_stands on before w =
    is_one_of (allowed_on on) w.text
    && (not (has w.text before)
    && (implies (is_one_of nullities w.text) (bears_reference on && not (list_any (λ b. is_one_of nullities b.text) before))
    && (implies (is_word (codes "static") w) (may_be_static on)
    && implies (is_word (codes "helper") w) (may_be_helper on))))
