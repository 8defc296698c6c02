-- Types as they are written (JLS 4.2, 4.3).
use Rattle.std.specs.Prelude.{ℕ, Option, Some, None, option_map, List, Ok, codes, bytes_eq, if◌then◌else◌}
use Rattle.jesc_ast.specs.declared.word.TypeTree.{TypeTree}
use Rattle.jesc_ast.specs.declared.word.Word.{Word}
use Rattle.jesc_classes.specs.Answers.{Checked}
use Rattle.jesc_classes.specs.declared.rule.Rule.TheVariants.{N1}
use Rattle.jesc_meanings.specs.Meanings.{class_named}
use Rattle.jesc_tree.specs.declared.class.Class.{Class}
use Rattle.jesc_tree.specs.declared.ty.Elem.{Elem}
use Rattle.jesc_tree.specs.declared.ty.Elem.TheVariants as elem
use Rattle.jesc_tree.specs.declared.ty.Ty.{Ty}
use Rattle.jesc_tree.specs.declared.ty.Ty.TheVariants as ty
use Rattle.jesc_tree.specs.Subtypes.{class_id}
use Rattle.jesc_sites.specs.Arrays.{element_type}
use Rattle.jesc_sites.specs.Parts.{refused_at}
use Rattle.jesc_sites.specs.Sites.{Setting}

-- a primitive type or a class of that name, as what an array may hold
abbrev pub base_named : List Class → List ℕ → Option Elem
base_named classes text =
    if bytes_eq text (codes "int") then Some elem.Int
    else if bytes_eq text (codes "long") then Some elem.Long
    else if bytes_eq text (codes "boolean") then Some elem.Bool
    else option_map (λ c. elem.Ref (class_id c)) (class_named classes text)

abbrev pub type_by : List ℕ → TypeTree → Option Elem → Checked Ty
type_by lines t (Some e) = Ok (if t.array then ty.Array e else element_type e)
type_by lines t None = refused_at N1 lines t.span t.base

-- the type, whose base is a primitive type or a known class
abbrev pub written_type : Setting → TypeTree → Checked Ty
written_type s t = type_by s.lines t (base_named s.classes t.base)

abbrev pub element_by : List ℕ → Word → Option Elem → Checked Elem
element_by lines w (Some e) = Ok e
element_by lines w None = refused_at N1 lines w.span w.text

-- what a new array holds
abbrev pub written_element : Setting → Word → Checked Elem
written_element s w = element_by s.lines w (base_named s.classes w.text)
