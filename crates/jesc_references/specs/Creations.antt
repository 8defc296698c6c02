-- The rules of new objects (JLS 15.9).
use Rattle.std.specs.Prelude.{ℕ, ◌||◌, not, Option, Some, None, List, length, Ok, codes, if◌then◌else◌}
use Rattle.jesc_text.specs.declared.place.Span.{Span}
use Rattle.jesc_ast.specs.declared.word.Word.{Word}
use Rattle.jesc_ast.specs.Trees as ast
use Rattle.jesc_classes.specs.Answers.{Checked, and_then}
use Rattle.jesc_classes.specs.declared.rule.Rule.TheVariants.{N1, Y1, Y7}
use Rattle.jesc_meanings.specs.Ids.{method_id}
use Rattle.jesc_meanings.specs.Meanings.{class_named}
use Rattle.jesc_tree.specs.declared.class.Class.{Class}
use Rattle.jesc_tree.specs.declared.class.Method.{Method}
use Rattle.jesc_tree.specs.declared.ty.Ty.TheVariants as ty
use Rattle.jesc_tree.specs.Subtypes.{class_id}
use Rattle.jesc_tree.specs.Trees.{Expression, expressions_of, new_object}
use Rattle.jesc_sites.specs.Arrays.{may_call}
use Rattle.jesc_sites.specs.Parts.{plain, refused_at}
use Rattle.jesc_sites.specs.Sites.{Setting}
use Rattle.jesc_sites.specs.declared.site.Role.{Role}
use Rattle.jesc_references.specs.Calls.{arguments_fit}
use Rattle.jesc_references.specs.Known.{constructor_in, with_id}

abbrev pub made_class_by : Setting → Word → Option (ℕ × Class) → Checked ℕ
made_class_by s w None = refused_at N1 s.lines w.span w.text
made_class_by s w (Some c) = if c.1.is_abstract || c.1.is_interface then refused_at Y1 s.lines w.span w.text else Ok c.0

-- the class of which there are objects; it is looked at before the arguments
abbrev pub made_class : Setting → Word → Checked ℕ
made_class s w = made_class_by s w (with_id s.classes (class_named s.classes w.text))

abbrev pub new_object_by : Setting → Role → Span → ℕ → List ast.Expression → List Expression → Option (ℕ × Method) → Checked Expression
new_object_by s role span class es xs None = refused_at N1 s.lines span (codes "new")
new_object_by s role span class es xs (Some m) =
    and_then (arguments_fit s.classes s.lines xs m.1.params es) (λ _.
    if not (may_call s.is_code role) then refused_at Y7 s.lines span (codes "new")
    else Ok (plain s.lines span (ty.Ref (class_id class)) (new_object (method_id m.0) (expressions_of xs))))

-- a new object of the class, made with arguments `es`, which are `xs` typed
abbrev pub new_object_of : Setting → Role → Span → ℕ → List ast.Expression → List Expression → Checked Expression
new_object_of s role span class es xs = new_object_by s role span class es xs (constructor_in s class (length xs))
