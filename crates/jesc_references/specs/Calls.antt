-- The rules of calls (JLS 15.12).
use Rattle.std.specs.Prelude.{ℕ, ◌<◌, ◌&&◌, not, Bool, true, false, Option, Some, None, List, [], ◌∷◌, length, Ok, if◌then◌else◌}
use Rattle.std.specs.List.{slice_get}
use Rattle.jesc_text.specs.declared.place.Span.{Span}
use Rattle.jesc_ast.specs.declared.word.Word.{Word}
use Rattle.jesc_ast.specs.Lines.{place_at}
use Rattle.jesc_ast.specs.Trees as ast
use Rattle.jesc_classes.specs.Answers.{Checked, and_then}
use Rattle.jesc_classes.specs.declared.rule.Rule.TheVariants.{N1, Y1, Y3, Y7}
use Rattle.jesc_meanings.specs.Ids.{method_id}
use Rattle.jesc_operands.specs.Deciding.{fits}
use Rattle.jesc_tree.specs.declared.class.Class.{Class}
use Rattle.jesc_tree.specs.declared.class.Method.{Method}
use Rattle.jesc_tree.specs.declared.class.Param.{Param}
use Rattle.jesc_tree.specs.declared.ids.ClassId.{ClassId}
use Rattle.jesc_tree.specs.declared.ty.Ty.{Ty}
use Rattle.jesc_tree.specs.declared.ty.Ty.TheVariants as ty
use Rattle.jesc_tree.specs.Subtypes.{class_id}
use Rattle.jesc_tree.specs.Trees as tree
use Rattle.jesc_tree.specs.Trees.{Expression, Form, expression, expressions_of}
use Rattle.jesc_sites.specs.Arrays.{may_call}
use Rattle.jesc_sites.specs.Parts.{refused_in, type_of}
use Rattle.jesc_sites.specs.Sites.{IsType, Setting}
use Rattle.jesc_sites.specs.declared.site.Role.{Role}
use Rattle.jesc_sites.specs.declared.site.This.{This}
use Rattle.jesc_sites.specs.declared.site.This.TheVariants.{Absent, Guarded, Free}
use Rattle.jesc_references.specs.Fields.{implied_this}
use Rattle.jesc_references.specs.Known.{method_in}
use Rattle.jesc_references.specs.declared.calls.Callee as code_callee
use Rattle.jesc_references.specs.declared.calls.Target as code_target
use Rattle.jesc_tree.specs.declared.expr.CallHow.{CallHow, fold-CallHow}
use Rattle.jesc_tree.specs.Trees.{how_step, node_step, binary_step, call_step, choose_step, expr_step, field_step, index_step, instance_step, new_step, quant_step, unary_step}

-- ---- what is called

-- what stands before a called name: nothing, `super`, a class, or an expression
pub data Target : Type 0 where
  implied : Target
  super : Target
  of_class : ℕ → Target
  on : Expression → Target

abbrev pub class_of_type : Ty → Option ℕ
class_of_type (ty.Ref c) = Some c.0
class_of_type t = None

abbrev pub superclass_of : Option Class → Option ℕ
superclass_of None = None
superclass_of (Some c) = by c.parent
  where
    by : Option ClassId → Option ℕ
    by None = None
    by (Some p) = Some p.0

-- the class in which the name is looked up, where there is one
abbrev pub searched : Setting → Target → Option ℕ
searched s implied = Some s.class
searched s super = superclass_of (slice_get s.classes s.class)
searched s (of_class c) = Some c
searched s (on x) = class_of_type (type_of x)

-- the class, and the method with its id
pub record Callee : Type 0 where
  pub class : ℕ
  pub id : ℕ
  pub method : Method

abbrev pub callee_in : ℕ → Option (ℕ × Method) → Option Callee
callee_in class None = None
callee_in class (Some m) = Some record { class = class; id = m.0; method = m.1 }

abbrev pub callee_by : Setting → List ℕ → ℕ → Option ℕ → Option Callee
callee_by s name count None = None
callee_by s name count (Some class) = callee_in class (method_in s class name count)

-- the method that the name means behind the target for so many arguments
abbrev pub callee : Setting → Target → List ℕ → ℕ → Option Callee
callee s target name count = callee_by s name count (searched s target)

-- ---- the rules on the target

-- a method behind a class is static, one behind an expression is not, and one behind `super` has a body
abbrev pub suits : Target → Method → Bool
suits implied m = true
suits super m = not m.is_static && not m.is_abstract
suits (of_class c) m = m.is_static
suits (on x) m = not m.is_static

abbrev pub is_this_form : Form → Bool
is_this_form tree.this = true
is_this_form form = false

abbrev pub is_this : Expression → Bool
is_this (expression start at dot t form) = is_this_form form

-- the call goes to the own object: `this`, written or implied, or `super`
abbrev pub is_on_this : Target → Method → Bool
is_on_this implied m = not m.is_static
is_on_this super m = true
is_on_this (of_class c) m = false
is_on_this (on x) m = is_this x

-- the own object may be called so: where it is guarded, by private helpers alone
abbrev pub may_be_called : This → Method → Bool
may_be_called Absent m = false
may_be_called Guarded m = m.is_private && m.is_helper
may_be_called Free m = true

-- ---- arguments

-- the first argument that doesn't fit its parameter is refused
abbrev pub argument_fits : List Class → List ℕ → Expression → Param → ast.Expression → Checked (Unit {0}) → Checked (Unit {0})
argument_fits classes lines x p e rest = if fits classes (type_of x) p.ty then rest else refused_in Y1 lines e

abbrev pub arguments_fit : List Class → List ℕ → List Expression → List Param → List ast.Expression → Checked (Unit {0})
arguments_fit classes lines [] ps es = Ok tt
arguments_fit classes lines (x ∷ xs) [] es = Ok tt
arguments_fit classes lines (x ∷ xs) (p ∷ ps) [] = Ok tt
arguments_fit classes lines (x ∷ xs) (p ∷ ps) (e ∷ es) = argument_fits classes lines x p e (arguments_fit classes lines xs ps es)

-- ---- calls

abbrev pub receiver_of : Setting → Span → Target → Method → tree.Receiver
receiver_of s span implied m = if m.is_static then tree.static else tree.on (implied_this s span)
receiver_of s span super m = tree.super
receiver_of s span (of_class c) m = tree.static
receiver_of s span (on x) m = tree.on x

-- a call, whose checks stand at the called name, and that of its receiver at the dot
abbrev pub called : Setting → Span → Span → Word → Target → Callee → List Expression → Expression
called s span dot w target c xs =
    expression (place_at s.lines span) (place_at s.lines w.span) (place_at s.lines dot) c.method.result
    (tree.call (receiver_of s w.span target c.method) (class_id c.class) (method_id c.id) (expressions_of xs))

-- where the arguments fit: the own object may be called so, and a call may stand there
abbrev pub call_stands : Setting → Role → ast.Expression → Target → Method → Checked (Unit {0})
call_stands s role whole target m =
    if is_on_this target m && not (may_be_called s.this m) then refused_in Y3 s.lines whole
    else if not (may_call s.is_code role) then refused_in Y7 s.lines whole
    else Ok tt

-- the method suits what stands before it, and then the arguments fit
abbrev pub may_be_used : Setting → Role → ast.Expression → Target → List ast.Expression → List Expression → Method → Checked (Unit {0})
may_be_used s role whole target es xs m =
    if not (suits target m) then refused_in Y1 s.lines whole
    else and_then (arguments_fit s.classes s.lines xs m.params es) (λ _. call_stands s role whole target m)

abbrev pub used_by : Setting → Role → ast.Expression → Target → List ast.Expression → List Expression → Option Callee → Checked Callee
used_by s role whole target es xs None = refused_in N1 s.lines whole
used_by s role whole target es xs (Some c) = and_then (may_be_used s role whole target es xs c.method) (λ _. Ok c)

-- the method that is called; `whole` is all of the call, with arguments `es`, which are `xs` typed
abbrev pub callee_of : Setting → Role → ast.Expression → Word → Target → List ast.Expression → List Expression → Checked Callee
callee_of s role whole w target es xs = used_by s role whole target es xs (callee s target w.text (length xs))

-- a call of that name
abbrev pub call_of : Setting → Role → Span → ast.Expression → Span → Word → Target → List ast.Expression → List Expression → Checked Expression
call_of s role span whole dot w target es xs = and_then (callee_of s role whole w target es xs) (λ c. Ok (called s span dot w target c xs))

-- ---- how the code's values are seen

abbrev pub seen_target : code_target.Target → Target
seen_target code_target.TheVariants.Implied = implied
seen_target code_target.TheVariants.Super = super
seen_target (code_target.TheVariants.Class c) = of_class c.0
seen_target (code_target.TheVariants.On x) = on (tree.view x)

-- what a target speaks of is there
abbrev pub IsThere : Setting → code_target.Target → Type 0
IsThere s code_target.TheVariants.Implied = Unit {0}
IsThere s code_target.TheVariants.Super = Unit {0}
IsThere s (code_target.TheVariants.Class c) = c.0 < length s.classes
IsThere s (code_target.TheVariants.On x) = IsType s x.ty

abbrev pub seen_callee : code_callee.Callee → Callee
seen_callee c = record { class = c.class.0; id = c.id.0; method = c.method.now }

abbrev pub how_view : CallHow → tree.Receiver
how_view = fold-CallHow tree.Receiver Form Form Form Form Expression Form Form Form Form Form Form how_step node_step binary_step call_step choose_step expr_step field_step index_step instance_step new_step quant_step unary_step
