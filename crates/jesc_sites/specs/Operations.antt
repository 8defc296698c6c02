-- The rules of operations: which operands they take, and the type of what they make (JLS 15.15 to 15.25).
use Rattle.std.specs.Prelude.{ℕ, not, Bool, Option, Some, None, List, Ok, codes, bytes_eq, if◌then◌else◌}
use Rattle.jesc_text.specs.declared.place.Span.{Span}
use Rattle.jesc_ast.specs.declared.word.Word.{Word}
use Rattle.jesc_ast.specs.Trees as ast
use Rattle.jesc_classes.specs.Answers.{Checked}
use Rattle.jesc_classes.specs.declared.rule.Rule.TheVariants.{Y1}
use Rattle.jesc_operands.specs.Deciding.{are_related, chooses, has_values, is_truth, makes, may_cast, turns}
use Rattle.jesc_operands.specs.Operands.{is_number, is_reference, kind_of}
use Rattle.jesc_operands.specs.declared.kinds.Kind.{Kind}
use Rattle.jesc_operands.specs.declared.kinds.Kind.TheVariants.{Arithmetic, Order, Equality, Logic}
use Rattle.jesc_tree.specs.declared.ops.BinOp.{BinOp}
use Rattle.jesc_tree.specs.declared.ops.BinOp.TheVariants.{Add, Sub, Mul, Div, Rem, Lt, Le, Gt, Ge, Eq, Ne, And, Or, Implies, Iff, NotIff}
use Rattle.jesc_tree.specs.declared.ops.UnOp.{UnOp}
use Rattle.jesc_tree.specs.declared.ops.UnOp.TheVariants.{Minus, Plus, Not}
use Rattle.jesc_tree.specs.declared.ty.Ty.{Ty}
use Rattle.jesc_tree.specs.declared.ty.Ty.TheVariants as ty
use Rattle.jesc_tree.specs.Trees.{Expression, unary, binary, choose, cast, instance_of}
use Rattle.jesc_sites.specs.Parts.{checked_at, plain, refused_in, type_of}
use Rattle.jesc_sites.specs.Sites.{Setting}

-- ---- operators by their signs

abbrev pub prefix_of : List ℕ → UnOp
prefix_of sign = if bytes_eq sign (codes "-") then Minus else if bytes_eq sign (codes "+") then Plus else Not

abbrev pub operator_of : List ℕ → BinOp
operator_of sign =
    if bytes_eq sign (codes "+") then Add
    else if bytes_eq sign (codes "-") then Sub
    else if bytes_eq sign (codes "*") then Mul
    else if bytes_eq sign (codes "/") then Div
    else if bytes_eq sign (codes "%") then Rem
    else if bytes_eq sign (codes "<") then Lt
    else if bytes_eq sign (codes "<=") then Le
    else if bytes_eq sign (codes ">") then Gt
    else if bytes_eq sign (codes ">=") then Ge
    else if bytes_eq sign (codes "==") then Eq
    else if bytes_eq sign (codes "!=") then Ne
    else if bytes_eq sign (codes "&&") then And
    else if bytes_eq sign (codes "||") then Or
    else if bytes_eq sign (codes "==>") then Implies
    else if bytes_eq sign (codes "<==>") then Iff
    else NotIff

-- ---- one operand

-- what is made, or the operand is refused
abbrev pub unary_by : List ℕ → Span → Word → ast.Expression → Expression → Option Ty → Checked Expression
unary_by lines span op e x (Some t) = Ok (checked_at lines span op.span t (unary (prefix_of op.text) x))
unary_by lines span op e x None = refused_in Y1 lines e

abbrev pub unary_of : List ℕ → Span → Word → ast.Expression → Expression → Checked Expression
unary_of lines span op e x = unary_by lines span op e x (turns (prefix_of op.text) (type_of x))

-- ---- two operands

-- a value of this type may stand beside an operator of that kind
abbrev pub takes : Kind → Ty → Bool
takes Arithmetic t = is_number t
takes Order t = is_number t
takes Equality t = has_values t
takes Logic t = is_truth t

-- the first operand whose type doesn't fit its place is refused, and where there is none the whole
abbrev pub mismatch : {A : Type 0} → List ℕ → Bool → Bool → ast.Expression → ast.Expression → ast.Expression → Checked A
mismatch lines first_fits second_fits first second whole =
    if not first_fits then refused_in Y1 lines first else if not second_fits then refused_in Y1 lines second else refused_in Y1 lines whole

abbrev pub binary_by : List ℕ → Span → Word → ast.Expression → ast.Expression → Expression → Expression → Option Ty → Checked Expression
binary_by lines span op a b x y (Some t) = Ok (checked_at lines span op.span t (binary (operator_of op.text) x y))
binary_by lines span op a b x y None =
    mismatch lines (takes (kind_of (operator_of op.text)) (type_of x)) (takes (kind_of (operator_of op.text)) (type_of y)) a b (ast.binary span op a b)

abbrev pub binary_of : Setting → Span → Word → ast.Expression → ast.Expression → Expression → Expression → Checked Expression
binary_of s span op a b x y = binary_by s.lines span op a b x y (makes s.classes (kind_of (operator_of op.text)) (type_of x) (type_of y))

-- ---- a condition and two values

abbrev pub choose_by : List ℕ → Span → Span → ast.Expression → ast.Expression → ast.Expression → Expression → Expression → Expression → Option Ty → Checked Expression
choose_by lines span question c a b t x y (Some made) = Ok (checked_at lines span question made (choose t x y))
choose_by lines span question c a b t x y None = mismatch lines (has_values (type_of x)) (has_values (type_of y)) a b (ast.choose span c question a b)

abbrev pub choose_of : Setting → Span → Span → ast.Expression → ast.Expression → ast.Expression → Expression → Expression → Expression → Checked Expression
choose_of s span question c a b t x y =
    if is_truth (type_of t) then choose_by s.lines span question c a b t x y (chooses s.classes (type_of x) (type_of y)) else refused_in Y1 s.lines c

-- ---- an operand and a type

-- a cast to the type, whose checks stand at its parenthesis
abbrev pub cast_of : Setting → Span → ast.Expression → Ty → Expression → Checked Expression
cast_of s span e t x = if may_cast s.classes (type_of x) t then Ok (plain s.lines span t (cast x)) else refused_in Y1 s.lines e

-- a test for the type; `whole` is all of it as it is written
abbrev pub instance_test_of : Setting → Span → ast.Expression → ast.Expression → Ty → Expression → Checked Expression
instance_test_of s span whole e t x =
    if not (is_reference (type_of x)) then refused_in Y1 s.lines e
    else if are_related s.classes (type_of x) t then Ok (plain s.lines span ty.Bool (instance_of x t))
    else refused_in Y1 s.lines whole
