-- The rules of what stands in specifications alone: `\old`, `\fresh` and quantifiers (JML Reference Manual 12.4).
use Rattle.std.specs.Prelude.{ℕ, ◌+◌, not, Bool, true, List, [], ◌∷◌, ◌++◌, length, Ok, codes, if◌then◌else◌}
use Rattle.jesc_text.specs.declared.place.Span.{Span}
use Rattle.jesc_ast.specs.Trees as ast
use Rattle.jesc_classes.specs.Answers.{Checked}
use Rattle.jesc_classes.specs.declared.rule.Rule.TheVariants.{Y1, Y6}
use Rattle.jesc_operands.specs.Deciding.{has_values, is_truth}
use Rattle.jesc_operands.specs.Operands.{is_reference}
use Rattle.jesc_tree.specs.declared.ids.LocalId.{LocalId}
use Rattle.jesc_tree.specs.declared.ty.Ty.TheVariants as ty
use Rattle.jesc_tree.specs.Trees.{Expression, fresh, old, quantifier}
use Rattle.jesc_sites.specs.Arrays.{is_int}
use Rattle.jesc_sites.specs.Parts.{plain, refused_at, refused_in, type_of}
use Rattle.jesc_sites.specs.Sites.{Around, Setting}
use Rattle.jesc_sites.specs.declared.site.Role.TheVariants.{Operand}

-- ---- the past

abbrev pub in_past : Around → Around
in_past a = record { variables = a.variables; in_old = true; role = Operand }

abbrev pub old_of : Setting → Span → ast.Expression → Expression → Checked Expression
old_of s span e x =
    if not (has_values (type_of x)) then refused_in Y1 s.lines e
    else if s.has_past then Ok (plain s.lines span (type_of x) (old x))
    else refused_at Y6 s.lines span (codes "\\old")

abbrev pub fresh_of : Setting → Span → ast.Expression → Expression → Checked Expression
fresh_of s span e x =
    if not (is_reference (type_of x)) then refused_in Y1 s.lines e
    else if s.has_past then Ok (plain s.lines span ty.Bool (fresh x))
    else refused_at Y6 s.lines span (codes "\\fresh")

-- ---- quantifiers

abbrev pub local_id : ℕ → LocalId
local_id n = record { 0 = n }

-- the number of a quantifier's variable: it is one more local, behind the variables around it
abbrev pub variable_id : Setting → List (List ℕ) → LocalId
variable_id s variables = local_id (length s.locals + length variables)

-- the body of a quantifier with that variable
abbrev pub in_body : List ℕ → Around → Around
in_body name a = record { variables = a.variables ++ name ∷ []; in_old = a.in_old; role = Operand }

abbrev pub quantifier_of : Setting → List (List ℕ) → Span → Bool → ast.Expression → Bool → ast.Expression → Bool → ast.Expression → Expression → Expression → Expression → Checked Expression
quantifier_of s variables span universal low low_strict high high_strict body l h b =
    if not (is_int (type_of l)) then refused_in Y1 s.lines low
    else if not (is_int (type_of h)) then refused_in Y1 s.lines high
    else if not (is_truth (type_of b)) then refused_in Y1 s.lines body
    else Ok (plain s.lines span ty.Bool (quantifier universal (variable_id s variables) l low_strict h high_strict b))
