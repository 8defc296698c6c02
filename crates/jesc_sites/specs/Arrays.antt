-- The rules of arrays: their elements, their lengths, and new ones (JLS 10.4, 10.7, 15.10).
use Rattle.std.specs.Prelude.{ℕ, not, Bool, true, false, List, Ok, codes, if◌then◌else◌}
use Rattle.jesc_text.specs.declared.place.Span.{Span}
use Rattle.jesc_ast.specs.Trees as ast
use Rattle.jesc_classes.specs.Answers.{Checked}
use Rattle.jesc_classes.specs.declared.rule.Rule.TheVariants.{Y1, Y7}
use Rattle.jesc_tree.specs.declared.ty.Elem.{Elem}
use Rattle.jesc_tree.specs.declared.ty.Elem.TheVariants as elem
use Rattle.jesc_tree.specs.declared.ty.Ty.{Ty}
use Rattle.jesc_tree.specs.declared.ty.Ty.TheVariants as ty
use Rattle.jesc_tree.specs.Trees.{Expression, index, new_array, size}
use Rattle.jesc_sites.specs.Parts.{checked_at, plain, refused_at, refused_in, type_of}
use Rattle.jesc_sites.specs.Sites.{Setting}
use Rattle.jesc_sites.specs.declared.site.Role.{Role}
use Rattle.jesc_sites.specs.declared.site.Role.TheVariants.{Whole}

-- the type of an array's elements, as a type
abbrev pub element_type : Elem → Ty
element_type elem.Int = ty.Int
element_type elem.Long = ty.Long
element_type elem.Bool = ty.Bool
element_type (elem.Ref c) = ty.Ref c

abbrev pub is_int : Ty → Bool
is_int ty.Int = true
is_int t = false

abbrev pub index_by : List ℕ → Span → Span → ast.Expression → ast.Expression → Expression → Expression → Ty → Checked Expression
index_by lines span bracket a i x y (ty.Array e) =
    if is_int (type_of y) then Ok (checked_at lines span bracket (element_type e) (index x y)) else refused_in Y1 lines i
index_by lines span bracket a i x y t = refused_in Y1 lines a

-- an element, whose checks stand at the bracket
abbrev pub index_of : List ℕ → Span → Span → ast.Expression → ast.Expression → Expression → Expression → Checked Expression
index_of lines span bracket a i x y = index_by lines span bracket a i x y (type_of x)

-- the length of an array, whose check stands at the dot
abbrev pub length_of : List ℕ → Span → Span → Expression → Expression
length_of lines span dot x = checked_at lines span dot ty.Int (size x)

-- a call or something new stands as the whole right side of what it stands in, and in code alone
abbrev pub may_call : Bool → Role → Bool
may_call true Whole = true
may_call code role = false

-- a new array of such elements
abbrev pub new_array_of : Setting → Role → Span → ast.Expression → Elem → Expression → Checked Expression
new_array_of s role span e element x =
    if not (is_int (type_of x)) then refused_in Y1 s.lines e
    else if may_call s.is_code role then Ok (plain s.lines span (ty.Array element) (new_array x))
    else refused_at Y7 s.lines span (codes "new")
