-- Types of expressions: what the value seen has, and which of them are in range.
use Rattle.std.specs.Prelude.{List, Result, Ok, Err, IfOk}
use Rattle.std.specs.List.{All}
use Rattle.std.proofs.Common.{◌≡◌, sym, subst}
use Rattle.jesc_tree.specs.declared.expr.TExpr.{TExpr, fold_out-TExpr}
use Rattle.jesc_tree.specs.declared.ty.Ty.{Ty}
use Rattle.jesc_tree.specs.Ids.{Id, ty_ids}
use Rattle.jesc_tree.specs.Programs.{IsInRange}
use Rattle.jesc_tree.specs.Trees.{view}
use Rattle.jesc_sites.specs.Parts.{type_of}
use Rattle.jesc_sites.specs.Sites.{IsType, Setting}

-- the type of the expression seen is that of the program's tree
pub seen_type : (e : TExpr) → type_of (view e) ≡ e.ty
seen_type e = simp fold_out-TExpr

-- a type with these ids is in range where they are: with none, or with those of a type that is
pub is_type_by_ids : (s : Setting) (t : Ty) (ids : List Id) → ty_ids t ≡ ids → All (IsInRange s.classes s.fields s.methods) ids → IsType s t
is_type_by_ids s t ids h within = subst (All (IsInRange s.classes s.fields s.methods)) (sym h) within

-- the same of what a rule makes
pub made_by_ids : {E : Type 0} (s : Setting) (r : Result TExpr E) (ids : List Id) → IfOk r (λ e. ty_ids e.ty ≡ ids) → All (IsInRange s.classes s.fields s.methods) ids → IfOk r (λ e. IsType s e.ty)
made_by_ids s (Ok e) ids h within = is_type_by_ids s e.ty ids h within
made_by_ids s (Err x) ids h within = h
