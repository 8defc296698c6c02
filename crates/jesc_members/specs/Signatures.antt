-- Signatures, part by part.
use Rattle.std.specs.Prelude.{ℕ, Bool, List}
use Rattle.jesc_ast.specs.declared.class.ParamTree.{ParamTree}
use Rattle.jesc_members.specs.Methods.{may_be_null, written}

-- the type of a parameter, and whether it may be null
abbrev pub typed : ParamTree → (List ℕ × Bool) × Bool
typed p = (written p.ty, may_be_null p.modifiers)
