-- What the marks of lexemes say in an expression: which begin one, and how tightly they bind.
use Rattle.std.specs.Prelude.{ℕ, ◌+◌, Bool, true, false, ◌&&◌, ◌||◌, not, nat_le}
use Rattle.jesc_jml_grammar.specs.declared.mark.Mark.{Mark}
use Rattle.jesc_jml_grammar.specs.declared.mark.Mark.TheVariants as m

-- an expression may begin with it
abbrev pub opens : Mark → Bool
opens m.Name = true
opens m.Number = true
opens m.True = true
opens m.False = true
opens m.Null = true
opens m.This = true
opens m.New = true
opens m.Super = true
opens m.Result = true
opens m.Old = true
opens m.Fresh = true
opens m.LeftParen = true
opens m.Plus = true
opens m.Minus = true
opens m.Not = true
opens _ = false

-- behind a parenthesised name it makes that a cast
abbrev pub casts : Mark → Bool
casts m.Plus = false
casts m.Minus = false
casts mark = opens mark

-- where all parts bind as tightly as `least`, a prefix or a cast may stand
abbrev pub allows_prefix : ℕ → Bool
allows_prefix least = nat_le least 10

abbrev pub is_prefix_mark : Mark → Bool
is_prefix_mark m.Plus = true
is_prefix_mark m.Minus = true
is_prefix_mark m.Not = true
is_prefix_mark _ = false

-- an expression whose parts bind as tightly as `least` may begin with it
abbrev pub opens_at : ℕ → Mark → Bool
opens_at least mark = opens mark && (allows_prefix least || not (is_prefix_mark mark))

-- how tightly it binds what stands before it; nothing where it does not go on with an expression
abbrev pub binds : Mark → ℕ
binds m.Question = 1
binds m.Iff = 2
binds m.NotIff = 2
binds m.Implies = 3
binds m.Or = 4
binds m.And = 5
binds m.Equal = 6
binds m.Unequal = 6
binds m.Less = 7
binds m.LessEqual = 7
binds m.Greater = 7
binds m.GreaterEqual = 7
binds m.InstanceOf = 7
binds m.Plus = 8
binds m.Minus = 8
binds m.Times = 9
binds m.Quotient = 9
binds m.Remainder = 9
binds m.Dot = 11
binds m.LeftBracket = 12
binds _ = 0

-- the least strength that what stands before it has
abbrev pub needs : Mark → ℕ
needs m.Question = 2
needs m.Implies = 4
needs mark = binds mark

-- the least strength of an operator's right operand
abbrev pub right_of : Mark → ℕ
right_of m.Implies = 3
right_of mark = binds mark + 1

-- whether it goes on with a tree of this strength, where all that binds less tightly than `least` is left
abbrev pub grows : ℕ → Mark → ℕ → Bool
grows strength mark least = nat_le least (binds mark) && nat_le (needs mark) strength

abbrev pub is_type_mark : Mark → Bool
is_type_mark m.Int = true
is_type_mark m.Long = true
is_type_mark m.Boolean = true
is_type_mark m.Name = true
is_type_mark _ = false

abbrev pub is_quantifier_mark : Mark → Bool
is_quantifier_mark m.Forall = true
is_quantifier_mark m.Exists = true
is_quantifier_mark _ = false

abbrev pub is_bound_mark : Mark → Bool
is_bound_mark m.Less = true
is_bound_mark m.LessEqual = true
is_bound_mark _ = false
