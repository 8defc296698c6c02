-- Written types, and the values of literals.
use Rattle.std.specs.Prelude.{ℕ, List, nat_le, ℤ, pos, ◌||◌, not, Bool, true, false, Option, Some, None, bytes_eq, codes, if◌then◌else◌}
use Rattle.std.proofs.Math.IntN.{neg_ℤ}
use Rattle.jesc_lexer.specs.Lexemes.{digits_value_of}
use Rattle.jesc_ast.specs.declared.word.TypeTree.{TypeTree}
use Rattle.jesc_ast.specs.Trees.{Expression, number, truth, unary}
use Rattle.jesc_ast.specs.Words.{is_primitive}

abbrev pub is_reference : TypeTree → Bool
is_reference t = t.array || not (is_primitive t.base)

-- the value of a number, as far as there are numbers
abbrev pub number_value : List ℕ → Option ℤ
number_value digits = if nat_le (digits_value_of digits) 9223372036854775808 then Some (pos (digits_value_of digits)) else None

abbrev pub negated : Option ℤ → Option ℤ
negated None = None
negated (Some n) = Some (neg_ℤ n)

-- the value of a number behind a minus sign
abbrev pub value_behind_minus : Expression → Option ℤ
value_behind_minus (number s digits) = negated (number_value digits)
value_behind_minus e = None

-- the value of a literal, a number with or without a minus sign or a truth value, of which true is 1
abbrev pub literal_value : Expression → Option ℤ
literal_value (number s digits) = number_value digits
literal_value (truth s true) = Some (pos 1)
literal_value (truth s false) = Some (pos 0)
literal_value (unary s op e) = if bytes_eq op.text (codes "-") then value_behind_minus e else None
literal_value e = None
