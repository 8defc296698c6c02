-- How tightly a tree holds together, and which marks go on at its right edge.
use Rattle.std.specs.Prelude.{ℕ, Bool, true, false, ◌&&◌, ◌||◌, not, List}
use Rattle.jesc_ast.specs.Trees.{Expression, name, paren, member, unary, binary, choose, cast, instance_of, new_array}
use Rattle.jesc_jml_grammar.specs.declared.mark.Mark.{Mark}
use Rattle.jesc_jml_grammar.specs.declared.mark.Mark.TheVariants as m
use Rattle.jesc_jml_grammar.specs.Marks.{sign_mark}
use Rattle.jesc_jml_grammar.specs.Steps.{same_mark}
use Rattle.jesc_jml_grammar.specs.Reading.{binds, right_of, grows, casts, allows_prefix}

-- the mark of an operator's text
abbrev pub operator_mark : List ℕ → Mark
operator_mark = sign_mark true

abbrev pub strength : Expression → ℕ
strength (unary s op e) = 10
strength (binary s op a b) = binds (operator_mark op.text)
strength (choose s c question a b) = 1
strength (cast s t e) = 10
strength (instance_of s e t) = 7
strength (new_array s w e) = 11
strength _ = 12

-- the mark goes on with what stands at the tree's right edge, where the tree stands where all that binds less tightly
-- than `least` is left
abbrev pub goes_inside : ℕ → Expression → Mark → Bool
goes_inside least (name s x) mark = same_mark mark m.LeftParen
goes_inside least (member s e dot w) mark = same_mark mark m.LeftParen
goes_inside least (paren s (name t x)) mark = casts mark && allows_prefix least
goes_inside least (unary s op e) mark = grows (strength e) mark 10 || goes_inside 10 e mark
goes_inside least (binary s op a b) mark =
    let right = right_of (operator_mark op.text) in grows (strength b) mark right || goes_inside right b mark
goes_inside least (choose s c question a b) mark = grows (strength b) mark 1 || goes_inside 1 b mark
goes_inside least (cast s t e) mark = grows (strength e) mark 10 || goes_inside 10 e mark
goes_inside least (instance_of s e t) mark = not t.array && same_mark mark m.LeftBracket
goes_inside least _ mark = false

-- the mark goes on with the tree
abbrev pub goes_on : ℕ → Expression → Mark → Bool
goes_on least e mark = grows (strength e) mark least || goes_inside least e mark
