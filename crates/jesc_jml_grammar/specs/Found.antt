-- What the parser of expressions reads.
use Rattle.std.specs.Prelude.{ℕ, ◌+◌, max, Bool, List, [], ◌∷◌, ◌++◌}
use Rattle.jesc_text.specs.declared.place.Span.{Span}
use Rattle.jesc_ast.specs.declared.word.Word.{Word}
use Rattle.jesc_ast.specs.Lexemes.{Lexeme, join}
use Rattle.jesc_ast.specs.Trees.{Expression, name, paren, call, new_object, quantifier, Receiver, expressions_of}

pub record Parsed : Type 0 where
  pub tree : Expression
  pub depth : ℕ
  pub strength : ℕ

pub record Listed : Type 0 where
  pub trees : List Expression
  pub depth : ℕ

-- the bounds of a quantifier's variable, and whether they are left out
pub record Bounds : Type 0 where
  pub low : Parsed
  pub low_strict : Bool
  pub high : Parsed
  pub high_strict : Bool

-- how far an expression was read before: not at all, its first name, or a name and a bracket behind it
pub data Start : Type 0 where
  at_first : Start
  behind_name : Lexeme → Start
  behind_bracket : Lexeme → Lexeme → Start

abbrev pub word_of : Lexeme → Word
word_of x = record { text = x.text; note = x.note; span = x.span }

abbrev pub leaf : Expression → Parsed
leaf e = record { tree = e; depth = 1; strength = 12 }

abbrev pub over : ℕ → Parsed → Expression → Parsed
over strength a e = record { tree = e; depth = a.depth + 1; strength = strength }

abbrev pub over_two : ℕ → Parsed → Parsed → Expression → Parsed
over_two strength a b e = record { tree = e; depth = max a.depth b.depth + 1; strength = strength }

abbrev pub over_three : ℕ → Parsed → Parsed → Parsed → Expression → Parsed
over_three strength a b c e = record { tree = e; depth = max (max a.depth b.depth) c.depth + 1; strength = strength }

-- a name in parentheses
abbrev pub lone_name : Lexeme → Lexeme → Lexeme → Parsed
lone_name p x q = record { tree = paren (join p.span q.span) (name x.span x.text); depth = 2; strength = 12 }

abbrev pub nothing : Listed
nothing = record { trees = []; depth = 0 }

abbrev pub with_last : Listed → Parsed → Listed
with_last es e = record { trees = es.trees ++ e.tree ∷ []; depth = max es.depth e.depth }

abbrev pub call_of : Span → Receiver → ℕ → Lexeme → Listed → Lexeme → Parsed
call_of first receiver depth x es q = record {
  tree = call (join first q.span) receiver (word_of x) (expressions_of es.trees);
  depth = max depth es.depth + 1;
  strength = 12;
}

abbrev pub object_of : Lexeme → Lexeme → Listed → Lexeme → Parsed
object_of r x es q = record {
  tree = new_object (join r.span q.span) (word_of x) (expressions_of es.trees);
  depth = es.depth + 1;
  strength = 12;
}

abbrev pub quantifier_of : Span → Bool → Lexeme → Bounds → Parsed → Parsed
quantifier_of span all x b e =
    over_three 12 b.low b.high e (quantifier span all (word_of x) b.low.tree b.low_strict b.high.tree b.high_strict e.tree)
