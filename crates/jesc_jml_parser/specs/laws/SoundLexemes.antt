-- What lexemes of some marks are to the grammar: operators, prefixes, words of types, and what makes a cast.
use Rattle.std.proofs.Common.{◌≡◌, ℕ, ◌≤◌, Bool, true, false, List, [], ◌∷◌, refl, sym, ap, ◌∙◌, arith}
use Rattle.std.proofs.lemmas.Bool.{and_parts}
use Rattle.std.proofs.lemmas.Slice.Eq.{bytes_eq-Decides}
use Rattle.std.specs.Prelude.{IsTrue, bytes_eq, codes, ◌||◌, not}
use Rattle.jesc_ast.specs.Lexemes.{Lexeme, chosen_word, chosen_backslash, chosen_sign}
use Rattle.jesc_ast.specs.Words.{is_name, is_primitive, is_type_word}
use Rattle.jesc_ast.specs.Expressions.{IsOperator, is_equivalence, is_inequivalence, is_implication, is_or, is_and, is_equal, is_unequal, is_less, is_less_equal, is_greater, is_greater_equal, is_plus, is_minus, is_times, is_quotient, is_remainder, IsPrefix, is_negation, is_plus_sign, is_not, IsBound, is_strict, is_weak, IsQuantifier, is_forall, is_exists, is_cast_by, Spells, is_number, is_true, is_false, is_null, is_this, is_outcome}
use Rattle.jesc_jml_grammar.specs.declared.mark.Mark.{Mark}
use Rattle.jesc_jml_grammar.specs.declared.mark.Mark.TheVariants as m
use Rattle.jesc_jml_grammar.specs.Marks.{lexeme_mark}
use Rattle.jesc_jml_grammar.specs.Steps.{Parser, same_mark, is_name_again}
use Rattle.jesc_jml_grammar.specs.Reading.{Parsed, Start, casts, binds, needs, right_of, is_prefix_mark, is_type_mark, is_quantifier_mark, is_bound_mark, literal_of}
use Rattle.jesc_jml_parser.specs.laws.Edges.{operator_mark}
use Rattle.jesc_jml_parser.specs.laws.SoundMarks.{marked, same_is}

-- ---- operators

-- a mark that goes on with an expression by an operator and an operand behind it
abbrev pub is_operator_mark : Mark → Bool
is_operator_mark m.Plus = true
is_operator_mark m.Minus = true
is_operator_mark m.Times = true
is_operator_mark m.Quotient = true
is_operator_mark m.Remainder = true
is_operator_mark m.Less = true
is_operator_mark m.LessEqual = true
is_operator_mark m.Greater = true
is_operator_mark m.GreaterEqual = true
is_operator_mark m.Equal = true
is_operator_mark m.Unequal = true
is_operator_mark m.And = true
is_operator_mark m.Or = true
is_operator_mark m.Implies = true
is_operator_mark m.Iff = true
is_operator_mark m.NotIff = true
is_operator_mark _ = false

pub record Operates (note : Bool) (mark : Mark) (x : Lexeme) : Type 0 where
  pub sign : x ≡ chosen_sign note x.text x.span
  pub operator : IsOperator note x.text (binds mark) (needs mark) (right_of mark)
  pub same : binds (operator_mark x.text) ≡ binds mark
  pub small : right_of mark ≤ 11
  pub some : 1 ≤ right_of mark

pub operates : (note : Bool) (mark : Mark) → is_operator_mark mark ≡ true → (x : Lexeme) → lexeme_mark note x ≡ mark → Operates note mark x
operates note m.Plus is x e = let at = marked note m.Plus x e in record { sign = rw at refl; operator = rw at (is_plus note); same = rw at refl; small = omega arith; some = omega arith }
operates note m.Minus is x e = let at = marked note m.Minus x e in record { sign = rw at refl; operator = rw at (is_minus note); same = rw at refl; small = omega arith; some = omega arith }
operates note m.Times is x e = let at = marked note m.Times x e in record { sign = rw at refl; operator = rw at (is_times note); same = rw at refl; small = omega arith; some = omega arith }
operates note m.Quotient is x e = let at = marked note m.Quotient x e in record { sign = rw at refl; operator = rw at (is_quotient note); same = rw at refl; small = omega arith; some = omega arith }
operates note m.Remainder is x e = let at = marked note m.Remainder x e in record { sign = rw at refl; operator = rw at (is_remainder note); same = rw at refl; small = omega arith; some = omega arith }
operates note m.Less is x e = let at = marked note m.Less x e in record { sign = rw at refl; operator = rw at (is_less note); same = rw at refl; small = omega arith; some = omega arith }
operates note m.LessEqual is x e = let at = marked note m.LessEqual x e in record { sign = rw at refl; operator = rw at (is_less_equal note); same = rw at refl; small = omega arith; some = omega arith }
operates note m.Greater is x e = let at = marked note m.Greater x e in record { sign = rw at refl; operator = rw at (is_greater note); same = rw at refl; small = omega arith; some = omega arith }
operates note m.GreaterEqual is x e = let at = marked note m.GreaterEqual x e in record { sign = rw at refl; operator = rw at (is_greater_equal note); same = rw at refl; small = omega arith; some = omega arith }
operates note m.Equal is x e = let at = marked note m.Equal x e in record { sign = rw at refl; operator = rw at (is_equal note); same = rw at refl; small = omega arith; some = omega arith }
operates note m.Unequal is x e = let at = marked note m.Unequal x e in record { sign = rw at refl; operator = rw at (is_unequal note); same = rw at refl; small = omega arith; some = omega arith }
operates note m.And is x e = let at = marked note m.And x e in record { sign = rw at refl; operator = rw at (is_and note); same = rw at refl; small = omega arith; some = omega arith }
operates note m.Or is x e = let at = marked note m.Or x e in record { sign = rw at refl; operator = rw at (is_or note); same = rw at refl; small = omega arith; some = omega arith }
operates note m.Implies is x e = let at = marked note m.Implies x e in record { sign = rw at.1 refl; operator = rw (at.1, at.0) is_implication; same = rw at.1 refl; small = omega arith; some = omega arith }
operates note m.Iff is x e = let at = marked note m.Iff x e in record { sign = rw at.1 refl; operator = rw (at.1, at.0) is_equivalence; same = rw at.1 refl; small = omega arith; some = omega arith }
operates note m.NotIff is x e = let at = marked note m.NotIff x e in record { sign = rw at.1 refl; operator = rw (at.1, at.0) is_inequivalence; same = rw at.1 refl; small = omega arith; some = omega arith }
operates note _ is x e = absurd cc

pub record Prefixes (note : Bool) (x : Lexeme) : Type 0 where
  pub sign : x ≡ chosen_sign note x.text x.span
  pub prefix : IsPrefix x.text

pub prefixes : (note : Bool) (mark : Mark) → is_prefix_mark mark ≡ true → (x : Lexeme) → lexeme_mark note x ≡ mark → Prefixes note x
prefixes note m.Plus is x e = let at = marked note m.Plus x e in record { sign = rw at refl; prefix = rw at is_plus_sign }
prefixes note m.Minus is x e = let at = marked note m.Minus x e in record { sign = rw at refl; prefix = rw at is_negation }
prefixes note m.Not is x e = let at = marked note m.Not x e in record { sign = rw at refl; prefix = rw at is_not }
prefixes note _ is x e = absurd cc

-- ---- quantifiers

pub record Quantifies (note all : Bool) (x : Lexeme) : Type 0 where
  pub side : IsTrue note
  pub at : x ≡ chosen_backslash note x.text x.span
  pub quantifier : IsQuantifier x.text all

pub quantifies : (note : Bool) (mark : Mark) → is_quantifier_mark mark ≡ true → (x : Lexeme) → lexeme_mark note x ≡ mark → Quantifies note (same_mark mark m.Forall) x
unfolding same_mark
quantifies note m.Forall is x e = let at = marked note m.Forall x e in record { side = at.0; at = rw at.1 refl; quantifier = rw at.1 is_forall }
quantifies note m.Exists is x e = let at = marked note m.Exists x e in record { side = at.0; at = rw at.1 refl; quantifier = rw at.1 is_exists }
quantifies note _ is x e = absurd cc

pub record Bounding (note strict : Bool) (x : Lexeme) : Type 0 where
  pub sign : x ≡ chosen_sign note x.text x.span
  pub bound : IsBound x.text strict

pub bounding : (note : Bool) (mark : Mark) → is_bound_mark mark ≡ true → (x : Lexeme) → lexeme_mark note x ≡ mark → Bounding note (same_mark mark m.Less) x
unfolding same_mark
bounding note m.Less is x e = let at = marked note m.Less x e in record { sign = rw at refl; bound = rw at is_strict }
bounding note m.LessEqual is x e = let at = marked note m.LessEqual x e in record { sign = rw at refl; bound = rw at is_weak }
bounding note _ is x e = absurd cc

pub name_again : (note : Bool) (text : List ℕ) (x : Lexeme) (xs : List Lexeme) → is_name_again note text (x ∷ xs) ≡ true
    → (lexeme_mark note x ≡ m.Name) × (x.text ≡ text)
name_again note text x xs e =
    let both = and_parts (same_mark (lexeme_mark note x) m.Name) (bytes_eq x.text text) e in
    (same_is (lexeme_mark note x) m.Name both.0, (bytes_eq-Decides x.text text).0 both.1)

-- ---- types

pub record Typed (note : Bool) (x : Lexeme) : Type 0 where
  pub at : x ≡ chosen_word note x.text x.span
  pub typed : IsTrue (is_type_word x.text)

or_right : (a b : Bool) → b ≡ true → (a || b) ≡ true
or_right true b e = refl
or_right false b e = e

pub typed : (note : Bool) (mark : Mark) → is_type_mark mark ≡ true → (x : Lexeme) → lexeme_mark note x ≡ mark → Typed note x
typed note m.Int is x e = let at = marked note m.Int x e in record { at = rw at refl; typed = rw at refl }
typed note m.Long is x e = let at = marked note m.Long x e in record { at = rw at refl; typed = rw at refl }
typed note m.Boolean is x e = let at = marked note m.Boolean x e in record { at = rw at refl; typed = rw at refl }
typed note m.Name is x e = let at = marked note m.Name x e in record { at = at.0; typed = or_right (is_primitive x.text) (is_name x.text) at.1 }
typed note _ is x e = absurd cc

-- a word of a type that is no name
abbrev pub is_primitive_mark : Mark → Bool
is_primitive_mark m.Int = true
is_primitive_mark m.Long = true
is_primitive_mark m.Boolean = true
is_primitive_mark _ = false

pub primitive : (note : Bool) (mark : Mark) → is_primitive_mark mark ≡ true → (x : Lexeme) → lexeme_mark note x ≡ mark → IsTrue (is_primitive x.text)
primitive note m.Int is x e = rw (marked note m.Int x e) refl
primitive note m.Long is x e = rw (marked note m.Long x e) refl
primitive note m.Boolean is x e = rw (marked note m.Boolean x e) refl
primitive note _ is x e = absurd cc

-- ---- casts

not_instance : (text : List ℕ) → is_name text ≡ true → (b : Bool) → bytes_eq text (codes "instanceof") ≡ b → not b ≡ true
not_instance text named true e =
    let no : is_name (codes "instanceof") ≡ true = ap is_name (sym ((bytes_eq-Decides text (codes "instanceof")).0 e)) ∙ named in
    absurd cc
not_instance text named false e = refl

-- behind a parenthesised name it makes that a cast
pub casting : (note : Bool) (mark : Mark) → casts mark ≡ true → (x : Lexeme) → lexeme_mark note x ≡ mark → IsTrue (is_cast_by x.kind x.text)
casting note m.Name is x e = let at = marked note m.Name x e in rw at.0 (not_instance x.text at.1 (bytes_eq x.text (codes "instanceof")) refl)
casting note m.Number is x e = rw (marked note m.Number x e) refl
casting note m.True is x e = rw (marked note m.True x e) refl
casting note m.False is x e = rw (marked note m.False x e) refl
casting note m.Null is x e = rw (marked note m.Null x e) refl
casting note m.This is x e = rw (marked note m.This x e) refl
casting note m.New is x e = rw (marked note m.New x e) refl
casting note m.Super is x e = rw (marked note m.Super x e) refl
casting note m.Result is x e = rw (marked note m.Result x e).1 refl
casting note m.Old is x e = rw (marked note m.Old x e).1 refl
casting note m.Fresh is x e = rw (marked note m.Fresh x e).1 refl
casting note m.LeftParen is x e = rw (marked note m.LeftParen x e) refl
casting note m.Not is x e = rw (marked note m.Not x e) refl
casting note _ is x e = absurd cc

-- ---- what one lexeme spells

abbrev pub is_literal_mark : Mark → Bool
is_literal_mark m.Number = true
is_literal_mark m.True = true
is_literal_mark m.False = true
is_literal_mark m.Null = true
is_literal_mark m.This = true
is_literal_mark m.Result = true
is_literal_mark _ = false

module _ (note : Bool) (limit room : ℕ) (inner : ℕ → ℕ → Start → Parser Parsed) (quantifiers : ℕ) where
  pub literal_spelled : (mark : Mark) → is_literal_mark mark ≡ true → (x : Lexeme) → lexeme_mark note x ≡ mark
      → Spells note 12 (literal_of note limit room inner quantifiers mark x) (x ∷ [])
  literal_spelled m.Number is x e = rw (marked note m.Number x e) (is_number x.span x.text)
  literal_spelled m.True is x e = rw (marked note m.True x e) (is_true x.span)
  literal_spelled m.False is x e = rw (marked note m.False x e) (is_false x.span)
  literal_spelled m.Null is x e = rw (marked note m.Null x e) (is_null x.span)
  literal_spelled m.This is x e = rw (marked note m.This x e) (is_this x.span)
  literal_spelled m.Result is x e = let at = marked note m.Result x e in rw at.1 (is_outcome at.0 x.span)
  literal_spelled _ is x e = absurd cc
