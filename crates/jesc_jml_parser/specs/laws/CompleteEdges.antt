-- Which marks leave an expression's right edge alone, and which make a name in parentheses a cast.
use Rattle.std.proofs.Common.{◌≡◌, ℕ, ◌≤◌, ◌<◌, Bool, true, false, not, ◌||◌, ◌&&◌, List, [], ◌∷◌, ◌++◌, codes, bytes_eq, refl, arith, inl, inr}
use Rattle.std.specs.Prelude.{if◌then◌else◌, nat_le}
use Rattle.std.proofs.lemmas.Bool.{or_cases, not-true, and_left, and_right, and_from, and_parts, or_from, lt-leb, le-leb}
use Rattle.jesc_text.specs.declared.place.Span.{Span}
use Rattle.jesc_lexer.specs.declared.token.TokenKind.{TokenKind}
use Rattle.jesc_lexer.specs.declared.token.TokenKind.TheVariants as kinds
use Rattle.jesc_ast.specs.Lexemes.{Lexeme, join}
use Rattle.jesc_ast.specs.Words.{is_name, is_one_of}
use Rattle.jesc_ast.specs.Trees.{Expression, name, paren}
use Rattle.jesc_ast.specs.Expressions.{Spells, is_plain_name, is_paren, is_member, is_unary, is_binary, is_choose, is_cast, is_instance_of, IsOperator, is_equivalence, is_implication, is_cast_by, begins_cast}
use Rattle.jesc_jml_grammar.specs.declared.mark.Mark.{Mark}
use Rattle.jesc_jml_grammar.specs.declared.mark.Mark.TheVariants as m
use Rattle.jesc_jml_grammar.specs.Marks.{spelling, mark_among, keyword_mark, backslash_mark, sign_mark, mark_of, is_same_side, lexeme_mark}
use Rattle.jesc_jml_grammar.specs.Steps.{mark_at, same_mark}
use Rattle.jesc_jml_grammar.specs.Reading.{opens, casts, binds, needs, right_of, grows, allows_prefix}
use Rattle.jesc_jml_parser.specs.laws.Edges.{strength, operator_mark, goes_inside, goes_on}
use Rattle.jesc_jml_parser.specs.laws.CompleteMarks.{same_text}

-- ---- how tightly marks bind

binds_least : (mark : Mark) → binds mark ≤ needs mark
binds_least m.Question = omega arith
binds_least _ = omega arith

below_ten : (mark : Mark) → needs mark ≤ 10 → binds mark < 10
below_ten m.Question le = omega arith
below_ten _ le = omega arith

below_implication : (mark : Mark) → needs mark ≤ 3 → binds mark < 3
below_implication m.Question le = omega arith
below_implication _ le = omega arith

below_choice : (mark : Mark) → needs mark ≤ 1 → binds mark < 1
below_choice m.Question le = omega arith
below_choice _ le = omega arith

pub not_paren : (mark : Mark) → casts mark ≡ false → same_mark mark m.LeftParen ≡ false
unfolding same_mark
not_paren m.LeftParen c = absurd cc
not_paren _ c = refl

not_bracket : (mark : Mark) → needs mark ≤ 7 → same_mark mark m.LeftBracket ≡ false
unfolding same_mark
not_bracket m.LeftBracket le = absurd (omega arith)
not_bracket _ le = refl

pub grows_false : (n : ℕ) (mark : Mark) (least : ℕ) → binds mark < least → grows n mark least ≡ false
grows_false n mark least lt = and_left (nat_le least (binds mark)) (nat_le (needs mark) n) (lt-leb least (binds mark) lt)

pub grows_true : (n : ℕ) (mark : Mark) (least : ℕ) → least ≤ binds mark → needs mark ≤ n → grows n mark least ≡ true
grows_true n mark least le strong = and_from (nat_le least (binds mark)) (nat_le (needs mark) n) (le-leb least (binds mark) le) (le-leb (needs mark) n strong)

-- ---- the right edge

record RightOperand (op : List ℕ) (k r : ℕ) (mark : Mark) : Type 0 where
  looser : binds mark < right_of (operator_mark op)
  strong : k ≤ r

right_operand : {note : Bool} {op : List ℕ} {k l r : ℕ} → IsOperator note op k l r → (mark : Mark) → needs mark ≤ k → RightOperand op k r mark
right_operand is_implication mark le = record { looser = below_implication mark le; strong = omega arith }
right_operand is_equivalence mark le = record { looser = omega (arith, binds_least mark); strong = omega arith }
right_operand _ mark le = record { looser = omega (arith, binds_least mark); strong = omega arith }

paren_edge : (least : ℕ) (s : Span) (e : Expression) (mark : Mark) → casts mark ≡ false → goes_inside least (paren s e) mark ≡ false
paren_edge least s (name t x) mark c = and_left (casts mark) (allows_prefix least) c
paren_edge least s _ mark c = refl

-- an operand at the right edge
open_edge : (least : ℕ) (e : Expression) (mark : Mark) → binds mark < least → goes_inside least e mark ≡ false → goes_on least e mark ≡ false
open_edge least e mark lt inside = or_from (grows (strength e) mark least) (goes_inside least e mark) (grows_false (strength e) mark least lt) inside

operator_positive : {note : Bool} {op : List ℕ} {k l r : ℕ} → IsOperator note op k l r → 1 ≤ k
operator_positive is_equivalence = omega arith
operator_positive _ = omega arith

pub positive : (note : Bool) {k : ℕ} {e : Expression} {u : List Lexeme} → Spells note k e u → 1 ≤ k
positive note (is_binary op s k l r m n a b u v is ha la hb lb) = operator_positive is
positive note _ = omega arith

-- a mark that makes no cast, and goes on with nothing weaker than the expression
pub closed_edge : (note : Bool) {k : ℕ} {e : Expression} {u : List Lexeme} → Spells note k e u → (least : ℕ) (mark : Mark) → casts mark ≡ false → needs mark ≤ k
    → goes_inside least e mark ≡ false
closed_edge note (is_plain_name s x t) least mark c le = not_paren mark c
closed_edge note (is_paren p q n e u h) least mark c le = paren_edge least (join p q) e mark c
closed_edge note (is_member n e u dot s x h strong t) least mark c le = not_paren mark c
closed_edge note (is_unary op s n e u is h strong) least mark c le = open_edge 10 e mark (below_ten mark le) (closed_edge note h 10 mark c (omega arith))
closed_edge note (is_binary op s k l r m n a b u v is ha la hb lb) least mark c le =
    let R = right_operand is mark le in
    open_edge (right_of (operator_mark op)) b mark R.looser (closed_edge note hb (right_of (operator_mark op)) mark c (omega (arith, R.strong)))
closed_edge note (is_choose p q k m n x a b t u v hx lx ha hb) least mark c le =
    open_edge 1 b mark (below_choice mark le) (closed_edge note hb 1 mark c (omega (arith, positive note hb)))
closed_edge note (is_cast p q t n e u v ht h strong before) least mark c le = open_edge 10 e mark (below_ten mark le) (closed_edge note h 10 mark c (omega arith))
closed_edge note (is_instance_of s n e t u v h strong ht) least mark c le = and_right (not t.array) (same_mark mark m.LeftBracket) (not_bracket mark le)
closed_edge note _ least mark c le = refl

-- such a mark, where it binds less tightly than is read
pub closed_by : (note : Bool) {k : ℕ} {e : Expression} {u : List Lexeme} → Spells note k e u → (least : ℕ) (mark : Mark) → casts mark ≡ false → needs mark ≤ k
    → binds mark < least → goes_on least e mark ≡ false
closed_by note {e = e} h least mark c le lt = open_edge least e mark lt (closed_edge note h least mark c le)

-- ---- what makes a cast

-- behind a name in parentheses it either begins no expression, or makes a cast
abbrev is_told : Mark → Bool
is_told mark = not (opens mark) || casts mark

told : (mark : Mark) → is_told mark ≡ true → opens mark ≡ true → casts mark ≡ true
told mark t o = elim (or_cases (not (opens mark)) (casts mark) t) [ inl n ↦ absurd (cc (o, not-true (opens mark) n)) | inr c ↦ c ]

told_if : (b : Bool) (x y : Mark) → is_told x ≡ true → is_told y ≡ true → is_told (if b then x else y) ≡ true
told_if true x y h k = h
told_if false x y h k = k

abbrev all_told : List Mark → Bool
all_told [] = true
all_told (mark ∷ marks) = is_told mark && all_told marks

told_among : (marks : List Mark) (other : Mark) (text : List ℕ) → all_told marks ≡ true → is_told other ≡ true → is_told (mark_among marks other text) ≡ true
told_among [] other text all t = t
told_among (mark ∷ marks) other text all t =
    let parts = and_parts (is_told mark) (all_told marks) all in
    told_if (bytes_eq text (spelling mark)) mark (mark_among marks other text) parts.0 (told_among marks other text parts.1 t)

cast_sign : (note : Bool) (x : List ℕ) → is_one_of (codes "(" ∷ codes "!" ∷ []) x ≡ true → is_told (sign_mark note x) ≡ true
cast_sign note x e = elim (or_cases (bytes_eq x (codes "(")) _ e) [
  | inl p ↦ rw (same_text x (codes "(") p) refl
  | inr more ↦ elim (or_cases (bytes_eq x (codes "!")) _ more) [ inl n ↦ rw (same_text x (codes "!") n) refl | inr none ↦ absurd cc ]
]

cast_told : (note : Bool) (kind : TokenKind) (x : List ℕ) → is_cast_by kind x ≡ true → is_told (mark_of note kind x) ≡ true
cast_told note kinds.Word x e = told_if (is_name x) m.Name (keyword_mark x) refl
    (told_among (m.True ∷ m.False ∷ m.Null ∷ m.This ∷ m.New ∷ m.Super ∷ m.InstanceOf ∷ m.Int ∷ m.Long ∷ m.Boolean ∷ []) m.Keyword x refl refl)
cast_told note kinds.Backslash x e = told_if note (backslash_mark x) m.Backslash
    (told_among (m.Result ∷ m.Old ∷ m.Fresh ∷ m.Forall ∷ m.Exists ∷ []) m.Backslash x refl refl) refl
cast_told note kinds.Number x e = refl
cast_told note kinds.Sign x e = cast_sign note x e

-- what begins with such a lexeme, and spells an expression, makes a cast
pub cast_first : (note : Bool) (u rest : List Lexeme) → begins_cast u ≡ true → opens (mark_at note (u ++ rest)) ≡ true → casts (mark_at note (u ++ rest)) ≡ true
unfolding mark_at
cast_first note [] rest e o = absurd cc
cast_first note (x ∷ u) rest e o =
    told (lexeme_mark note x) (told_if (is_same_side note x.note) (mark_of note x.kind x.text) m.Away (cast_told note x.kind x.text e) refl) o
