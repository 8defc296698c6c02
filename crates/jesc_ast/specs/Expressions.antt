-- Which lexemes spell an expression.
--
-- An expression is spelled with a strength, which says how tightly its parts hold together:
-- 1 `?:`, 2 `<==>` and `<=!=>`, 3 `==>`, 4 `||`, 5 `&&`, 6 `==` and `!=`, 7 `<`, `<=`, `>`, `>=` and `instanceof`,
-- 8 `+` and `-`, 9 `*`, `/` and `%`, 10 the prefixes and the cast, 11 `new T[n]`, behind which no bracket stands,
-- and 12 whatever else holds together most tightly.
use Rattle.std.specs.Prelude.{ℕ, ◌≤◌, Bool, true, false, ◌||◌, IsTrue, List, [], ◌∷◌, ◌++◌, codes, bytes_eq, not}
use Rattle.jesc_text.specs.declared.place.Span.{Span}
use Rattle.jesc_lexer.specs.declared.token.TokenKind.{TokenKind}
use Rattle.jesc_lexer.specs.declared.token.TokenKind.TheVariants as kinds
use Rattle.jesc_ast.specs.declared.word.TypeTree.{TypeTree}
use Rattle.jesc_ast.specs.Lexemes.{Lexeme, word, backslash, sign, chosen_word, chosen_backslash, chosen_sign, number_of, kept, join}
use Rattle.jesc_ast.specs.Words.{is_one_of, is_name, is_primitive, is_type_word}
use Rattle.jesc_ast.specs.Trees.{Expression, number, truth, null, this, outcome, name, paren, member, index, unary, binary, choose, cast, instance_of, call, new_object, new_array, old, fresh, quantifier, implied, super, on, Expressions, no_expressions, more_expressions}

abbrev pub span_of : Expression → Span
span_of (number s x) = s
span_of (truth s b) = s
span_of (null s) = s
span_of (this s) = s
span_of (outcome s) = s
span_of (name s x) = s
span_of (paren s e) = s
span_of (member s e dot w) = s
span_of (index s e bracket i) = s
span_of (unary s op e) = s
span_of (binary s op a b) = s
span_of (choose s c question a b) = s
span_of (cast s t e) = s
span_of (instance_of s e t) = s
span_of (call s r w es) = s
span_of (new_object s w es) = s
span_of (new_array s w e) = s
span_of (old s e) = s
span_of (fresh s e) = s
span_of (quantifier s all w low low_strict high high_strict e) = s

-- ---- types

abbrev pub type_tree : Span → List ℕ → Bool → TypeTree
type_tree s base array = record { span = s; base = base; array = array }

pub data SpellsType (note : Bool) : TypeTree → List Lexeme → Type 0 where
  is_plain_type : (s : Span) (x : List ℕ) → IsTrue (is_type_word x)
      → SpellsType note (type_tree s x false) (chosen_word note x s ∷ [])
  is_array_type : (s p q : Span) (x : List ℕ) → IsTrue (is_type_word x)
      → SpellsType note (type_tree (join s q) x true) (chosen_word note x s ∷ sign note "[" p ∷ sign note "]" q ∷ [])

-- ---- operators

-- A binary operator: its sign, its strength, and the least strengths that its left and its right operand have.
-- The first three stand in annotations alone.
pub data IsOperator : Bool → List ℕ → ℕ → ℕ → ℕ → Type 0 where
  is_equivalence : IsOperator true (codes "<==>") 2 2 3
  is_inequivalence : IsOperator true (codes "<=!=>") 2 2 3
  is_implication : IsOperator true (codes "==>") 3 4 3
  is_or : (note : Bool) → IsOperator note (codes "||") 4 4 5
  is_and : (note : Bool) → IsOperator note (codes "&&") 5 5 6
  is_equal : (note : Bool) → IsOperator note (codes "==") 6 6 7
  is_unequal : (note : Bool) → IsOperator note (codes "!=") 6 6 7
  is_less : (note : Bool) → IsOperator note (codes "<") 7 7 8
  is_less_equal : (note : Bool) → IsOperator note (codes "<=") 7 7 8
  is_greater : (note : Bool) → IsOperator note (codes ">") 7 7 8
  is_greater_equal : (note : Bool) → IsOperator note (codes ">=") 7 7 8
  is_plus : (note : Bool) → IsOperator note (codes "+") 8 8 9
  is_minus : (note : Bool) → IsOperator note (codes "-") 8 8 9
  is_times : (note : Bool) → IsOperator note (codes "*") 9 9 10
  is_quotient : (note : Bool) → IsOperator note (codes "/") 9 9 10
  is_remainder : (note : Bool) → IsOperator note (codes "%") 9 9 10

pub data IsPrefix : List ℕ → Type 0 where
  is_negation : IsPrefix (codes "-")
  is_plus_sign : IsPrefix (codes "+")
  is_not : IsPrefix (codes "!")

-- the signs `<` and `<=` of a quantifier's bounds, and whether the bound itself is left out
pub data IsBound : List ℕ → Bool → Type 0 where
  is_strict : IsBound (codes "<") true
  is_weak : IsBound (codes "<=") false

pub data IsQuantifier : List ℕ → Bool → Type 0 where
  is_forall : IsQuantifier (codes "\\forall") true
  is_exists : IsQuantifier (codes "\\exists") false

-- ---- casts

-- behind a parenthesised name a lexeme of this kind and text makes it a cast
abbrev pub is_cast_by : TokenKind → List ℕ → Bool
is_cast_by kinds.Word text = not (bytes_eq text (codes "instanceof"))
is_cast_by kinds.Backslash text = true
is_cast_by kinds.Number text = true
is_cast_by kinds.Sign text = is_one_of (codes "(" ∷ codes "!" ∷ []) text

abbrev pub begins_cast : List Lexeme → Bool
begins_cast [] = false
begins_cast (x ∷ xs) = is_cast_by x.kind x.text

-- a type in parentheses before these lexemes is a cast
abbrev pub is_cast_before : TypeTree → List Lexeme → Bool
is_cast_before t u = is_primitive t.base || t.array || begins_cast u

-- ---- expressions

mutual
  -- the lexemes, all of one side, spell the expression with this strength
  pub data Spells (note : Bool) : ℕ → Expression → List Lexeme → Type 0 where
    is_number : (s : Span) (x : List ℕ) → Spells note 12 (number s x) (number_of note x s ∷ [])
    is_true : (s : Span) → Spells note 12 (truth s true) (word note "true" s ∷ [])
    is_false : (s : Span) → Spells note 12 (truth s false) (word note "false" s ∷ [])
    is_null : (s : Span) → Spells note 12 (null s) (word note "null" s ∷ [])
    is_this : (s : Span) → Spells note 12 (this s) (word note "this" s ∷ [])
    is_outcome : IsTrue note → (s : Span) → Spells note 12 (outcome s) (backslash note "\\result" s ∷ [])
    is_plain_name : (s : Span) (x : List ℕ) → IsTrue (is_name x) → Spells note 12 (name s x) (chosen_word note x s ∷ [])
    is_paren : (p q : Span) (n : ℕ) (e : Expression) (u : List Lexeme) → Spells note n e u
        → Spells note 12 (paren (join p q) e) (sign note "(" p ∷ (u ++ sign note ")" q ∷ []))
    is_member : (n : ℕ) (e : Expression) (u : List Lexeme) (dot s : Span) (x : List ℕ) → Spells note n e u → 11 ≤ n → IsTrue (is_name x)
        → Spells note 12 (member (join (span_of e) s) e dot (kept note x s)) (u ++ sign note "." dot ∷ chosen_word note x s ∷ [])
    is_index : (n m : ℕ) (e i : Expression) (u v : List Lexeme) (p q : Span) → Spells note n e u → 12 ≤ n → Spells note m i v
        → Spells note 12 (index (join (span_of e) q) e p i) (u ++ sign note "[" p ∷ (v ++ sign note "]" q ∷ []))
    is_unary : (op : List ℕ) (s : Span) (n : ℕ) (e : Expression) (u : List Lexeme) → IsPrefix op → Spells note n e u → 10 ≤ n
        → Spells note 10 (unary (join s (span_of e)) (kept note op s) e) (chosen_sign note op s ∷ u)
    is_binary : (op : List ℕ) (s : Span) (k l r m n : ℕ) (a b : Expression) (u v : List Lexeme) → IsOperator note op k l r
        → Spells note m a u → l ≤ m → Spells note n b v → r ≤ n
        → Spells note k (binary (join (span_of a) (span_of b)) (kept note op s) a b) (u ++ chosen_sign note op s ∷ v)
    is_choose : (p q : Span) (k m n : ℕ) (c a b : Expression) (t u v : List Lexeme) → Spells note k c t → 2 ≤ k → Spells note m a u → Spells note n b v
        → Spells note 1 (choose (join (span_of c) (span_of b)) c p a b) (t ++ sign note "?" p ∷ (u ++ sign note ":" q ∷ v))
    is_cast : (p q : Span) (t : TypeTree) (n : ℕ) (e : Expression) (u v : List Lexeme) → SpellsType note t u → Spells note n e v → 10 ≤ n
        → IsTrue (is_cast_before t v)
        → Spells note 10 (cast (join p (span_of e)) t e) (sign note "(" p ∷ (u ++ sign note ")" q ∷ v))
    is_instance_of : (s : Span) (n : ℕ) (e : Expression) (t : TypeTree) (u v : List Lexeme) → Spells note n e u → 7 ≤ n → SpellsType note t v
        → Spells note 7 (instance_of (join (span_of e) t.span) e t) (u ++ word note "instanceof" s ∷ v)
    is_own_call : (s p q : Span) (x : List ℕ) (es : Expressions) (u : List Lexeme) → IsTrue (is_name x) → SpellsArguments note es u
        → Spells note 12 (call (join s q) implied (kept note x s) es) (chosen_word note x s ∷ sign note "(" p ∷ (u ++ sign note ")" q ∷ []))
    is_super_call : (r dot s p q : Span) (x : List ℕ) (es : Expressions) (u : List Lexeme) → IsTrue (is_name x) → SpellsArguments note es u
        → Spells note 12 (call (join r q) super (kept note x s) es)
        (word note "super" r ∷ sign note "." dot ∷ chosen_word note x s ∷ sign note "(" p ∷ (u ++ sign note ")" q ∷ []))
    is_call : (n : ℕ) (e : Expression) (dot s p q : Span) (x : List ℕ) (es : Expressions) (u v : List Lexeme) → Spells note n e u → 11 ≤ n
        → IsTrue (is_name x) → SpellsArguments note es v
        → Spells note 12 (call (join (span_of e) q) (on e dot) (kept note x s) es)
        (u ++ sign note "." dot ∷ chosen_word note x s ∷ sign note "(" p ∷ (v ++ sign note ")" q ∷ []))
    is_new_object : (r s p q : Span) (x : List ℕ) (es : Expressions) (u : List Lexeme) → IsTrue (is_name x) → SpellsArguments note es u
        → Spells note 12 (new_object (join r q) (kept note x s) es)
        (word note "new" r ∷ chosen_word note x s ∷ sign note "(" p ∷ (u ++ sign note ")" q ∷ []))
    is_new_array : (r s p q : Span) (x : List ℕ) (n : ℕ) (e : Expression) (u : List Lexeme) → IsTrue (is_type_word x) → Spells note n e u
        → Spells note 11 (new_array (join r q) (kept note x s) e)
        (word note "new" r ∷ chosen_word note x s ∷ sign note "[" p ∷ (u ++ sign note "]" q ∷ []))
    is_old : IsTrue note → (r p q : Span) (n : ℕ) (e : Expression) (u : List Lexeme) → Spells note n e u
        → Spells note 12 (old (join r q) e) (backslash note "\\old" r ∷ sign note "(" p ∷ (u ++ sign note ")" q ∷ []))
    is_fresh : IsTrue note → (r p q : Span) (n : ℕ) (e : Expression) (u : List Lexeme) → Spells note n e u
        → Spells note 12 (fresh (join r q) e) (backslash note "\\fresh" r ∷ sign note "(" p ∷ (u ++ sign note ")" q ∷ []))
    -- one name three times, and bounds that bind more tightly than `<`
    is_quantifier : IsTrue note → (p f i s p1 p2 s2 p3 s3 p4 p5 q : Span) (all low_strict high_strict : Bool) (w x c d : List ℕ) (l m n : ℕ)
        (low high e : Expression) (t u v : List Lexeme) → IsQuantifier w all → IsTrue (is_name x) → Spells note l low t → 8 ≤ l → IsBound c low_strict
        → IsBound d high_strict → Spells note m high u → 8 ≤ m → Spells note n e v
        → Spells note 12 (quantifier (join p q) all (kept note x s) low low_strict high high_strict e)
        (sign note "(" p ∷ chosen_backslash note w f ∷ word note "int" i ∷ chosen_word note x s ∷ sign note ";" p1
        ∷ (t ++ chosen_sign note c p2 ∷ chosen_word note x s2 ∷ sign note "&&" p3 ∷ chosen_word note x s3 ∷ chosen_sign note d p4
        ∷ (u ++ sign note ";" p5 ∷ (v ++ sign note ")" q ∷ []))))

  -- with commas between
  pub data SpellsArguments (note : Bool) : Expressions → List Lexeme → Type 0 where
    no_arguments : SpellsArguments note no_expressions []
    some_arguments : (n : ℕ) (e : Expression) (es : Expressions) (u v : List Lexeme) → Spells note n e u → SpellsMore note es v
        → SpellsArguments note (more_expressions e es) (u ++ v)

  -- each behind a comma
  pub data SpellsMore (note : Bool) : Expressions → List Lexeme → Type 0 where
    no_more : SpellsMore note no_expressions []
    one_more : (s : Span) (n : ℕ) (e : Expression) (es : Expressions) (u v : List Lexeme) → Spells note n e u → SpellsMore note es v
        → SpellsMore note (more_expressions e es) (sign note "," s ∷ (u ++ v))

-- the lexemes spell the expression
abbrev pub SpellsExpression : Bool → Expression → List Lexeme → Type 0
SpellsExpression note e u = (n : ℕ) × Spells note n e u
