-- What the marks of an expression's lexemes are, and how strong its tree is.
use Rattle.std.proofs.Common.{◌≡◌, ℕ, Bool, true, false, List, ◌∷◌, ◌++◌, codes, bytes_eq, Ok, refl, ap, ◌∙◌, append_assoc, IsTrue}
use Rattle.std.specs.Prelude.{if◌then◌else◌}
use Rattle.std.proofs.Common.{inl, inr}
use Rattle.std.proofs.lemmas.Bool.{or_cases}
use Rattle.std.proofs.lemmas.Slice.Eq.{bytes_eq-Decides}
use denote.Enum.Bare.{true_same}
use Rattle.jesc_text.specs.declared.place.Span.{Span}
use Rattle.jesc_ast.specs.Lexemes.{Lexeme, chosen_word, chosen_sign, chosen_backslash, number_of}
use Rattle.jesc_ast.specs.Words.{is_name, is_primitive, is_type_word}
use Rattle.jesc_ast.specs.Trees.{Expression}
use Rattle.jesc_ast.specs.Expressions.{Spells, is_number, is_true, is_false, is_null, is_this, is_outcome, is_plain_name, is_paren, is_member, is_index, is_unary, is_binary, is_choose, is_cast, is_instance_of, is_own_call, is_super_call, is_call, is_new_object, is_new_array, is_old, is_fresh, is_quantifier, IsOperator, is_equivalence, is_inequivalence, is_implication, is_or, is_and, is_equal, is_unequal, is_less, is_less_equal, is_greater, is_greater_equal, is_plus, is_minus, is_times, is_quotient, is_remainder, IsPrefix, is_negation, is_plus_sign, is_not}
use Rattle.jesc_jml_grammar.specs.contracts.mark.Mark.{the_type}
use Rattle.jesc_jml_grammar.specs.declared.mark.Mark.{Mark}
use Rattle.jesc_jml_grammar.specs.declared.mark.Mark.TheVariants as m
use Rattle.jesc_jml_grammar.specs.Marks.{keyword_mark, backslash_mark, sign_mark, lexeme_mark}
use Rattle.jesc_jml_grammar.specs.Steps.{mark_at, same_mark, take_one, expect}
use Rattle.jesc_jml_grammar.specs.Reading.{opens, binds, is_type_mark}
use Rattle.jesc_jml_parser.specs.laws.Edges.{strength, operator_mark}

-- ---- the mark of a lexeme

pub sign_at : (note : Bool) (x : List ℕ) (s : Span) → lexeme_mark note (chosen_sign note x s) ≡ sign_mark note x
sign_at true x s = refl
sign_at false x s = refl

pub word_at : (note : Bool) (x : List ℕ) (s : Span) → lexeme_mark note (chosen_word note x s) ≡ (if is_name x then m.Name else keyword_mark x)
word_at true x s = refl
word_at false x s = refl

pub number_at : (note : Bool) (x : List ℕ) (s : Span) → lexeme_mark note (number_of note x s) ≡ m.Number
number_at true x s = refl
number_at false x s = refl

pub backslash_at : (note : Bool) → IsTrue note → (x : List ℕ) (s : Span) → lexeme_mark note (chosen_backslash note x s) ≡ backslash_mark x
backslash_at true t x s = refl
backslash_at false t x s = absurd cc

pub name_at : (note : Bool) (x : List ℕ) (s : Span) → IsTrue (is_name x) → lexeme_mark note (chosen_word note x s) ≡ m.Name
name_at note x s t = word_at note x s ∙ ap (λ (b : Bool). if b then m.Name else keyword_mark x) t

-- ---- the words of types

pub same_text : (x y : List ℕ) → bytes_eq x y ≡ true → x ≡ y
same_text x y e = (bytes_eq-Decides x y).0 e

abbrev pub is_primitive_mark : Mark → Bool
is_primitive_mark m.Int = true
is_primitive_mark m.Long = true
is_primitive_mark m.Boolean = true
is_primitive_mark _ = false

primitive_type : (mark : Mark) → is_primitive_mark mark ≡ true → is_type_mark mark ≡ true
primitive_type m.Int p = refl
primitive_type m.Long p = refl
primitive_type m.Boolean p = refl
primitive_type _ p = absurd cc

pub primitive_at : (note : Bool) (x : List ℕ) (s : Span) → IsTrue (is_primitive x) → is_primitive_mark (lexeme_mark note (chosen_word note x s)) ≡ true
primitive_at note x s t = elim (or_cases (bytes_eq x (codes "int")) _ t) [
  | inl e ↦ rw (same_text x (codes "int") e) (ap is_primitive_mark (word_at note (codes "int") s))
  | inr more ↦ elim (or_cases (bytes_eq x (codes "long")) _ more) [
    | inl e ↦ rw (same_text x (codes "long") e) (ap is_primitive_mark (word_at note (codes "long") s))
    | inr last ↦ elim (or_cases (bytes_eq x (codes "boolean")) _ last) [
      | inl e ↦ rw (same_text x (codes "boolean") e) (ap is_primitive_mark (word_at note (codes "boolean") s))
      | inr none ↦ absurd cc
    ]
  ]
]

pub type_word_at : (note : Bool) (x : List ℕ) (s : Span) → IsTrue (is_type_word x) → is_type_mark (lexeme_mark note (chosen_word note x s)) ≡ true
type_word_at note x s t = elim (or_cases (is_primitive x) (is_name x) t) [
  | inl p ↦ primitive_type (lexeme_mark note (chosen_word note x s)) (primitive_at note x s p)
  | inr n ↦ ap is_type_mark (name_at note x s n)
]

-- ---- taking a lexeme

pub same_mark_is : (mark : Mark) → same_mark mark mark ≡ true
unfolding same_mark
same_mark_is mark = true_same the_type mark mark refl

pub took : (note : Bool) (mark : Mark) (x : Lexeme) (ts : List Lexeme) → lexeme_mark note x ≡ mark → expect note mark (x ∷ ts) ≡ Ok (x, ts)
unfolding expect take_one mark_at
took note mark x ts e = rw (e, same_mark_is mark) refl

pub took_sign : (note : Bool) (mark : Mark) (x : List ℕ) (s : Span) (ts : List Lexeme) → sign_mark note x ≡ mark
    → expect note mark (chosen_sign note x s ∷ ts) ≡ Ok (chosen_sign note x s, ts)
took_sign note mark x s ts e = took note mark (chosen_sign note x s) ts (sign_at note x s ∙ e)

pub took_name : (note : Bool) (x : List ℕ) (s : Span) (ts : List Lexeme) → IsTrue (is_name x) → expect note m.Name (chosen_word note x s ∷ ts) ≡ Ok (chosen_word note x s, ts)
took_name note x s ts t = took note m.Name (chosen_word note x s) ts (name_at note x s t)

-- ---- what an expression begins with

opens_longer : (note : Bool) (u w rest : List Lexeme) → ((more : List Lexeme) → opens (mark_at note (u ++ more)) ≡ true)
    → opens (mark_at note ((u ++ w) ++ rest)) ≡ true
opens_longer note u w rest h = ap (λ (z : List Lexeme). opens (mark_at note z)) (append_assoc u w rest) ∙ h (w ++ rest)

opens_sign : (note : Bool) (x : List ℕ) (s : Span) (rest : List Lexeme) → opens (sign_mark note x) ≡ true
    → opens (mark_at note (chosen_sign note x s ∷ rest)) ≡ true
unfolding mark_at
opens_sign note x s rest e = ap opens (sign_at note x s) ∙ e

opens_word : (note : Bool) (x : List ℕ) (s : Span) (rest : List Lexeme) → opens (if is_name x then m.Name else keyword_mark x) ≡ true
    → opens (mark_at note (chosen_word note x s ∷ rest)) ≡ true
unfolding mark_at
opens_word note x s rest e = ap opens (word_at note x s) ∙ e

opens_name : (note : Bool) (x : List ℕ) (s : Span) (rest : List Lexeme) → IsTrue (is_name x) → opens (mark_at note (chosen_word note x s ∷ rest)) ≡ true
opens_name note x s rest t = opens_word note x s rest (ap (λ (b : Bool). opens (if b then m.Name else keyword_mark x)) t)

opens_number : (note : Bool) (x : List ℕ) (s : Span) (rest : List Lexeme) → opens (mark_at note (number_of note x s ∷ rest)) ≡ true
unfolding mark_at
opens_number note x s rest = ap opens (number_at note x s)

opens_backslash : (note : Bool) → IsTrue note → (x : List ℕ) (s : Span) (rest : List Lexeme) → opens (backslash_mark x) ≡ true
    → opens (mark_at note (chosen_backslash note x s ∷ rest)) ≡ true
unfolding mark_at
opens_backslash note t x s rest e = ap opens (backslash_at note t x s) ∙ e

prefix_opens : (note : Bool) {op : List ℕ} → IsPrefix op → opens (sign_mark note op) ≡ true
prefix_opens note is_negation = refl
prefix_opens note is_plus_sign = refl
prefix_opens note is_not = refl

pub opens_first : (note : Bool) {k : ℕ} {e : Expression} {u : List Lexeme} → Spells note k e u → (rest : List Lexeme) → opens (mark_at note (u ++ rest)) ≡ true
opens_first note (is_number s x) rest = opens_number note x s rest
opens_first note (is_true s) rest = opens_word note _ s rest refl
opens_first note (is_false s) rest = opens_word note _ s rest refl
opens_first note (is_null s) rest = opens_word note _ s rest refl
opens_first note (is_this s) rest = opens_word note _ s rest refl
opens_first note (is_outcome t s) rest = opens_backslash note t _ s rest refl
opens_first note (is_plain_name s x t) rest = opens_name note x s rest t
opens_first note (is_paren p q n e u h) rest = opens_sign note _ p _ refl
opens_first note (is_member n e u dot s x h le t) rest = opens_longer note u _ rest (opens_first note h)
opens_first note (is_index n m e i u v p q h le hi) rest = opens_longer note u _ rest (opens_first note h)
opens_first note (is_unary op s n e u is h le) rest = opens_sign note op s _ (prefix_opens note is)
opens_first note (is_binary op s k l r m n a b u v is ha la hb lb) rest = opens_longer note u _ rest (opens_first note ha)
opens_first note (is_choose p q k m n c a b t u v hc lc ha hb) rest = opens_longer note t _ rest (opens_first note hc)
opens_first note (is_cast p q t n e u v ht h le before) rest = opens_sign note _ p _ refl
opens_first note (is_instance_of s n e t u v h le ht) rest = opens_longer note u _ rest (opens_first note h)
opens_first note (is_own_call s p q x es u t h) rest = opens_name note x s _ t
opens_first note (is_super_call r dot s p q x es u t h) rest = opens_word note _ r _ refl
opens_first note (is_call n e dot s p q x es u v h le t hs) rest = opens_longer note u _ rest (opens_first note h)
opens_first note (is_new_object r s p q x es u t h) rest = opens_word note _ r _ refl
opens_first note (is_new_array r s p q x n e u t h) rest = opens_word note _ r _ refl
opens_first note (is_old t r p q n e u h) rest = opens_backslash note t _ r _ refl
opens_first note (is_fresh t r p q n e u h) rest = opens_backslash note t _ r _ refl
opens_first note (is_quantifier side p f i s p1 p2 s2 p3 s3 p4 p5 q all low_strict high_strict w x c d l m n low high e t u v is name hl ll isc isd hh lh he) rest =
    opens_sign note _ p _ refl

-- ---- how strong the tree is

operator_strength : {note : Bool} {op : List ℕ} {k l r : ℕ} → IsOperator note op k l r → binds (operator_mark op) ≡ k
operator_strength is_equivalence = refl
operator_strength is_inequivalence = refl
operator_strength is_implication = refl
operator_strength (is_or note) = refl
operator_strength (is_and note) = refl
operator_strength (is_equal note) = refl
operator_strength (is_unequal note) = refl
operator_strength (is_less note) = refl
operator_strength (is_less_equal note) = refl
operator_strength (is_greater note) = refl
operator_strength (is_greater_equal note) = refl
operator_strength (is_plus note) = refl
operator_strength (is_minus note) = refl
operator_strength (is_times note) = refl
operator_strength (is_quotient note) = refl
operator_strength (is_remainder note) = refl

pub strength_is : (note : Bool) {k : ℕ} {e : Expression} {u : List Lexeme} → Spells note k e u → strength e ≡ k
strength_is note (is_binary op s k l r m n a b u v is ha la hb lb) = operator_strength is
strength_is note _ = refl
