-- What stands alone or behind a word is read: literals, names, calls, new objects and arrays, prefixes, `\old` and `\fresh`.
use Rattle.std.proofs.Common.{◌≡◌, ℕ, ◌+◌, ◌≤◌, Bool, true, false, List, [], ◌∷◌, ◌++◌, codes, Ok, refl, sym, ap, ◌∙◌, append_assoc, arith, IsTrue, inl, inr}
use Rattle.std.specs.Prelude.{nat_lt}
use Rattle.std.proofs.lemmas.Bool.{or_cases, lt-ltb, le-leb}
use Rattle.jesc_text.specs.declared.place.Span.{Span}
use Rattle.jesc_ast.specs.Lexemes.{Lexeme, word, backslash, chosen_word, chosen_sign, number_of, sign, kept, join}
use Rattle.jesc_ast.specs.Words.{is_name, is_primitive, is_type_word}
use Rattle.jesc_ast.specs.Trees.{Expression, number, truth, null, this, outcome, name, unary, call, new_object, new_array, old, fresh, Expressions, list_of, implied, super}
use Rattle.jesc_ast.specs.Expressions.{span_of, Spells, IsPrefix, is_negation, is_plus_sign, is_not}
use Rattle.jesc_ast.specs.Depth.{depth, nesting, greatest_depth}
use Rattle.jesc_jml_grammar.specs.declared.mark.Mark.{Mark}
use Rattle.jesc_jml_grammar.specs.declared.mark.Mark.TheVariants as m
use Rattle.jesc_jml_grammar.specs.Marks.{sign_mark, lexeme_mark}
use Rattle.jesc_jml_grammar.specs.Steps.{Parser, mark_at, same_mark, take_one}
use Rattle.jesc_jml_grammar.specs.Reading as spec
use Rattle.jesc_jml_grammar.specs.Reading.{Parsed, Listed, Start, at_first, allows_prefix, leaf, over, object_of, word_of, expr}
use Rattle.jesc_jml_parser.specs.laws.CompleteMarks.{sign_at, word_at, number_at, backslash_at, name_at, is_primitive_mark, primitive_at, took, took_sign, took_name}
use Rattle.jesc_jml_parser.specs.laws.CompleteEdges.{positive}
use Rattle.jesc_jml_parser.specs.laws.CompleteSteps.{parsed, depth_positive, IsRead, Climbs, climbs_first}
use Rattle.jesc_jml_parser.specs.laws.CompleteArguments.{IsReadAsArguments, ended, closes_paren, closes_bracket, finished, call_read, expressions_of_list}

-- ---- the rules

new_word : (note : Bool) (limit room : ℕ) (inner : ℕ → ℕ → Start → Parser Parsed) (quantifiers : ℕ) (r : Lexeme) (mark : Mark) (ts : List Lexeme)
    → is_primitive_mark mark ≡ true
    → spec.new_by note limit room inner quantifiers r mark ts ≡ spec.deeper note limit room inner quantifiers (spec.new_of_word note limit room inner quantifiers r) ts
new_word note limit room inner quantifiers r m.Int ts p = refl
new_word note limit room inner quantifiers r m.Long ts p = refl
new_word note limit room inner quantifiers r m.Boolean ts p = refl
new_word note limit room inner quantifiers r _ ts p = absurd cc

module _ (note : Bool) (limit room : ℕ) (inner : ℕ → ℕ → Start → Parser Parsed) (quantifiers : ℕ) where
  pub first_is : (least : ℕ) (mark : Mark) (x : Lexeme) (ts : List Lexeme) → lexeme_mark note x ≡ mark
      → spec.first note limit room inner quantifiers least (x ∷ ts) ≡ spec.first_by note limit room inner quantifiers least mark (x ∷ ts)
  unfolding spec.first mark_at
  first_is least mark x ts e = ap (λ (z : Mark). spec.first_by note limit room inner quantifiers least z (x ∷ ts)) e

  literal_is : (mark : Mark) (x : Lexeme) (ts : List Lexeme) → spec.literal note limit room inner quantifiers mark (x ∷ ts) ≡ Ok (leaf (spec.literal_of note limit room inner quantifiers mark x), ts)
  unfolding spec.literal take_one
  literal_is mark x ts = refl

  name_is : (x : List ℕ) (s : Span) (rest : List Lexeme) → IsTrue (is_name x) → same_mark (mark_at note rest) m.LeftParen ≡ false
      → spec.named note limit room inner quantifiers (chosen_word note x s ∷ rest) ≡ Ok (leaf (name s x), rest)
  unfolding spec.named spec.after_name
  name_is x s rest t alone = rw (took_name note x s rest t, alone) refl

  own_call_is : (x : List ℕ) (s p : Span) (ts : List Lexeme) → IsTrue (is_name x)
      → spec.named note limit room inner quantifiers (chosen_word note x s ∷ sign note "(" p ∷ ts)
      ≡ spec.called note limit room inner quantifiers s implied 0 (chosen_word note x s) (sign note "(" p ∷ ts)
  unfolding spec.named spec.after_name mark_at same_mark
  own_call_is x s p ts t = rw (took_name note x s (sign note "(" p ∷ ts) t, sign_at note (codes "(") p) refl

  super_call_is : (r dot s : Span) (x : List ℕ) (ts : List Lexeme) → IsTrue (is_name x)
      → spec.super_called note limit room inner quantifiers (word note "super" r ∷ sign note "." dot ∷ chosen_word note x s ∷ ts)
      ≡ spec.called note limit room inner quantifiers r super 0 (chosen_word note x s) ts
  unfolding spec.super_called
  super_call_is r dot s x ts t =
      rw (took note m.Super (word note "super" r) (sign note "." dot ∷ chosen_word note x s ∷ ts) (word_at note (codes "super") r), took_sign note m.Dot (codes ".") dot (chosen_word note x s ∷ ts) refl, took_name note x s ts t) refl

  prefix_is : {op : List ℕ} → IsPrefix op → (least : ℕ) (ts : List Lexeme) → allows_prefix least ≡ true → nat_lt 0 room ≡ true
      → spec.first_by note limit room inner quantifiers least (sign_mark note op) ts ≡ spec.prefixed note limit room inner quantifiers ts
  prefix_is is_negation least ts allowed some = rw (allowed, some) refl
  prefix_is is_plus_sign least ts allowed some = rw (allowed, some) refl
  prefix_is is_not least ts allowed some = rw (allowed, some) refl

  prefixed_is : (op : Lexeme) (e : Parsed) (ts rest : List Lexeme) → inner quantifiers 10 at_first ts ≡ Ok (e, rest)
      → spec.prefixed note limit room inner quantifiers (op ∷ ts) ≡ Ok (over 10 e (unary (join op.span (span_of e.tree)) (word_of op) e.tree), rest)
  unfolding spec.prefixed take_one
  prefixed_is op e ts rest read = rw read refl

  old_is : IsTrue note → (r p q : Span) (e : Parsed) (ts rest : List Lexeme) → inner quantifiers 1 at_first ts ≡ Ok (e, sign note ")" q ∷ rest)
      → spec.old_value note limit room inner quantifiers (backslash note "\\old" r ∷ sign note "(" p ∷ ts) ≡ Ok (over 12 e (old (join r q) e.tree), rest)
  unfolding spec.old_value
  old_is t r p q e ts rest read =
      rw (took note m.Old (backslash note "\\old" r) (sign note "(" p ∷ ts) (backslash_at note t (codes "\\old") r), took_sign note m.LeftParen (codes "(") p ts refl, read, took_sign note m.RightParen (codes ")") q rest refl) refl

  fresh_is : IsTrue note → (r p q : Span) (e : Parsed) (ts rest : List Lexeme) → inner quantifiers 1 at_first ts ≡ Ok (e, sign note ")" q ∷ rest)
      → spec.fresh_value note limit room inner quantifiers (backslash note "\\fresh" r ∷ sign note "(" p ∷ ts) ≡ Ok (over 12 e (fresh (join r q) e.tree), rest)
  unfolding spec.fresh_value
  fresh_is t r p q e ts rest read =
      rw (took note m.Fresh (backslash note "\\fresh" r) (sign note "(" p ∷ ts) (backslash_at note t (codes "\\fresh") r), took_sign note m.LeftParen (codes "(") p ts refl, read, took_sign note m.RightParen (codes ")") q rest refl) refl

  created_is : (r : Span) (x : Lexeme) (ts : List Lexeme)
      → spec.created note limit room inner quantifiers (word note "new" r ∷ x ∷ ts)
      ≡ spec.new_by note limit room inner quantifiers (word note "new" r) (lexeme_mark note x) (x ∷ ts)
  unfolding spec.created mark_at
  created_is r x ts = rw (took note m.New (word note "new" r) (x ∷ ts) (word_at note (codes "new") r)) refl

  object_is : (r : Lexeme) (x : List ℕ) (s p q : Span) (es : Listed) (ts rest : List Lexeme) → IsTrue (is_name x)
      → spec.arguments note limit room inner quantifiers ts ≡ Ok (es, sign note ")" q ∷ rest)
      → spec.new_of_name note limit room inner quantifiers r (chosen_word note x s ∷ sign note "(" p ∷ ts) ≡ Ok (object_of r (chosen_word note x s) es (sign note ")" q), rest)
  unfolding spec.new_of_name spec.constructed mark_at
  object_is r x s p q es ts rest t read =
      rw (took_name note x s (sign note "(" p ∷ ts) t, sign_at note (codes "(") p, took_sign note m.LeftParen (codes "(") p ts refl, read, took_sign note m.RightParen (codes ")") q rest refl) refl

  sized_is : (r x : Lexeme) (p q : Span) (n : Parsed) (ts rest : List Lexeme) → inner quantifiers 1 at_first ts ≡ Ok (n, sign note "]" q ∷ rest)
      → spec.sized note limit room inner quantifiers r x (sign note "[" p ∷ ts) ≡ Ok (over 11 n (new_array (join r.span q) (word_of x) n.tree), rest)
  unfolding spec.sized
  sized_is r x p q n ts rest read = rw (took_sign note m.LeftBracket (codes "[") p ts refl, read, took_sign note m.RightBracket (codes "]") q rest refl) refl

  named_array_is : (r : Lexeme) (x : List ℕ) (s p : Span) (ts : List Lexeme) → IsTrue (is_name x) → nat_lt 0 room ≡ true
      → spec.new_of_name note limit room inner quantifiers r (chosen_word note x s ∷ sign note "[" p ∷ ts)
      ≡ spec.sized note limit room inner quantifiers r (chosen_word note x s) (sign note "[" p ∷ ts)
  unfolding spec.new_of_name mark_at
  named_array_is r x s p ts t some = rw (took_name note x s (sign note "[" p ∷ ts) t, sign_at note (codes "[") p, some) refl

  word_array_is : (r x : Lexeme) (ts : List Lexeme) → spec.new_of_word note limit room inner quantifiers r (x ∷ ts) ≡ spec.sized note limit room inner quantifiers r x ts
  unfolding spec.new_of_word take_one
  word_array_is r x ts = refl

  array_is : (r s p : Span) (x : List ℕ) (ts : List Lexeme) → IsTrue (is_type_word x) → nat_lt 0 room ≡ true
      → spec.created note limit room inner quantifiers (word note "new" r ∷ chosen_word note x s ∷ sign note "[" p ∷ ts)
      ≡ spec.sized note limit room inner quantifiers (word note "new" r) (chosen_word note x s) (sign note "[" p ∷ ts)
  array_is r s p x ts t some =
      let begun = created_is r (chosen_word note x s) (sign note "[" p ∷ ts) in
      elim (or_cases (is_primitive x) (is_name x) t) [
        | inl primitive ↦ begun ∙ new_word note limit room inner quantifiers (word note "new" r) _ _ (primitive_at note x s primitive) ∙ rw some (word_array_is (word note "new" r) (chosen_word note x s) (sign note "[" p ∷ ts))
        | inr is_named ↦ begun ∙ rw (name_at note x s is_named) (named_array_is (word note "new" r) x s p ts is_named some)
      ]

-- ---- literals and names

literal_climbs : (note : Bool) (limit : ℕ) (e : Expression) (x : Lexeme) (mark : Mark) → lexeme_mark note x ≡ mark → depth e ≡ 1
    → ((room quantifiers least : ℕ) (ts : List Lexeme) → spec.first_by note limit room (expr note limit room) quantifiers least mark (x ∷ ts) ≡ Ok (leaf e, ts))
    → Climbs note limit 12 e (x ∷ [])
literal_climbs note limit e x mark at single h =
    climbs_first note limit 12 e (x ∷ []) (λ room quantifiers least rest le low deep nests inside.
    first_is note limit room (expr note limit room) quantifiers least mark x rest at ∙ h room quantifiers least rest ∙ ap (λ (n : ℕ). finished (record { tree = e; depth = n; strength = 12 }) rest) (sym single))

pub number_climbs : (note : Bool) (limit : ℕ) (s : Span) (x : List ℕ) → Climbs note limit 12 (number s x) (number_of note x s ∷ [])
number_climbs note limit s x = literal_climbs note limit (number s x) (number_of note x s) m.Number (number_at note x s) refl
    (λ room quantifiers least ts. literal_is note limit room (expr note limit room) quantifiers m.Number (number_of note x s) ts)

pub true_climbs : (note : Bool) (limit : ℕ) (s : Span) → Climbs note limit 12 (truth s true) (word note "true" s ∷ [])
true_climbs note limit s = literal_climbs note limit (truth s true) (word note "true" s) m.True (word_at note (codes "true") s) refl
    (λ room quantifiers least ts. literal_is note limit room (expr note limit room) quantifiers m.True (word note "true" s) ts)

pub false_climbs : (note : Bool) (limit : ℕ) (s : Span) → Climbs note limit 12 (truth s false) (word note "false" s ∷ [])
false_climbs note limit s = literal_climbs note limit (truth s false) (word note "false" s) m.False (word_at note (codes "false") s) refl
    (λ room quantifiers least ts. literal_is note limit room (expr note limit room) quantifiers m.False (word note "false" s) ts)

pub null_climbs : (note : Bool) (limit : ℕ) (s : Span) → Climbs note limit 12 (null s) (word note "null" s ∷ [])
null_climbs note limit s = literal_climbs note limit (null s) (word note "null" s) m.Null (word_at note (codes "null") s) refl
    (λ room quantifiers least ts. literal_is note limit room (expr note limit room) quantifiers m.Null (word note "null" s) ts)

pub this_climbs : (note : Bool) (limit : ℕ) (s : Span) → Climbs note limit 12 (this s) (word note "this" s ∷ [])
this_climbs note limit s = literal_climbs note limit (this s) (word note "this" s) m.This (word_at note (codes "this") s) refl
    (λ room quantifiers least ts. literal_is note limit room (expr note limit room) quantifiers m.This (word note "this" s) ts)

pub outcome_climbs : (note : Bool) (limit : ℕ) → IsTrue note → (s : Span) → Climbs note limit 12 (outcome s) (backslash note "\\result" s ∷ [])
outcome_climbs note limit t s = literal_climbs note limit (outcome s) (backslash note "\\result" s) m.Result (backslash_at note t (codes "\\result") s) refl
    (λ room quantifiers least ts. literal_is note limit room (expr note limit room) quantifiers m.Result (backslash note "\\result" s) ts)

pub name_climbs : (note : Bool) (limit : ℕ) (s : Span) (x : List ℕ) → IsTrue (is_name x) → Climbs note limit 12 (name s x) (chosen_word note x s ∷ [])
name_climbs note limit s x t =
    climbs_first note limit 12 (name s x) (chosen_word note x s ∷ []) (λ room quantifiers least rest le low deep nests inside.
    first_is note limit room (expr note limit room) quantifiers least m.Name (chosen_word note x s) rest (name_at note x s t)
    ∙ name_is note limit room (expr note limit room) quantifiers x s rest t inside)

-- ---- calls

pub own_call_climbs : (note : Bool) (limit : ℕ) (s p q : Span) (x : List ℕ) (es : Expressions) (u : List Lexeme) → IsTrue (is_name x) → IsReadAsArguments note limit es u
    → Climbs note limit 12 (call (join s q) implied (kept note x s) es) (chosen_word note x s ∷ sign note "(" p ∷ (u ++ sign note ")" q ∷ []))
own_call_climbs note limit s p q x es u t read =
    climbs_first note limit 12 (call (join s q) implied (kept note x s) es) (chosen_word note x s ∷ sign note "(" p ∷ (u ++ sign note ")" q ∷ []))
    (λ room quantifiers least rest le low deep nests inside.
    first_is note limit room (expr note limit room) quantifiers least m.Name (chosen_word note x s) _ (name_at note x s t)
    ∙ own_call_is note limit room (expr note limit room) quantifiers x s p ((u ++ sign note ")" q ∷ []) ++ rest) t
    ∙ ap (λ (z : List Lexeme). spec.called note limit room (expr note limit room) quantifiers s implied 0 (chosen_word note x s) (sign note "(" p ∷ z)) (append_assoc u (sign note ")" q ∷ []) rest)
    ∙ call_read note limit room quantifiers s implied 0 x s p q es u rest read (omega arith) (omega arith) refl)

pub super_call_climbs : (note : Bool) (limit : ℕ) (r dot s p q : Span) (x : List ℕ) (es : Expressions) (u : List Lexeme) → IsTrue (is_name x) → IsReadAsArguments note limit es u
    → Climbs note limit 12 (call (join r q) super (kept note x s) es)
    (word note "super" r ∷ sign note "." dot ∷ chosen_word note x s ∷ sign note "(" p ∷ (u ++ sign note ")" q ∷ []))
super_call_climbs note limit r dot s p q x es u t read =
    climbs_first note limit 12 (call (join r q) super (kept note x s) es) (word note "super" r ∷ sign note "." dot ∷ chosen_word note x s ∷ sign note "(" p ∷ (u ++ sign note ")" q ∷ []))
    (λ room quantifiers least rest le low deep nests inside.
    first_is note limit room (expr note limit room) quantifiers least m.Super (word note "super" r) _ (word_at note (codes "super") r)
    ∙ super_call_is note limit room (expr note limit room) quantifiers r dot s x (sign note "(" p ∷ ((u ++ sign note ")" q ∷ []) ++ rest)) t
    ∙ ap (λ (z : List Lexeme). spec.called note limit room (expr note limit room) quantifiers r super 0 (chosen_word note x s) (sign note "(" p ∷ z)) (append_assoc u (sign note ")" q ∷ []) rest)
    ∙ call_read note limit room quantifiers r super 0 x s p q es u rest read (omega arith) (omega arith) refl)

-- ---- prefixes, `\old` and `\fresh`

pub unary_climbs : (note : Bool) (limit : ℕ) (op : List ℕ) (s : Span) (n : ℕ) (e : Expression) (u : List Lexeme) → IsPrefix op → 10 ≤ n → IsRead note limit n e u
    → Climbs note limit 10 (unary (join s (span_of e)) (kept note op s) e) (chosen_sign note op s ∷ u)
unary_climbs note limit op s n e u is strong read =
    climbs_first note limit 10 (unary (join s (span_of e)) (kept note op s) e) (chosen_sign note op s ∷ u) (λ room quantifiers least rest le low deep nests inside.
    first_is note limit room (expr note limit room) quantifiers least (sign_mark note op) (chosen_sign note op s) (u ++ rest) (sign_at note op s)
    ∙ prefix_is note limit room (expr note limit room) quantifiers is least (chosen_sign note op s ∷ (u ++ rest)) (le-leb least 10 le) (lt-ltb 0 room (omega (arith, depth_positive e)))
    ∙ prefixed_is note limit room (expr note limit room) quantifiers (chosen_sign note op s) (parsed n e) (u ++ rest) rest
    (read.is room quantifiers 10 rest strong (omega arith) (omega arith) nests inside))

-- an expression before a closing parenthesis
pub read_closed : (note : Bool) (limit room quantifiers n : ℕ) (e : Expression) (u : List Lexeme) (q : Span) (rest : List Lexeme) → Spells note n e u → IsRead note limit n e u
    → depth e ≤ room → nesting e ≤ quantifiers
    → expr note limit room quantifiers 1 at_first ((u ++ sign note ")" q ∷ []) ++ rest) ≡ Ok (parsed n e, sign note ")" q ∷ rest)
read_closed note limit room quantifiers n e u q rest spelled read deep nests =
    ap (expr note limit room quantifiers 1 at_first) (append_assoc u (sign note ")" q ∷ []) rest)
    ∙ read.is room quantifiers 1 (sign note ")" q ∷ rest) (positive note spelled) (omega arith) deep nests (ended note spelled 1 (omega arith) (codes ")") q rest closes_paren)

pub old_climbs : (note : Bool) (limit : ℕ) → IsTrue note → (r p q : Span) (n : ℕ) (e : Expression) (u : List Lexeme) → Spells note n e u → IsRead note limit n e u
    → Climbs note limit 12 (old (join r q) e) (backslash note "\\old" r ∷ sign note "(" p ∷ (u ++ sign note ")" q ∷ []))
old_climbs note limit t r p q n e u spelled read =
    climbs_first note limit 12 (old (join r q) e) (backslash note "\\old" r ∷ sign note "(" p ∷ (u ++ sign note ")" q ∷ [])) (λ room quantifiers least rest le low deep nests inside.
    let ts = (u ++ sign note ")" q ∷ []) ++ rest in
    first_is note limit room (expr note limit room) quantifiers least m.Old (backslash note "\\old" r) (sign note "(" p ∷ ts) (backslash_at note t (codes "\\old") r)
    ∙ rw (lt-ltb 0 room (omega (arith, depth_positive e)))
    (old_is note limit room (expr note limit room) quantifiers t r p q (parsed n e) ts rest (read_closed note limit room quantifiers n e u q rest spelled read (omega arith) nests)))

pub fresh_climbs : (note : Bool) (limit : ℕ) → IsTrue note → (r p q : Span) (n : ℕ) (e : Expression) (u : List Lexeme) → Spells note n e u → IsRead note limit n e u
    → Climbs note limit 12 (fresh (join r q) e) (backslash note "\\fresh" r ∷ sign note "(" p ∷ (u ++ sign note ")" q ∷ []))
fresh_climbs note limit t r p q n e u spelled read =
    climbs_first note limit 12 (fresh (join r q) e) (backslash note "\\fresh" r ∷ sign note "(" p ∷ (u ++ sign note ")" q ∷ [])) (λ room quantifiers least rest le low deep nests inside.
    let ts = (u ++ sign note ")" q ∷ []) ++ rest in
    first_is note limit room (expr note limit room) quantifiers least m.Fresh (backslash note "\\fresh" r) (sign note "(" p ∷ ts) (backslash_at note t (codes "\\fresh") r)
    ∙ rw (lt-ltb 0 room (omega (arith, depth_positive e)))
    (fresh_is note limit room (expr note limit room) quantifiers t r p q (parsed n e) ts rest (read_closed note limit room quantifiers n e u q rest spelled read (omega arith) nests)))

-- ---- new objects and arrays

pub object_climbs : (note : Bool) (limit : ℕ) (r s p q : Span) (x : List ℕ) (es : Expressions) (u : List Lexeme) → IsTrue (is_name x) → IsReadAsArguments note limit es u
    → Climbs note limit 12 (new_object (join r q) (kept note x s) es) (word note "new" r ∷ chosen_word note x s ∷ sign note "(" p ∷ (u ++ sign note ")" q ∷ []))
object_climbs note limit r s p q x es u t read =
    climbs_first note limit 12 (new_object (join r q) (kept note x s) es) (word note "new" r ∷ chosen_word note x s ∷ sign note "(" p ∷ (u ++ sign note ")" q ∷ []))
    (λ room quantifiers least rest le low deep nests inside.
    let ts = (u ++ sign note ")" q ∷ []) ++ rest in
    first_is note limit room (expr note limit room) quantifiers least m.New (word note "new" r) (chosen_word note x s ∷ sign note "(" p ∷ ts) (word_at note (codes "new") r)
    ∙ created_is note limit room (expr note limit room) quantifiers r (chosen_word note x s) (sign note "(" p ∷ ts)
    ∙ rw (name_at note x s t)
    (object_is note limit room (expr note limit room) quantifiers (word note "new" r) x s p q (record { trees = list_of es; depth = greatest_depth es }) ts rest t
    (ap (spec.arguments note limit room (expr note limit room) quantifiers) (append_assoc u (sign note ")" q ∷ []) rest) ∙ read.is room quantifiers q rest (omega arith) nests))
    ∙ ap (λ (z : Expressions). finished (record { tree = new_object (join r q) (kept note x s) z; depth = greatest_depth es + 1; strength = 12 }) rest) (expressions_of_list es))

pub array_climbs : (note : Bool) (limit : ℕ) (r s p q : Span) (x : List ℕ) (n : ℕ) (e : Expression) (u : List Lexeme) → IsTrue (is_type_word x) → Spells note n e u → IsRead note limit n e u
    → Climbs note limit 11 (new_array (join r q) (kept note x s) e) (word note "new" r ∷ chosen_word note x s ∷ sign note "[" p ∷ (u ++ sign note "]" q ∷ []))
array_climbs note limit r s p q x n e u t spelled read =
    climbs_first note limit 11 (new_array (join r q) (kept note x s) e) (word note "new" r ∷ chosen_word note x s ∷ sign note "[" p ∷ (u ++ sign note "]" q ∷ []))
    (λ room quantifiers least rest le low deep nests inside.
    let ts = (u ++ sign note "]" q ∷ []) ++ rest in
    first_is note limit room (expr note limit room) quantifiers least m.New (word note "new" r) (chosen_word note x s ∷ sign note "[" p ∷ ts) (word_at note (codes "new") r)
    ∙ array_is note limit room (expr note limit room) quantifiers r s p x ts t (lt-ltb 0 room (omega (arith, depth_positive e)))
    ∙ sized_is note limit room (expr note limit room) quantifiers (word note "new" r) (chosen_word note x s) p q (parsed n e) ts rest
    (ap (expr note limit room quantifiers 1 at_first) (append_assoc u (sign note "]" q ∷ []) rest)
    ∙ read.is room quantifiers 1 (sign note "]" q ∷ rest) (positive note spelled) (omega arith) (omega arith) nests (ended note spelled 1 (omega arith) (codes "]") q rest closes_bracket)))
