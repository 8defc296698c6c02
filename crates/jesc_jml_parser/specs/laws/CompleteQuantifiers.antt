-- Quantifiers are read.
use Rattle.std.proofs.Common.{◌≡◌, ℕ, ◌-◌, ◌≤◌, Bool, true, false, List, [], ◌∷◌, ◌++◌, codes, Ok, refl, ap, ◌∙◌, append_assoc, arith, IsTrue}
use Rattle.std.specs.Prelude.{nat_lt}
use Rattle.std.proofs.lemmas.Bool.{lt-ltb}
use Rattle.std.proofs.lemmas.Slice.Eq.{bytes_eq-Decides}
use Rattle.jesc_text.specs.declared.place.Span.{Span}
use Rattle.jesc_ast.specs.Lexemes.{Lexeme, word, chosen_word, chosen_sign, chosen_backslash, sign, kept, join}
use Rattle.jesc_ast.specs.Words.{is_name}
use Rattle.jesc_ast.specs.Trees.{Expression, quantifier}
use Rattle.jesc_ast.specs.Expressions.{Spells, IsBound, is_strict, is_weak, IsQuantifier, is_forall, is_exists}
use Rattle.jesc_jml_grammar.specs.declared.mark.Mark.TheVariants as m
use Rattle.jesc_jml_grammar.specs.Steps.{Parser, mark_at, same_mark, take_one, is_name_again}
use Rattle.jesc_jml_grammar.specs.Reading as spec
use Rattle.jesc_jml_grammar.specs.Reading.{Parsed, Start, at_first, Bounds, quantifier_of, expr}
use Rattle.jesc_jml_parser.specs.laws.Edges.{goes_on}
use Rattle.jesc_jml_parser.specs.laws.CompleteMarks.{sign_at, word_at, backslash_at, name_at, took, took_sign, took_name}
use Rattle.jesc_jml_parser.specs.laws.CompleteEdges.{closed_by}
use Rattle.jesc_jml_parser.specs.laws.CompleteSteps.{parsed, depth_positive, IsRead, Climbs, climbs_first}
use Rattle.jesc_jml_parser.specs.laws.CompleteArguments.{ended, closes_semicolon}
use Rattle.jesc_jml_parser.specs.laws.CompleteLeaves.{first_is, read_closed}

-- ---- the rules

module _ (note : Bool) (limit room : ℕ) (inner : ℕ → ℕ → Start → Parser Parsed) (quantifiers : ℕ) where
  quantifier_word_is : {w : List ℕ} {all : Bool} → IsQuantifier w all → IsTrue note → nat_lt 0 quantifiers ≡ true → (f : Span) (ts : List Lexeme)
      → spec.quantifier_word note limit room inner quantifiers (chosen_backslash note w f ∷ ts) ≡ Ok (all, ts)
  unfolding spec.quantifier_word take_one mark_at same_mark
  quantifier_word_is is_forall t some f ts = rw (backslash_at note t (codes "\\forall") f, some) refl
  quantifier_word_is is_exists t some f ts = rw (backslash_at note t (codes "\\exists") f, some) refl

  bound_sign_is : {c : List ℕ} {strict : Bool} → IsBound c strict → (s : Span) (ts : List Lexeme)
      → spec.bound_sign note limit room inner quantifiers (chosen_sign note c s ∷ ts) ≡ Ok (strict, ts)
  unfolding spec.bound_sign take_one mark_at same_mark
  bound_sign_is is_strict s ts = rw (sign_at note (codes "<") s) refl
  bound_sign_is is_weak s ts = rw (sign_at note (codes "<=") s) refl

  again_is : (x : List ℕ) (s : Span) (ts : List Lexeme) → IsTrue (is_name x) → is_name_again note x (chosen_word note x s ∷ ts) ≡ true
  unfolding same_mark
  again_is x s ts t = rw (name_at note x s t, (bytes_eq-Decides x x).1 refl) refl

  same_name_is : (x : List ℕ) (s again : Span) (ts : List Lexeme) → IsTrue (is_name x)
      → spec.same_name note limit room inner quantifiers (chosen_word note x s) (chosen_word note x again ∷ ts) ≡ Ok (chosen_word note x again, ts)
  unfolding spec.same_name take_one
  same_name_is x s again ts t = rw (again_is x again ts t) refl

  bounds_is : (x : List ℕ) (s p2 s2 p3 s3 p4 : Span) {c d : List ℕ} {low_strict high_strict : Bool} (low high : Parsed) (ts us rest : List Lexeme) → IsTrue (is_name x)
      → IsBound c low_strict → IsBound d high_strict
      → inner (quantifiers - 1) 8 at_first ts ≡ Ok (low, chosen_sign note c p2 ∷ chosen_word note x s2 ∷ sign note "&&" p3 ∷ chosen_word note x s3 ∷ chosen_sign note d p4 ∷ us)
      → inner (quantifiers - 1) 8 at_first us ≡ Ok (high, rest)
      → spec.bounds note limit room inner quantifiers (chosen_word note x s) ts
      ≡ Ok (record { low = low; low_strict = low_strict; high = high; high_strict = high_strict }, rest)
  unfolding spec.bounds
  bounds_is x s p2 s2 p3 s3 p4 {c} {d} low high ts us rest t is_low is_high one two =
      rw (
        one,
        bound_sign_is is_low p2 (chosen_word note x s2 ∷ sign note "&&" p3 ∷ chosen_word note x s3 ∷ chosen_sign note d p4 ∷ us),
        same_name_is x s s2 (sign note "&&" p3 ∷ chosen_word note x s3 ∷ chosen_sign note d p4 ∷ us) t,
        took_sign note m.And (codes "&&") p3 (chosen_word note x s3 ∷ chosen_sign note d p4 ∷ us) refl,
        same_name_is x s s3 (chosen_sign note d p4 ∷ us) t,
        bound_sign_is is_high p4 us,
        two,
      ) refl

  quantified_is : {w : List ℕ} {all : Bool} → IsQuantifier w all → IsTrue note → nat_lt 0 quantifiers ≡ true → (p f i s p1 p5 q : Span) (x : List ℕ) (b : Bounds) (e : Parsed)
      (ts us rest : List Lexeme) → IsTrue (is_name x)
      → spec.bounds note limit room inner quantifiers (chosen_word note x s) ts ≡ Ok (b, sign note ";" p5 ∷ us)
      → inner (quantifiers - 1) 1 at_first us ≡ Ok (e, sign note ")" q ∷ rest)
      → spec.quantified note limit room inner quantifiers (sign note "(" p) (chosen_backslash note w f ∷ word note "int" i ∷ chosen_word note x s ∷ sign note ";" p1 ∷ ts)
      ≡ Ok (quantifier_of (join p q) all (chosen_word note x s) b e, rest)
  unfolding spec.quantified
  quantified_is is t some p f i s p1 p5 q x b e ts us rest is_named one two =
      rw (
        quantifier_word_is is t some f (word note "int" i ∷ chosen_word note x s ∷ sign note ";" p1 ∷ ts),
        took note m.Int (word note "int" i) (chosen_word note x s ∷ sign note ";" p1 ∷ ts) (word_at note (codes "int") i),
        took_name note x s (sign note ";" p1 ∷ ts) is_named,
        took_sign note m.Semicolon (codes ";") p1 ts refl,
        one,
        took_sign note m.Semicolon (codes ";") p5 us refl,
        two,
        took_sign note m.RightParen (codes ")") q rest refl,
      ) refl

  group_quantified : {w : List ℕ} {all : Bool} → IsQuantifier w all → IsTrue note → (least : ℕ) (p f : Span) (ts : List Lexeme)
      → spec.group note limit room inner quantifiers least (sign note "(" p ∷ chosen_backslash note w f ∷ ts)
      ≡ spec.quantified note limit room inner quantifiers (sign note "(" p) (chosen_backslash note w f ∷ ts)
  unfolding spec.group mark_at
  group_quantified is_forall t least p f ts = rw (took_sign note m.LeftParen (codes "(") p (chosen_backslash note (codes "\\forall") f ∷ ts) refl, backslash_at note t (codes "\\forall") f) refl
  group_quantified is_exists t least p f ts = rw (took_sign note m.LeftParen (codes "(") p (chosen_backslash note (codes "\\exists") f ∷ ts) refl, backslash_at note t (codes "\\exists") f) refl

-- ---- the whole

-- a bound ends before the sign behind it
bounded : (note : Bool) {c : List ℕ} {strict : Bool} → IsBound c strict → {k : ℕ} {e : Expression} {u : List Lexeme} → Spells note k e u → 8 ≤ k → (s : Span) (rest : List Lexeme)
    → goes_on 8 e (mark_at note (chosen_sign note c s ∷ rest)) ≡ false
unfolding mark_at
bounded note is_strict {e = e} h strong s rest = ap (goes_on 8 e) (sign_at note (codes "<") s) ∙ closed_by note h 8 m.Less refl (omega arith) (omega arith)
bounded note is_weak {e = e} h strong s rest = ap (goes_on 8 e) (sign_at note (codes "<=") s) ∙ closed_by note h 8 m.LessEqual refl (omega arith) (omega arith)

pub quantifier_climbs : (note : Bool) (limit : ℕ) → IsTrue note → (p f i s p1 p2 s2 p3 s3 p4 p5 q : Span) (all low_strict high_strict : Bool) (w x c d : List ℕ) (k l n : ℕ)
    (low high e : Expression) (t u v : List Lexeme) → IsQuantifier w all → IsTrue (is_name x) → Spells note k low t → 8 ≤ k → IsRead note limit k low t → IsBound c low_strict
    → IsBound d high_strict → Spells note l high u → 8 ≤ l → IsRead note limit l high u → Spells note n e v → IsRead note limit n e v
    → Climbs note limit 12 (quantifier (join p q) all (kept note x s) low low_strict high high_strict e)
    (sign note "(" p ∷ chosen_backslash note w f ∷ word note "int" i ∷ chosen_word note x s ∷ sign note ";" p1
    ∷ (t ++ chosen_sign note c p2 ∷ chosen_word note x s2 ∷ sign note "&&" p3 ∷ chosen_word note x s3 ∷ chosen_sign note d p4
    ∷ (u ++ sign note ";" p5 ∷ (v ++ sign note ")" q ∷ []))))
quantifier_climbs note limit side p f i s p1 p2 s2 p3 s3 p4 p5 q all low_strict high_strict w x c d k l n low high e t u v is is_named spells_low strong_low read_low is_low is_high
    spells_high strong_high read_high spells_e read_e =
    climbs_first note limit 12 (quantifier (join p q) all (kept note x s) low low_strict high high_strict e)
    (sign note "(" p ∷ chosen_backslash note w f ∷ word note "int" i ∷ chosen_word note x s ∷ sign note ";" p1
    ∷ (t ++ chosen_sign note c p2 ∷ chosen_word note x s2 ∷ sign note "&&" p3 ∷ chosen_word note x s3 ∷ chosen_sign note d p4
    ∷ (u ++ sign note ";" p5 ∷ (v ++ sign note ")" q ∷ []))))
    (λ room quantifiers least rest le loose deep nests inside.
    let inner = expr note limit room in
    let vs = (v ++ sign note ")" q ∷ []) ++ rest in
    let us = (u ++ sign note ";" p5 ∷ (v ++ sign note ")" q ∷ [])) ++ rest in
    let after = chosen_word note x s2 ∷ sign note "&&" p3 ∷ chosen_word note x s3 ∷ chosen_sign note d p4 ∷ (u ++ sign note ";" p5 ∷ (v ++ sign note ")" q ∷ [])) in
    let ts = (t ++ chosen_sign note c p2 ∷ after) ++ rest in
    let deeper : nat_lt 0 room ≡ true = lt-ltb 0 room (omega (arith, depth_positive e)) in
    let some : nat_lt 0 quantifiers ≡ true = lt-ltb 0 quantifiers (omega arith) in
    first_is note limit room inner quantifiers least m.LeftParen (sign note "(" p) _ (sign_at note (codes "(") p)
    ∙ rw deeper (group_quantified note limit room inner quantifiers is side least p f (word note "int" i ∷ chosen_word note x s ∷ sign note ";" p1 ∷ ts))
    ∙ quantified_is note limit room inner quantifiers is side some p f i s p1 p5 q x
    (record { low = parsed k low; low_strict = low_strict; high = parsed l high; high_strict = high_strict }) (parsed n e) ts vs rest is_named
    (bounds_is note limit room inner quantifiers x s p2 s2 p3 s3 p4 (parsed k low) (parsed l high) ts us (sign note ";" p5 ∷ vs) is_named is_low is_high
    (ap (inner (quantifiers - 1) 8 at_first) (append_assoc t (chosen_sign note c p2 ∷ after) rest)
    ∙ read_low.is room (quantifiers - 1) 8 (chosen_sign note c p2 ∷ (after ++ rest)) strong_low (omega arith) (omega arith) (omega arith) (bounded note is_low spells_low strong_low p2 (after ++ rest)))
    (ap (inner (quantifiers - 1) 8 at_first) (append_assoc u (sign note ";" p5 ∷ (v ++ sign note ")" q ∷ [])) rest)
    ∙ read_high.is room (quantifiers - 1) 8 (sign note ";" p5 ∷ vs) strong_high (omega arith) (omega arith) (omega arith)
    (ended note spells_high 8 (omega arith) (codes ";") p5 vs closes_semicolon)))
    (read_closed note limit room (quantifiers - 1) n e v q rest spells_e read_e (omega arith) (omega arith)))
