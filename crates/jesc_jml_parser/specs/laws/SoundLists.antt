-- What spells the parts of a quantifier, and arguments with commas between.
use Rattle.std.proofs.Common.{◌≡◌, ℕ, suc, ◌-◌, ◌≤◌, ◌<◌, max, Bool, List, [], ◌∷◌, ◌++◌, refl, sym, ap, ◌∙◌, append_assoc, arith}
use Rattle.std.proofs.lemmas.List.{append-nil}
use Rattle.jesc_ast.specs.Lexemes.{Lexeme, join, chosen_word}
use Rattle.jesc_ast.specs.Trees.{Expression, quantifier, no_expressions, more_expressions, expressions_of}
use Rattle.jesc_ast.specs.Depth.{depth, nesting, greatest_depth, greatest_nesting}
use Rattle.jesc_ast.specs.Expressions.{Spells, is_quantifier, no_arguments, some_arguments, SpellsMore, no_more, one_more}
use Rattle.jesc_jml_grammar.specs.declared.mark.Mark.TheVariants as m
use Rattle.jesc_jml_grammar.specs.Marks.{lexeme_mark}
use Rattle.jesc_jml_grammar.specs.Reading.{Parsed, Listed, Bounds, word_of, with_last, nothing, quantifier_of}
use Rattle.jesc_jml_parser.specs.laws.SoundMarks.{marked}
use Rattle.jesc_jml_parser.specs.laws.SoundLexemes.{Quantifies}
use Rattle.jesc_jml_parser.specs.laws.SoundPieces.{IsSpelled, AreSpelled, AreBounds}

-- ---- quantifiers

-- the name of the variable again
again : (note : Bool) (x y : Lexeme) → lexeme_mark note y ≡ m.Name → y.text ≡ x.text → y ≡ chosen_word note x.text y.span
again note x y named same = (marked note m.Name y named).0 ∙ ap (λ (text : List ℕ). chosen_word note text y.span) same

module _ (note : Bool) (room k : ℕ) (p f i x s r q : Lexeme) (all : Bool) (b : Bounds) (e : Parsed) (w v : List Lexeme) where
  quantifier_spelled : lexeme_mark note p ≡ m.LeftParen → Quantifies note all f → lexeme_mark note i ≡ m.Int → lexeme_mark note x ≡ m.Name → lexeme_mark note s ≡ m.Semicolon
      → (h : AreBounds note room (k - 1) x.text w b) → lexeme_mark note r ≡ m.Semicolon → IsSpelled note room (k - 1) v e → lexeme_mark note q ≡ m.RightParen
      → Spells note 12 (quantifier (join p.span q.span) all (word_of x) b.low.tree b.low_strict b.high.tree b.high_strict e.tree)
      (p ∷ f ∷ i ∷ x ∷ s ∷ (h.low_part ++ h.low_sign ∷ h.first ∷ h.joint ∷ h.second ∷ h.high_sign ∷ (h.high_part ++ r ∷ (v ++ q ∷ []))))
  quantifier_spelled left word typed named semicolon h second g right =
      let at = marked note m.Name x named in
      rw (
        marked note m.LeftParen p left,
        word.at,
        marked note m.Int i typed,
        again note x h.first h.first_name h.first_same,
        again note x h.second h.second_name h.second_same,
        at.0,
        marked note m.Semicolon s semicolon,
        h.low_bound.sign,
        marked note m.And h.joint h.joined,
        h.high_bound.sign,
        marked note m.Semicolon r second,
        marked note m.RightParen q right,
      )
      (is_quantifier word.side p.span f.span i.span x.span s.span h.low_sign.span h.first.span h.joint.span h.second.span h.high_sign.span r.span q.span
      all b.low_strict b.high_strict f.text x.text h.low_sign.text h.high_sign.text b.low.strength b.high.strength e.strength b.low.tree b.high.tree e.tree
      h.low_part h.high_part v word.quantifier at.1 h.low.spelled h.low_tight h.low_bound.bound h.high_bound.bound h.high.spelled h.high_tight g.spelled)

  pub quantifier_piece : 0 < k → lexeme_mark note p ≡ m.LeftParen → Quantifies note all f → lexeme_mark note i ≡ m.Int → lexeme_mark note x ≡ m.Name
      → lexeme_mark note s ≡ m.Semicolon → AreBounds note room (k - 1) x.text w b → lexeme_mark note r ≡ m.Semicolon → IsSpelled note room (k - 1) v e → lexeme_mark note q ≡ m.RightParen
      → IsSpelled note (suc room) k (p ∷ f ∷ i ∷ x ∷ s ∷ (w ++ r ∷ (v ++ q ∷ []))) (quantifier_of (join p.span q.span) all x b e)
  quantifier_piece some left word typed named semicolon h second g right = record {
    spelled = rw h.parts (simp append_assoc (quantifier_spelled left word typed named semicolon h second g right));
    strong = refl;
    deep = rw (h.low.deep, h.high.deep, g.deep) refl;
    shallow = omega (arith, h.low.shallow, h.high.shallow, g.shallow);
    flat = omega (arith, h.low.flat, h.high.flat, g.flat);
  }

-- ---- arguments

deepest_at_end : (xs : List Expression) (e : Expression) → greatest_depth (expressions_of (xs ++ e ∷ [])) ≡ max (greatest_depth (expressions_of xs)) (depth e)
deepest_at_end [] e = omega arith
deepest_at_end (x ∷ xs) e = omega (arith, deepest_at_end xs e)

flattest_at_end : (xs : List Expression) (e : Expression) → greatest_nesting (expressions_of (xs ++ e ∷ [])) ≡ max (greatest_nesting (expressions_of xs)) (nesting e)
flattest_at_end [] e = omega arith
flattest_at_end (x ∷ xs) e = omega (arith, flattest_at_end xs e)

-- one more argument behind a comma
more_at_end : (note : Bool) (xs : List Expression) (u : List Lexeme) (x : Lexeme) (n : ℕ) (e : Expression) (v : List Lexeme) → SpellsMore note (expressions_of xs) u → lexeme_mark note x ≡ m.Comma
    → Spells note n e v → SpellsMore note (expressions_of (xs ++ e ∷ [])) (u ++ x ∷ v)
more_at_end note [] _ x n e v no_more comma h =
    let one : SpellsMore note (more_expressions e no_expressions) (x ∷ (v ++ [])) = rw (marked note m.Comma x comma) (one_more x.span n e no_expressions v [] h no_more) in
    rw append-nil at one
more_at_end note (y ∷ xs) _ x n e v (one_more s o _ _ t u a more) comma h =
    simp append_assoc (one_more s o y (expressions_of (xs ++ e ∷ [])) t (u ++ x ∷ v) a (more_at_end note xs u x n e v more comma h))

-- one argument at least
pub record AreSome (note : Bool) (room k : ℕ) (u : List Lexeme) (es : Listed) : Type 0 where
  pub first : Expression
  pub others : List Expression
  pub trees : es.trees ≡ first ∷ others
  pub size : ℕ
  pub front : List Lexeme
  pub back : List Lexeme
  pub parts : u ≡ front ++ back
  pub spelled : Spells note size first front
  pub more : SpellsMore note (expressions_of others) back
  pub deep : greatest_depth (expressions_of es.trees) ≡ es.depth
  pub shallow : es.depth ≤ room
  pub flat : greatest_nesting (expressions_of es.trees) ≤ k

module _ (note : Bool) (room k : ℕ) where
  pub some_piece : (u : List Lexeme) (es : Listed) → AreSome note room k u es → AreSpelled note room k u es
  some_piece u es h = record {
    spelled = rw (h.trees, h.parts) (some_arguments h.size h.first (expressions_of h.others) h.front h.back h.spelled h.more);
    deep = h.deep;
    shallow = h.shallow;
    flat = h.flat;
  }

  pub none_piece : AreSpelled note room k [] nothing
  none_piece = record { spelled = no_arguments; deep = refl; shallow = omega arith; flat = omega arith }

  pub first_piece : (u : List Lexeme) (e : Parsed) → IsSpelled note room k u e → AreSome note room k u (with_last nothing e)
  first_piece u e h = record {
    first = e.tree;
    others = [];
    trees = refl;
    size = e.strength;
    front = u;
    back = [];
    parts = sym (append-nil u);
    spelled = h.spelled;
    more = no_more;
    deep = omega (arith, h.deep);
    shallow = omega (arith, h.shallow);
    flat = omega (arith, h.flat);
  }

  pub next_piece : (u v : List Lexeme) (x : Lexeme) (es : Listed) (e : Parsed) → AreSome note room k u es → lexeme_mark note x ≡ m.Comma → IsSpelled note room k v e
      → AreSome note room k (u ++ x ∷ v) (with_last es e)
  next_piece u v x es e h comma g = record {
    first = h.first;
    others = h.others ++ e.tree ∷ [];
    trees = rw h.trees refl;
    size = h.size;
    front = h.front;
    back = h.back ++ x ∷ v;
    parts = rw h.parts (append_assoc h.front h.back (x ∷ v));
    spelled = h.spelled;
    more = more_at_end note h.others h.back x e.strength e.tree v h.more comma g.spelled;
    deep = omega (arith, h.deep, g.deep, deepest_at_end es.trees e.tree);
    shallow = omega (arith, h.shallow, g.shallow);
    flat = omega (arith, h.flat, g.flat, flattest_at_end es.trees e.tree);
  }
