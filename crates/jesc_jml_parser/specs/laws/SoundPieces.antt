-- What spells a tree's parts, with its own lexemes around them, spells the tree.
use Rattle.std.proofs.Common.{◌≡◌, ℕ, suc, ◌+◌, ◌≤◌, ◌<◌, max, Bool, true, false, List, [], ◌∷◌, ◌++◌, refl, sym, ap, arith}
use Rattle.std.specs.Prelude.{IsTrue}
use Rattle.jesc_ast.specs.declared.word.TypeTree.{TypeTree}
use Rattle.jesc_ast.specs.Lexemes.{Lexeme, join}
use Rattle.jesc_ast.specs.Trees.{Expression, number, truth, null, this, outcome, name, paren, member, index, unary, binary, choose, cast, instance_of, call, new_object, new_array, old, fresh, quantifier, implied, super, on, expressions_of}
use Rattle.jesc_ast.specs.Depth.{depth, nesting, greatest_depth, greatest_nesting}
use Rattle.jesc_ast.specs.Expressions.{span_of, type_tree, SpellsType, is_plain_type, is_array_type, is_cast_before, Spells, is_plain_name, is_paren, is_member, is_index, is_unary, is_binary, is_choose, is_cast, is_instance_of, is_own_call, is_super_call, is_call, is_new_object, is_new_array, is_old, is_fresh, SpellsArguments}
use Rattle.jesc_jml_grammar.specs.declared.mark.Mark.{Mark}
use Rattle.jesc_jml_grammar.specs.declared.mark.Mark.TheVariants as m
use Rattle.jesc_jml_grammar.specs.Marks.{lexeme_mark}
use Rattle.jesc_jml_grammar.specs.Reading.{binds, needs, right_of, Parsed, Listed, Bounds, word_of, leaf, over, over_two, over_three, call_of, object_of}
use Rattle.jesc_jml_parser.specs.laws.Edges.{strength}
use Rattle.jesc_jml_parser.specs.laws.SoundMarks.{marked}
use Rattle.jesc_jml_parser.specs.laws.SoundLexemes.{Operates, Prefixes, Bounding, Typed}

-- These lexemes spell this tree, with its strength and its depth. It is no deeper than `room`, and its quantifiers nest
-- no deeper than `quantifiers`.
pub record IsSpelled (note : Bool) (room quantifiers : ℕ) (u : List Lexeme) (p : Parsed) : Type 0 where
  pub spelled : Spells note p.strength p.tree u
  pub strong : p.strength ≡ strength p.tree
  pub deep : depth p.tree ≡ p.depth
  pub shallow : p.depth ≤ room
  pub flat : nesting p.tree ≤ quantifiers

-- the same of arguments
pub record AreSpelled (note : Bool) (room quantifiers : ℕ) (u : List Lexeme) (es : Listed) : Type 0 where
  pub spelled : SpellsArguments note (expressions_of es.trees) u
  pub deep : greatest_depth (expressions_of es.trees) ≡ es.depth
  pub shallow : es.depth ≤ room
  pub flat : greatest_nesting (expressions_of es.trees) ≤ quantifiers

-- each tree is a node at least
pub depth_some : (e : Expression) → 1 ≤ depth e
depth_some (number s x) = omega arith
depth_some (truth s b) = omega arith
depth_some (null s) = omega arith
depth_some (this s) = omega arith
depth_some (outcome s) = omega arith
depth_some (name s x) = omega arith
depth_some (paren s e) = omega arith
depth_some (member s e dot w) = omega arith
depth_some (index s e bracket i) = omega arith
depth_some (unary s op e) = omega arith
depth_some (binary s op a b) = omega arith
depth_some (choose s c question a b) = omega arith
depth_some (cast s t e) = omega arith
depth_some (instance_of s e t) = omega arith
depth_some (call s r w es) = omega arith
depth_some (new_object s w es) = omega arith
depth_some (new_array s w e) = omega arith
depth_some (old s e) = omega arith
depth_some (fresh s e) = omega arith
depth_some (quantifier s all w low low_strict high high_strict e) = omega arith

module _ (note : Bool) (room k : ℕ) where
  pub name_piece : (x : Lexeme) → lexeme_mark note x ≡ m.Name → 0 < room → IsSpelled note room k (x ∷ []) (leaf (name x.span x.text))
  name_piece x named some =
      let at = marked note m.Name x named in
      record { spelled = rw at.0 (is_plain_name x.span x.text at.1); strong = refl; deep = refl; shallow = omega arith; flat = omega arith }

  pub paren_piece : (p q : Lexeme) (e : Parsed) (u : List Lexeme) → lexeme_mark note p ≡ m.LeftParen → lexeme_mark note q ≡ m.RightParen → IsSpelled note room k u e
      → IsSpelled note (suc room) k (p ∷ (u ++ q ∷ [])) (over 12 e (paren (join p.span q.span) e.tree))
  paren_piece p q e u left right h = record {
    spelled = rw (marked note m.LeftParen p left, marked note m.RightParen q right) (is_paren p.span q.span e.strength e.tree u h.spelled);
    strong = refl;
    deep = ap (λ (n : ℕ). n + 1) h.deep;
    shallow = omega (arith, h.shallow);
    flat = h.flat;
  }

  pub member_piece : (a : Parsed) (u : List Lexeme) (dot x : Lexeme) → lexeme_mark note dot ≡ m.Dot → lexeme_mark note x ≡ m.Name → 11 ≤ a.strength → IsSpelled note room k u a
      → IsSpelled note (suc room) k (u ++ dot ∷ x ∷ []) (over 12 a (member (join (span_of a.tree) x.span) a.tree dot.span (word_of x)))
  member_piece a u dot x dotted named le h =
      let at = marked note m.Name x named in
      record {
        spelled = rw (marked note m.Dot dot dotted, at.0) (is_member a.strength a.tree u dot.span x.span x.text h.spelled le at.1);
        strong = refl;
        deep = ap (λ (n : ℕ). n + 1) h.deep;
        shallow = omega (arith, h.shallow);
        flat = h.flat;
      }

  -- a name alone needs no room of its own before an index
  pub index_piece : (a i : Parsed) (u v : List Lexeme) (p q : Lexeme) → lexeme_mark note p ≡ m.LeftBracket → lexeme_mark note q ≡ m.RightBracket → 12 ≤ a.strength
      → IsSpelled note (max room 1) k u a → IsSpelled note room k v i
      → IsSpelled note (suc room) k (u ++ p ∷ (v ++ q ∷ [])) (over_two 12 a i (index (join (span_of a.tree) q.span) a.tree p.span i.tree))
  index_piece a i u v p q left right le h g = record {
    spelled = rw (marked note m.LeftBracket p left, marked note m.RightBracket q right)
        (is_index a.strength i.strength a.tree i.tree u v p.span q.span h.spelled le g.spelled);
    strong = refl;
    deep = rw (h.deep, g.deep) refl;
    shallow = omega (arith, h.shallow, g.shallow, g.deep, depth_some i.tree);
    flat = omega (arith, h.flat, g.flat);
  }

  pub unary_piece : (op : Lexeme) (e : Parsed) (u : List Lexeme) → Prefixes note op → 10 ≤ e.strength → IsSpelled note room k u e
      → IsSpelled note (suc room) k (op ∷ u) (over 10 e (unary (join op.span (span_of e.tree)) (word_of op) e.tree))
  unary_piece op e u prefix le h = record {
    spelled = rw prefix.sign (is_unary op.text op.span e.strength e.tree u prefix.prefix h.spelled le);
    strong = refl;
    deep = ap (λ (n : ℕ). n + 1) h.deep;
    shallow = omega (arith, h.shallow);
    flat = h.flat;
  }

  pub binary_piece : (mark : Mark) (op : Lexeme) (a b : Parsed) (u v : List Lexeme) → Operates note mark op → needs mark ≤ a.strength → right_of mark ≤ b.strength
      → IsSpelled note room k u a → IsSpelled note room k v b
      → IsSpelled note (suc room) k (u ++ op ∷ v) (over_two (binds mark) a b (binary (join (span_of a.tree) (span_of b.tree)) (word_of op) a.tree b.tree))
  binary_piece mark op a b u v operates left right h g = record {
    spelled = rw operates.sign (is_binary op.text op.span (binds mark) (needs mark) (right_of mark) a.strength b.strength a.tree b.tree u v operates.operator h.spelled left g.spelled right);
    strong = sym operates.same;
    deep = rw (h.deep, g.deep) refl;
    shallow = omega (arith, h.shallow, g.shallow);
    flat = omega (arith, h.flat, g.flat);
  }

  pub choose_piece : (c a b : Parsed) (t u v : List Lexeme) (p q : Lexeme) → lexeme_mark note p ≡ m.Question → lexeme_mark note q ≡ m.Colon → 2 ≤ c.strength
      → IsSpelled note room k t c → IsSpelled note room k u a → IsSpelled note room k v b
      → IsSpelled note (suc room) k (t ++ p ∷ (u ++ q ∷ v)) (over_three 1 c a b (choose (join (span_of c.tree) (span_of b.tree)) c.tree p.span a.tree b.tree))
  choose_piece c a b t u v p q question colon le h g j = record {
    spelled = rw (marked note m.Question p question, marked note m.Colon q colon)
        (is_choose p.span q.span c.strength a.strength b.strength c.tree a.tree b.tree t u v h.spelled le g.spelled j.spelled);
    strong = refl;
    deep = rw (h.deep, g.deep, j.deep) refl;
    shallow = omega (arith, h.shallow, g.shallow, j.shallow);
    flat = omega (arith, h.flat, g.flat, j.flat);
  }

  pub cast_piece : (p q : Lexeme) (t : TypeTree) (e : Parsed) (u v : List Lexeme) → lexeme_mark note p ≡ m.LeftParen → lexeme_mark note q ≡ m.RightParen → SpellsType note t u
      → 10 ≤ e.strength → IsTrue (is_cast_before t v) → IsSpelled note room k v e
      → IsSpelled note (suc room) k (p ∷ (u ++ q ∷ v)) (over 10 e (cast (join p.span (span_of e.tree)) t e.tree))
  cast_piece p q t e u v left right typed le before h = record {
    spelled = rw (marked note m.LeftParen p left, marked note m.RightParen q right) (is_cast p.span q.span t e.strength e.tree u v typed h.spelled le before);
    strong = refl;
    deep = ap (λ (n : ℕ). n + 1) h.deep;
    shallow = omega (arith, h.shallow);
    flat = h.flat;
  }

  pub instance_piece : (a : Parsed) (u v : List Lexeme) (x : Lexeme) (t : TypeTree) → lexeme_mark note x ≡ m.InstanceOf → 7 ≤ a.strength → SpellsType note t v → IsSpelled note room k u a
      → IsSpelled note (suc room) k (u ++ x ∷ v) (over 7 a (instance_of (join (span_of a.tree) t.span) a.tree t))
  instance_piece a u v x t at le typed h = record {
    spelled = rw (marked note m.InstanceOf x at) (is_instance_of x.span a.strength a.tree t u v h.spelled le typed);
    strong = refl;
    deep = ap (λ (n : ℕ). n + 1) h.deep;
    shallow = omega (arith, h.shallow);
    flat = h.flat;
  }

  pub own_call_piece : (x p q : Lexeme) (es : Listed) (v : List Lexeme) → lexeme_mark note x ≡ m.Name → lexeme_mark note p ≡ m.LeftParen → lexeme_mark note q ≡ m.RightParen
      → AreSpelled note room k v es → IsSpelled note (suc room) k (x ∷ p ∷ (v ++ q ∷ [])) (call_of x.span implied 0 x es q)
  own_call_piece x p q es v named left right h =
      let at = marked note m.Name x named in
      record {
        spelled = rw (at.0, marked note m.LeftParen p left, marked note m.RightParen q right) (is_own_call x.span p.span q.span x.text (expressions_of es.trees) v at.1 h.spelled);
        strong = refl;
        deep = rw h.deep refl;
        shallow = omega (arith, h.shallow);
        flat = omega (arith, h.flat);
      }

  pub super_call_piece : (r dot x p q : Lexeme) (es : Listed) (v : List Lexeme) → lexeme_mark note r ≡ m.Super → lexeme_mark note dot ≡ m.Dot → lexeme_mark note x ≡ m.Name
      → lexeme_mark note p ≡ m.LeftParen → lexeme_mark note q ≡ m.RightParen
      → AreSpelled note room k v es → IsSpelled note (suc room) k (r ∷ dot ∷ x ∷ p ∷ (v ++ q ∷ [])) (call_of r.span super 0 x es q)
  super_call_piece r dot x p q es v first dotted named left right h =
      let at = marked note m.Name x named in
      record {
        spelled = rw (marked note m.Super r first, marked note m.Dot dot dotted, at.0, marked note m.LeftParen p left, marked note m.RightParen q right)
            (is_super_call r.span dot.span x.span p.span q.span x.text (expressions_of es.trees) v at.1 h.spelled);
        strong = refl;
        deep = rw h.deep refl;
        shallow = omega (arith, h.shallow);
        flat = omega (arith, h.flat);
      }

  pub call_piece : (a : Parsed) (u : List Lexeme) (dot x p q : Lexeme) (es : Listed) (v : List Lexeme) → lexeme_mark note dot ≡ m.Dot → lexeme_mark note x ≡ m.Name
      → lexeme_mark note p ≡ m.LeftParen → lexeme_mark note q ≡ m.RightParen → 11 ≤ a.strength → IsSpelled note room k u a → AreSpelled note room k v es
      → IsSpelled note (suc room) k (u ++ dot ∷ x ∷ p ∷ (v ++ q ∷ [])) (call_of (span_of a.tree) (on a.tree dot.span) a.depth x es q)
  call_piece a u dot x p q es v dotted named left right le h g =
      let at = marked note m.Name x named in
      record {
        spelled = rw (marked note m.Dot dot dotted, at.0, marked note m.LeftParen p left, marked note m.RightParen q right)
            (is_call a.strength a.tree dot.span x.span p.span q.span x.text (expressions_of es.trees) u v h.spelled le at.1 g.spelled);
        strong = refl;
        deep = rw (h.deep, g.deep) refl;
        shallow = omega (arith, h.shallow, g.shallow);
        flat = omega (arith, h.flat, g.flat);
      }

  pub object_piece : (r x p q : Lexeme) (es : Listed) (v : List Lexeme) → lexeme_mark note r ≡ m.New → lexeme_mark note x ≡ m.Name → lexeme_mark note p ≡ m.LeftParen
      → lexeme_mark note q ≡ m.RightParen → AreSpelled note room k v es → IsSpelled note (suc room) k (r ∷ x ∷ p ∷ (v ++ q ∷ [])) (object_of r x es q)
  object_piece r x p q es v first named left right h =
      let at = marked note m.Name x named in
      record {
        spelled = rw (marked note m.New r first, at.0, marked note m.LeftParen p left, marked note m.RightParen q right)
            (is_new_object r.span x.span p.span q.span x.text (expressions_of es.trees) v at.1 h.spelled);
        strong = refl;
        deep = rw h.deep refl;
        shallow = omega (arith, h.shallow);
        flat = h.flat;
      }

  pub array_piece : (r x p q : Lexeme) (n : Parsed) (v : List Lexeme) → lexeme_mark note r ≡ m.New → Typed note x → lexeme_mark note p ≡ m.LeftBracket
      → lexeme_mark note q ≡ m.RightBracket → IsSpelled note room k v n
      → IsSpelled note (suc room) k (r ∷ x ∷ p ∷ (v ++ q ∷ [])) (over 11 n (new_array (join r.span q.span) (word_of x) n.tree))
  array_piece r x p q n v first typed left right h = record {
    spelled = rw (marked note m.New r first, typed.at, marked note m.LeftBracket p left, marked note m.RightBracket q right)
        (is_new_array r.span x.span p.span q.span x.text n.strength n.tree v typed.typed h.spelled);
    strong = refl;
    deep = ap (λ (n : ℕ). n + 1) h.deep;
    shallow = omega (arith, h.shallow);
    flat = h.flat;
  }

  pub old_piece : (r p q : Lexeme) (e : Parsed) (u : List Lexeme) → lexeme_mark note r ≡ m.Old → lexeme_mark note p ≡ m.LeftParen → lexeme_mark note q ≡ m.RightParen → IsSpelled note room k u e
      → IsSpelled note (suc room) k (r ∷ p ∷ (u ++ q ∷ [])) (over 12 e (old (join r.span q.span) e.tree))
  old_piece r p q e u first left right h =
      let at = marked note m.Old r first in
      record {
        spelled = rw (at.1, marked note m.LeftParen p left, marked note m.RightParen q right) (is_old at.0 r.span p.span q.span e.strength e.tree u h.spelled);
        strong = refl;
        deep = ap (λ (n : ℕ). n + 1) h.deep;
        shallow = omega (arith, h.shallow);
        flat = h.flat;
      }

  pub fresh_piece : (r p q : Lexeme) (e : Parsed) (u : List Lexeme) → lexeme_mark note r ≡ m.Fresh → lexeme_mark note p ≡ m.LeftParen → lexeme_mark note q ≡ m.RightParen → IsSpelled note room k u e
      → IsSpelled note (suc room) k (r ∷ p ∷ (u ++ q ∷ [])) (over 12 e (fresh (join r.span q.span) e.tree))
  fresh_piece r p q e u first left right h =
      let at = marked note m.Fresh r first in
      record {
        spelled = rw (at.1, marked note m.LeftParen p left, marked note m.RightParen q right) (is_fresh at.0 r.span p.span q.span e.strength e.tree u h.spelled);
        strong = refl;
        deep = ap (λ (n : ℕ). n + 1) h.deep;
        shallow = omega (arith, h.shallow);
        flat = h.flat;
      }

-- ---- types

pub plain_type : (note : Bool) (x : Lexeme) → Typed note x → SpellsType note (type_tree x.span x.text false) (x ∷ [])
plain_type note x typed = rw typed.at (is_plain_type x.span x.text typed.typed)

pub array_type : (note : Bool) (x p q : Lexeme) → Typed note x → lexeme_mark note p ≡ m.LeftBracket → lexeme_mark note q ≡ m.RightBracket
    → SpellsType note (type_tree (join x.span q.span) x.text true) (x ∷ p ∷ q ∷ [])
array_type note x p q typed left right =
    rw (typed.at, marked note m.LeftBracket p left, marked note m.RightBracket q right) (is_array_type x.span p.span q.span x.text typed.typed)

-- ---- quantifiers

-- the bounds of a quantifier's variable: the lower bound, its sign, the name, `&&`, the name again, its sign and the upper bound
pub record AreBounds (note : Bool) (room k : ℕ) (text : List ℕ) (u : List Lexeme) (b : Bounds) : Type 0 where
  pub low_part : List Lexeme
  pub low_sign : Lexeme
  pub first : Lexeme
  pub joint : Lexeme
  pub second : Lexeme
  pub high_sign : Lexeme
  pub high_part : List Lexeme
  pub parts : u ≡ low_part ++ low_sign ∷ first ∷ joint ∷ second ∷ high_sign ∷ high_part
  pub low : IsSpelled note room k low_part b.low
  pub low_tight : 8 ≤ b.low.strength
  pub low_bound : Bounding note b.low_strict low_sign
  pub first_name : lexeme_mark note first ≡ m.Name
  pub first_same : first.text ≡ text
  pub joined : lexeme_mark note joint ≡ m.And
  pub second_name : lexeme_mark note second ≡ m.Name
  pub second_same : second.text ≡ text
  pub high_bound : Bounding note b.high_strict high_sign
  pub high : IsSpelled note room k high_part b.high
  pub high_tight : 8 ≤ b.high.strength
