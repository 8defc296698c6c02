-- What goes on with a left operand is read: operators, tests of a type, members, calls and indices.
use Rattle.std.proofs.Common.{◌≡◌, ℕ, ◌≤◌, Bool, true, false, not, ◌&&◌, List, [], ◌∷◌, ◌++◌, codes, Ok, refl, ap, ◌∙◌, append_assoc, arith, IsTrue}
use Rattle.jesc_text.specs.declared.place.Span.{Span}
use Rattle.jesc_ast.specs.declared.word.TypeTree.{TypeTree}
use Rattle.jesc_ast.specs.Lexemes.{Lexeme, word, chosen_word, chosen_sign, sign, kept, join}
use Rattle.jesc_ast.specs.Words.{is_name, is_type_word}
use Rattle.jesc_ast.specs.Trees.{Expression, member, index, binary, choose, instance_of, call, Expressions, on}
use Rattle.jesc_ast.specs.Expressions.{span_of, type_tree, Spells, SpellsType, is_plain_type, is_array_type, IsOperator, is_equivalence}
use Rattle.jesc_ast.specs.Depth.{depth}
use Rattle.jesc_jml_grammar.specs.declared.mark.Mark.{Mark}
use Rattle.jesc_jml_grammar.specs.declared.mark.Mark.TheVariants as m
use Rattle.jesc_jml_grammar.specs.Marks.{sign_mark}
use Rattle.jesc_jml_grammar.specs.Steps.{Parser, mark_at, same_mark, take_one}
use Rattle.jesc_jml_grammar.specs.Reading as spec
use Rattle.jesc_jml_grammar.specs.Reading.{Parsed, Start, at_first, casts, binds, needs, right_of, over, over_two, over_three, word_of, expr}
use Rattle.jesc_jml_parser.specs.laws.Edges.{operator_mark}
use Rattle.jesc_jml_parser.specs.laws.CompleteMarks.{sign_at, word_at, type_word_at, took, took_sign, took_name}
use Rattle.jesc_jml_parser.specs.laws.CompleteEdges.{closed_edge, positive}
use Rattle.jesc_jml_parser.specs.laws.CompleteSteps.{parsed, IsRead, Climbs, climbs_further}
use Rattle.jesc_jml_parser.specs.laws.CompleteArguments.{IsReadAsArguments, ended, closes_bracket, closes_colon, finished, call_read}

-- ---- the rules

module _ (note : Bool) (limit room : ℕ) (inner : ℕ → ℕ → Start → Parser Parsed) (quantifiers : ℕ) where
  operated_is : (a b : Parsed) (mark : Mark) (op : Lexeme) (ts rest : List Lexeme) → inner quantifiers (right_of mark) at_first ts ≡ Ok (b, rest)
      → spec.operated note limit room inner quantifiers a mark (op ∷ ts)
      ≡ Ok (over_two (binds mark) a b (binary (join (span_of a.tree) (span_of b.tree)) (word_of op) a.tree b.tree), rest)
  unfolding spec.operated take_one
  operated_is a b mark op ts rest read = rw read refl

  chosen_is : (c a b : Parsed) (p q : Span) (ts us rest : List Lexeme) → inner quantifiers 1 at_first ts ≡ Ok (a, sign note ":" q ∷ us) → inner quantifiers 1 at_first us ≡ Ok (b, rest)
      → spec.chosen note limit room inner quantifiers c (sign note "?" p ∷ ts)
      ≡ Ok (over_three 1 c a b (choose (join (span_of c.tree) (span_of b.tree)) c.tree p a.tree b.tree), rest)
  unfolding spec.chosen
  chosen_is c a b p q ts us rest one two = rw (took_sign note m.Question (codes "?") p ts refl, one, took_sign note m.Colon (codes ":") q us refl, two) refl

  indexed_is : (a i : Parsed) (p q : Span) (ts rest : List Lexeme) → inner quantifiers 1 at_first ts ≡ Ok (i, sign note "]" q ∷ rest)
      → spec.indexed note limit room inner quantifiers a (sign note "[" p ∷ ts) ≡ Ok (over_two 12 a i (index (join (span_of a.tree) q) a.tree p i.tree), rest)
  unfolding spec.indexed spec.indexed_behind
  indexed_is a i p q ts rest read = rw (took_sign note m.LeftBracket (codes "[") p ts refl, read, took_sign note m.RightBracket (codes "]") q rest refl) refl

  member_is : (a : Parsed) (dot s : Span) (x : List ℕ) (rest : List Lexeme) → IsTrue (is_name x) → same_mark (mark_at note rest) m.LeftParen ≡ false
      → spec.dotted note limit room inner quantifiers a (sign note "." dot ∷ chosen_word note x s ∷ rest)
      ≡ Ok (over 12 a (member (join (span_of a.tree) s) a.tree dot (kept note x s)), rest)
  unfolding spec.dotted spec.after_member
  member_is a dot s x rest t alone = rw (took_sign note m.Dot (codes ".") dot (chosen_word note x s ∷ rest) refl, took_name note x s rest t, alone) refl

  call_is : (a : Parsed) (dot s p : Span) (x : List ℕ) (ts : List Lexeme) → IsTrue (is_name x)
      → spec.dotted note limit room inner quantifiers a (sign note "." dot ∷ chosen_word note x s ∷ sign note "(" p ∷ ts)
      ≡ spec.called note limit room inner quantifiers (span_of a.tree) (on a.tree dot) a.depth (chosen_word note x s) (sign note "(" p ∷ ts)
  unfolding spec.dotted spec.after_member mark_at same_mark
  call_is a dot s p x ts t =
      rw (took_sign note m.Dot (codes ".") dot (chosen_word note x s ∷ sign note "(" p ∷ ts) refl, took_name note x s (sign note "(" p ∷ ts) t, sign_at note (codes "(") p) refl

  pub type_word_is : (x : List ℕ) (s : Span) (ts : List Lexeme) → IsTrue (is_type_word x)
      → spec.type_word note limit room inner quantifiers (chosen_word note x s ∷ ts) ≡ Ok (chosen_word note x s, ts)
  unfolding spec.type_word take_one mark_at
  type_word_is x s ts t = rw (type_word_at note x s t) refl

  pub plain_behind : (x : Lexeme) (rest : List Lexeme) → same_mark (mark_at note rest) m.LeftBracket ≡ false
      → spec.type_behind note limit room inner quantifiers x rest ≡ Ok (type_tree x.span x.text false, rest)
  unfolding spec.type_behind
  plain_behind x rest none = rw none refl

  pub array_behind : (x : Lexeme) (p q : Span) (rest : List Lexeme)
      → spec.type_behind note limit room inner quantifiers x (sign note "[" p ∷ sign note "]" q ∷ rest) ≡ Ok (type_tree (join x.span q) x.text true, rest)
  unfolding spec.type_behind mark_at same_mark
  array_behind x p q rest =
      rw (sign_at note (codes "[") p, took_sign note m.LeftBracket (codes "[") p (sign note "]" q ∷ rest) refl, took_sign note m.RightBracket (codes "]") q rest refl) refl

  pub type_is : {t : TypeTree} {v : List Lexeme} → SpellsType note t v → (rest : List Lexeme) → (not t.array && same_mark (mark_at note rest) m.LeftBracket) ≡ false
      → spec.type_ note limit room inner quantifiers (v ++ rest) ≡ Ok (t, rest)
  unfolding spec.type_
  type_is (is_plain_type s x t) rest none = rw (type_word_is x s rest t) (plain_behind (chosen_word note x s) rest none)
  type_is (is_array_type s p q x t) rest none = rw (type_word_is x s (sign note "[" p ∷ sign note "]" q ∷ rest) t) (array_behind (chosen_word note x s) p q rest)

  tested_is : (a : Parsed) {t : TypeTree} {v : List Lexeme} → SpellsType note t v → (s : Span) (rest : List Lexeme)
      → (not t.array && same_mark (mark_at note rest) m.LeftBracket) ≡ false
      → spec.tested note limit room inner quantifiers a (word note "instanceof" s ∷ (v ++ rest)) ≡ Ok (over 7 a (instance_of (join (span_of a.tree) t.span) a.tree t), rest)
  unfolding spec.tested
  tested_is a {v = v} h s rest none =
      rw (took note m.InstanceOf (word note "instanceof" s) (v ++ rest) (word_at note (codes "instanceof") s), type_is h rest none) refl

-- ---- operators

record OperatorMark (note : Bool) (op : List ℕ) (k l r : ℕ) : Type 0 where
  at : sign_mark note op ≡ operator_mark op
  tight : binds (operator_mark op) ≡ k
  left : needs (operator_mark op) ≡ l
  right : right_of (operator_mark op) ≡ r
  no_cast : casts (operator_mark op) ≡ false
  weak : k ≤ l
  low : r ≤ 11
  rule : (limit room : ℕ) (inner : ℕ → ℕ → Start → Parser Parsed) (quantifiers : ℕ) (a : Parsed) (ts : List Lexeme)
      → spec.longer_by note limit room inner quantifiers a (operator_mark op) ts ≡ spec.operated note limit room inner quantifiers a (operator_mark op) ts

operator_is : {note : Bool} {op : List ℕ} {k l r : ℕ} → IsOperator note op k l r → OperatorMark note op k l r
operator_is is_equivalence =
    record { at = refl; tight = refl; left = refl; right = refl; no_cast = refl; weak = omega arith; low = omega arith; rule = λ limit room inner quantifiers a ts. refl }
operator_is _ =
    record { at = refl; tight = refl; left = refl; right = refl; no_cast = refl; weak = omega arith; low = omega arith; rule = λ limit room inner quantifiers a ts. refl }

pub binary_climbs : (note : Bool) (limit : ℕ) (op : List ℕ) (s : Span) (k l r m n : ℕ) (a b : Expression) (u v : List Lexeme) → IsOperator note op k l r
    → Spells note m a u → l ≤ m → Climbs note limit m a u → IsRead note limit n b v → r ≤ n
    → Climbs note limit k (binary (join (span_of a) (span_of b)) (kept note op s) a b) (u ++ chosen_sign note op s ∷ v)
binary_climbs note limit op s k l r m n a b u v is spelled strong left right tight =
    let M = operator_is is in
    let mark = operator_mark op in
    let e = binary (join (span_of a) (span_of b)) (kept note op s) a b in
    climbs_further note limit k m a e u (chosen_sign note op s) v mark left (sign_at note op s ∙ M.at) (λ least. closed_edge note spelled least mark M.no_cast (omega (arith, M.left)))
    (omega (arith, M.tight)) (omega (arith, M.left)) (omega (arith, M.weak)) (omega arith) (omega arith)
    (λ room quantifiers least rest le low deep nests inside.
    M.rule limit room (expr note limit room) quantifiers (parsed m a) (chosen_sign note op s ∷ (v ++ rest))
    ∙ operated_is note limit room (expr note limit room) quantifiers (parsed m a) (parsed n b) mark (chosen_sign note op s) (v ++ rest) rest
    (right.is room quantifiers (right_of mark) rest (omega (arith, M.right)) (omega (arith, M.right, M.low)) (omega arith) (omega arith) inside)
    ∙ ap (λ (z : ℕ). finished (over_two z (parsed m a) (parsed n b) e) rest) M.tight)

pub choose_climbs : (note : Bool) (limit : ℕ) (p q : Span) (k l n : ℕ) (c a b : Expression) (t u v : List Lexeme) → Spells note k c t → 2 ≤ k → Climbs note limit k c t
    → Spells note l a u → IsRead note limit l a u → Spells note n b v → IsRead note limit n b v
    → Climbs note limit 1 (choose (join (span_of c) (span_of b)) c p a b) (t ++ sign note "?" p ∷ (u ++ sign note ":" q ∷ v))
choose_climbs note limit p q k l n c a b t u v spelled strong left one one_read two two_read =
    climbs_further note limit 1 k c (choose (join (span_of c) (span_of b)) c p a b) t (sign note "?" p) (u ++ sign note ":" q ∷ v) m.Question left (sign_at note (codes "?") p)
    (λ least. closed_edge note spelled least m.Question refl (omega arith)) (omega arith) (omega arith) (omega arith) (omega arith) (omega arith)
    (λ room quantifiers least rest le low deep nests inside.
    chosen_is note limit room (expr note limit room) quantifiers (parsed k c) (parsed l a) (parsed n b) p q ((u ++ sign note ":" q ∷ v) ++ rest) (v ++ rest) rest
    (ap (expr note limit room quantifiers 1 at_first) (append_assoc u (sign note ":" q ∷ v) rest)
    ∙ one_read.is room quantifiers 1 (sign note ":" q ∷ (v ++ rest)) (positive note one) (omega arith) (omega arith) (omega arith)
    (ended note one 1 (omega arith) (codes ":") q (v ++ rest) closes_colon))
    (two_read.is room quantifiers 1 rest (positive note two) (omega arith) (omega arith) (omega arith) inside))

-- ---- tests of a type, members, indices and calls

pub instance_climbs : (note : Bool) (limit : ℕ) (s : Span) (n : ℕ) (e : Expression) (t : TypeTree) (u v : List Lexeme) → Spells note n e u → 7 ≤ n → Climbs note limit n e u
    → SpellsType note t v → Climbs note limit 7 (instance_of (join (span_of e) t.span) e t) (u ++ word note "instanceof" s ∷ v)
instance_climbs note limit s n e t u v spelled strong left type =
    climbs_further note limit 7 n e (instance_of (join (span_of e) t.span) e t) u (word note "instanceof" s) v m.InstanceOf left (word_at note (codes "instanceof") s)
    (λ least. closed_edge note spelled least m.InstanceOf refl (omega arith)) (omega arith) (omega arith) (omega arith) (omega arith) (omega arith)
    (λ room quantifiers least rest le low deep nests inside. tested_is note limit room (expr note limit room) quantifiers (parsed n e) type s rest inside)

pub member_climbs : (note : Bool) (limit n : ℕ) (e : Expression) (u : List Lexeme) (dot s : Span) (x : List ℕ) → Spells note n e u → 11 ≤ n → Climbs note limit n e u
    → IsTrue (is_name x) → Climbs note limit 12 (member (join (span_of e) s) e dot (kept note x s)) (u ++ sign note "." dot ∷ chosen_word note x s ∷ [])
member_climbs note limit n e u dot s x spelled strong left t =
    climbs_further note limit 12 n e (member (join (span_of e) s) e dot (kept note x s)) u (sign note "." dot) (chosen_word note x s ∷ []) m.Dot left (sign_at note (codes ".") dot)
    (λ least. closed_edge note spelled least m.Dot refl strong) (omega arith) strong (omega arith) (omega arith) (omega arith)
    (λ room quantifiers least rest le low deep nests inside. member_is note limit room (expr note limit room) quantifiers (parsed n e) dot s x rest t inside)

pub index_climbs : (note : Bool) (limit n k : ℕ) (e i : Expression) (u v : List Lexeme) (p q : Span) → Spells note n e u → 12 ≤ n → Climbs note limit n e u
    → Spells note k i v → IsRead note limit k i v → Climbs note limit 12 (index (join (span_of e) q) e p i) (u ++ sign note "[" p ∷ (v ++ sign note "]" q ∷ []))
index_climbs note limit n k e i u v p q spelled strong left inner read =
    climbs_further note limit 12 n e (index (join (span_of e) q) e p i) u (sign note "[" p) (v ++ sign note "]" q ∷ []) m.LeftBracket left (sign_at note (codes "[") p)
    (λ least. closed_edge note spelled least m.LeftBracket refl (omega arith)) (omega arith) (omega arith) (omega arith) (omega arith) (omega arith)
    (λ room quantifiers least rest le low deep nests inside.
    indexed_is note limit room (expr note limit room) quantifiers (parsed n e) (parsed k i) p q ((v ++ sign note "]" q ∷ []) ++ rest) rest
    (ap (expr note limit room quantifiers 1 at_first) (append_assoc v (sign note "]" q ∷ []) rest)
    ∙ read.is room quantifiers 1 (sign note "]" q ∷ rest) (positive note inner) (omega arith) (omega arith) (omega arith)
    (ended note inner 1 (omega arith) (codes "]") q rest closes_bracket)))

pub call_climbs : (note : Bool) (limit n : ℕ) (e : Expression) (dot s p q : Span) (x : List ℕ) (es : Expressions) (u v : List Lexeme) → Spells note n e u → 11 ≤ n → Climbs note limit n e u
    → IsTrue (is_name x) → IsReadAsArguments note limit es v
    → Climbs note limit 12 (call (join (span_of e) q) (on e dot) (kept note x s) es) (u ++ sign note "." dot ∷ chosen_word note x s ∷ sign note "(" p ∷ (v ++ sign note ")" q ∷ []))
call_climbs note limit n e dot s p q x es u v spelled strong left t read =
    climbs_further note limit 12 n e (call (join (span_of e) q) (on e dot) (kept note x s) es) u (sign note "." dot) (chosen_word note x s ∷ sign note "(" p ∷ (v ++ sign note ")" q ∷ []))
    m.Dot left (sign_at note (codes ".") dot) (λ least. closed_edge note spelled least m.Dot refl strong) (omega arith) strong (omega arith) (omega arith) (omega arith)
    (λ room quantifiers least rest le low deep nests inside.
    call_is note limit room (expr note limit room) quantifiers (parsed n e) dot s p x ((v ++ sign note ")" q ∷ []) ++ rest) t
    ∙ ap (λ (z : List Lexeme). spec.called note limit room (expr note limit room) quantifiers (span_of e) (on e dot) (depth e) (chosen_word note x s) (sign note "(" p ∷ z))
    (append_assoc v (sign note ")" q ∷ []) rest)
    ∙ call_read note limit room quantifiers (span_of e) (on e dot) (depth e) x s p q es v rest read (omega arith) (omega arith) refl)
