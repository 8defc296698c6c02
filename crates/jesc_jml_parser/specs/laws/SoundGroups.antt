-- What the rules of casts and of parentheses take.
use Rattle.std.proofs.Common.{◌≡◌, ℕ, suc, ◌≤◌, ◌<◌, Bool, true, false, List, [], ◌∷◌, ◌++◌, length, refl, sym, ap, ◌∙◌, subst, append_assoc, arith}
use Rattle.std.proofs.lemmas.Bool.{leb-true, and_parts}
use Rattle.std.specs.Prelude.{IsTrue, ◌||◌, ◌&&◌}
use Rattle.jesc_ast.specs.declared.word.TypeTree.{TypeTree}
use Rattle.jesc_ast.specs.Lexemes.{Lexeme, join}
use Rattle.jesc_ast.specs.Trees.{name}
use Rattle.jesc_ast.specs.Words.{is_primitive}
use Rattle.jesc_ast.specs.Expressions.{type_tree, SpellsType, is_cast_before, begins_cast}
use Rattle.jesc_jml_grammar.specs.declared.mark.Mark.{Mark}
use Rattle.jesc_jml_grammar.specs.declared.mark.Mark.TheVariants as m
use Rattle.jesc_jml_grammar.specs.Marks.{lexeme_mark}
use Rattle.jesc_jml_grammar.specs.Steps.{Parser, mark_at, same_mark, expect}
use Rattle.jesc_jml_grammar.specs.Reading as spec
use Rattle.jesc_jml_grammar.specs.Reading.{Parsed, Start, at_first, behind_name, behind_bracket, casts, allows_prefix, leaf}
use Rattle.jesc_jml_parser.specs.laws.Lengths.{depth_below}
use Rattle.jesc_jml_parser.specs.laws.SoundLexemes.{Typed, typed, is_primitive_mark, primitive, casting}
use Rattle.jesc_jml_parser.specs.laws.SoundPieces.{IsSpelled, depth_some, name_piece, paren_piece, cast_piece, plain_type, array_type}
use Rattle.jesc_jml_parser.specs.laws.SoundSteps.{Gives, gives_bind, gives_if, gives_so, took, start_lexemes, IsStart, Taken, TakesWhole}
use Rattle.jesc_jml_parser.specs.laws.SoundCalls.{type_behind_takes, type_word_takes}

-- ---- what makes a cast

or_first : (a b c : Bool) → a ≡ true → (a || b || c) ≡ true
or_first true b c e = refl
or_first false b c e = absurd cc

or_middle : (a c : Bool) → (a || true || c) ≡ true
or_middle true c = refl
or_middle false c = refl

or_last : (a b c : Bool) → c ≡ true → (a || b || c) ≡ true
or_last true b c e = refl
or_last false true c e = refl
or_last false false c e = e

begins : (note : Bool) (ts v rest : List Lexeme) → casts (mark_at note ts) ≡ true → ts ≡ v ++ rest → 1 ≤ length v → begins_cast v ≡ true
unfolding mark_at
begins note ts [] rest e parts some = absurd (omega arith)
begins note ts (x ∷ v) rest e parts some = casting note (mark_at note ts) e x (sym (ap (mark_at note) parts))

-- ---- a lexeme more before the others

pub joined : (note : Bool) (room k least : ℕ) (before ts mid : List Lexeme) (x : Lexeme) → ts ≡ x ∷ mid → (e : Parsed) (rest : List Lexeme)
    → Taken note room k least (before ++ x ∷ []) mid e rest → Taken note room k least before ts e rest
joined note room k least before ts mid x at e rest h = record {
  taken = x ∷ h.taken;
  parts = at ∙ ap (λ (z : List Lexeme). x ∷ z) h.parts;
  is = subst (λ (z : List Lexeme). IsSpelled note room k z e) (append_assoc before (x ∷ []) h.taken) h.is;
  tight = h.tight;
}

module _ (note : Bool) (limit room : ℕ) (inner : ℕ → ℕ → Start → Parser Parsed) (reads : TakesWhole note room inner) (k : ℕ) where
  -- ---- casts

  cast_takes : (least : ℕ) → least ≤ 10 → (p q : Lexeme) → lexeme_mark note p ≡ m.LeftParen → lexeme_mark note q ≡ m.RightParen → (t : TypeTree) (u : List Lexeme) → SpellsType note t u
      → (ts : List Lexeme) → ((v rest : List Lexeme) → ts ≡ v ++ rest → 1 ≤ length v → IsTrue (is_cast_before t v))
      → Gives (spec.cast_operand note limit room inner k p t ts) (Taken note (suc room) k least (p ∷ (u ++ q ∷ [])) ts)
  unfolding spec.cast_operand
  cast_takes least le p q left right t u typed_so ts before =
      gives_bind _ _ (inner k 10 at_first ts) (reads k 10 (omega arith) at_first tt ts) (λ e rest h.
      let some : 1 ≤ length h.taken = omega (arith, depth_below note e.strength e.tree h.taken h.is.spelled, depth_some e.tree) in
      record {
        taken = h.taken;
        parts = h.parts;
        is = simp append_assoc (cast_piece note room k p q t e u h.taken left right typed_so (h.tight (omega arith)) (before h.taken rest h.parts some) h.is);
        tight = λ less. omega arith;
      })

  cast_behind_takes : (least : ℕ) → least ≤ 10 → (p x : Lexeme) → lexeme_mark note p ≡ m.LeftParen → Typed note x → IsTrue (is_primitive x.text) → (ts : List Lexeme)
      → Gives (spec.cast_behind note limit room inner k p x ts) (Taken note (suc room) k least (p ∷ x ∷ []) ts)
  unfolding spec.cast_behind
  cast_behind_takes least le p x left is basic ts =
      gives_bind _ _ (spec.type_behind note limit room inner k x ts) (type_behind_takes note limit room inner reads k x is ts) (λ t mid h.
      gives_bind _ _ (expect note m.RightParen mid) (took note m.RightParen mid) (λ q end right.
      gives_so (Taken note (suc room) k least (p ∷ ((x ∷ h.taken) ++ q ∷ [])) end) (Taken note (suc room) k least (p ∷ x ∷ []) ts) (spec.cast_operand note limit room inner k p t end)
      (cast_takes least le p q left right.mark t (x ∷ h.taken) h.spelled end (λ v rest parts some. or_first (is_primitive t.base) t.array (begins_cast v) (ap is_primitive h.base ∙ basic)))
      (λ e rest g. record {
        taken = h.taken ++ q ∷ g.taken;
        parts = rw (h.parts, right.at, g.parts) (sym (simp append_assoc));
        is = simp append_assoc at g.is;
        tight = g.tight;
      })))

  typed_cast_takes : (least : ℕ) → least ≤ 10 → (p : Lexeme) → lexeme_mark note p ≡ m.LeftParen → (ts : List Lexeme) → is_primitive_mark (mark_at note ts) ≡ true
      → Gives (spec.typed_cast note limit room inner k p ts) (Taken note (suc room) k least (p ∷ []) ts)
  unfolding spec.typed_cast
  typed_cast_takes least le p left ts basic =
      gives_bind _ _ (spec.type_word note limit room inner k ts) (type_word_takes note limit room inner reads k ts) (λ x mid h.
      gives_so (Taken note (suc room) k least (p ∷ x ∷ []) mid) (Taken note (suc room) k least (p ∷ []) ts) (spec.cast_behind note limit room inner k p x mid)
      (cast_behind_takes least le p x left h.typed (primitive note (mark_at note ts) basic x h.mark) mid)
      (joined note (suc room) k least (p ∷ []) ts mid x h.at))

  array_cast_takes : (least : ℕ) → least ≤ 10 → (p x b : Lexeme) → lexeme_mark note p ≡ m.LeftParen → lexeme_mark note x ≡ m.Name → lexeme_mark note b ≡ m.LeftBracket → (ts : List Lexeme)
      → Gives (spec.array_cast note limit room inner k p x ts) (Taken note (suc room) k least (p ∷ x ∷ b ∷ []) ts)
  unfolding spec.array_cast
  array_cast_takes least le p x b left named bracket ts =
      gives_bind _ _ (expect note m.RightBracket ts) (took note m.RightBracket ts) (λ q mid close.
      gives_bind _ _ (expect note m.RightParen mid) (took note m.RightParen mid) (λ r end right.
      gives_so (Taken note (suc room) k least (p ∷ x ∷ b ∷ q ∷ r ∷ []) end) (Taken note (suc room) k least (p ∷ x ∷ b ∷ []) ts)
      (spec.cast_operand note limit room inner k p (type_tree (join x.span q.span) x.text true) end)
      (cast_takes least le p r left right.mark (type_tree (join x.span q.span) x.text true) (x ∷ b ∷ q ∷ []) (array_type note x b q (typed note m.Name refl x named) bracket close.mark)
      end (λ v rest parts some. or_middle (is_primitive x.text) (begins_cast v)))
      (λ e rest g. record {
        taken = q ∷ r ∷ g.taken;
        parts = rw (close.at, right.at, g.parts) refl;
        is = g.is;
        tight = g.tight;
      })))

  -- ---- parentheses

  pub grouped_takes : (least : ℕ) (p : Lexeme) → lexeme_mark note p ≡ m.LeftParen → (start : Start) → IsStart note start → (ts : List Lexeme)
      → Gives (spec.grouped note limit room inner k p start ts) (Taken note (suc room) k least (p ∷ start_lexemes start) ts)
  unfolding spec.grouped
  grouped_takes least p left start known ts =
      gives_bind _ _ (inner k 1 start ts) (reads k 1 (omega arith) start known ts) (λ e mid h.
      gives_bind _ _ (expect note m.RightParen mid) (took note m.RightParen mid) (λ q rest right.
      record {
        taken = h.taken ++ q ∷ [];
        parts = rw (h.parts, right.at) (sym (simp append_assoc));
        is = simp append_assoc at (paren_piece note room k p q e (start_lexemes start ++ h.taken) left right.mark h.is);
        tight = λ less. omega arith;
      }))

  closed_name_takes : (least : ℕ) (p x : Lexeme) → lexeme_mark note p ≡ m.LeftParen → lexeme_mark note x ≡ m.Name → 0 < room → (ts : List Lexeme)
      → Gives (spec.closed_name note limit room inner k least p x ts) (Taken note (suc room) k least (p ∷ x ∷ []) ts)
  unfolding spec.closed_name
  closed_name_takes least p x left named some ts =
      gives_bind _ _ (expect note m.RightParen ts) (took note m.RightParen ts) (λ q mid right.
      gives_if (casts (mark_at note mid) && allows_prefix least) _ _ (Taken note (suc room) k least (p ∷ x ∷ []) ts) mid
      (λ e.
      let both = and_parts (casts (mark_at note mid)) (allows_prefix least) e in
      gives_so (Taken note (suc room) k least (p ∷ x ∷ q ∷ []) mid) (Taken note (suc room) k least (p ∷ x ∷ []) ts) (spec.cast_operand note limit room inner k p (type_tree x.span x.text false) mid)
      (cast_takes least (leb-true least 10 both.1) p q left right.mark (type_tree x.span x.text false) (x ∷ []) (plain_type note x (typed note m.Name refl x named)) mid
      (λ v rest parts one. or_last (is_primitive x.text) false (begins_cast v) (begins note mid v rest both.0 parts one)))
      (joined note (suc room) k least (p ∷ x ∷ []) ts mid q right.at))
      (λ e. record {
        taken = q ∷ [];
        parts = right.at;
        is = paren_piece note room k p q (leaf (name x.span x.text)) (x ∷ []) left right.mark (name_piece note room k x named some);
        tight = λ less. omega arith;
      }))

  bracketed_name_takes : (least : ℕ) (p x : Lexeme) → lexeme_mark note p ≡ m.LeftParen → lexeme_mark note x ≡ m.Name → (ts : List Lexeme)
      → Gives (spec.bracketed_name note limit room inner k least p x ts) (Taken note (suc room) k least (p ∷ x ∷ []) ts)
  unfolding spec.bracketed_name
  bracketed_name_takes least p x left named ts =
      gives_bind _ _ (expect note m.LeftBracket ts) (took note m.LeftBracket ts) (λ b mid bracket.
      gives_if (same_mark (mark_at note mid) m.RightBracket && allows_prefix least) _ _ (Taken note (suc room) k least (p ∷ x ∷ []) ts) mid
      (λ e.
      let both = and_parts (same_mark (mark_at note mid) m.RightBracket) (allows_prefix least) e in
      gives_so (Taken note (suc room) k least (p ∷ x ∷ b ∷ []) mid) (Taken note (suc room) k least (p ∷ x ∷ []) ts) (spec.array_cast note limit room inner k p x mid)
      (array_cast_takes least (leb-true least 10 both.1) p x b left named bracket.mark mid)
      (joined note (suc room) k least (p ∷ x ∷ []) ts mid b bracket.at))
      (λ e.
      gives_so (Taken note (suc room) k least (p ∷ x ∷ b ∷ []) mid) (Taken note (suc room) k least (p ∷ x ∷ []) ts) (spec.grouped note limit room inner k p (behind_bracket x b) mid)
      (grouped_takes least p left (behind_bracket x b) (named, bracket.mark) mid)
      (joined note (suc room) k least (p ∷ x ∷ []) ts mid b bracket.at)))

  behind_name_takes : (least : ℕ) (p x : Lexeme) → lexeme_mark note p ≡ m.LeftParen → lexeme_mark note x ≡ m.Name → 0 < room → (mark : Mark) (ts : List Lexeme)
      → Gives (spec.behind_name_by note limit room inner k least p x mark ts) (Taken note (suc room) k least (p ∷ x ∷ []) ts)
  behind_name_takes least p x left named some m.RightParen ts = closed_name_takes least p x left named some ts
  behind_name_takes least p x left named some m.LeftBracket ts = bracketed_name_takes least p x left named ts
  behind_name_takes least p x left named some _ ts = grouped_takes least p left (behind_name x) named ts

  pub named_group_takes : (least : ℕ) (p : Lexeme) → lexeme_mark note p ≡ m.LeftParen → 0 < room → (ts : List Lexeme)
      → Gives (spec.named_group note limit room inner k least p ts) (Taken note (suc room) k least (p ∷ []) ts)
  unfolding spec.named_group
  named_group_takes least p left some ts =
      gives_bind _ _ (expect note m.Name ts) (took note m.Name ts) (λ x mid named.
      gives_so (Taken note (suc room) k least (p ∷ x ∷ []) mid) (Taken note (suc room) k least (p ∷ []) ts) (spec.behind_name_by note limit room inner k least p x (mark_at note mid) mid)
      (behind_name_takes least p x left named.mark some (mark_at note mid) mid)
      (joined note (suc room) k least (p ∷ []) ts mid x named.at))

  pub typed_group_takes : (least : ℕ) (p : Lexeme) → lexeme_mark note p ≡ m.LeftParen → (ts : List Lexeme) → is_primitive_mark (mark_at note ts) ≡ true
      → Gives (spec.typed_group note limit room inner k least p ts) (Taken note (suc room) k least (p ∷ []) ts)
  typed_group_takes least p left ts basic =
      gives_if (allows_prefix least) _ _ (Taken note (suc room) k least (p ∷ []) ts) ts
      (λ e. typed_cast_takes least (leb-true least 10 e) p left ts basic)
      (λ e. grouped_takes least p left at_first tt ts)
