-- What the rules of types and of arguments take.
use Rattle.std.proofs.Common.{◌≡◌, ℕ, zero, suc, Bool, List, [], ◌∷◌, ◌++◌, refl, sym, ap, ◌∙◌, append_assoc, arith}
use Rattle.jesc_text.specs.declared.place.Span.{Span}
use Rattle.jesc_ast.specs.declared.word.TypeTree.{TypeTree}
use Rattle.jesc_ast.specs.Lexemes.{Lexeme}
use Rattle.jesc_ast.specs.Trees.{Receiver}
use Rattle.jesc_ast.specs.Expressions.{SpellsType}
use Rattle.jesc_jml_grammar.specs.declared.mark.Mark.TheVariants as m
use Rattle.jesc_jml_grammar.specs.Marks.{lexeme_mark}
use Rattle.jesc_jml_grammar.specs.Steps.{Parser, mark_at, take_one, same_mark, expect}
use Rattle.jesc_jml_grammar.specs.Reading as spec
use Rattle.jesc_jml_grammar.specs.Reading.{Parsed, Listed, Start, at_first, is_type_mark, with_last, nothing, call_of}
use Rattle.jesc_jml_parser.specs.laws.SoundLexemes.{Typed, typed}
use Rattle.jesc_jml_parser.specs.laws.SoundPieces.{AreSpelled, plain_type, array_type}
use Rattle.jesc_jml_parser.specs.laws.SoundLists.{AreSome, some_piece, none_piece, first_piece, next_piece}
use Rattle.jesc_jml_parser.specs.laws.SoundSteps.{Gives, gives_bind, gives_if, gives_so, Took, took_one, took, TakesWhole}

-- a type behind its first word
pub record TakenType (note : Bool) (x : Lexeme) (ts : List Lexeme) (t : TypeTree) (rest : List Lexeme) : Type 0 where
  pub taken : List Lexeme
  pub parts : ts ≡ taken ++ rest
  pub spelled : SpellsType note t (x ∷ taken)
  pub base : t.base ≡ x.text

-- the first word of a type
pub record TakenWord (note : Bool) (ts : List Lexeme) (x : Lexeme) (rest : List Lexeme) : Type 0 where
  pub at : ts ≡ x ∷ rest
  pub mark : lexeme_mark note x ≡ mark_at note ts
  pub typed : Typed note x

-- a whole type
pub record TakenWholeType (note : Bool) (ts : List Lexeme) (t : TypeTree) (rest : List Lexeme) : Type 0 where
  pub taken : List Lexeme
  pub parts : ts ≡ taken ++ rest
  pub spelled : SpellsType note t taken

-- arguments, with commas between
pub record TakenList (note : Bool) (room k : ℕ) (ts : List Lexeme) (es : Listed) (rest : List Lexeme) : Type 0 where
  pub taken : List Lexeme
  pub parts : ts ≡ taken ++ rest
  pub is : AreSpelled note room k taken es

-- arguments in parentheses, behind the name of a method
pub record TakenCall (note : Bool) (room k : ℕ) (first : Span) (receiver : Receiver) (depth : ℕ) (x : Lexeme) (ts : List Lexeme) (p : Parsed) (rest : List Lexeme) : Type 0 where
  pub left : Lexeme
  pub part : List Lexeme
  pub right : Lexeme
  pub trees : Listed
  pub parts : ts ≡ (left ∷ (part ++ right ∷ [])) ++ rest
  pub left_mark : lexeme_mark note left ≡ m.LeftParen
  pub right_mark : lexeme_mark note right ≡ m.RightParen
  pub is : AreSpelled note room k part trees
  pub made : p ≡ call_of first receiver depth x trees right

module _ (note : Bool) (limit room : ℕ) (inner : ℕ → ℕ → Start → Parser Parsed) (reads : TakesWhole note room inner) (k : ℕ) where
  -- ---- types

  pub type_behind_takes : (x : Lexeme) → Typed note x → (ts : List Lexeme) → Gives (spec.type_behind note limit room inner k x ts) (TakenType note x ts)
  unfolding spec.type_behind
  type_behind_takes x is ts =
      gives_if (same_mark (mark_at note ts) m.LeftBracket) _ _ (TakenType note x ts) ts
      (λ e.
      gives_bind _ _ (expect note m.LeftBracket ts) (took note m.LeftBracket ts) (λ p mid left.
      gives_bind _ _ (expect note m.RightBracket mid) (took note m.RightBracket mid) (λ q rest right.
      record { taken = p ∷ q ∷ []; parts = rw (left.at, right.at) refl; spelled = array_type note x p q is left.mark right.mark; base = refl })))
      (λ e. record { taken = []; parts = refl; spelled = plain_type note x is; base = refl })

  pub type_word_takes : (ts : List Lexeme) → Gives (spec.type_word note limit room inner k ts) (TakenWord note ts)
  unfolding spec.type_word
  type_word_takes ts =
      gives_if (is_type_mark (mark_at note ts)) _ _ (TakenWord note ts) ts
      (λ e. gives_so (Took note (mark_at note ts) ts) (TakenWord note ts) (take_one ts) (took_one note ts) (λ x rest h.
      record { at = h.at; mark = h.mark; typed = typed note (mark_at note ts) e x h.mark }))
      (λ e. tt)

  pub type_takes : (ts : List Lexeme) → Gives (spec.type_ note limit room inner k ts) (TakenWholeType note ts)
  unfolding spec.type_
  type_takes ts =
      gives_bind _ _ (spec.type_word note limit room inner k ts) (type_word_takes ts) (λ x mid h.
      gives_so (TakenType note x mid) (TakenWholeType note ts) (spec.type_behind note limit room inner k x mid) (type_behind_takes x h.typed mid) (λ t rest g.
      record { taken = x ∷ g.taken; parts = h.at ∙ ap (λ (z : List Lexeme). x ∷ z) g.parts; spelled = g.spelled }))

  -- ---- arguments

  more_takes : (all : List Lexeme) (n : ℕ) (es : Listed) (u ts : List Lexeme) → all ≡ u ++ ts → AreSome note room k u es
      → Gives (spec.more_arguments note limit room inner k n es ts) (TakenList note room k all)
  unfolding spec.more_arguments
  more_takes all zero es u ts parts h = tt
  more_takes all (suc n) es u ts parts h =
      gives_if (same_mark (mark_at note ts) m.Comma) _ _ (TakenList note room k all) ts
      (λ e.
      gives_bind _ _ (expect note m.Comma ts) (took note m.Comma ts) (λ x mid comma.
      gives_bind _ _ (inner k 1 at_first mid) (reads k 1 (omega arith) at_first tt mid) (λ e rest g.
      more_takes all n (with_last es e) (u ++ x ∷ g.taken) rest
      (rw (parts, comma.at, g.parts) (sym (append_assoc u (x ∷ g.taken) rest)))
      (next_piece note room k u g.taken x es e h comma.mark g.is))))
      (λ e. record { taken = u; parts = parts; is = some_piece note room k u es h })

  some_takes : (ts : List Lexeme) → Gives (spec.some_arguments note limit room inner k ts) (TakenList note room k ts)
  unfolding spec.some_arguments
  some_takes ts =
      gives_bind _ _ (inner k 1 at_first ts) (reads k 1 (omega arith) at_first tt ts) (λ e rest h.
      more_takes ts limit (with_last nothing e) h.taken rest h.parts (first_piece note room k h.taken e h.is))

  pub arguments_takes : (ts : List Lexeme) → Gives (spec.arguments note limit room inner k ts) (TakenList note room k ts)
  unfolding spec.arguments
  arguments_takes ts =
      gives_if (same_mark (mark_at note ts) m.RightParen) _ _ (TakenList note room k ts) ts
      (λ e. record { taken = []; parts = refl; is = none_piece note room k })
      (λ e. some_takes ts)

  pub called_takes : (first : Span) (receiver : Receiver) (depth : ℕ) (x : Lexeme) (ts : List Lexeme)
      → Gives (spec.called note limit room inner k first receiver depth x ts) (TakenCall note room k first receiver depth x ts)
  unfolding spec.called
  called_takes first receiver depth x ts =
      gives_bind _ _ (expect note m.LeftParen ts) (took note m.LeftParen ts) (λ p mid left.
      gives_bind _ _ (spec.arguments note limit room inner k mid) (arguments_takes mid) (λ es end h.
      gives_bind _ _ (expect note m.RightParen end) (took note m.RightParen end) (λ q rest right.
      record {
        left = p;
        part = h.taken;
        right = q;
        trees = es;
        parts = rw (left.at, h.parts, right.at) (sym (simp append_assoc));
        left_mark = left.mark;
        right_mark = right.mark;
        is = h.is;
        made = refl;
      })))
