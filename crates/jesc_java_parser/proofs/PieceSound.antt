-- What the rules of simple statements take, and how deep the trees are that they give.
use Rattle.std.proofs.Common.{◌≡◌, ℕ, suc, ◌+◌, ◌-◌, ◌≤◌, ◌<◌, Bool, true, false, List, [], ◌∷◌, ◌++◌, refl, sym, ap, ◌∙◌, append_assoc, arith}
use Rattle.std.proofs.lemmas.Bool.{and_parts, ltb-true}
use Rattle.std.specs.Prelude.{◌&&◌, nat_lt}
use Rattle.jesc_text.specs.declared.place.Span.{Span}
use Rattle.jesc_ast.specs.Lexemes.{Lexeme}
use Rattle.jesc_ast.specs.Trees.{Statement}
use Rattle.jesc_ast.specs.Depth.{depth, nesting, of_statement}
use Rattle.jesc_ast.specs.Statements as grammar
use Rattle.jesc_ast.specs.Statements.{is_target, is_call, Simple, assigns, SpellsSimple, is_assignment, is_step_after, is_call_alone, may_begin_for, may_end_turn, is_loop, is_branch, is_assign_sign, is_step_sign}
use Rattle.jesc_jml_grammar.specs.declared.mark.Mark.{Mark}
use Rattle.jesc_jml_grammar.specs.declared.mark.Mark.TheVariants as m
use Rattle.jesc_jml_grammar.specs.Marks.{lexeme_mark}
use Rattle.jesc_jml_grammar.specs.Steps.{Parser, pure, refuse, too_deep, mark_at, same_mark, expect}
use Rattle.jesc_jml_grammar.specs.Reading as reading
use Rattle.jesc_jml_grammar.specs.Reading.{Parsed, Start, at_first, behind_name}
use Rattle.jesc_jml_parser.specs.laws.SoundPieces.{IsSpelled, depth_some}
use Rattle.jesc_jml_parser.specs.laws.SoundSteps.{Gives, gives_bind, gives_if, gives_so, took, Taken, TakesWhole}
use Rattle.jesc_jml_parser.specs.laws.SoundGroups.{joined, grouped_takes}
use Rattle.jesc_jml_parser.specs.laws.SoundQuantifiers.{quantified_takes}
use Rattle.jesc_jml_parser.specs.laws.SoundLonger.{climb_takes}
use Rattle.jesc_jml_parser.specs.laws.ClauseSoundLists.{TakenAs}
use Rattle.jesc_java_grammar.specs.declared.statement_mark.StatementMark.{StatementMark}
use Rattle.jesc_java_grammar.specs.declared.statement_mark.StatementMark.TheVariants as s
use Rattle.jesc_java_grammar.specs.Lexing.{take_if}
use Rattle.jesc_java_grammar.specs.StatementMarks.{statement_mark_at, is_assign, is_step}
use Rattle.jesc_java_grammar.specs.StatementReading as spec
use Rattle.jesc_java_grammar.specs.StatementReading.{Piece}
use Rattle.jesc_java_parser.proofs.LexingSound.{sign_that, took_if}

-- ---- what is read

-- a tree within these bounds
abbrev pub TakenTree : Bool → ℕ → ℕ → List Lexeme → Parsed → List Lexeme → Type 0
TakenTree note room k = TakenAs (λ (e : Parsed) (u : List Lexeme). IsSpelled note room k u e)

-- no loop and no branch
pub record IsPlain (t : Statement) : Type 0 where
  pub no_loop : is_loop t ≡ false
  pub no_branch : is_branch t ≡ false

-- These lexemes spell a simple statement, whose expressions have this room. It is a local only where there may be one,
-- and a call only where there may be one.
pub record IsPiece (room k : ℕ) (locals calls : Bool) (piece : Piece) (u : List Lexeme) : Type 0 where
  pub kind : Simple
  pub spelled : (whole : Span → Span) → SpellsSimple whole kind (piece.make (whole piece.span)) u
  pub deep : (s : Span) → of_statement depth 1 (piece.make s) ≡ piece.depth
  pub shallow : piece.depth ≤ suc room
  pub flat : (s : Span) → of_statement nesting 0 (piece.make s) ≤ k
  pub plain : (s : Span) → IsPlain (piece.make s)
  pub begins : calls ≡ false → may_begin_for kind ≡ true
  pub ends : locals ≡ false → may_end_turn kind ≡ true

-- with any room that it fits into
pub fitted : (note : Bool) (room other k : ℕ) (u : List Lexeme) (e : Parsed) → IsSpelled note room k u e → e.depth ≤ other → IsSpelled note other k u e
fitted note room other k u e h le = record { spelled = h.spelled; strong = h.strong; deep = h.deep; shallow = le; flat = h.flat }

-- with more room
pub resized : (note : Bool) (room more k : ℕ) (u : List Lexeme) (e : Parsed) → IsSpelled note room k u e → room ≤ more → IsSpelled note more k u e
resized note room more k u e h le = fitted note room more k u e h (omega (arith, h.shallow))

module _ (limit room : ℕ) (expression : Bool → ℕ → ℕ → ℕ → Start → Parser Parsed)
    (reads : (note : Bool) (room : ℕ) → TakesWhole note room (expression note room)) (k : ℕ) where
  -- where there is room for a node inside
  pub deeper_takes : {A : Type 0} (p : Parser A) (Q : A → List Lexeme → Type 0) (ts : List Lexeme) → (0 < room → Gives (p ts) Q)
      → Gives (spec.deeper limit room expression k p ts) Q
  deeper_takes p Q ts h = gives_if (nat_lt 0 room) p too_deep Q ts (λ e. h (ltb-true 0 room e)) (λ e. tt)

  pub whole_takes : (note : Bool) (ts : List Lexeme) → Gives (spec.whole limit room expression k note ts) (TakenTree note room k ts)
  whole_takes note ts =
      gives_so (Taken note room k 1 [] ts) (TakenTree note room k ts) (spec.whole limit room expression k note ts)
      (reads note room k 1 (omega arith) at_first tt ts)
      (λ e rest h. record { taken = h.taken; parts = h.parts; is = h.is })

  -- ---- what begins otherwise than with a name

  headed_group_by_takes : (note : Bool) (p : Lexeme) → lexeme_mark note p ≡ m.LeftParen → (mark : Mark) (ts : List Lexeme)
      → Gives (spec.headed_group_by limit room expression k note p mark ts) (Taken note (suc (room - 2)) k 13 (p ∷ []) ts)
  headed_group_by_takes note p left m.Forall ts = quantified_takes note limit (room - 2) (expression note (room - 2)) (reads note (room - 2)) k 13 p left ts
  headed_group_by_takes note p left m.Exists ts = quantified_takes note limit (room - 2) (expression note (room - 2)) (reads note (room - 2)) k 13 p left ts
  headed_group_by_takes note p left m.Name ts =
      gives_bind _ _ (expect note m.Name ts) (took note m.Name ts) (λ x mid named.
      gives_so (Taken note (suc (room - 2)) k 13 (p ∷ x ∷ []) mid) (Taken note (suc (room - 2)) k 13 (p ∷ []) ts)
      (reading.grouped note limit (room - 2) (expression note (room - 2)) k p (behind_name x) mid)
      (grouped_takes note limit (room - 2) (expression note (room - 2)) (reads note (room - 2)) k 13 p left (behind_name x) named.mark mid)
      (joined note (suc (room - 2)) k 13 (p ∷ []) ts mid x named.at))
  headed_group_by_takes note p left _ ts = grouped_takes note limit (room - 2) (expression note (room - 2)) (reads note (room - 2)) k 13 p left at_first tt ts

  headed_group_takes : 2 < room → (note : Bool) (ts : List Lexeme) → Gives (spec.headed_group limit room expression k note ts) (Taken note (room - 1) k 13 [] ts)
  unfolding spec.headed_group
  headed_group_takes some note ts =
      gives_bind _ _ (expect note m.LeftParen ts) (took note m.LeftParen ts) (λ p mid left.
      gives_so (Taken note (suc (room - 2)) k 13 (p ∷ []) mid) (Taken note (room - 1) k 13 [] ts) (spec.headed_group_by limit room expression k note p (mark_at note mid) mid)
      (headed_group_by_takes note p left.mark (mark_at note mid) mid)
      (λ e rest h. record {
        taken = p ∷ h.taken;
        parts = left.at ∙ ap (λ (z : List Lexeme). p ∷ z) h.parts;
        is = resized note (suc (room - 2)) (room - 1) k (p ∷ h.taken) e h.is (omega (arith, some));
        tight = h.tight;
      }))

  pub headed_first_takes : (note : Bool) (ts : List Lexeme) → Gives (spec.headed_first limit room expression k note ts) (Taken note (room - 1) k 13 [] ts)
  unfolding spec.headed_first
  headed_first_takes note ts =
      gives_if (same_mark (mark_at note ts) m.LeftParen) _ _ (Taken note (room - 1) k 13 [] ts) ts
      (λ e. gives_if (nat_lt 2 room) _ _ (Taken note (room - 1) k 13 [] ts) ts (λ f. headed_group_takes (ltb-true 2 room f) note ts) (λ f. tt))
      (λ e. reads note (room - 1) k 13 (omega arith) at_first tt ts)

  pub headed_takes : (note : Bool) (ts : List Lexeme) → Gives (spec.headed limit room expression k note ts) (TakenTree note room k ts)
  unfolding spec.headed spec.longer
  headed_takes note ts =
      gives_bind _ _ (spec.headed_first limit room expression k note ts) (headed_first_takes note ts) (λ a mid h.
      let some : suc (room - 1) ≤ room = omega (arith, depth_some a.tree, h.is.deep, h.is.shallow) in
      gives_so (Taken note (suc (room - 1)) k 0 [] ts) (TakenTree note room k ts) (spec.longer limit room expression k note a mid)
      (climb_takes note limit (room - 1) (expression note (room - 1)) (reads note (room - 1)) k 11 0 (omega arith) (omega arith) [] ts room a mid
      (record { taken = h.taken; parts = h.parts; is = resized note (room - 1) (suc (room - 1)) k h.taken a h.is (omega arith); tight = λ less. omega arith }))
      (λ e rest g. record { taken = g.taken; parts = g.parts; is = resized note (suc (room - 1)) room k g.taken e g.is some }))

  -- ---- assignments and calls

  -- behind an expression that these lexemes spell
  module _ (locals calls : Bool) (a : Parsed) (u : List Lexeme) (h : IsSpelled false room k u a) (all ts : List Lexeme) (parts : all ≡ u ++ ts) where
    assigned_takes : is_target a.tree ≡ true → Gives (spec.assigned limit room expression k a ts) (TakenAs (IsPiece room k locals calls) all)
    unfolding spec.assigned
    assigned_takes t =
        gives_bind _ _ (take_if is_assign ts) (took_if is_assign ts) (λ op mid o.
        gives_bind _ _ (spec.whole limit room expression k false mid) (whole_takes false mid) (λ e rest g.
        let at = sign_that is_assign_sign false op o.passes in
        record {
          taken = u ++ op ∷ g.taken;
          parts = rw (parts, o.at, g.parts) (sym (append_assoc u (op ∷ g.taken) rest));
          is = record {
            kind = assigns;
            spelled = λ whole. rw at.0 (is_assignment op.span op.text a.tree e.tree u g.taken (a.strength, h.spelled) t at.1 (e.strength, g.is.spelled));
            deep = λ s. rw (h.deep, g.is.deep) refl;
            shallow = omega (arith, h.shallow, g.is.shallow);
            flat = λ s. omega (arith, h.flat, g.is.flat);
            plain = λ s. record { no_loop = refl; no_branch = refl };
            begins = λ e. refl;
            ends = λ e. refl;
          };
        }))

    stepped_takes : is_target a.tree ≡ true → Gives (spec.stepped limit room expression k a ts) (TakenAs (IsPiece room k locals calls) all)
    unfolding spec.stepped
    stepped_takes t =
        gives_bind _ _ (take_if is_step ts) (took_if is_step ts) (λ op rest o.
        let at = sign_that is_step_sign false op o.passes in
        record {
          taken = u ++ op ∷ [];
          parts = rw (parts, o.at) (sym (append_assoc u (op ∷ []) rest));
          is = record {
            kind = assigns;
            spelled = λ whole. rw at.0 (is_step_after op.span op.text a.tree u (a.strength, h.spelled) t at.1);
            deep = λ s. omega (arith, h.deep);
            shallow = omega (arith, h.shallow);
            flat = λ s. omega (arith, h.flat);
            plain = λ s. record { no_loop = refl; no_branch = refl };
            begins = λ e. refl;
            ends = λ e. refl;
          };
        })

    changed_by_takes : is_target a.tree ≡ true → (mark : StatementMark) → Gives (spec.changed_by limit room expression k a mark ts) (TakenAs (IsPiece room k locals calls) all)
    changed_by_takes t s.Assign = assigned_takes t
    changed_by_takes t s.Step = stepped_takes t
    changed_by_takes t _ = tt

    pub acted_takes : Gives (spec.acted limit room expression k calls a ts) (TakenAs (IsPiece room k locals calls) all)
    unfolding spec.acted spec.changed
    acted_takes =
        gives_if (is_target a.tree) (spec.changed limit room expression k a) _ (TakenAs (IsPiece room k locals calls) all) ts
        (λ t. changed_by_takes t (statement_mark_at ts))
        (λ t. gives_if (calls && is_call a.tree) (pure (spec.call_of a)) refuse (TakenAs (IsPiece room k locals calls) all) ts
        (λ c.
        let both = and_parts calls (is_call a.tree) c in
        record {
          taken = u;
          parts = parts;
          is = record {
            kind = grammar.calls;
            spelled = λ whole. is_call_alone a.tree u (a.strength, h.spelled) both.1;
            deep = λ s. ap (λ (n : ℕ). n + 1) h.deep;
            shallow = omega (arith, h.shallow);
            flat = λ s. omega (arith, h.flat);
            plain = λ s. record { no_loop = refl; no_branch = refl };
            begins = λ e. absurd cc;
            ends = λ e. refl;
          };
        })
        (λ c. tt))
