-- What the rules of a statement's parts take: a semicolon behind a simple statement, values, conditions, invariants of
-- loops, and what stands in the head of a `for`.
use Rattle.std.proofs.Common.{◌≡◌, ℕ, suc, Bool, true, false, Option, List, [], ◌∷◌, ◌++◌, refl, sym, append_assoc, arith}
use Rattle.std.specs.Prelude.{codes}
use Rattle.jesc_ast.specs.Lexemes.{Lexeme, sign, join}
use Rattle.jesc_ast.specs.Trees.{Expression, Clause, Statement, OptionalStatement}
use Rattle.jesc_ast.specs.Depth.{of_option, of_clauses, of_statement, of_optional}
use Rattle.jesc_ast.specs.Statements.{SpellsOption, is_missing, is_there, SpellsInvariants, no_clauses, more_clauses, Simple, SpellsHeadPart, no_part, one_part, may_begin_for, may_end_turn, SpellsStatement, is_simple}
use Rattle.jesc_jml_grammar.specs.declared.mark.Mark.{Mark}
use Rattle.jesc_jml_grammar.specs.declared.mark.Mark.TheVariants as m
use Rattle.jesc_jml_grammar.specs.Marks.{lexeme_mark}
use Rattle.jesc_jml_grammar.specs.Steps.{Parser, ◌>>=◌, pure, mark_at, same_mark, expect}
use Rattle.jesc_jml_grammar.specs.Reading.{Parsed, Start}
use Rattle.jesc_jml_parser.specs.laws.SoundMarks.{marked}
use Rattle.jesc_jml_parser.specs.laws.SoundPieces.{IsSpelled}
use Rattle.jesc_jml_parser.specs.laws.SoundSteps.{Gives, gives_bind, gives_if, gives_so, took, TakesWhole}
use Rattle.jesc_jml_grammar.specs.ClauseFound.{Sized, no_items, with_more}
use Rattle.jesc_jml_parser.specs.laws.ClauseSoundLists.{TakenAs, TakenUntil, until_takes, IsRead, read_more, read_none}
use Rattle.jesc_jml_parser.specs.laws.ClauseSoundClauses.{clause_measure, clauses_are_greatest, clauses_at_end}
use Rattle.jesc_java_grammar.specs.Lexing.{next_is, take_if}
use Rattle.jesc_java_grammar.specs.StatementMarks.{is_invariant, is_invariant_text}
use Rattle.jesc_java_grammar.specs.StatementReading as spec
use Rattle.jesc_java_grammar.specs.StatementReading.{Piece}
use Rattle.jesc_java_parser.proofs.LexingSound.{word_that, took_if}
use Rattle.jesc_java_parser.proofs.PieceSound.{IsPlain, IsPiece, whole_takes}
use Rattle.jesc_java_parser.proofs.SimpleSound.{simple_takes}

-- ---- what is read

-- a statement that is no loop and no branch
pub record IsPlainRead (room k : ℕ) (t : Sized Statement) (u : List Lexeme) : Type 0 where
  pub read : IsRead SpellsStatement of_statement room k u t.tree t.depth
  pub plain : IsPlain t.tree

abbrev pub IsOptionRead : ℕ → ℕ → Sized (Option Expression) → List Lexeme → Type 0
IsOptionRead room k e u = IsRead (SpellsOption false) of_option room k u e.tree e.depth

abbrev pub AreInvariants : ℕ → ℕ → Sized (List Clause) → List Lexeme → Type 0
AreInvariants room k cs u = IsRead SpellsInvariants of_clauses room k u cs.tree cs.depth

abbrev pub IsHeadPart : (Simple → Bool) → ℕ → ℕ → Sized OptionalStatement → List Lexeme → Type 0
IsHeadPart may room k part u = IsRead (SpellsHeadPart may) of_optional room k u part.tree part.depth

-- an expression in parentheses
pub record IsCondition (room k : ℕ) (e : Parsed) (u : List Lexeme) : Type 0 where
  pub left : Lexeme
  pub part : List Lexeme
  pub right : Lexeme
  pub parts : u ≡ left ∷ (part ++ right ∷ [])
  pub left_is : left ≡ sign false "(" left.span
  pub right_is : right ≡ sign false ")" right.span
  pub is : IsSpelled false room k part e

-- one invariant of a loop
abbrev SpellsInvariant : Clause → List Lexeme → Type 0
SpellsInvariant c u = SpellsInvariants (c ∷ []) u

abbrev IsInvariant : ℕ → ℕ → Sized Clause → List Lexeme → Type 0
IsInvariant room k c u = IsRead SpellsInvariant clause_measure room k u c.tree c.depth

-- the simple statement with its semicolon
pub finished_read : (room k : ℕ) (locals calls : Bool) (piece : Piece) (u : List Lexeme) (p : Lexeme) → IsPiece room k locals calls piece u → lexeme_mark false p ≡ m.Semicolon
    → IsPlainRead (suc room) k (spec.finished piece p) (u ++ p ∷ [])
finished_read room k locals calls piece u p h close = record {
  read = record {
    spelled = rw (marked false m.Semicolon p close) (is_simple h.kind (piece.make (join piece.span p.span)) p.span u (h.spelled (λ span. join span p.span)));
    deep = h.deep (join piece.span p.span);
    shallow = h.shallow;
    flat = h.flat (join piece.span p.span);
  };
  plain = h.plain (join piece.span p.span);
}

module _ (limit room : ℕ) (expression : Bool → ℕ → ℕ → ℕ → Start → Parser Parsed)
    (reads : (note : Bool) (room : ℕ) → TakesWhole note room (expression note room)) (k : ℕ) where
  pub simple_statement_takes : (ts : List Lexeme) → Gives (spec.simple_statement limit room expression k ts) (TakenAs (IsPlainRead (suc room) k) ts)
  unfolding spec.simple_statement
  simple_statement_takes ts =
      gives_bind _ _ (spec.simple limit room expression k true true ts) (simple_takes limit room expression reads k true true ts) (λ piece mid h.
      gives_bind _ _ (expect false m.Semicolon mid) (took false m.Semicolon mid) (λ p rest close.
      record {
        taken = h.taken ++ p ∷ [];
        parts = rw (h.parts, close.at) (sym (append_assoc h.taken (p ∷ []) rest));
        is = finished_read room k true true piece h.taken p h.is close.mark;
      }))

  -- ---- values

  some_value_takes : (ts : List Lexeme)
      → Gives ((spec.whole limit room expression k false >>= (λ e. pure (spec.some_value e))) ts) (TakenAs (IsOptionRead room k) ts)
  some_value_takes ts =
      gives_bind _ _ (spec.whole limit room expression k false ts) (whole_takes limit room expression reads k false ts) (λ e rest h.
      record {
        taken = h.taken;
        parts = h.parts;
        is = record { spelled = is_there e.tree h.taken (e.strength, h.is.spelled); deep = h.is.deep; shallow = h.is.shallow; flat = h.is.flat };
      })

  pub optional_value_takes : (end : Mark) (ts : List Lexeme) → Gives (spec.optional_value limit room expression k end ts) (TakenAs (IsOptionRead room k) ts)
  unfolding spec.optional_value
  optional_value_takes end ts =
      gives_if (same_mark (mark_at false ts) end) (pure spec.no_value) _ (TakenAs (IsOptionRead room k) ts) ts
      (λ e. record { taken = []; parts = refl; is = record { spelled = is_missing; deep = refl; shallow = omega arith; flat = omega arith } })
      (λ e. some_value_takes ts)

  pub condition_takes : (ts : List Lexeme) → Gives (spec.condition limit room expression k ts) (TakenAs (IsCondition room k) ts)
  unfolding spec.condition
  condition_takes ts =
      gives_bind _ _ (expect false m.LeftParen ts) (took false m.LeftParen ts) (λ p mid left.
      gives_bind _ _ (spec.whole limit room expression k false mid) (whole_takes limit room expression reads k false mid) (λ e end h.
      gives_bind _ _ (expect false m.RightParen end) (took false m.RightParen end) (λ q rest right.
      record {
        taken = p ∷ (h.taken ++ q ∷ []);
        parts = rw (left.at, h.parts, right.at) (sym (simp append_assoc));
        is = record {
          left = p;
          part = h.taken;
          right = q;
          parts = refl;
          left_is = marked false m.LeftParen p left.mark;
          right_is = marked false m.RightParen q right.mark;
          is = h.is;
        };
      })))

  -- ---- invariants of loops

  invariant_takes : (ts : List Lexeme) → Gives (spec.invariant limit room expression k ts) (TakenAs (IsInvariant room k) ts)
  unfolding spec.invariant
  invariant_takes ts =
      gives_bind _ _ (take_if is_invariant ts) (took_if is_invariant ts) (λ x mid first.
      gives_bind _ _ (spec.whole limit room expression k true mid) (whole_takes limit room expression reads k true mid) (λ e end h.
      gives_bind _ _ (expect true m.Semicolon end) (took true m.Semicolon end) (λ p rest close.
      let at = word_that is_invariant_text true x first.passes in
      record {
        taken = x ∷ (h.taken ++ p ∷ []);
        parts = rw (first.at, h.parts, close.at) (sym (simp append_assoc));
        is = record {
          spelled = rw (at.0, marked true m.Semicolon p close.mark) (more_clauses x.span p.span x.text e.tree [] h.taken [] at.1 (e.strength, h.is.spelled) no_clauses);
          deep = h.is.deep;
          shallow = h.is.shallow;
          flat = h.is.flat;
        };
      })))

  invariant_step : (found : Sized (List Clause)) (u ts : List Lexeme) → AreInvariants room k found u → next_is is_invariant ts ≡ true
      → Gives (spec.invariant limit room expression k ts) (λ c rest. TakenAs (λ (b : Sized (List Clause)) (v : List Lexeme). AreInvariants room k b (u ++ v)) ts (with_more found c) rest)
  invariant_step found u ts h e =
      gives_so (TakenAs (IsInvariant room k) ts) (λ c rest. TakenAs (λ (b : Sized (List Clause)) (v : List Lexeme). AreInvariants room k b (u ++ v)) ts (with_more found c) rest)
      (spec.invariant limit room expression k ts) (invariant_takes ts)
      (λ c rest g. record {
        taken = g.taken;
        parts = g.parts;
        is = read_more clause_measure of_clauses clauses_are_greatest SpellsInvariant SpellsInvariants room k found.tree c.tree u g.taken (u ++ g.taken) found.depth c.depth h g.is
            (clauses_at_end (codes "maintaining" ∷ codes "loop_invariant" ∷ []) found.tree u c.tree g.taken h.spelled g.is.spelled);
      })

  pub invariants_take : (ts : List Lexeme) → Gives (spec.invariants limit room expression k ts) (TakenAs (AreInvariants room k) ts)
  unfolding spec.invariants
  invariants_take ts =
      gives_so (TakenUntil (next_is is_invariant) (AreInvariants room k) ts) (TakenAs (AreInvariants room k) ts) (spec.invariants limit room expression k ts)
      (until_takes (next_is is_invariant) (spec.invariant limit room expression k) with_more (AreInvariants room k) invariant_step limit no_items ts [] ts refl
      (read_none clause_measure of_clauses clauses_are_greatest SpellsInvariant SpellsInvariants room k no_clauses))
      (λ cs rest h. record { taken = h.taken; parts = h.parts; is = h.is })

  -- ---- the head of a `for`

  no_part_taken : (may : Simple → Bool) (ts : List Lexeme) → TakenAs (IsHeadPart may (suc room) k) ts spec.no_part ts
  no_part_taken may ts = record { taken = []; parts = refl; is = record { spelled = no_part; deep = refl; shallow = omega arith; flat = omega arith } }

  part_takes : (may : Simple → Bool) (locals calls : Bool) → ((piece : Piece) (u : List Lexeme) → (h : IsPiece room k locals calls piece u) → may h.kind ≡ true) → (ts : List Lexeme)
      → Gives ((spec.simple limit room expression k locals calls >>= (λ piece. pure (spec.part_of piece))) ts) (TakenAs (IsHeadPart may (suc room) k) ts)
  part_takes may locals calls allowed ts =
      gives_bind _ _ (spec.simple limit room expression k locals calls ts) (simple_takes limit room expression reads k locals calls ts) (λ piece rest h.
      record {
        taken = h.taken;
        parts = h.parts;
        is = record {
          spelled = one_part h.is.kind (piece.make piece.span) h.taken (h.is.spelled (λ span. span)) (allowed piece h.taken h.is);
          deep = h.is.deep piece.span;
          shallow = h.is.shallow;
          flat = h.is.flat piece.span;
        };
      })

  pub for_first_takes : (ts : List Lexeme) → Gives (spec.for_first limit room expression k ts) (TakenAs (IsHeadPart may_begin_for (suc room) k) ts)
  unfolding spec.for_first
  for_first_takes ts =
      gives_if (same_mark (mark_at false ts) m.Semicolon) (pure spec.no_part) _ (TakenAs (IsHeadPart may_begin_for (suc room) k) ts) ts
      (λ e. no_part_taken may_begin_for ts)
      (λ e. part_takes may_begin_for true false (λ piece u h. h.begins refl) ts)

  pub for_last_takes : (ts : List Lexeme) → Gives (spec.for_last limit room expression k ts) (TakenAs (IsHeadPart may_end_turn (suc room) k) ts)
  unfolding spec.for_last
  for_last_takes ts =
      gives_if (same_mark (mark_at false ts) m.RightParen) (pure spec.no_part) _ (TakenAs (IsHeadPart may_end_turn (suc room) k) ts) ts
      (λ e. no_part_taken may_end_turn ts)
      (λ e. part_takes may_end_turn false true (λ piece u h. h.ends refl) ts)
