-- What the rules of locals take, and those of any simple statement.
use Rattle.std.proofs.Common.{◌≡◌, ℕ, ◌+◌, ◌-◌, Bool, true, false, List, [], ◌∷◌, ◌++◌, refl, sym, ap, append_assoc, arith}
use Rattle.std.specs.Prelude.{codes}
use Rattle.jesc_text.specs.declared.place.Span.{Span}
use Rattle.jesc_ast.specs.declared.word.TypeTree.{TypeTree}
use Rattle.jesc_ast.specs.Lexemes.{Lexeme, sign, join}
use Rattle.jesc_ast.specs.Trees.{Expression, local}
use Rattle.jesc_ast.specs.Expressions.{SpellsType, SpellsExpression, span_of, type_tree}
use Rattle.jesc_ast.specs.Statements.{declares, assigns, SpellsSimple, is_local, is_final_local, is_step_before, is_step_sign}
use Rattle.jesc_jml_grammar.specs.declared.mark.Mark.{Mark}
use Rattle.jesc_jml_grammar.specs.declared.mark.Mark.TheVariants as m
use Rattle.jesc_jml_grammar.specs.Marks.{lexeme_mark}
use Rattle.jesc_jml_grammar.specs.Steps.{Parser, mark_at, same_mark, expect}
use Rattle.jesc_jml_grammar.specs.Reading.{Parsed, Start, at_first, behind_name, behind_bracket, word_of}
use Rattle.jesc_jml_parser.specs.laws.SoundMarks.{marked}
use Rattle.jesc_jml_parser.specs.laws.SoundLexemes.{typed}
use Rattle.jesc_jml_parser.specs.laws.SoundPieces.{plain_type, array_type}
use Rattle.jesc_jml_parser.specs.laws.SoundSteps.{Gives, gives_bind, gives_if, gives_so, took, start_lexemes, IsStart, Taken, TakesWhole}
use Rattle.jesc_jml_parser.specs.laws.SoundCalls.{type_takes}
use Rattle.jesc_jml_parser.specs.laws.ClauseSoundLists.{TakenAs}
use Rattle.jesc_java_grammar.specs.declared.statement_mark.StatementMark.{StatementMark}
use Rattle.jesc_java_grammar.specs.declared.statement_mark.StatementMark.TheVariants as s
use Rattle.jesc_java_grammar.specs.Lexing.{is_sign, is_word, take_if}
use Rattle.jesc_java_grammar.specs.StatementMarks.{statement_mark_at, is_step}
use Rattle.jesc_java_grammar.specs.StatementReading as spec
use Rattle.jesc_java_grammar.specs.StatementReading.{Piece}
use Rattle.jesc_java_parser.proofs.LexingSound.{sign_that, took_if, took_this_word, took_this_sign}
use Rattle.jesc_java_parser.proofs.PieceSound.{TakenTree, IsPiece, deeper_takes, whole_takes, headed_takes, acted_takes}
use Rattle.jesc_java_parser.proofs.TargetSound.{target_from_takes, headed_target_takes, target_takes}

-- these lexemes are what stands before the name of a local
abbrev Declares : Span → Bool → TypeTree → List Lexeme → Type 0
Declares first is_final t u =
    (whole : Span → Span) (x q : Lexeme) (e : Expression) (v : List Lexeme) → lexeme_mark false x ≡ m.Name → q ≡ sign false "=" q.span → SpellsExpression false e v
    → SpellsSimple whole declares (local (whole (join first (span_of e))) is_final t (word_of x) q.span e) (u ++ x ∷ q ∷ v)

declares_plain : (t : TypeTree) (u : List Lexeme) → SpellsType false t u → Declares t.span false t u
declares_plain t u typed whole x q e v named equals spelled =
    let at = marked false m.Name x named in
    rw (at.0, equals) (is_local q.span x.span t x.text e u v typed at.1 spelled)

module _ (limit room : ℕ) (expression : Bool → ℕ → ℕ → ℕ → Start → Parser Parsed)
    (reads : (note : Bool) (room : ℕ) → TakesWhole note room (expression note room)) (k : ℕ) where
  stepped_first_takes : (locals calls : Bool) (ts : List Lexeme) → Gives (spec.stepped_first limit room expression k ts) (TakenAs (IsPiece room k locals calls) ts)
  unfolding spec.stepped_first
  stepped_first_takes locals calls ts =
      gives_bind _ _ (take_if is_step ts) (took_if is_step ts) (λ op mid o.
      gives_bind _ _ (spec.target limit room expression k false mid) (target_takes limit room expression reads k false mid) (λ a rest h.
      let at = sign_that is_step_sign false op o.passes in
      record {
        taken = op ∷ h.taken;
        parts = rw (o.at, h.parts) refl;
        is = record {
          kind = assigns;
          spelled = λ whole. rw at.0 (is_step_before op.span op.text a.tree h.taken (a.strength, h.is.is.spelled) h.is.target at.1);
          deep = λ s. omega (arith, h.is.is.deep);
          shallow = omega (arith, h.is.is.shallow);
          flat = λ s. omega (arith, h.is.is.flat);
          plain = λ s. record { no_loop = refl; no_branch = refl };
          begins = λ e. refl;
          ends = λ e. refl;
        };
      }))

  -- ---- locals

  named_local_takes : (calls : Bool) (first : Span) (is_final : Bool) (t : TypeTree) (u : List Lexeme) → Declares first is_final t u → (all ts : List Lexeme) → all ≡ u ++ ts
      → Gives (spec.named_local limit room expression k first is_final t ts) (TakenAs (IsPiece room k true calls) all)
  unfolding spec.named_local
  named_local_takes calls first is_final t u declared all ts parts =
      gives_bind _ _ (expect false m.Name ts) (took false m.Name ts) (λ x mid named.
      gives_bind _ _ (take_if (is_sign (codes "=") false) mid) (took_this_sign (codes "=") false mid) (λ q end equals.
      gives_bind _ _ (spec.whole limit room expression k false end) (whole_takes limit room expression reads k false end) (λ e rest h.
      record {
        taken = u ++ x ∷ q ∷ h.taken;
        parts = rw (parts, named.at, equals.at, h.parts) (sym (append_assoc u (x ∷ q ∷ h.taken) rest));
        is = record {
          kind = declares;
          spelled = λ whole. declared whole x q e.tree h.taken named.mark equals.is (e.strength, h.is.spelled);
          deep = λ s. ap (λ (n : ℕ). n + 1) h.is.deep;
          shallow = omega (arith, h.is.shallow);
          flat = λ s. omega (arith, h.is.flat);
          plain = λ s. record { no_loop = refl; no_branch = refl };
          begins = λ e. refl;
          ends = λ e. absurd cc;
        };
      })))

  typed_local_takes : (calls : Bool) (ts : List Lexeme) → Gives (spec.typed_local limit room expression k ts) (TakenAs (IsPiece room k true calls) ts)
  unfolding spec.typed_local
  typed_local_takes calls ts =
      gives_bind _ _ (spec.type_inside limit room expression k false ts) (type_takes false limit (room - 1) (expression false (room - 1)) (reads false (room - 1)) k ts) (λ t mid h.
      named_local_takes calls t.span false t h.taken (declares_plain t h.taken h.spelled) ts mid h.parts)

  final_local_takes : (calls : Bool) (ts : List Lexeme) → Gives (spec.final_local limit room expression k ts) (TakenAs (IsPiece room k true calls) ts)
  unfolding spec.final_local
  final_local_takes calls ts =
      gives_bind _ _ (take_if (is_word (codes "final") false) ts) (took_this_word (codes "final") false ts) (λ f start h.
      gives_bind _ _ (spec.type_inside limit room expression k false start) (type_takes false limit (room - 1) (expression false (room - 1)) (reads false (room - 1)) k start) (λ t mid g.
      named_local_takes calls f.span true t (f ∷ g.taken)
      (λ whole x q e v named equals spelled.
      let at = marked false m.Name x named in
      rw (h.is, at.0, equals) (is_final_local f.span q.span x.span t x.text e g.taken v g.spelled at.1 spelled))
      ts mid (rw (h.at, g.parts) refl)))

  array_local_takes : (calls : Bool) (x p : Lexeme) → lexeme_mark false x ≡ m.Name → lexeme_mark false p ≡ m.LeftBracket → (all ts : List Lexeme) → all ≡ x ∷ p ∷ ts
      → Gives (spec.array_local limit room expression k x ts) (TakenAs (IsPiece room k true calls) all)
  unfolding spec.array_local
  array_local_takes calls x p named left all ts parts =
      gives_bind _ _ (expect false m.RightBracket ts) (took false m.RightBracket ts) (λ q mid right.
      let t = type_tree (join x.span q.span) x.text true in
      named_local_takes calls x.span false t (x ∷ p ∷ q ∷ [])
      (declares_plain t (x ∷ p ∷ q ∷ []) (array_type false x p q (typed false m.Name refl x named) left right.mark))
      all mid (rw (parts, right.at) refl))

  -- ---- what begins with an expression

  act_from_takes : (calls : Bool) (start : Start) → IsStart false start → (all ts : List Lexeme) → all ≡ start_lexemes start ++ ts
      → Gives (spec.act_from limit room expression k calls start ts) (TakenTree false room k all)
  act_from_takes true start known all ts parts =
      gives_so (Taken false room k 11 (start_lexemes start) ts) (TakenTree false room k all) (expression false room k 11 start ts)
      (reads false room k 11 (omega arith) start known ts)
      (λ a mid h. record { taken = start_lexemes start ++ h.taken; parts = rw (parts, h.parts) (sym (append_assoc (start_lexemes start) h.taken mid)); is = h.is })
  act_from_takes false start known all ts parts = target_from_takes limit room expression reads k false start known all ts parts

  acted_from_takes : (locals calls : Bool) (start : Start) → IsStart false start → (all ts : List Lexeme) → all ≡ start_lexemes start ++ ts
      → Gives (spec.acted_from limit room expression k calls start ts) (TakenAs (IsPiece room k locals calls) all)
  unfolding spec.acted_from
  acted_from_takes locals calls start known all ts parts =
      gives_bind _ _ (spec.act_from limit room expression k calls start ts) (act_from_takes calls start known all ts parts) (λ a mid h.
      acted_takes limit room expression reads k locals calls a h.taken h.is all mid h.parts)

  bracketed_takes : (calls : Bool) (x : Lexeme) → lexeme_mark false x ≡ m.Name → (all ts : List Lexeme) → all ≡ x ∷ ts
      → Gives (spec.bracketed limit room expression k calls x ts) (TakenAs (IsPiece room k true calls) all)
  unfolding spec.bracketed
  bracketed_takes calls x named all ts parts =
      gives_bind _ _ (expect false m.LeftBracket ts) (took false m.LeftBracket ts) (λ p mid left.
      gives_if (same_mark (mark_at false mid) m.RightBracket) (spec.array_local limit room expression k x) _ (TakenAs (IsPiece room k true calls) all) mid
      (λ e. array_local_takes calls x p named left.mark all mid (rw (parts, left.at) refl))
      (λ e. acted_from_takes true calls (behind_bracket x p) (named, left.mark) all mid (rw (parts, left.at) refl)))

  named_by_takes : (locals calls : Bool) (x : Lexeme) → lexeme_mark false x ≡ m.Name → (mark : Mark) (all ts : List Lexeme) → all ≡ x ∷ ts
      → Gives (spec.named_by limit room expression k locals calls x mark ts) (TakenAs (IsPiece room k locals calls) all)
  named_by_takes true calls x named m.Name all ts parts =
      let t = type_tree x.span x.text false in
      named_local_takes calls x.span false t (x ∷ []) (declares_plain t (x ∷ []) (plain_type false x (typed false m.Name refl x named))) all ts parts
  named_by_takes true calls x named m.LeftBracket all ts parts = bracketed_takes calls x named all ts parts
  named_by_takes true calls x named _ all ts parts = acted_from_takes true calls (behind_name x) named all ts parts
  named_by_takes false calls x named _ all ts parts = acted_from_takes false calls (behind_name x) named all ts parts

  named_takes : (locals calls : Bool) (ts : List Lexeme) → Gives (spec.named limit room expression k locals calls ts) (TakenAs (IsPiece room k locals calls) ts)
  unfolding spec.named
  named_takes locals calls ts =
      gives_bind _ _ (expect false m.Name ts) (took false m.Name ts) (λ x mid named. named_by_takes locals calls x named.mark (mark_at false mid) ts mid named.at)

  act_at_head_takes : (calls : Bool) (ts : List Lexeme) → Gives (spec.act_at_head limit room expression k calls ts) (TakenTree false room k ts)
  act_at_head_takes true ts = headed_takes limit room expression reads k false ts
  act_at_head_takes false ts = headed_target_takes limit room expression reads k false ts

  headed_act_takes : (locals calls : Bool) (ts : List Lexeme) → Gives (spec.headed_act limit room expression k calls ts) (TakenAs (IsPiece room k locals calls) ts)
  unfolding spec.headed_act
  headed_act_takes locals calls ts =
      gives_bind _ _ (spec.act_at_head limit room expression k calls ts) (act_at_head_takes calls ts) (λ a mid h.
      acted_takes limit room expression reads k locals calls a h.taken h.is ts mid h.parts)

  -- ---- any simple statement

  named_within : (locals calls : Bool) (ts : List Lexeme)
      → Gives (spec.deeper limit room expression k (spec.named limit room expression k locals calls) ts) (TakenAs (IsPiece room k locals calls) ts)
  named_within locals calls ts =
      deeper_takes limit room expression reads k (spec.named limit room expression k locals calls) (TakenAs (IsPiece room k locals calls) ts) ts (λ some. named_takes locals calls ts)

  typed_within : (calls : Bool) (ts : List Lexeme)
      → Gives (spec.deeper limit room expression k (spec.typed_local limit room expression k) ts) (TakenAs (IsPiece room k true calls) ts)
  typed_within calls ts =
      deeper_takes limit room expression reads k (spec.typed_local limit room expression k) (TakenAs (IsPiece room k true calls) ts) ts (λ some. typed_local_takes calls ts)

  plain_by_takes : (locals calls : Bool) (mark : Mark) (ts : List Lexeme) → Gives (spec.plain_by limit room expression k locals calls mark ts) (TakenAs (IsPiece room k locals calls) ts)
  plain_by_takes true true m.Name ts = named_within true true ts
  plain_by_takes true true m.Int ts = typed_within true ts
  plain_by_takes true true m.Long ts = typed_within true ts
  plain_by_takes true true m.Boolean ts = typed_within true ts
  plain_by_takes true true m.Super ts = acted_from_takes true true at_first tt ts ts refl
  plain_by_takes true true _ ts = headed_act_takes true true ts
  plain_by_takes true false m.Name ts = named_within true false ts
  plain_by_takes true false m.Int ts = typed_within false ts
  plain_by_takes true false m.Long ts = typed_within false ts
  plain_by_takes true false m.Boolean ts = typed_within false ts
  plain_by_takes true false _ ts = headed_act_takes true false ts
  plain_by_takes false true m.Name ts = named_within false true ts
  plain_by_takes false true m.Super ts = acted_from_takes false true at_first tt ts ts refl
  plain_by_takes false true _ ts = headed_act_takes false true ts
  plain_by_takes false false m.Name ts = named_within false false ts
  plain_by_takes false false _ ts = headed_act_takes false false ts

  plain_takes : (locals calls : Bool) (ts : List Lexeme) → Gives (spec.plain limit room expression k locals calls ts) (TakenAs (IsPiece room k locals calls) ts)
  unfolding spec.plain
  plain_takes locals calls ts = plain_by_takes locals calls (mark_at false ts) ts

  step_within : (locals calls : Bool) (ts : List Lexeme)
      → Gives (spec.deeper limit room expression k (spec.stepped_first limit room expression k) ts) (TakenAs (IsPiece room k locals calls) ts)
  step_within locals calls ts =
      deeper_takes limit room expression reads k (spec.stepped_first limit room expression k) (TakenAs (IsPiece room k locals calls) ts) ts (λ some. stepped_first_takes locals calls ts)

  simple_by_takes : (locals calls : Bool) (mark : StatementMark) (ts : List Lexeme)
      → Gives (spec.simple_by limit room expression k locals calls mark ts) (TakenAs (IsPiece room k locals calls) ts)
  simple_by_takes true calls s.Final ts =
      deeper_takes limit room expression reads k (spec.final_local limit room expression k) (TakenAs (IsPiece room k true calls) ts) ts (λ some. final_local_takes calls ts)
  simple_by_takes true calls s.Step ts = step_within true calls ts
  simple_by_takes true calls s.Other ts = plain_takes true calls ts
  simple_by_takes true calls _ ts = tt
  simple_by_takes false calls s.Step ts = step_within false calls ts
  simple_by_takes false calls s.Other ts = plain_takes false calls ts
  simple_by_takes false calls _ ts = tt

  pub simple_takes : (locals calls : Bool) (ts : List Lexeme) → Gives (spec.simple limit room expression k locals calls ts) (TakenAs (IsPiece room k locals calls) ts)
  unfolding spec.simple
  simple_takes locals calls ts = simple_by_takes locals calls (statement_mark_at ts) ts
