-- What the rules of targets take. A call inside a target has a node above it, so its arguments are two nodes lower.
use Rattle.std.proofs.Common.{◌≡◌, ℕ, zero, suc, ◌-◌, ◌≤◌, ◌<◌, max, Bool, true, List, [], ◌∷◌, ◌++◌, refl, sym, append_assoc, arith}
use Rattle.std.proofs.lemmas.Bool.{and_parts, leb-true, ltb-true}
use Rattle.std.specs.Prelude.{nat_lt, nat_le}
use Rattle.jesc_text.specs.declared.place.Span.{Span}
use Rattle.jesc_ast.specs.Lexemes.{Lexeme, join}
use Rattle.jesc_ast.specs.Trees.{name, member, index, Receiver, implied, on}
use Rattle.jesc_ast.specs.Expressions.{span_of}
use Rattle.jesc_ast.specs.Statements.{is_target}
use Rattle.jesc_jml_grammar.specs.declared.mark.Mark.{Mark}
use Rattle.jesc_jml_grammar.specs.declared.mark.Mark.TheVariants as m
use Rattle.jesc_jml_grammar.specs.Marks.{lexeme_mark}
use Rattle.jesc_jml_grammar.specs.Steps.{Parser, pure, refuse, mark_at, same_mark, expect}
use Rattle.jesc_jml_grammar.specs.Reading as reading
use Rattle.jesc_jml_grammar.specs.Reading.{Parsed, Start, at_first, behind_name, behind_bracket, binds, needs, grows, leaf, over, over_two, word_of, call_of}
use Rattle.jesc_jml_parser.specs.laws.SoundPieces.{IsSpelled, name_piece, member_piece, index_piece, own_call_piece, call_piece}
use Rattle.jesc_jml_parser.specs.laws.SoundSteps.{Gives, gives_bind, gives_if, gives_so, took, start_lexemes, IsStart, TakesWhole}
use Rattle.jesc_jml_parser.specs.laws.SoundCalls.{TakenCall, called_takes}
use Rattle.jesc_jml_parser.specs.laws.ClauseSoundLists.{TakenAs}
use Rattle.jesc_java_grammar.specs.StatementReading as spec
use Rattle.jesc_java_parser.proofs.PieceSound.{TakenTree, fitted, resized, deeper_takes, headed_first_takes}

-- ---- what is read

-- a target of assignments
pub record IsTargetRead (note : Bool) (room k : ℕ) (e : Parsed) (u : List Lexeme) : Type 0 where
  pub is : IsSpelled note room k u e
  pub target : is_target e.tree ≡ true

-- a call that fits under a node, with arguments two nodes lower
record TakenUnder (note : Bool) (room k : ℕ) (first : Span) (receiver : Receiver) (depth : ℕ) (x : Lexeme) (ts : List Lexeme) (p : Parsed) (rest : List Lexeme) : Type 0 where
  fits : suc depth < room
  call : TakenCall note (room - 2) k first receiver depth x ts p rest

module _ (limit room : ℕ) (expression : Bool → ℕ → ℕ → ℕ → Start → Parser Parsed)
    (reads : (note : Bool) (room : ℕ) → TakesWhole note room (expression note room)) (k : ℕ) (note : Bool) where
  called_under_takes : (first : Span) (receiver : Receiver) (depth : ℕ) (x : Lexeme) (ts : List Lexeme)
      → Gives (spec.called_under limit room expression k note first receiver depth x ts) (TakenUnder note room k first receiver depth x ts)
  unfolding spec.called_under
  called_under_takes first receiver depth x ts =
      gives_if (nat_lt (suc depth) room) _ _ (TakenUnder note room k first receiver depth x ts) ts
      (λ e.
      gives_so (TakenCall note (room - 2) k first receiver depth x ts) (TakenUnder note room k first receiver depth x ts)
      (reading.called note limit (room - 2) (expression note (room - 2)) k first receiver depth x ts)
      (called_takes note limit (room - 2) (expression note (room - 2)) (reads note (room - 2)) k first receiver depth x ts)
      (λ p rest h. record { fits = ltb-true (suc depth) room e; call = h }))
      (λ e. tt)

  -- ---- the beginning

  target_name_takes : 0 < room → (x : Lexeme) → lexeme_mark note x ≡ m.Name → (all ts : List Lexeme) → all ≡ x ∷ ts
      → Gives (spec.target_name limit room expression k note x ts) (TakenTree note room k all)
  unfolding spec.target_name
  target_name_takes some x named all ts parts =
      gives_if (same_mark (mark_at note ts) m.LeftParen) _ _ (TakenTree note room k all) ts
      (λ e.
      gives_so (TakenUnder note room k x.span implied 0 x ts) (TakenTree note room k all) (spec.called_under limit room expression k note x.span implied 0 x ts)
      (called_under_takes x.span implied 0 x ts)
      (λ p rest h.
      let c = h.call in
      record {
        taken = x ∷ c.left ∷ (c.part ++ c.right ∷ []);
        parts = rw (parts, c.parts) refl;
        is = rw c.made
            (resized note (suc (room - 2)) room k (x ∷ c.left ∷ (c.part ++ c.right ∷ [])) (call_of x.span implied 0 x c.trees c.right)
            (own_call_piece note (room - 2) k x c.left c.right c.trees c.part named c.left_mark c.right_mark c.is) (omega (arith, h.fits)));
      }))
      (λ e. record { taken = x ∷ []; parts = parts; is = name_piece note room k x named some })

  -- a name alone needs no room of its own before an index
  target_behind_takes : 0 < room → (a : Parsed) (u : List Lexeme) → IsSpelled note (max (room - 1) 1) k u a → 12 ≤ a.strength → (p : Lexeme) → lexeme_mark note p ≡ m.LeftBracket
      → (all ts : List Lexeme) → all ≡ u ++ p ∷ ts
      → Gives (reading.indexed_behind note limit (room - 1) (expression note (room - 1)) k a p ts) (TakenTree note room k all)
  unfolding reading.indexed_behind
  target_behind_takes some a u before strong p left all ts parts =
      gives_bind _ _ (expression note (room - 1) k 1 at_first ts) (reads note (room - 1) k 1 (omega arith) at_first tt ts) (λ i mid h.
      gives_bind _ _ (expect note m.RightBracket mid) (took note m.RightBracket mid) (λ q rest right.
      record {
        taken = u ++ p ∷ (h.taken ++ q ∷ []);
        parts = rw (parts, h.parts, right.at) (sym (simp append_assoc));
        is = resized note (suc (room - 1)) room k (u ++ p ∷ (h.taken ++ q ∷ [])) (over_two 12 a i (index (join (span_of a.tree) q.span) a.tree p.span i.tree))
            (index_piece note (room - 1) k a i u h.taken p q left right.mark strong before h.is) (omega (arith, some));
      }))

  target_begun_takes : 0 < room → (start : Start) → IsStart note start → (all ts : List Lexeme) → all ≡ start_lexemes start ++ ts
      → Gives (spec.target_begun limit room expression k note start ts) (TakenTree note room k all)
  target_begun_takes some at_first known all ts parts = tt
  target_begun_takes some (behind_name x) known all ts parts = target_name_takes some x known all ts parts
  target_begun_takes some (behind_bracket x p) known all ts parts =
      target_behind_takes some (leaf (name x.span x.text)) (x ∷ []) (name_piece note (max (room - 1) 1) k x known.0 (omega arith)) (omega arith) p known.1 all ts parts

  -- ---- what goes on with it

  -- behind a tree that is spelled by `u` and has room for a node above it
  module _ (some : 0 < room) (a : Parsed) (u : List Lexeme) (before : IsSpelled note (room - 1) k u a) (all : List Lexeme) where
    member_called_takes : 11 ≤ a.strength → (dot x : Lexeme) → lexeme_mark note dot ≡ m.Dot → lexeme_mark note x ≡ m.Name → (ts : List Lexeme) → all ≡ u ++ dot ∷ x ∷ ts
        → Gives (spec.member_called_under limit room expression k note a dot x ts) (TakenTree note room k all)
    member_called_takes strong dot x dotted named ts parts =
        gives_so (TakenUnder note room k (span_of a.tree) (on a.tree dot.span) a.depth x ts) (TakenTree note room k all)
        (spec.called_under limit room expression k note (span_of a.tree) (on a.tree dot.span) a.depth x ts)
        (called_under_takes (span_of a.tree) (on a.tree dot.span) a.depth x ts)
        (λ p rest h.
        let c = h.call in
        record {
          taken = u ++ dot ∷ x ∷ c.left ∷ (c.part ++ c.right ∷ []);
          parts = rw (parts, c.parts) (sym (append_assoc u (dot ∷ x ∷ c.left ∷ (c.part ++ c.right ∷ [])) rest));
          is = rw c.made
              (resized note (suc (room - 2)) room k (u ++ dot ∷ x ∷ c.left ∷ (c.part ++ c.right ∷ [])) (call_of (span_of a.tree) (on a.tree dot.span) a.depth x c.trees c.right)
              (call_piece note (room - 2) k a u dot x c.left c.right c.trees c.part dotted named c.left_mark c.right_mark strong
              (fitted note (room - 1) (room - 2) k u a before (omega (arith, h.fits))) c.is) (omega (arith, h.fits)));
        })

    target_member_takes : 11 ≤ a.strength → (dot x : Lexeme) → lexeme_mark note dot ≡ m.Dot → lexeme_mark note x ≡ m.Name → (ts : List Lexeme) → all ≡ u ++ dot ∷ x ∷ ts
        → Gives (spec.target_member limit room expression k note a dot x ts) (TakenTree note room k all)
    unfolding spec.target_member
    target_member_takes strong dot x dotted named ts parts =
        gives_if (same_mark (mark_at note ts) m.LeftParen) _ _ (TakenTree note room k all) ts
        (λ e. member_called_takes strong dot x dotted named ts parts)
        (λ e. record {
          taken = u ++ dot ∷ x ∷ [];
          parts = rw parts (sym (append_assoc u (dot ∷ x ∷ []) ts));
          is = resized note (suc (room - 1)) room k (u ++ dot ∷ x ∷ []) (over 12 a (member (join (span_of a.tree) x.span) a.tree dot.span (word_of x)))
              (member_piece note (room - 1) k a u dot x dotted named strong before) (omega (arith, some));
        })

    target_dotted_takes : 11 ≤ a.strength → (ts : List Lexeme) → all ≡ u ++ ts → Gives (spec.target_dotted limit room expression k note a ts) (TakenTree note room k all)
    unfolding spec.target_dotted
    target_dotted_takes strong ts parts =
        gives_bind _ _ (expect note m.Dot ts) (took note m.Dot ts) (λ dot mid dotted.
        gives_bind _ _ (expect note m.Name mid) (took note m.Name mid) (λ x end named.
        target_member_takes strong dot x dotted.mark named.mark end (rw (parts, dotted.at, named.at) refl)))

    target_indexed_takes : 12 ≤ a.strength → (ts : List Lexeme) → all ≡ u ++ ts
        → Gives (reading.indexed note limit (room - 1) (expression note (room - 1)) k a ts) (TakenTree note room k all)
    unfolding reading.indexed
    target_indexed_takes strong ts parts =
        gives_bind _ _ (expect note m.LeftBracket ts) (took note m.LeftBracket ts) (λ p mid left.
        target_behind_takes some a u (resized note (room - 1) (max (room - 1) 1) k u a before (omega arith)) strong p left.mark all mid (rw (parts, left.at) refl))

    target_longer_by_takes : (mark : Mark) → 11 ≤ binds mark → needs mark ≤ a.strength → (ts : List Lexeme) → all ≡ u ++ ts
        → Gives (spec.target_longer_by limit room expression k note a mark ts) (TakenTree note room k all)
    target_longer_by_takes m.Dot tight strong ts parts = target_dotted_takes strong ts parts
    target_longer_by_takes m.LeftBracket tight strong ts parts = target_indexed_takes strong ts parts
    target_longer_by_takes _ tight strong ts parts = absurd (omega arith)

  target_longer_takes : (all : List Lexeme) (n : ℕ) (a : Parsed) (u ts : List Lexeme) → all ≡ u ++ ts → IsSpelled note room k u a
      → Gives (spec.target_longer limit room expression k note n a ts) (TakenTree note room k all)
  unfolding spec.target_longer
  target_longer_takes all zero a u ts parts h = tt
  target_longer_takes all (suc n) a u ts parts h =
      gives_if (grows a.strength (mark_at note ts) 11) _ _ (TakenTree note room k all) ts
      (λ e.
      let both = and_parts (nat_le 11 (binds (mark_at note ts))) (nat_le (needs (mark_at note ts)) a.strength) e in
      gives_if (nat_lt a.depth room) _ _ (TakenTree note room k all) ts
      (λ f.
      let less : a.depth < room = ltb-true a.depth room f in
      gives_bind _ _ (spec.target_longer_by limit room expression k note a (mark_at note ts) ts)
      (target_longer_by_takes (omega (arith, less)) a u (fitted note room (room - 1) k u a h (omega (arith, less))) all (mark_at note ts)
      (leb-true 11 (binds (mark_at note ts)) both.0) (leb-true (needs (mark_at note ts)) a.strength both.1) ts parts)
      (λ b rest g. target_longer_takes all n b g.taken rest g.parts g.is))
      (λ f. tt))
      (λ e. record { taken = u; parts = parts; is = h })

  -- ---- whole targets

  pub target_from_takes : (start : Start) → IsStart note start → (all ts : List Lexeme) → all ≡ start_lexemes start ++ ts
      → Gives (spec.target_from limit room expression k note start ts) (TakenTree note room k all)
  unfolding spec.target_behind
  target_from_takes start known all ts parts =
      deeper_takes limit room expression reads k (spec.target_behind limit room expression k note start) (TakenTree note room k all) ts (λ some.
      gives_bind _ _ (spec.target_begun limit room expression k note start ts) (target_begun_takes some start known all ts parts)
      (λ a mid h. target_longer_takes all room a h.taken mid h.parts h.is))

  pub headed_target_takes : (ts : List Lexeme) → Gives (spec.headed_target limit room expression k note ts) (TakenTree note room k ts)
  unfolding spec.headed_target
  headed_target_takes ts =
      gives_bind _ _ (spec.headed_first limit room expression k note ts) (headed_first_takes limit room expression reads k note ts) (λ a mid h.
      target_longer_takes ts room a h.taken mid h.parts (resized note (room - 1) room k h.taken a h.is (omega arith)))

  named_target_takes : (ts : List Lexeme) → Gives (spec.named_target limit room expression k note ts) (TakenTree note room k ts)
  unfolding spec.named_target
  named_target_takes ts =
      gives_bind _ _ (expect note m.Name ts) (took note m.Name ts) (λ x mid named. target_from_takes (behind_name x) named.mark ts mid named.at)

  postfix_by_takes : (mark : Mark) (ts : List Lexeme) → Gives (spec.postfix_by limit room expression k note mark ts) (TakenTree note room k ts)
  postfix_by_takes m.Name ts =
      deeper_takes limit room expression reads k (spec.named_target limit room expression k note) (TakenTree note room k ts) ts (λ some. named_target_takes ts)
  postfix_by_takes _ ts = headed_target_takes ts

  pub target_takes : (ts : List Lexeme) → Gives (spec.target limit room expression k note ts) (TakenAs (IsTargetRead note room k) ts)
  unfolding spec.target spec.postfix
  target_takes ts =
      gives_bind _ _ (spec.postfix limit room expression k note ts) (postfix_by_takes (mark_at note ts) ts) (λ e mid h.
      gives_if (is_target e.tree) (pure e) refuse (TakenAs (IsTargetRead note room k) ts) mid
      (λ t. record { taken = h.taken; parts = h.parts; is = record { is = h.is; target = t } })
      (λ t. tt))
