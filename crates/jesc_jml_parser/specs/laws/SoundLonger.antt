-- What the rules take that go on with an expression.
use Rattle.std.proofs.Common.{◌≡◌, ℕ, zero, suc, ◌≤◌, ◌<◌, max, Bool, true, List, [], ◌∷◌, ◌++◌, refl, sym, ap, ◌∙◌, subst, append_assoc, arith}
use Rattle.std.proofs.lemmas.Bool.{leb-true, and_parts}
use Rattle.std.specs.Prelude.{nat_le}
use Rattle.jesc_ast.specs.Lexemes.{Lexeme}
use Rattle.jesc_ast.specs.Trees.{name, on}
use Rattle.jesc_ast.specs.Expressions.{span_of}
use Rattle.jesc_jml_grammar.specs.declared.mark.Mark.{Mark}
use Rattle.jesc_jml_grammar.specs.declared.mark.Mark.TheVariants as m
use Rattle.jesc_jml_grammar.specs.Marks.{lexeme_mark}
use Rattle.jesc_jml_grammar.specs.Steps.{Parser, mark_at, take_one, same_mark, expect}
use Rattle.jesc_jml_grammar.specs.Reading as spec
use Rattle.jesc_jml_grammar.specs.Reading.{Parsed, Start, at_first, behind_name, behind_bracket, binds, needs, right_of, grows, leaf}
use Rattle.jesc_jml_parser.specs.laws.SoundLexemes.{is_operator_mark, operates}
use Rattle.jesc_jml_parser.specs.laws.SoundPieces.{IsSpelled, name_piece, member_piece, index_piece, binary_piece, choose_piece, instance_piece, call_piece}
use Rattle.jesc_jml_parser.specs.laws.SoundSteps.{Gives, gives_bind, gives_if, gives_so, took_one, took, start_lexemes, IsStart, Taken, TakesWhole}
use Rattle.jesc_jml_parser.specs.laws.SoundCalls.{TakenCall, called_takes, type_takes}
use Rattle.jesc_jml_parser.specs.laws.SoundGroups.{joined}
use Rattle.jesc_jml_parser.specs.laws.SoundFirst.{after_name_takes, first_takes}

-- with the room that an index leaves to what stands before it
wider : (note : Bool) (room k : ℕ) (u : List Lexeme) (p : Parsed) → IsSpelled note room k u p → IsSpelled note (max room 1) k u p
wider note room k u p h = record { spelled = h.spelled; strong = h.strong; deep = h.deep; shallow = omega (arith, h.shallow); flat = h.flat }

-- where it is no deeper
within : (note : Bool) (room more k : ℕ) (u : List Lexeme) (p : Parsed) → p.depth ≤ room → IsSpelled note more k u p → IsSpelled note room k u p
within note room more k u p le h = record { spelled = h.spelled; strong = h.strong; deep = h.deep; shallow = le; flat = h.flat }

module _ (note : Bool) (limit room : ℕ) (inner : ℕ → ℕ → Start → Parser Parsed) (reads : TakesWhole note room inner) (k : ℕ) where
  indexed_behind_takes : (least : ℕ) (a : Parsed) (u : List Lexeme) (p : Lexeme) → IsSpelled note (max room 1) k u a → 12 ≤ a.strength → lexeme_mark note p ≡ m.LeftBracket → (ts : List Lexeme)
      → Gives (spec.indexed_behind note limit room inner k a p ts) (Taken note (suc room) k least (u ++ p ∷ []) ts)
  unfolding spec.indexed_behind
  indexed_behind_takes least a u p before le left ts =
      gives_bind _ _ (inner k 1 at_first ts) (reads k 1 (omega arith) at_first tt ts) (λ i mid h.
      gives_bind _ _ (expect note m.RightBracket mid) (took note m.RightBracket mid) (λ q rest right.
      record {
        taken = h.taken ++ q ∷ [];
        parts = rw (h.parts, right.at) (sym (simp append_assoc));
        is = simp append_assoc (index_piece note room k a i u h.taken p q left right.mark le before h.is);
        tight = λ less. omega arith;
      }))

  -- behind a tree that is spelled by `u`
  module _ (least : ℕ) (a : Parsed) (u : List Lexeme) (before : IsSpelled note room k u a) where
    operated_takes : (mark : Mark) (ts : List Lexeme) → mark_at note ts ≡ mark → is_operator_mark mark ≡ true → least ≤ binds mark → needs mark ≤ a.strength
        → Gives (spec.operated note limit room inner k a mark ts) (Taken note (suc room) k least u ts)
    unfolding spec.operated
    operated_takes mark ts e is le left =
        gives_bind _ _ (take_one ts) (took_one note ts) (λ op mid first.
        let o = operates note mark is op (first.mark ∙ e) in
        gives_bind _ _ (inner k (right_of mark) at_first mid) (reads k (right_of mark) o.some at_first tt mid) (λ b rest h.
        record {
          taken = op ∷ h.taken;
          parts = first.at ∙ ap (λ (z : List Lexeme). op ∷ z) h.parts;
          is = binary_piece note room k mark op a b u h.taken o left (h.tight o.small) before h.is;
          tight = λ less. le;
        }))

    chosen_takes : (ts : List Lexeme) → least ≤ 1 → 2 ≤ a.strength → Gives (spec.chosen note limit room inner k a ts) (Taken note (suc room) k least u ts)
    unfolding spec.chosen
    chosen_takes ts le left =
        gives_bind _ _ (expect note m.Question ts) (took note m.Question ts) (λ p t1 question.
        gives_bind _ _ (inner k 1 at_first t1) (reads k 1 (omega arith) at_first tt t1) (λ b t2 h.
        gives_bind _ _ (expect note m.Colon t2) (took note m.Colon t2) (λ q t3 colon.
        gives_bind _ _ (inner k 1 at_first t3) (reads k 1 (omega arith) at_first tt t3) (λ c rest g.
        record {
          taken = p ∷ (h.taken ++ q ∷ g.taken);
          parts = rw (question.at, h.parts, colon.at, g.parts) (sym (simp append_assoc));
          is = choose_piece note room k a b c u h.taken g.taken p q question.mark colon.mark left before h.is g.is;
          tight = λ less. le;
        }))))

    tested_takes : (ts : List Lexeme) → least ≤ 7 → 7 ≤ a.strength → Gives (spec.tested note limit room inner k a ts) (Taken note (suc room) k least u ts)
    unfolding spec.tested
    tested_takes ts le left =
        gives_bind _ _ (expect note m.InstanceOf ts) (took note m.InstanceOf ts) (λ x mid word.
        gives_bind _ _ (spec.type_ note limit room inner k mid) (type_takes note limit room inner reads k mid) (λ t rest h.
        record {
          taken = x ∷ h.taken;
          parts = word.at ∙ ap (λ (z : List Lexeme). x ∷ z) h.parts;
          is = instance_piece note room k a u h.taken x t word.mark left h.spelled before;
          tight = λ less. le;
        }))

    after_member_takes : (dot x : Lexeme) → lexeme_mark note dot ≡ m.Dot → lexeme_mark note x ≡ m.Name → 11 ≤ a.strength → (ts : List Lexeme)
        → Gives (spec.after_member note limit room inner k a dot x ts) (Taken note (suc room) k least (u ++ dot ∷ x ∷ []) ts)
    unfolding spec.after_member
    after_member_takes dot x dotted named left ts =
        gives_if (same_mark (mark_at note ts) m.LeftParen) _ _ (Taken note (suc room) k least (u ++ dot ∷ x ∷ []) ts) ts
        (λ e.
        gives_so (TakenCall note room k (span_of a.tree) (on a.tree dot.span) a.depth x ts) (Taken note (suc room) k least (u ++ dot ∷ x ∷ []) ts)
        (spec.called note limit room inner k (span_of a.tree) (on a.tree dot.span) a.depth x ts)
        (called_takes note limit room inner reads k (span_of a.tree) (on a.tree dot.span) a.depth x ts)
        (λ p rest h. record {
          taken = h.left ∷ (h.part ++ h.right ∷ []);
          parts = h.parts;
          is = rw h.made (simp append_assoc (call_piece note room k a u dot x h.left h.right h.trees h.part dotted named h.left_mark h.right_mark left before h.is));
          tight = λ less. omega (arith, ap (λ (z : Parsed). z.strength) h.made);
        }))
        (λ e. record {
          taken = [];
          parts = refl;
          is = simp append_assoc (member_piece note room k a u dot x dotted named left before);
          tight = λ less. omega arith;
        })

    dotted_takes : (ts : List Lexeme) → 11 ≤ a.strength → Gives (spec.dotted note limit room inner k a ts) (Taken note (suc room) k least u ts)
    unfolding spec.dotted
    dotted_takes ts left =
        gives_bind _ _ (expect note m.Dot ts) (took note m.Dot ts) (λ dot mid dotted.
        gives_bind _ _ (expect note m.Name mid) (took note m.Name mid) (λ x end named.
        gives_so (Taken note (suc room) k least (u ++ dot ∷ x ∷ []) end) (Taken note (suc room) k least u ts) (spec.after_member note limit room inner k a dot x end)
        (after_member_takes dot x dotted.mark named.mark left end)
        (λ e rest h. record {
          taken = dot ∷ x ∷ h.taken;
          parts = rw (dotted.at, named.at, h.parts) refl;
          is = simp append_assoc at h.is;
          tight = h.tight;
        })))

    indexed_takes : (ts : List Lexeme) → 12 ≤ a.strength → Gives (spec.indexed note limit room inner k a ts) (Taken note (suc room) k least u ts)
    unfolding spec.indexed
    indexed_takes ts left =
        gives_bind _ _ (expect note m.LeftBracket ts) (took note m.LeftBracket ts) (λ p mid bracket.
        gives_so (Taken note (suc room) k least (u ++ p ∷ []) mid) (Taken note (suc room) k least u ts) (spec.indexed_behind note limit room inner k a p mid)
        (indexed_behind_takes least a u p (wider note room k u a before) left bracket.mark mid)
        (joined note (suc room) k least u ts mid p bracket.at))

    longer_by_takes : (mark : Mark) → 0 < binds mark → (ts : List Lexeme) → mark_at note ts ≡ mark → least ≤ binds mark → needs mark ≤ a.strength
        → Gives (spec.longer_by note limit room inner k a mark ts) (Taken note (suc room) k least u ts)
    longer_by_takes m.Question some ts e le left = chosen_takes ts le left
    longer_by_takes m.InstanceOf some ts e le left = tested_takes ts le left
    longer_by_takes m.Dot some ts e le left = dotted_takes ts left
    longer_by_takes m.LeftBracket some ts e le left = indexed_takes ts left
    longer_by_takes m.Plus some ts e le left = operated_takes m.Plus ts e refl le left
    longer_by_takes m.Minus some ts e le left = operated_takes m.Minus ts e refl le left
    longer_by_takes m.Times some ts e le left = operated_takes m.Times ts e refl le left
    longer_by_takes m.Quotient some ts e le left = operated_takes m.Quotient ts e refl le left
    longer_by_takes m.Remainder some ts e le left = operated_takes m.Remainder ts e refl le left
    longer_by_takes m.Less some ts e le left = operated_takes m.Less ts e refl le left
    longer_by_takes m.LessEqual some ts e le left = operated_takes m.LessEqual ts e refl le left
    longer_by_takes m.Greater some ts e le left = operated_takes m.Greater ts e refl le left
    longer_by_takes m.GreaterEqual some ts e le left = operated_takes m.GreaterEqual ts e refl le left
    longer_by_takes m.Equal some ts e le left = operated_takes m.Equal ts e refl le left
    longer_by_takes m.Unequal some ts e le left = operated_takes m.Unequal ts e refl le left
    longer_by_takes m.And some ts e le left = operated_takes m.And ts e refl le left
    longer_by_takes m.Or some ts e le left = operated_takes m.Or ts e refl le left
    longer_by_takes m.Implies some ts e le left = operated_takes m.Implies ts e refl le left
    longer_by_takes m.Iff some ts e le left = operated_takes m.Iff ts e refl le left
    longer_by_takes m.NotIff some ts e le left = operated_takes m.NotIff ts e refl le left
    longer_by_takes _ some ts e le left = absurd (omega arith)

  -- ---- the turns

  -- what goes on with what was taken is taken with it
  further : (least : ℕ) (before all ts : List Lexeme) (a b : Parsed) (rest : List Lexeme) → (t : Taken note (suc room) k least before all a ts)
      → Taken note (suc room) k least (before ++ t.taken) ts b rest → Taken note (suc room) k least before all b rest
  further least before all ts a b rest t h = record {
    taken = t.taken ++ h.taken;
    parts = t.parts ∙ ap (λ (z : List Lexeme). t.taken ++ z) h.parts ∙ sym (append_assoc t.taken h.taken rest);
    is = subst (λ (z : List Lexeme). IsSpelled note (suc room) k z b) (append_assoc before t.taken h.taken) h.is;
    tight = h.tight;
  }

  -- what stands at the top when the turns begin may bind less tightly than what they add
  pub climb_takes : (least bound : ℕ) → 0 < least → bound ≤ least → (before all : List Lexeme) (n : ℕ) (a : Parsed) (ts : List Lexeme)
      → Taken note (suc room) k bound before all a ts → Gives (spec.climb note limit room inner k least n a ts) (Taken note (suc room) k bound before all)
  unfolding spec.climb
  climb_takes least bound some le before all zero a ts t = tt
  climb_takes least bound some le before all (suc n) a ts t =
      gives_if (grows a.strength (mark_at note ts) least) _ _ (Taken note (suc room) k bound before all) ts
      (λ e.
      let both = and_parts (nat_le least (binds (mark_at note ts))) (nat_le (needs (mark_at note ts)) a.strength) e in
      let tight : least ≤ binds (mark_at note ts) = leb-true least (binds (mark_at note ts)) both.0 in
      gives_if (nat_le a.depth room) _ _ (Taken note (suc room) k bound before all) ts
      (λ f.
      gives_bind _ _ (spec.longer_by note limit room inner k a (mark_at note ts) ts)
      (longer_by_takes bound a (before ++ t.taken) (within note room (suc room) k (before ++ t.taken) a (leb-true a.depth room f) t.is) (mark_at note ts) (omega arith) ts refl
      (omega arith) (leb-true (needs (mark_at note ts)) a.strength both.1))
      (λ b rest h. climb_takes least bound some le before all n b rest (further bound before all ts a b rest t h)))
      (λ f. tt))
      (λ e. t)

  pub begun_takes : (least : ℕ) → 0 < least → (start : Start) → IsStart note start → (ts : List Lexeme)
      → Gives (spec.begun note limit room inner k least start ts) (Taken note (suc room) k least (start_lexemes start) ts)
  begun_takes least some at_first known ts =
      gives_bind _ _ (spec.first note limit room inner k least ts) (first_takes note limit room inner reads k least ts)
      (λ a rest t. climb_takes least least some (omega arith) [] ts (suc room) a rest t)
  begun_takes least some (behind_name x) known ts =
      gives_bind _ _ (spec.after_name note limit room inner k x ts) (after_name_takes note limit room inner reads k least x known ts)
      (λ a rest t. climb_takes least least some (omega arith) (x ∷ []) ts (suc room) a rest t)
  begun_takes least some (behind_bracket x p) known ts =
      gives_bind _ _ (spec.indexed_behind note limit room inner k (leaf (name x.span x.text)) p ts)
      (indexed_behind_takes least (leaf (name x.span x.text)) (x ∷ []) p (name_piece note (max room 1) k x known.0 (omega arith)) (omega arith) known.1 ts)
      (λ a rest t. climb_takes least least some (omega arith) (x ∷ p ∷ []) ts room a rest t)
