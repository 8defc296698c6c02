-- What the rules of an expression's beginning take.
use Rattle.std.proofs.Common.{◌≡◌, ℕ, suc, ◌≤◌, ◌<◌, Bool, true, List, [], ◌∷◌, ◌++◌, refl, sym, ap, ◌∙◌, append_assoc, arith}
use Rattle.std.proofs.lemmas.Bool.{leb-true, ltb-true}
use Rattle.std.specs.Prelude.{nat_lt}
use Rattle.jesc_ast.specs.Lexemes.{Lexeme}
use Rattle.jesc_ast.specs.Trees.{implied, super}
use Rattle.jesc_ast.specs.Depth.{depth, nesting}
use Rattle.jesc_jml_grammar.specs.declared.mark.Mark.{Mark}
use Rattle.jesc_jml_grammar.specs.declared.mark.Mark.TheVariants as m
use Rattle.jesc_jml_grammar.specs.Marks.{lexeme_mark}
use Rattle.jesc_jml_grammar.specs.Steps.{Parser, mark_at, take_one, same_mark, expect}
use Rattle.jesc_jml_grammar.specs.Reading as spec
use Rattle.jesc_jml_grammar.specs.Reading.{Parsed, Start, at_first, allows_prefix, is_prefix_mark, is_type_mark, literal_of}
use Rattle.jesc_jml_parser.specs.laws.Edges.{strength}
use Rattle.jesc_jml_parser.specs.laws.SoundLexemes.{prefixes, Typed, typed, is_literal_mark, literal_spelled}
use Rattle.jesc_jml_parser.specs.laws.SoundPieces.{name_piece, unary_piece, own_call_piece, super_call_piece, object_piece, array_piece, old_piece, fresh_piece}
use Rattle.jesc_jml_parser.specs.laws.SoundSteps.{Gives, gives_bind, gives_if, gives_so, took_one, took, Taken, TakesWhole}
use Rattle.jesc_jml_parser.specs.laws.SoundCalls.{TakenCall, called_takes, arguments_takes}
use Rattle.jesc_jml_parser.specs.laws.SoundGroups.{joined}
use Rattle.jesc_jml_parser.specs.laws.SoundQuantifiers.{group_takes}

module _ (note : Bool) (limit room : ℕ) (inner : ℕ → ℕ → Start → Parser Parsed) (reads : TakesWhole note room inner) (k : ℕ) where
  -- where there is room for a node inside
  deeper_takes : (p : Parser Parsed) (Q : Parsed → List Lexeme → Type 0) (ts : List Lexeme) → (0 < room → Gives (p ts) Q) → Gives (spec.deeper note limit room inner k p ts) Q
  deeper_takes p Q ts h = gives_if (nat_lt 0 room) _ _ Q ts (λ e. h (ltb-true 0 room e)) (λ e. tt)

  -- ---- names

  pub after_name_takes : (least : ℕ) (x : Lexeme) → lexeme_mark note x ≡ m.Name → (ts : List Lexeme)
      → Gives (spec.after_name note limit room inner k x ts) (Taken note (suc room) k least (x ∷ []) ts)
  unfolding spec.after_name
  after_name_takes least x named ts =
      gives_if (same_mark (mark_at note ts) m.LeftParen) _ _ (Taken note (suc room) k least (x ∷ []) ts) ts
      (λ e.
      gives_so (TakenCall note room k x.span implied 0 x ts) (Taken note (suc room) k least (x ∷ []) ts) (spec.called note limit room inner k x.span implied 0 x ts)
      (called_takes note limit room inner reads k x.span implied 0 x ts)
      (λ p rest h. record {
        taken = h.left ∷ (h.part ++ h.right ∷ []);
        parts = h.parts;
        is = rw h.made (own_call_piece note room k x h.left h.right h.trees h.part named h.left_mark h.right_mark h.is);
        tight = λ less. omega (arith, ap (λ (z : Parsed). z.strength) h.made);
      }))
      (λ e. record { taken = []; parts = refl; is = name_piece note (suc room) k x named (omega arith); tight = λ less. omega arith })

  named_takes : (least : ℕ) (ts : List Lexeme) → Gives (spec.named note limit room inner k ts) (Taken note (suc room) k least [] ts)
  unfolding spec.named
  named_takes least ts =
      gives_bind _ _ (expect note m.Name ts) (took note m.Name ts) (λ x mid named.
      gives_so (Taken note (suc room) k least (x ∷ []) mid) (Taken note (suc room) k least [] ts) (spec.after_name note limit room inner k x mid)
      (after_name_takes least x named.mark mid)
      (joined note (suc room) k least [] ts mid x named.at))

  super_called_takes : (least : ℕ) (ts : List Lexeme) → Gives (spec.super_called note limit room inner k ts) (Taken note (suc room) k least [] ts)
  unfolding spec.super_called
  super_called_takes least ts =
      gives_bind _ _ (expect note m.Super ts) (took note m.Super ts) (λ r t1 first.
      gives_bind _ _ (expect note m.Dot t1) (took note m.Dot t1) (λ dot t2 dotted.
      gives_bind _ _ (expect note m.Name t2) (took note m.Name t2) (λ x t3 named.
      gives_so (TakenCall note room k r.span super 0 x t3) (Taken note (suc room) k least [] ts) (spec.called note limit room inner k r.span super 0 x t3)
      (called_takes note limit room inner reads k r.span super 0 x t3)
      (λ p rest h. record {
        taken = r ∷ dot ∷ x ∷ h.left ∷ (h.part ++ h.right ∷ []);
        parts = rw (first.at, dotted.at, named.at, h.parts) refl;
        is = rw h.made (super_call_piece note room k r dot x h.left h.right h.trees h.part first.mark dotted.mark named.mark h.left_mark h.right_mark h.is);
        tight = λ less. omega (arith, ap (λ (z : Parsed). z.strength) h.made);
      }))))

  -- ---- prefixes

  prefixed_takes : (least : ℕ) → least ≤ 10 → (ts : List Lexeme) → is_prefix_mark (mark_at note ts) ≡ true
      → Gives (spec.prefixed note limit room inner k ts) (Taken note (suc room) k least [] ts)
  unfolding spec.prefixed
  prefixed_takes least le ts is =
      gives_bind _ _ (take_one ts) (took_one note ts) (λ op mid first.
      gives_bind _ _ (inner k 10 at_first mid) (reads k 10 (omega arith) at_first tt mid) (λ e rest h.
      record {
        taken = op ∷ h.taken;
        parts = first.at ∙ ap (λ (z : List Lexeme). op ∷ z) h.parts;
        is = unary_piece note room k op e h.taken (prefixes note (mark_at note ts) is op first.mark) (h.tight (omega arith)) h.is;
        tight = λ less. omega arith;
      }))

  -- ---- new objects and arrays

  sized_takes : (least : ℕ) (r x : Lexeme) → lexeme_mark note r ≡ m.New → Typed note x → (ts : List Lexeme)
      → Gives (spec.sized note limit room inner k r x ts) (Taken note (suc room) k least (r ∷ x ∷ []) ts)
  unfolding spec.sized
  sized_takes least r x first is ts =
      gives_bind _ _ (expect note m.LeftBracket ts) (took note m.LeftBracket ts) (λ p mid left.
      gives_bind _ _ (inner k 1 at_first mid) (reads k 1 (omega arith) at_first tt mid) (λ n end h.
      gives_bind _ _ (expect note m.RightBracket end) (took note m.RightBracket end) (λ q rest right.
      record {
        taken = p ∷ (h.taken ++ q ∷ []);
        parts = rw (left.at, h.parts, right.at) (sym (simp append_assoc));
        is = array_piece note room k r x p q n h.taken first is left.mark right.mark h.is;
        tight = λ less. less;
      })))

  constructed_takes : (least : ℕ) (r x : Lexeme) → lexeme_mark note r ≡ m.New → lexeme_mark note x ≡ m.Name → (ts : List Lexeme)
      → Gives (spec.constructed note limit room inner k r x ts) (Taken note (suc room) k least (r ∷ x ∷ []) ts)
  unfolding spec.constructed
  constructed_takes least r x first named ts =
      gives_bind _ _ (expect note m.LeftParen ts) (took note m.LeftParen ts) (λ p mid left.
      gives_bind _ _ (spec.arguments note limit room inner k mid) (arguments_takes note limit room inner reads k mid) (λ es end h.
      gives_bind _ _ (expect note m.RightParen end) (took note m.RightParen end) (λ q rest right.
      record {
        taken = p ∷ (h.taken ++ q ∷ []);
        parts = rw (left.at, h.parts, right.at) (sym (simp append_assoc));
        is = object_piece note room k r x p q es h.taken first named left.mark right.mark h.is;
        tight = λ less. omega arith;
      })))

  created_by_takes : (least : ℕ) (r x : Lexeme) → lexeme_mark note r ≡ m.New → lexeme_mark note x ≡ m.Name → (mark : Mark) (ts : List Lexeme)
      → Gives (spec.created_by note limit room inner k r x mark ts) (Taken note (suc room) k least (r ∷ x ∷ []) ts)
  created_by_takes least r x first named m.LeftParen ts = constructed_takes least r x first named ts
  created_by_takes least r x first named m.LeftBracket ts =
      deeper_takes (spec.sized note limit room inner k r x) (Taken note (suc room) k least (r ∷ x ∷ []) ts) ts (λ some. sized_takes least r x first (typed note m.Name refl x named) ts)
  created_by_takes least r x first named _ ts = tt

  new_of_name_takes : (least : ℕ) (r : Lexeme) → lexeme_mark note r ≡ m.New → (ts : List Lexeme)
      → Gives (spec.new_of_name note limit room inner k r ts) (Taken note (suc room) k least (r ∷ []) ts)
  unfolding spec.new_of_name
  new_of_name_takes least r first ts =
      gives_bind _ _ (expect note m.Name ts) (took note m.Name ts) (λ x mid named.
      gives_so (Taken note (suc room) k least (r ∷ x ∷ []) mid) (Taken note (suc room) k least (r ∷ []) ts) (spec.created_by note limit room inner k r x (mark_at note mid) mid)
      (created_by_takes least r x first named.mark (mark_at note mid) mid)
      (joined note (suc room) k least (r ∷ []) ts mid x named.at))

  new_of_word_takes : (least : ℕ) (r : Lexeme) → lexeme_mark note r ≡ m.New → (ts : List Lexeme) → is_type_mark (mark_at note ts) ≡ true
      → Gives (spec.deeper note limit room inner k (spec.new_of_word note limit room inner k r) ts) (Taken note (suc room) k least (r ∷ []) ts)
  unfolding spec.new_of_word
  new_of_word_takes least r first ts is =
      deeper_takes (spec.new_of_word note limit room inner k r) (Taken note (suc room) k least (r ∷ []) ts) ts (λ some.
      gives_bind _ _ (take_one ts) (took_one note ts) (λ x mid word.
      gives_so (Taken note (suc room) k least (r ∷ x ∷ []) mid) (Taken note (suc room) k least (r ∷ []) ts) (spec.sized note limit room inner k r x mid)
      (sized_takes least r x first (typed note (mark_at note ts) is x word.mark) mid)
      (joined note (suc room) k least (r ∷ []) ts mid x word.at)))

  new_by_takes : (least : ℕ) (r : Lexeme) → lexeme_mark note r ≡ m.New → (mark : Mark) (ts : List Lexeme) → mark_at note ts ≡ mark
      → Gives (spec.new_by note limit room inner k r mark ts) (Taken note (suc room) k least (r ∷ []) ts)
  new_by_takes least r first m.Name ts e = new_of_name_takes least r first ts
  new_by_takes least r first m.Int ts e = new_of_word_takes least r first ts (ap is_type_mark e)
  new_by_takes least r first m.Long ts e = new_of_word_takes least r first ts (ap is_type_mark e)
  new_by_takes least r first m.Boolean ts e = new_of_word_takes least r first ts (ap is_type_mark e)
  new_by_takes least r first _ ts e = tt

  created_takes : (least : ℕ) (ts : List Lexeme) → Gives (spec.created note limit room inner k ts) (Taken note (suc room) k least [] ts)
  unfolding spec.created
  created_takes least ts =
      gives_bind _ _ (expect note m.New ts) (took note m.New ts) (λ r mid first.
      gives_so (Taken note (suc room) k least (r ∷ []) mid) (Taken note (suc room) k least [] ts) (spec.new_by note limit room inner k r (mark_at note mid) mid)
      (new_by_takes least r first.mark (mark_at note mid) mid refl)
      (joined note (suc room) k least [] ts mid r first.at))

  -- ---- what a specification alone says

  old_value_takes : (least : ℕ) (ts : List Lexeme) → Gives (spec.old_value note limit room inner k ts) (Taken note (suc room) k least [] ts)
  unfolding spec.old_value
  old_value_takes least ts =
      gives_bind _ _ (expect note m.Old ts) (took note m.Old ts) (λ r t1 first.
      gives_bind _ _ (expect note m.LeftParen t1) (took note m.LeftParen t1) (λ p t2 left.
      gives_bind _ _ (inner k 1 at_first t2) (reads k 1 (omega arith) at_first tt t2) (λ e t3 h.
      gives_bind _ _ (expect note m.RightParen t3) (took note m.RightParen t3) (λ q rest right.
      record {
        taken = r ∷ p ∷ (h.taken ++ q ∷ []);
        parts = rw (first.at, left.at, h.parts, right.at) (sym (simp append_assoc));
        is = old_piece note room k r p q e h.taken first.mark left.mark right.mark h.is;
        tight = λ less. omega arith;
      }))))

  fresh_value_takes : (least : ℕ) (ts : List Lexeme) → Gives (spec.fresh_value note limit room inner k ts) (Taken note (suc room) k least [] ts)
  unfolding spec.fresh_value
  fresh_value_takes least ts =
      gives_bind _ _ (expect note m.Fresh ts) (took note m.Fresh ts) (λ r t1 first.
      gives_bind _ _ (expect note m.LeftParen t1) (took note m.LeftParen t1) (λ p t2 left.
      gives_bind _ _ (inner k 1 at_first t2) (reads k 1 (omega arith) at_first tt t2) (λ e t3 h.
      gives_bind _ _ (expect note m.RightParen t3) (took note m.RightParen t3) (λ q rest right.
      record {
        taken = r ∷ p ∷ (h.taken ++ q ∷ []);
        parts = rw (first.at, left.at, h.parts, right.at) (sym (simp append_assoc));
        is = fresh_piece note room k r p q e h.taken first.mark left.mark right.mark h.is;
        tight = λ less. omega arith;
      }))))

  -- ---- literals

  -- the tree of a literal is one node
  leaf_strength : (mark : Mark) (x : Lexeme) → strength (literal_of note limit room inner k mark x) ≡ 12
  leaf_strength m.Number x = refl
  leaf_strength m.True x = refl
  leaf_strength m.False x = refl
  leaf_strength m.Null x = refl
  leaf_strength m.This x = refl
  leaf_strength _ x = refl

  leaf_depth : (mark : Mark) (x : Lexeme) → depth (literal_of note limit room inner k mark x) ≡ 1
  leaf_depth m.Number x = refl
  leaf_depth m.True x = refl
  leaf_depth m.False x = refl
  leaf_depth m.Null x = refl
  leaf_depth m.This x = refl
  leaf_depth _ x = refl

  leaf_nesting : (mark : Mark) (x : Lexeme) → nesting (literal_of note limit room inner k mark x) ≡ 0
  leaf_nesting m.Number x = refl
  leaf_nesting m.True x = refl
  leaf_nesting m.False x = refl
  leaf_nesting m.Null x = refl
  leaf_nesting m.This x = refl
  leaf_nesting _ x = refl

  literal_takes : (least : ℕ) (mark : Mark) (ts : List Lexeme) → mark_at note ts ≡ mark → is_literal_mark mark ≡ true
      → Gives (spec.literal note limit room inner k mark ts) (Taken note (suc room) k least [] ts)
  unfolding spec.literal
  literal_takes least mark ts e is =
      gives_bind _ _ (take_one ts) (took_one note ts) (λ x rest h.
      record {
        taken = x ∷ [];
        parts = h.at;
        is = record {
          spelled = literal_spelled note limit room inner k mark is x (h.mark ∙ e);
          strong = sym (leaf_strength mark x);
          deep = leaf_depth mark x;
          shallow = omega arith;
          flat = omega (arith, leaf_nesting mark x);
        };
        tight = λ less. omega arith;
      })

  -- ---- by the first lexeme

  nested_prefix_takes : (least : ℕ) (mark : Mark) (ts : List Lexeme) → mark_at note ts ≡ mark → is_prefix_mark mark ≡ true
      → Gives (spec.nested_prefix note limit room inner k least mark ts) (Taken note (suc room) k least [] ts)
  nested_prefix_takes least m.Plus ts e is =
      gives_if (allows_prefix least) _ _ (Taken note (suc room) k least [] ts) ts
      (λ f. deeper_takes (spec.prefixed note limit room inner k) (Taken note (suc room) k least [] ts) ts (λ some. prefixed_takes least (leb-true least 10 f) ts (ap is_prefix_mark e)))
      (λ f. tt)
  nested_prefix_takes least m.Minus ts e is =
      gives_if (allows_prefix least) _ _ (Taken note (suc room) k least [] ts) ts
      (λ f. deeper_takes (spec.prefixed note limit room inner k) (Taken note (suc room) k least [] ts) ts (λ some. prefixed_takes least (leb-true least 10 f) ts (ap is_prefix_mark e)))
      (λ f. tt)
  nested_prefix_takes least m.Not ts e is =
      gives_if (allows_prefix least) _ _ (Taken note (suc room) k least [] ts) ts
      (λ f. deeper_takes (spec.prefixed note limit room inner k) (Taken note (suc room) k least [] ts) ts (λ some. prefixed_takes least (leb-true least 10 f) ts (ap is_prefix_mark e)))
      (λ f. tt)
  nested_prefix_takes least _ ts e is = absurd cc

  first_by_takes : (least : ℕ) (mark : Mark) (ts : List Lexeme) → mark_at note ts ≡ mark
      → Gives (spec.first_by note limit room inner k least mark ts) (Taken note (suc room) k least [] ts)
  first_by_takes least m.Number ts e = literal_takes least m.Number ts e refl
  first_by_takes least m.True ts e = literal_takes least m.True ts e refl
  first_by_takes least m.False ts e = literal_takes least m.False ts e refl
  first_by_takes least m.Null ts e = literal_takes least m.Null ts e refl
  first_by_takes least m.This ts e = literal_takes least m.This ts e refl
  first_by_takes least m.Result ts e = literal_takes least m.Result ts e refl
  first_by_takes least m.Name ts e = named_takes least ts
  first_by_takes least m.New ts e = created_takes least ts
  first_by_takes least m.Super ts e = super_called_takes least ts
  first_by_takes least m.LeftParen ts e =
      deeper_takes (spec.group note limit room inner k least) (Taken note (suc room) k least [] ts) ts (λ some. group_takes note limit room inner reads k least some ts)
  first_by_takes least m.Plus ts e = nested_prefix_takes least m.Plus ts e refl
  first_by_takes least m.Minus ts e = nested_prefix_takes least m.Minus ts e refl
  first_by_takes least m.Not ts e = nested_prefix_takes least m.Not ts e refl
  first_by_takes least m.Old ts e = deeper_takes (spec.old_value note limit room inner k) (Taken note (suc room) k least [] ts) ts (λ some. old_value_takes least ts)
  first_by_takes least m.Fresh ts e = deeper_takes (spec.fresh_value note limit room inner k) (Taken note (suc room) k least [] ts) ts (λ some. fresh_value_takes least ts)
  first_by_takes least _ ts e = tt

  pub first_takes : (least : ℕ) (ts : List Lexeme) → Gives (spec.first note limit room inner k least ts) (Taken note (suc room) k least [] ts)
  unfolding spec.first
  first_takes least ts = first_by_takes least (mark_at note ts) ts refl
