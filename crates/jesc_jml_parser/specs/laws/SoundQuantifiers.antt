-- What the rules of quantifiers take, and what stands behind a left parenthesis.
use Rattle.std.proofs.Common.{◌≡◌, ℕ, suc, ◌-◌, ◌<◌, Bool, List, [], ◌∷◌, ◌++◌, refl, sym, ap, append_assoc, arith}
use Rattle.std.proofs.lemmas.Bool.{ltb-true}
use Rattle.std.specs.Prelude.{nat_lt}
use Rattle.jesc_ast.specs.Lexemes.{Lexeme}
use Rattle.jesc_jml_grammar.specs.declared.mark.Mark.{Mark}
use Rattle.jesc_jml_grammar.specs.declared.mark.Mark.TheVariants as m
use Rattle.jesc_jml_grammar.specs.Marks.{lexeme_mark}
use Rattle.jesc_jml_grammar.specs.Steps.{Parser, mark_at, take_one, expect, is_name_again}
use Rattle.jesc_jml_grammar.specs.Reading as spec
use Rattle.jesc_jml_grammar.specs.Reading.{Parsed, Bounds, Start, at_first, is_quantifier_mark, is_bound_mark}
use Rattle.jesc_jml_parser.specs.laws.SoundLexemes.{Quantifies, quantifies, Bounding, bounding, name_again, is_primitive_mark}
use Rattle.jesc_jml_parser.specs.laws.SoundPieces.{AreBounds}
use Rattle.jesc_jml_parser.specs.laws.SoundLists.{quantifier_piece}
use Rattle.jesc_jml_parser.specs.laws.SoundSteps.{Gives, gives_bind, gives_if, gives_so, took_one, took, Taken, TakesWhole}
use Rattle.jesc_jml_parser.specs.laws.SoundGroups.{joined, grouped_takes, named_group_takes, typed_group_takes}

pub record TakenQuantifier (note : Bool) (k : ℕ) (ts : List Lexeme) (all : Bool) (rest : List Lexeme) : Type 0 where
  pub word : Lexeme
  pub at : ts ≡ word ∷ rest
  pub is : Quantifies note all word
  pub some : 0 < k

pub record TakenBound (note : Bool) (ts : List Lexeme) (strict : Bool) (rest : List Lexeme) : Type 0 where
  pub sign : Lexeme
  pub at : ts ≡ sign ∷ rest
  pub is : Bounding note strict sign

pub record TakenName (note : Bool) (text : List ℕ) (ts : List Lexeme) (x : Lexeme) (rest : List Lexeme) : Type 0 where
  pub at : ts ≡ x ∷ rest
  pub named : lexeme_mark note x ≡ m.Name
  pub same : x.text ≡ text

pub record TakenBounds (note : Bool) (room k : ℕ) (text : List ℕ) (ts : List Lexeme) (b : Bounds) (rest : List Lexeme) : Type 0 where
  pub taken : List Lexeme
  pub parts : ts ≡ taken ++ rest
  pub is : AreBounds note room k text taken b

module _ (note : Bool) (limit room : ℕ) (inner : ℕ → ℕ → Start → Parser Parsed) (reads : TakesWhole note room inner) (k : ℕ) where
  quantifier_word_takes : (ts : List Lexeme) → Gives (spec.quantifier_word note limit room inner k ts) (TakenQuantifier note k ts)
  unfolding spec.quantifier_word
  quantifier_word_takes ts =
      gives_if (is_quantifier_mark (mark_at note ts)) _ _ (TakenQuantifier note k ts) ts
      (λ e. gives_if (nat_lt 0 k) _ _ (TakenQuantifier note k ts) ts
      (λ f. gives_bind _ _ (take_one ts) (took_one note ts) (λ x rest h.
      record { word = x; at = h.at; is = quantifies note (mark_at note ts) e x h.mark; some = ltb-true 0 k f }))
      (λ f. tt))
      (λ e. tt)

  bound_sign_takes : (ts : List Lexeme) → Gives (spec.bound_sign note limit room inner k ts) (TakenBound note ts)
  unfolding spec.bound_sign
  bound_sign_takes ts =
      gives_if (is_bound_mark (mark_at note ts)) _ _ (TakenBound note ts) ts
      (λ e. gives_bind _ _ (take_one ts) (took_one note ts) (λ x rest h.
      record { sign = x; at = h.at; is = bounding note (mark_at note ts) e x h.mark }))
      (λ e. tt)

  same_name_takes : (x : Lexeme) (ts : List Lexeme) → Gives (spec.same_name note limit room inner k x ts) (TakenName note x.text ts)
  unfolding spec.same_name take_one
  same_name_takes x [] = tt
  same_name_takes x (y ∷ ts) =
      gives_if (is_name_again note x.text (y ∷ ts)) _ _ (TakenName note x.text (y ∷ ts)) (y ∷ ts)
      (λ e. let is = name_again note x.text y ts e in record { at = refl; named = is.0; same = is.1 })
      (λ e. tt)

  bounds_takes : (x : Lexeme) (ts : List Lexeme) → Gives (spec.bounds note limit room inner k x ts) (TakenBounds note room (k - 1) x.text ts)
  unfolding spec.bounds
  bounds_takes x ts =
      gives_bind _ _ (inner (k - 1) 8 at_first ts) (reads (k - 1) 8 (omega arith) at_first tt ts) (λ low t1 a.
      gives_bind _ _ (spec.bound_sign note limit room inner k t1) (bound_sign_takes t1) (λ low_strict t2 c.
      gives_bind _ _ (spec.same_name note limit room inner k x t2) (same_name_takes x t2) (λ y t3 first.
      gives_bind _ _ (expect note m.And t3) (took note m.And t3) (λ j t4 joint.
      gives_bind _ _ (spec.same_name note limit room inner k x t4) (same_name_takes x t4) (λ z t5 second.
      gives_bind _ _ (spec.bound_sign note limit room inner k t5) (bound_sign_takes t5) (λ high_strict t6 d.
      gives_bind _ _ (inner (k - 1) 8 at_first t6) (reads (k - 1) 8 (omega arith) at_first tt t6) (λ high rest b.
      record {
        taken = a.taken ++ c.sign ∷ y ∷ j ∷ z ∷ d.sign ∷ b.taken;
        parts = rw (a.parts, c.at, first.at, joint.at, second.at, d.at, b.parts) (sym (append_assoc a.taken (c.sign ∷ y ∷ j ∷ z ∷ d.sign ∷ b.taken) rest));
        is = record {
          low_part = a.taken;
          low_sign = c.sign;
          first = y;
          joint = j;
          second = z;
          high_sign = d.sign;
          high_part = b.taken;
          parts = refl;
          low = a.is;
          low_tight = a.tight (omega arith);
          low_bound = c.is;
          first_name = first.named;
          first_same = first.same;
          joined = joint.mark;
          second_name = second.named;
          second_same = second.same;
          high_bound = d.is;
          high = b.is;
          high_tight = b.tight (omega arith);
        };
      })))))))

  pub quantified_takes : (least : ℕ) (p : Lexeme) → lexeme_mark note p ≡ m.LeftParen → (ts : List Lexeme)
      → Gives (spec.quantified note limit room inner k p ts) (Taken note (suc room) k least (p ∷ []) ts)
  unfolding spec.quantified
  quantified_takes least p left ts =
      gives_bind _ _ (spec.quantifier_word note limit room inner k ts) (quantifier_word_takes ts) (λ all t1 word.
      gives_bind _ _ (expect note m.Int t1) (took note m.Int t1) (λ i t2 typed.
      gives_bind _ _ (expect note m.Name t2) (took note m.Name t2) (λ x t3 named.
      gives_bind _ _ (expect note m.Semicolon t3) (took note m.Semicolon t3) (λ s t4 first.
      gives_bind _ _ (spec.bounds note limit room inner k x t4) (bounds_takes x t4) (λ b t5 h.
      gives_bind _ _ (expect note m.Semicolon t5) (took note m.Semicolon t5) (λ r t6 second.
      gives_bind _ _ (inner (k - 1) 1 at_first t6) (reads (k - 1) 1 (omega arith) at_first tt t6) (λ e t7 g.
      gives_bind _ _ (expect note m.RightParen t7) (took note m.RightParen t7) (λ q rest right.
      record {
        taken = word.word ∷ i ∷ x ∷ s ∷ (h.taken ++ r ∷ (g.taken ++ q ∷ []));
        parts = rw (word.at, typed.at, named.at, first.at, h.parts, second.at, g.parts, right.at) (sym (simp append_assoc));
        is = quantifier_piece note room k p word.word i x s r q all b e h.taken g.taken word.some left word.is typed.mark named.mark first.mark h.is second.mark g.is right.mark;
        tight = λ less. omega arith;
      }))))))))

  -- ---- behind a left parenthesis

  group_by_takes : (least : ℕ) (p : Lexeme) → lexeme_mark note p ≡ m.LeftParen → 0 < room → (mark : Mark) (ts : List Lexeme) → mark_at note ts ≡ mark
      → Gives (spec.group_by note limit room inner k least p mark ts) (Taken note (suc room) k least (p ∷ []) ts)
  group_by_takes least p left some m.Forall ts e = quantified_takes least p left ts
  group_by_takes least p left some m.Exists ts e = quantified_takes least p left ts
  group_by_takes least p left some m.Int ts e = typed_group_takes note limit room inner reads k least p left ts (ap is_primitive_mark e)
  group_by_takes least p left some m.Long ts e = typed_group_takes note limit room inner reads k least p left ts (ap is_primitive_mark e)
  group_by_takes least p left some m.Boolean ts e = typed_group_takes note limit room inner reads k least p left ts (ap is_primitive_mark e)
  group_by_takes least p left some m.Name ts e = named_group_takes note limit room inner reads k least p left some ts
  group_by_takes least p left some _ ts e = grouped_takes note limit room inner reads k least p left at_first tt ts

  pub group_takes : (least : ℕ) → 0 < room → (ts : List Lexeme) → Gives (spec.group note limit room inner k least ts) (Taken note (suc room) k least [] ts)
  unfolding spec.group
  group_takes least some ts =
      gives_bind _ _ (expect note m.LeftParen ts) (took note m.LeftParen ts) (λ p mid left.
      gives_so (Taken note (suc room) k least (p ∷ []) mid) (Taken note (suc room) k least [] ts) (spec.group_by note limit room inner k least p (mark_at note mid) mid)
      (group_by_takes least p left.mark some (mark_at note mid) mid refl)
      (joined note (suc room) k least [] ts mid p left.at))
