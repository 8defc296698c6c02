-- A parser of files that is short of room or turns has taken many lexemes.
use Rattle.std.proofs.Common.{◌≡◌, ◌⊎◌, ℕ, ◌+◌, ◌-◌, ◌≤◌, ◌<◌, true, false, List, [], length, drop, Err, sym, ap, subst, arith, codes, inl, inr}
use Rattle.std.proofs.lemmas.List.{length-append}
use Rattle.jesc_text.specs.declared.place.Span.{Span}
use Rattle.jesc_ast.specs.declared.word.Word.{Word}
use Rattle.jesc_ast.specs.Lexemes.{Lexeme}
use Rattle.jesc_ast.specs.FileTrees.{unit_of}
use Rattle.jesc_jml_grammar.specs.declared.mark.Mark.TheVariants as m
use Rattle.jesc_jml_grammar.specs.declared.fault.Fault.TheVariants.{Deep, Long}
use Rattle.jesc_jml_grammar.specs.Steps.{Outcome, ◌>>◌, ◌>>=◌, expect, pure}
use Rattle.jesc_jml_parser.specs.laws.Places.{split_at}
use Rattle.jesc_jml_grammar.specs.ClauseFound.{sized, no_items, with_more, with_word}
use Rattle.jesc_jml_parser.specs.laws.ClauseSpending.{Later}
use Rattle.jesc_java_grammar.specs.declared.member_mark.MemberMark.{MemberMark}
use Rattle.jesc_java_grammar.specs.declared.member_mark.MemberMark.TheVariants as s
use Rattle.jesc_java_grammar.specs.Lexing.{is_word, is_sign, next_is, take_if}
use Rattle.jesc_java_grammar.specs.FileMarks.{member_mark_at, at_code, before_end}
use Rattle.jesc_java_grammar.specs.FileReading as spec
use Rattle.jesc_java_grammar.specs.FileReading.{expression_of, Heading, class_tree, whole_file}
use Rattle.jesc_java_parser.proofs.Spending.{AtQuantifier, DeepThere, Spends, after, either, done, marked, after_mark, after_test, listed, spaced}
use Rattle.jesc_java_parser.proofs.MemberSpending.{names_after, modifiers, members}
use Rattle.jesc_jml_grammar.specs.ClauseMarks.{span_at}

module _ (limit room k : ℕ) where
  abbrev need : ℕ
  need = room - 2

  abbrev S : {A : Type 0} → (ℕ → A → Type 0) → ℕ → List Lexeme → Outcome A → Type 0
  S = Spends limit need

  -- ---- classes

  superclass : (b c : ℕ) → b ≤ c → (ts : List Lexeme) → S (Later b) c ts (spec.superclass limit room (expression_of limit) k ts)
  unfolding spec.superclass
  superclass b c le ts =
      either limit need (Later b) c (next_is (is_word (codes "extends") false) ts)
      (take_if (is_word (codes "extends") false) >> (expect false m.Name >>= λ x. pure (with_word [] x))) (pure []) ts
      (after_test limit need (is_word (codes "extends") false) _ (Later b) c ts (λ e t1 c1 e1.
      after_mark limit need false m.Name _ (Later b) c1 t1 (λ x t2 c2 e2. done limit need (Later b) c2 (with_word [] x) t2 (omega arith))))
      (done limit need {A = List Word} (Later b) c [] ts le)

  class_heading : (b c : ℕ) → b ≤ c + 1 → (ts : List Lexeme) → S (Later b) c ts (spec.class_heading limit room (expression_of limit) k ts)
  unfolding spec.class_heading
  class_heading b c le ts =
      after_test limit need (is_word (codes "class") false) _ (Later b) c ts (λ w t1 c1 e1.
      after_mark limit need false m.Name _ (Later b) c1 t1 (λ x t2 c2 e2.
      after limit need (Later c2) _ (Later b) c2 t2 (spec.superclass limit room (expression_of limit) k t2) (superclass c2 c2 (omega arith) t2) (λ extends t3 c3 e3.
      after limit need (Later c3) _ (Later b) c3 t3 (spec.names_after limit room (expression_of limit) k (codes "implements") t3)
      (names_after limit room k (codes "implements") c3 c3 (omega arith) t3) (λ implements t4 c4 e4.
      let found : Heading = record { is_interface = false; name = x; extends = extends; implements = implements } in
      done limit need (Later b) c4 found t4 (omega arith)))))

  interface_heading : (b c : ℕ) → b ≤ c + 1 → (ts : List Lexeme) → S (Later b) c ts (spec.interface_heading limit room (expression_of limit) k ts)
  unfolding spec.interface_heading
  interface_heading b c le ts =
      after_test limit need (is_word (codes "interface") false) _ (Later b) c ts (λ w t1 c1 e1.
      after_mark limit need false m.Name _ (Later b) c1 t1 (λ x t2 c2 e2.
      after limit need (Later c2) _ (Later b) c2 t2 (spec.names_after limit room (expression_of limit) k (codes "extends") t2)
      (names_after limit room k (codes "extends") c2 c2 (omega arith) t2) (λ extends t3 c3 e3.
      let found : Heading = record { is_interface = true; name = x; extends = extends; implements = [] } in
      done limit need (Later b) c3 found t3 (omega arith))))

  heading_by : (mark : MemberMark) (b c : ℕ) → b ≤ c + 1 → (ts : List Lexeme) → S (Later b) c ts (spec.heading_by limit room (expression_of limit) k mark ts)
  heading_by s.Class b c le ts = class_heading b c le ts
  heading_by s.Interface b c le ts = interface_heading b c le ts
  heading_by _ b c le ts = tt

  heading : (b c : ℕ) → b ≤ c + 1 → (ts : List Lexeme) → S (Later b) c ts (spec.heading limit room (expression_of limit) k ts)
  unfolding spec.heading
  heading b c le ts = heading_by (member_mark_at ts) b c le ts

  class_rest : (first : Span) (ws : List Word) (found : Heading) (b c : ℕ) → b ≤ c → (ts : List Lexeme)
      → S (Later b) c ts (spec.class_rest limit room (expression_of limit) k first ws found ts)
  unfolding spec.class_rest
  class_rest first ws found b c le ts =
      after_test limit need (is_sign (codes "{") false) _ (Later b) c ts (λ p t1 c1 e1.
      after limit need (Later c1) _ (Later b) c1 t1 (spec.members limit room (expression_of limit) k t1) (members limit room k c1 c1 (omega arith) (omega arith) t1) (λ ms t2 c2 e2.
      after_test limit need (is_sign (codes "}") false) _ (Later b) c2 t2 (λ q t3 c3 e3. done limit need (Later b) c3 (class_tree first ws found ms q) t3 (omega arith))))

  class_ : (b c : ℕ) → b ≤ c + 1 → 1 ≤ c → (ts : List Lexeme) → S (Later b) c ts (spec.class_ limit room (expression_of limit) k ts)
  unfolding spec.class_
  class_ b c le some ts =
      after limit need (Later c) _ (Later b) c ts (spec.modifiers limit room (expression_of limit) k [] ts) (modifiers limit room k [] c c (omega arith) some ts) (λ ws t1 c1 e1.
      after limit need (Later (c1 + 1)) _ (Later b) c1 t1 (spec.heading limit room (expression_of limit) k t1) (heading (c1 + 1) c1 (omega arith) t1) (λ found t2 c2 e2.
      class_rest (span_at ts) ws found b c2 (omega arith) t2))

  classes : (b c : ℕ) → b ≤ c → 1 ≤ c → (ts : List Lexeme) → S (Later b) c ts (spec.classes limit room (expression_of limit) k ts)
  unfolding spec.classes
  classes b c le some ts =
      listed limit need before_end (spec.class_ limit room (expression_of limit) k) with_more 1 (λ c' some us. class_ (c' + 1) c' (omega arith) some us)
      b limit no_items c (omega arith) le some ts

  -- ---- files

  dotted : (b c : ℕ) → b ≤ c → 1 ≤ c → (ts : List Lexeme) → S (Later b) c ts (spec.dotted limit room (expression_of limit) k ts)
  unfolding spec.dotted
  dotted b c le some ts =
      spaced limit need (at_code m.Dot) (expect false m.Dot) (expect false m.Name) with_word (λ c' some us. marked limit need (c' + 1) c' (omega arith) false m.Dot us)
      (λ c' some us. marked limit need (c' + 1) c' (omega arith) false m.Name us) b [] c (omega arith) some ts

  package_line : (b c : ℕ) → b ≤ c → (ts : List Lexeme) → S (Later b) c ts (spec.package_line limit room (expression_of limit) k ts)
  unfolding spec.package_line spec.some_package
  package_line b c le ts =
      either limit need (Later b) c (next_is (is_word (codes "package") false) ts) _ (pure []) ts
      (after_test limit need (is_word (codes "package") false) _ (Later b) c ts (λ w t1 c1 e1.
      after limit need (Later c1) _ (Later b) c1 t1 (spec.dotted limit room (expression_of limit) k t1) (dotted c1 c1 (omega arith) (omega arith) t1) (λ found t2 c2 e2.
      after_mark limit need false m.Semicolon _ (Later b) c2 t2 (λ q t3 c3 e3. done limit need (Later b) c3 found t3 (omega arith)))))
      (done limit need {A = List Word} (Later b) c [] ts le)

  file : (ts : List Lexeme) → S (Later 1) 1 ts (whole_file limit room k ts)
  unfolding whole_file spec.file
  file ts =
      after limit need (Later 1) _ (Later 1) 1 ts (spec.package_line limit room (expression_of limit) k ts) (package_line 1 1 (omega arith) ts) (λ found t1 c1 e1.
      after limit need (Later c1) _ (Later 1) c1 t1 (spec.classes limit room (expression_of limit) k t1) (classes c1 c1 (omega arith) e1 t1) (λ cs t2 c2 e2.
      done limit need (Later 1) c2 (sized (unit_of found cs.tree) cs.depth) t2 (omega arith)))

-- It stops for want of room at a quantifier, or with as many lexemes taken as there was room for and three less.
pub file_deep_place : (limit room k : ℕ) (ts : List Lexeme) (n : ℕ) → whole_file limit room k ts ≡ Err (Deep n)
    → AtQuantifier (drop (length ts - n) ts) ⊎ (room ≤ (length ts - n) + 3)
file_deep_place limit room k ts n is =
    let s : DeepThere (room - 2) 1 ts n = subst (Spends limit (room - 2) (Later 1) 1 ts) is (file limit room k ts) in
    let at = split_at ts s.taken s.rest n s.parts s.left in
    elim s.cause [
      | inl word ↦ inl (subst AtQuantifier (sym at.1) word)
      | inr many ↦ inr (omega (arith, s.left, ap length s.parts, length-append s.taken s.rest, many))
    ]

-- A list is never too long where the turns are more than the lexemes.
pub file_never_long : (limit room k : ℕ) (ts : List Lexeme) → length ts < limit → whole_file limit room k ts ≡ Err Long → ⊥
file_never_long limit room k ts few is =
    let s : limit < 1 + length ts = subst (Spends limit (room - 2) (Later 1) 1 ts) is (file limit room k ts) in
    omega arith
