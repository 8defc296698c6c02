-- How many lexemes the statements take that begin with a word of their own, and a stop at the limits.
use Rattle.std.proofs.Common.{ℕ, ◌+◌, ◌-◌, ◌≤◌, false, true, List, arith, codes}
use Rattle.jesc_ast.specs.Lexemes.{Lexeme}
use Rattle.jesc_jml_grammar.specs.declared.mark.Mark.TheVariants as m
use Rattle.jesc_jml_grammar.specs.Steps.{Outcome}
use Rattle.jesc_jml_parser.specs.laws.ClauseSpending.{Later}
use Rattle.jesc_java_grammar.specs.Lexing.{is_word, is_sign}
use Rattle.jesc_java_grammar.specs.StatementFound.{GhostHead, return_of, throw_of, break_of, continue_of, empty_of, assertion_of, set_of, ghost_of}
use Rattle.jesc_java_grammar.specs.StatementReading as spec
use Rattle.jesc_java_grammar.specs.FileReading.{expression_of}
use Rattle.jesc_java_parser.proofs.Spending.{Spends, after, done, after_mark, after_test}
use Rattle.jesc_java_parser.proofs.PartSpending.{after_tree, type_inside, target, optional_value}

module _ (limit room k : ℕ) where
  abbrev need : ℕ
  need = room - 1

  abbrev S : {A : Type 0} → (ℕ → A → Type 0) → ℕ → List Lexeme → Outcome A → Type 0
  S = Spends limit need

  pub returned : (b c : ℕ) → b ≤ c + 1 → 1 ≤ c → (ts : List Lexeme) → S (Later b) c ts (spec.returned limit room (expression_of limit) k ts)
  unfolding spec.returned
  returned b c le some ts =
      after_test limit need (is_word (codes "return") false) _ (Later b) c ts (λ r t1 c1 e1.
      after limit need (Later c1) _ (Later b) c1 t1 (spec.optional_value limit room (expression_of limit) k m.Semicolon t1)
      (optional_value limit room k m.Semicolon c1 c1 (omega arith) t1) (λ e t2 c2 e2.
      after_mark limit need false m.Semicolon _ (Later b) c2 t2 (λ p t3 c3 e3. done limit need (Later b) c3 (return_of r e p) t3 (omega arith))))

  pub thrown : (b c : ℕ) → b ≤ c + 1 → 1 ≤ c → (ts : List Lexeme) → S (Later b) c ts (spec.thrown limit room (expression_of limit) k ts)
  unfolding spec.thrown
  thrown b c le some ts =
      after_test limit need (is_word (codes "throw") false) _ (Later b) c ts (λ r t1 c1 e1.
      after_tree limit room k false _ (Later b) c1 t1 (λ e t2 c2 e2.
      after_mark limit need false m.Semicolon _ (Later b) c2 t2 (λ p t3 c3 e3. done limit need (Later b) c3 (throw_of r e p) t3 (omega arith))))

  pub broken : (b c : ℕ) → b ≤ c + 1 → 1 ≤ c → (ts : List Lexeme) → S (Later b) c ts (spec.broken limit room (expression_of limit) k ts)
  unfolding spec.broken
  broken b c le some ts =
      after_test limit need (is_word (codes "break") false) _ (Later b) c ts (λ r t1 c1 e1.
      after_mark limit need false m.Semicolon _ (Later b) c1 t1 (λ p t2 c2 e2. done limit need (Later b) c2 (break_of r p) t2 (omega arith)))

  pub continued : (b c : ℕ) → b ≤ c + 1 → 1 ≤ c → (ts : List Lexeme) → S (Later b) c ts (spec.continued limit room (expression_of limit) k ts)
  unfolding spec.continued
  continued b c le some ts =
      after_test limit need (is_word (codes "continue") false) _ (Later b) c ts (λ r t1 c1 e1.
      after_mark limit need false m.Semicolon _ (Later b) c1 t1 (λ p t2 c2 e2. done limit need (Later b) c2 (continue_of r p) t2 (omega arith)))

  pub nothing : (b c : ℕ) → b ≤ c + 1 → 1 ≤ c → (ts : List Lexeme) → S (Later b) c ts (spec.nothing limit room (expression_of limit) k ts)
  unfolding spec.nothing
  nothing b c le some ts = after_mark limit need false m.Semicolon _ (Later b) c ts (λ p t1 c1 e1. done limit need (Later b) c1 (empty_of p) t1 (omega arith))

  -- ---- statements of annotations

  pub asserted : (b c : ℕ) → b ≤ c + 1 → 1 ≤ c → (ts : List Lexeme) → S (Later b) c ts (spec.asserted limit room (expression_of limit) k ts)
  unfolding spec.asserted
  asserted b c le some ts =
      after_test limit need (is_word (codes "assert") true) _ (Later b) c ts (λ r t1 c1 e1.
      after_tree limit room k true _ (Later b) c1 t1 (λ e t2 c2 e2.
      after_mark limit need true m.Semicolon _ (Later b) c2 t2 (λ p t3 c3 e3. done limit need (Later b) c3 (assertion_of r e p) t3 (omega arith))))

  pub set_ : (b c : ℕ) → b ≤ c + 1 → 1 ≤ c → (ts : List Lexeme) → S (Later b) c ts (spec.set_ limit room (expression_of limit) k ts)
  unfolding spec.set_
  set_ b c le some ts =
      after_test limit need (is_word (codes "set") true) _ (Later b) c ts (λ r t1 c1 e1.
      after limit need (Later c1) _ (Later b) c1 t1 (spec.target limit room (expression_of limit) k true t1) (target limit room k true c1 c1 (omega arith) (omega arith) t1) (λ a t2 c2 e2.
      after_test limit need (is_sign (codes "=") true) _ (Later b) c2 t2 (λ q t3 c3 e3.
      after_tree limit room k true _ (Later b) c3 t3 (λ e t4 c4 e4.
      after_mark limit need true m.Semicolon _ (Later b) c4 t4 (λ p t5 c5 e5. done limit need (Later b) c5 (set_of r a q e p) t5 (omega arith))))))

  ghost_head : (b c : ℕ) → b ≤ c → (ts : List Lexeme) → S (Later b) c ts (spec.ghost_head limit room (expression_of limit) k ts)
  unfolding spec.ghost_head
  ghost_head b c le ts =
      after_test limit need (is_word (codes "ghost") true) _ (Later b) c ts (λ r t1 c1 e1.
      after limit need (Later c1) _ (Later b) c1 t1 (spec.type_inside limit room (expression_of limit) k true t1) (type_inside limit room k true c1 c1 (omega arith) t1) (λ t t2 c2 e2.
      after_mark limit need true m.Name _ (Later b) c2 t2 (λ x t3 c3 e3.
      after_test limit need (is_sign (codes "=") true) _ (Later b) c3 t3 (λ q t4 c4 e4.
      let head : GhostHead = record { first = r; ty = t; name = x; equals = q } in
      done limit need (Later b) c4 head t4 (omega arith)))))

  pub ghost_ : (b c : ℕ) → b ≤ c + 1 → 1 ≤ c → (ts : List Lexeme) → S (Later b) c ts (spec.ghost_ limit room (expression_of limit) k ts)
  unfolding spec.ghost_
  ghost_ b c le some ts =
      after limit need (Later c) _ (Later b) c ts (spec.ghost_head limit room (expression_of limit) k ts) (ghost_head c c (omega arith) ts) (λ head t1 c1 e1.
      after_tree limit room k true _ (Later b) c1 t1 (λ e t2 c2 e2.
      after_mark limit need true m.Semicolon _ (Later b) c2 t2 (λ p t3 c3 e3. done limit need (Later b) c3 (ghost_of head e p) t3 (omega arith))))
