-- How many lexemes statements take, and a stop at the limits.
use Rattle.std.proofs.Common.{◌≡◌, ℕ, zero, suc, ◌+◌, ◌-◌, ◌≤◌, true, false, List, arith, codes}
use Rattle.std.specs.Prelude.{not}
use Rattle.jesc_ast.specs.Lexemes.{Lexeme}
use Rattle.jesc_ast.specs.Trees.{Statement, Catch, Clause}
use Rattle.jesc_jml_grammar.specs.declared.mark.Mark.{Mark}
use Rattle.jesc_jml_grammar.specs.declared.mark.Mark.TheVariants as m
use Rattle.jesc_jml_grammar.specs.Steps.{Outcome, Parser, ◌>>◌, refuse, too_deep, mark_at, same_mark, pure}
use Rattle.jesc_jml_grammar.specs.Reading.{Parsed}
use Rattle.jesc_jml_grammar.specs.ClauseFound.{Sized, no_items, with_more}
use Rattle.jesc_jml_parser.specs.laws.ClauseSpending.{Later}
use Rattle.jesc_java_grammar.specs.declared.statement_mark.StatementMark.{StatementMark}
use Rattle.jesc_java_grammar.specs.declared.statement_mark.StatementMark.TheVariants as s
use Rattle.jesc_java_grammar.specs.declared.statement_mark.Slot.{Slot}
use Rattle.jesc_java_grammar.specs.declared.statement_mark.Slot.TheVariants as slots
use Rattle.jesc_java_grammar.specs.Lexing.{is_word, is_sign, next_is, take_if}
use Rattle.jesc_java_grammar.specs.StatementMarks.{statement_mark_at, allows_branch, allows_loop, begins}
use Rattle.jesc_java_grammar.specs.StatementFound.{CatchHead, body_of, block_of, branch_of, branch_else_of, while_of, head_of, for_of, catch_of, attempt_of}
use Rattle.jesc_java_grammar.specs.StatementReading as spec
use Rattle.jesc_java_grammar.specs.FileReading.{expression_of}
use Rattle.jesc_java_parser.proofs.Spending.{Spends, of_inner, after, either, done, deep, after_mark, after_test, listed}
use Rattle.jesc_java_parser.proofs.PartSpending as parts
use Rattle.jesc_java_parser.proofs.WordSpending as words

-- what is said of a parser of statements that have so much room, where one lexeme stands before
abbrev pub Inside : (limit room : ℕ) → (Slot → Parser (Sized Statement)) → Type 0
Inside limit room statement = (slot : Slot) (ts : List Lexeme) → Spends limit (room - 2) (Later 2) 1 ts (statement slot ts)

module _ (limit room k : ℕ) (statement : Slot → Parser (Sized Statement)) (inside : Inside limit room statement) where
  abbrev need : ℕ
  need = room - 1

  abbrev S : {A : Type 0} → (ℕ → A → Type 0) → ℕ → List Lexeme → Outcome A → Type 0
  S = Spends limit need

  -- a statement inside stands behind a lexeme of the one around
  nested : (slot : Slot) (b c : ℕ) → b ≤ c + 1 → 2 ≤ c → (ts : List Lexeme) → S (Later b) c ts (statement slot ts)
  nested slot b c le two ts =
      of_inner limit (room - 2) need (Later 2) (Later b) 1 c ts (omega arith) (omega arith) (λ t x late. omega arith) (statement slot ts) (inside slot ts)

  -- ---- bodies

  statements : (first : Sized (List Statement)) (b c : ℕ) → b ≤ c → 2 ≤ c → (ts : List Lexeme)
      → S (Later b) c ts (spec.statements limit room (expression_of limit) k statement first ts)
  unfolding spec.statements
  statements first b c le two ts =
      listed limit need (λ us. not (next_is (is_sign (codes "}") false) us)) (statement slots.Any) with_more 2 (λ c' two us. nested slots.Any (c' + 1) c' (omega arith) two us)
      b limit first c (omega arith) le two ts

  body_rest : (first : Sized (List Statement)) (b c : ℕ) → b ≤ c → 2 ≤ c → (ts : List Lexeme)
      → S (Later b) c ts (spec.body_rest limit room (expression_of limit) k statement first ts)
  unfolding spec.body_rest
  body_rest first b c le two ts =
      after limit need (Later c) _ (Later b) c ts (spec.statements limit room (expression_of limit) k statement first ts) (statements first c c (omega arith) two ts) (λ ss t1 c1 e1.
      after_test limit need (is_sign (codes "}") false) _ (Later b) c1 t1 (λ q t2 c2 e2. done limit need (Later b) c2 (body_of ss q) t2 (omega arith)))

  pub braced : (b c : ℕ) → b ≤ c + 1 → 1 ≤ c → (ts : List Lexeme) → S (Later b) c ts (spec.braced limit room (expression_of limit) k statement ts)
  unfolding spec.braced
  braced b c le some ts =
      after_test limit need (is_sign (codes "{") false) _ (Later b) c ts (λ p mid c1 e1. body_rest no_items b c1 (omega arith) (omega arith) mid)

  block_ : (b c : ℕ) → b ≤ c + 1 → 1 ≤ c → (ts : List Lexeme) → S (Later b) c ts (spec.block_ limit room (expression_of limit) k statement ts)
  unfolding spec.block_
  block_ b c le some ts =
      after_test limit need (is_sign (codes "{") false) _ (Later b) c ts (λ p t1 c1 e1.
      after limit need (Later c1) _ (Later b) c1 t1 (spec.body_rest limit room (expression_of limit) k statement no_items t1)
      (body_rest no_items c1 c1 (omega arith) (omega arith) t1) (λ body t2 c2 e2. done limit need (Later b) c2 (block_of p body) t2 (omega arith)))

  super_first : (b c : ℕ) → b ≤ c → 2 ≤ c → (ts : List Lexeme) → S (Later b) c ts (spec.super_first limit room (expression_of limit) k statement ts)
  unfolding spec.super_first
  super_first b c le two ts =
      after limit need (Later c) _ (Later b) c ts (spec.super_statement limit (room - 1) (expression_of limit) k ts)
      (of_inner limit (room - 1 - 1) need (Later 1) (Later c) 1 c ts (omega arith) (omega arith) (λ t x late. omega arith) _
      (parts.super_statement limit (room - 1) k 1 1 (omega arith) (omega arith) ts)) (λ t mid c1 e1.
      body_rest (with_more no_items t) b c1 (omega arith) (omega arith) mid)

  pub constructor_body : (b c : ℕ) → b ≤ c + 1 → 1 ≤ c → (ts : List Lexeme) → S (Later b) c ts (spec.constructor_body limit room (expression_of limit) k statement ts)
  unfolding spec.constructor_body
  constructor_body b c le some ts =
      after_test limit need (is_sign (codes "{") false) _ (Later b) c ts (λ p mid c1 e1.
      either limit need (Later b) c1 (same_mark (mark_at false mid) m.Super) _ _ mid
      (parts.roomy limit room k (Later b) c1 (spec.super_first limit room (expression_of limit) k statement) mid (super_first b c1 (omega arith) (omega arith) mid))
      (body_rest no_items b c1 (omega arith) (omega arith) mid))

  -- ---- branches

  otherwise : (r : Lexeme) (test : Parsed) (first : Sized Statement) (b c : ℕ) → b ≤ c → 1 ≤ c → (ts : List Lexeme)
      → S (Later b) c ts (spec.otherwise limit room (expression_of limit) k statement r test first ts)
  unfolding spec.otherwise
  otherwise r test first b c le some ts =
      after_test limit need (is_word (codes "else") false) _ (Later b) c ts (λ e t1 c1 e1.
      after limit need (Later c1) _ (Later b) c1 t1 (statement slots.Else t1) (nested slots.Else c1 c1 (omega arith) (omega arith) t1) (λ other t2 c2 e2.
      done limit need (Later b) c2 (branch_else_of r test first other) t2 (omega arith)))

  branch_behind : (r : Lexeme) (test : Parsed) (first : Sized Statement) (b c : ℕ) → b ≤ c → 1 ≤ c → (ts : List Lexeme)
      → S (Later b) c ts (spec.branch_behind limit room (expression_of limit) k statement r test first ts)
  unfolding spec.branch_behind
  branch_behind r test first b c le some ts =
      either limit need (Later b) c (next_is (is_word (codes "else") false) ts) _ (pure (branch_of r test first)) ts (otherwise r test first b c le some ts)
      (done limit need (Later b) c (branch_of r test first) ts le)

  branch_ : (b c : ℕ) → b ≤ c + 1 → 1 ≤ c → (ts : List Lexeme) → S (Later b) c ts (spec.branch_ limit room (expression_of limit) k statement ts)
  unfolding spec.branch_
  branch_ b c le some ts =
      after_test limit need (is_word (codes "if") false) _ (Later b) c ts (λ r t1 c1 e1.
      after limit need (Later c1) _ (Later b) c1 t1 (spec.condition limit room (expression_of limit) k t1) (parts.condition limit room k c1 c1 (omega arith) t1) (λ test t2 c2 e2.
      after limit need (Later c2) _ (Later b) c2 t2 (statement slots.Then t2) (nested slots.Then c2 c2 (omega arith) (omega arith) t2) (λ first t3 c3 e3.
      branch_behind r test first b c3 (omega arith) (omega arith) t3)))

  -- ---- loops

  while_ : (cs : Sized (List Clause)) (b c : ℕ) → b ≤ c + 1 → 1 ≤ c → (ts : List Lexeme) → S (Later b) c ts (spec.while_ limit room (expression_of limit) k statement cs ts)
  unfolding spec.while_
  while_ cs b c le some ts =
      after_test limit need (is_word (codes "while") false) _ (Later b) c ts (λ r t1 c1 e1.
      after limit need (Later c1) _ (Later b) c1 t1 (spec.condition limit room (expression_of limit) k t1) (parts.condition limit room k c1 c1 (omega arith) t1) (λ test t2 c2 e2.
      after limit need (Later c2) _ (Later b) c2 t2 (statement slots.Then t2) (nested slots.Then c2 c2 (omega arith) (omega arith) t2) (λ turn t3 c3 e3.
      done limit need (Later b) c3 (while_of cs r test turn) t3 (omega arith))))

  for_head : (b c : ℕ) → b ≤ c → 1 ≤ c → (ts : List Lexeme) → S (Later b) c ts (spec.for_head limit room (expression_of limit) k statement ts)
  unfolding spec.for_head
  for_head b c le some ts =
      after_mark limit need false m.LeftParen _ (Later b) c ts (λ p t1 c1 e1.
      after limit need (Later c1) _ (Later b) c1 t1 (spec.for_first limit (room - 1) (expression_of limit) k t1)
      (of_inner limit (room - 1 - 1) need (Later 1) (Later c1) 1 c1 t1 (omega arith) (omega arith) (λ t x late. omega arith) _
      (parts.for_first limit (room - 1) k 1 1 (omega arith) (omega arith) t1)) (λ first t2 c2 e2.
      after_mark limit need false m.Semicolon _ (Later b) c2 t2 (λ q t3 c3 e3.
      after limit need (Later c3) _ (Later b) c3 t3 (spec.optional_value limit room (expression_of limit) k m.Semicolon t3)
      (parts.optional_value limit room k m.Semicolon c3 c3 (omega arith) t3) (λ test t4 c4 e4.
      after_mark limit need false m.Semicolon _ (Later b) c4 t4 (λ r t5 c5 e5.
      after limit need (Later c5) _ (Later b) c5 t5 (spec.for_last limit (room - 1) (expression_of limit) k t5)
      (of_inner limit (room - 1 - 1) need (Later 1) (Later c5) 1 c5 t5 (omega arith) (omega arith) (λ t x late. omega arith) _
      (parts.for_last limit (room - 1) k 1 1 (omega arith) (omega arith) t5)) (λ last t6 c6 e6.
      after_mark limit need false m.RightParen _ (Later b) c6 t6 (λ z t7 c7 e7. done limit need (Later b) c7 (head_of first test last) t7 (omega arith))))))))

  for_ : (cs : Sized (List Clause)) (b c : ℕ) → b ≤ c + 1 → 1 ≤ c → (ts : List Lexeme) → S (Later b) c ts (spec.for_ limit room (expression_of limit) k statement cs ts)
  unfolding spec.for_
  for_ cs b c le some ts =
      after_test limit need (is_word (codes "for") false) _ (Later b) c ts (λ r t1 c1 e1.
      after limit need (Later c1) _ (Later b) c1 t1 (spec.for_head limit room (expression_of limit) k statement t1) (for_head c1 c1 (omega arith) (omega arith) t1) (λ head t2 c2 e2.
      after limit need (Later c2) _ (Later b) c2 t2 (statement slots.Then t2) (nested slots.Then c2 c2 (omega arith) (omega arith) t2) (λ turn t3 c3 e3.
      done limit need (Later b) c3 (for_of cs r head turn) t3 (omega arith))))

  loop_by : (cs : Sized (List Clause)) (mark : StatementMark) (b c : ℕ) → b ≤ c + 1 → 1 ≤ c → (ts : List Lexeme)
      → S (Later b) c ts (spec.loop_by limit room (expression_of limit) k statement cs mark ts)
  loop_by cs s.While b c le some ts = while_ cs b c le some ts
  loop_by cs s.For b c le some ts = for_ cs b c le some ts
  loop_by cs _ b c le some ts = tt

  loop : (b c : ℕ) → b ≤ c + 1 → 1 ≤ c → (ts : List Lexeme) → S (Later b) c ts (spec.loop_ limit room (expression_of limit) k statement ts)
  unfolding spec.loop_
  loop b c le some ts =
      after limit need (Later c) _ (Later b) c ts (spec.invariants limit room (expression_of limit) k ts) (parts.invariants limit room k c c (omega arith) some ts) (λ cs mid c1 e1.
      loop_by cs (statement_mark_at mid) b c1 (omega arith) (omega arith) mid)

  -- ---- `try`

  optional_final : (b c : ℕ) → b ≤ c → (ts : List Lexeme) → S (Later b) c ts (spec.optional_final limit room (expression_of limit) k statement ts)
  unfolding spec.optional_final
  optional_final b c le ts =
      either limit need (Later b) c (next_is (is_word (codes "final") false) ts) (take_if (is_word (codes "final") false) >> pure true) (pure false) ts
      (after_test limit need (is_word (codes "final") false) _ (Later b) c ts (λ f mid c1 e1. done limit need (Later b) c1 true mid (omega arith)))
      (done limit need (Later b) c false ts le)

  catch_head : (b c : ℕ) → b ≤ c + 1 → (ts : List Lexeme) → S (Later b) c ts (spec.catch_head limit room (expression_of limit) k statement ts)
  unfolding spec.catch_head
  catch_head b c le ts =
      after_test limit need (is_word (codes "catch") false) _ (Later b) c ts (λ r t1 c1 e1.
      after_mark limit need false m.LeftParen _ (Later b) c1 t1 (λ p t2 c2 e2.
      after limit need (Later c2) _ (Later b) c2 t2 (spec.optional_final limit room (expression_of limit) k statement t2) (optional_final c2 c2 (omega arith) t2) (λ is_final t3 c3 e3.
      after_mark limit need false m.Name _ (Later b) c3 t3 (λ class t4 c4 e4.
      after_mark limit need false m.Name _ (Later b) c4 t4 (λ name t5 c5 e5.
      after_mark limit need false m.RightParen _ (Later b) c5 t5 (λ q t6 c6 e6.
      let head : CatchHead = record { is_final = is_final; class = class; name = name } in
      done limit need (Later b) c6 head t6 (omega arith)))))))

  catch_ : (b c : ℕ) → b ≤ c + 1 → 1 ≤ c → (ts : List Lexeme) → S (Later b) c ts (spec.catch_ limit room (expression_of limit) k statement ts)
  unfolding spec.catch_
  catch_ b c le some ts =
      after limit need (Later (c + 1)) _ (Later b) c ts (spec.catch_head limit room (expression_of limit) k statement ts) (catch_head (c + 1) c (omega arith) ts) (λ head t1 c1 e1.
      after limit need (Later c1) _ (Later b) c1 t1 (spec.braced limit room (expression_of limit) k statement t1) (braced c1 c1 (omega arith) (omega arith) t1) (λ body t2 c2 e2.
      done limit need (Later b) c2 (catch_of head body) t2 (omega arith)))

  catches : (first : Sized (List Catch)) (b c : ℕ) → b ≤ c → 1 ≤ c → (ts : List Lexeme) → S (Later b) c ts (spec.catches limit room (expression_of limit) k statement first ts)
  unfolding spec.catches
  catches first b c le some ts =
      listed limit need (next_is (is_word (codes "catch") false)) (spec.catch_ limit room (expression_of limit) k statement) with_more 1
      (λ c' some us. catch_ (c' + 1) c' (omega arith) some us) b limit first c (omega arith) le some ts

  some_catches : (b c : ℕ) → b ≤ c → 1 ≤ c → (ts : List Lexeme) → S (Later b) c ts (spec.some_catches limit room (expression_of limit) k statement ts)
  unfolding spec.some_catches
  some_catches b c le some ts =
      after limit need (Later c) _ (Later b) c ts (spec.catch_ limit room (expression_of limit) k statement ts) (catch_ c c (omega arith) some ts) (λ x mid c1 e1.
      catches (with_more no_items x) b c1 (omega arith) (omega arith) mid)

  attempt_ : (b c : ℕ) → b ≤ c + 1 → 1 ≤ c → (ts : List Lexeme) → S (Later b) c ts (spec.attempt_ limit room (expression_of limit) k statement ts)
  unfolding spec.attempt_
  attempt_ b c le some ts =
      after_test limit need (is_word (codes "try") false) _ (Later b) c ts (λ r t1 c1 e1.
      after limit need (Later c1) _ (Later b) c1 t1 (spec.braced limit room (expression_of limit) k statement t1) (braced c1 c1 (omega arith) (omega arith) t1) (λ body t2 c2 e2.
      after limit need (Later c2) _ (Later b) c2 t2 (spec.some_catches limit room (expression_of limit) k statement t2) (some_catches c2 c2 (omega arith) (omega arith) t2) (λ cs t3 c3 e3.
      done limit need (Later b) c3 (attempt_of r body cs) t3 (omega arith))))

  -- ---- any statement

  roomy : (p : Parser (Sized Statement)) (b c : ℕ) (ts : List Lexeme) → S (Later b) c ts (p ts) → S (Later b) c ts (spec.deeper limit room (expression_of limit) k p ts)
  roomy p b c ts enough = parts.roomy limit room k (Later b) c p ts enough

  looping : (slot : Slot) (b c : ℕ) → b ≤ c + 1 → 1 ≤ c → (ts : List Lexeme) → S (Later b) c ts (spec.looping limit room (expression_of limit) k statement slot ts)
  looping slot b c le some ts =
      either limit need (Later b) c (allows_loop slot) _ refuse ts (roomy (spec.loop_ limit room (expression_of limit) k statement) b c ts (loop b c le some ts)) tt

  other_by : (mark : Mark) (b c : ℕ) → b ≤ c + 1 → 1 ≤ c → (ts : List Lexeme) → S (Later b) c ts (spec.other_by limit room (expression_of limit) k statement mark ts)
  other_by m.Semicolon b c le some ts = words.nothing limit room k b c le some ts
  other_by _ b c le some ts = parts.simple_statement limit room k b c le some ts

  other_statement : (b c : ℕ) → b ≤ c + 1 → 1 ≤ c → (ts : List Lexeme) → S (Later b) c ts (spec.other_statement limit room (expression_of limit) k statement ts)
  unfolding spec.other_statement
  other_statement b c le some ts = other_by (mark_at false ts) b c le some ts

  statement_by : (slot : Slot) (mark : StatementMark) (b c : ℕ) → b ≤ c + 1 → 1 ≤ c → (ts : List Lexeme)
      → S (Later b) c ts (spec.statement_by limit room (expression_of limit) k statement slot mark ts)
  statement_by slot s.LeftBrace b c le some ts = block_ b c le some ts
  statement_by slot s.If b c le some ts =
      either limit need (Later b) c (allows_branch slot) _ refuse ts (roomy (spec.branch_ limit room (expression_of limit) k statement) b c ts (branch_ b c le some ts)) tt
  statement_by slot s.While b c le some ts = looping slot b c le some ts
  statement_by slot s.For b c le some ts = looping slot b c le some ts
  statement_by slot s.Invariant b c le some ts = looping slot b c le some ts
  statement_by slot s.Return b c le some ts = words.returned limit room k b c le some ts
  statement_by slot s.Throw b c le some ts = roomy (spec.thrown limit room (expression_of limit) k) b c ts (words.thrown limit room k b c le some ts)
  statement_by slot s.Break b c le some ts = words.broken limit room k b c le some ts
  statement_by slot s.Continue b c le some ts = words.continued limit room k b c le some ts
  statement_by slot s.Try b c le some ts = attempt_ b c le some ts
  statement_by slot s.Assert b c le some ts = roomy (spec.asserted limit room (expression_of limit) k) b c ts (words.asserted limit room k b c le some ts)
  statement_by slot s.Set b c le some ts = roomy (spec.set_ limit room (expression_of limit) k) b c ts (words.set_ limit room k b c le some ts)
  statement_by slot s.Ghost b c le some ts = roomy (spec.ghost_ limit room (expression_of limit) k) b c ts (words.ghost_ limit room k b c le some ts)
  statement_by slot s.Final b c le some ts = parts.simple_statement limit room k b c le some ts
  statement_by slot s.Step b c le some ts = parts.simple_statement limit room k b c le some ts
  statement_by slot s.Other b c le some ts = other_statement b c le some ts
  statement_by slot _ b c le some ts = tt

  begun : (slot : Slot) (b c : ℕ) → b ≤ c + 1 → 1 ≤ c → (ts : List Lexeme) → S (Later b) c ts (spec.begun limit room (expression_of limit) k statement slot ts)
  unfolding spec.begun
  begun slot b c le some ts = statement_by slot (statement_mark_at ts) b c le some ts

no_room : (limit : ℕ) (slot : Slot) (ts : List Lexeme) → Spends limit 0 (Later 2) 1 ts (spec.no_room slot ts)
unfolding spec.no_room
no_room limit slot ts = either limit 0 (Later 2) 1 (begins slot (statement_mark_at ts) (mark_at false ts)) too_deep refuse ts (deep limit 0 {A = Sized Statement} (Later 2) 1 ts (omega arith)) tt

pub statement_spends : (limit k room : ℕ) → Inside limit room (spec.statement limit (expression_of limit) k room)
unfolding spec.statement
statement_spends limit k zero slot ts = no_room limit slot ts
statement_spends limit k (suc room) slot ts =
    let less : suc room - 2 ≡ room - 1 = omega arith in
    rw less (begun limit room k (spec.statement limit (expression_of limit) k room) (statement_spends limit k room) slot 2 1 (omega arith) (omega arith) ts)
