-- How many lexemes members take, and a stop at the limits.
use Rattle.std.proofs.Common.{ℕ, ◌+◌, ◌-◌, ◌≤◌, ◌<◌, Bool, true, false, Option, Some, None, List, [], arith, codes}
use Rattle.std.specs.Prelude.{◌||◌}
use Rattle.jesc_ast.specs.declared.word.Word.{Word}
use Rattle.jesc_ast.specs.declared.word.TypeTree.{TypeTree}
use Rattle.jesc_ast.specs.declared.class.ParamTree.{ParamTree}
use Rattle.jesc_ast.specs.Lexemes.{Lexeme}
use Rattle.jesc_ast.specs.Trees.{Body}
use Rattle.jesc_ast.specs.SpecTrees.{Specification}
use Rattle.jesc_ast.specs.FileTrees.{no_member}
use Rattle.jesc_ast.specs.Members.{param_tree}
use Rattle.jesc_jml_grammar.specs.declared.mark.Mark.TheVariants as m
use Rattle.jesc_jml_grammar.specs.declared.note_word.NoteWord.{NoteWord}
use Rattle.jesc_jml_grammar.specs.declared.note_word.NoteWord.TheVariants as w
use Rattle.jesc_jml_grammar.specs.Steps.{Outcome, Parser, ◌>>◌, and_then, mark_at, same_mark, expect, refuse, pure, take_one}
use Rattle.jesc_jml_grammar.specs.Reading as reading
use Rattle.jesc_jml_grammar.specs.Reading.{Parsed, at_first, word_of, expr}
use Rattle.jesc_jml_grammar.specs.ClauseMarks.{word_at, same_word, span_at, is_heading_word, expect_word}
use Rattle.jesc_jml_grammar.specs.ClauseFound.{Sized, Ended, ended, no_items, with_more, with_word, no_value, value_of}
use Rattle.jesc_jml_grammar.specs.ClauseReading as clauses
use Rattle.jesc_jml_parser.specs.laws.Spending.{Spent}
use Rattle.jesc_jml_parser.specs.laws.DeepPlaces as places
use Rattle.jesc_jml_parser.specs.laws.DeepPlaces.{Shallow, started, spent_expr}
use Rattle.jesc_jml_parser.specs.laws.ClauseSpending.{Later, Past}
use Rattle.jesc_jml_parser.specs.laws.ClauseDeepPlaces as notes
use Rattle.jesc_java_grammar.specs.declared.member_mark.MemberMark.{MemberMark}
use Rattle.jesc_java_grammar.specs.declared.member_mark.MemberMark.TheVariants as s
use Rattle.jesc_java_grammar.specs.Lexing.{is_word, is_sign, next_is, take_if}
use Rattle.jesc_java_grammar.specs.FileMarks.{member_mark_at, is_modifier, is_param_modifier, at_modifier, at_code, before_brace}
use Rattle.jesc_java_grammar.specs.FileReading as spec
use Rattle.jesc_java_grammar.specs.FileReading.{expression_of, no_spec, some_spec, is_specified, with_param, some_body, Signature, field_of, method_of, constructor_of, spanned}
use Rattle.jesc_java_parser.proofs.Spending.{Spends, of_side, of_inner, after, either, done, one, marked, taken_if, after_mark, after_test, listed, spaced}
use Rattle.jesc_java_parser.proofs.StatementSpending as statements
use Rattle.jesc_java_parser.proofs.StatementSpending.{statement_spends}

-- Each rule takes `b` lexemes at least, those before it counted, where so many were taken before. The whole counts one
-- lexeme more than it takes.
module _ (limit room k : ℕ) where
  abbrev need : ℕ
  need = room - 2

  abbrev S : {A : Type 0} → (ℕ → A → Type 0) → ℕ → List Lexeme → Outcome A → Type 0
  S = Spends limit need

  of_statement : {A : Type 0} (b c : ℕ) (ts : List Lexeme) (r : Outcome A) → Spends limit (room - 1) (Later b) c ts r → S (Later b) c ts r
  of_statement b c ts r h = of_inner limit (room - 1) need (Later b) (Later b) c c ts (omega arith) (omega arith) (λ t x late. late) r h

  -- ---- expressions and types

  inner : (note : Bool) (n least : ℕ) (start : reading.Start) (ts : List Lexeme) → Spent note limit (room - 1) Shallow (started start) ts (expr note limit room n least start ts)
  inner note n least start ts = spent_expr note limit room n least start ts

  note_tree : (ts : List Lexeme) → Spent true limit (room - 1) Shallow 0 ts (expr true limit room k 1 at_first ts)
  note_tree ts = spent_expr true limit room k 1 at_first ts

  after_tree : {B : Type 0} (f : Parsed → Parser B) (Q : ℕ → B → Type 0) (c : ℕ) (ts : List Lexeme)
      → ((e : Parsed) (mid : List Lexeme) (c' : ℕ) → c ≤ c' → S Q c' mid (f e mid)) → S Q c ts (and_then (expr false limit room k 1 at_first ts) f)
  after_tree f Q c ts next =
      after limit need (Later c) f Q c ts (expr false limit room k 1 at_first ts)
      (of_side false limit (room - 1) need Shallow (Later c) 0 c ts (omega arith) (omega arith) (λ t e low. omega arith) (expr false limit room k 1 at_first ts)
      (inner false k 1 at_first ts)) next

  of_type : (b c : ℕ) → b ≤ c → (ts : List Lexeme) (r : Outcome TypeTree) → Spent false limit room (Later c) c ts r → S (Later b) c ts r
  of_type b c le ts r h = of_side false limit room need (Later c) (Later b) c c ts (omega arith) (omega arith) (λ t x late. omega arith) r h

  type_ : (b c : ℕ) → b ≤ c → (ts : List Lexeme) → S (Later b) c ts (reading.type_ false limit room (expr false limit room) k ts)
  type_ b c le ts = of_type b c le ts _ (places.spent_type false limit room (expr false limit room) (inner false) k c ts)

  type_behind : (x : Lexeme) (b c : ℕ) → b ≤ c → (ts : List Lexeme) → S (Later b) c ts (reading.type_behind false limit room (expr false limit room) k x ts)
  type_behind x b c le ts = of_type b c le ts _ (places.spent_type_behind false limit room (expr false limit room) (inner false) k x c ts)

  -- what is known of a rule of annotations
  of_note : {A : Type 0} (b c : ℕ) → b ≤ c → (ts : List Lexeme) (r : Outcome A) → Spent true limit (room - 1) (Later c) c ts r → S (Later b) c ts r
  of_note b c le ts r h = of_side true limit (room - 1) need (Later c) (Later b) c c ts (omega arith) (omega arith) (λ t x late. omega arith) r h

  -- ---- names and modifiers

  pub names : (b c : ℕ) → b ≤ c → 1 ≤ c → (ts : List Lexeme) → S (Later b) c ts (spec.names limit room (expression_of limit) k ts)
  unfolding spec.names
  names b c le some ts =
      spaced limit need (at_code m.Comma) (expect false m.Comma) (expect false m.Name) with_word (λ c' some us. marked limit need (c' + 1) c' (omega arith) false m.Comma us)
      (λ c' some us. marked limit need (c' + 1) c' (omega arith) false m.Name us) b [] c (omega arith) some ts

  pub names_after : (text : List ℕ) (b c : ℕ) → b ≤ c → (ts : List Lexeme) → S (Later b) c ts (spec.names_after limit room (expression_of limit) k text ts)
  unfolding spec.names_after
  names_after text b c le ts =
      either limit need (Later b) c (next_is (is_word text false) ts) (take_if (is_word text false) >> spec.names limit room (expression_of limit) k) (pure []) ts
      (after_test limit need (is_word text false) _ (Later b) c ts (λ x mid c1 e1. names b c1 (omega arith) (omega arith) mid))
      (done limit need {A = List Word} (Later b) c [] ts le)

  override : (b c : ℕ) → b ≤ c + 1 → (ts : List Lexeme) → S (Later b) c ts (spec.override limit room (expression_of limit) k ts)
  unfolding spec.override
  override b c le ts =
      after_test limit need (is_sign (codes "@") false) _ (Later b) c ts (λ x mid c1 e1. taken_if limit need b c1 (omega arith) (is_word (codes "Override") false) mid)

  modifier_by : (mark : MemberMark) (b c : ℕ) → b ≤ c + 1 → (ts : List Lexeme) → S (Later b) c ts (spec.modifier_by limit room (expression_of limit) k mark ts)
  modifier_by s.At b c le ts = override b c le ts
  modifier_by _ b c le ts = taken_if limit need b c le is_modifier ts

  modifier : (b c : ℕ) → b ≤ c + 1 → (ts : List Lexeme) → S (Later b) c ts (spec.modifier limit room (expression_of limit) k ts)
  unfolding spec.modifier
  modifier b c le ts = modifier_by (member_mark_at ts) b c le ts

  pub modifiers : (ws : List Word) (b c : ℕ) → b ≤ c → 1 ≤ c → (ts : List Lexeme) → S (Later b) c ts (spec.modifiers limit room (expression_of limit) k ws ts)
  unfolding spec.modifiers
  modifiers ws b c le some ts =
      listed limit need at_modifier (spec.modifier limit room (expression_of limit) k) with_word 1 (λ c' some us. modifier (c' + 1) c' (omega arith) us)
      b limit ws c (omega arith) le some ts

  -- ---- parameters

  param_modifiers : (b c : ℕ) → b ≤ c → 1 ≤ c → (ts : List Lexeme) → S (Later b) c ts (spec.param_modifiers limit room (expression_of limit) k ts)
  unfolding spec.param_modifiers
  param_modifiers b c le some ts =
      listed limit need (next_is is_param_modifier) (take_if is_param_modifier) with_word 1 (λ c' some us. taken_if limit need (c' + 1) c' (omega arith) is_param_modifier us)
      b limit [] c (omega arith) le some ts

  param : (b c : ℕ) → b ≤ c + 1 → 1 ≤ c → (ts : List Lexeme) → S (Later b) c ts (spec.param limit room (expression_of limit) k ts)
  unfolding spec.param
  param b c le some ts =
      after limit need (Later c) _ (Later b) c ts (spec.param_modifiers limit room (expression_of limit) k ts) (param_modifiers c c (omega arith) some ts) (λ ws t1 c1 e1.
      after limit need (Later c1) _ (Later b) c1 t1 (reading.type_ false limit room (expr false limit room) k t1) (type_ c1 c1 (omega arith) t1) (λ t t2 c2 e2.
      after_mark limit need false m.Name _ (Later b) c2 t2 (λ x t3 c3 e3. done limit need (Later b) c3 (param_tree ws t (word_of x)) t3 (omega arith))))

  some_params : (b c : ℕ) → b ≤ c → 1 ≤ c → (ts : List Lexeme) → S (Later b) c ts (spec.some_params limit room (expression_of limit) k ts)
  unfolding spec.some_params
  some_params b c le some ts =
      spaced limit need (at_code m.Comma) (expect false m.Comma) (spec.param limit room (expression_of limit) k) with_param
      (λ c' some us. marked limit need (c' + 1) c' (omega arith) false m.Comma us) (λ c' some us. param (c' + 1) c' (omega arith) some us) b [] c (omega arith) some ts

  optional_params : (b c : ℕ) → b ≤ c → 1 ≤ c → (ts : List Lexeme) → S (Later b) c ts (spec.optional_params limit room (expression_of limit) k ts)
  unfolding spec.optional_params
  optional_params b c le some ts =
      either limit need (Later b) c (same_mark (mark_at false ts) m.RightParen) (pure []) (spec.some_params limit room (expression_of limit) k) ts
      (done limit need {A = List ParamTree} (Later b) c [] ts le) (some_params b c le some ts)

  params : (b c : ℕ) → b ≤ c + 1 → 1 ≤ c → (ts : List Lexeme) → S (Later b) c ts (spec.params limit room (expression_of limit) k ts)
  unfolding spec.params
  params b c le some ts =
      after_mark limit need false m.LeftParen _ (Later b) c ts (λ p t1 c1 e1.
      after limit need (Later c1) _ (Later b) c1 t1 (spec.optional_params limit room (expression_of limit) k t1) (optional_params c1 c1 (omega arith) (omega arith) t1) (λ found t2 c2 e2.
      after_mark limit need false m.RightParen _ (Later b) c2 t2 (λ q t3 c3 e3. done limit need (Later b) c3 found t3 (omega arith))))

  signature : (b c : ℕ) → b ≤ c + 1 → 1 ≤ c → (ts : List Lexeme) → S (Later b) c ts (spec.signature limit room (expression_of limit) k ts)
  unfolding spec.signature
  signature b c le some ts =
      after limit need (Later (c + 1)) _ (Later b) c ts (spec.params limit room (expression_of limit) k ts) (params (c + 1) c (omega arith) some ts) (λ found t1 c1 e1.
      after limit need (Later c1) _ (Later b) c1 t1 (spec.names_after limit room (expression_of limit) k (codes "throws") t1) (names_after (codes "throws") c1 c1 (omega arith) t1)
      (λ throws t2 c2 e2.
      let is : Signature = record { params = found; throws = throws } in done limit need (Later b) c2 is t2 (omega arith)))

  -- ---- methods and constructors

  no_body : (b c : ℕ) → b ≤ c + 1 → (ts : List Lexeme) → S (Later b) c ts (spec.no_body limit room (expression_of limit) k ts)
  unfolding spec.no_body
  no_body b c le ts =
      after_mark limit need false m.Semicolon _ (Later b) c ts (λ p mid c1 e1. done limit need {A = Ended (Option Body)} (Later b) c1 (ended None 0 p) mid (omega arith))

  braced_body : (b c : ℕ) → b ≤ c + 1 → 1 ≤ c → (ts : List Lexeme) → S (Later b) c ts (spec.braced_body limit room (expression_of limit) k ts)
  unfolding spec.braced_body
  braced_body b c le some ts =
      after limit need (Later (c + 1)) _ (Later b) c ts _
      (of_statement (c + 1) c ts _ (statements.braced limit room k (spec.statement_inside limit room (expression_of limit) k) (statement_spends limit k room) (c + 1) c (omega arith) some ts))
      (λ body mid c1 e1. done limit need (Later b) c1 (some_body body) mid (omega arith))

  method_body : (b c : ℕ) → b ≤ c + 1 → 1 ≤ c → (ts : List Lexeme) → S (Later b) c ts (spec.method_body limit room (expression_of limit) k ts)
  unfolding spec.method_body
  method_body b c le some ts =
      either limit need (Later b) c (same_mark (mark_at false ts) m.Semicolon) (spec.no_body limit room (expression_of limit) k) (spec.braced_body limit room (expression_of limit) k) ts
      (no_body b c le ts) (braced_body b c le some ts)

  method_behind : (t : Sized (Option Specification)) (ws : List Word) (result : Option TypeTree) (x : Lexeme) (b c : ℕ) → b ≤ c + 1 → 1 ≤ c → (ts : List Lexeme)
      → S (Later b) c ts (spec.method_behind limit room (expression_of limit) k t ws result x ts)
  unfolding spec.method_behind
  method_behind t ws result x b c le some ts =
      after limit need (Later (c + 1)) _ (Later b) c ts (spec.signature limit room (expression_of limit) k ts) (signature (c + 1) c (omega arith) some ts) (λ found t1 c1 e1.
      after limit need (Later c1) _ (Later b) c1 t1 (spec.method_body limit room (expression_of limit) k t1) (method_body c1 c1 (omega arith) (omega arith) t1) (λ body t2 c2 e2.
      done limit need (Later b) c2 (method_of t ws result x found body) t2 (omega arith)))

  constructor_behind : (t : Sized (Option Specification)) (ws : List Word) (x : Lexeme) (b c : ℕ) → b ≤ c + 1 → 1 ≤ c → (ts : List Lexeme)
      → S (Later b) c ts (spec.constructor_behind limit room (expression_of limit) k t ws x ts)
  unfolding spec.constructor_behind
  constructor_behind t ws x b c le some ts =
      after limit need (Later (c + 1)) _ (Later b) c ts (spec.signature limit room (expression_of limit) k ts) (signature (c + 1) c (omega arith) some ts) (λ found t1 c1 e1.
      after limit need (Later c1) _ (Later b) c1 t1 _
      (of_statement c1 c1 t1 _
      (statements.constructor_body limit room k (spec.statement_inside limit room (expression_of limit) k) (statement_spends limit k room) c1 c1 (omega arith) (omega arith) t1))
      (λ body t2 c2 e2. done limit need (Later b) c2 (constructor_of t ws x found body) t2 (omega arith)))

  void_method : (t : Sized (Option Specification)) (ws : List Word) (b c : ℕ) → b ≤ c + 1 → 1 ≤ c → (ts : List Lexeme)
      → S (Later b) c ts (spec.void_method limit room (expression_of limit) k t ws ts)
  unfolding spec.void_method
  void_method t ws b c le some ts =
      after_test limit need (is_word (codes "void") false) _ (Later b) c ts (λ v t1 c1 e1.
      after_mark limit need false m.Name _ (Later b) c1 t1 (λ x t2 c2 e2. method_behind t ws None x b c2 (omega arith) (omega arith) t2))

  -- ---- fields

  value : (b c : ℕ) → b ≤ c → (ts : List Lexeme) → S (Later b) c ts (spec.value limit room (expression_of limit) k ts)
  unfolding spec.value spec.some_value
  value b c le ts =
      either limit need (Later b) c (next_is (is_sign (codes "=") false) ts) _ (pure no_value) ts
      (after_test limit need (is_sign (codes "=") false) _ (Later b) c ts (λ equals t1 c1 e1.
      after_tree _ (Later b) c1 t1 (λ e t2 c2 e2. done limit need (Later b) c2 (value_of equals e) t2 (omega arith))))
      (done limit need (Later b) c no_value ts le)

  field_behind : (ws : List Word) (t : TypeTree) (x : Lexeme) (b c : ℕ) → b ≤ c + 1 → (ts : List Lexeme)
      → S (Later b) c ts (spec.field_behind limit room (expression_of limit) k ws t x ts)
  unfolding spec.field_behind
  field_behind ws t x b c le ts =
      after limit need (Later c) _ (Later b) c ts (spec.value limit room (expression_of limit) k ts) (value c c (omega arith) ts) (λ v t1 c1 e1.
      after_mark limit need false m.Semicolon _ (Later b) c1 t1 (λ q t2 c2 e2.
      after limit need (Later c2) _ (Later b) c2 t2 (clauses.groups limit room (expr true limit room) k q t2)
      (of_note c2 c2 (omega arith) t2 _ (notes.spent_groups limit room (expr true limit room) k note_tree q c2 t2)) (λ groups t3 c3 e3.
      done limit need (Later b) c3 (field_of ws t x v groups) t3 (omega arith))))

  -- ---- members of Java

  typed_form : (t : Sized (Option Specification)) (ws : List Word) (ty : TypeTree) (b c : ℕ) → b ≤ c + 1 → (ts : List Lexeme)
      → S (Later b) c ts (spec.typed_form limit room (expression_of limit) k t ws ty ts)
  unfolding spec.typed_form
  typed_form t ws ty b c le ts =
      after_mark limit need false m.Name _ (Later b) c ts (λ x mid c1 e1.
      either limit need (Later b) c1 (same_mark (mark_at false mid) m.LeftParen || is_specified t.tree) (spec.method_behind limit room (expression_of limit) k t ws (Some ty) x)
      (spec.field_behind limit room (expression_of limit) k ws ty x) mid (method_behind t ws (Some ty) x b c1 (omega arith) (omega arith) mid) (field_behind ws ty x b c1 (omega arith) mid))

  named_type : (t : Sized (Option Specification)) (ws : List Word) (x : Lexeme) (b c : ℕ) → b ≤ c + 1 → (ts : List Lexeme)
      → S (Later b) c ts (spec.named_type limit room (expression_of limit) k t ws x ts)
  unfolding spec.named_type
  named_type t ws x b c le ts =
      after limit need (Later c) _ (Later b) c ts (reading.type_behind false limit room (expr false limit room) k x ts) (type_behind x c c (omega arith) ts) (λ ty mid c1 e1.
      typed_form t ws ty b c1 (omega arith) mid)

  named_form : (t : Sized (Option Specification)) (ws : List Word) (b c : ℕ) → b ≤ c + 1 → (ts : List Lexeme)
      → S (Later b) c ts (spec.named_form limit room (expression_of limit) k t ws ts)
  unfolding spec.named_form
  named_form t ws b c le ts =
      after_mark limit need false m.Name _ (Later b) c ts (λ x mid c1 e1.
      either limit need (Later b) c1 (same_mark (mark_at false mid) m.LeftParen) (spec.constructor_behind limit room (expression_of limit) k t ws x)
      (spec.named_type limit room (expression_of limit) k t ws x) mid (constructor_behind t ws x b c1 (omega arith) (omega arith) mid) (named_type t ws x b c1 (omega arith) mid))

  other_type : (t : Sized (Option Specification)) (ws : List Word) (b c : ℕ) → b ≤ c + 1 → (ts : List Lexeme)
      → S (Later b) c ts (spec.other_type limit room (expression_of limit) k t ws ts)
  unfolding spec.other_type
  other_type t ws b c le ts =
      after limit need (Later c) _ (Later b) c ts (reading.type_ false limit room (expr false limit room) k ts) (type_ c c (omega arith) ts) (λ ty mid c1 e1.
      typed_form t ws ty b c1 (omega arith) mid)

  plain_form : (t : Sized (Option Specification)) (ws : List Word) (b c : ℕ) → b ≤ c + 1 → (ts : List Lexeme)
      → S (Later b) c ts (spec.plain_form limit room (expression_of limit) k t ws ts)
  unfolding spec.plain_form
  plain_form t ws b c le ts =
      either limit need (Later b) c (same_mark (mark_at false ts) m.Name) (spec.named_form limit room (expression_of limit) k t ws)
      (spec.other_type limit room (expression_of limit) k t ws) ts (named_form t ws b c le ts) (other_type t ws b c le ts)

  java_by : (t : Sized (Option Specification)) (ws : List Word) (mark : MemberMark) (b c : ℕ) → b ≤ c + 1 → 1 ≤ c → (ts : List Lexeme)
      → S (Later b) c ts (spec.java_by limit room (expression_of limit) k t ws mark ts)
  java_by t ws s.Void b c le some ts = void_method t ws b c le some ts
  java_by t ws _ b c le some ts = plain_form t ws b c le ts

  java_form : (t : Sized (Option Specification)) (ws : List Word) (b c : ℕ) → b ≤ c + 1 → 1 ≤ c → (ts : List Lexeme)
      → S (Later b) c ts (spec.java_form limit room (expression_of limit) k t ws ts)
  unfolding spec.java_form
  java_form t ws b c le some ts =
      after limit need (Later c) _ (Later b) c ts (spec.modifiers limit room (expression_of limit) k ws ts) (modifiers ws c c (omega arith) some ts) (λ all mid c1 e1.
      java_by t all (member_mark_at mid) b c1 (omega arith) (omega arith) mid)

  -- ---- members

  specified_form : (b c : ℕ) → b ≤ c + 1 → 1 ≤ c → (ts : List Lexeme) → S (Later b) c ts (spec.specified_form limit room (expression_of limit) k ts)
  unfolding spec.specified_form
  specified_form b c le some ts =
      after limit need (Later c) _ (Later b) c ts (clauses.specification limit room (expr true limit room) k ts)
      (of_note c c (omega arith) ts _ (notes.spent_specification limit room (expr true limit room) k note_tree c some ts)) (λ t mid c1 e1.
      java_form (some_spec t) [] b c1 (omega arith) (omega arith) mid)

  specified_behind : (v : Lexeme) (b c : ℕ) → b ≤ c + 1 → 1 ≤ c → (ts : List Lexeme) → S (Later b) c ts (spec.specified_behind limit room (expression_of limit) k v ts)
  unfolding spec.specified_behind
  specified_behind v b c le some ts =
      after limit need (Later c) _ (Later b) c ts (clauses.specification_behind limit room (expr true limit room) k v ts)
      (of_note c c (omega arith) ts _ (notes.spent_specification_behind limit room (expr true limit room) k note_tree v c some ts)) (λ t mid c1 e1.
      java_form (some_spec t) [] b c1 (omega arith) (omega arith) mid)

  note_form : (ws : List Word) (b c : ℕ) → b ≤ c + 1 → (ts : List Lexeme) → S (Later b) c ts (spec.note_form limit room (expression_of limit) k ws ts)
  note_form ws b c le ts =
      of_side true limit (room - 1) need (Past c) (Later b) c c ts (omega arith) (omega arith) (λ t x late. omega arith) _
      (notes.spent_form_behind limit room (expr true limit room) k note_tree ws c ts)

  noted_by : (ws : List Word) (word : NoteWord) (b c : ℕ) → b ≤ c + 1 → 1 ≤ c → (ts : List Lexeme) → S (Later b) c ts (spec.noted_by limit room (expression_of limit) k ws word ts)
  noted_by ws w.Invariant b c le some ts = note_form ws b c le ts
  noted_by ws w.Represents b c le some ts = note_form ws b c le ts
  noted_by ws w.Field b c le some ts = note_form ws b c le ts
  noted_by ws _ b c le some ts = java_form no_spec ws b c le some ts

  noted_form : (ws : List Word) (b c : ℕ) → b ≤ c + 1 → 1 ≤ c → (ts : List Lexeme) → S (Later b) c ts (spec.noted_form limit room (expression_of limit) k ws ts)
  unfolding spec.noted_form
  noted_form ws b c le some ts =
      after limit need (Later c) _ (Later b) c ts (clauses.modifiers limit room (expr true limit room) k ws ts)
      (of_note c c (omega arith) ts _ (notes.spent_modifiers limit room (expr true limit room) k note_tree ws c some ts)) (λ all mid c1 e1.
      noted_by all (word_at mid) b c1 (omega arith) (omega arith) mid)

  after_word : {B : Type 0} (found : NoteWord) (f : Lexeme → Parser B) (Q : ℕ → B → Type 0) (c : ℕ) (ts : List Lexeme)
      → ((x : Lexeme) (mid : List Lexeme) (c' : ℕ) → c < c' → S Q c' mid (f x mid)) → S Q c ts (and_then (expect_word found ts) f)
  unfolding expect_word
  after_word found f Q c ts next =
      after limit need (Later (c + 1)) f Q c ts _ (either limit need (Later (c + 1)) c (same_word (word_at ts) found) take_one refuse ts (one limit need (c + 1) c (omega arith) ts) tt)
      (λ x mid c' late. next x mid c' (omega arith))

  visible_form : (b c : ℕ) → b ≤ c + 1 → 1 ≤ c → (ts : List Lexeme) → S (Later b) c ts (spec.visible_form limit room (expression_of limit) k ts)
  unfolding spec.visible_form
  visible_form b c le some ts =
      after_word w.Visibility _ (Later b) c ts (λ v mid c1 e1.
      either limit need (Later b) c1 (is_heading_word (word_at mid)) (spec.specified_behind limit room (expression_of limit) k v)
      (spec.noted_form limit room (expression_of limit) k (with_word [] v)) mid (specified_behind v b c1 (omega arith) (omega arith) mid)
      (noted_form (with_word [] v) b c1 (omega arith) (omega arith) mid))

  code_form : (b c : ℕ) → b ≤ c + 1 → 1 ≤ c → (ts : List Lexeme) → S (Later b) c ts (spec.code_form limit room (expression_of limit) k ts)
  unfolding spec.code_form spec.empty_form
  code_form b c le some ts =
      either limit need (Later b) c (same_mark (mark_at false ts) m.Semicolon) _ (spec.java_form limit room (expression_of limit) k no_spec []) ts
      (after_mark limit need false m.Semicolon _ (Later b) c ts (λ p mid c1 e1. done limit need (Later b) c1 (ended no_member 0 p) mid (omega arith)))
      (java_form no_spec [] b c le some ts)

  form_by : (word : NoteWord) (b c : ℕ) → b ≤ c + 1 → 1 ≤ c → (ts : List Lexeme) → S (Later b) c ts (spec.form_by limit room (expression_of limit) k word ts)
  form_by w.Visibility b c le some ts = visible_form b c le some ts
  form_by w.Instance b c le some ts = noted_form [] b c le some ts
  form_by w.Modifier b c le some ts = noted_form [] b c le some ts
  form_by w.Invariant b c le some ts = noted_form [] b c le some ts
  form_by w.Represents b c le some ts = noted_form [] b c le some ts
  form_by w.Field b c le some ts = noted_form [] b c le some ts
  form_by w.Also b c le some ts = specified_form b c le some ts
  form_by w.Behavior b c le some ts = specified_form b c le some ts
  form_by w.NormalBehavior b c le some ts = specified_form b c le some ts
  form_by w.ExceptionalBehavior b c le some ts = specified_form b c le some ts
  form_by w.Requires b c le some ts = specified_form b c le some ts
  form_by w.Ensures b c le some ts = specified_form b c le some ts
  form_by w.Assignable b c le some ts = specified_form b c le some ts
  form_by w.Signals b c le some ts = specified_form b c le some ts
  form_by w.SignalsOnly b c le some ts = specified_form b c le some ts
  form_by _ b c le some ts = code_form b c le some ts

  member : (b c : ℕ) → b ≤ c + 1 → 1 ≤ c → (ts : List Lexeme) → S (Later b) c ts (spec.member limit room (expression_of limit) k ts)
  unfolding spec.member spec.form
  member b c le some ts =
      after limit need (Later (c + 1)) _ (Later b) c ts _ (form_by (word_at ts) (c + 1) c (omega arith) some ts) (λ f mid c1 e1.
      done limit need (Later b) c1 (spanned (span_at ts) f) mid (omega arith))

  pub members : (b c : ℕ) → b ≤ c → 1 ≤ c → (ts : List Lexeme) → S (Later b) c ts (spec.members limit room (expression_of limit) k ts)
  unfolding spec.members
  members b c le some ts =
      listed limit need before_brace (spec.member limit room (expression_of limit) k) with_more 1 (λ c' some us. member (c' + 1) c' (omega arith) some us)
      b limit no_items c (omega arith) le some ts
