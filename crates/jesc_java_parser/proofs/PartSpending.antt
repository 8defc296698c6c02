-- How many lexemes the parts of a statement take, and a stop at the limits.
use Rattle.std.proofs.Common.{◌≡◌, ℕ, zero, suc, ◌+◌, ◌-◌, ◌≤◌, ◌<◌, Bool, true, false, List, Option, refl, arith, codes}
use Rattle.std.specs.Prelude.{nat_lt, ◌&&◌, if◌then◌else◌}
use Rattle.std.proofs.lemmas.Bool.{ltb-false}
use Rattle.jesc_text.specs.declared.place.Span.{Span}
use Rattle.jesc_ast.specs.declared.word.TypeTree.{TypeTree}
use Rattle.jesc_ast.specs.Lexemes.{Lexeme, join}
use Rattle.jesc_ast.specs.Trees.{Expression, name, member, index, Receiver, implied, super, on, OptionalStatement, clause}
use Rattle.jesc_ast.specs.Expressions.{span_of, type_tree}
use Rattle.jesc_ast.specs.Statements.{is_target, is_call}
use Rattle.jesc_jml_grammar.specs.declared.mark.Mark.{Mark}
use Rattle.jesc_jml_grammar.specs.declared.mark.Mark.TheVariants as m
use Rattle.jesc_jml_grammar.specs.Steps.{Outcome, Parser, and_then, refuse, too_deep, mark_at, same_mark, pure}
use Rattle.jesc_jml_grammar.specs.Reading as reading
use Rattle.jesc_jml_grammar.specs.Reading.{Parsed, Start, at_first, behind_name, behind_bracket, word_of, leaf, over, over_two, grows, expr}
use Rattle.jesc_jml_grammar.specs.ClauseFound.{Sized, sized, no_items, with_more}
use Rattle.jesc_jml_parser.specs.laws.ClauseSpending.{Later}
use Rattle.jesc_jml_parser.specs.laws.DeepPlaces as places
use Rattle.jesc_jml_parser.specs.laws.DeepPlaces.{started, Shallow, spent_expr}
use Rattle.jesc_jml_parser.specs.laws.Spending.{Spent}
use Rattle.jesc_java_grammar.specs.declared.statement_mark.StatementMark.{StatementMark}
use Rattle.jesc_java_grammar.specs.declared.statement_mark.StatementMark.TheVariants as s
use Rattle.jesc_java_grammar.specs.Lexing.{is_word, is_sign, next_is}
use Rattle.jesc_java_grammar.specs.StatementMarks.{statement_mark_at, is_assign, is_step, is_invariant}
use Rattle.jesc_java_grammar.specs.StatementFound.{local_of, assign_of, step_after_of, step_before_of, call_of, finished, part_of, no_part, some_value, no_value}
use Rattle.jesc_java_grammar.specs.StatementReading as spec
use Rattle.jesc_java_grammar.specs.FileReading.{expression_of}
use Rattle.jesc_java_parser.proofs.Spending.{Spends, of_side, after, either, done, deep, after_mark, after_test, listed}

-- Each rule takes `b` lexemes at least, those before it counted, where so many were taken before. One stands before any
-- statement.
module _ (limit room k : ℕ) where
  abbrev need : ℕ
  need = room - 1

  abbrev S : {A : Type 0} → (ℕ → A → Type 0) → ℕ → List Lexeme → Outcome A → Type 0
  S = Spends limit need

  -- a choice, by what the test says
  choice : {A : Type 0} (P : ℕ → A → Type 0) (c : ℕ) (b : Bool) (p q : Parser A) (ts : List Lexeme)
      → (b ≡ true → S P c ts (p ts)) → (b ≡ false → S P c ts (q ts)) → S P c ts ((if b then p else q) ts)
  choice P c true p q ts first second = first refl
  choice P c false p q ts first second = second refl

  pub roomy : {A : Type 0} (P : ℕ → A → Type 0) (c : ℕ) (p : Parser A) (ts : List Lexeme) → S P c ts (p ts) → S P c ts (spec.deeper limit room (expression_of limit) k p ts)
  roomy P c p ts enough = choice P c (nat_lt 0 room) p too_deep ts (λ fits. enough) (λ none. deep limit need P c ts (omega (arith, ltb-false 0 room none)))

  -- ---- expressions

  pub tree : (note : Bool) (least : ℕ) (start : Start) (b c : ℕ) → b ≤ c → started start ≤ c → (ts : List Lexeme) → S (Later b) c ts (expr note limit room k least start ts)
  tree note least start b c le some ts =
      of_side note limit need need Shallow (Later b) (started start) c ts some (omega arith) (λ t e low. omega arith) (expr note limit room k least start ts)
      (spent_expr note limit room k least start ts)

  pub after_tree : {B : Type 0} (note : Bool) (f : Parsed → Parser B) (Q : ℕ → B → Type 0) (c : ℕ) (ts : List Lexeme)
      → ((e : Parsed) (mid : List Lexeme) (c' : ℕ) → c ≤ c' → S Q c' mid (f e mid)) → S Q c ts (and_then (expr note limit room k 1 at_first ts) f)
  after_tree note f Q c ts next = after limit need (Later c) f Q c ts (expr note limit room k 1 at_first ts) (tree note 1 at_first c c (omega arith) (omega arith) ts) next

  -- what the parser of the expressions inside says where there is one node less
  inner : (note : Bool) (n least : ℕ) (start : Start) (ts : List Lexeme) → Spent note limit (room - 1 - 1) Shallow (started start) ts (expr note limit (room - 1) n least start ts)
  inner note n least start ts = spent_expr note limit (room - 1) n least start ts

  longer : (note : Bool) (a : Parsed) (b c : ℕ) → b ≤ c → a.depth ≤ c → (ts : List Lexeme) → S (Later b) c ts (spec.longer limit room (expression_of limit) k note a ts)
  unfolding spec.longer
  longer note a b c le low ts =
      of_side note limit need need Shallow (Later b) c c ts (omega arith) (omega arith) (λ t e fits. omega arith) _
      (places.spent_climb note limit (room - 1) (expr note limit (room - 1)) (inner note) k 11 room a c low (omega arith) ts)

  inner_tree : (note : Bool) (least c : ℕ) → 1 ≤ c → (ts : List Lexeme) → S (λ c' e. e.depth + c ≤ c') c ts (expr note limit (room - 1) k least at_first ts)
  inner_tree note least c some ts =
      of_side note limit (room - 1 - 1) need Shallow (λ c' e. e.depth + c ≤ c') 0 c ts (omega arith) (omega arith) (λ t e low. omega arith) (expr note limit (room - 1) k least at_first ts)
      (inner note k least at_first ts)

  -- what the parser of the expressions inside says where there are two nodes less
  under : (note : Bool) (n least : ℕ) (start : Start) (ts : List Lexeme) → Spent note limit (room - 2 - 1) Shallow (started start) ts (expr note limit (room - 2) n least start ts)
  under note n least start ts = spent_expr note limit (room - 2) n least start ts

  -- a tree, with fewer nodes from its root to a leaf than its lexemes are many
  abbrev Low : ℕ → ℕ → Parsed → Type 0
  Low c c' e = e.depth + c ≤ c'

  quantified : (note : Bool) (p : Lexeme) (c c' : ℕ) → 1 ≤ c → c < c' → (ts : List Lexeme)
      → S (Low c) c' ts (reading.quantified note limit (room - 2) (expr note limit (room - 2)) k p ts)
  quantified note p c c' some late ts =
      of_side note limit (room - 2) need Shallow (Low c) 1 c' ts (omega arith) (omega arith) (λ t e low. omega arith) _
      (places.spent_quantified note limit (room - 2) (expr note limit (room - 2)) (under note) k p 1 (omega arith) ts)

  grouped : (note : Bool) (p : Lexeme) (start : Start) (c c' : ℕ) → 1 ≤ c → c + started start < c' → (ts : List Lexeme)
      → S (Low c) c' ts (reading.grouped note limit (room - 2) (expr note limit (room - 2)) k p start ts)
  grouped note p start c c' some late ts =
      of_side note limit (room - 2) need Shallow (Low c) (suc (started start)) c' ts (omega arith) (omega arith) (λ t e low. omega arith) _
      (places.spent_grouped note limit (room - 2) (expr note limit (room - 2)) (under note) k p start (suc (started start)) (omega arith) ts)

  headed_group_by : (note : Bool) (p : Lexeme) (mark : Mark) (c c' : ℕ) → 1 ≤ c → c < c' → (ts : List Lexeme)
      → S (Low c) c' ts (spec.headed_group_by limit room (expression_of limit) k note p mark ts)
  headed_group_by note p m.Forall c c' some late ts = quantified note p c c' some late ts
  headed_group_by note p m.Exists c c' some late ts = quantified note p c c' some late ts
  headed_group_by note p m.Name c c' some late ts = after_mark limit need note m.Name _ (Low c) c' ts (λ x mid c1 e1. grouped note p (behind_name x) c c1 some (omega arith) mid)
  headed_group_by note p _ c c' some late ts = grouped note p at_first c c' some (omega arith) ts

  headed_group : (note : Bool) (c : ℕ) → 1 ≤ c → (ts : List Lexeme) → S (Low c) c ts (spec.headed_group limit room (expression_of limit) k note ts)
  unfolding spec.headed_group
  headed_group note c some ts = after_mark limit need note m.LeftParen _ (Low c) c ts (λ p mid c1 e1. headed_group_by note p (mark_at note mid) c c1 some e1 mid)

  headed_first : (note : Bool) (c : ℕ) → 1 ≤ c → (ts : List Lexeme) → S (Low c) c ts (spec.headed_first limit room (expression_of limit) k note ts)
  unfolding spec.headed_first
  headed_first note c some ts =
      either limit need (Low c) c (same_mark (mark_at note ts) m.LeftParen) _ _ ts
      (choice (Low c) c (nat_lt 2 room) _ too_deep ts (λ fits. headed_group note c some ts) (λ short. deep limit need (Low c) c ts (omega (arith, ltb-false 2 room short))))
      (inner_tree note 13 c some ts)

  headed : (note : Bool) (b c : ℕ) → b ≤ c → 1 ≤ c → (ts : List Lexeme) → S (Later b) c ts (spec.headed limit room (expression_of limit) k note ts)
  unfolding spec.headed
  headed note b c le some ts =
      after limit need (Low c) _ (Later b) c ts (spec.headed_first limit room (expression_of limit) k note ts) (headed_first note c some ts)
      (λ a mid c1 e1. longer note a b c1 (omega arith) (omega arith) mid)

  pub type_inside : (note : Bool) (b c : ℕ) → b ≤ c → (ts : List Lexeme) → S (Later b) c ts (spec.type_inside limit room (expression_of limit) k note ts)
  type_inside note b c le ts =
      of_side note limit need need (Later c) (Later b) c c ts (omega arith) (omega arith) (λ t e late. omega arith) _
      (places.spent_type note limit (room - 1) (expr note limit (room - 1)) (inner note) k c ts)

  -- ---- targets

  -- no deeper than the lexemes are many, and so many at least
  abbrev Flat : ℕ → ℕ → Parsed → Type 0
  Flat b c e = (e.depth ≤ c) × (b ≤ c)

  -- the name of the method makes up for one of them
  called : (note : Bool) (first : Span) (r : Receiver) (depth : ℕ) (x : Lexeme) (b c : ℕ) → depth + 1 ≤ c → b ≤ c → (ts : List Lexeme)
      → S (Flat b) c ts (reading.called note limit (room - 2) (expr note limit (room - 2)) k first r depth x ts)
  called note first r depth x b c low le ts =
      of_side note limit (room - 2) need (λ c' e. (e.depth ≤ c') × (c - 1 < c')) (Flat b) (c - 1) c ts (omega arith) (omega arith)
      (λ t e (flat, late). (omega arith, omega arith)) _
      (places.spent_called note limit (room - 2) (expr note limit (room - 2)) (under note) k first r depth x (c - 1) (omega arith) ts)

  called_under : (note : Bool) (first : Span) (r : Receiver) (depth : ℕ) (x : Lexeme) (b c : ℕ) → depth + 1 ≤ c → b ≤ c → (ts : List Lexeme)
      → S (Flat b) c ts (spec.called_under limit room (expression_of limit) k note first r depth x ts)
  unfolding spec.called_under
  called_under note first r depth x b c low le ts =
      choice (Flat b) c (nat_lt (suc depth) room) _ too_deep ts (λ fits. called note first r depth x b c low le ts)
      (λ short. deep limit need (Flat b) c ts (omega (arith, ltb-false (suc depth) room short)))

  target_member : (note : Bool) (a : Parsed) (dot x : Lexeme) (b c : ℕ) → a.depth + 1 ≤ c → b ≤ c → (ts : List Lexeme)
      → S (Flat b) c ts (spec.target_member limit room (expression_of limit) k note a dot x ts)
  unfolding spec.target_member
  target_member note a dot x b c low le ts =
      either limit need (Flat b) c (same_mark (mark_at note ts) m.LeftParen) _ _ ts (called_under note (span_of a.tree) (on a.tree dot.span) a.depth x b c low le ts)
      (done limit need (Flat b) c (over 12 a (member (join (span_of a.tree) x.span) a.tree dot.span (word_of x))) ts (low, le))

  target_dotted : (note : Bool) (a : Parsed) (b c : ℕ) → a.depth ≤ c → b ≤ c + 1 → (ts : List Lexeme)
      → S (Flat b) c ts (spec.target_dotted limit room (expression_of limit) k note a ts)
  unfolding spec.target_dotted
  target_dotted note a b c low le ts =
      after_mark limit need note m.Dot _ (Flat b) c ts (λ dot t1 c1 e1.
      after_mark limit need note m.Name _ (Flat b) c1 t1 (λ x t2 c2 e2. target_member note a dot x b c2 (omega arith) (omega arith) t2))

  indexed_behind : (note : Bool) (a : Parsed) (p : Lexeme) (b c : ℕ) → a.depth ≤ c → 1 ≤ c → b ≤ c → (ts : List Lexeme)
      → S (Flat b) c ts (reading.indexed_behind note limit (room - 1) (expr note limit (room - 1)) k a p ts)
  unfolding reading.indexed_behind
  indexed_behind note a p b c low some le ts =
      after limit need (λ c' e. e.depth + c ≤ c') _ (Flat b) c ts (expr note limit (room - 1) k 1 at_first ts) (inner_tree note 1 c some ts) (λ i t1 c1 e1.
      after_mark limit need note m.RightBracket _ (Flat b) c1 t1 (λ q t2 c2 e2.
      done limit need (Flat b) c2 (over_two 12 a i (index (join (span_of a.tree) q.span) a.tree p.span i.tree)) t2 (omega arith, omega arith)))

  indexed : (note : Bool) (a : Parsed) (b c : ℕ) → a.depth ≤ c → b ≤ c + 1 → (ts : List Lexeme)
      → S (Flat b) c ts (reading.indexed note limit (room - 1) (expr note limit (room - 1)) k a ts)
  unfolding reading.indexed
  indexed note a b c low le ts =
      after_mark limit need note m.LeftBracket _ (Flat b) c ts (λ p mid c1 e1. indexed_behind note a p b c1 (omega arith) (omega arith) (omega arith) mid)

  -- no other mark binds so tightly
  target_longer_by : (note : Bool) (a : Parsed) (mark : Mark) (b c : ℕ) → grows a.strength mark 11 ≡ true → a.depth ≤ c → b ≤ c + 1 → (ts : List Lexeme)
      → S (Flat b) c ts (spec.target_longer_by limit room (expression_of limit) k note a mark ts)
  target_longer_by note a m.Dot b c grown low le ts = target_dotted note a b c low le ts
  target_longer_by note a m.LeftBracket b c grown low le ts = indexed note a b c low le ts
  target_longer_by note a _ b c grown low le ts = absurd cc

  -- turns and lexemes together are enough for the room
  target_longer : (note : Bool) (n : ℕ) (a : Parsed) (b c : ℕ) → a.depth ≤ c → b ≤ c → need ≤ n + c → (ts : List Lexeme)
      → S (Later b) c ts (spec.target_longer limit room (expression_of limit) k note n a ts)
  unfolding spec.target_longer
  target_longer note zero a b c low le enough ts = deep limit need {A = Parsed} (Later b) c ts (omega arith)
  target_longer note (suc n) a b c low le enough ts =
      choice (Later b) c (grows a.strength (mark_at note ts) 11) _ (pure a) ts
      (λ grown. choice (Later b) c (nat_lt a.depth room) _ too_deep ts
      (λ fits. after limit need (Flat (c + 1)) _ (Later b) c ts (spec.target_longer_by limit room (expression_of limit) k note a (mark_at note ts) ts)
      (target_longer_by note a (mark_at note ts) (c + 1) c grown low (omega arith) ts)
      (λ e mid c1 (flat, late). target_longer note n e b c1 flat (omega arith) (omega arith) mid))
      (λ short. deep limit need {A = Parsed} (Later b) c ts (omega (arith, ltb-false a.depth room short))))
      (λ ended. done limit need (Later b) c a ts le)

  target_name : (note : Bool) (x : Lexeme) (b c : ℕ) → b ≤ c → 1 ≤ c → (ts : List Lexeme) → S (Flat b) c ts (spec.target_name limit room (expression_of limit) k note x ts)
  unfolding spec.target_name
  target_name note x b c le some ts =
      either limit need (Flat b) c (same_mark (mark_at note ts) m.LeftParen) _ _ ts (called_under note x.span implied 0 x b c (omega arith) le ts)
      (done limit need (Flat b) c (leaf (name x.span x.text)) ts (some, le))

  target_begun : (note : Bool) (start : Start) (b c : ℕ) → b ≤ c → started start ≤ c → (ts : List Lexeme)
      → S (Flat b) c ts (spec.target_begun limit room (expression_of limit) k note start ts)
  target_begun note at_first b c le some ts = tt
  target_begun note (behind_name x) b c le some ts = target_name note x b c le some ts
  target_begun note (behind_bracket x p) b c le some ts = indexed_behind note (leaf (name x.span x.text)) p b c (omega arith) (omega arith) le ts

  target_behind : (note : Bool) (start : Start) (b c : ℕ) → b ≤ c → started start ≤ c → (ts : List Lexeme)
      → S (Later b) c ts (spec.target_behind limit room (expression_of limit) k note start ts)
  unfolding spec.target_behind
  target_behind note start b c le some ts =
      after limit need (Flat c) _ (Later b) c ts (spec.target_begun limit room (expression_of limit) k note start ts) (target_begun note start c c (omega arith) some ts)
      (λ a mid c1 (flat, late). target_longer note room a b c1 flat (omega arith) (omega arith) mid)

  target_from : (note : Bool) (start : Start) (b c : ℕ) → b ≤ c → started start ≤ c → (ts : List Lexeme)
      → S (Later b) c ts (spec.target_from limit room (expression_of limit) k note start ts)
  target_from note start b c le some ts = roomy (Later b) c (spec.target_behind limit room (expression_of limit) k note start) ts (target_behind note start b c le some ts)

  headed_target : (note : Bool) (b c : ℕ) → b ≤ c → 1 ≤ c → (ts : List Lexeme) → S (Later b) c ts (spec.headed_target limit room (expression_of limit) k note ts)
  unfolding spec.headed_target
  headed_target note b c le some ts =
      after limit need (Low c) _ (Later b) c ts (spec.headed_first limit room (expression_of limit) k note ts) (headed_first note c some ts)
      (λ a mid c1 e1. target_longer note room a b c1 (omega arith) (omega arith) (omega arith) mid)

  named_target : (note : Bool) (b c : ℕ) → b ≤ c → (ts : List Lexeme) → S (Later b) c ts (spec.named_target limit room (expression_of limit) k note ts)
  unfolding spec.named_target
  named_target note b c le ts =
      after_mark limit need note m.Name _ (Later b) c ts (λ x mid c1 e1. target_from note (behind_name x) b c1 (omega arith) (omega arith) mid)

  postfix_by : (note : Bool) (mark : Mark) (b c : ℕ) → b ≤ c → 1 ≤ c → (ts : List Lexeme) → S (Later b) c ts (spec.postfix_by limit room (expression_of limit) k note mark ts)
  postfix_by note m.Name b c le some ts = roomy (Later b) c (spec.named_target limit room (expression_of limit) k note) ts (named_target note b c le ts)
  postfix_by note _ b c le some ts = headed_target note b c le some ts

  postfix : (note : Bool) (b c : ℕ) → b ≤ c → 1 ≤ c → (ts : List Lexeme) → S (Later b) c ts (spec.postfix limit room (expression_of limit) k note ts)
  unfolding spec.postfix
  postfix note b c le some ts = postfix_by note (mark_at note ts) b c le some ts

  pub target : (note : Bool) (b c : ℕ) → b ≤ c → 1 ≤ c → (ts : List Lexeme) → S (Later b) c ts (spec.target limit room (expression_of limit) k note ts)
  unfolding spec.target
  target note b c le some ts =
      after limit need (Later c) _ (Later b) c ts (spec.postfix limit room (expression_of limit) k note ts) (postfix note c c (omega arith) some ts) (λ e mid c1 e1.
      either limit need (Later b) c1 (is_target e.tree) (pure e) refuse mid (done limit need (Later b) c1 e mid (omega arith)) tt)

  -- ---- assignments and calls

  assigned : (a : Parsed) (b c : ℕ) → b ≤ c → (ts : List Lexeme) → S (Later b) c ts (spec.assigned limit room (expression_of limit) k a ts)
  unfolding spec.assigned
  assigned a b c le ts =
      after_test limit need is_assign _ (Later b) c ts (λ op t1 c1 e1.
      after_tree false _ (Later b) c1 t1 (λ e t2 c2 e2. done limit need (Later b) c2 (assign_of a op e) t2 (omega arith)))

  stepped : (a : Parsed) (b c : ℕ) → b ≤ c → (ts : List Lexeme) → S (Later b) c ts (spec.stepped limit room (expression_of limit) k a ts)
  unfolding spec.stepped
  stepped a b c le ts = after_test limit need is_step _ (Later b) c ts (λ op t1 c1 e1. done limit need (Later b) c1 (step_after_of a op) t1 (omega arith))

  changed_by : (a : Parsed) (mark : StatementMark) (b c : ℕ) → b ≤ c → (ts : List Lexeme) → S (Later b) c ts (spec.changed_by limit room (expression_of limit) k a mark ts)
  changed_by a s.Assign b c le ts = assigned a b c le ts
  changed_by a s.Step b c le ts = stepped a b c le ts
  changed_by a _ b c le ts = tt

  changed : (a : Parsed) (b c : ℕ) → b ≤ c → (ts : List Lexeme) → S (Later b) c ts (spec.changed limit room (expression_of limit) k a ts)
  unfolding spec.changed
  changed a b c le ts = changed_by a (statement_mark_at ts) b c le ts

  acted : (calls : Bool) (a : Parsed) (b c : ℕ) → b ≤ c → (ts : List Lexeme) → S (Later b) c ts (spec.acted limit room (expression_of limit) k calls a ts)
  unfolding spec.acted
  acted calls a b c le ts =
      either limit need (Later b) c (is_target a.tree) _ _ ts (changed a b c le ts)
      (either limit need (Later b) c (calls && is_call a.tree) (pure (call_of a)) refuse ts (done limit need (Later b) c (call_of a) ts le) tt)

  stepped_first : (b c : ℕ) → b ≤ c → (ts : List Lexeme) → S (Later b) c ts (spec.stepped_first limit room (expression_of limit) k ts)
  unfolding spec.stepped_first
  stepped_first b c le ts =
      after_test limit need is_step _ (Later b) c ts (λ op t1 c1 e1.
      after limit need (Later c1) _ (Later b) c1 t1 (spec.target limit room (expression_of limit) k false t1) (target false c1 c1 (omega arith) (omega arith) t1) (λ a t2 c2 e2.
      done limit need (Later b) c2 (step_before_of op a) t2 (omega arith)))

  -- ---- locals

  named_local : (first : Span) (is_final : Bool) (t : TypeTree) (b c : ℕ) → b ≤ c → (ts : List Lexeme)
      → S (Later b) c ts (spec.named_local limit room (expression_of limit) k first is_final t ts)
  unfolding spec.named_local
  named_local first is_final t b c le ts =
      after_mark limit need false m.Name _ (Later b) c ts (λ x t1 c1 e1.
      after_test limit need (is_sign (codes "=") false) _ (Later b) c1 t1 (λ q t2 c2 e2.
      after_tree false _ (Later b) c2 t2 (λ e t3 c3 e3. done limit need (Later b) c3 (local_of first is_final t x q e) t3 (omega arith))))

  typed_local : (b c : ℕ) → b ≤ c → (ts : List Lexeme) → S (Later b) c ts (spec.typed_local limit room (expression_of limit) k ts)
  unfolding spec.typed_local
  typed_local b c le ts =
      after limit need (Later c) _ (Later b) c ts (spec.type_inside limit room (expression_of limit) k false ts) (type_inside false c c (omega arith) ts) (λ t mid c1 e1.
      named_local t.span false t b c1 (omega arith) mid)

  final_local : (b c : ℕ) → b ≤ c → (ts : List Lexeme) → S (Later b) c ts (spec.final_local limit room (expression_of limit) k ts)
  unfolding spec.final_local
  final_local b c le ts =
      after_test limit need (is_word (codes "final") false) _ (Later b) c ts (λ f t1 c1 e1.
      after limit need (Later c1) _ (Later b) c1 t1 (spec.type_inside limit room (expression_of limit) k false t1) (type_inside false c1 c1 (omega arith) t1) (λ t t2 c2 e2.
      named_local f.span true t b c2 (omega arith) t2))

  array_local : (x : Lexeme) (b c : ℕ) → b ≤ c → (ts : List Lexeme) → S (Later b) c ts (spec.array_local limit room (expression_of limit) k x ts)
  unfolding spec.array_local
  array_local x b c le ts =
      after_mark limit need false m.RightBracket _ (Later b) c ts (λ q mid c1 e1. named_local x.span false (type_tree (join x.span q.span) x.text true) b c1 (omega arith) mid)

  -- ---- simple statements

  act_from : (calls : Bool) (start : Start) (b c : ℕ) → b ≤ c → started start ≤ c → (ts : List Lexeme)
      → S (Later b) c ts (spec.act_from limit room (expression_of limit) k calls start ts)
  act_from true start b c le some ts = tree false 11 start b c le some ts
  act_from false start b c le some ts = target_from false start b c le some ts

  acted_from : (calls : Bool) (start : Start) (b c : ℕ) → b ≤ c → started start ≤ c → (ts : List Lexeme)
      → S (Later b) c ts (spec.acted_from limit room (expression_of limit) k calls start ts)
  unfolding spec.acted_from
  acted_from calls start b c le some ts =
      after limit need (Later c) _ (Later b) c ts (spec.act_from limit room (expression_of limit) k calls start ts) (act_from calls start c c (omega arith) some ts) (λ a mid c1 e1.
      acted calls a b c1 (omega arith) mid)

  bracketed : (calls : Bool) (x : Lexeme) (b c : ℕ) → b ≤ c → 1 ≤ c → (ts : List Lexeme)
      → S (Later b) c ts (spec.bracketed limit room (expression_of limit) k calls x ts)
  unfolding spec.bracketed
  bracketed calls x b c le some ts =
      after_mark limit need false m.LeftBracket _ (Later b) c ts (λ p mid c1 e1.
      either limit need (Later b) c1 (same_mark (mark_at false mid) m.RightBracket) _ _ mid (array_local x b c1 (omega arith) mid)
      (acted_from calls (behind_bracket x p) b c1 (omega arith) (omega arith) mid))

  named_by : (locals calls : Bool) (x : Lexeme) (mark : Mark) (b c : ℕ) → b ≤ c → 1 ≤ c → (ts : List Lexeme)
      → S (Later b) c ts (spec.named_by limit room (expression_of limit) k locals calls x mark ts)
  named_by true calls x m.Name b c le some ts = named_local x.span false (type_tree x.span x.text false) b c le ts
  named_by true calls x m.LeftBracket b c le some ts = bracketed calls x b c le some ts
  named_by locals calls x _ b c le some ts = acted_from calls (behind_name x) b c le some ts

  named : (locals calls : Bool) (b c : ℕ) → b ≤ c → (ts : List Lexeme) → S (Later b) c ts (spec.named limit room (expression_of limit) k locals calls ts)
  unfolding spec.named
  named locals calls b c le ts =
      after_mark limit need false m.Name _ (Later b) c ts (λ x mid c1 e1. named_by locals calls x (mark_at false mid) b c1 (omega arith) (omega arith) mid)

  act_at_head : (calls : Bool) (b c : ℕ) → b ≤ c → 1 ≤ c → (ts : List Lexeme) → S (Later b) c ts (spec.act_at_head limit room (expression_of limit) k calls ts)
  act_at_head true b c le some ts = headed false b c le some ts
  act_at_head false b c le some ts = headed_target false b c le some ts

  headed_act : (calls : Bool) (b c : ℕ) → b ≤ c → 1 ≤ c → (ts : List Lexeme) → S (Later b) c ts (spec.headed_act limit room (expression_of limit) k calls ts)
  unfolding spec.headed_act
  headed_act calls b c le some ts =
      after limit need (Later c) _ (Later b) c ts (spec.act_at_head limit room (expression_of limit) k calls ts) (act_at_head calls c c (omega arith) some ts) (λ a mid c1 e1.
      acted calls a b c1 (omega arith) mid)

  plain_by : (locals calls : Bool) (mark : Mark) (b c : ℕ) → b ≤ c → 1 ≤ c → (ts : List Lexeme)
      → S (Later b) c ts (spec.plain_by limit room (expression_of limit) k locals calls mark ts)
  plain_by locals calls m.Name b c le some ts = roomy (Later b) c (spec.named limit room (expression_of limit) k locals calls) ts (named locals calls b c le ts)
  plain_by true calls m.Int b c le some ts = roomy (Later b) c (spec.typed_local limit room (expression_of limit) k) ts (typed_local b c le ts)
  plain_by true calls m.Long b c le some ts = roomy (Later b) c (spec.typed_local limit room (expression_of limit) k) ts (typed_local b c le ts)
  plain_by true calls m.Boolean b c le some ts = roomy (Later b) c (spec.typed_local limit room (expression_of limit) k) ts (typed_local b c le ts)
  plain_by locals true m.Super b c le some ts = acted_from true at_first b c le (omega arith) ts
  plain_by locals calls _ b c le some ts = headed_act calls b c le some ts

  plain : (locals calls : Bool) (b c : ℕ) → b ≤ c → 1 ≤ c → (ts : List Lexeme) → S (Later b) c ts (spec.plain limit room (expression_of limit) k locals calls ts)
  unfolding spec.plain
  plain locals calls b c le some ts = plain_by locals calls (mark_at false ts) b c le some ts

  simple_by : (locals calls : Bool) (mark : StatementMark) (b c : ℕ) → b ≤ c → 1 ≤ c → (ts : List Lexeme)
      → S (Later b) c ts (spec.simple_by limit room (expression_of limit) k locals calls mark ts)
  simple_by true calls s.Final b c le some ts = roomy (Later b) c (spec.final_local limit room (expression_of limit) k) ts (final_local b c le ts)
  simple_by locals calls s.Step b c le some ts = roomy (Later b) c (spec.stepped_first limit room (expression_of limit) k) ts (stepped_first b c le ts)
  simple_by locals calls s.Other b c le some ts = plain locals calls b c le some ts
  simple_by locals calls _ b c le some ts = tt

  simple : (locals calls : Bool) (b c : ℕ) → b ≤ c → 1 ≤ c → (ts : List Lexeme) → S (Later b) c ts (spec.simple limit room (expression_of limit) k locals calls ts)
  unfolding spec.simple
  simple locals calls b c le some ts = simple_by locals calls (statement_mark_at ts) b c le some ts

  pub simple_statement : (b c : ℕ) → b ≤ c + 1 → 1 ≤ c → (ts : List Lexeme) → S (Later b) c ts (spec.simple_statement limit room (expression_of limit) k ts)
  unfolding spec.simple_statement
  simple_statement b c le some ts =
      after limit need (Later c) _ (Later b) c ts (spec.simple limit room (expression_of limit) k true true ts) (simple true true c c (omega arith) some ts) (λ piece t1 c1 e1.
      after_mark limit need false m.Semicolon _ (Later b) c1 t1 (λ p t2 c2 e2. done limit need (Later b) c2 (finished piece p) t2 (omega arith)))

  -- ---- `super` at the beginning of a constructor's body

  constructed : (r : Lexeme) (b c : ℕ) → b ≤ c → 1 ≤ c → (ts : List Lexeme) → S (Later b) c ts (spec.super_constructed limit room (expression_of limit) k r ts)
  unfolding spec.super_constructed
  constructed r b c le some ts =
      after_mark limit need false m.LeftParen _ (Later b) c ts (λ o t1 c1 e1.
      after limit need (Later c1) _ (Later b) c1 t1 (reading.arguments false limit room (expr false limit room) k t1)
      (of_side false limit room need (λ c' es. (es.depth + c1 ≤ c') × (c1 ≤ c')) (Later c1) c1 c1 t1 (omega arith) (omega arith) (λ t es low. omega arith) _
      (places.spent_arguments false limit room (expr false limit room) (λ n l u v. spent_expr false limit room n l u v) k c1 (omega arith) t1)) (λ es t2 c2 e2.
      after_mark limit need false m.RightParen _ (Later b) c2 t2 (λ q t3 c3 e3.
      after_mark limit need false m.Semicolon _ (Later b) c3 t3 (λ p t4 c4 e4. done limit need (Later b) c4 (spec.super_call_of r es p) t4 (omega arith)))))

  method : (r : Lexeme) (c : ℕ) → 1 ≤ c → (ts : List Lexeme) → S (λ c' e. (e.depth ≤ c') × (c ≤ c')) c ts (spec.super_method limit room (expression_of limit) k r ts)
  unfolding spec.super_method
  method r c some ts =
      after_mark limit need false m.Dot _ (λ c' e. (e.depth ≤ c') × (c ≤ c')) c ts (λ d t1 c1 e1.
      after_mark limit need false m.Name _ (λ c' e. (e.depth ≤ c') × (c ≤ c')) c1 t1 (λ x t2 c2 e2.
      of_side false limit need need (λ c' e. (e.depth ≤ c') × (c2 < c')) (λ c' e. (e.depth ≤ c') × (c ≤ c')) c2 c2 t2 (omega arith) (omega arith) (λ t e both. (both.0, omega (arith, both.1))) _
      (places.spent_called false limit (room - 1) (expr false limit (room - 1)) (inner false) k r.span super 0 x c2 (omega arith) t2)))

  called_on : (r : Lexeme) (b c : ℕ) → b ≤ c → 1 ≤ c → (ts : List Lexeme) → S (Later b) c ts (spec.super_called_on limit room (expression_of limit) k r ts)
  unfolding spec.super_called_on
  called_on r b c le some ts =
      after limit need (λ c' e. (e.depth ≤ c') × (c ≤ c')) _ (Later b) c ts (spec.super_method limit room (expression_of limit) k r ts) (method r c some ts) (λ a t1 c1 (low, late).
      after limit need (Later c1) _ (Later b) c1 t1 (spec.longer limit room (expression_of limit) k false a t1) (longer false a c1 c1 (omega arith) low t1) (λ e t2 c2 e2.
      acted true e b c2 (omega arith) t2))

  super_acted : (r : Lexeme) (b c : ℕ) → b ≤ c → 1 ≤ c → (ts : List Lexeme) → S (Later b) c ts (spec.super_acted limit room (expression_of limit) k r ts)
  unfolding spec.super_acted
  super_acted r b c le some ts =
      after limit need (Later c) _ (Later b) c ts (spec.super_called_on limit room (expression_of limit) k r ts) (called_on r c c (omega arith) some ts) (λ piece t1 c1 e1.
      after_mark limit need false m.Semicolon _ (Later b) c1 t1 (λ p t2 c2 e2. done limit need (Later b) c2 (finished piece p) t2 (omega arith)))

  super_by : (r : Lexeme) (mark : Mark) (b c : ℕ) → b ≤ c → 1 ≤ c → (ts : List Lexeme) → S (Later b) c ts (spec.super_by limit room (expression_of limit) k r mark ts)
  super_by r m.LeftParen b c le some ts = constructed r b c le some ts
  super_by r m.Dot b c le some ts = roomy (Later b) c (spec.super_acted limit room (expression_of limit) k r) ts (super_acted r b c le some ts)
  super_by r _ b c le some ts = tt

  pub super_statement : (b c : ℕ) → b ≤ c → 1 ≤ c → (ts : List Lexeme) → S (Later b) c ts (spec.super_statement limit room (expression_of limit) k ts)
  unfolding spec.super_statement
  super_statement b c le some ts =
      after_mark limit need false m.Super _ (Later b) c ts (λ r mid c1 e1. super_by r (mark_at false mid) b c1 (omega arith) (omega arith) mid)

  -- ---- values and clauses

  pub optional_value : (end : Mark) (b c : ℕ) → b ≤ c → (ts : List Lexeme) → S (Later b) c ts (spec.optional_value limit room (expression_of limit) k end ts)
  unfolding spec.optional_value
  optional_value end b c le ts =
      either limit need (Later b) c (same_mark (mark_at false ts) end) (pure no_value) _ ts (done limit need {A = Sized (Option Expression)} (Later b) c no_value ts le)
      (after_tree false _ (Later b) c ts (λ e mid c1 e1. done limit need (Later b) c1 (some_value e) mid (omega arith)))

  pub condition : (b c : ℕ) → b ≤ c → (ts : List Lexeme) → S (Later b) c ts (spec.condition limit room (expression_of limit) k ts)
  unfolding spec.condition
  condition b c le ts =
      after_mark limit need false m.LeftParen _ (Later b) c ts (λ p t1 c1 e1.
      after_tree false _ (Later b) c1 t1 (λ e t2 c2 e2.
      after_mark limit need false m.RightParen _ (Later b) c2 t2 (λ q t3 c3 e3. done limit need (Later b) c3 e t3 (omega arith))))

  invariant : (b c : ℕ) → b ≤ c + 1 → (ts : List Lexeme) → S (Later b) c ts (spec.invariant limit room (expression_of limit) k ts)
  unfolding spec.invariant
  invariant b c le ts =
      after_test limit need is_invariant _ (Later b) c ts (λ x t1 c1 e1.
      after_tree true _ (Later b) c1 t1 (λ e t2 c2 e2.
      after_mark limit need true m.Semicolon _ (Later b) c2 t2 (λ q t3 c3 e3. done limit need (Later b) c3 (sized (clause (word_of x) e.tree) e.depth) t3 (omega arith))))

  pub invariants : (b c : ℕ) → b ≤ c → 1 ≤ c → (ts : List Lexeme) → S (Later b) c ts (spec.invariants limit room (expression_of limit) k ts)
  unfolding spec.invariants
  invariants b c le some ts =
      listed limit need (next_is is_invariant) (spec.invariant limit room (expression_of limit) k) with_more 1 (λ c' some us. invariant (c' + 1) c' (omega arith) us)
      b limit no_items c (omega arith) le some ts

  -- ---- the parts of a `for`

  pub for_first : (b c : ℕ) → b ≤ c → 1 ≤ c → (ts : List Lexeme) → S (Later b) c ts (spec.for_first limit room (expression_of limit) k ts)
  unfolding spec.for_first
  for_first b c le some ts =
      either limit need (Later b) c (same_mark (mark_at false ts) m.Semicolon) (pure no_part) _ ts (done limit need {A = Sized OptionalStatement} (Later b) c no_part ts le)
      (after limit need (Later c) _ (Later b) c ts (spec.simple limit room (expression_of limit) k true false ts) (simple true false c c (omega arith) some ts) (λ piece mid c1 e1.
      done limit need (Later b) c1 (part_of piece) mid (omega arith)))

  pub for_last : (b c : ℕ) → b ≤ c → 1 ≤ c → (ts : List Lexeme) → S (Later b) c ts (spec.for_last limit room (expression_of limit) k ts)
  unfolding spec.for_last
  for_last b c le some ts =
      either limit need (Later b) c (same_mark (mark_at false ts) m.RightParen) (pure no_part) _ ts (done limit need {A = Sized OptionalStatement} (Later b) c no_part ts le)
      (after limit need (Later c) _ (Later b) c ts (spec.simple limit room (expression_of limit) k false true ts) (simple false true c c (omega arith) some ts) (λ piece mid c1 e1.
      done limit need (Later b) c1 (part_of piece) mid (omega arith)))
