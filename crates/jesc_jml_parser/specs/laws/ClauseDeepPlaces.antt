-- A parser of specifications, or of members in annotations, that is short of room or turns has taken many lexemes.
use Rattle.std.proofs.Common.{◌≡◌, ◌⊎◌, ℕ, ◌+◌, ◌-◌, ◌≤◌, ◌<◌, Bool, true, false, Option, Some, None, List, [], ◌∷◌, length, drop, Err, sym, ap, subst, arith, inl, inr}
use Rattle.std.proofs.lemmas.List.{length-append}
use Rattle.jesc_text.specs.declared.place.Span.{Span}
use Rattle.jesc_ast.specs.declared.word.Word.{Word}
use Rattle.jesc_ast.specs.declared.word.TypeTree.{TypeTree}
use Rattle.jesc_ast.specs.Lexemes.{Lexeme, join}
use Rattle.jesc_ast.specs.Expressions.{type_tree}
use Rattle.jesc_ast.specs.Trees.{Expression, clause}
use Rattle.jesc_ast.specs.SpecTrees as trees
use Rattle.jesc_ast.specs.SpecTrees.{StoreForm, store, Promise}
use Rattle.jesc_ast.specs.FileTrees as members
use Rattle.jesc_ast.specs.FileTrees.{MemberForm, member_of}
use Rattle.jesc_ast.specs.Specifications.{first_span}
use Rattle.jesc_jml_grammar.specs.declared.mark.Mark.TheVariants as m
use Rattle.jesc_jml_grammar.specs.declared.fault.Fault.TheVariants.{Deep, Long}
use Rattle.jesc_jml_grammar.specs.declared.note_word.NoteWord.{NoteWord}
use Rattle.jesc_jml_grammar.specs.declared.note_word.NoteWord.TheVariants as w
use Rattle.jesc_jml_grammar.specs.Steps.{Outcome, Parser, mark_at, same_mark, take_one, refuse, expect}
use Rattle.jesc_jml_grammar.specs.Reading as reading
use Rattle.jesc_jml_grammar.specs.Reading.{Parsed, Start, at_first, is_type_mark, is_quantifier_mark, word_of, expr}
use Rattle.jesc_jml_parser.specs.laws.Places.{split_at}
use Rattle.jesc_jml_parser.specs.laws.Spending.{DeepAt, Spent}
use Rattle.jesc_jml_parser.specs.laws.DeepPlaces.{Shallow, spent_expr}
use Rattle.jesc_jml_grammar.specs.ClauseMarks.{same_word, word_at, at_mark, at_word, expect_word, span_at, is_heading_word, may_begin_clause, is_modifier_word, is_represents_sign}
use Rattle.jesc_jml_grammar.specs.ClauseReading as spec
use Rattle.jesc_jml_grammar.specs.ClauseReading.{Sized, sized, Ended, ended, no_items, with_more, none_behind, with_ended, with_word, signals_of, optional_word, span_from, case_tree, spec_of, value_of, first_word, allow_invariant, allow_represents, allow_field}
use Rattle.jesc_jml_parser.specs.laws.ClauseSpending.{Later, Past, after, after_mark, after_word, done, either, weaker, spent_take, spent_mark, spent_word, spent_until, spent_separated, spent_more_separated, after_tree, spent_names, spent_one_store}
use Rattle.jesc_jml_parser.specs.laws.ClauseBehind.{member_parser_behind}
use Rattle.jesc_jml_parser.specs.laws.ClauseWhole.{spec_parser, spec_parser_behind, member_parser}

module _ (limit room : ℕ) (inner : ℕ → ℕ → Start → Parser Parsed) (k : ℕ) (h : (ts : List Lexeme) → Spent true limit (room - 1) Shallow 0 ts (inner k 1 at_first ts)) where
  abbrev need : ℕ
  need = room - 1

  abbrev R : {A : Type 0} → (ℕ → A → Type 0) → ℕ → List Lexeme → Outcome A → Type 0
  R = Spent true limit need

  -- ---- clauses

  spent_word_store : (found : NoteWord) (form : StoreForm) (c : ℕ) (ts : List Lexeme) → R (Later c) c ts (spec.word_store limit room inner k found form ts)
  unfolding spec.word_store
  spent_word_store found form c ts = after_word limit need found _ (Later c) c ts (λ x mid c1 e1. done limit need (Later c) c1 (sized (store x.span form ∷ []) 0) mid (omega arith))

  spent_some_stores : (c : ℕ) → 1 ≤ c → (ts : List Lexeme) → R (Later c) c ts (spec.some_stores limit room inner k ts)
  unfolding spec.some_stores
  spent_some_stores c one ts =
      spent_separated limit need (at_mark m.Comma) (expect true m.Comma) (spec.one_store limit room inner k) with_more (spent_mark limit need m.Comma)
      (spent_one_store limit room inner k h) no_items c one ts

  spent_stores_by : (found : NoteWord) (c : ℕ) → 1 ≤ c → (ts : List Lexeme) → R (Later c) c ts (spec.stores_by limit room inner k found ts)
  spent_stores_by w.Nothing c one ts = spent_word_store w.Nothing trees.nothing c ts
  spent_stores_by w.Everything c one ts = spent_word_store w.Everything trees.everything c ts
  spent_stores_by _ c one ts = spent_some_stores c one ts

  spent_stores : (c : ℕ) → 1 ≤ c → (ts : List Lexeme) → R (Later c) c ts (spec.stores limit room inner k ts)
  unfolding spec.stores
  spent_stores c one ts = spent_stores_by (word_at ts) c one ts

  spent_clause_of : (found : NoteWord) (c : ℕ) (ts : List Lexeme) → R (Past c) c ts (spec.clause_of limit room inner k found ts)
  unfolding spec.clause_of
  spent_clause_of found c ts =
      after_word limit need found _ (Past c) c ts (λ x t1 c1 e1.
      after_tree limit room inner k h _ (Past c) c1 t1 (λ e t2 c2 e2 l2.
      after_mark limit need m.Semicolon _ (Past c) c2 t2 (λ q t3 c3 e3. done limit need (Past c) c3 (ended (clause (word_of x) e.tree) e.depth q) t3 (omega arith))))

  spent_ensures : (c : ℕ) (ts : List Lexeme) → R (Past c) c ts (spec.ensures_clause limit room inner k ts)
  unfolding spec.ensures_clause
  spent_ensures c ts =
      after limit need (Past c) _ (Past c) c ts (spec.clause_of limit room inner k w.Ensures ts) (spent_clause_of w.Ensures c ts) (λ x mid c1 e1.
      let promise : Ended Promise = record { tree = trees.promises x.tree; depth = x.depth; last = x.last } in
      done limit need (Past c) c1 promise mid e1)

  spent_assignable : (c : ℕ) (ts : List Lexeme) → R (Past c) c ts (spec.assignable_clause limit room inner k ts)
  unfolding spec.assignable_clause
  spent_assignable c ts =
      after_word limit need w.Assignable _ (Past c) c ts (λ x t1 c1 e1.
      after limit need (Later c1) _ (Past c) c1 t1 (spec.stores limit room inner k t1) (spent_stores c1 (omega arith) t1) (λ us t2 c2 e2.
      after_mark limit need m.Semicolon _ (Past c) c2 t2 (λ q t3 c3 e3. done limit need (Past c) c3 (ended (trees.assigns (word_of x) us.tree) us.depth q) t3 (omega arith))))

  spent_optional_name : (c : ℕ) (ts : List Lexeme) → R (Later c) c ts (spec.optional_name limit room inner k ts)
  unfolding spec.optional_name
  spent_optional_name c ts =
      either limit need (Later c) c (same_mark (mark_at true ts) m.Name) _ _ ts
      (after_mark limit need m.Name _ (Later c) c ts (λ x mid c1 e1. done limit need (Later c) c1 (Some (word_of x)) mid (omega arith)))
      (done limit need {A = Option Word} (Later c) c None ts (omega arith))

  spent_optional_expression : (c : ℕ) (ts : List Lexeme) → R (Later c) c ts (spec.optional_expression limit room inner k ts)
  unfolding spec.optional_expression
  spent_optional_expression c ts =
      either limit need (Later c) c (same_mark (mark_at true ts) m.Semicolon) _ _ ts (done limit need {A = Sized (Option Expression)} (Later c) c (sized None 0) ts (omega arith))
      (after_tree limit room inner k h _ (Later c) c ts (λ e mid c1 e1 l1. done limit need (Later c) c1 (sized (Some e.tree) e.depth) mid l1))

  spent_signals_behind : (x p class : Lexeme) (n : Option Word) (c c' : ℕ) → c < c' → (ts : List Lexeme) → R (Past c) c' ts (spec.signals_behind limit room inner k x p class n ts)
  unfolding spec.signals_behind
  spent_signals_behind x p class n c c' late ts =
      after_mark limit need m.RightParen _ (Past c) c' ts (λ r t1 c1 e1.
      after limit need (Later c1) _ (Past c) c1 t1 (spec.optional_expression limit room inner k t1) (spent_optional_expression c1 t1) (λ e t2 c2 e2.
      after_mark limit need m.Semicolon _ (Past c) c2 t2 (λ q t3 c3 e3. done limit need (Past c) c3 (signals_of x p class n e q) t3 (omega arith))))

  spent_signals : (c : ℕ) (ts : List Lexeme) → R (Past c) c ts (spec.signals_clause limit room inner k ts)
  unfolding spec.signals_clause
  spent_signals c ts =
      after_word limit need w.Signals _ (Past c) c ts (λ x t1 c1 e1.
      after_mark limit need m.LeftParen _ (Past c) c1 t1 (λ p t2 c2 e2.
      after_mark limit need m.Name _ (Past c) c2 t2 (λ class t3 c3 e3.
      after limit need (Later c3) _ (Past c) c3 t3 (spec.optional_name limit room inner k t3) (spent_optional_name c3 t3) (λ n t4 c4 e4.
      spent_signals_behind x p class n c c4 (omega arith) t4))))

  spent_classes : (c : ℕ) → 1 ≤ c → (ts : List Lexeme) → R (Later c) c ts (spec.signaled_classes limit room inner k ts)
  unfolding spec.signaled_classes spec.no_classes spec.some_classes
  spent_classes c one ts =
      either limit need (Later c) c (same_word (word_at ts) w.Nothing) _ _ ts
      (after_word limit need w.Nothing _ (Later c) c ts (λ n mid c1 e1. done limit need (Later c) c1 (trees.signals_only n.span []) mid (omega arith)))
      (after limit need (Later c) _ (Later c) c ts (spec.names limit room inner k ts) (spent_names limit room inner k h c one ts) (λ ws mid c1 e1.
      done limit need (Later c) c1 (trees.signals_only (first_span ws) ws) mid e1))

  spent_signals_only : (c : ℕ) (ts : List Lexeme) → R (Past c) c ts (spec.signals_only_clause limit room inner k ts)
  unfolding spec.signals_only_clause
  spent_signals_only c ts =
      after_word limit need w.SignalsOnly _ (Past c) c ts (λ s t1 c1 e1.
      after limit need (Later c1) _ (Past c) c1 t1 (spec.signaled_classes limit room inner k t1) (spent_classes c1 (omega arith) t1) (λ p t2 c2 e2.
      after_mark limit need m.Semicolon _ (Past c) c2 t2 (λ q t3 c3 e3. done limit need (Past c) c3 (ended p 0 q) t3 (omega arith))))

  spent_clause_by : (found : NoteWord) (c : ℕ) (ts : List Lexeme) → R (Past c) c ts (spec.spec_clause_by limit room inner k found ts)
  spent_clause_by w.Ensures c ts = spent_ensures c ts
  spent_clause_by w.Assignable c ts = spent_assignable c ts
  spent_clause_by w.Signals c ts = spent_signals c ts
  spent_clause_by w.SignalsOnly c ts = spent_signals_only c ts
  spent_clause_by _ c ts = tt

  spent_clause : (c : ℕ) (ts : List Lexeme) → R (Past c) c ts (spec.spec_clause limit room inner k ts)
  unfolding spec.spec_clause
  spent_clause c ts = spent_clause_by (word_at ts) c ts

  -- ---- cases

  spent_demands : (last : Span) (c : ℕ) → 1 ≤ c → (ts : List Lexeme) → R (Later c) c ts (spec.demands limit room inner k last ts)
  unfolding spec.demands
  spent_demands last c one ts =
      spent_until limit need (at_word w.Requires) (spec.clause_of limit room inner k w.Requires) with_ended (λ c' o us. spent_clause_of w.Requires c' us)
      c limit (none_behind last) c (omega arith) (omega arith) one ts

  spent_clauses : (heading : NoteWord) (last : Span) (c : ℕ) → 1 ≤ c → (ts : List Lexeme) → R (Later c) c ts (spec.spec_clauses limit room inner k heading last ts)
  unfolding spec.spec_clauses
  spent_clauses heading last c one ts =
      spent_until limit need (λ us. may_begin_clause heading (word_at us)) (spec.spec_clause limit room inner k) with_ended (λ c' o us. spent_clause c' us)
      c limit (none_behind last) c (omega arith) (omega arith) one ts

  spent_body : (first : Span) (visibility heading : Option Word) (found : NoteWord) (last : Span) (c : ℕ) → 1 ≤ c → (ts : List Lexeme)
      → R (Later c) c ts (spec.case_body limit room inner k first visibility heading found last ts)
  unfolding spec.case_body
  spent_body first visibility heading found last c one ts =
      after limit need (Later c) _ (Later c) c ts (spec.demands limit room inner k last ts) (spent_demands last c one ts) (λ ds mid c1 e1.
      after limit need (Later c1) _ (Later c) c1 mid (spec.spec_clauses limit room inner k found ds.last mid) (spent_clauses found ds.last c1 (omega arith) mid) (λ ps rest c2 e2.
      done limit need (Later c) c2 (case_tree first visibility heading ds ps) rest (omega arith)))

  spent_case_behind : (visibility : Option Lexeme) (c : ℕ) → 1 ≤ c → (ts : List Lexeme) → R (Later c) c ts (spec.case_behind limit room inner k visibility ts)
  unfolding spec.case_behind spec.heading
  spent_case_behind visibility c one ts =
      after limit need (Past c) _ (Later c) c ts _ (either limit need (Past c) c (is_heading_word (word_at ts)) take_one refuse ts (spent_take limit need c ts) tt) (λ x mid c1 e1.
      weaker limit need (Later c1) (Later c) c1 mid
      (spec.case_body limit room inner k (span_from visibility x) (optional_word visibility) (Some (word_of x)) (word_at ts) x.span mid) (λ c' y e. omega arith)
      (spent_body (span_from visibility x) (optional_word visibility) (Some (word_of x)) (word_at ts) x.span c1 (omega arith) mid))

  spent_seen_case : (c : ℕ) → 1 ≤ c → (ts : List Lexeme) → R (Later c) c ts (spec.seen_case limit room inner k ts)
  unfolding spec.seen_case
  spent_seen_case c one ts =
      after_word limit need w.Visibility _ (Later c) c ts (λ v mid c1 e1.
      weaker limit need (Later c1) (Later c) c1 mid (spec.case_behind limit room inner k (Some v) mid) (λ c' y e. omega arith) (spent_case_behind (Some v) c1 (omega arith) mid))

  spent_bare_case : (c : ℕ) → 1 ≤ c → (ts : List Lexeme) → R (Later c) c ts (spec.bare_case limit room inner k ts)
  unfolding spec.bare_case
  spent_bare_case c one ts = spent_body (span_at ts) None None w.Other (span_at ts) c one ts

  spent_case_by : (found : NoteWord) (c : ℕ) → 1 ≤ c → (ts : List Lexeme) → R (Later c) c ts (spec.case_by limit room inner k found ts)
  spent_case_by w.Visibility c one ts = spent_seen_case c one ts
  spent_case_by w.Behavior c one ts = spent_case_behind None c one ts
  spent_case_by w.NormalBehavior c one ts = spent_case_behind None c one ts
  spent_case_by w.ExceptionalBehavior c one ts = spent_case_behind None c one ts
  spent_case_by w.Requires c one ts = spent_bare_case c one ts
  spent_case_by w.Ensures c one ts = spent_bare_case c one ts
  spent_case_by w.Assignable c one ts = spent_bare_case c one ts
  spent_case_by w.Signals c one ts = spent_bare_case c one ts
  spent_case_by w.SignalsOnly c one ts = spent_bare_case c one ts
  spent_case_by _ c one ts = tt

  spent_one_case : (c : ℕ) → 1 ≤ c → (ts : List Lexeme) → R (Later c) c ts (spec.one_case limit room inner k ts)
  unfolding spec.one_case
  spent_one_case c one ts = spent_case_by (word_at ts) c one ts

  spent_cases : (c : ℕ) → 1 ≤ c → (ts : List Lexeme) → R (Later c) c ts (spec.cases limit room inner k ts)
  unfolding spec.cases
  spent_cases c one ts =
      spent_separated limit need (at_word w.Also) (expect_word w.Also) (spec.one_case limit room inner k) with_more (spent_word limit need w.Also) spent_one_case no_items c one ts

  spent_specification_of : (also : Bool) (c : ℕ) → 1 ≤ c → (ts : List Lexeme) → R (Later c) c ts (spec.specification_of limit room inner k also ts)
  unfolding spec.specification_of
  spent_specification_of also c one ts =
      after limit need (Later c) _ (Later c) c ts (spec.cases limit room inner k ts) (spent_cases c one ts) (λ cs mid c1 e1. done limit need (Later c) c1 (spec_of also cs) mid e1)

  pub spent_specification : (c : ℕ) → 1 ≤ c → (ts : List Lexeme) → R (Later c) c ts (spec.specification limit room inner k ts)
  unfolding spec.specification
  spent_specification c one ts =
      either limit need (Later c) c (same_word (word_at ts) w.Also) _ _ ts
      (after_word limit need w.Also _ (Later c) c ts (λ s mid c1 e1.
      weaker limit need (Later c1) (Later c) c1 mid (spec.specification_of limit room inner k true mid) (λ c' y e. omega arith) (spent_specification_of true c1 (omega arith) mid)))
      (spent_specification_of false c one ts)

  pub spent_specification_behind : (v : Lexeme) (c : ℕ) → 1 ≤ c → (ts : List Lexeme) → R (Later c) c ts (spec.specification_behind limit room inner k v ts)
  unfolding spec.specification_behind spec.more_cases
  spent_specification_behind v c one ts =
      after limit need (Later c) _ (Later c) c ts (spec.case_behind limit room inner k (Some v) ts) (spent_case_behind (Some v) c one ts) (λ x mid c1 e1.
      after limit need (Later c1) _ (Later c) c1 mid _
      (spent_more_separated limit need (at_word w.Also) (expect_word w.Also) (spec.one_case limit room inner k) with_more (spent_word limit need w.Also) spent_one_case
      c1 (with_more no_items x) c1 (omega arith) (omega arith) mid) (λ cs rest c2 e2.
      done limit need (Later c) c2 (spec_of false cs) rest (omega arith)))

  -- ---- members

  pub spent_modifiers : (ws : List Word) (c : ℕ) → 1 ≤ c → (ts : List Lexeme) → R (Later c) c ts (spec.modifiers limit room inner k ws ts)
  unfolding spec.modifiers spec.modifier
  spent_modifiers ws c one ts =
      spent_until limit need (λ us. is_modifier_word (word_at us)) (spec.modifier limit room inner k) with_word
      (λ c' o us. either limit need (Past c') c' (is_modifier_word (word_at us)) take_one refuse us (spent_take limit need c' us) tt)
      c limit ws c (omega arith) (omega arith) one ts

  spent_invariant : (ws : List Word) (c : ℕ) (ts : List Lexeme) → R (Past c) c ts (spec.invariant_behind limit room inner k ws ts)
  unfolding spec.invariant_behind
  spent_invariant ws c ts =
      after_word limit need w.Invariant _ (Past c) c ts (λ s t1 c1 e1.
      after_tree limit room inner k h _ (Past c) c1 t1 (λ e t2 c2 e2 l2.
      after_mark limit need m.Semicolon _ (Past c) c2 t2 (λ q t3 c3 e3. done limit need (Past c) c3 (ended (members.class_invariant ws e.tree) e.depth q) t3 (omega arith))))

  spent_sign : (c : ℕ) (ts : List Lexeme) → R (Past c) c ts (spec.represents_sign limit room inner k ts)
  unfolding spec.represents_sign
  spent_sign c ts = either limit need (Past c) c (is_represents_sign (word_at ts)) take_one refuse ts (spent_take limit need c ts) tt

  spent_represents : (ws : List Word) (c : ℕ) (ts : List Lexeme) → R (Past c) c ts (spec.represents_behind limit room inner k ws ts)
  unfolding spec.represents_behind
  spent_represents ws c ts =
      after_word limit need w.Represents _ (Past c) c ts (λ s t1 c1 e1.
      after_mark limit need m.Name _ (Past c) c1 t1 (λ x t2 c2 e2.
      after limit need (Past c2) _ (Past c) c2 t2 (spec.represents_sign limit room inner k t2) (spent_sign c2 t2) (λ op t3 c3 e3.
      after_tree limit room inner k h _ (Past c) c3 t3 (λ e t4 c4 e4 l4.
      after_mark limit need m.Semicolon _ (Past c) c4 t4 (λ q t5 c5 e5.
      done limit need (Past c) c5 (ended (members.represents (first_word ws) (word_of x) (word_of op) e.tree) e.depth q) t5 (omega arith))))))

  spent_value : (c : ℕ) (ts : List Lexeme) → R (Later c) c ts (spec.value limit room inner k ts)
  unfolding spec.value spec.some_value
  spent_value c ts =
      either limit need (Later c) c (same_word (word_at ts) w.Equals) _ _ ts
      (after_word limit need w.Equals _ (Later c) c ts (λ equals t1 c1 e1.
      after_tree limit room inner k h _ (Later c) c1 t1 (λ e t2 c2 e2 l2. done limit need (Later c) c2 (value_of equals e) t2 (omega arith))))
      (done limit need (Later c) c spec.no_value ts (omega arith))

  pub spent_groups : (q : Lexeme) (c : ℕ) (ts : List Lexeme) → R (Later c) c ts (spec.groups limit room inner k q ts)
  unfolding spec.groups spec.some_groups
  spent_groups q c ts =
      either limit need (Later c) c (same_word (word_at ts) w.In) _ _ ts
      (after_word limit need w.In _ (Later c) c ts (λ s t1 c1 e1.
      after limit need (Later c1) _ (Later c) c1 t1 (spec.names limit room inner k t1) (spent_names limit room inner k h c1 (omega arith) t1) (λ ws t2 c2 e2.
      after_mark limit need m.Semicolon _ (Later c) c2 t2 (λ r t3 c3 e3. done limit need (Later c) c3 (ended ws 0 r) t3 (omega arith)))))
      (done limit need {A = Ended (List Word)} (Later c) c (ended [] 0 q) ts (omega arith))

  spent_ending : (ws : List Word) (ty : TypeTree) (y : Lexeme) (c : ℕ) (ts : List Lexeme) → R (Later c) c ts (spec.field_ending limit room inner k ws ty y ts)
  unfolding spec.field_ending
  spent_ending ws ty y c ts =
      after limit need (Later c) _ (Later c) c ts (spec.value limit room inner k ts) (spent_value c ts) (λ v t1 c1 e1.
      after_mark limit need m.Semicolon _ (Later c) c1 t1 (λ q t2 c2 e2.
      after limit need (Later c2) _ (Later c) c2 t2 (spec.groups limit room inner k q t2) (spent_groups q c2 t2) (λ gs t3 c3 e3.
      let form : Ended MemberForm = record { tree = members.spec_field ws ty (word_of y) v.equals v.e gs.tree; depth = v.depth; last = gs.last } in
      done limit need (Later c) c3 form t3 (omega arith))))

  spent_type_behind : (x : Lexeme) (c : ℕ) (ts : List Lexeme) → R (Later c) c ts (reading.type_behind true limit room inner k x ts)
  unfolding reading.type_behind
  spent_type_behind x c ts =
      either limit need (Later c) c (same_mark (mark_at true ts) m.LeftBracket) _ _ ts
      (after_mark limit need m.LeftBracket _ (Later c) c ts (λ p mid c1 e1.
      after_mark limit need m.RightBracket _ (Later c) c1 mid (λ q rest c2 e2. done limit need (Later c) c2 (type_tree (join x.span q.span) x.text true) rest (omega arith))))
      (done limit need (Later c) c (type_tree x.span x.text false) ts (omega arith))

  spent_type : (c : ℕ) (ts : List Lexeme) → R (Later c) c ts (reading.type_ true limit room inner k ts)
  unfolding reading.type_ reading.type_word
  spent_type c ts =
      after limit need (Past c) _ (Later c) c ts _ (either limit need (Past c) c (is_type_mark (mark_at true ts)) take_one refuse ts (spent_take limit need c ts) tt) (λ x mid c1 e1.
      weaker limit need (Later c1) (Later c) c1 mid (reading.type_behind true limit room inner k x mid) (λ c' y e. omega arith) (spent_type_behind x c1 mid))

  spent_field_behind : (ws : List Word) (c : ℕ) (ts : List Lexeme) → R (Later c) c ts (spec.field_behind limit room inner k ws ts)
  unfolding spec.field_behind
  spent_field_behind ws c ts =
      after limit need (Later c) _ (Later c) c ts (reading.type_ true limit room inner k ts) (spent_type c ts) (λ ty t1 c1 e1.
      after_mark limit need m.Name _ (Later c) c1 t1 (λ y t2 c2 e2.
      weaker limit need (Later c2) (Later c) c2 t2 (spec.field_ending limit room inner k ws ty y t2) (λ c' f e. omega arith) (spent_ending ws ty y c2 t2)))

  spent_spec_field : (ws : List Word) (c : ℕ) (ts : List Lexeme) → R (Past c) c ts (spec.spec_field_behind limit room inner k ws ts)
  unfolding spec.spec_field_behind
  spent_spec_field ws c ts =
      after_word limit need w.Field _ (Past c) c ts (λ x t1 c1 e1.
      after limit need (Later c1) _ (Past c) c1 t1 (spec.modifiers limit room inner k (with_word ws x) t1) (spent_modifiers (with_word ws x) c1 (omega arith) t1) (λ all t2 c2 e2.
      weaker limit need (Later c2) (Past c) c2 t2 (spec.field_behind limit room inner k all t2) (λ c' f e. omega arith) (spent_field_behind all c2 t2)))

  spent_form_by : (ws : List Word) (found : NoteWord) (c : ℕ) (ts : List Lexeme) → R (Past c) c ts (spec.form_by limit room inner k ws found ts)
  spent_form_by ws w.Invariant c ts = either limit need (Past c) c (allow_invariant ws) _ refuse ts (spent_invariant ws c ts) tt
  spent_form_by ws w.Represents c ts = either limit need (Past c) c (allow_represents ws) _ refuse ts (spent_represents ws c ts) tt
  spent_form_by ws w.Field c ts = either limit need (Past c) c (allow_field ws) _ refuse ts (spent_spec_field ws c ts) tt
  spent_form_by ws _ c ts = tt

  pub spent_form_behind : (ws : List Word) (c : ℕ) (ts : List Lexeme) → R (Past c) c ts (spec.form_behind limit room inner k ws ts)
  unfolding spec.form_behind
  spent_form_behind ws c ts = spent_form_by ws (word_at ts) c ts

  spent_member_behind : (first : Span) (ws : List Word) (c : ℕ) (ts : List Lexeme) → R (Later c) c ts (spec.member_behind limit room inner k first ws ts)
  unfolding spec.member_behind
  spent_member_behind first ws c ts =
      after limit need (Past c) _ (Later c) c ts (spec.form_behind limit room inner k ws ts) (spent_form_behind ws c ts) (λ f mid c1 e1.
      done limit need (Later c) c1 (sized (member_of (join first f.last) f.tree) f.depth) mid (omega arith))

  spent_member : (c : ℕ) → 1 ≤ c → (ts : List Lexeme) → R (Later c) c ts (spec.member_annotation limit room inner k ts)
  unfolding spec.member_annotation
  spent_member c one ts =
      after limit need (Later c) _ (Later c) c ts (spec.modifiers limit room inner k [] ts) (spent_modifiers [] c one ts) (λ ws mid c1 e1.
      weaker limit need (Later c1) (Later c) c1 mid (spec.member_behind limit room inner k (span_at ts) ws mid) (λ c' f e. omega arith) (spent_member_behind (span_at ts) ws c1 mid))

-- ---- the whole

deep_at : (need c : ℕ) (ts : List Lexeme) (n : ℕ) → DeepAt true need c ts n
    → (is_quantifier_mark (mark_at true (drop (length ts - n) ts)) ≡ true) ⊎ (need ≤ c + (length ts - n))
deep_at need c ts n s =
    let at = split_at ts s.taken s.rest n s.parts s.left in
    elim s.cause [
      | inl word ↦ inl (subst (λ (z : List Lexeme). is_quantifier_mark (mark_at true z) ≡ true) (sym at.1) word)
      | inr many ↦ inr (omega (arith, s.left, ap length s.parts, length-append s.taken s.rest, many))
    ]

-- It stops for want of room at a quantifier, or with as many lexemes taken as there was room for and two less.
abbrev pub IsDeepPlace : ℕ → List Lexeme → ℕ → Type 0
IsDeepPlace room ts n = (is_quantifier_mark (mark_at true (drop (length ts - n) ts)) ≡ true) ⊎ (room ≤ (length ts - n) + 2)

module _ {A : Type 0} (limit room : ℕ) (ts : List Lexeme) (r : Outcome A) (spent : Spent true limit (room - 1) (Later 1) 1 ts r) where
  stopped : (n : ℕ) → r ≡ Err (Deep n) → IsDeepPlace room ts n
  stopped n is =
      elim (deep_at (room - 1) 1 ts n (subst (Spent true limit (room - 1) (Later 1) 1 ts) is spent)) [ inl word ↦ inl word | inr many ↦ inr (omega arith) ]

  ended_before : length ts < limit → r ≡ Err Long → ⊥
  ended_before few is =
      let s : limit < 1 + length ts = subst (Spent true limit (room - 1) (Later 1) 1 ts) is spent in
      omega arith

tree_spent : (limit room k : ℕ) (ts : List Lexeme) → Spent true limit (room - 1) Shallow 0 ts (expr true limit room k 1 at_first ts)
tree_spent limit room k ts = spent_expr true limit room k 1 at_first ts

spec_spent : (limit room k : ℕ) (ts : List Lexeme) → Spent true limit (room - 1) (Later 1) 1 ts (spec_parser limit room k ts)
spec_spent limit room k ts = spent_specification limit room (expr true limit room) k (tree_spent limit room k) 1 (omega arith) ts

behind_spent : (v : Lexeme) (limit room k : ℕ) (ts : List Lexeme) → Spent true limit (room - 1) (Later 1) 1 ts (spec_parser_behind v limit room k ts)
behind_spent v limit room k ts = spent_specification_behind limit room (expr true limit room) k (tree_spent limit room k) v 1 (omega arith) ts

member_spent : (limit room k : ℕ) (ts : List Lexeme) → Spent true limit (room - 1) (Later 1) 1 ts (member_parser limit room k ts)
member_spent limit room k ts = spent_member limit room (expr true limit room) k (tree_spent limit room k) 1 (omega arith) ts

member_behind_spent : (first : Span) (ws : List Word) (limit room k : ℕ) (ts : List Lexeme)
    → Spent true limit (room - 1) (Later 1) 1 ts (member_parser_behind first ws limit room k ts)
member_behind_spent first ws limit room k ts = spent_member_behind limit room (expr true limit room) k (tree_spent limit room k) first ws 1 ts

pub spec_deep_place : (limit room k : ℕ) (ts : List Lexeme) (n : ℕ) → spec_parser limit room k ts ≡ Err (Deep n) → IsDeepPlace room ts n
spec_deep_place limit room k ts n is = stopped limit room ts (spec_parser limit room k ts) (spec_spent limit room k ts) n is

pub spec_behind_deep_place : (v : Lexeme) (limit room k : ℕ) (ts : List Lexeme) (n : ℕ) → spec_parser_behind v limit room k ts ≡ Err (Deep n) → IsDeepPlace room ts n
spec_behind_deep_place v limit room k ts n is = stopped limit room ts (spec_parser_behind v limit room k ts) (behind_spent v limit room k ts) n is

pub member_deep_place : (limit room k : ℕ) (ts : List Lexeme) (n : ℕ) → member_parser limit room k ts ≡ Err (Deep n) → IsDeepPlace room ts n
member_deep_place limit room k ts n is = stopped limit room ts (member_parser limit room k ts) (member_spent limit room k ts) n is

pub member_behind_deep_place : (first : Span) (ws : List Word) (limit room k : ℕ) (ts : List Lexeme) (n : ℕ) → member_parser_behind first ws limit room k ts ≡ Err (Deep n)
    → IsDeepPlace room ts n
member_behind_deep_place first ws limit room k ts n is = stopped limit room ts (member_parser_behind first ws limit room k ts) (member_behind_spent first ws limit room k ts) n is

-- a list is never too long where the turns are more than the lexemes
pub spec_never_long : (limit room k : ℕ) (ts : List Lexeme) → length ts < limit → spec_parser limit room k ts ≡ Err Long → ⊥
spec_never_long limit room k ts few is = ended_before limit room ts (spec_parser limit room k ts) (spec_spent limit room k ts) few is

pub spec_behind_never_long : (v : Lexeme) (limit room k : ℕ) (ts : List Lexeme) → length ts < limit → spec_parser_behind v limit room k ts ≡ Err Long → ⊥
spec_behind_never_long v limit room k ts few is = ended_before limit room ts (spec_parser_behind v limit room k ts) (behind_spent v limit room k ts) few is

pub member_never_long : (limit room k : ℕ) (ts : List Lexeme) → length ts < limit → member_parser limit room k ts ≡ Err Long → ⊥
member_never_long limit room k ts few is = ended_before limit room ts (member_parser limit room k ts) (member_spent limit room k ts) few is

pub member_behind_never_long : (first : Span) (ws : List Word) (limit room k : ℕ) (ts : List Lexeme) → length ts < limit → member_parser_behind first ws limit room k ts ≡ Err Long → ⊥
member_behind_never_long first ws limit room k ts few is =
    ended_before limit room ts (member_parser_behind first ws limit room k ts) (member_behind_spent first ws limit room k ts) few is
