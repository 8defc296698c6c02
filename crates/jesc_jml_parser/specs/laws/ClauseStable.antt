-- A parser of specifications and of members in annotations with more room answers the same.
use Rattle.std.proofs.Common.{◌≡◌, ℕ, zero, suc, ◌≤◌, Bool, true, false, Option, Some, None, List, [], ◌∷◌, refl, ap, arith}
use Rattle.std.specs.Prelude.{if◌then◌else◌, nat_lt, nat_le}
use Rattle.jesc_text.specs.declared.place.Span.{Span}
use Rattle.jesc_ast.specs.declared.word.Word.{Word}
use Rattle.jesc_ast.specs.declared.word.TypeTree.{TypeTree}
use Rattle.jesc_ast.specs.Lexemes.{Lexeme, join}
use Rattle.jesc_ast.specs.Expressions.{type_tree}
use Rattle.jesc_ast.specs.SpecTrees.{StoreForm, Store}
use Rattle.jesc_ast.specs.SpecTrees as trees
use Rattle.jesc_jml_grammar.specs.declared.mark.Mark.{Mark}
use Rattle.jesc_jml_grammar.specs.declared.mark.Mark.TheVariants as m
use Rattle.jesc_jml_grammar.specs.declared.note_word.NoteWord.{NoteWord}
use Rattle.jesc_jml_grammar.specs.declared.note_word.NoteWord.TheVariants as w
use Rattle.jesc_jml_grammar.specs.Steps.{Parser, too_deep, refuse, same_mark, take_one, ◌>>=◌, expect, head}
use Rattle.jesc_jml_grammar.specs.Reading as reading
use Rattle.jesc_jml_grammar.specs.Reading.{Parsed, Start, at_first, is_type_mark, word_of}
use Rattle.jesc_jml_grammar.specs.laws.Refining.{Refines, refines_pure, refines_refuse, refines_deep, refines_peek, refines_take_one, refines_bind, refines_if, refines_expect, refines_long, mark_at-head}
use Rattle.jesc_jml_grammar.specs.ClauseMarks.{word_at, same_word, at_mark, peek_word, expect_word, span_at, peek_span, may_begin_clause, is_heading_word, is_modifier_word, is_represents_sign}
use Rattle.jesc_jml_grammar.specs.laws.ListRefining.{IsByHead, refines_look, refines_until, refines_separated, refines_more_separated}
use Rattle.jesc_jml_grammar.specs.ClauseReading as spec
use Rattle.jesc_jml_grammar.specs.ClauseReading.{Sized, Path, StoreStep, goes_on, is_read, closed, no_items, with_more, with_word, none_behind}

-- ---- what the next lexeme is

pub word_at-head : (v w : List Lexeme) → head w ≡ head v → word_at w ≡ word_at v
unfolding word_at
word_at-head [] [] e = refl
word_at-head [] (x ∷ w) e = absurd cc
word_at-head (x ∷ v) [] e = absurd cc
word_at-head (x ∷ v) (y ∷ w) e = let same : y ≡ x = cc in rw same refl

span_at-head : (v w : List Lexeme) → head w ≡ head v → span_at w ≡ span_at v
span_at-head [] [] e = refl
span_at-head [] (x ∷ w) e = absurd cc
span_at-head (x ∷ v) [] e = absurd cc
span_at-head (x ∷ v) (y ∷ w) e = let same : y ≡ x = cc in rw same refl

-- a test of the next lexeme's word is by that lexeme alone
pub by_word : (test : NoteWord → Bool) → IsByHead (λ ts. test (word_at ts))
by_word test = record { same = λ v w e. ap test (word_at-head v w e) }

pub by_mark : (mark : Mark) → IsByHead (at_mark mark)
by_mark mark = record { same = λ v w e. ap (λ (found : Mark). same_mark found mark) (mark_at-head true v w e) }

module _ (same : Bool) where
  pub refines_peek_word : Refines same peek_word peek_word
  refines_peek_word = refines_look same word_at (record { same = word_at-head })

  pub refines_peek_span : Refines same peek_span peek_span
  refines_peek_span = refines_look same span_at (record { same = span_at-head })

  pub refines_expect_word : (word : NoteWord) → Refines same (expect_word word) (expect_word word)
  unfolding expect_word
  refines_expect_word word = refines_bind same _ _ _ _ refines_peek_word
      (λ found. refines_if same (same_word found word) take_one take_one refuse refuse (refines_take_one same) (refines_refuse same))

  -- where there is room on the left, there is on the right
  refines_when : {A : Type 0} (b b' : Bool) (p q : Parser A) → (b ≡ true → b' ≡ true) → (same ≡ true → b ≡ b') → Refines same p q
      → Refines same (if b then p else too_deep) (if b' then q else too_deep)
  refines_when true true p q up eq h = h
  refines_when true false p q up eq h = let no : false ≡ true = up refl in absurd cc
  refines_when false true p q up eq h = record {
    oks = λ ts rest x e. absurd cc;
    errs = λ ts n e. absurd cc;
    deeps = λ s ts n e. let no : false ≡ true = eq s in absurd cc;
  }
  refines_when false false p q up eq h = refines_deep same

-- ---- the rules

module _ (same : Bool) (limit limit' : ℕ) (limits : limit ≤ limit') (room room' : ℕ) (rooms : room ≤ room')
    (same_rooms : same ≡ true → room ≡ room') (less more : ℕ → ℕ → Start → Parser Parsed) (k k' : ℕ)
    (h : (least : ℕ) (start : Start) → Refines same (less k least start) (more k' least start)) where
  chain : {A B : Type 0} (p q : Parser A) (f g : A → Parser B) → Refines same p q → ((x : A) → Refines same (f x) (g x)) → Refines same (p >>= f) (q >>= g)
  chain = refines_bind same

  here : Refines same (less k 1 at_first) (more k' 1 at_first)
  here = h 1 at_first

  eat : (mark : Mark) → Refines same (expect true mark) (expect true mark)
  eat = refines_expect same true

  eat_word : (word : NoteWord) → Refines same (expect_word word) (expect_word word)
  eat_word = refines_expect_word same

  sight : Refines same peek_word peek_word
  sight = refines_peek_word same

  refines_names : Refines same (spec.names limit room less k) (spec.names limit' room' more k')
  unfolding spec.names
  refines_names = refines_separated same _ (by_mark m.Comma) _ _ _ _ _ (eat m.Comma) (eat m.Name) limit limit' limits []

  -- ---- types

  refines_type_word : Refines same (reading.type_word true limit room less k) (reading.type_word true limit' room' more k')
  unfolding reading.type_word
  refines_type_word = chain _ _ _ _ (refines_peek same true) (λ mark. refines_if same (is_type_mark mark) _ _ _ _ (refines_take_one same) (refines_refuse same))

  refines_type_behind : (x : Lexeme) → Refines same (reading.type_behind true limit room less k x) (reading.type_behind true limit' room' more k' x)
  unfolding reading.type_behind
  refines_type_behind x = chain _ _ _ _ (refines_peek same true) (λ mark. refines_if same (same_mark mark m.LeftBracket) _ _ _ _
      (chain _ _ _ _ (eat m.LeftBracket) (λ p. chain _ _ _ _ (eat m.RightBracket) (λ q. refines_pure same (type_tree (join x.span q.span) x.text true))))
      (refines_pure same (type_tree x.span x.text false)))

  refines_type : Refines same (reading.type_ true limit room less k) (reading.type_ true limit' room' more k')
  unfolding reading.type_
  refines_type = chain _ _ _ _ refines_type_word refines_type_behind

  -- ---- stores

  refines_path_name : Refines same (spec.path_name limit room less k) (spec.path_name limit' room' more k')
  unfolding spec.path_name
  refines_path_name = chain _ _ _ _ (eat m.Name) (λ x. refines_pure same _)

  refines_path_this : Refines same (spec.path_this limit room less k) (spec.path_this limit' room' more k')
  unfolding spec.path_this
  refines_path_this = chain _ _ _ _ (eat m.This) (λ x. refines_pure same _)

  refines_path_by : (mark : Mark) → Refines same (spec.path_by limit room less k mark) (spec.path_by limit' room' more k' mark)
  refines_path_by m.Name = refines_path_name
  refines_path_by m.This = refines_path_this
  refines_path_by _ = refines_refuse same

  refines_path_within : (mark : Mark) → Refines same (spec.path_within limit room less k mark) (spec.path_within limit' room' more k' mark)
  refines_path_within mark = refines_when same (nat_lt 0 room) (nat_lt 0 room') _ _ (grind arith) (λ s. ap (nat_lt 0) (same_rooms s)) (refines_path_by mark)

  refines_path_first : Refines same (spec.path_first limit room less k) (spec.path_first limit' room' more k')
  unfolding spec.path_first
  refines_path_first = chain _ _ _ _ (refines_peek same true) (λ mark. refines_if same (spec.opens_path limit room less k mark) _ _ _ _ (refines_path_within mark) (refines_refuse same))

  refines_starred : (e : Parsed) → Refines same (spec.starred limit room less k e) (spec.starred limit' room' more k' e)
  unfolding spec.starred
  refines_starred e = chain _ _ _ _ (eat m.Times) (λ q. refines_pure same _)

  refines_path_member : (e : Parsed) (dot : Lexeme) → Refines same (spec.path_member limit room less k e dot) (spec.path_member limit' room' more k' e dot)
  unfolding spec.path_member
  refines_path_member e dot = chain _ _ _ _ (eat m.Name) (λ x. refines_pure same _)

  refines_behind_dot : (e : Parsed) (dot : Lexeme) (mark : Mark)
      → Refines same (spec.behind_dot_by limit room less k e dot mark) (spec.behind_dot_by limit' room' more k' e dot mark)
  refines_behind_dot e dot m.Times = refines_starred e
  refines_behind_dot e dot m.Name =
      refines_when same (nat_lt e.depth room) (nat_lt e.depth room') _ _ (grind arith) (λ s. ap (nat_lt e.depth) (same_rooms s)) (refines_path_member e dot)
  refines_behind_dot e dot _ = refines_refuse same

  refines_path_dotted : (e : Parsed) → Refines same (spec.path_dotted limit room less k e) (spec.path_dotted limit' room' more k' e)
  unfolding spec.path_dotted
  refines_path_dotted e = chain _ _ _ _ (eat m.Dot) (λ dot. chain _ _ _ _ (refines_peek same true) (λ mark. refines_behind_dot e dot mark))

  refines_all_starred : (e : Parsed) → Refines same (spec.all_starred limit room less k e) (spec.all_starred limit' room' more k' e)
  unfolding spec.all_starred
  refines_all_starred e = chain _ _ _ _ (eat m.Times) (λ s. chain _ _ _ _ (eat m.RightBracket) (λ q. refines_pure same _))

  refines_ranged : (e i : Parsed) → Refines same (spec.ranged limit room less k e i) (spec.ranged limit' room' more k' e i)
  unfolding spec.ranged
  refines_ranged e i = chain _ _ _ _ (eat_word w.Range) (λ r. chain _ _ _ _ here (λ j. chain _ _ _ _ (eat m.RightBracket) (λ q. refines_pure same _)))

  refines_path_index : (e : Parsed) (p : Lexeme) (i : Parsed) → Refines same (spec.path_index limit room less k e p i) (spec.path_index limit' room' more k' e p i)
  unfolding spec.path_index
  refines_path_index e p i = chain _ _ _ _ (eat m.RightBracket) (λ q. refines_pure same _)

  refines_bounded_by : (e : Parsed) (p : Lexeme) → Refines same (spec.bounded_by limit room less k e p) (spec.bounded_by limit' room' more k' e p)
  unfolding spec.bounded_by
  refines_bounded_by e p = chain _ _ _ _ here (λ i. chain _ _ _ _ sight
      (λ word. refines_if same (same_word word w.Range) _ _ _ _ (refines_ranged e i) (refines_path_index e p i)))

  refines_path_bracketed : (e : Parsed) → Refines same (spec.path_bracketed limit room less k e) (spec.path_bracketed limit' room' more k' e)
  unfolding spec.path_bracketed
  refines_path_bracketed e = chain _ _ _ _ (eat m.LeftBracket) (λ p. chain _ _ _ _ (refines_peek same true)
      (λ mark. refines_if same (same_mark mark m.Times) _ _ _ _ (refines_all_starred e) (refines_bounded_by e p)))

  refines_longer : (e : Parsed) (p q : Parser StoreStep) → Refines same p q → Refines same (spec.longer limit room less k e p) (spec.longer limit' room' more k' e q)
  refines_longer e p q hp = refines_when same (nat_le e.depth room) (nat_le e.depth room') _ _ (grind arith) (λ s. ap (nat_le e.depth) (same_rooms s)) hp

  refines_store_step_by : (path : Path) (mark : Mark)
      → Refines same (spec.store_step_by limit room less k path mark) (spec.store_step_by limit' room' more k' path mark)
  refines_store_step_by path m.Dot = refines_longer (closed path) _ _ (refines_path_dotted (closed path))
  refines_store_step_by path m.LeftBracket = refines_longer (closed path) _ _ (refines_path_bracketed (closed path))
  refines_store_step_by path _ = refines_pure same _

  refines_store_step : (path : Path) → Refines same (spec.store_step limit room less k path) (spec.store_step limit' room' more k' path)
  unfolding spec.store_step
  refines_store_step path = chain _ _ _ _ (refines_peek same true) (refines_store_step_by path)

  refines_after_step : (f g : Path → Parser (Sized Store)) → ((path : Path) → Refines same (f path) (g path)) → (s : StoreStep)
      → Refines same (spec.after_step limit room less k f s) (spec.after_step limit' room' more k' g s)
  refines_after_step f g hf (goes_on path) = hf path
  refines_after_step f g hf (is_read t) = refines_pure same t

  refines_store_behind : (n n' : ℕ) → n ≤ n' → (path : Path)
      → Refines same (spec.store_behind limit room less k n path) (spec.store_behind limit' room' more k' n' path)
  unfolding spec.store_behind
  refines_store_behind zero n' le path = refines_long same _
  refines_store_behind (suc n) zero le path = absurd (omega arith)
  refines_store_behind (suc n) (suc n') le path =
      chain _ _ _ _ (refines_store_step path) (refines_after_step _ _ (λ longer. refines_store_behind n n' (omega arith) longer))

  refines_one_store : Refines same (spec.one_store limit room less k) (spec.one_store limit' room' more k')
  unfolding spec.one_store
  refines_one_store = chain _ _ _ _ refines_path_first (refines_store_behind limit limit' limits)

  refines_some_stores : Refines same (spec.some_stores limit room less k) (spec.some_stores limit' room' more k')
  unfolding spec.some_stores
  refines_some_stores = refines_separated same _ (by_mark m.Comma) _ _ _ _ _ (eat m.Comma) refines_one_store limit limit' limits no_items

  refines_word_store : (word : NoteWord) (form : StoreForm) → Refines same (spec.word_store limit room less k word form) (spec.word_store limit' room' more k' word form)
  unfolding spec.word_store
  refines_word_store word form = chain _ _ _ _ (eat_word word) (λ x. refines_pure same _)

  refines_stores_by : (word : NoteWord) → Refines same (spec.stores_by limit room less k word) (spec.stores_by limit' room' more k' word)
  refines_stores_by w.Nothing = refines_word_store w.Nothing trees.nothing
  refines_stores_by w.Everything = refines_word_store w.Everything trees.everything
  refines_stores_by _ = refines_some_stores

  refines_stores : Refines same (spec.stores limit room less k) (spec.stores limit' room' more k')
  unfolding spec.stores
  refines_stores = chain _ _ _ _ sight refines_stores_by

  -- ---- clauses

  refines_clause_of : (word : NoteWord) → Refines same (spec.clause_of limit room less k word) (spec.clause_of limit' room' more k' word)
  unfolding spec.clause_of
  refines_clause_of word = chain _ _ _ _ (eat_word word) (λ x. chain _ _ _ _ here (λ e. chain _ _ _ _ (eat m.Semicolon) (λ q. refines_pure same _)))

  refines_ensures_clause : Refines same (spec.ensures_clause limit room less k) (spec.ensures_clause limit' room' more k')
  unfolding spec.ensures_clause
  refines_ensures_clause = chain _ _ _ _ (refines_clause_of w.Ensures) (λ c. refines_pure same _)

  refines_assignable_clause : Refines same (spec.assignable_clause limit room less k) (spec.assignable_clause limit' room' more k')
  unfolding spec.assignable_clause
  refines_assignable_clause = chain _ _ _ _ (eat_word w.Assignable) (λ x. chain _ _ _ _ refines_stores (λ ts. chain _ _ _ _ (eat m.Semicolon) (λ q. refines_pure same _)))

  refines_optional_name : Refines same (spec.optional_name limit room less k) (spec.optional_name limit' room' more k')
  unfolding spec.optional_name
  refines_optional_name = chain _ _ _ _ (refines_peek same true) (λ mark. refines_if same (same_mark mark m.Name) _ _ _ _
      (chain _ _ _ _ (eat m.Name) (λ x. refines_pure same (Some (word_of x)))) (refines_pure same None))

  refines_optional_expression : Refines same (spec.optional_expression limit room less k) (spec.optional_expression limit' room' more k')
  unfolding spec.optional_expression
  refines_optional_expression = chain _ _ _ _ (refines_peek same true) (λ mark. refines_if same (same_mark mark m.Semicolon) _ _ _ _
      (refines_pure same (spec.sized None 0)) (chain _ _ _ _ here (λ e. refines_pure same (spec.sized (Some e.tree) e.depth))))

  refines_signals_behind : (x p class : Lexeme) (n : Option Word)
      → Refines same (spec.signals_behind limit room less k x p class n) (spec.signals_behind limit' room' more k' x p class n)
  unfolding spec.signals_behind
  refines_signals_behind x p class n = chain _ _ _ _ (eat m.RightParen) (λ r. chain _ _ _ _ refines_optional_expression (λ e. chain _ _ _ _ (eat m.Semicolon) (λ q. refines_pure same _)))

  refines_signals_clause : Refines same (spec.signals_clause limit room less k) (spec.signals_clause limit' room' more k')
  unfolding spec.signals_clause
  refines_signals_clause = chain _ _ _ _ (eat_word w.Signals) (λ x. chain _ _ _ _ (eat m.LeftParen) (λ p. chain _ _ _ _ (eat m.Name) (λ class.
      chain _ _ _ _ refines_optional_name (λ n. refines_signals_behind x p class n))))

  refines_no_classes : Refines same (spec.no_classes limit room less k) (spec.no_classes limit' room' more k')
  unfolding spec.no_classes
  refines_no_classes = chain _ _ _ _ (eat_word w.Nothing) (λ n. refines_pure same _)

  refines_some_classes : Refines same (spec.some_classes limit room less k) (spec.some_classes limit' room' more k')
  unfolding spec.some_classes
  refines_some_classes = chain _ _ _ _ refines_names (λ ws. refines_pure same _)

  refines_signaled_classes : Refines same (spec.signaled_classes limit room less k) (spec.signaled_classes limit' room' more k')
  unfolding spec.signaled_classes
  refines_signaled_classes = chain _ _ _ _ sight (λ word. refines_if same (same_word word w.Nothing) _ _ _ _ refines_no_classes refines_some_classes)

  refines_signals_only_clause : Refines same (spec.signals_only_clause limit room less k) (spec.signals_only_clause limit' room' more k')
  unfolding spec.signals_only_clause
  refines_signals_only_clause = chain _ _ _ _ (eat_word w.SignalsOnly) (λ s. chain _ _ _ _ refines_signaled_classes (λ c. chain _ _ _ _ (eat m.Semicolon) (λ q. refines_pure same _)))

  refines_spec_clause_by : (word : NoteWord) → Refines same (spec.spec_clause_by limit room less k word) (spec.spec_clause_by limit' room' more k' word)
  refines_spec_clause_by w.Ensures = refines_ensures_clause
  refines_spec_clause_by w.Assignable = refines_assignable_clause
  refines_spec_clause_by w.Signals = refines_signals_clause
  refines_spec_clause_by w.SignalsOnly = refines_signals_only_clause
  refines_spec_clause_by _ = refines_refuse same

  refines_spec_clause : Refines same (spec.spec_clause limit room less k) (spec.spec_clause limit' room' more k')
  unfolding spec.spec_clause
  refines_spec_clause = chain _ _ _ _ sight refines_spec_clause_by

  -- ---- cases

  refines_demands : (last : Span) → Refines same (spec.demands limit room less k last) (spec.demands limit' room' more k' last)
  unfolding spec.demands
  refines_demands last = refines_until same _ (by_word (λ word. same_word word w.Requires)) _ _ _ (refines_clause_of w.Requires) limit limit' limits (none_behind last)

  refines_spec_clauses : (heading : NoteWord) (last : Span) → Refines same (spec.spec_clauses limit room less k heading last) (spec.spec_clauses limit' room' more k' heading last)
  unfolding spec.spec_clauses
  refines_spec_clauses heading last = refines_until same _ (by_word (may_begin_clause heading)) _ _ _ refines_spec_clause limit limit' limits (none_behind last)

  refines_case_body : (first : Span) (visibility heading : Option Word) (word : NoteWord) (last : Span)
      → Refines same (spec.case_body limit room less k first visibility heading word last) (spec.case_body limit' room' more k' first visibility heading word last)
  unfolding spec.case_body
  refines_case_body first visibility heading word last = chain _ _ _ _ (refines_demands last) (λ ds. chain _ _ _ _ (refines_spec_clauses word ds.last) (λ ps. refines_pure same _))

  refines_heading : Refines same (spec.heading limit room less k) (spec.heading limit' room' more k')
  unfolding spec.heading
  refines_heading = chain _ _ _ _ sight (λ word. refines_if same (is_heading_word word) _ _ _ _ (refines_take_one same) (refines_refuse same))

  pub refines_case_behind : (visibility : Option Lexeme) → Refines same (spec.case_behind limit room less k visibility) (spec.case_behind limit' room' more k' visibility)
  unfolding spec.case_behind
  refines_case_behind visibility = chain _ _ _ _ sight (λ word. chain _ _ _ _ refines_heading (λ x. refines_case_body
      (spec.span_from visibility x) (spec.optional_word visibility) (Some (word_of x)) word x.span))

  refines_seen_case : Refines same (spec.seen_case limit room less k) (spec.seen_case limit' room' more k')
  unfolding spec.seen_case
  refines_seen_case = chain _ _ _ _ (eat_word w.Visibility) (λ v. refines_case_behind (Some v))

  refines_bare_case : Refines same (spec.bare_case limit room less k) (spec.bare_case limit' room' more k')
  unfolding spec.bare_case
  refines_bare_case = chain _ _ _ _ (refines_peek_span same) (λ first. refines_case_body first None None w.Other first)

  refines_case_by : (word : NoteWord) → Refines same (spec.case_by limit room less k word) (spec.case_by limit' room' more k' word)
  refines_case_by w.Visibility = refines_seen_case
  refines_case_by w.Behavior = refines_case_behind None
  refines_case_by w.NormalBehavior = refines_case_behind None
  refines_case_by w.ExceptionalBehavior = refines_case_behind None
  refines_case_by w.Requires = refines_bare_case
  refines_case_by w.Ensures = refines_bare_case
  refines_case_by w.Assignable = refines_bare_case
  refines_case_by w.Signals = refines_bare_case
  refines_case_by w.SignalsOnly = refines_bare_case
  refines_case_by _ = refines_refuse same

  refines_one_case : Refines same (spec.one_case limit room less k) (spec.one_case limit' room' more k')
  unfolding spec.one_case
  refines_one_case = chain _ _ _ _ sight refines_case_by

  refines_cases : Refines same (spec.cases limit room less k) (spec.cases limit' room' more k')
  unfolding spec.cases
  refines_cases = refines_separated same _ (by_word (λ word. same_word word w.Also)) _ _ _ _ _ (eat_word w.Also) refines_one_case limit limit' limits no_items

  refines_more_cases : (c : Sized trees.Case) → Refines same (spec.more_cases limit room less k c) (spec.more_cases limit' room' more k' c)
  unfolding spec.more_cases
  refines_more_cases c = refines_more_separated same _ (by_word (λ word. same_word word w.Also)) _ _ _ _ _ (eat_word w.Also) refines_one_case limit limit' limits (with_more no_items c)

  -- ---- specifications

  refines_specification_of : (also : Bool) → Refines same (spec.specification_of limit room less k also) (spec.specification_of limit' room' more k' also)
  unfolding spec.specification_of
  refines_specification_of also = chain _ _ _ _ refines_cases (λ cs. refines_pure same _)

  pub refines_specification : Refines same (spec.specification limit room less k) (spec.specification limit' room' more k')
  unfolding spec.specification
  refines_specification = chain _ _ _ _ sight (λ word. refines_if same (same_word word w.Also) _ _ _ _
      (chain _ _ _ _ (eat_word w.Also) (λ s. refines_specification_of true)) (refines_specification_of false))

  pub refines_specification_behind : (v : Lexeme) → Refines same (spec.specification_behind limit room less k v) (spec.specification_behind limit' room' more k' v)
  unfolding spec.specification_behind
  refines_specification_behind v = chain _ _ _ _ (refines_case_behind (Some v)) (λ c. chain _ _ _ _ (refines_more_cases c) (λ cs. refines_pure same _))

  -- ---- members

  refines_modifier : Refines same (spec.modifier limit room less k) (spec.modifier limit' room' more k')
  unfolding spec.modifier
  refines_modifier = chain _ _ _ _ sight (λ word. refines_if same (is_modifier_word word) _ _ _ _ (refines_take_one same) (refines_refuse same))

  pub refines_modifiers : (ws : List Word) → Refines same (spec.modifiers limit room less k ws) (spec.modifiers limit' room' more k' ws)
  unfolding spec.modifiers
  refines_modifiers ws = refines_until same _ (by_word is_modifier_word) _ _ _ refines_modifier limit limit' limits ws

  refines_invariant_behind : (ws : List Word) → Refines same (spec.invariant_behind limit room less k ws) (spec.invariant_behind limit' room' more k' ws)
  unfolding spec.invariant_behind
  refines_invariant_behind ws = chain _ _ _ _ (eat_word w.Invariant) (λ s. chain _ _ _ _ here (λ e. chain _ _ _ _ (eat m.Semicolon) (λ q. refines_pure same _)))

  refines_represents_sign : Refines same (spec.represents_sign limit room less k) (spec.represents_sign limit' room' more k')
  unfolding spec.represents_sign
  refines_represents_sign = chain _ _ _ _ sight (λ word. refines_if same (is_represents_sign word) _ _ _ _ (refines_take_one same) (refines_refuse same))

  refines_represents_behind : (ws : List Word) → Refines same (spec.represents_behind limit room less k ws) (spec.represents_behind limit' room' more k' ws)
  unfolding spec.represents_behind
  refines_represents_behind ws = chain _ _ _ _ (eat_word w.Represents) (λ s. chain _ _ _ _ (eat m.Name) (λ x. chain _ _ _ _ refines_represents_sign (λ op.
      chain _ _ _ _ here (λ e. chain _ _ _ _ (eat m.Semicolon) (λ q. refines_pure same _)))))

  refines_some_value : Refines same (spec.some_value limit room less k) (spec.some_value limit' room' more k')
  unfolding spec.some_value
  refines_some_value = chain _ _ _ _ (eat_word w.Equals) (λ equals. chain _ _ _ _ here (λ e. refines_pure same _))

  refines_value : Refines same (spec.value limit room less k) (spec.value limit' room' more k')
  unfolding spec.value
  refines_value = chain _ _ _ _ sight (λ word. refines_if same (same_word word w.Equals) _ _ _ _ refines_some_value (refines_pure same spec.no_value))

  refines_some_groups : Refines same (spec.some_groups limit room less k) (spec.some_groups limit' room' more k')
  unfolding spec.some_groups
  refines_some_groups = chain _ _ _ _ (eat_word w.In) (λ s. chain _ _ _ _ refines_names (λ ws. chain _ _ _ _ (eat m.Semicolon) (λ q. refines_pure same _)))

  pub refines_groups : (last : Lexeme) → Refines same (spec.groups limit room less k last) (spec.groups limit' room' more k' last)
  unfolding spec.groups
  refines_groups last = chain _ _ _ _ sight (λ word. refines_if same (same_word word w.In) _ _ _ _ refines_some_groups (refines_pure same (spec.ended [] 0 last)))

  refines_field_ending : (ws : List Word) (ty : TypeTree) (y : Lexeme) → Refines same (spec.field_ending limit room less k ws ty y) (spec.field_ending limit' room' more k' ws ty y)
  unfolding spec.field_ending
  refines_field_ending ws ty y = chain _ _ _ _ refines_value (λ v. chain _ _ _ _ (eat m.Semicolon) (λ q. chain _ _ _ _ (refines_groups q) (λ gs. refines_pure same _)))

  refines_field_behind : (ws : List Word) → Refines same (spec.field_behind limit room less k ws) (spec.field_behind limit' room' more k' ws)
  unfolding spec.field_behind
  refines_field_behind ws = chain _ _ _ _ refines_type (λ ty. chain _ _ _ _ (eat m.Name) (λ y. refines_field_ending ws ty y))

  refines_spec_field_behind : (ws : List Word) → Refines same (spec.spec_field_behind limit room less k ws) (spec.spec_field_behind limit' room' more k' ws)
  unfolding spec.spec_field_behind
  refines_spec_field_behind ws = chain _ _ _ _ (eat_word w.Field) (λ x. chain _ _ _ _ (refines_modifiers (with_word ws x)) (λ all. refines_field_behind all))

  refines_form_by : (ws : List Word) (word : NoteWord) → Refines same (spec.form_by limit room less k ws word) (spec.form_by limit' room' more k' ws word)
  refines_form_by ws w.Invariant = refines_if same (spec.allow_invariant ws) _ _ _ _ (refines_invariant_behind ws) (refines_refuse same)
  refines_form_by ws w.Represents = refines_if same (spec.allow_represents ws) _ _ _ _ (refines_represents_behind ws) (refines_refuse same)
  refines_form_by ws w.Field = refines_if same (spec.allow_field ws) _ _ _ _ (refines_spec_field_behind ws) (refines_refuse same)
  refines_form_by ws _ = refines_refuse same

  pub refines_form_behind : (ws : List Word) → Refines same (spec.form_behind limit room less k ws) (spec.form_behind limit' room' more k' ws)
  unfolding spec.form_behind
  refines_form_behind ws = chain _ _ _ _ sight (refines_form_by ws)

  pub refines_member_behind : (first : Span) (ws : List Word) → Refines same (spec.member_behind limit room less k first ws) (spec.member_behind limit' room' more k' first ws)
  unfolding spec.member_behind
  refines_member_behind first ws = chain _ _ _ _ (refines_form_behind ws) (λ f. refines_pure same _)

  pub refines_member_annotation : Refines same (spec.member_annotation limit room less k) (spec.member_annotation limit' room' more k')
  unfolding spec.member_annotation
  refines_member_annotation = chain _ _ _ _ (refines_peek_span same) (λ first. chain _ _ _ _ (refines_modifiers []) (λ ws. refines_member_behind first ws))
