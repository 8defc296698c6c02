-- The parser of methods' specifications, and of members that stand in annotations, as a function on lists of lexemes.
-- Each step is decided by the next lexeme alone.
use Rattle.std.specs.Prelude.{ℕ, zero, suc, Bool, true, false, if◌then◌else◌, nat_lt, nat_le, Option, Some, None, List, [], ◌∷◌}
use Rattle.jesc_text.specs.declared.place.Span.{Span}
use Rattle.jesc_ast.specs.declared.word.Word.{Word}
use Rattle.jesc_ast.specs.declared.word.TypeTree.{TypeTree}
use Rattle.jesc_ast.specs.Lexemes.{Lexeme}
use Rattle.jesc_ast.specs.Trees.{Expression, name, Clause, clause}
use Rattle.jesc_ast.specs.SpecTrees as trees
use Rattle.jesc_ast.specs.SpecTrees.{StoreForm, Store, store, Promise, Case, Specification}
use Rattle.jesc_ast.specs.FileTrees as members
use Rattle.jesc_ast.specs.FileTrees.{MemberForm, Member}
use Rattle.jesc_ast.specs.Specifications.{first_span}
use Rattle.jesc_jml_grammar.specs.declared.mark.Mark.{Mark}
use Rattle.jesc_jml_grammar.specs.declared.mark.Mark.TheVariants as m
use Rattle.jesc_jml_grammar.specs.declared.note_word.NoteWord.{NoteWord}
use Rattle.jesc_jml_grammar.specs.declared.note_word.NoteWord.TheVariants as w
use Rattle.jesc_jml_grammar.specs.Steps.{Parser, ◌>>=◌, ◌>>◌, pure, refuse, too_deep, too_long, same_mark, peek, take_one, expect}
use Rattle.jesc_jml_grammar.specs.Reading as reading
use Rattle.jesc_jml_grammar.specs.Reading.{Parsed, Start, at_first, word_of, leaf}
use Rattle.jesc_jml_grammar.specs.ClauseMarks.{same_word, word_at, peek_word, expect_word, at_word, at_mark, peek_span, is_heading_word, may_begin_clause, is_modifier_word, is_represents_sign}
use Rattle.jesc_jml_grammar.specs.ClauseLists.{until, separated, more_separated}
pub use Rattle.jesc_jml_grammar.specs.ClauseFound.{Sized, Ended, sized, ended, no_items, with_more, none_behind, with_ended, with_word, Path, closed, store_of, StoreStep, star_of, all_of, range_of, member_path, signals_of, optional_word, span_from, case_tree, spec_of, Value, no_value, value_of, field_of, member_tree, is_visibility_word, is_instance_word, allow_invariant, allow_represents, allow_field, first_word, plain, with_index, goes_on, is_read}

-- ---- the grammar

-- `limit` bounds the turns of each list, `room` says how many nodes an expression may have from its root to a leaf,
-- and `quantifiers` how many may nest in it. The inner parser takes the quantifiers, the least strength and the start.
module _ (limit room : ℕ) (inner : ℕ → ℕ → Start → Parser Parsed) (quantifiers : ℕ) where
  abbrev pub expression : Parser Parsed
  expression = inner quantifiers 1 at_first

  unfoldable pub names : Parser (List Word)
  names = separated (at_mark m.Comma) (expect true m.Comma) (expect true m.Name) with_word limit []

  -- ---- stores

  unfoldable pub path_name : Parser Path
  path_name = do
    x ← expect true m.Name
    pure (plain (leaf (name x.span x.text)))

  unfoldable pub path_this : Parser Path
  path_this = do
    x ← expect true m.This
    pure (plain (leaf (reading.literal_of true limit room inner quantifiers m.This x)))

  abbrev pub path_by : Mark → Parser Path
  path_by m.Name = path_name
  path_by m.This = path_this
  path_by _ = refuse

  abbrev pub path_within : Mark → Parser Path
  path_within mark = if nat_lt 0 room then path_by mark else too_deep

  abbrev pub opens_path : Mark → Bool
  opens_path m.Name = true
  opens_path m.This = true
  opens_path _ = false

  -- what a path begins with
  unfoldable pub path_first : Parser Path
  path_first = do
    mark ← peek true
    if opens_path mark then path_within mark else refuse

  unfoldable pub starred : Parsed → Parser StoreStep
  starred e = do
    q ← expect true m.Times
    pure (is_read (star_of e q))

  unfoldable pub path_member : Parsed → Lexeme → Parser StoreStep
  path_member e dot = do
    x ← expect true m.Name
    pure (goes_on (member_path e dot x))

  abbrev pub behind_dot_by : Parsed → Lexeme → Mark → Parser StoreStep
  behind_dot_by e dot m.Times = starred e
  behind_dot_by e dot m.Name = if nat_lt e.depth room then path_member e dot else too_deep
  behind_dot_by e dot _ = refuse

  unfoldable pub path_dotted : Parsed → Parser StoreStep
  path_dotted e = do
    dot ← expect true m.Dot
    mark ← peek true
    behind_dot_by e dot mark

  unfoldable pub all_starred : Parsed → Parser StoreStep
  all_starred e = do
    expect true m.Times
    q ← expect true m.RightBracket
    pure (is_read (all_of e q))

  -- behind the first bound of a range
  unfoldable pub ranged : Parsed → Parsed → Parser StoreStep
  ranged e i = do
    expect_word w.Range
    j ← expression
    q ← expect true m.RightBracket
    pure (is_read (range_of e i j q))

  unfoldable pub path_index : Parsed → Lexeme → Parsed → Parser StoreStep
  path_index e p i = do
    q ← expect true m.RightBracket
    pure (goes_on (with_index e p i q))

  -- an index, or the bounds of a range
  unfoldable pub bounded_by : Parsed → Lexeme → Parser StoreStep
  bounded_by e p = do
    i ← expression
    word ← peek_word
    if same_word word w.Range then ranged e i else path_index e p i

  unfoldable pub path_bracketed : Parsed → Parser StoreStep
  path_bracketed e = do
    p ← expect true m.LeftBracket
    mark ← peek true
    if same_mark mark m.Times then all_starred e else bounded_by e p

  -- where the path with its last index is within the room
  abbrev pub longer : Parsed → Parser StoreStep → Parser StoreStep
  longer e p = if nat_le e.depth room then p else too_deep

  abbrev pub store_step_by : Path → Mark → Parser StoreStep
  store_step_by path m.Dot = longer (closed path) (path_dotted (closed path))
  store_step_by path m.LeftBracket = longer (closed path) (path_bracketed (closed path))
  store_step_by path _ = pure (is_read (store_of path))

  unfoldable pub store_step : Path → Parser StoreStep
  store_step path = peek true >>= store_step_by path

  abbrev pub after_step : (Path → Parser (Sized Store)) → StoreStep → Parser (Sized Store)
  after_step next (goes_on path) = next path
  after_step next (is_read t) = pure t

  unfoldable pub store_behind : ℕ → Path → Parser (Sized Store)
  store_behind zero path = too_long
  store_behind (suc n) path = store_step path >>= after_step (store_behind n)

  unfoldable pub one_store : Parser (Sized Store)
  one_store = path_first >>= store_behind limit

  unfoldable pub some_stores : Parser (Sized (List Store))
  some_stores = separated (at_mark m.Comma) (expect true m.Comma) one_store with_more limit no_items

  -- `\nothing` or `\everything`
  unfoldable pub word_store : NoteWord → StoreForm → Parser (Sized (List Store))
  word_store word form = do
    x ← expect_word word
    pure (sized (store x.span form ∷ []) 0)

  abbrev pub stores_by : NoteWord → Parser (Sized (List Store))
  stores_by w.Nothing = word_store w.Nothing trees.nothing
  stores_by w.Everything = word_store w.Everything trees.everything
  stores_by _ = some_stores

  unfoldable pub stores : Parser (Sized (List Store))
  stores = peek_word >>= stores_by

  -- ---- clauses

  -- a word, an expression and a semicolon
  unfoldable pub clause_of : NoteWord → Parser (Ended Clause)
  clause_of word = do
    x ← expect_word word
    e ← expression
    q ← expect true m.Semicolon
    pure (ended (clause (word_of x) e.tree) e.depth q)

  unfoldable pub ensures_clause : Parser (Ended Promise)
  ensures_clause = do
    c ← clause_of w.Ensures
    pure (record { tree = trees.promises c.tree; depth = c.depth; last = c.last })

  unfoldable pub assignable_clause : Parser (Ended Promise)
  assignable_clause = do
    x ← expect_word w.Assignable
    ts ← stores
    q ← expect true m.Semicolon
    pure (ended (trees.assigns (word_of x) ts.tree) ts.depth q)

  unfoldable pub optional_name : Parser (Option Word)
  optional_name = do
    mark ← peek true
    if same_mark mark m.Name then (do x ← expect true m.Name; pure (Some (word_of x))) else pure None

  -- before a semicolon
  unfoldable pub optional_expression : Parser (Sized (Option Expression))
  optional_expression = do
    mark ← peek true
    if same_mark mark m.Semicolon then pure (sized None 0) else (do e ← expression; pure (sized (Some e.tree) e.depth))

  unfoldable pub signals_behind : Lexeme → Lexeme → Lexeme → Option Word → Parser (Ended Promise)
  signals_behind x p class n = do
    expect true m.RightParen
    e ← optional_expression
    q ← expect true m.Semicolon
    pure (signals_of x p class n e q)

  unfoldable pub signals_clause : Parser (Ended Promise)
  signals_clause = do
    x ← expect_word w.Signals
    p ← expect true m.LeftParen
    class ← expect true m.Name
    n ← optional_name
    signals_behind x p class n

  unfoldable pub no_classes : Parser Promise
  no_classes = do
    n ← expect_word w.Nothing
    pure (trees.signals_only n.span [])

  unfoldable pub some_classes : Parser Promise
  some_classes = do
    ws ← names
    pure (trees.signals_only (first_span ws) ws)

  unfoldable pub signaled_classes : Parser Promise
  signaled_classes = do
    word ← peek_word
    if same_word word w.Nothing then no_classes else some_classes

  unfoldable pub signals_only_clause : Parser (Ended Promise)
  signals_only_clause = do
    expect_word w.SignalsOnly
    c ← signaled_classes
    q ← expect true m.Semicolon
    pure (ended c 0 q)

  abbrev pub spec_clause_by : NoteWord → Parser (Ended Promise)
  spec_clause_by w.Ensures = ensures_clause
  spec_clause_by w.Assignable = assignable_clause
  spec_clause_by w.Signals = signals_clause
  spec_clause_by w.SignalsOnly = signals_only_clause
  spec_clause_by _ = refuse

  unfoldable pub spec_clause : Parser (Ended Promise)
  spec_clause = peek_word >>= spec_clause_by

  -- ---- cases

  -- behind this lexeme
  unfoldable pub demands : Span → Parser (Ended (List Clause))
  demands last = until (at_word w.Requires) (clause_of w.Requires) with_ended limit (none_behind last)

  unfoldable pub spec_clauses : NoteWord → Span → Parser (Ended (List Promise))
  spec_clauses heading last = until (λ ts. may_begin_clause heading (word_at ts)) spec_clause with_ended limit (none_behind last)

  -- behind what a case begins with, of which these are the first and the last span
  unfoldable pub case_body : Span → Option Word → Option Word → NoteWord → Span → Parser (Sized Case)
  case_body first visibility heading word last = do
    ds ← demands last
    ps ← spec_clauses word ds.last
    pure (case_tree first visibility heading ds ps)

  unfoldable pub heading : Parser Lexeme
  heading = do
    word ← peek_word
    if is_heading_word word then take_one else refuse

  -- a case with a heading, behind its visibility
  unfoldable pub case_behind : Option Lexeme → Parser (Sized Case)
  case_behind visibility = do
    word ← peek_word
    x ← heading
    case_body (span_from visibility x) (optional_word visibility) (Some (word_of x)) word x.span

  unfoldable pub seen_case : Parser (Sized Case)
  seen_case = do
    v ← expect_word w.Visibility
    case_behind (Some v)

  -- a case without a heading
  unfoldable pub bare_case : Parser (Sized Case)
  bare_case = do
    first ← peek_span
    case_body first None None w.Other first

  abbrev pub case_by : NoteWord → Parser (Sized Case)
  case_by w.Visibility = seen_case
  case_by w.Behavior = case_behind None
  case_by w.NormalBehavior = case_behind None
  case_by w.ExceptionalBehavior = case_behind None
  case_by w.Requires = bare_case
  case_by w.Ensures = bare_case
  case_by w.Assignable = bare_case
  case_by w.Signals = bare_case
  case_by w.SignalsOnly = bare_case
  case_by _ = refuse

  unfoldable pub one_case : Parser (Sized Case)
  one_case = peek_word >>= case_by

  unfoldable pub cases : Parser (Sized (List Case))
  cases = separated (at_word w.Also) (expect_word w.Also) one_case with_more limit no_items

  unfoldable pub more_cases : Sized Case → Parser (Sized (List Case))
  more_cases c = more_separated (at_word w.Also) (expect_word w.Also) one_case with_more limit (with_more no_items c)

  -- ---- specifications

  unfoldable pub specification_of : Bool → Parser (Sized Specification)
  specification_of also = do
    cs ← cases
    pure (spec_of also cs)

  -- the longest specification of a method
  unfoldable pub specification : Parser (Sized Specification)
  specification = do
    word ← peek_word
    if same_word word w.Also then expect_word w.Also >> specification_of true else specification_of false

  -- behind the visibility that it begins with
  unfoldable pub specification_behind : Lexeme → Parser (Sized Specification)
  specification_behind visibility = do
    c ← case_behind (Some visibility)
    cs ← more_cases c
    pure (spec_of false cs)

  -- ---- members

  unfoldable pub modifier : Parser Lexeme
  modifier = do
    word ← peek_word
    if is_modifier_word word then take_one else refuse

  -- behind these words
  unfoldable pub modifiers : List Word → Parser (List Word)
  modifiers ws = until (λ ts. is_modifier_word (word_at ts)) modifier with_word limit ws

  unfoldable pub invariant_behind : List Word → Parser (Ended MemberForm)
  invariant_behind ws = do
    expect_word w.Invariant
    e ← expression
    q ← expect true m.Semicolon
    pure (ended (members.class_invariant ws e.tree) e.depth q)

  unfoldable pub represents_sign : Parser Lexeme
  represents_sign = do
    word ← peek_word
    if is_represents_sign word then take_one else refuse

  unfoldable pub represents_behind : List Word → Parser (Ended MemberForm)
  represents_behind ws = do
    expect_word w.Represents
    x ← expect true m.Name
    op ← represents_sign
    e ← expression
    q ← expect true m.Semicolon
    pure (ended (members.represents (first_word ws) (word_of x) (word_of op) e.tree) e.depth q)

  unfoldable pub some_value : Parser Value
  some_value = do
    equals ← expect_word w.Equals
    e ← expression
    pure (value_of equals e)

  unfoldable pub value : Parser Value
  value = do
    word ← peek_word
    if same_word word w.Equals then some_value else pure no_value

  unfoldable pub some_groups : Parser (Ended (List Word))
  some_groups = do
    expect_word w.In
    ws ← names
    q ← expect true m.Semicolon
    pure (ended ws 0 q)

  -- behind the semicolon of a field
  unfoldable pub groups : Lexeme → Parser (Ended (List Word))
  groups last = do
    word ← peek_word
    if same_word word w.In then some_groups else pure (ended [] 0 last)

  -- behind the type and the name
  unfoldable pub field_ending : List Word → TypeTree → Lexeme → Parser (Ended MemberForm)
  field_ending ws ty y = do
    v ← value
    q ← expect true m.Semicolon
    gs ← groups q
    pure (field_of ws ty y v gs)

  -- behind all modifiers
  unfoldable pub field_behind : List Word → Parser (Ended MemberForm)
  field_behind ws = do
    ty ← reading.type_ true limit room inner quantifiers
    y ← expect true m.Name
    field_ending ws ty y

  unfoldable pub spec_field_behind : List Word → Parser (Ended MemberForm)
  spec_field_behind ws = do
    x ← expect_word w.Field
    all ← modifiers (with_word ws x)
    field_behind all

  abbrev pub form_by : List Word → NoteWord → Parser (Ended MemberForm)
  form_by ws w.Invariant = if allow_invariant ws then invariant_behind ws else refuse
  form_by ws w.Represents = if allow_represents ws then represents_behind ws else refuse
  form_by ws w.Field = if allow_field ws then spec_field_behind ws else refuse
  form_by ws _ = refuse

  unfoldable pub form_behind : List Word → Parser (Ended MemberForm)
  form_behind ws = peek_word >>= form_by ws

  -- behind modifiers that were read before, with the span of the first lexeme
  unfoldable pub member_behind : Span → List Word → Parser (Sized Member)
  member_behind first ws = do
    f ← form_behind ws
    pure (member_tree first f)

  -- the longest invariant, represents clause or specification field
  unfoldable pub member_annotation : Parser (Sized Member)
  member_annotation = do
    first ← peek_span
    ws ← modifiers []
    member_behind first ws
