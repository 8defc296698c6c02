-- The parser of statements as a function on lists of lexemes. Each step is decided by the next lexeme alone.
use Rattle.std.specs.Prelude.{ℕ, zero, suc, ◌-◌, Bool, true, false, ◌&&◌, not, if◌then◌else◌, nat_lt, Option, List, codes}
use Rattle.jesc_text.specs.declared.place.Span.{Span}
use Rattle.jesc_ast.specs.declared.word.TypeTree.{TypeTree}
use Rattle.jesc_ast.specs.Lexemes.{Lexeme, join}
use Rattle.jesc_ast.specs.Trees.{Expression, name, member, Receiver, implied, super, on, Clause, clause, Statement, Body, Catch, OptionalStatement}
use Rattle.jesc_ast.specs.Expressions.{span_of, type_tree}
use Rattle.jesc_ast.specs.Statements.{is_target, is_call}
use Rattle.jesc_jml_grammar.specs.declared.mark.Mark.{Mark}
use Rattle.jesc_jml_grammar.specs.declared.mark.Mark.TheVariants as m
use Rattle.jesc_jml_grammar.specs.Steps.{Parser, ◌>>=◌, ◌>>◌, pure, refuse, too_deep, same_mark, peek, expect}
use Rattle.jesc_jml_grammar.specs.Reading.{Parsed, Start, at_first, behind_name, behind_bracket, word_of, leaf, over, grows, type_, arguments, called, grouped, quantified, indexed_behind, longer_by, climb}
use Rattle.jesc_java_grammar.specs.declared.statement_mark.StatementMark.{StatementMark}
use Rattle.jesc_java_grammar.specs.declared.statement_mark.StatementMark.TheVariants as s
use Rattle.jesc_java_grammar.specs.declared.statement_mark.Slot.{Slot}
use Rattle.jesc_java_grammar.specs.declared.statement_mark.Slot.TheVariants as slots
use Rattle.jesc_jml_grammar.specs.ClauseLists.{until}
use Rattle.jesc_jml_grammar.specs.ClauseReading.{Sized, sized, no_items, with_more}
use Rattle.jesc_java_grammar.specs.Lexing.{is_word, is_sign, next_is, see_if, take_if}
use Rattle.jesc_java_grammar.specs.StatementMarks.{peek_statement, is_assign, is_step, is_invariant, allows_branch, allows_loop, begins}
pub use Rattle.jesc_java_grammar.specs.StatementFound.{Piece, ForHead, CatchHead, GhostHead, local_of, assign_of, step_after_of, step_before_of, call_of, finished, part_of, no_part, some_value, no_value, body_of, block_of, branch_of, branch_else_of, while_of, head_of, for_of, return_of, throw_of, break_of, continue_of, empty_of, catch_of, attempt_of, assertion_of, set_of, ghost_of, super_call_of}

-- ---- the parts of one statement

-- `limit` bounds the turns of each list, `room` says how many nodes an expression inside may have from its root to a
-- leaf, and `quantifiers` how many may nest. The inner parser takes the side, the room, the quantifiers, the least
-- strength and the start.
module _ (limit room : ℕ) (expression : Bool → ℕ → ℕ → ℕ → Start → Parser Parsed) (quantifiers : ℕ) where
  -- where there is room for a node inside
  abbrev pub deeper : {A : Type 0} → Parser A → Parser A
  deeper p = if nat_lt 0 room then p else too_deep

  abbrev pub inside : Bool → ℕ → Start → Parser Parsed
  inside note least start = expression note room quantifiers least start

  abbrev pub whole : Bool → Parser Parsed
  whole note = inside note 1 at_first

  abbrev pub type_inside : Bool → Parser TypeTree
  type_inside note = type_ note limit (room - 1) (expression note (room - 1)) quantifiers

  -- ---- calls

  -- names, brackets and calls behind an expression
  unfoldable pub longer : Bool → Parsed → Parser Parsed
  longer note a = climb note limit (room - 1) (expression note (room - 1)) quantifiers 11 room a

  -- What neither a target nor a call is yet has a node above it. In parentheses a bracket behind a name is that of an
  -- index, since no cast begins a target or a call.
  abbrev pub headed_group_by : Bool → Lexeme → Mark → Parser Parsed
  headed_group_by note p m.Forall = quantified note limit (room - 2) (expression note (room - 2)) quantifiers p
  headed_group_by note p m.Exists = quantified note limit (room - 2) (expression note (room - 2)) quantifiers p
  headed_group_by note p m.Name = expect note m.Name >>= (λ x. grouped note limit (room - 2) (expression note (room - 2)) quantifiers p (behind_name x))
  headed_group_by note p _ = grouped note limit (room - 2) (expression note (room - 2)) quantifiers p at_first

  unfoldable pub headed_group : Bool → Parser Parsed
  headed_group note = do
    p ← expect note m.LeftParen
    mark ← peek note
    headed_group_by note p mark

  -- The strength 13 leaves what goes on with it.
  unfoldable pub headed_first : Bool → Parser Parsed
  headed_first note = do
    mark ← peek note
    if same_mark mark m.LeftParen then (if nat_lt 2 room then headed_group note else too_deep) else expression note (room - 1) quantifiers 13 at_first

  unfoldable pub headed : Bool → Parser Parsed
  headed note = do
    a ← headed_first note
    longer note a

  -- ---- targets

  -- a call in a target, which has a node above it, behind the name of the method
  unfoldable pub called_under : Bool → Span → Receiver → ℕ → Lexeme → Parser Parsed
  called_under note first receiver depth x =
      if nat_lt (suc depth) room then called note limit (room - 2) (expression note (room - 2)) quantifiers first receiver depth x else too_deep

  abbrev pub member_called_under : Bool → Parsed → Lexeme → Lexeme → Parser Parsed
  member_called_under note a dot x = called_under note (span_of a.tree) (on a.tree dot.span) a.depth x

  -- behind the name of a member: a call of it, or the member alone
  unfoldable pub target_member : Bool → Parsed → Lexeme → Lexeme → Parser Parsed
  target_member note a dot x = do
    mark ← peek note
    if same_mark mark m.LeftParen then member_called_under note a dot x else pure (over 12 a (member (join (span_of a.tree) x.span) a.tree dot.span (word_of x)))

  unfoldable pub target_dotted : Bool → Parsed → Parser Parsed
  target_dotted note a = do
    dot ← expect note m.Dot
    x ← expect note m.Name
    target_member note a dot x

  abbrev pub target_longer_by : Bool → Parsed → Mark → Parser Parsed
  target_longer_by note a m.Dot = target_dotted note a
  target_longer_by note a mark = longer_by note limit (room - 1) (expression note (room - 1)) quantifiers a mark

  -- names, brackets and calls behind the beginning of a target, in so many turns
  unfoldable pub target_longer : Bool → ℕ → Parsed → Parser Parsed
  target_longer note zero a = too_deep
  target_longer note (suc n) a = do
    mark ← peek note
    if grows a.strength mark 11 then (if nat_lt a.depth room then (target_longer_by note a mark >>= target_longer note n) else too_deep) else pure a

  -- behind the name that a target begins with: a call, or the name alone
  unfoldable pub target_name : Bool → Lexeme → Parser Parsed
  target_name note x = do
    mark ← peek note
    if same_mark mark m.LeftParen then called_under note x.span implied 0 x else pure (leaf (name x.span x.text))

  abbrev pub target_index : Bool → Lexeme → Lexeme → Parser Parsed
  target_index note x p = indexed_behind note limit (room - 1) (expression note (room - 1)) quantifiers (leaf (name x.span x.text)) p

  abbrev pub target_begun : Bool → Start → Parser Parsed
  target_begun note at_first = refuse
  target_begun note (behind_name x) = target_name note x
  target_begun note (behind_bracket x p) = target_index note x p

  unfoldable pub target_behind : Bool → Start → Parser Parsed
  target_behind note start = do
    a ← target_begun note start
    target_longer note room a

  -- behind the first name of a target, or a bracket behind that
  abbrev pub target_from : Bool → Start → Parser Parsed
  target_from note start = deeper (target_behind note start)

  unfoldable pub headed_target : Bool → Parser Parsed
  headed_target note = do
    a ← headed_first note
    target_longer note room a

  unfoldable pub named_target : Bool → Parser Parsed
  named_target note = do
    x ← expect note m.Name
    target_from note (behind_name x)

  abbrev pub roomy_target : Bool → Parser Parsed
  roomy_target note = deeper (named_target note)

  abbrev pub postfix_by : Bool → Mark → Parser Parsed
  postfix_by note m.Name = roomy_target note
  postfix_by note _ = headed_target note

  unfoldable pub postfix : Bool → Parser Parsed
  postfix note = do
    mark ← peek note
    postfix_by note mark

  unfoldable pub target : Bool → Parser Parsed
  target note = do
    e ← postfix note
    if is_target e.tree then pure e else refuse

  -- ---- assignments and calls

  unfoldable pub assigned : Parsed → Parser Piece
  assigned a = do
    op ← take_if is_assign
    e ← whole false
    pure (assign_of a op e)

  unfoldable pub stepped : Parsed → Parser Piece
  stepped a = do
    op ← take_if is_step
    pure (step_after_of a op)

  abbrev pub changed_by : Parsed → StatementMark → Parser Piece
  changed_by a s.Assign = assigned a
  changed_by a s.Step = stepped a
  changed_by a _ = refuse

  unfoldable pub changed : Parsed → Parser Piece
  changed a = do
    mark ← peek_statement
    changed_by a mark

  -- behind an expression; with `calls` a call may stand alone
  unfoldable pub acted : Bool → Parsed → Parser Piece
  acted calls a = if is_target a.tree then changed a else if calls && is_call a.tree then pure (call_of a) else refuse

  unfoldable pub stepped_first : Parser Piece
  stepped_first = do
    op ← take_if is_step
    a ← target false
    pure (step_before_of op a)

  -- ---- locals

  -- behind the type of a local
  unfoldable pub named_local : Span → Bool → TypeTree → Parser Piece
  named_local first is_final t = do
    x ← expect false m.Name
    q ← take_if (is_sign (codes "=") false)
    e ← whole false
    pure (local_of first is_final t x q e)

  unfoldable pub typed_local : Parser Piece
  typed_local = do
    t ← type_inside false
    named_local t.span false t

  unfoldable pub final_local : Parser Piece
  final_local = do
    f ← take_if (is_word (codes "final") false)
    t ← type_inside false
    named_local f.span true t

  -- a local of array type, behind a name and a bracket
  unfoldable pub array_local : Lexeme → Parser Piece
  array_local x = do
    q ← expect false m.RightBracket
    named_local x.span false (type_tree (join x.span q.span) x.text true)

  -- ---- simple statements; with `locals` and `calls` it may be a local, or a call

  -- what may be a target, or with `calls` a call
  abbrev pub act_from : Bool → Start → Parser Parsed
  act_from calls start = if calls then inside false 11 start else target_from false start

  unfoldable pub acted_from : Bool → Start → Parser Piece
  acted_from calls start = do
    a ← act_from calls start
    acted calls a

  -- behind a name and a bracket, where a local may stand
  unfoldable pub bracketed : Bool → Lexeme → Parser Piece
  bracketed calls x = do
    p ← expect false m.LeftBracket
    mark ← peek false
    if same_mark mark m.RightBracket then array_local x else acted_from calls (behind_bracket x p)

  -- a local whose type is this name
  abbrev pub plain_local : Lexeme → Parser Piece
  plain_local x = named_local x.span false (type_tree x.span x.text false)

  abbrev pub named_by : Bool → Bool → Lexeme → Mark → Parser Piece
  named_by true calls x m.Name = plain_local x
  named_by true calls x m.LeftBracket = bracketed calls x
  named_by locals calls x _ = acted_from calls (behind_name x)

  unfoldable pub named : Bool → Bool → Parser Piece
  named locals calls = do
    x ← expect false m.Name
    mark ← peek false
    named_by locals calls x mark

  abbrev pub act_at_head : Bool → Parser Parsed
  act_at_head calls = if calls then headed false else headed_target false

  unfoldable pub headed_act : Bool → Parser Piece
  headed_act calls = do
    a ← act_at_head calls
    acted calls a

  abbrev pub roomy_named : Bool → Bool → Parser Piece
  roomy_named locals calls = deeper (named locals calls)

  abbrev pub roomy_local : Parser Piece
  roomy_local = deeper typed_local

  abbrev pub plain_by : Bool → Bool → Mark → Parser Piece
  plain_by locals calls m.Name = roomy_named locals calls
  plain_by true calls m.Int = roomy_local
  plain_by true calls m.Long = roomy_local
  plain_by true calls m.Boolean = roomy_local
  plain_by locals true m.Super = acted_from true at_first
  plain_by locals calls _ = headed_act calls

  unfoldable pub plain : Bool → Bool → Parser Piece
  plain locals calls = do
    mark ← peek false
    plain_by locals calls mark

  abbrev pub roomy_final : Parser Piece
  roomy_final = deeper final_local

  abbrev pub roomy_step : Parser Piece
  roomy_step = deeper stepped_first

  abbrev pub simple_by : Bool → Bool → StatementMark → Parser Piece
  simple_by true calls s.Final = roomy_final
  simple_by locals calls s.Step = roomy_step
  simple_by locals calls s.Other = plain locals calls
  simple_by locals calls _ = refuse

  unfoldable pub simple : Bool → Bool → Parser Piece
  simple locals calls = do
    mark ← peek_statement
    simple_by locals calls mark

  unfoldable pub simple_statement : Parser (Sized Statement)
  simple_statement = do
    piece ← simple true true
    p ← expect false m.Semicolon
    pure (finished piece p)

  -- ---- `super` at the beginning of a constructor's body

  -- a call of a constructor, behind `super`
  unfoldable pub super_constructed : Lexeme → Parser (Sized Statement)
  super_constructed r = do
    expect false m.LeftParen
    es ← arguments false limit room (expression false room) quantifiers
    expect false m.RightParen
    p ← expect false m.Semicolon
    pure (super_call_of r es p)

  unfoldable pub super_method : Lexeme → Parser Parsed
  super_method r = do
    expect false m.Dot
    x ← expect false m.Name
    called false limit (room - 1) (expression false (room - 1)) quantifiers r.span super 0 x

  -- a call of a method, behind `super`, and what goes on with it
  unfoldable pub super_called_on : Lexeme → Parser Piece
  super_called_on r = do
    a ← super_method r
    e ← longer false a
    acted true e

  unfoldable pub super_acted : Lexeme → Parser (Sized Statement)
  super_acted r = do
    piece ← super_called_on r
    p ← expect false m.Semicolon
    pure (finished piece p)

  abbrev pub roomy_super : Lexeme → Parser (Sized Statement)
  roomy_super r = deeper (super_acted r)

  abbrev pub super_by : Lexeme → Mark → Parser (Sized Statement)
  super_by r m.LeftParen = super_constructed r
  super_by r m.Dot = roomy_super r
  super_by r _ = refuse

  unfoldable pub super_statement : Parser (Sized Statement)
  super_statement = do
    r ← expect false m.Super
    mark ← peek false
    super_by r mark

  -- ---- values and clauses

  -- a value, or nothing before this mark
  unfoldable pub optional_value : Mark → Parser (Sized (Option Expression))
  optional_value end = do
    mark ← peek false
    if same_mark mark end then pure no_value else whole false >>= (λ e. pure (some_value e))

  -- an expression in parentheses
  unfoldable pub condition : Parser Parsed
  condition = do
    expect false m.LeftParen
    e ← whole false
    expect false m.RightParen
    pure e

  unfoldable pub invariant : Parser (Sized Clause)
  invariant = do
    x ← take_if is_invariant
    e ← whole true
    expect true m.Semicolon
    pure (sized (clause (word_of x) e.tree) e.depth)

  unfoldable pub invariants : Parser (Sized (List Clause))
  invariants = until (next_is is_invariant) invariant with_more limit no_items

  -- ---- statements of one word

  unfoldable pub returned : Parser (Sized Statement)
  returned = do
    r ← take_if (is_word (codes "return") false)
    e ← optional_value m.Semicolon
    p ← expect false m.Semicolon
    pure (return_of r e p)

  unfoldable pub thrown : Parser (Sized Statement)
  thrown = do
    r ← take_if (is_word (codes "throw") false)
    e ← whole false
    p ← expect false m.Semicolon
    pure (throw_of r e p)

  unfoldable pub broken : Parser (Sized Statement)
  broken = do
    r ← take_if (is_word (codes "break") false)
    p ← expect false m.Semicolon
    pure (break_of r p)

  unfoldable pub continued : Parser (Sized Statement)
  continued = do
    r ← take_if (is_word (codes "continue") false)
    p ← expect false m.Semicolon
    pure (continue_of r p)

  unfoldable pub nothing : Parser (Sized Statement)
  nothing = do
    p ← expect false m.Semicolon
    pure (empty_of p)

  -- ---- statements of annotations

  unfoldable pub asserted : Parser (Sized Statement)
  asserted = do
    r ← take_if (is_word (codes "assert") true)
    e ← whole true
    p ← expect true m.Semicolon
    pure (assertion_of r e p)

  unfoldable pub set_ : Parser (Sized Statement)
  set_ = do
    r ← take_if (is_word (codes "set") true)
    a ← target true
    q ← take_if (is_sign (codes "=") true)
    e ← whole true
    p ← expect true m.Semicolon
    pure (set_of r a q e p)

  unfoldable pub ghost_head : Parser GhostHead
  ghost_head = do
    r ← take_if (is_word (codes "ghost") true)
    t ← type_inside true
    x ← expect true m.Name
    q ← take_if (is_sign (codes "=") true)
    pure (record { first = r; ty = t; name = x; equals = q })

  unfoldable pub ghost_ : Parser (Sized Statement)
  ghost_ = do
    head ← ghost_head
    e ← whole true
    p ← expect true m.Semicolon
    pure (ghost_of head e p)

  -- ---- the head of a `for`, whose parts are statements inside

  unfoldable pub for_first : Parser (Sized OptionalStatement)
  for_first = do
    mark ← peek false
    if same_mark mark m.Semicolon then pure no_part else simple true false >>= (λ piece. pure (part_of piece))

  unfoldable pub for_last : Parser (Sized OptionalStatement)
  for_last = do
    mark ← peek false
    if same_mark mark m.RightParen then pure no_part else simple false true >>= (λ piece. pure (part_of piece))

-- ---- statements

-- The inner parser of statements reads those that have as much room as the expressions inside.
module _ (limit room : ℕ) (expression : Bool → ℕ → ℕ → ℕ → Start → Parser Parsed) (quantifiers : ℕ) (statement : Slot → Parser (Sized Statement)) where
  abbrev pub deeper_statement : Parser (Sized Statement) → Parser (Sized Statement)
  deeper_statement p = deeper limit room expression quantifiers p

  abbrev pub value : Bool → Parser Parsed
  value note = whole limit room expression quantifiers note

  -- ---- bodies

  -- up to a brace, behind these
  unfoldable pub statements : Sized (List Statement) → Parser (Sized (List Statement))
  statements first = until (λ ts. not (next_is (is_sign (codes "}") false) ts)) (statement slots.Any) with_more limit first

  -- the rest of a body, behind these statements
  unfoldable pub body_rest : Sized (List Statement) → Parser (Sized Body)
  body_rest first = do
    ss ← statements first
    q ← take_if (is_sign (codes "}") false)
    pure (body_of ss q)

  unfoldable pub braced : Parser (Sized Body)
  braced = do
    take_if (is_sign (codes "{") false)
    body_rest no_items

  unfoldable pub block_ : Parser (Sized Statement)
  block_ = do
    p ← take_if (is_sign (codes "{") false)
    b ← body_rest no_items
    pure (block_of p b)

  -- a constructor's body, whose first statement may begin with `super`
  unfoldable pub super_first : Parser (Sized Body)
  super_first = do
    t ← super_statement limit (room - 1) expression quantifiers
    body_rest (with_more no_items t)

  unfoldable pub constructor_body : Parser (Sized Body)
  constructor_body = do
    take_if (is_sign (codes "{") false)
    mark ← peek false
    if same_mark mark m.Super then deeper limit room expression quantifiers super_first else body_rest no_items

  -- ---- branches

  unfoldable pub otherwise : Lexeme → Parsed → Sized Statement → Parser (Sized Statement)
  otherwise r test first = do
    take_if (is_word (codes "else") false)
    other ← statement slots.Else
    pure (branch_else_of r test first other)

  unfoldable pub branch_behind : Lexeme → Parsed → Sized Statement → Parser (Sized Statement)
  branch_behind r test first = do
    other ← see_if (is_word (codes "else") false)
    if other then otherwise r test first else pure (branch_of r test first)

  unfoldable pub branch_ : Parser (Sized Statement)
  branch_ = do
    r ← take_if (is_word (codes "if") false)
    test ← condition limit room expression quantifiers
    first ← statement slots.Then
    branch_behind r test first

  -- ---- loops

  unfoldable pub while_ : Sized (List Clause) → Parser (Sized Statement)
  while_ cs = do
    r ← take_if (is_word (codes "while") false)
    test ← condition limit room expression quantifiers
    turn ← statement slots.Then
    pure (while_of cs r test turn)

  unfoldable pub for_head : Parser ForHead
  for_head = do
    expect false m.LeftParen
    first ← for_first limit (room - 1) expression quantifiers
    expect false m.Semicolon
    test ← optional_value limit room expression quantifiers m.Semicolon
    expect false m.Semicolon
    last ← for_last limit (room - 1) expression quantifiers
    expect false m.RightParen
    pure (head_of first test last)

  unfoldable pub for_ : Sized (List Clause) → Parser (Sized Statement)
  for_ cs = do
    r ← take_if (is_word (codes "for") false)
    head ← for_head
    turn ← statement slots.Then
    pure (for_of cs r head turn)

  abbrev pub loop_by : Sized (List Clause) → StatementMark → Parser (Sized Statement)
  loop_by cs s.While = while_ cs
  loop_by cs s.For = for_ cs
  loop_by cs _ = refuse

  unfoldable pub loop_ : Parser (Sized Statement)
  loop_ = do
    cs ← invariants limit room expression quantifiers
    mark ← peek_statement
    loop_by cs mark

  -- ---- `try`

  -- whether `final` stands there
  unfoldable pub optional_final : Parser Bool
  optional_final = do
    there ← see_if (is_word (codes "final") false)
    if there then take_if (is_word (codes "final") false) >> pure true else pure false

  unfoldable pub catch_head : Parser CatchHead
  catch_head = do
    take_if (is_word (codes "catch") false)
    expect false m.LeftParen
    is_final ← optional_final
    class ← expect false m.Name
    parameter ← expect false m.Name
    expect false m.RightParen
    pure (record { is_final = is_final; class = class; name = parameter })

  unfoldable pub catch_ : Parser (Sized Catch)
  catch_ = do
    head ← catch_head
    b ← braced
    pure (catch_of head b)

  -- behind these
  unfoldable pub catches : Sized (List Catch) → Parser (Sized (List Catch))
  catches first = until (next_is (is_word (codes "catch") false)) catch_ with_more limit first

  unfoldable pub some_catches : Parser (Sized (List Catch))
  some_catches = do
    c ← catch_
    catches (with_more no_items c)

  unfoldable pub attempt_ : Parser (Sized Statement)
  attempt_ = do
    r ← take_if (is_word (codes "try") false)
    b ← braced
    cs ← some_catches
    pure (attempt_of r b cs)

  -- ---- any statement

  abbrev pub looping : Slot → Parser (Sized Statement)
  looping slot = if allows_loop slot then deeper_statement loop_ else refuse

  -- where no mark of a statement stands
  abbrev pub other_by : Mark → Parser (Sized Statement)
  other_by m.Semicolon = nothing limit room expression quantifiers
  other_by _ = simple_statement limit room expression quantifiers

  unfoldable pub other_statement : Parser (Sized Statement)
  other_statement = do
    mark ← peek false
    other_by mark

  abbrev pub statement_by : Slot → StatementMark → Parser (Sized Statement)
  statement_by slot s.LeftBrace = block_
  statement_by slot s.If = if allows_branch slot then deeper_statement branch_ else refuse
  statement_by slot s.While = looping slot
  statement_by slot s.For = looping slot
  statement_by slot s.Invariant = looping slot
  statement_by slot s.Return = returned limit room expression quantifiers
  statement_by slot s.Throw = deeper_statement (thrown limit room expression quantifiers)
  statement_by slot s.Break = broken limit room expression quantifiers
  statement_by slot s.Continue = continued limit room expression quantifiers
  statement_by slot s.Try = attempt_
  statement_by slot s.Assert = deeper_statement (asserted limit room expression quantifiers)
  statement_by slot s.Set = deeper_statement (set_ limit room expression quantifiers)
  statement_by slot s.Ghost = deeper_statement (ghost_ limit room expression quantifiers)
  statement_by slot s.Final = simple_statement limit room expression quantifiers
  statement_by slot s.Step = simple_statement limit room expression quantifiers
  statement_by slot s.Other = other_statement
  statement_by slot _ = refuse

  unfoldable pub begun : Slot → Parser (Sized Statement)
  begun slot = do
    mark ← peek_statement
    statement_by slot mark

-- where no statement has room
unfoldable pub no_room : Slot → Parser (Sized Statement)
no_room slot = do
  mark ← peek_statement
  plain_mark ← peek false
  if begins slot mark plain_mark then too_deep else refuse

-- a statement of so many nodes from its root to a leaf
unfoldable pub statement : ℕ → (Bool → ℕ → ℕ → ℕ → Start → Parser Parsed) → ℕ → ℕ → Slot → Parser (Sized Statement)
statement limit expression quantifiers zero slot = no_room slot
statement limit expression quantifiers (suc room) slot = begun limit room expression quantifiers (statement limit expression quantifiers room) slot
