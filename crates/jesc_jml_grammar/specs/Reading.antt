-- The parser of expressions as a function on lists of lexemes. Each step is decided by the next lexeme alone.
use Rattle.std.specs.Prelude.{ℕ, zero, suc, Bool, true, false, ◌&&◌, if◌then◌else◌, nat_lt, nat_le, ◌-◌}
use Rattle.jesc_text.specs.declared.place.Span.{Span}
use Rattle.jesc_ast.specs.declared.word.TypeTree.{TypeTree}
use Rattle.jesc_ast.specs.Lexemes.{Lexeme, join}
use Rattle.jesc_ast.specs.Trees.{Expression, number, truth, null, this, outcome, name, paren, member, index, unary, binary, choose, cast, instance_of, new_array, old, fresh, Receiver, implied, super, on}
use Rattle.jesc_ast.specs.Expressions.{span_of, type_tree}
use Rattle.jesc_jml_grammar.specs.declared.mark.Mark.{Mark}
use Rattle.jesc_jml_grammar.specs.declared.mark.Mark.TheVariants as m
use Rattle.jesc_jml_grammar.specs.Steps.{Parser, ◌>>=◌, ◌>>◌, pure, refuse, too_deep, too_long, same_mark, peek, take_one, expect, peek_again}
pub use Rattle.jesc_jml_grammar.specs.ExpressionMarks.{opens, casts, allows_prefix, is_prefix_mark, opens_at, binds, needs, right_of, grows, is_type_mark, is_quantifier_mark, is_bound_mark}
pub use Rattle.jesc_jml_grammar.specs.Found.{Parsed, Listed, Bounds, Start, at_first, behind_name, behind_bracket, word_of, leaf, over, over_two, over_three, lone_name, nothing, with_last, call_of, object_of, quantifier_of}

-- more turns than a list of lexemes has room for
unfoldable pub turns : ℕ
turns = 18446744073709551615

-- `note` tells the side, `limit` bounds the turns of each list, `room` says how many nodes an inner expression may have
-- from its root to a leaf, and `quantifiers` how many may still nest. The inner parser takes the quantifiers, the least
-- strength and the start.
module _ (note : Bool) (limit room : ℕ) (inner : ℕ → ℕ → Start → Parser Parsed) (quantifiers : ℕ) where
  -- where there is room for a node inside
  abbrev pub deeper : {A : Type 0} → Parser A → Parser A
  deeper p = if nat_lt 0 room then p else too_deep

  -- ---- lists of arguments

  unfoldable pub more_arguments : ℕ → Listed → Parser Listed
  more_arguments zero es = too_long
  more_arguments (suc n) es = do
    mark ← peek note
    if same_mark mark m.Comma then (do expect note m.Comma; e ← inner quantifiers 1 at_first; more_arguments n (with_last es e)) else pure es

  unfoldable pub some_arguments : Parser Listed
  some_arguments = do
    e ← inner quantifiers 1 at_first
    more_arguments limit (with_last nothing e)

  unfoldable pub arguments : Parser Listed
  arguments = do
    mark ← peek note
    if same_mark mark m.RightParen then pure nothing else some_arguments

  -- behind the name of a method, with what stands before it
  unfoldable pub called : Span → Receiver → ℕ → Lexeme → Parser Parsed
  called first receiver depth x = do
    expect note m.LeftParen
    es ← arguments
    q ← expect note m.RightParen
    pure (call_of first receiver depth x es q)

  -- ---- types

  -- behind the first word of a type
  unfoldable pub type_behind : Lexeme → Parser TypeTree
  type_behind x = do
    mark ← peek note
    if same_mark mark m.LeftBracket then (do expect note m.LeftBracket; q ← expect note m.RightBracket; pure (type_tree (join x.span q.span) x.text true)) else pure (type_tree x.span x.text false)

  unfoldable pub type_word : Parser Lexeme
  type_word = do
    mark ← peek note
    if is_type_mark mark then take_one else refuse

  unfoldable pub type_ : Parser TypeTree
  type_ = do
    x ← type_word
    type_behind x

  -- ---- what begins with a parenthesis

  unfoldable pub cast_operand : Lexeme → TypeTree → Parser Parsed
  cast_operand p t = do
    e ← inner quantifiers 10 at_first
    pure (over 10 e (cast (join p.span (span_of e.tree)) t e.tree))

  -- a cast to a type whose first word was read
  unfoldable pub cast_behind : Lexeme → Lexeme → Parser Parsed
  cast_behind p x = do
    t ← type_behind x
    expect note m.RightParen
    cast_operand p t

  unfoldable pub typed_cast : Lexeme → Parser Parsed
  typed_cast p = do
    x ← type_word
    cast_behind p x

  -- the rest of an expression in parentheses
  unfoldable pub grouped : Lexeme → Start → Parser Parsed
  grouped p start = do
    e ← inner quantifiers 1 start
    q ← expect note m.RightParen
    pure (over 12 e (paren (join p.span q.span) e.tree))

  -- behind a name in parentheses: a cast, or the name alone
  unfoldable pub closed_name : ℕ → Lexeme → Lexeme → Parser Parsed
  closed_name least p x = do
    q ← expect note m.RightParen
    mark ← peek note
    if casts mark && allows_prefix least then cast_operand p (type_tree x.span x.text false) else pure (lone_name p x q)

  -- a cast to an array, behind a name and a bracket
  unfoldable pub array_cast : Lexeme → Lexeme → Parser Parsed
  array_cast p x = do
    q ← expect note m.RightBracket
    expect note m.RightParen
    cast_operand p (type_tree (join x.span q.span) x.text true)

  -- behind a name and a bracket in parentheses: a cast to an array, or an index
  unfoldable pub bracketed_name : ℕ → Lexeme → Lexeme → Parser Parsed
  bracketed_name least p x = do
    b ← expect note m.LeftBracket
    mark ← peek note
    if same_mark mark m.RightBracket && allows_prefix least then array_cast p x else grouped p (behind_bracket x b)

  abbrev pub behind_name_by : ℕ → Lexeme → Lexeme → Mark → Parser Parsed
  behind_name_by least p x m.RightParen = closed_name least p x
  behind_name_by least p x m.LeftBracket = bracketed_name least p x
  behind_name_by least p x _ = grouped p (behind_name x)

  unfoldable pub named_group : ℕ → Lexeme → Parser Parsed
  named_group least p = do
    x ← expect note m.Name
    mark ← peek note
    behind_name_by least p x mark

  -- before a word of a type: a cast
  abbrev pub typed_group : ℕ → Lexeme → Parser Parsed
  typed_group least p = if allows_prefix least then typed_cast p else grouped p at_first

  -- ---- quantifiers

  -- whether the quantifier speaks of all
  unfoldable pub quantifier_word : Parser Bool
  quantifier_word = do
    mark ← peek note
    if is_quantifier_mark mark then (if nat_lt 0 quantifiers then take_one >> pure (same_mark mark m.Forall) else too_deep) else refuse

  -- whether the bound is left out
  unfoldable pub bound_sign : Parser Bool
  bound_sign = do
    mark ← peek note
    if is_bound_mark mark then take_one >> pure (same_mark mark m.Less) else refuse

  -- the name again
  unfoldable pub same_name : Lexeme → Parser Lexeme
  same_name x = do
    again ← peek_again note x.text
    if again then take_one else refuse

  unfoldable pub bounds : Lexeme → Parser Bounds
  bounds x = do
    low ← inner (quantifiers - 1) 8 at_first
    low_strict ← bound_sign
    same_name x
    expect note m.And
    same_name x
    high_strict ← bound_sign
    high ← inner (quantifiers - 1) 8 at_first
    pure (record { low = low; low_strict = low_strict; high = high; high_strict = high_strict })

  unfoldable pub quantified : Lexeme → Parser Parsed
  quantified p = do
    all ← quantifier_word
    expect note m.Int
    x ← expect note m.Name
    expect note m.Semicolon
    b ← bounds x
    expect note m.Semicolon
    e ← inner (quantifiers - 1) 1 at_first
    q ← expect note m.RightParen
    pure (quantifier_of (join p.span q.span) all x b e)

  abbrev pub group_by : ℕ → Lexeme → Mark → Parser Parsed
  group_by least p m.Forall = quantified p
  group_by least p m.Exists = quantified p
  group_by least p m.Int = typed_group least p
  group_by least p m.Long = typed_group least p
  group_by least p m.Boolean = typed_group least p
  group_by least p m.Name = named_group least p
  group_by least p _ = grouped p at_first

  unfoldable pub group : ℕ → Parser Parsed
  group least = do
    p ← expect note m.LeftParen
    mark ← peek note
    group_by least p mark

  -- ---- other beginnings

  -- behind a name: a call of it, or the name alone
  unfoldable pub after_name : Lexeme → Parser Parsed
  after_name x = do
    mark ← peek note
    if same_mark mark m.LeftParen then called x.span implied 0 x else pure (leaf (name x.span x.text))

  unfoldable pub named : Parser Parsed
  named = expect note m.Name >>= after_name

  unfoldable pub prefixed : Parser Parsed
  prefixed = do
    op ← take_one
    e ← inner quantifiers 10 at_first
    pure (over 10 e (unary (join op.span (span_of e.tree)) (word_of op) e.tree))

  -- the size of a new array, behind the type of its elements
  unfoldable pub sized : Lexeme → Lexeme → Parser Parsed
  sized r x = do
    expect note m.LeftBracket
    n ← inner quantifiers 1 at_first
    q ← expect note m.RightBracket
    pure (over 11 n (new_array (join r.span q.span) (word_of x) n.tree))

  unfoldable pub constructed : Lexeme → Lexeme → Parser Parsed
  constructed r x = do
    expect note m.LeftParen
    es ← arguments
    q ← expect note m.RightParen
    pure (object_of r x es q)

  abbrev pub created_by : Lexeme → Lexeme → Mark → Parser Parsed
  created_by r x m.LeftParen = constructed r x
  created_by r x m.LeftBracket = deeper (sized r x)
  created_by r x _ = refuse

  unfoldable pub new_of_name : Lexeme → Parser Parsed
  new_of_name r = do
    x ← expect note m.Name
    mark ← peek note
    created_by r x mark

  unfoldable pub new_of_word : Lexeme → Parser Parsed
  new_of_word r = do
    x ← take_one
    sized r x

  abbrev pub new_by : Lexeme → Mark → Parser Parsed
  new_by r m.Name = new_of_name r
  new_by r m.Int = deeper (new_of_word r)
  new_by r m.Long = deeper (new_of_word r)
  new_by r m.Boolean = deeper (new_of_word r)
  new_by r _ = refuse

  unfoldable pub created : Parser Parsed
  created = do
    r ← expect note m.New
    mark ← peek note
    new_by r mark

  unfoldable pub super_called : Parser Parsed
  super_called = do
    r ← expect note m.Super
    expect note m.Dot
    x ← expect note m.Name
    called r.span super 0 x

  unfoldable pub old_value : Parser Parsed
  old_value = do
    r ← expect note m.Old
    expect note m.LeftParen
    e ← inner quantifiers 1 at_first
    q ← expect note m.RightParen
    pure (over 12 e (old (join r.span q.span) e.tree))

  unfoldable pub fresh_value : Parser Parsed
  fresh_value = do
    r ← expect note m.Fresh
    expect note m.LeftParen
    e ← inner quantifiers 1 at_first
    q ← expect note m.RightParen
    pure (over 12 e (fresh (join r.span q.span) e.tree))

  -- what an expression follows, where there is room for it
  abbrev pub nested_by : ℕ → Mark → Parser Parsed
  nested_by least m.LeftParen = group least
  nested_by least m.Plus = prefixed
  nested_by least m.Minus = prefixed
  nested_by least m.Not = prefixed
  nested_by least m.Old = old_value
  nested_by least m.Fresh = fresh_value
  nested_by least _ = refuse

  abbrev pub nested : ℕ → Mark → Parser Parsed
  nested least mark = deeper (nested_by least mark)

  abbrev pub nested_prefix : ℕ → Mark → Parser Parsed
  nested_prefix least mark = if allows_prefix least then nested least mark else refuse

  abbrev pub literal_of : Mark → Lexeme → Expression
  literal_of m.Number x = number x.span x.text
  literal_of m.True x = truth x.span true
  literal_of m.False x = truth x.span false
  literal_of m.Null x = null x.span
  literal_of m.This x = this x.span
  literal_of _ x = outcome x.span

  unfoldable pub literal : Mark → Parser Parsed
  literal mark = do
    x ← take_one
    pure (leaf (literal_of mark x))

  abbrev pub first_by : ℕ → Mark → Parser Parsed
  first_by least m.Number = literal m.Number
  first_by least m.True = literal m.True
  first_by least m.False = literal m.False
  first_by least m.Null = literal m.Null
  first_by least m.This = literal m.This
  first_by least m.Result = literal m.Result
  first_by least m.Name = named
  first_by least m.New = created
  first_by least m.Super = super_called
  first_by least m.LeftParen = nested least m.LeftParen
  first_by least m.Plus = nested_prefix least m.Plus
  first_by least m.Minus = nested_prefix least m.Minus
  first_by least m.Not = nested_prefix least m.Not
  first_by least m.Old = nested least m.Old
  first_by least m.Fresh = nested least m.Fresh
  first_by least _ = refuse

  unfoldable pub first : ℕ → Parser Parsed
  first least = peek note >>= first_by least

  -- ---- what goes on with an expression

  unfoldable pub operated : Parsed → Mark → Parser Parsed
  operated a mark = do
    op ← take_one
    b ← inner quantifiers (right_of mark) at_first
    pure (over_two (binds mark) a b (binary (join (span_of a.tree) (span_of b.tree)) (word_of op) a.tree b.tree))

  unfoldable pub chosen : Parsed → Parser Parsed
  chosen c = do
    p ← expect note m.Question
    a ← inner quantifiers 1 at_first
    expect note m.Colon
    b ← inner quantifiers 1 at_first
    pure (over_three 1 c a b (choose (join (span_of c.tree) (span_of b.tree)) c.tree p.span a.tree b.tree))

  unfoldable pub tested : Parsed → Parser Parsed
  tested a = do
    expect note m.InstanceOf
    t ← type_
    pure (over 7 a (instance_of (join (span_of a.tree) t.span) a.tree t))

  -- behind the name of a member: a call of it, or the member alone
  unfoldable pub after_member : Parsed → Lexeme → Lexeme → Parser Parsed
  after_member a dot x = do
    mark ← peek note
    if same_mark mark m.LeftParen then called (span_of a.tree) (on a.tree dot.span) a.depth x else pure (over 12 a (member (join (span_of a.tree) x.span) a.tree dot.span (word_of x)))

  unfoldable pub dotted : Parsed → Parser Parsed
  dotted a = do
    dot ← expect note m.Dot
    x ← expect note m.Name
    after_member a dot x

  -- behind a bracket
  unfoldable pub indexed_behind : Parsed → Lexeme → Parser Parsed
  indexed_behind a p = do
    i ← inner quantifiers 1 at_first
    q ← expect note m.RightBracket
    pure (over_two 12 a i (index (join (span_of a.tree) q.span) a.tree p.span i.tree))

  unfoldable pub indexed : Parsed → Parser Parsed
  indexed a = do
    p ← expect note m.LeftBracket
    indexed_behind a p

  abbrev pub longer_by : Parsed → Mark → Parser Parsed
  longer_by a m.Question = chosen a
  longer_by a m.InstanceOf = tested a
  longer_by a m.Dot = dotted a
  longer_by a m.LeftBracket = indexed a
  longer_by a mark = operated a mark

  unfoldable pub climb : ℕ → ℕ → Parsed → Parser Parsed
  climb least zero a = too_deep
  climb least (suc n) a = do
    mark ← peek note
    if grows a.strength mark least then (if nat_le a.depth room then (longer_by a mark >>= climb least n) else too_deep) else pure a

  -- the room of the whole expression is one more than that of an inner one, and so are its turns
  abbrev pub begun : ℕ → Start → Parser Parsed
  begun least at_first = first least >>= climb least (suc room)
  begun least (behind_name x) = after_name x >>= climb least (suc room)
  begun least (behind_bracket x p) = indexed_behind (leaf (name x.span x.text)) p >>= climb least room

-- where no node has room
unfoldable pub no_room : Bool → ℕ → Parser Parsed
no_room note least = do
  mark ← peek note
  if opens_at least mark then too_deep else refuse

unfoldable pub expr : Bool → ℕ → ℕ → ℕ → ℕ → Start → Parser Parsed
expr note limit zero quantifiers least at_first = no_room note least
expr note limit zero quantifiers least _ = too_deep
expr note limit (suc room) quantifiers least start = begun note limit room (expr note limit room) quantifiers least start
