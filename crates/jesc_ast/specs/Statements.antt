-- Which lexemes spell a statement. Without a word on it a lexeme stands in code; what begins with `assert`, `set`,
-- `ghost` or a loop's invariants stands in annotations.
use Rattle.std.specs.Prelude.{◌≡◌, ℕ, Bool, true, false, IsTrue, Option, Some, None, List, [], ◌∷◌, ◌++◌, codes}
use Rattle.jesc_text.specs.declared.place.Span.{Span}
use Rattle.jesc_ast.specs.declared.word.TypeTree.{TypeTree}
use Rattle.jesc_ast.specs.Lexemes.{Lexeme, word, sign, chosen_word, chosen_sign, kept, join}
use Rattle.jesc_ast.specs.Words.{is_one_of, is_name}
use Rattle.jesc_ast.specs.Trees.{Expression, name, member, index, call, Expressions, Clause, clause, Statement, block, local, ghost_local, assign, call_statement, branch, while_loop, for_loop, return, throw, attempt, break, continue, empty, assertion, set_statement, super_call, Body, body, Catch, catch, Statements, no_statements, more_statements, Catches, no_catches, more_catches, OptionalStatement, no_statement, one_statement}
use Rattle.jesc_ast.specs.Expressions.{SpellsType, SpellsExpression, SpellsArguments, span_of}

-- an expression that may be missing
pub data SpellsOption (note : Bool) : Option Expression → List Lexeme → Type 0 where
  is_missing : SpellsOption note None []
  is_there : (e : Expression) (u : List Lexeme) → SpellsExpression note e u → SpellsOption note (Some e) u

-- ---- clauses of a word and an expression

-- clauses that begin with one of these words, each in an annotation and ended by a semicolon
pub data SpellsClauses (words : List (List ℕ)) : List Clause → List Lexeme → Type 0 where
  no_clauses : SpellsClauses words [] []
  more_clauses : (s p : Span) (x : List ℕ) (e : Expression) (cs : List Clause) (u v : List Lexeme) → IsTrue (is_one_of words x) → SpellsExpression true e u
      → SpellsClauses words cs v
      → SpellsClauses words (clause (kept true x s) e ∷ cs) (chosen_word true x s ∷ (u ++ sign true ";" p ∷ v))

abbrev pub SpellsInvariants : List Clause → List Lexeme → Type 0
SpellsInvariants = SpellsClauses (codes "maintaining" ∷ codes "loop_invariant" ∷ [])

-- ---- assignments and calls

abbrev pub is_target : Expression → Bool
is_target (name s x) = true
is_target (member s e dot w) = true
is_target (index s e bracket i) = true
is_target _ = false

abbrev pub is_call : Expression → Bool
is_call (call s r w es) = true
is_call _ = false

abbrev pub is_assign_sign : List ℕ → Bool
is_assign_sign = is_one_of (codes "=" ∷ codes "+=" ∷ codes "-=" ∷ codes "*=" ∷ codes "/=" ∷ codes "%=" ∷ [])

abbrev pub is_step_sign : List ℕ → Bool
is_step_sign = is_one_of (codes "++" ∷ codes "--" ∷ [])

-- The kinds of simple statement.
pub data Simple : Type 0 where
  declares : Simple
  assigns : Simple
  calls : Simple

-- A simple statement without its semicolon. The statement's span comes of that of its lexemes.
pub data SpellsSimple (whole : Span → Span) : Simple → Statement → List Lexeme → Type 0 where
  is_local : (equals n : Span) (t : TypeTree) (x : List ℕ) (e : Expression) (u v : List Lexeme) → SpellsType false t u → IsTrue (is_name x) → SpellsExpression false e v
      → SpellsSimple whole declares (local (whole (join t.span (span_of e))) false t (kept false x n) equals e)
      (u ++ chosen_word false x n ∷ sign false "=" equals ∷ v)
  is_final_local : (f equals n : Span) (t : TypeTree) (x : List ℕ) (e : Expression) (u v : List Lexeme) → SpellsType false t u → IsTrue (is_name x)
      → SpellsExpression false e v
      → SpellsSimple whole declares (local (whole (join f (span_of e))) true t (kept false x n) equals e)
      (word false "final" f ∷ (u ++ chosen_word false x n ∷ sign false "=" equals ∷ v))
  is_assignment : (o : Span) (op : List ℕ) (target e : Expression) (u v : List Lexeme) → SpellsExpression false target u → IsTrue (is_target target)
      → IsTrue (is_assign_sign op) → SpellsExpression false e v
      → SpellsSimple whole assigns (assign (whole (join (span_of target) (span_of e))) target (kept false op o) false (Some e))
      (u ++ chosen_sign false op o ∷ v)
  is_step_after : (o : Span) (op : List ℕ) (target : Expression) (u : List Lexeme) → SpellsExpression false target u → IsTrue (is_target target)
      → IsTrue (is_step_sign op)
      → SpellsSimple whole assigns (assign (whole (join (span_of target) o)) target (kept false op o) false None) (u ++ chosen_sign false op o ∷ [])
  is_step_before : (o : Span) (op : List ℕ) (target : Expression) (u : List Lexeme) → SpellsExpression false target u → IsTrue (is_target target)
      → IsTrue (is_step_sign op)
      → SpellsSimple whole assigns (assign (whole (join o (span_of target))) target (kept false op o) true None) (chosen_sign false op o ∷ u)
  is_call_alone : (e : Expression) (u : List Lexeme) → SpellsExpression false e u → IsTrue (is_call e)
      → SpellsSimple whole calls (call_statement (whole (span_of e)) e) u

-- what stands before the first semicolon in the head of a `for`, and what behind the second
abbrev pub may_begin_for : Simple → Bool
may_begin_for declares = true
may_begin_for assigns = true
may_begin_for calls = false

abbrev pub may_end_turn : Simple → Bool
may_end_turn declares = false
may_end_turn assigns = true
may_end_turn calls = true

pub data SpellsHeadPart (may : Simple → Bool) : OptionalStatement → List Lexeme → Type 0 where
  no_part : SpellsHeadPart may no_statement []
  one_part : (kind : Simple) (s : Statement) (u : List Lexeme) → SpellsSimple (λ span. span) kind s u → IsTrue (may kind)
      → SpellsHeadPart may (one_statement s) u

-- ---- statements

abbrev pub statement_span : Statement → Span
statement_span (block s b) = s
statement_span (local s is_final t w equals e) = s
statement_span (ghost_local s t w equals e) = s
statement_span (assign s target op before e) = s
statement_span (call_statement s e) = s
statement_span (branch s test first other) = s
statement_span (while_loop s invariants test turn) = s
statement_span (for_loop s invariants first test last turn) = s
statement_span (return s e) = s
statement_span (throw s e) = s
statement_span (attempt s b cs) = s
statement_span (break s) = s
statement_span (continue s) = s
statement_span (empty s) = s
statement_span (assertion s e) = s
statement_span (set_statement s target equals e) = s
statement_span (super_call s es) = s

abbrev pub body_end : Body → Span
body_end (body ss close) = close

-- the end of the last of these catch clauses, of which there is one at least
abbrev pub catches_end : Span → Catches → Span
catches_end close no_catches = close
catches_end close (more_catches (catch is_final class w b) cs) = catches_end (body_end b) cs

-- what may stand behind a condition, a loop's head or `else` without braces
abbrev pub is_loop : Statement → Bool
is_loop (while_loop s invariants test turn) = true
is_loop (for_loop s invariants first test last turn) = true
is_loop _ = false

abbrev pub is_branch : Statement → Bool
is_branch (branch s test first other) = true
is_branch _ = false

mutual
  pub data SpellsStatement : Statement → List Lexeme → Type 0 where
    is_block : (p : Span) (ss : Statements) (q : Span) (u : List Lexeme) → SpellsBody (body ss q) p u → SpellsStatement (block (join p q) (body ss q)) u
    is_simple : (kind : Simple) (s : Statement) (p : Span) (u : List Lexeme) → SpellsSimple (λ span. join span p) kind s u
        → SpellsStatement s (u ++ sign false ";" p ∷ [])
    is_branch_alone : (r p q : Span) (test : Expression) (first : Statement) (u v : List Lexeme) → SpellsExpression false test u → SpellsStatement first v
        → is_loop first ≡ false → is_branch first ≡ false
        → SpellsStatement (branch (join r (statement_span first)) test first no_statement)
        (word false "if" r ∷ sign false "(" p ∷ (u ++ sign false ")" q ∷ v))
    is_branch_else : (r p q o : Span) (test : Expression) (first other : Statement) (u v t : List Lexeme) → SpellsExpression false test u → SpellsStatement first v
        → is_loop first ≡ false → is_branch first ≡ false → SpellsStatement other t → is_loop other ≡ false
        → SpellsStatement (branch (join r (statement_span other)) test first (one_statement other))
        (word false "if" r ∷ sign false "(" p ∷ (u ++ sign false ")" q ∷ (v ++ word false "else" o ∷ t)))
    is_while : (r p q : Span) (invariants : List Clause) (test : Expression) (turn : Statement) (t u v : List Lexeme) → SpellsInvariants invariants t
        → SpellsExpression false test u → SpellsStatement turn v → is_loop turn ≡ false → is_branch turn ≡ false
        → SpellsStatement (while_loop (join r (statement_span turn)) invariants test turn)
        (t ++ word false "while" r ∷ sign false "(" p ∷ (u ++ sign false ")" q ∷ v))
    is_for : (r p p1 p2 q : Span) (invariants : List Clause) (first : OptionalStatement) (test : Option Expression) (last : OptionalStatement)
        (turn : Statement) (t a b c v : List Lexeme) → SpellsInvariants invariants t → SpellsHeadPart may_begin_for first a → SpellsOption false test b
        → SpellsHeadPart may_end_turn last c → SpellsStatement turn v → is_loop turn ≡ false → is_branch turn ≡ false
        → SpellsStatement (for_loop (join r (statement_span turn)) invariants first test last turn)
        (t ++ word false "for" r ∷ sign false "(" p ∷ (a ++ sign false ";" p1 ∷ (b ++ sign false ";" p2 ∷ (c ++ sign false ")" q ∷ v))))
    is_return : (r p : Span) (e : Option Expression) (u : List Lexeme) → SpellsOption false e u
        → SpellsStatement (return (join r p) e) (word false "return" r ∷ (u ++ sign false ";" p ∷ []))
    is_throw : (r p : Span) (e : Expression) (u : List Lexeme) → SpellsExpression false e u
        → SpellsStatement (throw (join r p) e) (word false "throw" r ∷ (u ++ sign false ";" p ∷ []))
    is_break : (r p : Span) → SpellsStatement (break (join r p)) (word false "break" r ∷ sign false ";" p ∷ [])
    is_continue : (r p : Span) → SpellsStatement (continue (join r p)) (word false "continue" r ∷ sign false ";" p ∷ [])
    is_empty : (p : Span) → SpellsStatement (empty p) (sign false ";" p ∷ [])
    is_attempt : (r p : Span) (b : Body) (c : Catch) (cs : Catches) (u v : List Lexeme) → SpellsBody b p u → SpellsCatches (more_catches c cs) v
        → SpellsStatement (attempt (join r (catches_end (body_end b) (more_catches c cs))) b (more_catches c cs)) (word false "try" r ∷ (u ++ v))
    is_assertion : (r p : Span) (e : Expression) (u : List Lexeme) → SpellsExpression true e u
        → SpellsStatement (assertion (join r p) e) (word true "assert" r ∷ (u ++ sign true ";" p ∷ []))
    is_set : (r equals p : Span) (target e : Expression) (u v : List Lexeme) → SpellsExpression true target u → IsTrue (is_target target) → SpellsExpression true e v
        → SpellsStatement (set_statement (join r p) target equals e) (word true "set" r ∷ (u ++ sign true "=" equals ∷ (v ++ sign true ";" p ∷ [])))
    is_ghost_local : (r n equals p : Span) (t : TypeTree) (x : List ℕ) (e : Expression) (u v : List Lexeme) → SpellsType true t u → IsTrue (is_name x)
        → SpellsExpression true e v
        → SpellsStatement (ghost_local (join r p) t (kept true x n) equals e)
        (word true "ghost" r ∷ (u ++ chosen_word true x n ∷ sign true "=" equals ∷ (v ++ sign true ";" p ∷ [])))

  -- statements between braces, the first of which stands there
  pub data SpellsBody : Body → Span → List Lexeme → Type 0 where
    is_body : (p q : Span) (ss : Statements) (u : List Lexeme) → SpellsStatements ss u
        → SpellsBody (body ss q) p (sign false "{" p ∷ (u ++ sign false "}" q ∷ []))

  pub data SpellsStatements : Statements → List Lexeme → Type 0 where
    no_more_statements : SpellsStatements no_statements []
    one_more_statement : (s : Statement) (ss : Statements) (u v : List Lexeme) → SpellsStatement s u → SpellsStatements ss v
        → SpellsStatements (more_statements s ss) (u ++ v)

  pub data SpellsCatches : Catches → List Lexeme → Type 0 where
    no_more_catches : SpellsCatches no_catches []
    one_more_catch : (r p q o m n : Span) (is_final : Bool) (x y : List ℕ) (b : Body) (cs : Catches) (t u v : List Lexeme) → IsTrue (is_name x)
        → IsTrue (is_name y) → SpellsFinal is_final t → SpellsBody b o u → SpellsCatches cs v
        → SpellsCatches (more_catches (catch is_final (kept false x m) (kept false y n) b) cs)
        (word false "catch" r ∷ sign false "(" p ∷ (t ++ chosen_word false x m ∷ chosen_word false y n ∷ sign false ")" q ∷ (u ++ v)))

  -- the word `final`, or nothing
  pub data SpellsFinal : Bool → List Lexeme → Type 0 where
    is_final_word : (s : Span) → SpellsFinal true (word false "final" s ∷ [])
    no_final_word : SpellsFinal false []

-- a constructor's body, which may begin with `super(..);`
pub data SpellsConstructorBody : Body → Span → List Lexeme → Type 0 where
  is_plain_body : (b : Body) (p : Span) (u : List Lexeme) → SpellsBody b p u → SpellsConstructorBody b p u
  is_super_body : (p r p1 q1 p2 q : Span) (es : Expressions) (ss : Statements) (u v : List Lexeme) → SpellsArguments false es u
      → SpellsStatements ss v
      → SpellsConstructorBody (body (more_statements (super_call (join r p2) es) ss) q) p
      (sign false "{" p ∷ word false "super" r ∷ sign false "(" p1 ∷ (u ++ sign false ")" q1 ∷ sign false ";" p2 ∷ (v ++ sign false "}" q ∷ [])))
