-- The trees of expressions and statements as plain data, and how the program's trees are seen as it.
use Rattle.std.specs.Prelude.{ℕ, Bool, Option, Some, None, List, [], ◌∷◌, map}
use Rattle.jesc_text.specs.declared.place.Span.{Span}
use Rattle.jesc_ast.specs.declared.word.Word.{Word}
use Rattle.jesc_ast.specs.declared.word.TypeTree.{TypeTree}
use Rattle.jesc_ast.specs.declared.expr.Expr.{Expr, fold-Expr}
use Rattle.jesc_ast.specs.declared.expr.ExprNode.{ExprNode, fold-ExprNode}
use Rattle.jesc_ast.specs.declared.expr.Receiver as code_receiver
use Rattle.jesc_ast.specs.declared.expr.Receiver.{fold-Receiver}
use Rattle.jesc_ast.specs.declared.expr.ExprNode.TheOpen.{ExprNode-F, Receiver-F, ArrayAccess-F, ArrayCreation-F, BinaryExpr-F, CastExpr-F, Conditional-F, Expr-F, InstanceTest-F, MemberAccess-F, MethodCall-F, ObjectCreation-F, Quantifier-F, UnaryExpr-F}
use Rattle.jesc_ast.specs.declared.stmt.ClauseTree.{ClauseTree}
use Rattle.jesc_ast.specs.declared.stmt.Stmt.{Stmt, fold-Stmt}
use Rattle.jesc_ast.specs.declared.stmt.BodyTree.{BodyTree, fold-BodyTree}
use Rattle.jesc_ast.specs.declared.stmt.CatchTree.{CatchTree, fold-CatchTree}
use Rattle.jesc_ast.specs.declared.stmt.StmtNode.{StmtNode, fold-StmtNode}
use Rattle.jesc_ast.specs.declared.stmt.StmtNode.TheOpen.{StmtNode-F, BodyTree-F, CatchTree-F, ForTree-F, IfTree-F, Stmt-F, TryTree-F, WhileTree-F}

-- ---- expressions

mutual
  pub data Expression : Type 0 where
    number : Span → List ℕ → Expression
    truth : Span → Bool → Expression
    null : Span → Expression
    this : Span → Expression
    outcome : Span → Expression
    name : Span → List ℕ → Expression
    paren : Span → Expression → Expression
    member : Span → Expression → Span → Word → Expression
    index : Span → Expression → Span → Expression → Expression
    unary : Span → Word → Expression → Expression
    binary : Span → Word → Expression → Expression → Expression
    choose : Span → Expression → Span → Expression → Expression → Expression
    cast : Span → TypeTree → Expression → Expression
    instance_of : Span → Expression → TypeTree → Expression
    call : Span → Receiver → Word → Expressions → Expression
    new_object : Span → Word → Expressions → Expression
    new_array : Span → Word → Expression → Expression
    old : Span → Expression → Expression
    fresh : Span → Expression → Expression
    quantifier : Span → Bool → Word → Expression → Bool → Expression → Bool → Expression → Expression

  pub data Receiver : Type 0 where
    implied : Receiver
    super : Receiver
    on : Expression → Span → Receiver

  pub data Expressions : Type 0 where
    no_expressions : Expressions
    more_expressions : Expression → Expressions → Expressions

abbrev pub expressions_of : List Expression → Expressions
expressions_of [] = no_expressions
expressions_of (e ∷ es) = more_expressions e (expressions_of es)

abbrev pub list_of : Expressions → List Expression
list_of no_expressions = []
list_of (more_expressions e es) = e ∷ list_of es

-- what a node stands for, once its span is known
abbrev pub Form : Type 0
Form = Span → Expression

-- one level of each type, with all inside already seen
abbrev pub node_step : ExprNode-F Form Receiver Form Form Form Form Form Expression Form Form Form Form Form Form → Form
node_step (ExprNode-F.Number x) = λ s. number s x
node_step (ExprNode-F.Truth b) = λ s. truth s b
node_step ExprNode-F.Null = λ s. null s
node_step ExprNode-F.This = λ s. this s
node_step ExprNode-F.Result = λ s. outcome s
node_step (ExprNode-F.Name x) = λ s. name s x
node_step (ExprNode-F.Paren e) = λ s. paren s e
node_step (ExprNode-F.Member form) = form
node_step (ExprNode-F.Index form) = form
node_step (ExprNode-F.Unary form) = form
node_step (ExprNode-F.Binary form) = form
node_step (ExprNode-F.Choose form) = form
node_step (ExprNode-F.Cast form) = form
node_step (ExprNode-F.InstanceOf form) = form
node_step (ExprNode-F.Call form) = form
node_step (ExprNode-F.New form) = form
node_step (ExprNode-F.NewArray form) = form
node_step (ExprNode-F.Old e) = λ s. old s e
node_step (ExprNode-F.Fresh e) = λ s. fresh s e
node_step (ExprNode-F.Quant form) = form

abbrev pub receiver_step : Receiver-F Form Receiver Form Form Form Form Form Expression Form Form Form Form Form Form → Receiver
receiver_step Receiver-F.Implied = implied
receiver_step Receiver-F.Super = super
receiver_step (Receiver-F.On e dot) = on e dot

abbrev pub array_access_step : ArrayAccess-F Form Receiver Form Form Form Form Form Expression Form Form Form Form Form Form → Form
array_access_step a = λ s. index s a.base a.bracket a.index

abbrev pub array_creation_step : ArrayCreation-F Form Receiver Form Form Form Form Form Expression Form Form Form Form Form Form → Form
array_creation_step a = λ s. new_array s a.base a.size

abbrev pub binary_expr_step : BinaryExpr-F Form Receiver Form Form Form Form Form Expression Form Form Form Form Form Form → Form
binary_expr_step b = λ s. binary s b.op b.left b.right

abbrev pub cast_expr_step : CastExpr-F Form Receiver Form Form Form Form Form Expression Form Form Form Form Form Form → Form
cast_expr_step c = λ s. cast s c.ty c.e

abbrev pub conditional_step : Conditional-F Form Receiver Form Form Form Form Form Expression Form Form Form Form Form Form → Form
conditional_step c = λ s. choose s c.test c.question c.yes c.no

abbrev pub expr_step : Expr-F Form Receiver Form Form Form Form Form Expression Form Form Form Form Form Form → Expression
expr_step e = e.node e.span

abbrev pub instance_test_step : InstanceTest-F Form Receiver Form Form Form Form Form Expression Form Form Form Form Form Form → Form
instance_test_step t = λ s. instance_of s t.e t.ty

abbrev pub member_access_step : MemberAccess-F Form Receiver Form Form Form Form Form Expression Form Form Form Form Form Form → Form
member_access_step m = λ s. member s m.base m.dot m.name

abbrev pub method_call_step : MethodCall-F Form Receiver Form Form Form Form Form Expression Form Form Form Form Form Form → Form
method_call_step c = λ s. call s c.receiver c.name (expressions_of c.args)

abbrev pub object_creation_step : ObjectCreation-F Form Receiver Form Form Form Form Form Expression Form Form Form Form Form Form → Form
object_creation_step n = λ s. new_object s n.name (expressions_of n.args)

abbrev pub quantifier_step : Quantifier-F Form Receiver Form Form Form Form Form Expression Form Form Form Form Form Form → Form
quantifier_step q = λ s. quantifier s q.universal q.variable q.low q.low_strict q.high q.high_strict q.body

abbrev pub unary_expr_step : UnaryExpr-F Form Receiver Form Form Form Form Form Expression Form Form Form Form Form Form → Form
unary_expr_step u = λ s. unary s u.op u.e

-- the expression that the program's tree stands for
abbrev pub view : Expr → Expression
view = fold-Expr Form Receiver Form Form Form Form Form Expression Form Form Form Form Form Form node_step receiver_step array_access_step array_creation_step binary_expr_step cast_expr_step conditional_step expr_step
    instance_test_step member_access_step method_call_step object_creation_step quantifier_step unary_expr_step

-- what a node stands for
abbrev pub node_view : ExprNode → Form
node_view = fold-ExprNode Form Receiver Form Form Form Form Form Expression Form Form Form Form Form Form node_step receiver_step array_access_step array_creation_step binary_expr_step cast_expr_step conditional_step expr_step
    instance_test_step member_access_step method_call_step object_creation_step quantifier_step unary_expr_step

-- what a receiver stands for
abbrev pub receiver_view : code_receiver.Receiver → Receiver
receiver_view = fold-Receiver Form Receiver Form Form Form Form Form Expression Form Form Form Form Form Form node_step receiver_step array_access_step array_creation_step binary_expr_step cast_expr_step conditional_step expr_step
    instance_test_step member_access_step method_call_step object_creation_step quantifier_step unary_expr_step

abbrev pub optional_view : Option Expr → Option Expression
optional_view None = None
optional_view (Some e) = Some (view e)

-- ---- clauses of a word and an expression

pub record Clause : Type 0 where
  pub word : Word
  pub e : Expression

abbrev pub clause : Word → Expression → Clause
clause w e = record { word = w; e = e }

abbrev pub clause_view : ClauseTree → Clause
clause_view c = clause c.word (view c.e)

-- ---- statements

mutual
  pub data Statement : Type 0 where
    block : Span → Body → Statement
    local : Span → Bool → TypeTree → Word → Span → Expression → Statement
    ghost_local : Span → TypeTree → Word → Span → Expression → Statement
    assign : Span → Expression → Word → Bool → Option Expression → Statement
    call_statement : Span → Expression → Statement
    branch : Span → Expression → Statement → OptionalStatement → Statement
    while_loop : Span → List Clause → Expression → Statement → Statement
    for_loop : Span → List Clause → OptionalStatement → Option Expression → OptionalStatement → Statement → Statement
    return : Span → Option Expression → Statement
    throw : Span → Expression → Statement
    attempt : Span → Body → Catches → Statement
    break : Span → Statement
    continue : Span → Statement
    empty : Span → Statement
    assertion : Span → Expression → Statement
    set_statement : Span → Expression → Span → Expression → Statement
    super_call : Span → Expressions → Statement

  pub data Body : Type 0 where
    body : Statements → Span → Body

  pub data Catch : Type 0 where
    catch : Bool → Word → Word → Body → Catch

  pub data Statements : Type 0 where
    no_statements : Statements
    more_statements : Statement → Statements → Statements

  pub data Catches : Type 0 where
    no_catches : Catches
    more_catches : Catch → Catches → Catches

  pub data OptionalStatement : Type 0 where
    no_statement : OptionalStatement
    one_statement : Statement → OptionalStatement

abbrev pub statements_of : List Statement → Statements
statements_of [] = no_statements
statements_of (s ∷ ss) = more_statements s (statements_of ss)

abbrev pub catches_of : List Catch → Catches
catches_of [] = no_catches
catches_of (c ∷ cs) = more_catches c (catches_of cs)

abbrev pub optional_of : Option Statement → OptionalStatement
optional_of None = no_statement
optional_of (Some s) = one_statement s

-- what a node of a statement stands for, once its span is known
abbrev pub StatementForm : Type 0
StatementForm = Span → Statement

-- one level of each type, with all statements inside already seen
abbrev pub stmt_node_step : StmtNode-F StatementForm Body Catch StatementForm StatementForm Statement StatementForm StatementForm → StatementForm
stmt_node_step (StmtNode-F.Block b) = λ s. block s b
stmt_node_step (StmtNode-F.Local l) = λ s. local s l.is_final l.ty l.name l.equals (view l.value)
stmt_node_step (StmtNode-F.Ghost g) = λ s. ghost_local s g.ty g.name g.equals (view g.value)
stmt_node_step (StmtNode-F.Assign a) = λ s. assign s (view a.target) a.op a.before (optional_view a.value)
stmt_node_step (StmtNode-F.Call e) = λ s. call_statement s (view e)
stmt_node_step (StmtNode-F.If form) = form
stmt_node_step (StmtNode-F.While form) = form
stmt_node_step (StmtNode-F.For form) = form
stmt_node_step (StmtNode-F.Return e) = λ s. return s (optional_view e)
stmt_node_step (StmtNode-F.Throw e) = λ s. throw s (view e)
stmt_node_step (StmtNode-F.Try form) = form
stmt_node_step StmtNode-F.Break = λ s. break s
stmt_node_step StmtNode-F.Continue = λ s. continue s
stmt_node_step StmtNode-F.Empty = λ s. empty s
stmt_node_step (StmtNode-F.Assert e) = λ s. assertion s (view e)
stmt_node_step (StmtNode-F.Set t) = λ s. set_statement s (view t.target) t.equals (view t.value)
stmt_node_step (StmtNode-F.Super es) = λ s. super_call s (expressions_of (map view es))

abbrev pub body_step : BodyTree-F StatementForm Body Catch StatementForm StatementForm Statement StatementForm StatementForm → Body
body_step b = body (statements_of b.list) b.close

abbrev pub catch_step : CatchTree-F StatementForm Body Catch StatementForm StatementForm Statement StatementForm StatementForm → Catch
catch_step c = catch c.is_final c.class c.name c.body

abbrev pub for_step : ForTree-F StatementForm Body Catch StatementForm StatementForm Statement StatementForm StatementForm → StatementForm
for_step f = λ s. for_loop s (map clause_view f.invariants) (optional_of f.first) (optional_view f.test) (optional_of f.last) f.body

abbrev pub if_step : IfTree-F StatementForm Body Catch StatementForm StatementForm Statement StatementForm StatementForm → StatementForm
if_step i = λ s. branch s (view i.test) i.then (optional_of i.other)

abbrev pub stmt_step : Stmt-F StatementForm Body Catch StatementForm StatementForm Statement StatementForm StatementForm → Statement
stmt_step s = s.node s.span

abbrev pub try_step : TryTree-F StatementForm Body Catch StatementForm StatementForm Statement StatementForm StatementForm → StatementForm
try_step t = λ s. attempt s t.body (catches_of t.catches)

abbrev pub while_step : WhileTree-F StatementForm Body Catch StatementForm StatementForm Statement StatementForm StatementForm → StatementForm
while_step w = λ s. while_loop s (map clause_view w.invariants) (view w.test) w.body

-- the statement, the node, the body and the catch that the program's trees stand for
abbrev pub statement_view : Stmt → Statement
statement_view = fold-Stmt StatementForm Body Catch StatementForm StatementForm Statement StatementForm StatementForm stmt_node_step body_step catch_step for_step if_step stmt_step try_step while_step

abbrev pub statement_node_view : StmtNode → StatementForm
statement_node_view = fold-StmtNode StatementForm Body Catch StatementForm StatementForm Statement StatementForm StatementForm stmt_node_step body_step catch_step for_step if_step stmt_step try_step while_step

abbrev pub body_view : BodyTree → Body
body_view = fold-BodyTree StatementForm Body Catch StatementForm StatementForm Statement StatementForm StatementForm stmt_node_step body_step catch_step for_step if_step stmt_step try_step while_step

abbrev pub catch_view : CatchTree → Catch
catch_view = fold-CatchTree StatementForm Body Catch StatementForm StatementForm Statement StatementForm StatementForm stmt_node_step body_step catch_step for_step if_step stmt_step try_step while_step
