-- The trees of expressions and statements as plain data, and how the program's trees are seen as it.
use Rattle.std.specs.Prelude.{ℤ, Bool, Option, Some, None, List, [], ◌∷◌, map}
use Rattle.jesc_text.specs.declared.place.Place.{Place}
use Rattle.jesc_tree.specs.declared.ids.ClassId.{ClassId}
use Rattle.jesc_tree.specs.declared.ids.FieldId.{FieldId}
use Rattle.jesc_tree.specs.declared.ids.MethodId.{MethodId}
use Rattle.jesc_tree.specs.declared.ids.LocalId.{LocalId}
use Rattle.jesc_tree.specs.declared.ty.Ty.{Ty}
use Rattle.jesc_tree.specs.declared.ops.UnOp.{UnOp}
use Rattle.jesc_tree.specs.declared.ops.BinOp.{BinOp}
use Rattle.jesc_tree.specs.declared.ops.TAssign.{TAssign}
use Rattle.jesc_tree.specs.declared.expr.TExpr.{TExpr, fold-TExpr}
use Rattle.jesc_tree.specs.declared.expr.CallHow.TheOpen.{CallHow-F, TNode-F, TBinary-F, TCall-F, TChoose-F, TExpr-F, TField-F, TIndex-F, TInstance-F, TNew-F, TQuant-F, TUnary-F}
use Rattle.jesc_tree.specs.declared.spec.TSpec.{TSpec}
use Rattle.jesc_tree.specs.declared.stmt.TStmt.{TStmt, fold-TStmt}
use Rattle.jesc_tree.specs.declared.stmt.TStmtNode.TheOpen.{TStmtNode-F, TBlock-F, TCatch-F, TFor-F, TIf-F, TStmt-F, TTry-F, TWhile-F}

-- ---- expressions

mutual
  -- its first token's place, the place of its checks, that of its dot, its type and its form
  pub data Expression : Type 0 where
    expression : (start at dot : Place) → Ty → Form → Expression

  pub data Form : Type 0 where
    number : ℤ → Form
    truth : Bool → Form
    null : Form
    this : Form
    outcome : Form
    local : LocalId → Form
    constant : FieldId → Form
    member : Expression → FieldId → Form
    size : Expression → Form
    index : Expression → Expression → Form
    unary : UnOp → Expression → Form
    binary : BinOp → Expression → Expression → Form
    choose : Expression → Expression → Expression → Form
    cast : Expression → Form
    instance_of : Expression → Ty → Form
    call : Receiver → ClassId → MethodId → Expressions → Form
    new_object : MethodId → Expressions → Form
    new_array : Expression → Form
    old : Expression → Form
    fresh : Expression → Form
    quantifier : Bool → LocalId → Expression → Bool → Expression → Bool → Expression → Form

  pub data Receiver : Type 0 where
    on : Expression → Receiver
    super : Receiver
    static : Receiver

  pub data Expressions : Type 0 where
    no_expressions : Expressions
    more_expressions : Expression → Expressions → Expressions

abbrev pub expressions_of : List Expression → Expressions
expressions_of [] = no_expressions
expressions_of (e ∷ es) = more_expressions e (expressions_of es)

-- one level of each type, with all inside already seen
abbrev pub how_step : CallHow-F Receiver Form Form Form Form Expression Form Form Form Form Form Form → Receiver
how_step (CallHow-F.On e) = on e
how_step CallHow-F.Super = super
how_step CallHow-F.Static = static

abbrev pub node_step : TNode-F Receiver Form Form Form Form Expression Form Form Form Form Form Form → Form
node_step (TNode-F.Number n) = number n
node_step (TNode-F.Truth b) = truth b
node_step TNode-F.Null = null
node_step TNode-F.This = this
node_step TNode-F.Result = outcome
node_step (TNode-F.Local l) = local l
node_step (TNode-F.Constant f) = constant f
node_step (TNode-F.Field form) = form
node_step (TNode-F.Length e) = size e
node_step (TNode-F.Index form) = form
node_step (TNode-F.Unary form) = form
node_step (TNode-F.Binary form) = form
node_step (TNode-F.Choose form) = form
node_step (TNode-F.Cast e) = cast e
node_step (TNode-F.InstanceOf form) = form
node_step (TNode-F.Call form) = form
node_step (TNode-F.New form) = form
node_step (TNode-F.NewArray e) = new_array e
node_step (TNode-F.Old e) = old e
node_step (TNode-F.Fresh e) = fresh e
node_step (TNode-F.Quant form) = form

abbrev pub binary_step : TBinary-F Receiver Form Form Form Form Expression Form Form Form Form Form Form → Form
binary_step b = binary b.op b.left b.right

abbrev pub call_step : TCall-F Receiver Form Form Form Form Expression Form Form Form Form Form Form → Form
call_step c = call c.how c.class c.method (expressions_of c.args)

abbrev pub choose_step : TChoose-F Receiver Form Form Form Form Expression Form Form Form Form Form Form → Form
choose_step c = choose c.test c.yes c.no

abbrev pub expr_step : TExpr-F Receiver Form Form Form Form Expression Form Form Form Form Form Form → Expression
expr_step e = expression e.start e.at e.dot e.ty e.node

abbrev pub field_step : TField-F Receiver Form Form Form Form Expression Form Form Form Form Form Form → Form
field_step f = member f.base f.field

abbrev pub index_step : TIndex-F Receiver Form Form Form Form Expression Form Form Form Form Form Form → Form
index_step i = index i.base i.index

abbrev pub instance_step : TInstance-F Receiver Form Form Form Form Expression Form Form Form Form Form Form → Form
instance_step i = instance_of i.e i.ty

abbrev pub new_step : TNew-F Receiver Form Form Form Form Expression Form Form Form Form Form Form → Form
new_step n = new_object n.method (expressions_of n.args)

abbrev pub quant_step : TQuant-F Receiver Form Form Form Form Expression Form Form Form Form Form Form → Form
quant_step q = quantifier q.universal q.variable q.low q.low_strict q.high q.high_strict q.body

abbrev pub unary_step : TUnary-F Receiver Form Form Form Form Expression Form Form Form Form Form Form → Form
unary_step u = unary u.op u.e

-- the expression that the program's tree stands for
abbrev pub view : TExpr → Expression
view = fold-TExpr Receiver Form Form Form Form Expression Form Form Form Form Form Form how_step node_step binary_step call_step choose_step expr_step field_step index_step instance_step new_step quant_step unary_step

abbrev pub optional_view : Option TExpr → Option Expression
optional_view None = None
optional_view (Some e) = Some (view e)

-- ---- clauses

pub record Clause : Type 0 where
  pub by : Place
  pub e : Expression

abbrev pub clause_view : TSpec → Clause
clause_view s = record { by = s.by; e = view s.e }

-- ---- statements

mutual
  pub data Statement : Type 0 where
    statement : (at : Place) → StatementForm → Statement

  pub data StatementForm : Type 0 where
    block : Block → StatementForm
    local_variable : LocalId → Ty → Expression → StatementForm
    ghost_local : LocalId → Ty → Place → Expression → StatementForm
    assign : Expression → TAssign → Option Expression → StatementForm
    call_statement : Expression → StatementForm
    branch : Expression → Statement → OptionalStatement → StatementForm
    while_loop : List Clause → Statements → Expression → Statement → StatementForm
    for_loop : List Clause → Statements → Statements → Option Expression → Statements → Statement → StatementForm
    return : Option Expression → StatementForm
    throw : Expression → StatementForm
    attempt : Statement → Catches → StatementForm
    break : StatementForm
    continue : StatementForm
    empty : StatementForm
    assertion : Expression → StatementForm
    set_statement : Place → Expression → Expression → StatementForm
    super_call : MethodId → Expressions → StatementForm

  pub data Block : Type 0 where
    statements : Statements → Place → Block

  pub data Catch : Type 0 where
    catch : ClassId → LocalId → Statement → Catch

  pub data Statements : Type 0 where
    no_statements : Statements
    more_statements : Statement → Statements → Statements

  pub data Catches : Type 0 where
    no_catches : Catches
    more_catches : Catch → Catches → Catches

  pub data OptionalStatement : Type 0 where
    no_statement : OptionalStatement
    one_statement : Statement → OptionalStatement

abbrev pub statements_of : List Statement → Statements
statements_of [] = no_statements
statements_of (s ∷ ss) = more_statements s (statements_of ss)

abbrev pub catches_of : List Catch → Catches
catches_of [] = no_catches
catches_of (c ∷ cs) = more_catches c (catches_of cs)

abbrev pub optional_of : Option Statement → OptionalStatement
optional_of None = no_statement
optional_of (Some s) = one_statement s

-- one level of each type, with all statements inside already seen
abbrev pub stmt_node_step : TStmtNode-F StatementForm Block Catch StatementForm StatementForm Statement StatementForm StatementForm → StatementForm
stmt_node_step (TStmtNode-F.Block b) = block b
stmt_node_step (TStmtNode-F.Local l) = local_variable l.local l.ty (view l.value)
stmt_node_step (TStmtNode-F.Ghost g) = ghost_local g.local g.ty g.word (view g.value)
stmt_node_step (TStmtNode-F.Assign a) = assign (view a.target) a.op (optional_view a.value)
stmt_node_step (TStmtNode-F.Call e) = call_statement (view e)
stmt_node_step (TStmtNode-F.If form) = form
stmt_node_step (TStmtNode-F.While form) = form
stmt_node_step (TStmtNode-F.For form) = form
stmt_node_step (TStmtNode-F.Return e) = return (optional_view e)
stmt_node_step (TStmtNode-F.Throw e) = throw (view e)
stmt_node_step (TStmtNode-F.Try form) = form
stmt_node_step TStmtNode-F.Break = break
stmt_node_step TStmtNode-F.Continue = continue
stmt_node_step TStmtNode-F.Empty = empty
stmt_node_step (TStmtNode-F.Assert e) = assertion (view e)
stmt_node_step (TStmtNode-F.Set t) = set_statement t.word (view t.target) (view t.value)
stmt_node_step (TStmtNode-F.Super s) = super_call s.method (expressions_of (map view s.args))

abbrev pub block_step : TBlock-F StatementForm Block Catch StatementForm StatementForm Statement StatementForm StatementForm → Block
block_step b = statements (statements_of b.list) b.close

abbrev pub catch_step : TCatch-F StatementForm Block Catch StatementForm StatementForm Statement StatementForm StatementForm → Catch
catch_step c = catch c.class c.local c.body

abbrev pub for_step : TFor-F StatementForm Block Catch StatementForm StatementForm Statement StatementForm StatementForm → StatementForm
for_step f = for_loop (map clause_view f.invariants) (statements_of f.first) (statements_of f.prelude) (optional_view f.test) (statements_of f.last) f.body

abbrev pub if_step : TIf-F StatementForm Block Catch StatementForm StatementForm Statement StatementForm StatementForm → StatementForm
if_step i = branch (view i.test) i.then (optional_of i.other)

abbrev pub stmt_step : TStmt-F StatementForm Block Catch StatementForm StatementForm Statement StatementForm StatementForm → Statement
stmt_step s = statement s.at s.node

abbrev pub try_step : TTry-F StatementForm Block Catch StatementForm StatementForm Statement StatementForm StatementForm → StatementForm
try_step t = attempt t.body (catches_of t.catches)

abbrev pub while_step : TWhile-F StatementForm Block Catch StatementForm StatementForm Statement StatementForm StatementForm → StatementForm
while_step w = while_loop (map clause_view w.invariants) (statements_of w.prelude) (view w.test) w.body

-- the statement that the program's tree stands for
abbrev pub statement_view : TStmt → Statement
statement_view = fold-TStmt StatementForm Block Catch StatementForm StatementForm Statement StatementForm StatementForm stmt_node_step block_step catch_step for_step if_step stmt_step try_step while_step
