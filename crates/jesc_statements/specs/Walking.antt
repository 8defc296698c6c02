-- What a statement stands for, or the first rule broken in it (JLS 14): its parts from left to right, then its own rule.
use Rattle.std.specs.Prelude.{ℕ, Bool, true, false, Option, Some, None, List, [], ◌∷◌, length, Ok, codes, if◌then◌else◌}
use Rattle.std.specs.List.{slice_get}
use Rattle.jesc_text.specs.declared.place.Place.{Place}
use Rattle.jesc_text.specs.declared.place.Span.{Span}
use Rattle.jesc_ast.specs.declared.word.TypeTree.{TypeTree}
use Rattle.jesc_ast.specs.declared.word.Word.{Word}
use Rattle.jesc_ast.specs.Expressions.{span_of}
use Rattle.jesc_ast.specs.Lines.{place_at}
use Rattle.jesc_ast.specs.Trees as ast
use Rattle.jesc_ast.specs.Trees.{list_of}
use Rattle.jesc_classes.specs.Answers.{Checked, and_then}
use Rattle.jesc_classes.specs.declared.rule.Rule.TheVariants.{N1, Y1}
use Rattle.jesc_meanings.specs.Ids.{method_id}
use Rattle.jesc_meanings.specs.Meanings.{class_named}
use Rattle.jesc_operands.specs.Deciding.{is_throwable}
use Rattle.jesc_tree.specs.declared.class.Method.{Method}
use Rattle.jesc_tree.specs.declared.ty.Ty.{Ty}
use Rattle.jesc_tree.specs.declared.ty.Ty.TheVariants as ty
use Rattle.jesc_tree.specs.Subtypes.{class_id}
use Rattle.jesc_tree.specs.Trees.{Clause, Expression, Statement, StatementForm, Catches, OptionalStatement, Statements, statement, block, local_variable, ghost_local, assign, call_statement, branch, while_loop, for_loop, return, throw, attempt, break, continue, empty, assertion, set_statement, super_call, statements, catch, no_statements, more_statements, no_catches, more_catches, no_statement, one_statement, expressions_of}
use Rattle.jesc_sites.specs.Parts.{refused_at, type_of}
use Rattle.jesc_sites.specs.Specified.{local_id}
use Rattle.jesc_sites.specs.declared.site.Role.TheVariants.{Operand, Whole}
use Rattle.jesc_references.specs.Calls.{arguments_fit, superclass_of}
use Rattle.jesc_references.specs.Known.{constructor_in}
use Rattle.jesc_references.specs.Written.{written_type}
use Rattle.jesc_expressions.specs.Resolving.{resolved, resolved_all}
use Rattle.jesc_statements.specs.Bodies.{Owner, Scope, standing, declared, if_new, in_code, in_note, in_super}
use Rattle.jesc_statements.specs.Targets.{assigned, condition, fitting, ghost_assigned, sign_of, value_fits, value_role}

-- what has been read, with the locals in scope behind it
pub record Walked (A : Type 0) : Type 0 where
  pub done : A
  pub scope : Scope

abbrev pub walked_to : {A : Type 0} → Scope → A → Checked (Walked A)
walked_to scope done = Ok record { done = done; scope = scope }

module _ (o : Owner) where
  abbrev pub at : Span → Place
  at span = place_at o.setting.lines span

  -- ---- statements without statements in them

  abbrev pub local_walked : Scope → Bool → TypeTree → Word → Span → ast.Expression → Checked (Walked Statement)
  local_walked scope is_final t w equals e =
      and_then (written_type (in_code o scope) t) (λ to. if_new o scope w (and_then (fitting (in_code o scope) Whole to e) (λ x.
      walked_to (declared scope w to is_final false) (statement (at equals) (local_variable (local_id (length scope)) to x)))))

  -- its initial value is read as that of a `set`, but knows no past
  abbrev pub ghost_walked : Scope → Span → TypeTree → Word → Span → ast.Expression → Checked (Walked Statement)
  ghost_walked scope span t w equals e =
      and_then (written_type (in_note o false scope) t) (λ to. if_new o scope w (and_then (fitting (in_note o false scope) Whole to e) (λ x.
      walked_to (declared scope w to false true) (statement (at equals) (ghost_local (local_id (length scope)) to (at span) x)))))

  -- `++` and `--` count as an operation with 1, which is a number
  abbrev pub assign_walked : Scope → ast.Expression → Word → Option ast.Expression → Checked Statement
  assign_walked scope target op (Some e) =
      and_then (assigned o scope target) (λ x. and_then (resolved (in_code o scope) (standing (value_role (sign_of op.text))) e) (λ y.
      and_then (value_fits o (sign_of op.text) target e x y) (λ _. Ok (statement (at op.span) (assign x (sign_of op.text) (Some y))))))
  assign_walked scope target op None =
      and_then (assigned o scope target) (λ x. and_then (value_fits o (sign_of op.text) target target x x) (λ _.
      Ok (statement (at op.span) (assign x (sign_of op.text) None))))

  abbrev pub set_walked : Scope → Span → ast.Expression → Span → ast.Expression → Checked Statement
  set_walked scope span target equals e =
      and_then (ghost_assigned o scope target) (λ x. and_then (fitting (in_note o true scope) Whole (type_of x) e) (λ y.
      Ok (statement (at equals) (set_statement (at span) x y))))

  abbrev pub return_by : Scope → Span → Option ast.Expression → Option Ty → Checked Statement
  return_by scope span None None = Ok (statement (at span) (return None))
  return_by scope span None (Some t) = refused_at Y1 o.setting.lines span (codes "return")
  return_by scope span (Some e) (Some t) = and_then (fitting (in_code o scope) Whole t e) (λ x. Ok (statement (at span) (return (Some x))))
  return_by scope span (Some e) None = and_then (resolved (in_code o scope) (standing Whole) e) (λ x. refused_at Y1 o.setting.lines span (codes "return"))

  -- the class is Throwable or a subclass
  abbrev pub thrown_class_by : Word → Option ℕ → Checked ℕ
  thrown_class_by w None = refused_at N1 o.setting.lines w.span w.text
  thrown_class_by w (Some c) = if is_throwable o.setting.classes (ty.Ref (class_id c)) then Ok c else refused_at Y1 o.setting.lines w.span w.text

  abbrev pub thrown_class : Word → Checked ℕ
  thrown_class w = thrown_class_by w (class_named o.setting.classes w.text)

  abbrev pub throw_walked : Scope → Span → ast.Expression → Checked Statement
  throw_walked scope span e = and_then (fitting (in_code o scope) Whole (ty.Ref (class_id 1)) e) (λ x. Ok (statement (at span) (throw x)))

  -- a jump out of a loop stands in one
  abbrev pub jump : Bool → Span → List ℕ → StatementForm → Checked Statement
  jump in_loop span word form = if in_loop then Ok (statement (at span) form) else refused_at Y1 o.setting.lines span word

  abbrev pub super_by : Span → List ast.Expression → List Expression → Option (ℕ × Method) → Checked Statement
  super_by span es xs None = refused_at N1 o.setting.lines span (codes "super")
  super_by span es xs (Some m) =
      and_then (arguments_fit o.setting.classes o.setting.lines xs m.1.params es) (λ _. Ok (statement (at span) (super_call (method_id m.0) (expressions_of xs))))

  abbrev pub constructor_above : Option ℕ → ℕ → Option (ℕ × Method)
  constructor_above None count = None
  constructor_above (Some class) count = constructor_in o.setting class count

  -- the call of a constructor of the superclass
  abbrev pub super_walked : Scope → Span → ast.Expressions → Checked Statement
  super_walked scope span es =
      and_then (resolved_all (in_super o scope) (standing Operand) es) (λ xs.
      super_by span (list_of es) xs (constructor_above (superclass_of (slice_get o.setting.classes o.setting.class)) (length xs)))

  -- the clause of a loop, which may speak of the past
  abbrev pub invariants_walked : Scope → List ast.Clause → Checked (List Clause)
  invariants_walked scope [] = Ok []
  invariants_walked scope (c ∷ cs) =
      and_then (condition (in_note o true scope) c.e) (λ x. and_then (invariants_walked scope cs) (λ xs. Ok (record { by = at (span_of c.e); e = x } ∷ xs)))

  abbrev pub test_walked : Scope → Option ast.Expression → Checked (Option Expression)
  test_walked scope None = Ok None
  test_walked scope (Some e) = and_then (condition (in_code o scope) e) (λ x. Ok (Some x))

  -- the invariants of a `for` stand before its local, and see it where its type is known
  abbrev pub with_known : Scope → Bool → Word → TypeTree → Checked Ty → Scope
  with_known scope is_final w t (Ok to) = declared scope w to is_final false
  with_known scope is_final w t refused = scope

  abbrev pub loop_scope : Scope → ast.OptionalStatement → Scope
  loop_scope scope (ast.one_statement (ast.local s is_final t w equals e)) = with_known scope is_final w t (written_type (in_code o scope) t)
  loop_scope scope first = scope

  -- ---- statements

  -- a statement that declares nothing
  abbrev pub keeping : Scope → Checked Statement → Checked (Walked Statement)
  keeping scope said = and_then said (walked_to scope)

  -- a body stands at its closing brace
  abbrev pub block_of : Span → Statements → Statement
  block_of close done = statement (at close) (block (statements done (at close)))

  abbrev mutual
    pub walked : Scope → Bool → ast.Statement → Checked (Walked Statement)
    walked scope in_loop (ast.block s (ast.body ss close)) =
        and_then (walked_all scope in_loop ss) (λ b. walked_to scope (statement (at s) (block (statements b.done (at close)))))
    walked scope in_loop (ast.local s is_final t w equals e) = local_walked scope is_final t w equals e
    walked scope in_loop (ast.ghost_local s t w equals e) = ghost_walked scope s t w equals e
    walked scope in_loop (ast.assign s target op before e) = keeping scope (assign_walked scope target op e)
    walked scope in_loop (ast.call_statement s e) =
        keeping scope (and_then (resolved (in_code o scope) (standing Whole) e) (λ x. Ok (statement (at s) (call_statement x))))
    walked scope in_loop (ast.branch s test first other) =
        and_then (condition (in_code o scope) test) (λ t. and_then (walked scope in_loop first) (λ a. and_then (other_walked scope in_loop other) (λ b.
        walked_to scope (statement (at s) (branch t a.done b)))))
    walked scope in_loop (ast.while_loop s invariants test turn) =
        and_then (invariants_walked scope invariants) (λ is. and_then (condition (in_code o scope) test) (λ t. and_then (walked scope true turn) (λ b.
        walked_to scope (statement (at s) (while_loop is no_statements t b.done)))))
    walked scope in_loop (ast.for_loop s invariants first test last turn) =
        and_then (invariants_walked (loop_scope scope first) invariants) (λ is. and_then (simple_walked scope first) (λ f.
        and_then (test_walked f.scope test) (λ t. and_then (simple_walked f.scope last) (λ l. and_then (walked f.scope true turn) (λ b.
        walked_to scope (statement (at s) (for_loop is f.done no_statements t l.done b.done)))))))
    walked scope in_loop (ast.return s e) = keeping scope (return_by scope s e o.returns)
    walked scope in_loop (ast.throw s e) = keeping scope (throw_walked scope s e)
    walked scope in_loop (ast.attempt s (ast.body ss close) cs) =
        and_then (walked_all scope in_loop ss) (λ b. and_then (catches_walked scope in_loop cs) (λ catches.
        walked_to scope (statement (at s) (attempt (block_of close b.done) catches))))
    walked scope in_loop (ast.break s) = keeping scope (jump in_loop s (codes "break") break)
    walked scope in_loop (ast.continue s) = keeping scope (jump in_loop s (codes "continue") continue)
    walked scope in_loop (ast.empty s) = walked_to scope (statement (at s) empty)
    walked scope in_loop (ast.assertion s e) =
        keeping scope (and_then (condition (in_note o true scope) e) (λ x. Ok (statement (at s) (assertion x))))
    walked scope in_loop (ast.set_statement s target equals e) = keeping scope (set_walked scope s target equals e)
    walked scope in_loop (ast.super_call s es) = keeping scope (super_walked scope s es)

    -- what stands in the head of a `for`: nothing, or a statement that is in no loop
    pub simple_walked : Scope → ast.OptionalStatement → Checked (Walked Statements)
    simple_walked scope ast.no_statement = walked_to scope no_statements
    simple_walked scope (ast.one_statement s) = and_then (walked scope false s) (λ w. walked_to w.scope (more_statements w.done no_statements))

    pub other_walked : Scope → Bool → ast.OptionalStatement → Checked OptionalStatement
    other_walked scope in_loop ast.no_statement = Ok no_statement
    other_walked scope in_loop (ast.one_statement s) = and_then (walked scope in_loop s) (λ w. Ok (one_statement w.done))

    -- statements one after the other
    pub walked_all : Scope → Bool → ast.Statements → Checked (Walked Statements)
    walked_all scope in_loop ast.no_statements = walked_to scope no_statements
    walked_all scope in_loop (ast.more_statements s ss) =
        and_then (walked scope in_loop s) (λ w. and_then (walked_all w.scope in_loop ss) (λ ws. walked_to ws.scope (more_statements w.done ws.done)))

    pub catches_walked : Scope → Bool → ast.Catches → Checked Catches
    catches_walked scope in_loop ast.no_catches = Ok no_catches
    catches_walked scope in_loop (ast.more_catches (ast.catch is_final class w (ast.body ss close)) cs) =
        and_then (thrown_class class) (λ c. if_new o scope w (and_then (walked_all (declared scope w (ty.Ref (class_id c)) is_final false) in_loop ss) (λ b.
        and_then (catches_walked scope in_loop cs) (λ more.
        Ok (more_catches (catch (class_id c) (local_id (length scope)) (block_of close b.done)) more)))))
