-- How deep a tree is, and how deep its quantifiers nest. Each expression, parenthesis and statement counts one.
use Rattle.std.specs.Prelude.{ℕ, ◌+◌, ◌≤◌, max, Option, Some, None, List, [], ◌∷◌}
use Rattle.jesc_ast.specs.Trees.{Expression, number, truth, null, this, outcome, name, paren, member, index, unary, binary, choose, cast, instance_of, call, new_object, new_array, old, fresh, quantifier, Receiver, implied, super, on, Expressions, no_expressions, more_expressions, Clause, Statement, block, local, ghost_local, assign, call_statement, branch, while_loop, for_loop, return, throw, attempt, break, continue, empty, assertion, set_statement, super_call, Body, body, Catch, catch, Statements, no_statements, more_statements, Catches, no_catches, more_catches, OptionalStatement, no_statement, one_statement}
use Rattle.jesc_ast.specs.SpecTrees.{StoreForm, nothing, everything, path, star, element, range, all_elements, Store, Promise, promises, assigns, signals, signals_only, Case, Specification}
use Rattle.jesc_ast.specs.FileTrees.{MemberForm, no_member, field, spec_field, class_invariant, represents, method, constructor_member, Member, Class, SourceUnit}

-- ---- expressions

abbrev mutual
  -- the nodes on the way from the root to the deepest leaf
  pub depth : Expression → ℕ
  depth (number s x) = 1
  depth (truth s b) = 1
  depth (null s) = 1
  depth (this s) = 1
  depth (outcome s) = 1
  depth (name s x) = 1
  depth (paren s e) = depth e + 1
  depth (member s e dot w) = depth e + 1
  depth (index s e bracket i) = max (depth e) (depth i) + 1
  depth (unary s op e) = depth e + 1
  depth (binary s op a b) = max (depth a) (depth b) + 1
  depth (choose s c question a b) = max (max (depth c) (depth a)) (depth b) + 1
  depth (cast s t e) = depth e + 1
  depth (instance_of s e t) = depth e + 1
  depth (call s r w es) = max (receiver_depth r) (greatest_depth es) + 1
  depth (new_object s w es) = greatest_depth es + 1
  depth (new_array s w e) = depth e + 1
  depth (old s e) = depth e + 1
  depth (fresh s e) = depth e + 1
  depth (quantifier s all w low low_strict high high_strict e) = max (max (depth low) (depth high)) (depth e) + 1

  pub receiver_depth : Receiver → ℕ
  receiver_depth implied = 0
  receiver_depth super = 0
  receiver_depth (on e dot) = depth e

  pub greatest_depth : Expressions → ℕ
  greatest_depth no_expressions = 0
  greatest_depth (more_expressions e es) = max (depth e) (greatest_depth es)

abbrev mutual
  -- the quantifiers on the way from the root to a leaf, where they are most
  pub nesting : Expression → ℕ
  nesting (number s x) = 0
  nesting (truth s b) = 0
  nesting (null s) = 0
  nesting (this s) = 0
  nesting (outcome s) = 0
  nesting (name s x) = 0
  nesting (paren s e) = nesting e
  nesting (member s e dot w) = nesting e
  nesting (index s e bracket i) = max (nesting e) (nesting i)
  nesting (unary s op e) = nesting e
  nesting (binary s op a b) = max (nesting a) (nesting b)
  nesting (choose s c question a b) = max (max (nesting c) (nesting a)) (nesting b)
  nesting (cast s t e) = nesting e
  nesting (instance_of s e t) = nesting e
  nesting (call s r w es) = max (receiver_nesting r) (greatest_nesting es)
  nesting (new_object s w es) = greatest_nesting es
  nesting (new_array s w e) = nesting e
  nesting (old s e) = nesting e
  nesting (fresh s e) = nesting e
  nesting (quantifier s all w low low_strict high high_strict e) = max (max (nesting low) (nesting high)) (nesting e) + 1

  pub receiver_nesting : Receiver → ℕ
  receiver_nesting implied = 0
  receiver_nesting super = 0
  receiver_nesting (on e dot) = nesting e

  pub greatest_nesting : Expressions → ℕ
  greatest_nesting no_expressions = 0
  greatest_nesting (more_expressions e es) = max (nesting e) (greatest_nesting es)

-- the two limits, for an expression that stands at the top of a member
pub record IsWithinLimits (e : Expression) : Type 0 where
  pub shallow : depth e ≤ 200
  pub flat : nesting e ≤ 3

-- ---- a measure of a tree's expressions, and of the nodes above them

-- the greatest of the expressions' measures, with so much added for each statement on the way to them
module _ (of_expression : Expression → ℕ) (for_statement : ℕ) where
  abbrev pub of_option : Option Expression → ℕ
  of_option None = 0
  of_option (Some e) = of_expression e

  abbrev pub of_clauses : List Clause → ℕ
  of_clauses [] = 0
  of_clauses (c ∷ cs) = max (of_expression c.e) (of_clauses cs)

  abbrev pub of_expressions : Expressions → ℕ
  of_expressions no_expressions = 0
  of_expressions (more_expressions e es) = max (of_expression e) (of_expressions es)

  abbrev mutual
    pub of_statement : Statement → ℕ
    of_statement (block s b) = of_body b + for_statement
    of_statement (local s is_final t w equals e) = of_expression e + for_statement
    of_statement (ghost_local s t w equals e) = of_expression e + for_statement
    of_statement (assign s target op before e) = max (of_expression target) (of_option e) + for_statement
    of_statement (call_statement s e) = of_expression e + for_statement
    of_statement (branch s test first other) = max (max (of_expression test) (of_statement first)) (of_optional other) + for_statement
    of_statement (while_loop s invariants test turn) = max (max (of_clauses invariants) (of_expression test)) (of_statement turn) + for_statement
    of_statement (for_loop s invariants first test last turn) =
        max (max (max (of_clauses invariants) (of_optional first)) (max (of_option test) (of_optional last))) (of_statement turn) + for_statement
    of_statement (return s e) = of_option e + for_statement
    of_statement (throw s e) = of_expression e + for_statement
    of_statement (attempt s b cs) = max (of_body b) (of_catches cs) + for_statement
    of_statement (break s) = for_statement
    of_statement (continue s) = for_statement
    of_statement (empty s) = for_statement
    of_statement (assertion s e) = of_expression e + for_statement
    of_statement (set_statement s target equals e) = max (of_expression target) (of_expression e) + for_statement
    of_statement (super_call s es) = of_expressions es + for_statement

    pub of_body : Body → ℕ
    of_body (body ss close) = of_statements ss

    pub of_catch : Catch → ℕ
    of_catch (catch is_final class w b) = of_body b

    pub of_statements : Statements → ℕ
    of_statements no_statements = 0
    of_statements (more_statements s ss) = max (of_statement s) (of_statements ss)

    pub of_catches : Catches → ℕ
    of_catches no_catches = 0
    of_catches (more_catches c cs) = max (of_catch c) (of_catches cs)

    pub of_optional : OptionalStatement → ℕ
    of_optional no_statement = 0
    of_optional (one_statement s) = of_statement s

  abbrev pub of_store : StoreForm → ℕ
  of_store nothing = 0
  of_store everything = 0
  of_store (path e) = of_expression e
  of_store (star e) = of_expression e
  of_store (element e i) = max (of_expression e) (of_expression i)
  of_store (range e first last) = max (of_expression e) (max (of_expression first) (of_expression last))
  of_store (all_elements e) = of_expression e

  abbrev pub of_stores : List Store → ℕ
  of_stores [] = 0
  of_stores (t ∷ ts) = max (of_store t.form) (of_stores ts)

  abbrev pub of_spec_clause : Promise → ℕ
  of_spec_clause (promises c) = of_expression c.e
  of_spec_clause (assigns w ts) = of_stores ts
  of_spec_clause (signals w p class n e) = of_option e
  of_spec_clause (signals_only s ws) = 0

  abbrev pub of_spec_clauses : List Promise → ℕ
  of_spec_clauses [] = 0
  of_spec_clauses (c ∷ cs) = max (of_spec_clause c) (of_spec_clauses cs)

  abbrev pub of_cases : List Case → ℕ
  of_cases [] = 0
  of_cases (c ∷ cs) = max (max (of_clauses c.demands) (of_spec_clauses c.promises)) (of_cases cs)

  abbrev pub of_spec : Option Specification → ℕ
  of_spec None = 0
  of_spec (Some t) = of_cases t.cases

  abbrev pub of_method_body : Option Body → ℕ
  of_method_body None = 0
  of_method_body (Some b) = of_body b

  abbrev pub of_member : MemberForm → ℕ
  of_member no_member = 0
  of_member (field ws ty w equals value groups) = of_option value
  of_member (spec_field ws ty w equals value groups) = of_option value
  of_member (class_invariant ws e) = of_expression e
  of_member (represents visibility w op e) = of_expression e
  of_member (method spec ws result w params throws b) = max (of_spec spec) (of_method_body b)
  of_member (constructor_member spec ws w params throws b) = max (of_spec spec) (of_body b)

  abbrev pub of_members : List Member → ℕ
  of_members [] = 0
  of_members (m ∷ ms) = max (of_member m.form) (of_members ms)

  abbrev pub of_classes : List Class → ℕ
  of_classes [] = 0
  of_classes (c ∷ cs) = max (of_members c.members) (of_classes cs)

-- the two limits, for a method's specification, a member and a file
pub record IsSpecWithinLimits (t : Specification) : Type 0 where
  pub shallow : of_cases depth 1 t.cases ≤ 200
  pub flat : of_cases nesting 0 t.cases ≤ 3

pub record IsMemberWithinLimits (m : Member) : Type 0 where
  pub shallow : of_member depth 1 m.form ≤ 200
  pub flat : of_member nesting 0 m.form ≤ 3

pub record IsFileWithinLimits (f : SourceUnit) : Type 0 where
  pub shallow : of_classes depth 1 f.classes ≤ 200
  pub flat : of_classes nesting 0 f.classes ≤ 3
