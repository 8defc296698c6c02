-- The ids that types, trees and tables hold.
use Rattle.std.specs.Prelude.{Option, Some, None, List, [], ◌∷◌, ◌++◌, map}
use Rattle.jesc_tree.specs.declared.ids.ClassId.{ClassId}
use Rattle.jesc_tree.specs.declared.ids.FieldId.{FieldId}
use Rattle.jesc_tree.specs.declared.ids.MethodId.{MethodId}
use Rattle.jesc_tree.specs.declared.ty.Elem.TheVariants as elem
use Rattle.jesc_tree.specs.declared.ty.Ty.{Ty}
use Rattle.jesc_tree.specs.declared.ty.Ty.TheVariants as ty
use Rattle.jesc_tree.specs.declared.expr.TExpr.{TExpr}
use Rattle.jesc_tree.specs.declared.spec.TSpec.{TSpec}
use Rattle.jesc_tree.specs.declared.spec.TStoreNode.{TStoreNode}
use Rattle.jesc_tree.specs.declared.spec.TStoreNode.TheVariants as store
use Rattle.jesc_tree.specs.declared.spec.Case.{Case}
use Rattle.jesc_tree.specs.declared.stmt.TStmt.{TStmt}
use Rattle.jesc_tree.specs.declared.class.Class.{Class}
use Rattle.jesc_tree.specs.declared.class.Field.{Field}
use Rattle.jesc_tree.specs.declared.class.Init.{Init}
use Rattle.jesc_tree.specs.declared.class.Method.{Method}
use Rattle.jesc_tree.specs.Trees.{Expression, Form, Receiver, Expressions, Clause, Statement, StatementForm, Statements, Catches, view, statement_view}
use Rattle.jesc_tree.specs.Trees.{expression, number, truth, null, this, outcome, local, constant, member, size, index, unary, binary, choose, cast, instance_of, call, new_object, new_array, old, fresh, quantifier}
use Rattle.jesc_tree.specs.Trees.{on, super, static, no_expressions, more_expressions}
use Rattle.jesc_tree.specs.Trees.{statement, block, local_variable, ghost_local, assign, call_statement, branch, while_loop, for_loop, return, throw, attempt, break, continue, empty, assertion, set_statement, super_call}
use Rattle.jesc_tree.specs.Trees.{statements, catch, no_statements, more_statements, no_catches, more_catches, no_statement, one_statement}

pub data Id : Type 0 where
  of_class : ClassId → Id
  of_field : FieldId → Id
  of_method : MethodId → Id

-- the items that each one gives, in order
abbrev pub each : {A B : Type 0} → (A → List B) → List A → List B
each f [] = []
each f (x ∷ xs) = f x ++ each f xs

abbrev pub if_there : {A B : Type 0} → (A → List B) → Option A → List B
if_there f None = []
if_there f (Some x) = f x

abbrev pub ty_ids : Ty → List Id
ty_ids (ty.Ref c) = of_class c ∷ []
ty_ids (ty.Array (elem.Ref c)) = of_class c ∷ []
ty_ids t = []

abbrev mutual
  pub expression_ids : Expression → List Id
  expression_ids (expression s a d t form) = ty_ids t ++ form_ids form

  pub form_ids : Form → List Id
  form_ids (number n) = []
  form_ids (truth b) = []
  form_ids null = []
  form_ids this = []
  form_ids outcome = []
  form_ids (local l) = []
  form_ids (constant f) = of_field f ∷ []
  form_ids (member e f) = expression_ids e ++ of_field f ∷ []
  form_ids (size e) = expression_ids e
  form_ids (index a i) = expression_ids a ++ expression_ids i
  form_ids (unary o e) = expression_ids e
  form_ids (binary o l r) = expression_ids l ++ expression_ids r
  form_ids (choose t y n) = expression_ids t ++ expression_ids y ++ expression_ids n
  form_ids (cast e) = expression_ids e
  form_ids (instance_of e t) = expression_ids e ++ ty_ids t
  form_ids (call r c m es) = receiver_ids r ++ of_class c ∷ of_method m ∷ all_ids es
  form_ids (new_object m es) = of_method m ∷ all_ids es
  form_ids (new_array e) = expression_ids e
  form_ids (old e) = expression_ids e
  form_ids (fresh e) = expression_ids e
  form_ids (quantifier u v l ls h hs b) = expression_ids l ++ expression_ids h ++ expression_ids b

  pub receiver_ids : Receiver → List Id
  receiver_ids (on e) = expression_ids e
  receiver_ids super = []
  receiver_ids static = []

  pub all_ids : Expressions → List Id
  all_ids no_expressions = []
  all_ids (more_expressions e es) = expression_ids e ++ all_ids es

abbrev pub clause_ids : Clause → List Id
clause_ids c = expression_ids c.e

abbrev mutual
  pub statement_ids : Statement → List Id
  statement_ids (statement a form) = statement_form_ids form

  pub statement_form_ids : StatementForm → List Id
  statement_form_ids (block (statements ss close)) = statements_ids ss
  statement_form_ids (local_variable l t e) = ty_ids t ++ expression_ids e
  statement_form_ids (ghost_local l t w e) = ty_ids t ++ expression_ids e
  statement_form_ids (assign t o v) = expression_ids t ++ if_there expression_ids v
  statement_form_ids (call_statement e) = expression_ids e
  statement_form_ids (branch t a no_statement) = expression_ids t ++ statement_ids a
  statement_form_ids (branch t a (one_statement b)) = expression_ids t ++ statement_ids a ++ statement_ids b
  statement_form_ids (while_loop is p t b) = each clause_ids is ++ statements_ids p ++ expression_ids t ++ statement_ids b
  statement_form_ids (for_loop is f p t l b) = each clause_ids is ++ statements_ids f ++ statements_ids p ++ if_there expression_ids t ++ statements_ids l ++ statement_ids b
  statement_form_ids (return e) = if_there expression_ids e
  statement_form_ids (throw e) = expression_ids e
  statement_form_ids (attempt b cs) = statement_ids b ++ catches_ids cs
  statement_form_ids break = []
  statement_form_ids continue = []
  statement_form_ids empty = []
  statement_form_ids (assertion e) = expression_ids e
  statement_form_ids (set_statement w t v) = expression_ids t ++ expression_ids v
  statement_form_ids (super_call m es) = of_method m ∷ all_ids es

  pub statements_ids : Statements → List Id
  statements_ids no_statements = []
  statements_ids (more_statements s ss) = statement_ids s ++ statements_ids ss

  pub catches_ids : Catches → List Id
  catches_ids no_catches = []
  catches_ids (more_catches (catch c l b) cs) = of_class c ∷ statement_ids b ++ catches_ids cs

abbrev pub tree_ids : TExpr → List Id
tree_ids e = expression_ids (view e)

abbrev pub spec_ids : TSpec → List Id
spec_ids s = tree_ids s.e

abbrev pub body_ids : TStmt → List Id
body_ids s = statement_ids (statement_view s)

abbrev pub store_ids : TStoreNode → List Id
store_ids (store.Path e f) = tree_ids e ++ of_field f ∷ []
store_ids (store.Star e) = tree_ids e
store_ids (store.Elem a i) = tree_ids a ++ tree_ids i
store_ids (store.Range a l h) = tree_ids a ++ tree_ids l ++ tree_ids h
store_ids (store.AllElems a) = tree_ids a

abbrev pub case_ids : Case → List Id
case_ids c = tree_ids c.demands ++ each spec_ids c.promises
    ++ each (λ s. of_class s.class ∷ tree_ids s.e) c.signals
    ++ each (λ o. map of_class o.classes) c.signals_only
    ++ each (λ s. store_ids s.node) c.frame.stores

-- all ids that an entry of a table holds
abbrev pub class_ids : Class → List Id
class_ids c = if_there (λ p. of_class p ∷ []) c.parent ++ map of_class c.interfaces ++ map of_field c.fields ++ map of_method c.methods
    ++ each spec_ids c.invariants ++ each (λ r. of_field r.0 ∷ tree_ids r.1) c.represents

abbrev pub init_ids : Init → List Id
init_ids i = each body_ids i.prelude ++ tree_ids i.value

abbrev pub field_ids : Field → List Id
field_ids f = of_class f.owner ∷ ty_ids f.ty ++ if_there init_ids f.init ++ map of_field f.members

abbrev pub method_ids : Method → List Id
method_ids m = of_class m.owner ∷ each (λ p. ty_ids p.ty) m.params ++ ty_ids m.result ++ map of_class m.throws
    ++ each case_ids m.cases ++ if_there body_ids m.body
