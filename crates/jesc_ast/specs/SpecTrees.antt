-- The trees of methods' specifications as plain data, and how the program's trees are seen as it.
use Rattle.std.specs.Prelude.{Bool, Option, Some, None, List, map}
use Rattle.jesc_text.specs.declared.place.Span.{Span}
use Rattle.jesc_ast.specs.declared.word.Word.{Word}
use Rattle.jesc_ast.specs.declared.spec.StoreTree.{StoreTree}
use Rattle.jesc_ast.specs.declared.spec.StoreNode.{StoreNode}
use Rattle.jesc_ast.specs.declared.spec.StoreNode.TheVariants as stores
use Rattle.jesc_ast.specs.declared.spec.SpecClause.{SpecClause}
use Rattle.jesc_ast.specs.declared.spec.SpecClause.TheVariants as clauses
use Rattle.jesc_ast.specs.declared.spec.CaseTree.{CaseTree}
use Rattle.jesc_ast.specs.declared.spec.SpecTree.{SpecTree}
use Rattle.jesc_ast.specs.Trees.{Expression, view, optional_view, Clause, clause_view}

-- ---- store references

pub data StoreForm : Type 0 where
  nothing : StoreForm
  everything : StoreForm
  path : Expression → StoreForm
  star : Expression → StoreForm
  element : Expression → Expression → StoreForm
  range : Expression → Expression → Expression → StoreForm
  all_elements : Expression → StoreForm

pub record Store : Type 0 where
  pub span : Span
  pub form : StoreForm

abbrev pub store : Span → StoreForm → Store
store s form = record { span = s; form = form }

abbrev pub store_form : StoreNode → StoreForm
store_form stores.Nothing = nothing
store_form stores.Everything = everything
store_form (stores.Path e) = path (view e)
store_form (stores.Star e) = star (view e)
store_form (stores.Elem t) = element (view t.array) (view t.index)
store_form (stores.Range t) = range (view t.array) (view t.first) (view t.last)
store_form (stores.AllElems e) = all_elements (view e)

abbrev pub store_view : StoreTree → Store
store_view t = store t.span (store_form t.node)

-- ---- clauses, cases and specifications

-- what a case says, its `requires` clauses aside
pub data Promise : Type 0 where
  promises : Clause → Promise
  assigns : Word → List Store → Promise
  signals : Word → Span → Word → Option Word → Option Expression → Promise
  signals_only : Span → List Word → Promise

abbrev pub promise_view : SpecClause → Promise
promise_view (clauses.Ensures c) = promises (clause_view c)
promise_view (clauses.Assignable w ts) = assigns w (map store_view ts)
promise_view (clauses.Signals c) = signals c.word c.bracket c.class c.name (optional_view c.e)
promise_view (clauses.SignalsOnly s ws) = signals_only s ws

pub record Case : Type 0 where
  pub span : Span
  pub visibility : Option Word
  pub heading : Option Word
  pub demands : List Clause
  pub promises : List Promise

abbrev pub case_of : Span → Option Word → Option Word → List Clause → List Promise → Case
case_of s visibility heading demands ps = record { span = s; visibility = visibility; heading = heading; demands = demands; promises = ps }

abbrev pub case_view : CaseTree → Case
case_view c = case_of c.span c.visibility c.heading (map clause_view c.demands) (map promise_view c.clauses)

pub record Specification : Type 0 where
  pub also : Bool
  pub cases : List Case

abbrev pub specification : Bool → List Case → Specification
specification also cases = record { also = also; cases = cases }

abbrev pub spec_view : SpecTree → Specification
spec_view t = specification t.also (map case_view t.cases)

abbrev pub optional_spec_view : Option SpecTree → Option Specification
optional_spec_view None = None
optional_spec_view (Some t) = Some (spec_view t)
