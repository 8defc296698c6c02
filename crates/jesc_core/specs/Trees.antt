-- Cores as plain data, and how the program's trees are seen as it.
use Rattle.std.specs.Prelude.{ℕ, ℤ, Option, List, [], ◌∷◌, map}
use Rattle.jesc_text.specs.declared.place.Place.{Place}
use Rattle.jesc_tree.specs.declared.kind.Kind.{Kind}
use Rattle.jesc_logic.specs.declared.fact.Sort.{Sort}
use Rattle.jesc_core.specs.declared.term.HeapName.{HeapName}
use Rattle.jesc_core.specs.declared.term.CoreTerm.{CoreTerm, fold-CoreTerm}
use Rattle.jesc_core.specs.declared.term.CoreTermNode.{CoreTermNode, fold-CoreTermNode}
use Rattle.jesc_core.specs.declared.term.CoreFormula.{CoreFormula, fold-CoreFormula}
use Rattle.jesc_core.specs.declared.term.CoreFormulaNode.{CoreFormulaNode, fold-CoreFormulaNode}
use Rattle.jesc_core.specs.declared.term.CoreRange.{CoreRange, fold-CoreRange}
use Rattle.jesc_core.specs.declared.term.CoreFormulaNode.TheOpen.{CoreFormulaNode-F, CoreTermNode-F, CoreFormula-F, CoreRange-F, CoreTerm-F}
use Rattle.jesc_core.specs.declared.steps.Core.{Core, fold-Core}
use Rattle.jesc_core.specs.declared.steps.CoreStep.{CoreStep, fold-CoreStep}
use Rattle.jesc_core.specs.declared.steps.CoreStepNode.{CoreStepNode, fold-CoreStepNode}
use Rattle.jesc_core.specs.declared.steps.CoreCheck.{CoreCheck}
use Rattle.jesc_core.specs.declared.steps.Frame.{Frame}
use Rattle.jesc_core.specs.declared.steps.CoreStepNode.TheOpen.{CoreStepNode-F, Core-F, CoreStep-F}

-- ---- terms and formulas

mutual
  pub data TermTree : Type 0 where
    number : (n : ℤ) → TermTree
    variable : (x : ℕ) → TermTree
    applied : (symbol : ℕ) (args : TermTrees) → TermTree
    field : (h : HeapName) (f : ℕ) (object : TermTree) → TermTree
    element : (h : HeapName) (array index : TermTree) → TermTree
    top : (h : HeapName) → TermTree
    built : (h : HeapName) (object : TermTree) → TermTree
    choose : (f : FormulaTree) (a b : TermTree) → TermTree

  pub data TermTrees : Type 0 where
    no_terms : TermTrees
    more_terms : (t : TermTree) (ts : TermTrees) → TermTrees

  pub data FormulaTree : Type 0 where
    truth : FormulaTree
    falsity : FormulaTree
    at_most : (a b : TermTree) → FormulaTree
    equal : (a b : TermTree) → FormulaTree
    negation : (f : FormulaTree) → FormulaTree
    both : (f g : FormulaTree) → FormulaTree
    either : (f g : FormulaTree) → FormulaTree
    all : (r : RangeTree) → FormulaTree
    any : (r : RangeTree) → FormulaTree

  -- a variable with its sort, the least and the greatest of its numbers, and what is said of them
  pub data RangeTree : Type 0 where
    range : (x : ℕ) (sort : Sort) (low high : TermTree) (body : FormulaTree) → RangeTree

abbrev pub terms_of : List TermTree → TermTrees
terms_of [] = no_terms
terms_of (t ∷ ts) = more_terms t (terms_of ts)

-- one level of each type, with all inside already seen
abbrev pub formula_node_step : CoreFormulaNode-F FormulaTree TermTree FormulaTree RangeTree TermTree → FormulaTree
formula_node_step CoreFormulaNode-F.True = truth
formula_node_step CoreFormulaNode-F.False = falsity
formula_node_step (CoreFormulaNode-F.Le a b) = at_most a b
formula_node_step (CoreFormulaNode-F.Eq a b) = equal a b
formula_node_step (CoreFormulaNode-F.Not f) = negation f
formula_node_step (CoreFormulaNode-F.And f g) = both f g
formula_node_step (CoreFormulaNode-F.Or f g) = either f g
formula_node_step (CoreFormulaNode-F.All r) = all r
formula_node_step (CoreFormulaNode-F.Any r) = any r

abbrev pub term_node_step : CoreTermNode-F FormulaTree TermTree FormulaTree RangeTree TermTree → TermTree
term_node_step (CoreTermNode-F.Num n) = number n
term_node_step (CoreTermNode-F.Var x) = variable x
term_node_step (CoreTermNode-F.App symbol args) = applied symbol (terms_of args)
term_node_step (CoreTermNode-F.Field h f object) = field h f object
term_node_step (CoreTermNode-F.Elem h array index) = element h array index
term_node_step (CoreTermNode-F.Top h) = top h
term_node_step (CoreTermNode-F.Built h object) = built h object
term_node_step (CoreTermNode-F.Choose f a b) = choose f a b

abbrev pub formula_step : CoreFormula-F FormulaTree TermTree FormulaTree RangeTree TermTree → FormulaTree
formula_step f = f.node

abbrev pub range_step : CoreRange-F FormulaTree TermTree FormulaTree RangeTree TermTree → RangeTree
range_step r = range r.variable r.sort r.low r.high r.body

abbrev pub term_step : CoreTerm-F FormulaTree TermTree FormulaTree RangeTree TermTree → TermTree
term_step t = t.node

-- the term and the formula that the program's trees stand for
abbrev pub term_view : CoreTerm → TermTree
term_view = fold-CoreTerm FormulaTree TermTree FormulaTree RangeTree TermTree formula_node_step term_node_step formula_step range_step term_step

abbrev pub term_node_view : CoreTermNode → TermTree
term_node_view = fold-CoreTermNode FormulaTree TermTree FormulaTree RangeTree TermTree formula_node_step term_node_step formula_step range_step term_step

abbrev pub formula_view : CoreFormula → FormulaTree
formula_view = fold-CoreFormula FormulaTree TermTree FormulaTree RangeTree TermTree formula_node_step term_node_step formula_step range_step term_step

abbrev pub formula_node_view : CoreFormulaNode → FormulaTree
formula_node_view = fold-CoreFormulaNode FormulaTree TermTree FormulaTree RangeTree TermTree formula_node_step term_node_step formula_step range_step term_step

abbrev pub range_view : CoreRange → RangeTree
range_view = fold-CoreRange FormulaTree TermTree FormulaTree RangeTree TermTree formula_node_step term_node_step formula_step range_step term_step

-- ---- steps

-- what a check tells of itself: its kind, its place, and the place of what it tests, if it tests a clause or a field
pub record Failure : Type 0 where
  pub kind : Kind
  pub place : Place
  pub by : Option Place

-- formula k of `fields` tells where field k may change, and `elements` where an element may change
pub record FrameTree : Type 0 where
  pub object : ℕ
  pub index : ℕ
  pub fields : List FormulaTree
  pub elements : FormulaTree

mutual
  pub data StepTree : Type 0 where
    assume : (f : FormulaTree) → StepTree
    check : (failure : Failure) (f : FormulaTree) → StepTree
    assign : (x : ℕ) (t : TermTree) → StepTree
    keep : (k : ℕ) → StepTree
    write : (f : ℕ) (object value : TermTree) → StepTree
    write_element : (array index value : TermTree) → StepTree
    make : (x : ℕ) (ty : ℤ) (size : TermTree) → StepTree
    build : (object : TermTree) → StepTree
    havoc : (x : ℕ) (frame : FrameTree) → StepTree
    branch : (place : Place) (cores : CoreTrees) → StepTree
    block : (core : CoreTree) → StepTree
    leave : (depth : ℕ) → StepTree
    stop : StepTree

  pub data CoreTree : Type 0 where
    done : CoreTree
    next : (step : StepTree) (rest : CoreTree) → CoreTree

  pub data CoreTrees : Type 0 where
    no_cores : CoreTrees
    more_cores : (core : CoreTree) (cores : CoreTrees) → CoreTrees

abbrev pub core_of : List StepTree → CoreTree
core_of [] = done
core_of (step ∷ rest) = next step (core_of rest)

abbrev pub cores_of : List CoreTree → CoreTrees
cores_of [] = no_cores
cores_of (core ∷ cores) = more_cores core (cores_of cores)

abbrev pub failure_view : CoreCheck → Failure
failure_view c = record { kind = c.kind; place = c.place; by = c.by }

abbrev pub frame_view : Frame → FrameTree
frame_view f = record { object = f.object; index = f.index; fields = map formula_view f.fields; elements = formula_view f.elements }

-- one level of each type, with all inside already seen
abbrev pub step_node_step : CoreStepNode-F StepTree CoreTree StepTree → StepTree
step_node_step (CoreStepNode-F.Assume f) = assume (formula_view f)
step_node_step (CoreStepNode-F.Check c) = check (failure_view c) (formula_view c.formula)
step_node_step (CoreStepNode-F.Let x t) = assign x (term_view t)
step_node_step (CoreStepNode-F.Keep k) = keep k
step_node_step (CoreStepNode-F.Write f object value) = write f (term_view object) (term_view value)
step_node_step (CoreStepNode-F.WriteElem array index value) = write_element (term_view array) (term_view index) (term_view value)
step_node_step (CoreStepNode-F.New x ty length) = make x ty (term_view length)
step_node_step (CoreStepNode-F.Build object) = build (term_view object)
step_node_step (CoreStepNode-F.Havoc x frame) = havoc x (frame_view frame)
step_node_step (CoreStepNode-F.Branch place cores) = branch place (cores_of cores)
step_node_step (CoreStepNode-F.Block core) = block core
step_node_step (CoreStepNode-F.Leave depth) = leave depth
step_node_step CoreStepNode-F.Stop = stop

abbrev pub core_step : Core-F StepTree CoreTree StepTree → CoreTree
core_step c = core_of c.steps

abbrev pub step_step : CoreStep-F StepTree CoreTree StepTree → StepTree
step_step s = s.node

-- the core that the program's tree stands for
abbrev pub core_view : Core → CoreTree
core_view = fold-Core StepTree CoreTree StepTree step_node_step core_step step_step

abbrev pub step_view : CoreStep → StepTree
step_view = fold-CoreStep StepTree CoreTree StepTree step_node_step core_step step_step

abbrev pub step_node_view : CoreStepNode → StepTree
step_node_view = fold-CoreStepNode StepTree CoreTree StepTree step_node_step core_step step_step
