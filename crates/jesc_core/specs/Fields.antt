-- The fields that a core speaks of.
use Rattle.std.specs.Prelude.{ℕ, ◌+◌, max, List, [], ◌∷◌, length}
use Rattle.jesc_core.specs.Trees.{TermTree, number, variable, applied, field, element, top, built, choose, TermTrees, no_terms, more_terms, FormulaTree, truth, falsity, at_most, equal, negation, both, either, all, any, RangeTree, range, FrameTree, StepTree, assume, check, assign, keep, write, write_element, make, build, havoc, branch, block, leave, stop, CoreTree, done, next, CoreTrees, no_cores, more_cores}

-- One more than the greatest number of a field there, and 0 where there is none. A frame speaks of as many fields as it has
-- formulas for fields.
abbrev mutual
  pub fields_of_term : TermTree → ℕ
  fields_of_term (number n) = 0
  fields_of_term (variable x) = 0
  fields_of_term (applied symbol args) = fields_of_terms args
  fields_of_term (field h f object) = max (f + 1) (fields_of_term object)
  fields_of_term (element h array index) = max (fields_of_term array) (fields_of_term index)
  fields_of_term (top h) = 0
  fields_of_term (built h object) = fields_of_term object
  fields_of_term (choose f a b) = max (fields_of_formula f) (max (fields_of_term a) (fields_of_term b))

  pub fields_of_terms : TermTrees → ℕ
  fields_of_terms no_terms = 0
  fields_of_terms (more_terms t ts) = max (fields_of_term t) (fields_of_terms ts)

  pub fields_of_formula : FormulaTree → ℕ
  fields_of_formula truth = 0
  fields_of_formula falsity = 0
  fields_of_formula (at_most a b) = max (fields_of_term a) (fields_of_term b)
  fields_of_formula (equal a b) = max (fields_of_term a) (fields_of_term b)
  fields_of_formula (negation f) = fields_of_formula f
  fields_of_formula (both f g) = max (fields_of_formula f) (fields_of_formula g)
  fields_of_formula (either f g) = max (fields_of_formula f) (fields_of_formula g)
  fields_of_formula (all r) = fields_of_range r
  fields_of_formula (any r) = fields_of_range r

  pub fields_of_range : RangeTree → ℕ
  fields_of_range (range x sort low high body) = max (fields_of_term low) (max (fields_of_term high) (fields_of_formula body))

abbrev pub fields_of_formulas : List FormulaTree → ℕ
fields_of_formulas [] = 0
fields_of_formulas (f ∷ fs) = max (fields_of_formula f) (fields_of_formulas fs)

abbrev pub fields_of_frame : FrameTree → ℕ
fields_of_frame frame = max (length frame.fields) (max (fields_of_formulas frame.fields) (fields_of_formula frame.elements))

abbrev mutual
  pub fields_of_step : StepTree → ℕ
  fields_of_step (assume f) = fields_of_formula f
  fields_of_step (check failure f) = fields_of_formula f
  fields_of_step (assign x t) = fields_of_term t
  fields_of_step (keep k) = 0
  fields_of_step (write f object v) = max (f + 1) (max (fields_of_term object) (fields_of_term v))
  fields_of_step (write_element array index v) = max (fields_of_term array) (max (fields_of_term index) (fields_of_term v))
  fields_of_step (make x ty size) = fields_of_term size
  fields_of_step (build object) = fields_of_term object
  fields_of_step (havoc x frame) = fields_of_frame frame
  fields_of_step (branch place cores) = fields_of_cores cores
  fields_of_step (block core) = field_count core
  fields_of_step (leave depth) = 0
  fields_of_step stop = 0

  pub field_count : CoreTree → ℕ
  field_count done = 0
  field_count (next step rest) = max (fields_of_step step) (field_count rest)

  pub fields_of_cores : CoreTrees → ℕ
  fields_of_cores no_cores = 0
  fields_of_cores (more_cores core cores) = max (field_count core) (fields_of_cores cores)
