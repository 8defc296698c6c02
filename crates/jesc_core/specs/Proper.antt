-- What is asked of a core before conditions are made of it.
use Rattle.std.specs.Prelude.{ℕ, suc, ◌<◌, ◌≤◌, List, [], ◌∷◌, All, Contains}
use Rattle.jesc_core.specs.Trees.{TermTree, number, variable, applied, field, element, top, built, choose, TermTrees, no_terms, more_terms, FormulaTree, truth, falsity, at_most, equal, negation, both, either, all, any, RangeTree, range, FrameTree, StepTree, assume, check, assign, keep, write, write_element, make, build, havoc, branch, block, leave, stop, CoreTree, done, next, CoreTrees, no_cores, more_cores}
use Rattle.jesc_core.specs.Fields.{field_count}

-- the symbols of a structure that a core may name, each with its number of arguments: sum, product, quotient and remainder,
-- the dynamic type and the length of an object, a local at a choice, `this`, and the result and the exception of a choice
abbrev pub core_symbols : List (ℕ × ℕ)
core_symbols = (0, 2) ∷ (1, 2) ∷ (2, 2) ∷ (3, 2) ∷ (5, 1) ∷ (6, 1) ∷ (9, 2) ∷ (10, 0) ∷ (11, 1) ∷ (12, 1) ∷ []

abbrev pub term_count : TermTrees → ℕ
term_count no_terms = 0
term_count (more_terms t ts) = suc (term_count ts)

-- each symbol is one of these, with as many arguments
abbrev mutual
  pub IsProperTerm : TermTree → Type 0
  IsProperTerm (number n) = Unit {0}
  IsProperTerm (variable x) = Unit {0}
  IsProperTerm (applied symbol args) = Contains core_symbols (symbol, term_count args) × AreProperTerms args
  IsProperTerm (field h f object) = IsProperTerm object
  IsProperTerm (element h array index) = IsProperTerm array × IsProperTerm index
  IsProperTerm (top h) = Unit {0}
  IsProperTerm (built h object) = IsProperTerm object
  IsProperTerm (choose f a b) = IsProperFormula f × IsProperTerm a × IsProperTerm b

  pub AreProperTerms : TermTrees → Type 0
  AreProperTerms no_terms = Unit {0}
  AreProperTerms (more_terms t ts) = IsProperTerm t × AreProperTerms ts

  pub IsProperFormula : FormulaTree → Type 0
  IsProperFormula truth = Unit {0}
  IsProperFormula falsity = Unit {0}
  IsProperFormula (at_most a b) = IsProperTerm a × IsProperTerm b
  IsProperFormula (equal a b) = IsProperTerm a × IsProperTerm b
  IsProperFormula (negation f) = IsProperFormula f
  IsProperFormula (both f g) = IsProperFormula f × IsProperFormula g
  IsProperFormula (either f g) = IsProperFormula f × IsProperFormula g
  IsProperFormula (all r) = IsProperRange r
  IsProperFormula (any r) = IsProperRange r

  pub IsProperRange : RangeTree → Type 0
  IsProperRange (range x sort low high body) = IsProperTerm low × IsProperTerm high × IsProperFormula body

abbrev pub IsProperFrame : FrameTree → Type 0
IsProperFrame frame = All IsProperFormula frame.fields × IsProperFormula frame.elements

-- the same of each term inside, and each `leave` leaves one of the blocks around it, of which there are so many
abbrev mutual
  pub IsProperStep : ℕ → StepTree → Type 0
  IsProperStep blocks (assume f) = IsProperFormula f
  IsProperStep blocks (check failure f) = IsProperFormula f
  IsProperStep blocks (assign x t) = IsProperTerm t
  IsProperStep blocks (keep k) = Unit {0}
  IsProperStep blocks (write f object v) = IsProperTerm object × IsProperTerm v
  IsProperStep blocks (write_element array index v) = IsProperTerm array × IsProperTerm index × IsProperTerm v
  IsProperStep blocks (make x ty size) = IsProperTerm size
  IsProperStep blocks (build object) = IsProperTerm object
  IsProperStep blocks (havoc x frame) = IsProperFrame frame
  IsProperStep blocks (branch place cores) = AreProperCores blocks cores
  IsProperStep blocks (block core) = IsProperInside (suc blocks) core
  IsProperStep blocks (leave depth) = depth < blocks
  IsProperStep blocks stop = Unit {0}

  pub IsProperInside : ℕ → CoreTree → Type 0
  IsProperInside blocks done = Unit {0}
  IsProperInside blocks (next step rest) = IsProperStep blocks step × IsProperInside blocks rest

  pub AreProperCores : ℕ → CoreTrees → Type 0
  AreProperCores blocks no_cores = Unit {0}
  AreProperCores blocks (more_cores core cores) = IsProperInside blocks core × AreProperCores blocks cores

-- besides, each number of a field is below 2^31 - 64
pub record IsProper (core : CoreTree) : Type 0 where
  pub inside : IsProperInside 0 core
  pub fields : field_count core ≤ 2147483584
