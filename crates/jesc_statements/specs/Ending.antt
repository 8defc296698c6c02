-- Whether a statement can end, so that what stands behind it is reached. This is simpler than JLS 14.22: only a loop whose
-- condition is the literal `true`, or missing, is taken to run for ever.
use Rattle.std.specs.Prelude.{◌&&◌, ◌||◌, not, Bool, true, false, Option, Some, None}
use Rattle.jesc_ast.specs.Trees.{Expression, truth, Statement, block, branch, while_loop, for_loop, return, throw, attempt, break, continue, Body, body, catch, Statements, no_statements, more_statements, Catches, no_catches, more_catches, OptionalStatement, no_statement, one_statement}

abbrev mutual
  -- a `break` in it belongs to the loop around it
  pub has_break : Statement → Bool
  has_break (block s b) = body_has_break b
  has_break (branch s test first other) = has_break first || other_has_break other
  has_break (attempt s b cs) = body_has_break b || catch_has_break cs
  has_break (break s) = true
  has_break _ = false

  pub other_has_break : OptionalStatement → Bool
  other_has_break no_statement = false
  other_has_break (one_statement s) = has_break s

  pub body_has_break : Body → Bool
  body_has_break (body ss close) = one_has_break ss

  pub one_has_break : Statements → Bool
  one_has_break no_statements = false
  one_has_break (more_statements s ss) = has_break s || one_has_break ss

  pub catch_has_break : Catches → Bool
  catch_has_break no_catches = false
  catch_has_break (more_catches (catch is_final class name b) cs) = body_has_break b || catch_has_break cs

abbrev pub is_literal_true : Expression → Bool
is_literal_true (truth s b) = b
is_literal_true e = false

abbrev pub is_endless : Option Expression → Bool
is_endless None = true
is_endless (Some e) = is_literal_true e

abbrev mutual
  pub can_end : Statement → Bool
  can_end (block s b) = body_can_end b
  can_end (branch s test first no_statement) = true
  can_end (branch s test first (one_statement other)) = can_end first || can_end other
  can_end (while_loop s invariants test turn) = not (is_literal_true test) || has_break turn
  can_end (for_loop s invariants first test last turn) = not (is_endless test) || has_break turn
  can_end (return s e) = false
  can_end (throw s e) = false
  can_end (attempt s b cs) = body_can_end b || catch_can_end cs
  can_end (break s) = false
  can_end (continue s) = false
  can_end _ = true

  pub body_can_end : Body → Bool
  body_can_end (body ss close) = all_can_end ss

  pub all_can_end : Statements → Bool
  all_can_end no_statements = true
  all_can_end (more_statements s ss) = can_end s && all_can_end ss

  pub catch_can_end : Catches → Bool
  catch_can_end no_catches = false
  catch_can_end (more_catches (catch is_final class name b) cs) = body_can_end b || catch_can_end cs
