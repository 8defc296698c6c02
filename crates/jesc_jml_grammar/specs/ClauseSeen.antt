-- What the values of the parser of specifications stand for.
use Rattle.std.specs.Prelude.{ℕ, ◌≤◌, true, Option, Some, None, List, [], ◌∷◌}
use Rattle.jesc_ast.specs.Lexemes.{Lexeme}
use Rattle.jesc_ast.specs.Trees.{optional_view, Clause}
use Rattle.jesc_text.specs.declared.place.Span.{Span}
use Rattle.jesc_ast.specs.SpecTrees.{StoreForm, Store, store, store_view, Promise, Case}
use Rattle.jesc_jml_grammar.specs.declared.cursor.Lexeme as code
use Rattle.jesc_jml_grammar.specs.declared.part.Measured as code_measured
use Rattle.jesc_jml_grammar.specs.declared.part.Ended as code_ended
use Rattle.jesc_jml_grammar.specs.declared.part.Path as code_path
use Rattle.jesc_jml_grammar.specs.declared.part.Path.TheVariants as paths
use Rattle.jesc_jml_grammar.specs.declared.part.StoreStep as code_step
use Rattle.jesc_jml_grammar.specs.declared.part.StoreStep.TheVariants as steps
use Rattle.jesc_jml_grammar.specs.declared.part.Value as code_value
use Rattle.jesc_ast.specs.declared.word.Word.{Word}
use Rattle.jesc_jml_grammar.specs.declared.mark.Mark.TheVariants as m
use Rattle.jesc_jml_grammar.specs.declared.note_word.NoteWord.{NoteWord}
use Rattle.jesc_jml_grammar.specs.declared.note_word.NoteWord.TheVariants as w
use Rattle.jesc_jml_grammar.specs.Steps.{Parser, expect}
use Rattle.jesc_jml_grammar.specs.ClauseMarks.{at_mark, at_word, word_at, expect_word, is_modifier_word, may_begin_clause}
use Rattle.jesc_jml_grammar.specs.ClauseLists.{until, more_separated}
use Rattle.jesc_jml_grammar.specs.ClauseReading.{modifier, store_behind, one_store, longer, clause_of, spec_clause, one_case}
use Rattle.jesc_jml_grammar.specs.Reading.{Parsed, Start, expr, turns}
use Rattle.jesc_jml_grammar.specs.Nests.{parsed}
use Rattle.jesc_jml_grammar.specs.Seen.{lexeme}
use Rattle.jesc_jml_grammar.specs.ClauseFound.{Sized, Ended, Path, plain, with_index, StoreStep, goes_on, is_read, Value, with_word, with_more, closed, sized, optional_word, with_ended}

abbrev pub measured : {X Y : Type 0} → (X → Y) → code_measured.Measured X → Sized Y
measured view x = record { tree = view x.tree; depth = x.depth }

abbrev pub ended : {X Y : Type 0} → (X → Y) → code_ended.Ended X → Ended Y
ended view x = record { tree = view x.tree; depth = x.depth; last = x.last }

abbrev pub path_of : code_path.Path → Path
path_of (paths.Plain e) = plain (parsed e)
path_of (paths.WithIndex e p i q) = with_index (parsed e) (lexeme p) (parsed i) (lexeme q)

-- the expressions of a path are within the room
abbrev pub IsWithin : ℕ → code_path.Path → Type 0
IsWithin room (paths.Plain e) = e.depth ≤ room
IsWithin room (paths.WithIndex e p i q) = (e.depth ≤ room) × (i.depth ≤ room)

abbrev pub step_of : code_step.StoreStep → StoreStep
step_of (steps.GoesOn path) = goes_on (path_of path)
step_of (steps.IsRead t) = is_read (measured store_view t)

abbrev pub IsStepWithin : ℕ → code_step.StoreStep → Type 0
IsStepWithin room (steps.GoesOn path) = IsWithin room path
IsStepWithin room (steps.IsRead t) = Unit {0}

abbrev pub value_seen : code_value.Value → Value
value_seen v = record { equals = v.equals; e = optional_view v.e; depth = v.depth }

abbrev pub optional_lexeme : Option code.Lexeme → Option Lexeme
optional_lexeme None = None
optional_lexeme (Some x) = Some (lexeme x)

-- what a tree keeps of a token that may be missing
abbrev pub kept_word : Option code.Lexeme → Option Word
kept_word x = optional_word (optional_lexeme x)

-- a rule over the parser of the expressions inside
abbrev pub note_rule : {A : Type 0} → (ℕ → ℕ → (ℕ → ℕ → Start → Parser Parsed) → ℕ → A) → ℕ → ℕ → A
note_rule p room quantifiers = p turns room (expr true turns room) quantifiers

-- a list of one store
abbrev pub lone_store : Span → StoreForm → Sized (List Store)
lone_store span form = sized (store span form ∷ []) 0

-- ---- the rest of a list

abbrev pub more_names : ℕ → List Word → Parser (List Word)
more_names = more_separated (at_mark m.Comma) (expect true m.Comma) (expect true m.Name) with_word

abbrev pub more_modifiers : ℕ → ℕ → ℕ → List Word → Parser (List Word)
more_modifiers room quantifiers = until (λ ts. is_modifier_word (word_at ts)) (note_rule modifier room quantifiers) with_word

-- the rest of a store, in so many steps
abbrev pub stores_left : ℕ → ℕ → ℕ → Path → Parser (Sized Store)
stores_left room quantifiers = note_rule store_behind room quantifiers

-- a rule behind a longer path, where its expression is within the room
abbrev pub longer_by : ℕ → ℕ → (ℕ → ℕ → (ℕ → ℕ → Start → Parser Parsed) → ℕ → Parsed → Parser StoreStep) → Path → Parser StoreStep
longer_by room quantifiers p path = note_rule longer room quantifiers (closed path) (note_rule p room quantifiers (closed path))

abbrev pub more_stores : ℕ → ℕ → ℕ → Sized (List Store) → Parser (Sized (List Store))
more_stores room quantifiers = more_separated (at_mark m.Comma) (expect true m.Comma) (note_rule one_store room quantifiers) with_more

abbrev pub more_demands : ℕ → ℕ → ℕ → Ended (List Clause) → Parser (Ended (List Clause))
more_demands room quantifiers = until (at_word w.Requires) (note_rule clause_of room quantifiers w.Requires) with_ended

abbrev pub more_clauses : ℕ → ℕ → NoteWord → ℕ → Ended (List Promise) → Parser (Ended (List Promise))
more_clauses room quantifiers heading = until (λ ts. may_begin_clause heading (word_at ts)) (note_rule spec_clause room quantifiers) with_ended

abbrev pub cases_left : ℕ → ℕ → ℕ → Sized (List Case) → Parser (Sized (List Case))
cases_left room quantifiers = more_separated (at_word w.Also) (expect_word w.Also) (note_rule one_case room quantifiers) with_more
