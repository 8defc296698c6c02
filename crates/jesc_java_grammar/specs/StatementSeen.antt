-- The rest of rules of statements, and where these have room.
use Rattle.std.specs.Prelude.{ℕ, ◌-◌, nat_lt, false, if◌then◌else◌, List, codes}
use Rattle.jesc_ast.specs.Trees.{Catch, Statement, OptionalStatement}
use Rattle.jesc_jml_grammar.specs.declared.mark.Mark.TheVariants as m
use Rattle.jesc_jml_grammar.specs.Steps.{Parser, ◌>>=◌, ◌>>◌, pure, refuse, too_deep, expect}
use Rattle.jesc_jml_grammar.specs.ClauseFound.{Sized, with_more}
use Rattle.jesc_jml_grammar.specs.ClauseLists.{until}
use Rattle.jesc_java_grammar.specs.declared.statement_mark.Slot.{Slot}
use Rattle.jesc_java_grammar.specs.Lexing.{is_word, next_is}
use Rattle.jesc_java_grammar.specs.StatementMarks.{allows_branch}
use Rattle.jesc_java_grammar.specs.StatementFound.{ForHead, head_of}
use Rattle.jesc_java_grammar.specs.StatementReading.{optional_value, for_last, catch_, branch_}
use Rattle.jesc_java_grammar.specs.StatementNests.{over}
use Rattle.jesc_java_grammar.specs.Views.{part}

-- the rest of the head of a `for`, behind its first semicolon
abbrev pub for_test : ℕ → Sized OptionalStatement → Parser ForHead
for_test room first = do
  test ← part optional_value room m.Semicolon
  expect false m.Semicolon
  last ← part for_last (room - 1)
  expect false m.RightParen
  pure (head_of first test last)

-- the rest of a list of `catch`es
abbrev pub catches_left : ℕ → ℕ → Sized (List Catch) → Parser (Sized (List Catch))
catches_left room = until (next_is (is_word (codes "catch") false)) (over catch_ room) with_more

-- ---- where there is room for a node inside

abbrev pub roomy : {A : Type 0} → ℕ → Parser A → Parser A
roomy room p = if nat_lt 0 room then p else too_deep

abbrev pub branching : ℕ → Slot → Parser (Sized Statement)
branching room slot = if allows_branch slot then roomy room (over branch_ room) else refuse
