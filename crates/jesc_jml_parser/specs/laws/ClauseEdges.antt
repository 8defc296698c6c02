-- Which words go on with a specification, and with a member of an annotation.
use Rattle.std.specs.Prelude.{Bool, true, false, ◌&&◌, ◌||◌, Option, Some, None, List, [], ◌∷◌}
use Rattle.jesc_ast.specs.declared.word.Word.{Word}
use Rattle.jesc_ast.specs.SpecTrees.{Promise, Case, Specification}
use Rattle.jesc_ast.specs.FileTrees.{MemberForm, spec_field}
use Rattle.jesc_jml_grammar.specs.declared.note_word.NoteWord.{NoteWord}
use Rattle.jesc_jml_grammar.specs.declared.note_word.NoteWord.TheVariants as w
use Rattle.jesc_jml_grammar.specs.ClauseMarks.{plain_word, same_word, may_begin_clause}

-- the word of a case's heading, and another where there is none
abbrev pub heading_word : Option Word → NoteWord
heading_word None = w.Other
heading_word (Some heading) = plain_word heading.text

abbrev pub has_none : List Promise → Bool
has_none [] = true
has_none (c ∷ cs) = false

-- with a clause that the case may have, or with a demand where no clause stands yet
abbrev pub case_goes_on : Case → NoteWord → Bool
case_goes_on c word = may_begin_clause (heading_word c.heading) word || (has_none c.promises && same_word word w.Requires)

-- with the last case, or with a further one
abbrev pub cases_go_on : List Case → NoteWord → Bool
cases_go_on [] word = false
cases_go_on (c ∷ []) word = same_word word w.Also || case_goes_on c word
cases_go_on (c ∷ d ∷ cs) word = cases_go_on (d ∷ cs) word

abbrev pub spec_goes_on : Specification → NoteWord → Bool
spec_goes_on t word = cases_go_on t.cases word

-- with a field that has no groups yet
abbrev pub member_goes_on : MemberForm → NoteWord → Bool
member_goes_on (spec_field ws ty name equals value []) word = same_word word w.In
member_goes_on _ word = false
