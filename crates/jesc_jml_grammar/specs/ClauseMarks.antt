-- What a lexeme is to the rules of specifications and of members that stand in annotations.
use Rattle.std.specs.Prelude.{ℕ, Bool, true, false, not, if◌then◌else◌, List, [], ◌∷◌, Ok, codes}
use denote.Enum.Bare.{sameb}
use Rattle.jesc_text.specs.declared.place.Span.{Span}
use Rattle.jesc_lexer.specs.declared.token.TokenKind.{TokenKind}
use Rattle.jesc_lexer.specs.declared.token.TokenKind.TheVariants as kinds
use Rattle.jesc_ast.specs.Lexemes.{Lexeme}
use Rattle.jesc_ast.specs.Words.{is_one_of}
use Rattle.jesc_jml_grammar.specs.contracts.note_word.NoteWord.{the_type}
use Rattle.jesc_jml_grammar.specs.declared.mark.Mark.{Mark}
use Rattle.jesc_jml_grammar.specs.declared.note_word.NoteWord.{NoteWord}
use Rattle.jesc_jml_grammar.specs.declared.note_word.NoteWord.TheVariants as w
use Rattle.jesc_jml_grammar.specs.Steps.{Parser, ◌>>=◌, refuse, same_mark, mark_at, take_one}

-- the texts of what has a few
abbrev pub texts : NoteWord → List (List ℕ)
texts w.Also = codes "also" ∷ []
texts w.Visibility = codes "public" ∷ codes "protected" ∷ codes "private" ∷ []
texts w.Behavior = codes "behavior" ∷ codes "behaviour" ∷ []
texts w.NormalBehavior = codes "normal_behavior" ∷ codes "normal_behaviour" ∷ []
texts w.ExceptionalBehavior = codes "exceptional_behavior" ∷ codes "exceptional_behaviour" ∷ []
texts w.Requires = codes "requires" ∷ codes "pre" ∷ []
texts w.Ensures = codes "ensures" ∷ codes "post" ∷ []
texts w.Assignable = codes "assignable" ∷ codes "modifies" ∷ codes "modifiable" ∷ codes "assigns" ∷ []
texts w.Signals = codes "signals" ∷ codes "exsures" ∷ []
texts w.SignalsOnly = codes "signals_only" ∷ []
texts w.Instance = codes "instance" ∷ []
texts w.Modifier = codes "pure" ∷ codes "helper" ∷ codes "nullable" ∷ codes "non_null" ∷ codes "spec_public" ∷ codes "spec_protected" ∷ []
texts w.Invariant = codes "invariant" ∷ []
texts w.Represents = codes "represents" ∷ []
texts w.Field = codes "ghost" ∷ codes "model" ∷ []
texts w.In = codes "in" ∷ []
texts w.Nothing = codes "\\nothing" ∷ []
texts w.Everything = codes "\\everything" ∷ []
texts w.Equals = codes "=" ∷ []
texts w.Arrow = codes "<-" ∷ []
texts w.Range = codes ".." ∷ []
texts w.Other = []

-- the first of these that has the text, or else the other
abbrev pub word_among : List NoteWord → NoteWord → List ℕ → NoteWord
word_among [] other text = other
word_among (word ∷ words) other text = if is_one_of (texts word) text then word else word_among words other text

abbrev pub member_word : List ℕ → NoteWord
member_word = word_among (w.Instance ∷ w.Modifier ∷ w.Invariant ∷ w.Represents ∷ w.Field ∷ w.In ∷ []) w.Other

abbrev pub case_word : List ℕ → NoteWord
case_word text = word_among (w.Also ∷ w.Visibility ∷ w.Behavior ∷ w.NormalBehavior ∷ w.ExceptionalBehavior ∷ []) (member_word text) text

abbrev pub plain_word : List ℕ → NoteWord
plain_word text = word_among (w.Requires ∷ w.Ensures ∷ w.Assignable ∷ w.Signals ∷ w.SignalsOnly ∷ []) (case_word text) text

abbrev pub backslash_word : List ℕ → NoteWord
backslash_word = word_among (w.Nothing ∷ w.Everything ∷ []) w.Other

abbrev pub sign_word : List ℕ → NoteWord
sign_word = word_among (w.Equals ∷ w.Arrow ∷ w.Range ∷ []) w.Other

abbrev pub word_of_kind : TokenKind → List ℕ → NoteWord
word_of_kind kinds.Word text = plain_word text
word_of_kind kinds.Backslash text = backslash_word text
word_of_kind kinds.Number text = w.Other
word_of_kind kinds.Sign text = sign_word text

abbrev pub note_word : Lexeme → NoteWord
note_word x = if x.note then word_of_kind x.kind x.text else w.Other

unfoldable pub same_word : NoteWord → NoteWord → Bool
same_word = sameb the_type

-- ---- the next lexeme

unfoldable pub word_at : List Lexeme → NoteWord
word_at [] = w.Other
word_at (x ∷ xs) = note_word x

abbrev pub peek_word : Parser NoteWord
peek_word = λ ts. Ok (word_at ts, ts)

unfoldable pub expect_word : NoteWord → Parser Lexeme
expect_word word = peek_word >>= λ found. if same_word found word then take_one else refuse

abbrev pub at_word : NoteWord → List Lexeme → Bool
at_word word ts = same_word (word_at ts) word

abbrev pub at_mark : Mark → List Lexeme → Bool
at_mark mark ts = same_mark (mark_at true ts) mark

-- the span of the next lexeme, where there is one
abbrev pub span_at : List Lexeme → Span
span_at [] = record { file = 0; from = 0; to = 0 }
span_at (x ∷ xs) = x.span

abbrev pub peek_span : Parser Span
peek_span = λ ts. Ok (span_at ts, ts)

-- ---- what words say

abbrev pub is_heading_word : NoteWord → Bool
is_heading_word w.Behavior = true
is_heading_word w.NormalBehavior = true
is_heading_word w.ExceptionalBehavior = true
is_heading_word _ = false

-- under the heading, which is another word where there is none, a clause may begin with it
abbrev pub may_begin_clause : NoteWord → NoteWord → Bool
may_begin_clause heading w.Ensures = not (same_word heading w.ExceptionalBehavior)
may_begin_clause heading w.Assignable = true
may_begin_clause heading w.Signals = not (same_word heading w.NormalBehavior)
may_begin_clause heading w.SignalsOnly = not (same_word heading w.NormalBehavior)
may_begin_clause heading _ = false

abbrev pub is_modifier_word : NoteWord → Bool
is_modifier_word w.Visibility = true
is_modifier_word w.Instance = true
is_modifier_word w.Modifier = true
is_modifier_word _ = false

-- between a represented field and its value
abbrev pub is_represents_sign : NoteWord → Bool
is_represents_sign w.Equals = true
is_represents_sign w.Arrow = true
is_represents_sign _ = false
