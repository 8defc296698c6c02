-- The steps of a case of a specification, and the clauses that a heading allows.
use Rattle.std.proofs.Common.{◌≡◌, ℕ, ◌≤◌, ◌<◌, max, true, false, not, ◌||◌, Option, Some, None, List, [], ◌∷◌, ◌++◌, length, Ok, refl, ap, ◌∙◌, append_assoc, arith, IsTrue, inl, inr}
use Rattle.std.proofs.lemmas.Bool.{and_parts, and_from, or_parts, or_cases, both_ways}
use Rattle.std.specs.Prelude.{◌&&◌}
use Rattle.std.specs.List.{list_all}
use Rattle.jesc_text.specs.declared.place.Span.{Span}
use Rattle.jesc_ast.specs.declared.word.Word.{Word}
use Rattle.jesc_ast.specs.Lexemes.{Lexeme, join}
use Rattle.jesc_ast.specs.Trees.{Clause}
use Rattle.jesc_ast.specs.SpecTrees.{Promise, promises, assigns, signals, signals_only, Case, case_of}
use Rattle.jesc_ast.specs.Depth.{depth, nesting, of_clauses, of_spec_clauses}
use Rattle.jesc_ast.specs.Specifications.{SpellsSpecClauses, no_spec_clauses, more_spec_clauses, is_normal, is_exceptional, is_heading, may_stand, SpellsDemands}
use Rattle.jesc_jml_grammar.specs.declared.note_word.NoteWord.{NoteWord}
use Rattle.jesc_jml_grammar.specs.declared.note_word.NoteWord.TheVariants as w
use Rattle.jesc_jml_grammar.specs.Steps.{Parser, take_one}
use Rattle.jesc_jml_grammar.specs.Reading.{Parsed, Start, word_of, expr}
use Rattle.jesc_jml_grammar.specs.ClauseMarks.{plain_word, note_word, same_word, word_at, at_word, span_at, is_heading_word, may_begin_clause}
use Rattle.jesc_jml_grammar.specs.ClauseReading as spec
use Rattle.jesc_jml_grammar.specs.ClauseReading.{sized, Ended, optional_word, span_from, case_tree}
use Rattle.jesc_jml_parser.specs.laws.ClauseEdges.{has_none}
use Rattle.jesc_jml_parser.specs.laws.ClauseSoundMarks.{word_of_promise}
use Rattle.jesc_jml_parser.specs.laws.ClauseSoundLists.{end_of}
use Rattle.jesc_jml_parser.specs.laws.ClauseCompleteLists.{read_as, took_note, noted_by}
use Rattle.jesc_jml_parser.specs.laws.ClauseCompleteClauses.{ended_as, clause_word, may_begin, demands_read, clauses_read}

-- ---- headings

pub record Headed (x : List ℕ) : Type 0 where
  pub is : is_heading_word (plain_word x) ≡ true
  pub allows : (c : Promise) → may_stand x c ≡ true → may_begin_clause (plain_word x) (word_of_promise c) ≡ true

by_behavior : (c : Promise) → may_begin_clause w.Behavior (word_of_promise c) ≡ true
unfolding same_word
by_behavior (promises c) = refl
by_behavior (assigns x ts) = refl
by_behavior (signals x p class n e) = refl
by_behavior (signals_only s ws) = refl

by_normal : (x : List ℕ) → is_normal x ≡ true → (c : Promise) → may_stand x c ≡ true → may_begin_clause w.NormalBehavior (word_of_promise c) ≡ true
unfolding same_word
by_normal x n (promises c) may = refl
by_normal x n (assigns y ts) may = refl
by_normal x n (signals y p class m e) may = absurd (both_ways (not (is_normal x)) (ap not n) may)
by_normal x n (signals_only s ws) may = absurd (both_ways (not (is_normal x)) (ap not n) may)

by_exceptional : (x : List ℕ) → is_exceptional x ≡ true → (c : Promise) → may_stand x c ≡ true → may_begin_clause w.ExceptionalBehavior (word_of_promise c) ≡ true
unfolding same_word
by_exceptional x n (promises c) may = absurd (both_ways (not (is_exceptional x)) (ap not n) may)
by_exceptional x n (assigns y ts) may = refl
by_exceptional x n (signals y p class m e) may = refl
by_exceptional x n (signals_only s ws) may = refl

headed_by : (x : List ℕ) (found : NoteWord) → plain_word x ≡ found → is_heading_word found ≡ true
    → ((c : Promise) → may_stand x c ≡ true → may_begin_clause found (word_of_promise c) ≡ true) → Headed x
headed_by x found e is allows = record {
  is = ap is_heading_word e ∙ is;
  allows = λ c may. ap (λ (z : NoteWord). may_begin_clause z (word_of_promise c)) e ∙ allows c may;
}

origin : Span
origin = record { file = 0; from = 0; to = 0 }

pub headed : (x : List ℕ) → IsTrue (is_heading x) → Headed x
headed x is = elim (or_cases _ (is_exceptional x) is) [
  | inl more ↦ elim (or_cases _ (is_normal x) more) [
    | inl behavior ↦ headed_by x w.Behavior (noted_by w.Behavior (refl, (refl, tt)) x origin behavior) refl (λ c may. by_behavior c)
    | inr normal ↦ headed_by x w.NormalBehavior (noted_by w.NormalBehavior (refl, (refl, tt)) x origin normal) refl (by_normal x normal)
  ]
  | inr exceptional ↦ headed_by x w.ExceptionalBehavior (noted_by w.ExceptionalBehavior (refl, (refl, tt)) x origin exceptional) refl (by_exceptional x exceptional)
]

pub all_begin : (x : List ℕ) → Headed x → (cs : List Promise) → list_all (may_stand x) cs ≡ true → list_all (may_begin (plain_word x)) cs ≡ true
all_begin x h [] all = refl
all_begin x h (c ∷ cs) all =
    let both = and_parts (may_stand x c) (list_all (may_stand x) cs) all in
    and_from (may_begin (plain_word x) c) (list_all (may_begin (plain_word x)) cs) (h.allows c both.0) (all_begin x h cs both.1)

-- without a heading
by_none : (c : Promise) → may_begin w.Other c ≡ true
unfolding same_word
by_none (promises c) = refl
by_none (assigns x ts) = refl
by_none (signals x p class n e) = refl
by_none (signals_only s ws) = refl

pub all_begin_bare : (cs : List Promise) → list_all (may_begin w.Other) cs ≡ true
all_begin_bare [] = refl
all_begin_bare (c ∷ cs) = and_from (may_begin w.Other c) (list_all (may_begin w.Other) cs) (by_none c) (all_begin_bare cs)

-- ---- what stands behind the demands

no_demand : (c : Promise) → same_word (word_of_promise c) w.Requires ≡ false
unfolding same_word
no_demand (promises c) = refl
no_demand (assigns x ts) = refl
no_demand (signals x p class n e) = refl
no_demand (signals_only s ws) = refl

demands_end : (cs : List Promise) (v : List Lexeme) → SpellsSpecClauses cs v → (rest : List Lexeme) → (has_none cs && at_word w.Requires rest) ≡ false
    → at_word w.Requires (v ++ rest) ≡ false
demands_end _ _ no_spec_clauses rest ends = ends
demands_end _ _ (more_spec_clauses c cs u v h more) rest ends =
    ap (λ (z : List Lexeme). at_word w.Requires z) (append_assoc u v rest)
    ∙ ap (λ (z : NoteWord). same_word z w.Requires) (clause_word c u h (v ++ rest)) ∙ no_demand c

-- ---- one case

heading_case : (limit room : ℕ) (inner : ℕ → ℕ → Start → Parser Parsed) (k : ℕ) (found : NoteWord) (ts : List Lexeme) → is_heading_word found ≡ true
    → spec.case_by limit room inner k found ts ≡ spec.case_behind limit room inner k None ts
heading_case limit room inner k w.Behavior ts e = refl
heading_case limit room inner k w.NormalBehavior ts e = refl
heading_case limit room inner k w.ExceptionalBehavior ts e = refl
heading_case limit room inner k _ ts e = absurd cc

clause_case : (limit room : ℕ) (inner : ℕ → ℕ → Start → Parser Parsed) (k : ℕ) (c : Promise) (ts : List Lexeme)
    → spec.case_by limit room inner k (word_of_promise c) ts ≡ spec.bare_case limit room inner k ts
clause_case limit room inner k (promises c) ts = refl
clause_case limit room inner k (assigns x us) ts = refl
clause_case limit room inner k (signals x p class n e) ts = refl
clause_case limit room inner k (signals_only s ws) ts = refl

abbrev pub case_depth : Case → ℕ
case_depth c = max (of_clauses depth 1 c.demands) (of_spec_clauses depth 1 c.promises)

abbrev pub case_nesting : Case → ℕ
case_nesting c = max (of_clauses nesting 0 c.demands) (of_spec_clauses nesting 0 c.promises)

module _ (limit room k : ℕ) where
  body_step : (first : Span) (visibility heading : Option Word) (found : NoteWord) (s : Span) (ds : Ended (List Clause)) (ps : Ended (List Promise)) (ts mid rest : List Lexeme)
      → spec.demands limit room (expr true limit room) k s ts ≡ Ok (ds, mid) → spec.spec_clauses limit room (expr true limit room) k found ds.last mid ≡ Ok (ps, rest)
      → spec.case_body limit room (expr true limit room) k first visibility heading found s ts ≡ read_as (case_tree first visibility heading ds ps) rest
  unfolding spec.case_body
  body_step first visibility heading found s ds ps ts mid rest one two = rw (one, two) refl

  -- behind what a case begins with
  pub body_read : (first : Span) (visibility heading : Option Word) (found : NoteWord) (s : Span) (ds : List Clause) (cs : List Promise) (u v rest : List Lexeme) → SpellsDemands ds u
      → SpellsSpecClauses cs v → list_all (may_begin found) cs ≡ true → length u < limit → length v < limit → max (of_clauses depth 1 ds) (of_spec_clauses depth 1 cs) ≤ room
      → max (of_clauses nesting 0 ds) (of_spec_clauses nesting 0 cs) ≤ k → (may_begin_clause found (word_at rest) || (has_none cs && at_word w.Requires rest)) ≡ false
      → spec.case_body limit room (expr true limit room) k first visibility heading found s (u ++ (v ++ rest))
      ≡ read_as (sized (case_of (join first (end_of (end_of s u) v)) visibility heading ds cs) (max (of_clauses depth 1 ds) (of_spec_clauses depth 1 cs))) rest
  body_read first visibility heading found s ds cs u v rest h g all few short deep flat ends =
      let stops = or_parts (may_begin_clause found (word_at rest)) (has_none cs && at_word w.Requires rest) ends in
      body_step first visibility heading found s (ended_as ds (of_clauses depth 1 ds) (end_of s u)) (ended_as cs (of_spec_clauses depth 1 cs) (end_of (end_of s u) v))
      (u ++ (v ++ rest)) (v ++ rest) rest
      (demands_read limit room k ds u h s (v ++ rest) few (omega arith) (omega arith) (demands_end cs v g rest stops.1))
      (clauses_read limit room k found cs v g all (end_of s u) rest short (omega arith) (omega arith) stops.0)

  pub headed_step : (visibility : Option Lexeme) (x : Lexeme) (ts : List Lexeme) → is_heading_word (note_word x) ≡ true
      → spec.case_behind limit room (expr true limit room) k visibility (x ∷ ts)
      ≡ spec.case_body limit room (expr true limit room) k (span_from visibility x) (optional_word visibility) (Some (word_of x)) (note_word x) x.span ts
  unfolding spec.case_behind spec.heading take_one word_at
  headed_step visibility x ts e = rw e refl

  pub seen_step : (v : Lexeme) (ts : List Lexeme) → note_word v ≡ w.Visibility
      → spec.one_case limit room (expr true limit room) k (v ∷ ts) ≡ spec.case_behind limit room (expr true limit room) k (Some v) ts
  unfolding spec.one_case spec.seen_case word_at
  seen_step v ts e = rw (e, took_note w.Visibility v ts e) refl

  pub unseen_step : (x : Lexeme) (ts : List Lexeme) → is_heading_word (note_word x) ≡ true
      → spec.one_case limit room (expr true limit room) k (x ∷ ts) ≡ spec.case_behind limit room (expr true limit room) k None (x ∷ ts)
  unfolding spec.one_case word_at
  unseen_step x ts e = heading_case limit room (expr true limit room) k (note_word x) (x ∷ ts) e

  pub bare_step : (ts : List Lexeme)
      → spec.bare_case limit room (expr true limit room) k ts ≡ spec.case_body limit room (expr true limit room) k (span_at ts) None None w.Other (span_at ts) ts
  unfolding spec.bare_case
  bare_step ts = refl

  pub demanding_step : (ts : List Lexeme) → word_at ts ≡ w.Requires
      → spec.one_case limit room (expr true limit room) k ts ≡ spec.bare_case limit room (expr true limit room) k ts
  unfolding spec.one_case
  demanding_step ts e = rw e refl

  pub promising_step : (c : Promise) (ts : List Lexeme) → word_at ts ≡ word_of_promise c
      → spec.one_case limit room (expr true limit room) k ts ≡ spec.bare_case limit room (expr true limit room) k ts
  unfolding spec.one_case
  promising_step c ts e = rw e (clause_case limit room (expr true limit room) k c ts)
