-- The lexemes of a specification are read as this specification, where what stands behind does not go on with it.
use Rattle.std.proofs.Common.{◌≡◌, ℕ, zero, suc, ◌≤◌, ◌<◌, max, Bool, true, false, Option, Some, None, List, [], ◌∷◌, ◌++◌, length, Ok, Err, refl, sym, ap, ap₂, ◌∙◌, append_assoc, arith, IsTrue}
use Rattle.std.proofs.lemmas.Bool.{or_parts, and_right}
use Rattle.std.proofs.lemmas.List.{length-append}
use Rattle.std.specs.List.{list_all}
use Rattle.jesc_text.specs.declared.place.Span.{Span}
use Rattle.jesc_ast.specs.declared.word.Word.{Word}
use Rattle.jesc_ast.specs.Lexemes.{Lexeme, word, chosen_word, kept, join, span_of_all}
use Rattle.jesc_ast.specs.Trees.{Clause}
use Rattle.jesc_ast.specs.SpecTrees.{Promise, promises, assigns, signals, signals_only, Case, case_of, Specification}
use Rattle.jesc_ast.specs.Depth.{depth, nesting, of_clauses, of_spec_clauses, of_cases}
use Rattle.jesc_ast.specs.Statements.{no_clauses, more_clauses}
use Rattle.jesc_ast.specs.Specifications.{SpellsSpecClauses, more_spec_clauses, is_heading, may_stand, no_visibility, some_visibility, SpellsDemands, SpellsCase, is_headed, is_demanding, is_promising, SpellsCases, last_case, first_case, SpellsSpec, is_first_spec, is_further_spec}
use Rattle.jesc_jml_grammar.specs.declared.note_word.NoteWord.{NoteWord}
use Rattle.jesc_jml_grammar.specs.declared.note_word.NoteWord.TheVariants as w
use Rattle.jesc_jml_grammar.specs.Steps.{Outcome, Parser, and_then, ◌>>=◌, pure}
use Rattle.jesc_jml_grammar.specs.Reading.{word_of, expr}
use Rattle.jesc_jml_grammar.specs.ClauseMarks.{plain_word, note_word, same_word, word_at, at_word, expect_word, span_at, is_heading_word}
use Rattle.jesc_jml_grammar.specs.ClauseLists.{separated}
use Rattle.jesc_jml_grammar.specs.ClauseReading as spec
use Rattle.jesc_jml_grammar.specs.ClauseReading.{Sized, sized, no_items, with_more, spec_of}
use Rattle.jesc_jml_parser.specs.laws.ClauseEdges.{has_none, case_goes_on, cases_go_on, spec_goes_on}
use Rattle.jesc_jml_parser.specs.laws.ClauseSoundMarks.{word_of_promise}
use Rattle.jesc_jml_parser.specs.laws.ClauseSoundLists.{end_of_both, whole_span, IsSome, some_before, taken_span}
use Rattle.jesc_jml_parser.specs.laws.ClauseCompleteLists.{read_as, same_word_self, took_note, noted_by, separated_ends, separated_more}
use Rattle.jesc_jml_parser.specs.laws.ClauseCompleteClauses.{clause_word}
use Rattle.jesc_jml_parser.specs.laws.ClauseCompleteCases.{headed, all_begin, all_begin_bare, case_depth, case_nesting, body_read, headed_step, seen_step, unseen_step, bare_step, demanding_step, promising_step}

-- ---- the first lexemes of a case

demand_word : (d : Clause) (ds : List Clause) (u : List Lexeme) → SpellsDemands (d ∷ ds) u → (rest : List Lexeme) → word_at (u ++ rest) ≡ w.Requires
unfolding word_at
demand_word _ _ _ (more_clauses s p x e ds u v is h more) rest = noted_by w.Requires (refl, (refl, tt)) x s is

promise_word : (c : Promise) (cs : List Promise) (u : List Lexeme) → SpellsSpecClauses (c ∷ cs) u → (rest : List Lexeme) → word_at (u ++ rest) ≡ word_of_promise c
promise_word _ _ _ (more_spec_clauses c cs u v h more) rest = ap word_at (append_assoc u v rest) ∙ clause_word c u h (v ++ rest)

some_demand : (d : Clause) (ds : List Clause) (u : List Lexeme) → SpellsDemands (d ∷ ds) u → IsSome u
some_demand _ _ _ (more_clauses s p x e ds u v is h more) = tt

-- where the next lexeme of a list is some word, there is one
some_by : (u : List Lexeme) → (word_at (u ++ []) ≡ w.Other → ⊥) → IsSome u
unfolding word_at
some_by [] h = absurd (h refl)
some_by (x ∷ u) h = tt

no_other : (c : Promise) → word_of_promise c ≡ w.Other → ⊥
no_other (promises c) e = absurd cc
no_other (assigns x ts) e = absurd cc
no_other (signals x p class n m) e = absurd cc
no_other (signals_only s ws) e = absurd cc

some_promise : (c : Promise) (cs : List Promise) (u : List Lexeme) → SpellsSpecClauses (c ∷ cs) u → IsSome u
some_promise c cs u h = some_by u (λ e. no_other c (sym (promise_word c cs u h []) ∙ e))

-- ---- cases

abbrev case_as : Case → List Lexeme → Outcome (Sized Case)
case_as c rest = read_as (sized c (case_depth c)) rest

abbrev spanned : Span → Option Word → Option Word → List Clause → List Promise → List Lexeme → Outcome (Sized Case)
spanned s visibility heading ds cs rest = case_as (case_of s visibility heading ds cs) rest

module _ (limit room k : ℕ) where
  abbrev one_case : Parser (Sized Case)
  one_case = spec.one_case limit room (expr true limit room) k

  unseen_read : (s : Span) (x : List ℕ) (ds : List Clause) (cs : List Promise) (u v rest : List Lexeme) → IsTrue (is_heading x) → SpellsDemands ds u → SpellsSpecClauses cs v
      → list_all (may_stand x) cs ≡ true → suc (length (u ++ v)) < limit → max (of_clauses depth 1 ds) (of_spec_clauses depth 1 cs) ≤ room
      → max (of_clauses nesting 0 ds) (of_spec_clauses nesting 0 cs) ≤ k
      → case_goes_on (case_of (span_of_all (chosen_word true x s ∷ (u ++ v))) None (Some (kept true x s)) ds cs) (word_at rest) ≡ false
      → one_case (chosen_word true x s ∷ ((u ++ v) ++ rest)) ≡ spanned (span_of_all (chosen_word true x s ∷ (u ++ v))) None (Some (kept true x s)) ds cs rest
  unseen_read s x ds cs u v rest is h g all few deep flat ends =
      let H = headed x is in
      let lens = length-append u v in
      ap (λ (z : List Lexeme). one_case (chosen_word true x s ∷ z)) (append_assoc u v rest)
      ∙ unseen_step limit room k (chosen_word true x s) (u ++ (v ++ rest)) H.is
      ∙ headed_step limit room k None (chosen_word true x s) (u ++ (v ++ rest)) H.is
      ∙ body_read limit room k s None (Some (kept true x s)) (plain_word x) s ds cs u v rest h g (all_begin x H cs all) (omega arith) (omega arith) deep flat ends
      ∙ ap (λ (z : Span). spanned z None (Some (kept true x s)) ds cs rest) (ap (join s) (sym (end_of_both s u v)) ∙ whole_span (chosen_word true x s) (u ++ v))

  seen_read : (q : Lexeme) (s : Span) (x : List ℕ) (ds : List Clause) (cs : List Promise) (u v rest : List Lexeme) → note_word q ≡ w.Visibility → IsTrue (is_heading x)
      → SpellsDemands ds u → SpellsSpecClauses cs v → list_all (may_stand x) cs ≡ true → suc (suc (length (u ++ v))) < limit
      → max (of_clauses depth 1 ds) (of_spec_clauses depth 1 cs) ≤ room → max (of_clauses nesting 0 ds) (of_spec_clauses nesting 0 cs) ≤ k
      → case_goes_on (case_of (span_of_all (q ∷ chosen_word true x s ∷ (u ++ v))) (Some (word_of q)) (Some (kept true x s)) ds cs) (word_at rest) ≡ false
      → one_case (q ∷ chosen_word true x s ∷ ((u ++ v) ++ rest))
      ≡ spanned (span_of_all (q ∷ chosen_word true x s ∷ (u ++ v))) (Some (word_of q)) (Some (kept true x s)) ds cs rest
  seen_read q s x ds cs u v rest seen is h g all few deep flat ends =
      let H = headed x is in
      let lens = length-append u v in
      ap (λ (z : List Lexeme). one_case (q ∷ chosen_word true x s ∷ z)) (append_assoc u v rest)
      ∙ seen_step limit room k q (chosen_word true x s ∷ (u ++ (v ++ rest))) seen
      ∙ headed_step limit room k (Some q) (chosen_word true x s) (u ++ (v ++ rest)) H.is
      ∙ body_read limit room k q.span (Some (word_of q)) (Some (kept true x s)) (plain_word x) s ds cs u v rest h g (all_begin x H cs all) (omega arith) (omega arith) deep flat ends
      ∙ ap (λ (z : Span). spanned z (Some (word_of q)) (Some (kept true x s)) ds cs rest)
      (ap (join q.span) (sym (end_of_both s u v)) ∙ whole_span q (chosen_word true x s ∷ (u ++ v)))

  -- a case without a heading
  bare_read : (ds : List Clause) (cs : List Promise) (u v rest : List Lexeme) → SpellsDemands ds u → SpellsSpecClauses cs v → IsSome (u ++ v) → length (u ++ v) < limit
      → max (of_clauses depth 1 ds) (of_spec_clauses depth 1 cs) ≤ room → max (of_clauses nesting 0 ds) (of_spec_clauses nesting 0 cs) ≤ k
      → case_goes_on (case_of (span_of_all (u ++ v)) None None ds cs) (word_at rest) ≡ false
      → spec.bare_case limit room (expr true limit room) k (u ++ (v ++ rest)) ≡ spanned (span_of_all (u ++ v)) None None ds cs rest
  bare_read ds cs u v rest h g some few deep flat ends =
      let ts : List Lexeme = u ++ (v ++ rest) in
      let lens = length-append u v in
      bare_step limit room k ts
      ∙ body_read limit room k (span_at ts) None None w.Other (span_at ts) ds cs u v rest h g (all_begin_bare cs) (omega arith) (omega arith) deep flat ends
      ∙ ap (λ (z : Span). spanned z None None ds cs rest)
      (ap (join (span_at ts)) (sym (end_of_both (span_at ts) u v)) ∙ taken_span (u ++ v) ts rest (sym (append_assoc u v rest)) some)

  case_read : (c : Case) (u : List Lexeme) → SpellsCase c u → (rest : List Lexeme) → length u < limit → case_depth c ≤ room → case_nesting c ≤ k
      → case_goes_on c (word_at rest) ≡ false → one_case (u ++ rest) ≡ case_as c rest
  case_read _ _ (is_headed s x _ ds cs _ u v no_visibility is h g all) rest few deep flat ends = unseen_read s x ds cs u v rest is h g all few deep flat ends
  case_read _ _ (is_headed s x _ ds cs _ u v (some_visibility q y seen) is h g all) rest few deep flat ends =
      seen_read (chosen_word true y q) s x ds cs u v rest (noted_by w.Visibility (refl, (refl, (refl, tt))) y q seen) is h g all few deep flat ends
  case_read _ _ (is_demanding d ds cs u v h g) rest few deep flat ends =
      ap one_case (append_assoc u v rest)
      ∙ demanding_step limit room k (u ++ (v ++ rest)) (demand_word d ds u h (v ++ rest))
      ∙ bare_read (d ∷ ds) cs u v rest h g (some_before u v (some_demand d ds u h)) few deep flat ends
  case_read _ _ (is_promising c cs v g) rest few deep flat ends =
      promising_step limit room k c (v ++ rest) (promise_word c cs v g rest)
      ∙ bare_read [] (c ∷ cs) [] v rest no_clauses g (some_promise c cs v g) few deep flat ends

-- ---- several cases

also_ends : (c : Case) → case_goes_on c w.Also ≡ false
unfolding same_word
also_ends c = and_right (has_none c.promises) _ refl

pub others_go_on : (c : Case) (cs : List Case) (u : List Lexeme) → SpellsCases cs u → (found : NoteWord) → cases_go_on (c ∷ cs) found ≡ cases_go_on cs found
others_go_on c _ _ (last_case d u h) found = refl
others_go_on c _ _ (first_case d s cs u v h more) found = refl

also_next : (s : Span) (ts : List Lexeme) → word_at (word true "also" s ∷ ts) ≡ w.Also
unfolding word_at
also_next s ts = refl

module _ (limit room k : ℕ) where
  abbrev cases_from : ℕ → Sized (List Case) → Parser (Sized (List Case))
  cases_from = separated (at_word w.Also) (expect_word w.Also) (spec.one_case limit room (expr true limit room) k) with_more

  cases_so_far : (cs : List Case) (u : List Lexeme) → SpellsCases cs u → (turns : ℕ) (found : Sized (List Case)) (rest : List Lexeme) → length u < turns → length u < limit
      → of_cases depth 1 cs ≤ room → of_cases nesting 0 cs ≤ k → cases_go_on cs (word_at rest) ≡ false
      → cases_from turns found (u ++ rest) ≡ read_as (sized (found.tree ++ cs) (max found.depth (of_cases depth 1 cs))) rest
  cases_so_far _ _ (last_case c u h) turns found rest enough few deep flat ends =
      let stops = or_parts (same_word (word_at rest) w.Also) (case_goes_on c (word_at rest)) ends in
      let same : max found.depth (case_depth c) ≡ max found.depth (max (case_depth c) 0) = omega arith in
      separated_ends (at_word w.Also) (expect_word w.Also) (spec.one_case limit room (expr true limit room) k) with_more turns found (sized c (case_depth c)) (u ++ rest) rest (omega arith)
      (case_read limit room k c u h rest few (omega arith) (omega arith) stops.1) stops.0
      ∙ ap (λ (d : ℕ). read_as (sized (found.tree ++ c ∷ []) d) rest) same
  cases_so_far _ _ (first_case c s cs u v h more) zero found rest enough few deep flat ends = absurd (omega arith)
  cases_so_far _ _ (first_case c s cs u v h more) (suc turns) found rest enough few deep flat ends =
      let lens = length-append u (word true "also" s ∷ v) in
      let same : max (max found.depth (case_depth c)) (of_cases depth 1 cs) ≡ max found.depth (max (case_depth c) (of_cases depth 1 cs)) = omega arith in
      ap (cases_from (suc turns) found) (append_assoc u (word true "also" s ∷ v) rest)
      ∙ separated_more (at_word w.Also) (expect_word w.Also) (spec.one_case limit room (expr true limit room) k) with_more turns found (sized c (case_depth c)) (word true "also" s)
      (u ++ word true "also" s ∷ (v ++ rest)) (v ++ rest)
      (case_read limit room k c u h (word true "also" s ∷ (v ++ rest)) (omega arith) (omega arith) (omega arith)
      (ap (case_goes_on c) (also_next s (v ++ rest)) ∙ also_ends c))
      (ap (λ (z : NoteWord). same_word z w.Also) (also_next s (v ++ rest)) ∙ same_word_self w.Also) (took_note w.Also (word true "also" s) (v ++ rest) refl)
      ∙ cases_so_far cs v more turns (with_more found (sized c (case_depth c))) rest (omega arith) (omega arith) (omega arith) (omega arith)
      (sym (others_go_on c cs v more (word_at rest)) ∙ ends)
      ∙ ap₂ (λ (z : List Case) (d : ℕ). read_as (sized z d) rest) (append_assoc found.tree (c ∷ []) cs) same

  cases_read : (cs : List Case) (u : List Lexeme) → SpellsCases cs u → (rest : List Lexeme) → length u < limit → of_cases depth 1 cs ≤ room → of_cases nesting 0 cs ≤ k
      → cases_go_on cs (word_at rest) ≡ false
      → spec.cases limit room (expr true limit room) k (u ++ rest) ≡ read_as (sized cs (of_cases depth 1 cs)) rest
  unfolding spec.cases
  cases_read cs u h rest few deep flat ends =
      let same : max 0 (of_cases depth 1 cs) ≡ of_cases depth 1 cs = omega arith in
      cases_so_far cs u h limit no_items rest few few deep flat ends ∙ ap (λ (d : ℕ). read_as (sized cs d) rest) same

-- ---- the whole

heading_no_also : (found : NoteWord) → is_heading_word found ≡ true → same_word found w.Also ≡ false
unfolding same_word
heading_no_also w.Also e = absurd cc
heading_no_also _ e = refl

promise_no_also : (c : Promise) → same_word (word_of_promise c) w.Also ≡ false
unfolding same_word
promise_no_also (promises c) = refl
promise_no_also (assigns x ts) = refl
promise_no_also (signals x p class n e) = refl
promise_no_also (signals_only s ws) = refl

other_no_also : (found wanted : NoteWord) → found ≡ wanted → same_word wanted w.Also ≡ false → same_word found w.Also ≡ false
other_no_also found wanted e none = ap (λ (z : NoteWord). same_word z w.Also) e ∙ none

case_no_also : (c : Case) (u : List Lexeme) → SpellsCase c u → (rest : List Lexeme) → at_word w.Also (u ++ rest) ≡ false
unfolding word_at same_word
case_no_also _ _ (is_headed s x _ ds cs _ u v no_visibility is h g all) rest = heading_no_also (plain_word x) (headed x is).is
case_no_also _ _ (is_headed s x _ ds cs _ u v (some_visibility q y seen) is h g all) rest =
    other_no_also (note_word (chosen_word true y q)) w.Visibility (noted_by w.Visibility (refl, (refl, (refl, tt))) y q seen) refl
case_no_also _ _ (is_demanding d ds cs u v h g) rest =
    ap (λ (z : List Lexeme). at_word w.Also z) (append_assoc u v rest) ∙ other_no_also (word_at (u ++ (v ++ rest))) w.Requires (demand_word d ds u h (v ++ rest)) refl
case_no_also _ _ (is_promising c cs v g) rest = other_no_also (word_at (v ++ rest)) (word_of_promise c) (promise_word c cs v g rest) (promise_no_also c)

cases_no_also : (cs : List Case) (u : List Lexeme) → SpellsCases cs u → (rest : List Lexeme) → at_word w.Also (u ++ rest) ≡ false
cases_no_also _ _ (last_case c u h) rest = case_no_also c u h rest
cases_no_also _ _ (first_case c s cs u v h more) rest =
    ap (λ (z : List Lexeme). at_word w.Also z) (append_assoc u (word true "also" s ∷ v) rest) ∙ case_no_also c u h (word true "also" s ∷ (v ++ rest))

in_turn : {A B C : Type 0} (r : Outcome A) (f : A → Parser B) (g : B → Parser C) → and_then (and_then r f) g ≡ and_then r (λ x. f x >>= g)
in_turn (Ok p) f g = refl
in_turn (Err e) f g = refl

module _ (limit room k : ℕ) where
  spec_step : (also : Bool) (cs : Sized (List Case)) (ts rest : List Lexeme) → spec.cases limit room (expr true limit room) k ts ≡ Ok (cs, rest)
      → spec.specification_of limit room (expr true limit room) k also ts ≡ read_as (spec_of also cs) rest
  unfolding spec.specification_of
  spec_step also cs ts rest read = rw read refl

  first_spec : (ts : List Lexeme) → at_word w.Also ts ≡ false
      → spec.specification limit room (expr true limit room) k ts ≡ spec.specification_of limit room (expr true limit room) k false ts
  unfolding spec.specification
  first_spec ts none = rw none refl

  further_spec : (s : Span) (ts : List Lexeme)
      → spec.specification limit room (expr true limit room) k (word true "also" s ∷ ts) ≡ spec.specification_of limit room (expr true limit room) k true ts
  unfolding spec.specification word_at same_word
  further_spec s ts = rw (took_note w.Also (word true "also" s) ts refl) refl

  pub specification_complete : (t : Specification) (u rest : List Lexeme) → SpellsSpec t u → of_cases depth 1 t.cases ≤ room → of_cases nesting 0 t.cases ≤ k → length u < limit
      → spec_goes_on t (word_at rest) ≡ false
      → spec.specification limit room (expr true limit room) k (u ++ rest) ≡ read_as (sized t (of_cases depth 1 t.cases)) rest
  specification_complete _ _ rest (is_first_spec cs u h) deep flat few ends =
      first_spec (u ++ rest) (cases_no_also cs u h rest)
      ∙ spec_step false (sized cs (of_cases depth 1 cs)) (u ++ rest) rest (cases_read limit room k cs u h rest few deep flat ends)
  specification_complete _ _ rest (is_further_spec s cs u h) deep flat few ends =
      further_spec s (u ++ rest)
      ∙ spec_step true (sized cs (of_cases depth 1 cs)) (u ++ rest) rest (cases_read limit room k cs u h rest (omega arith) deep flat ends)

  -- ---- behind a visibility that was read before

  cases_seen : (v : Lexeme) (ts : List Lexeme) → note_word v ≡ w.Visibility
      → spec.cases limit room (expr true limit room) k (v ∷ ts)
      ≡ and_then (spec.case_behind limit room (expr true limit room) k (Some v) ts) (spec.more_cases limit room (expr true limit room) k)
  unfolding spec.cases separated spec.more_cases
  cases_seen v ts seen =
      ap (λ (z : Outcome (Sized Case)). and_then z (spec.more_cases limit room (expr true limit room) k)) (seen_step limit room k v ts seen)

  spec_seen : (v : Lexeme) (ts : List Lexeme) → note_word v ≡ w.Visibility
      → spec.specification_of limit room (expr true limit room) k false (v ∷ ts) ≡ spec.specification_behind limit room (expr true limit room) k v ts
  unfolding spec.specification_of spec.specification_behind
  spec_seen v ts seen =
      ap (λ (z : Outcome (Sized (List Case))). and_then z (λ (cs : Sized (List Case)). pure (spec_of false cs))) (cases_seen v ts seen)
      ∙ in_turn (spec.case_behind limit room (expr true limit room) k (Some v) ts) (spec.more_cases limit room (expr true limit room) k)
      (λ (cs : Sized (List Case)). pure (spec_of false cs))

  no_also : (v : Lexeme) (ts : List Lexeme) → note_word v ≡ w.Visibility → at_word w.Also (v ∷ ts) ≡ false
  unfolding word_at same_word
  no_also v ts seen = other_no_also (note_word v) w.Visibility seen refl

  -- it reads on as from the visibility
  pub specification_behind_is : (v : Lexeme) (ts : List Lexeme) → note_word v ≡ w.Visibility
      → spec.specification_behind limit room (expr true limit room) k v ts ≡ spec.specification limit room (expr true limit room) k (v ∷ ts)
  specification_behind_is v ts seen = sym (first_spec (v ∷ ts) (no_also v ts seen) ∙ spec_seen v ts seen)

  pub specification_behind_complete : (v : Lexeme) (t : Specification) (u rest : List Lexeme) → note_word v ≡ w.Visibility → SpellsSpec t (v ∷ u)
      → of_cases depth 1 t.cases ≤ room → of_cases nesting 0 t.cases ≤ k → suc (length u) < limit → spec_goes_on t (word_at rest) ≡ false
      → spec.specification_behind limit room (expr true limit room) k v (u ++ rest) ≡ read_as (sized t (of_cases depth 1 t.cases)) rest
  specification_behind_complete v t u rest seen h deep flat few ends =
      specification_behind_is v (u ++ rest) seen ∙ specification_complete t (v ∷ u) rest h deep flat few ends
