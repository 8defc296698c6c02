-- The lexemes of the clauses of a specification are read as these.
use Rattle.std.proofs.Common.{◌≡◌, ℕ, zero, suc, ◌≤◌, ◌<◌, max, Bool, true, false, Option, List, [], ◌∷◌, ◌++◌, length, Ok, refl, sym, ap, ap₂, ◌∙◌, append_assoc, append-nil, arith, IsTrue, codes}
use Rattle.std.proofs.lemmas.Bool.{and_parts}
use Rattle.std.proofs.lemmas.List.{length-append}
use Rattle.std.specs.List.{list_all}
use Rattle.jesc_text.specs.declared.place.Span.{Span}
use Rattle.jesc_lexer.specs.declared.token.TokenKind.TheVariants as kinds
use Rattle.jesc_ast.specs.declared.word.Word.{Word}
use Rattle.jesc_ast.specs.Lexemes.{Lexeme, word, backslash, chosen_word, sign, kept}
use Rattle.jesc_ast.specs.Words.{is_name}
use Rattle.jesc_ast.specs.Trees.{Expression, Clause, clause}
use Rattle.jesc_ast.specs.SpecTrees.{Store, Promise, promises, assigns, signals, signals_only}
use Rattle.jesc_ast.specs.Depth.{depth, nesting, of_option, of_clauses, of_stores, of_spec_clause, of_spec_clauses}
use Rattle.jesc_ast.specs.Statements.{no_clauses, more_clauses}
use Rattle.jesc_ast.specs.Specifications.{first_span, SpellsSpecClause, is_ensures, is_assignable, is_signals, is_signals_nothing, is_signals_only, SpellsSpecClauses, no_spec_clauses, more_spec_clauses, SpellsNames, last_name, first_name, SpellsDemands}
use Rattle.jesc_jml_grammar.specs.declared.mark.Mark.TheVariants as m
use Rattle.jesc_jml_grammar.specs.declared.note_word.NoteWord.{NoteWord}
use Rattle.jesc_jml_grammar.specs.declared.note_word.NoteWord.TheVariants as w
use Rattle.jesc_jml_grammar.specs.Steps.{Parser}
use Rattle.jesc_jml_grammar.specs.Reading.{Parsed, word_of, expr}
use Rattle.jesc_jml_parser.specs.laws.CompleteMarks.{took_sign, took_name}
use Rattle.jesc_jml_parser.specs.laws.CompleteSteps.{parsed}
use Rattle.jesc_jml_grammar.specs.ClauseMarks.{note_word, same_word, word_at, at_word, may_begin_clause}
use Rattle.jesc_jml_grammar.specs.ClauseLists.{until}
use Rattle.jesc_jml_grammar.specs.ClauseReading as spec
use Rattle.jesc_jml_grammar.specs.ClauseReading.{Sized, sized, Ended, with_ended, none_behind}
use Rattle.jesc_jml_parser.specs.laws.ClauseSoundMarks.{noted, word_of_promise}
use Rattle.jesc_jml_parser.specs.laws.ClauseSoundLists.{end_of, end_of_both}
use Rattle.jesc_jml_parser.specs.laws.ClauseCompleteLists.{read_as, same_word_self, took_note, noted_by, until_more, until_ends, names_read}
use Rattle.jesc_jml_parser.specs.laws.ClauseCompleteParts.{no_comma, stores_read, optional_name_read, before_semicolon, optional_expression_read}

-- a tree with the span of the last of these lexemes
abbrev pub ended_as : {A : Type 0} → A → ℕ → Span → Ended A
ended_as t d s = record { tree = t; depth = d; last = s }

-- the last of these lexemes is the semicolon
semicolon_last : (s x p : Span) (u : List Lexeme) → p ≡ end_of x (u ++ sign true ";" p ∷ [])
semicolon_last s x p u = sym (end_of_both x u (sign true ";" p ∷ []))

-- a word without a backslash
pub no_backslash : (x : Lexeme) (found : NoteWord) → note_word x ≡ found → x.kind ≡ kinds.Word → same_word found w.Nothing ≡ false
unfolding same_word
no_backslash x w.Nothing e word = let at = (noted w.Nothing x e).0 in absurd cc
no_backslash x _ e word = refl

names_word : (ws : List Word) (u : List Lexeme) → SpellsNames true ws u → (rest : List Lexeme) → same_word (word_at (u ++ rest)) w.Nothing ≡ false
unfolding word_at
names_word _ _ (last_name s x named) rest = no_backslash (chosen_word true x s) (note_word (chosen_word true x s)) refl refl
names_word _ _ (first_name s p x ws u named more) rest = no_backslash (chosen_word true x s) (note_word (chosen_word true x s)) refl refl

some_clause : (c : Promise) (u : List Lexeme) → SpellsSpecClause c u → 1 ≤ length u
some_clause _ _ (is_ensures s p x e u is h) = omega arith
some_clause _ _ (is_assignable s p x ts u is h) = omega arith
some_clause _ _ (is_signals s p m q r x class n e u v is named hn he) = omega arith
some_clause _ _ (is_signals_nothing s n p) = omega arith
some_clause _ _ (is_signals_only s p ws u h) = omega arith

-- what a clause begins with
pub clause_word : (c : Promise) (u : List Lexeme) → SpellsSpecClause c u → (rest : List Lexeme) → word_at (u ++ rest) ≡ word_of_promise c
unfolding word_at
clause_word _ _ (is_ensures s p x e u is h) rest = noted_by w.Ensures (refl, (refl, tt)) x s is
clause_word _ _ (is_assignable s p x ts u is h) rest = noted_by w.Assignable (refl, (refl, (refl, (refl, tt)))) x s is
clause_word _ _ (is_signals s p m q r x class n e u v is named hn he) rest = noted_by w.Signals (refl, (refl, tt)) x s is
clause_word _ _ (is_signals_nothing s n p) rest = refl
clause_word _ _ (is_signals_only s p ws u h) rest = refl

abbrev pub may_begin : NoteWord → Promise → Bool
may_begin heading c = may_begin_clause heading (word_of_promise c)

module _ (limit room k : ℕ) where
  abbrev parse : Parser Parsed
  parse = spec.expression limit room (expr true limit room) k

  clause_step : (found : NoteWord) (x : Lexeme) (e : Parsed) (p : Span) (ts rest : List Lexeme) → note_word x ≡ found → parse ts ≡ Ok (e, sign true ";" p ∷ rest)
      → spec.clause_of limit room (expr true limit room) k found (x ∷ ts) ≡ read_as (ended_as (clause (word_of x) e.tree) e.depth p) rest
  unfolding spec.clause_of
  clause_step found x e p ts rest is read = rw (took_note found x ts is, read, took_sign true m.Semicolon (codes ";") p rest refl) refl

  ensures_step : (x : Lexeme) (e : Parsed) (p : Span) (ts rest : List Lexeme) → note_word x ≡ w.Ensures → parse ts ≡ Ok (e, sign true ";" p ∷ rest)
      → spec.spec_clause limit room (expr true limit room) k (x ∷ ts) ≡ read_as (ended_as (promises (clause (word_of x) e.tree)) e.depth p) rest
  unfolding spec.spec_clause spec.ensures_clause word_at
  ensures_step x e p ts rest is read = rw (is, clause_step w.Ensures x e p ts rest is read) refl

  assignable_step : (x : Lexeme) (t : Sized (List Store)) (p : Span) (ts rest : List Lexeme) → note_word x ≡ w.Assignable
      → spec.stores limit room (expr true limit room) k ts ≡ Ok (t, sign true ";" p ∷ rest)
      → spec.spec_clause limit room (expr true limit room) k (x ∷ ts) ≡ read_as (ended_as (assigns (word_of x) t.tree) t.depth p) rest
  unfolding spec.spec_clause spec.assignable_clause word_at
  assignable_step x t p ts rest is read = rw (is, took_note w.Assignable x ts is, read, took_sign true m.Semicolon (codes ";") p rest refl) refl

  signals_step : (x : Lexeme) (p m q r : Span) (class : List ℕ) (n : Option Word) (e : Sized (Option Expression)) (ts us rest : List Lexeme) → note_word x ≡ w.Signals
      → IsTrue (is_name class) → spec.optional_name limit room (expr true limit room) k ts ≡ Ok (n, sign true ")" q ∷ us)
      → spec.optional_expression limit room (expr true limit room) k us ≡ Ok (e, sign true ";" r ∷ rest)
      → spec.spec_clause limit room (expr true limit room) k (x ∷ sign true "(" p ∷ chosen_word true class m ∷ ts)
      ≡ read_as (ended_as (signals (word_of x) p (kept true class m) n e.tree) e.depth r) rest
  unfolding spec.spec_clause spec.signals_clause spec.signals_behind word_at
  signals_step x p s q r class n e ts us rest is named one two =
      rw (
        is,
        took_note w.Signals x (sign true "(" p ∷ chosen_word true class s ∷ ts) is,
        took_sign true m.LeftParen (codes "(") p (chosen_word true class s ∷ ts) refl,
        took_name true class s ts named,
        one,
        took_sign true m.RightParen (codes ")") q us refl,
        two,
        took_sign true m.Semicolon (codes ";") r rest refl,
      ) refl

  nothing_step : (s n p : Span) (rest : List Lexeme)
      → spec.spec_clause limit room (expr true limit room) k (word true "signals_only" s ∷ backslash true "\\nothing" n ∷ sign true ";" p ∷ rest)
      ≡ read_as (ended_as (signals_only n []) 0 p) rest
  unfolding spec.spec_clause spec.signals_only_clause spec.signaled_classes spec.no_classes word_at same_word
  nothing_step s n p rest =
      rw (
        took_note w.SignalsOnly (word true "signals_only" s) (backslash true "\\nothing" n ∷ sign true ";" p ∷ rest) refl,
        took_note w.Nothing (backslash true "\\nothing" n) (sign true ";" p ∷ rest) refl,
        took_sign true m.Semicolon (codes ";") p rest refl,
      ) refl

  classes_step : (s p : Span) (ws : List Word) (ts rest : List Lexeme) → same_word (word_at ts) w.Nothing ≡ false
      → spec.names limit room (expr true limit room) k ts ≡ Ok (ws, sign true ";" p ∷ rest)
      → spec.spec_clause limit room (expr true limit room) k (word true "signals_only" s ∷ ts) ≡ read_as (ended_as (signals_only (first_span ws) ws) 0 p) rest
  unfolding spec.spec_clause spec.signals_only_clause spec.signaled_classes spec.some_classes word_at
  classes_step s p ws ts rest other read =
      rw (took_note w.SignalsOnly (word true "signals_only" s) ts refl, other, read, took_sign true m.Semicolon (codes ";") p rest refl) refl

  -- ---- one clause

  clause_read : (c : Promise) (u : List Lexeme) → SpellsSpecClause c u → (s : Span) (rest : List Lexeme) → of_spec_clause depth 1 c ≤ room → of_spec_clause nesting 0 c ≤ k
      → length u ≤ limit → spec.spec_clause limit room (expr true limit room) k (u ++ rest) ≡ read_as (ended_as c (of_spec_clause depth 1 c) (end_of s u)) rest
  clause_read _ _ (is_ensures s p x e u is h) before rest deep flat few =
      ap (λ (z : List Lexeme). spec.spec_clause limit room (expr true limit room) k (chosen_word true x s ∷ z)) (append_assoc u (sign true ";" p ∷ []) rest)
      ∙ ensures_step (chosen_word true x s) (parsed h.0 e) p (u ++ sign true ";" p ∷ rest) rest (noted_by w.Ensures (refl, (refl, tt)) x s is)
      (before_semicolon limit room k e u h p rest deep flat (omega (arith, length-append {A = Lexeme})))
      ∙ ap (λ (z : Span). read_as (ended_as (promises (clause (kept true x s) e)) (depth e) z) rest) (semicolon_last before s p u)
  clause_read _ _ (is_assignable s p x ts u is h) before rest deep flat few =
      ap (λ (z : List Lexeme). spec.spec_clause limit room (expr true limit room) k (chosen_word true x s ∷ z)) (append_assoc u (sign true ";" p ∷ []) rest)
      ∙ assignable_step (chosen_word true x s) (sized ts (of_stores depth 1 ts)) p (u ++ sign true ";" p ∷ rest) rest (noted_by w.Assignable (refl, (refl, (refl, (refl, tt)))) x s is)
      (stores_read limit room k ts u h p rest deep flat (omega (arith, length-append {A = Lexeme})))
      ∙ ap (λ (z : Span). read_as (ended_as (assigns (kept true x s) ts) (of_stores depth 1 ts) z) rest) (semicolon_last before s p u)
  clause_read _ _ (is_signals s p m q r x class n e u v is named hn he) before rest deep flat few =
      let last : List Lexeme = v ++ sign true ";" r ∷ rest in
      let lens = length-append u (sign true ")" q ∷ (v ++ sign true ";" r ∷ [])) in
      let inside = length-append v (sign true ";" r ∷ []) in
      ap (λ (z : List Lexeme). spec.spec_clause limit room (expr true limit room) k (chosen_word true x s ∷ sign true "(" p ∷ chosen_word true class m ∷ z))
      (append_assoc u (sign true ")" q ∷ (v ++ sign true ";" r ∷ [])) rest ∙ ap (λ (z : List Lexeme). u ++ sign true ")" q ∷ z) (append_assoc v (sign true ";" r ∷ []) rest))
      ∙ signals_step (chosen_word true x s) p m q r class n (sized e (of_option depth 1 e)) (u ++ sign true ")" q ∷ last) last rest (noted_by w.Signals (refl, (refl, tt)) x s is) named
      (optional_name_read limit room k n u hn q last) (optional_expression_read limit room k e v he r rest deep flat (omega arith))
      ∙ ap (λ (z : Span). read_as (ended_as (signals (kept true x s) p (kept true class m) n e) (of_option depth 1 e) z) rest)
      (semicolon_last before q r v ∙ sym (end_of_both m u (sign true ")" q ∷ (v ++ sign true ";" r ∷ []))))
  clause_read _ _ (is_signals_nothing s n p) before rest deep flat few = nothing_step s n p rest
  clause_read _ _ (is_signals_only s p ws u h) before rest deep flat few =
      ap (λ (z : List Lexeme). spec.spec_clause limit room (expr true limit room) k (word true "signals_only" s ∷ z)) (append_assoc u (sign true ";" p ∷ []) rest)
      ∙ classes_step s p ws (u ++ sign true ";" p ∷ rest) rest (names_word ws u h (sign true ";" p ∷ rest))
      (names_read limit room k ws u h (sign true ";" p ∷ rest) (omega (arith, length-append {A = Lexeme})) (no_comma p rest))
      ∙ ap (λ (z : Span). read_as (ended_as (signals_only (first_span ws) ws) 0 z) rest) (semicolon_last before s p u)

  -- ---- lists of clauses

  abbrev demands_from : ℕ → Ended (List Clause) → Parser (Ended (List Clause))
  demands_from = until (at_word w.Requires) (spec.clause_of limit room (expr true limit room) k w.Requires) with_ended

  abbrev clauses_from : NoteWord → ℕ → Ended (List Promise) → Parser (Ended (List Promise))
  clauses_from heading = until (λ ts. may_begin_clause heading (word_at ts)) (spec.spec_clause limit room (expr true limit room) k) with_ended

  demands_more : (turns : ℕ) (found : Ended (List Clause)) (x : Lexeme) (e : Parsed) (p : Span) (ts rest : List Lexeme) → note_word x ≡ w.Requires
      → parse ts ≡ Ok (e, sign true ";" p ∷ rest)
      → demands_from (suc turns) found (x ∷ ts) ≡ demands_from turns (with_ended found (ended_as (clause (word_of x) e.tree) e.depth p)) rest
  unfolding word_at
  demands_more turns found x e p ts rest is read =
      until_more (at_word w.Requires) (spec.clause_of limit room (expr true limit room) k w.Requires) with_ended turns found (ended_as (clause (word_of x) e.tree) e.depth p) (x ∷ ts) rest
      (ap (λ (z : NoteWord). same_word z w.Requires) is ∙ same_word_self w.Requires) (clause_step w.Requires x e p ts rest is read)

  abbrev grown : {A : Type 0} → Ended (List A) → List A → ℕ → List Lexeme → Ended (List A)
  grown found ts d u = ended_as (found.tree ++ ts) (max found.depth d) (end_of found.last u)

  demands_so_far : (ds : List Clause) (u : List Lexeme) → SpellsDemands ds u → (turns : ℕ) (found : Ended (List Clause)) (rest : List Lexeme) → length u < turns
      → of_clauses depth 1 ds ≤ room → of_clauses nesting 0 ds ≤ k → length u ≤ limit → at_word w.Requires rest ≡ false
      → demands_from turns found (u ++ rest) ≡ read_as (grown found ds (of_clauses depth 1 ds) u) rest
  demands_so_far _ _ no_clauses turns found rest enough deep flat few ends =
      let same : found.depth ≡ max found.depth 0 = omega arith in
      until_ends (at_word w.Requires) (spec.clause_of limit room (expr true limit room) k w.Requires) with_ended turns found rest enough ends
      ∙ ap₂ (λ (z : List Clause) (d : ℕ). read_as (ended_as z d found.last) rest) (sym (append-nil found.tree)) same
  demands_so_far _ _ (more_clauses s p x e ds u v is h more) zero found rest enough deep flat few ends = absurd (omega arith)
  demands_so_far _ _ (more_clauses s p x e ds u v is h more) (suc turns) found rest enough deep flat few ends =
      let now : Ended (List Clause) = with_ended found (ended_as (clause (kept true x s) e) (depth e) p) in
      let lens = length-append u (sign true ";" p ∷ v) in
      let same : max (max found.depth (depth e)) (of_clauses depth 1 ds) ≡ max found.depth (max (depth e) (of_clauses depth 1 ds)) = omega arith in
      ap (λ (z : List Lexeme). demands_from (suc turns) found (chosen_word true x s ∷ z)) (append_assoc u (sign true ";" p ∷ v) rest)
      ∙ demands_more turns found (chosen_word true x s) (parsed h.0 e) p (u ++ sign true ";" p ∷ (v ++ rest)) (v ++ rest) (noted_by w.Requires (refl, (refl, tt)) x s is)
      (before_semicolon limit room k e u h p (v ++ rest) (omega arith) (omega arith) (omega arith))
      ∙ demands_so_far ds v more turns now rest (omega arith) (omega arith) (omega arith) (omega arith) ends
      ∙ ap₂ (λ (z : List Clause) (d : ℕ). read_as (ended_as z d (end_of p v)) rest) (append_assoc found.tree (clause (kept true x s) e ∷ []) ds) same
      ∙ ap (λ (z : Span). read_as (ended_as (found.tree ++ clause (kept true x s) e ∷ ds) (max found.depth (max (depth e) (of_clauses depth 1 ds))) z) rest)
      (sym (end_of_both s u (sign true ";" p ∷ v)))

  clauses_so_far : (heading : NoteWord) (cs : List Promise) (u : List Lexeme) → SpellsSpecClauses cs u → list_all (may_begin heading) cs ≡ true → (turns : ℕ)
      (found : Ended (List Promise)) (rest : List Lexeme) → length u < turns → of_spec_clauses depth 1 cs ≤ room → of_spec_clauses nesting 0 cs ≤ k → length u ≤ limit
      → may_begin_clause heading (word_at rest) ≡ false
      → clauses_from heading turns found (u ++ rest) ≡ read_as (grown found cs (of_spec_clauses depth 1 cs) u) rest
  clauses_so_far heading _ _ no_spec_clauses all turns found rest enough deep flat few ends =
      let same : found.depth ≡ max found.depth 0 = omega arith in
      until_ends (λ ts. may_begin_clause heading (word_at ts)) (spec.spec_clause limit room (expr true limit room) k) with_ended turns found rest enough ends
      ∙ ap₂ (λ (z : List Promise) (d : ℕ). read_as (ended_as z d found.last) rest) (sym (append-nil found.tree)) same
  clauses_so_far heading _ _ (more_spec_clauses c cs u v h more) all zero found rest enough deep flat few ends = absurd (omega arith)
  clauses_so_far heading _ _ (more_spec_clauses c cs u v h more) all (suc turns) found rest enough deep flat few ends =
      let one : Ended Promise = ended_as c (of_spec_clause depth 1 c) (end_of found.last u) in
      let both = and_parts (may_begin heading c) (list_all (may_begin heading) cs) all in
      let lens = length-append u v in
      let some = some_clause c u h in
      let same : max (max found.depth (of_spec_clause depth 1 c)) (of_spec_clauses depth 1 cs) ≡ max found.depth (max (of_spec_clause depth 1 c) (of_spec_clauses depth 1 cs)) = omega arith in
      ap (clauses_from heading (suc turns) found) (append_assoc u v rest)
      ∙ until_more (λ ts. may_begin_clause heading (word_at ts)) (spec.spec_clause limit room (expr true limit room) k) with_ended turns found one (u ++ (v ++ rest)) (v ++ rest)
      (ap (may_begin_clause heading) (clause_word c u h (v ++ rest)) ∙ both.0)
      (clause_read c u h found.last (v ++ rest) (omega arith) (omega arith) (omega arith))
      ∙ clauses_so_far heading cs v more both.1 turns (with_ended found one) rest (omega arith) (omega arith) (omega arith) (omega arith) ends
      ∙ ap₂ (λ (z : List Promise) (d : ℕ). read_as (ended_as z d (end_of (end_of found.last u) v)) rest) (append_assoc found.tree (c ∷ []) cs) same
      ∙ ap (λ (z : Span). read_as (ended_as (found.tree ++ c ∷ cs) (max found.depth (max (of_spec_clause depth 1 c) (of_spec_clauses depth 1 cs))) z) rest)
      (sym (end_of_both found.last u v))

  -- behind what ends with this span
  pub demands_read : (ds : List Clause) (u : List Lexeme) → SpellsDemands ds u → (s : Span) (rest : List Lexeme) → length u < limit → of_clauses depth 1 ds ≤ room
      → of_clauses nesting 0 ds ≤ k → at_word w.Requires rest ≡ false
      → spec.demands limit room (expr true limit room) k s (u ++ rest) ≡ read_as (ended_as ds (of_clauses depth 1 ds) (end_of s u)) rest
  unfolding spec.demands
  demands_read ds u h s rest few deep flat ends =
      let same : max 0 (of_clauses depth 1 ds) ≡ of_clauses depth 1 ds = omega arith in
      demands_so_far ds u h limit (none_behind s) rest few deep flat (omega arith) ends ∙ ap (λ (d : ℕ). read_as (ended_as ds d (end_of s u)) rest) same

  pub clauses_read : (heading : NoteWord) (cs : List Promise) (u : List Lexeme) → SpellsSpecClauses cs u → list_all (may_begin heading) cs ≡ true → (s : Span) (rest : List Lexeme)
      → length u < limit → of_spec_clauses depth 1 cs ≤ room → of_spec_clauses nesting 0 cs ≤ k → may_begin_clause heading (word_at rest) ≡ false
      → spec.spec_clauses limit room (expr true limit room) k heading s (u ++ rest) ≡ read_as (ended_as cs (of_spec_clauses depth 1 cs) (end_of s u)) rest
  unfolding spec.spec_clauses
  clauses_read heading cs u h all s rest few deep flat ends =
      let same : max 0 (of_spec_clauses depth 1 cs) ≡ of_spec_clauses depth 1 cs = omega arith in
      clauses_so_far heading cs u h all limit (none_behind s) rest few deep flat (omega arith) ends
      ∙ ap (λ (d : ℕ). read_as (ended_as cs d (end_of s u)) rest) same
