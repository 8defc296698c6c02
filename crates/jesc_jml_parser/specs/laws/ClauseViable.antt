-- A lexeme whose word goes on with a specification, or with a member of an annotation, begins a longer one.
use Rattle.std.proofs.Common.{◌≡◌, ℕ, true, false, Option, Some, None, List, [], ◌∷◌, ◌++◌, refl, sym, ap, ◌∙◌, subst, append_assoc, append-nil, IsTrue, codes, inl, inr}
use Rattle.std.proofs.lemmas.Bool.{and_parts, and_from, or_cases}
use Rattle.std.specs.Prelude.{◌&&◌}
use Rattle.std.specs.List.{list_all}
use Rattle.jesc_text.specs.declared.place.Span.{Span}
use Rattle.jesc_lexer.specs.declared.token.TokenKind.TheVariants as kinds
use Rattle.jesc_ast.specs.declared.word.Word.{Word}
use Rattle.jesc_ast.specs.Lexemes.{Lexeme, word, backslash, sign, chosen_word, number_of, kept, span_of_all}
use Rattle.jesc_ast.specs.Trees.{Expression, number, Clause, clause}
use Rattle.jesc_ast.specs.SpecTrees.{nothing, store, Promise, promises, assigns, signals, signals_only, Case, case_of, Specification, specification}
use Rattle.jesc_ast.specs.FileTrees.{MemberForm, spec_field, Member, member_of}
use Rattle.jesc_ast.specs.Expressions.{is_number}
use Rattle.jesc_ast.specs.Statements.{is_missing, no_clauses, more_clauses}
use Rattle.jesc_ast.specs.Specifications.{last_name, first_name, is_nothing, missing_name, SpellsSpecClause, is_ensures, is_assignable, is_signals, is_signals_nothing, SpellsSpecClauses, no_spec_clauses, more_spec_clauses, is_heading, may_stand, SpellsVisibility, SpellsDemands, SpellsCase, is_headed, is_demanding, is_promising, SpellsCases, last_case, first_case, SpellsSpec, is_first_spec, is_further_spec}
use Rattle.jesc_ast.specs.Members.{SpellsGroups, no_groups, some_groups, SpellsNoteMember, is_invariant, is_represents, is_spec_field}
use Rattle.jesc_jml_grammar.specs.declared.note_word.NoteWord.{NoteWord}
use Rattle.jesc_jml_grammar.specs.declared.note_word.NoteWord.TheVariants as w
use Rattle.jesc_jml_grammar.specs.ClauseMarks.{plain_word, note_word, same_word, may_begin_clause}
use Rattle.jesc_jml_parser.specs.laws.ClauseEdges.{has_none, case_goes_on, cases_go_on, spec_goes_on, member_goes_on}
use Rattle.jesc_jml_parser.specs.Annotations.{SpellsAnnotation}
use Rattle.jesc_jml_parser.specs.laws.ClauseSoundMarks.{noted, noted_so, same_word_is, heads, word_of_promise}
use Rattle.jesc_jml_parser.specs.laws.ClauseCompleteCases.{headed}
use Rattle.jesc_jml_parser.specs.laws.ClauseCompleteSpecs.{others_go_on}

-- ---- short lexemes that end a tree

abbrev here : Span
here = record { file = 0; from = 0; to = 0 }

abbrev letter : List ℕ
letter = codes "a"

abbrev zero_tree : Expression
zero_tree = number here (codes "0")

abbrev zero_lexeme : Lexeme
zero_lexeme = number_of true (codes "0") here

abbrev semicolon : Lexeme
semicolon = sign true ";" here

-- ---- clauses

-- the lexeme begins a clause of its word
record BeginsClause (x : Lexeme) : Type 0 where
  tree : Promise
  more : List Lexeme
  spelled : SpellsSpecClause tree (x ∷ more)
  word : word_of_promise tree ≡ note_word x

clause_by : (x : Lexeme) (found heading : NoteWord) → note_word x ≡ found → may_begin_clause heading found ≡ true → BeginsClause x
clause_by x w.Ensures heading e may =
    let at = noted w.Ensures x e in
    let tree : Promise = promises (clause (kept true x.text x.span) zero_tree) in
    record {
      tree = tree;
      more = zero_lexeme ∷ semicolon ∷ [];
      spelled = subst (λ (z : Lexeme). SpellsSpecClause tree (z ∷ zero_lexeme ∷ semicolon ∷ [])) (sym at.0)
          (is_ensures x.span here x.text zero_tree (zero_lexeme ∷ []) at.1 (12, is_number here (codes "0")));
      word = sym e;
    }
clause_by x w.Assignable heading e may =
    let at = noted w.Assignable x e in
    let tree : Promise = assigns (kept true x.text x.span) (store here nothing ∷ []) in
    record {
      tree = tree;
      more = backslash true "\\nothing" here ∷ semicolon ∷ [];
      spelled = subst (λ (z : Lexeme). SpellsSpecClause tree (z ∷ backslash true "\\nothing" here ∷ semicolon ∷ [])) (sym at.0)
          (is_assignable x.span here x.text (store here nothing ∷ []) (backslash true "\\nothing" here ∷ []) at.1 (is_nothing here));
      word = sym e;
    }
clause_by x w.Signals heading e may =
    let at = noted w.Signals x e in
    let tree : Promise = signals (kept true x.text x.span) here (kept true letter here) None None in
    let more : List Lexeme = sign true "(" here ∷ chosen_word true letter here ∷ sign true ")" here ∷ semicolon ∷ [] in
    record {
      tree = tree;
      more = more;
      spelled = subst (λ (z : Lexeme). SpellsSpecClause tree (z ∷ more)) (sym at.0)
          (is_signals x.span here here here here x.text letter None None [] [] at.1 refl missing_name is_missing);
      word = sym e;
    }
clause_by x w.SignalsOnly heading e may =
    let at = noted_so kinds.Word (codes "signals_only") x (noted w.SignalsOnly x e) in
    let tree : Promise = signals_only here [] in
    record {
      tree = tree;
      more = backslash true "\\nothing" here ∷ semicolon ∷ [];
      spelled = subst (λ (z : Lexeme). SpellsSpecClause tree (z ∷ backslash true "\\nothing" here ∷ semicolon ∷ [])) (sym at) (is_signals_nothing x.span here here);
      word = sym e;
    }
clause_by x _ heading e may = absurd cc

clauses_at_end : (cs : List Promise) (u : List Lexeme) (c : Promise) (v : List Lexeme) → SpellsSpecClauses cs u → SpellsSpecClause c v → SpellsSpecClauses (cs ++ c ∷ []) (u ++ v)
clauses_at_end _ _ c v no_spec_clauses h = subst (SpellsSpecClauses (c ∷ [])) (append-nil v) (more_spec_clauses c [] v [] h no_spec_clauses)
clauses_at_end _ _ c v (more_spec_clauses d cs u t g more) h =
    subst (SpellsSpecClauses (d ∷ (cs ++ c ∷ []))) (sym (append_assoc u t v)) (more_spec_clauses d (cs ++ c ∷ []) u (t ++ v) g (clauses_at_end cs t c v more h))

stand_at_end : (x : List ℕ) (cs : List Promise) (c : Promise) → list_all (may_stand x) cs ≡ true → may_stand x c ≡ true → list_all (may_stand x) (cs ++ c ∷ []) ≡ true
stand_at_end x [] c all may = and_from (may_stand x c) true may refl
stand_at_end x (d ∷ cs) c all may =
    let both = and_parts (may_stand x d) (list_all (may_stand x) cs) all in
    and_from (may_stand x d) (list_all (may_stand x) (cs ++ c ∷ [])) both.0 (stand_at_end x cs c both.1 may)

-- ---- demands

abbrev demand_of : Lexeme → Clause
demand_of x = clause (kept true x.text x.span) zero_tree

demands_at_end : (ds : List Clause) (u : List Lexeme) (x : Lexeme) → SpellsDemands ds u → note_word x ≡ w.Requires
    → SpellsDemands (ds ++ demand_of x ∷ []) (u ++ x ∷ zero_lexeme ∷ semicolon ∷ [])
demands_at_end _ _ x no_clauses e =
    let at = noted w.Requires x e in
    subst (λ (z : Lexeme). SpellsDemands (demand_of x ∷ []) (z ∷ zero_lexeme ∷ semicolon ∷ [])) (sym at.0)
    (more_clauses x.span here x.text zero_tree [] (zero_lexeme ∷ []) [] at.1 (12, is_number here (codes "0")) no_clauses)
demands_at_end _ _ x (more_clauses s p y e ds u v is h more) requires_word =
    subst (λ (z : List Lexeme). SpellsDemands (clause (kept true y s) e ∷ (ds ++ demand_of x ∷ [])) (chosen_word true y s ∷ z))
    (sym (append_assoc u (sign true ";" p ∷ v) (x ∷ zero_lexeme ∷ semicolon ∷ [])))
    (more_clauses s p y e (ds ++ demand_of x ∷ []) u (v ++ x ∷ zero_lexeme ∷ semicolon ∷ []) is h (demands_at_end ds v x more requires_word))

-- ---- cases

record LongerCase (u : List Lexeme) (x : Lexeme) : Type 0 where
  tree : Case
  more : List Lexeme
  spelled : SpellsCase tree (u ++ x ∷ more)

-- with a clause more, or a demand more, under a heading
headed_clause : (s : Span) (y : List ℕ) (visibility : Option Word) (ds : List Clause) (cs : List Promise) (t u v : List Lexeme) (x : Lexeme)
    → SpellsVisibility visibility t → IsTrue (is_heading y) → SpellsDemands ds u → SpellsSpecClauses cs v → list_all (may_stand y) cs ≡ true → (b : BeginsClause x)
    → may_stand y b.tree ≡ true → LongerCase (t ++ chosen_word true y s ∷ (u ++ v)) x
headed_clause s y visibility ds cs t u v x seen is h g all b may =
    let whole : List Lexeme = t ++ chosen_word true y s ∷ (u ++ (v ++ x ∷ b.more)) in
    let tree : Case = case_of (span_of_all whole) visibility (Some (kept true y s)) ds (cs ++ b.tree ∷ []) in
    record {
      tree = tree;
      more = b.more;
      spelled = subst (SpellsCase tree)
          (sym (append_assoc t (chosen_word true y s ∷ (u ++ v)) (x ∷ b.more) ∙ ap (λ (z : List Lexeme). t ++ chosen_word true y s ∷ z) (append_assoc u v (x ∷ b.more))))
          (is_headed s y visibility ds (cs ++ b.tree ∷ []) t u (v ++ x ∷ b.more) seen is h (clauses_at_end cs v b.tree (x ∷ b.more) g b.spelled) (stand_at_end y cs b.tree all may));
    }

headed_demand : (s : Span) (y : List ℕ) (visibility : Option Word) (ds : List Clause) (t u : List Lexeme) (x : Lexeme)
    → SpellsVisibility visibility t → IsTrue (is_heading y) → SpellsDemands ds u → note_word x ≡ w.Requires → LongerCase (t ++ chosen_word true y s ∷ (u ++ [])) x
headed_demand s y visibility ds t u x seen is h e =
    let more : List Lexeme = zero_lexeme ∷ semicolon ∷ [] in
    let whole : List Lexeme = t ++ chosen_word true y s ∷ ((u ++ x ∷ more) ++ []) in
    let tree : Case = case_of (span_of_all whole) visibility (Some (kept true y s)) (ds ++ demand_of x ∷ []) [] in
    record {
      tree = tree;
      more = more;
      spelled = subst (SpellsCase tree)
          (ap (λ (z : List Lexeme). t ++ chosen_word true y s ∷ z) (append-nil (u ++ x ∷ more) ∙ ap (λ (z : List Lexeme). z ++ x ∷ more) (sym (append-nil u)))
          ∙ sym (append_assoc t (chosen_word true y s ∷ (u ++ [])) (x ∷ more)))
          (is_headed s y visibility (ds ++ demand_of x ∷ []) [] t (u ++ x ∷ more) [] seen is (demands_at_end ds u x h e) no_spec_clauses refl);
    }

demanding_clause : (d : Clause) (ds : List Clause) (cs : List Promise) (u v : List Lexeme) (x : Lexeme) → SpellsDemands (d ∷ ds) u → SpellsSpecClauses cs v → (b : BeginsClause x)
    → LongerCase (u ++ v) x
demanding_clause d ds cs u v x h g b =
    let tree : Case = case_of (span_of_all (u ++ (v ++ x ∷ b.more))) None None (d ∷ ds) (cs ++ b.tree ∷ []) in
    record {
      tree = tree;
      more = b.more;
      spelled = subst (SpellsCase tree) (sym (append_assoc u v (x ∷ b.more)))
          (is_demanding d ds (cs ++ b.tree ∷ []) u (v ++ x ∷ b.more) h (clauses_at_end cs v b.tree (x ∷ b.more) g b.spelled));
    }

demanding_demand : (d : Clause) (ds : List Clause) (u : List Lexeme) (x : Lexeme) → SpellsDemands (d ∷ ds) u → note_word x ≡ w.Requires → LongerCase (u ++ []) x
demanding_demand d ds u x h e =
    let more : List Lexeme = zero_lexeme ∷ semicolon ∷ [] in
    let tree : Case = case_of (span_of_all ((u ++ x ∷ more) ++ [])) None None (d ∷ (ds ++ demand_of x ∷ [])) [] in
    record {
      tree = tree;
      more = more;
      spelled = subst (SpellsCase tree) (append-nil (u ++ x ∷ more) ∙ ap (λ (z : List Lexeme). z ++ x ∷ more) (sym (append-nil u)))
          (is_demanding d (ds ++ demand_of x ∷ []) [] (u ++ x ∷ more) [] (demands_at_end (d ∷ ds) u x h e) no_spec_clauses);
    }

promising_clause : (c : Promise) (cs : List Promise) (v : List Lexeme) (x : Lexeme) → SpellsSpecClauses (c ∷ cs) v → (b : BeginsClause x) → LongerCase v x
promising_clause c cs v x g b = record {
  tree = case_of (span_of_all (v ++ x ∷ b.more)) None None [] (c ∷ (cs ++ b.tree ∷ []));
  more = b.more;
  spelled = is_promising c (cs ++ b.tree ∷ []) (v ++ x ∷ b.more) (clauses_at_end (c ∷ cs) v b.tree (x ∷ b.more) g b.spelled);
}

-- where no clause stands yet
no_clause : (cs : List Promise) (v : List Lexeme) (x : Lexeme) (P : List Promise → List Lexeme → Type 0) → SpellsSpecClauses cs v
    → (has_none cs && same_word (note_word x) w.Requires) ≡ true → (note_word x ≡ w.Requires → P [] []) → P cs v
no_clause _ _ x P no_spec_clauses goes h = h (same_word_is (note_word x) w.Requires goes)
no_clause _ _ x P (more_spec_clauses c cs u v g more) goes h = absurd cc

case_longer : (c : Case) (u : List Lexeme) → SpellsCase c u → (x : Lexeme) → case_goes_on c (note_word x) ≡ true → LongerCase u x
case_longer _ _ (is_headed s y visibility ds cs t u v seen is h g all) x goes =
    elim (or_cases (may_begin_clause (plain_word y) (note_word x)) (has_none cs && same_word (note_word x) w.Requires) goes) [
      | inl may ↦
          let b = clause_by x (note_word x) (plain_word y) refl may in
          let allowed : may_begin_clause (plain_word y) (word_of_promise b.tree) ≡ true = ap (may_begin_clause (plain_word y)) b.word ∙ may in
          headed_clause s y visibility ds cs t u v x seen is h g all b ((heads (plain_word y) (headed y is).is (chosen_word true y s) refl).allows b.tree allowed)
      | inr demanded ↦ no_clause cs v x (λ ps a. LongerCase (t ++ chosen_word true y s ∷ (u ++ a)) x) g demanded (headed_demand s y visibility ds t u x seen is h)
    ]
case_longer _ _ (is_demanding d ds cs u v h g) x goes =
    elim (or_cases (may_begin_clause w.Other (note_word x)) (has_none cs && same_word (note_word x) w.Requires) goes) [
      | inl may ↦ demanding_clause d ds cs u v x h g (clause_by x (note_word x) w.Other refl may)
      | inr demanded ↦ no_clause cs v x (λ ps a. LongerCase (u ++ a) x) g demanded (demanding_demand d ds u x h)
    ]
case_longer _ _ (is_promising c cs v g) x goes =
    elim (or_cases (may_begin_clause w.Other (note_word x)) false goes) [
      | inl may ↦ promising_clause c cs v x g (clause_by x (note_word x) w.Other refl may)
      | inr none ↦ absurd cc
    ]

-- ---- specifications

record LongerCases (u : List Lexeme) (x : Lexeme) : Type 0 where
  trees : List Case
  more : List Lexeme
  spelled : SpellsCases trees (u ++ x ∷ more)

-- a short case without a heading
short_case : SpellsCase (case_of here None None [] (signals_only here [] ∷ [])) (word true "signals_only" here ∷ backslash true "\\nothing" here ∷ semicolon ∷ [])
short_case =
    is_promising (signals_only here []) [] (word true "signals_only" here ∷ backslash true "\\nothing" here ∷ semicolon ∷ [])
    (more_spec_clauses (signals_only here []) [] (word true "signals_only" here ∷ backslash true "\\nothing" here ∷ semicolon ∷ []) [] (is_signals_nothing here here here) no_spec_clauses)

cases_longer : (cs : List Case) (u : List Lexeme) → SpellsCases cs u → (x : Lexeme) → cases_go_on cs (note_word x) ≡ true → LongerCases u x
cases_longer _ _ (last_case c u h) x goes =
    elim (or_cases (same_word (note_word x) w.Also) (case_goes_on c (note_word x)) goes) [
      | inl also ↦
          let at = noted_so kinds.Word (codes "also") x (noted w.Also x (same_word_is (note_word x) w.Also also)) in
          let last : Case = case_of here None None [] (signals_only here [] ∷ []) in
          let more : List Lexeme = word true "signals_only" here ∷ backslash true "\\nothing" here ∷ semicolon ∷ [] in
          record {
            trees = c ∷ last ∷ [];
            more = more;
            spelled = subst (λ (z : Lexeme). SpellsCases (c ∷ last ∷ []) (u ++ z ∷ more)) (sym at) (first_case c x.span (last ∷ []) u more h (last_case last more short_case));
          }
      | inr inside ↦
          let L = case_longer c u h x inside in
          record { trees = L.tree ∷ []; more = L.more; spelled = last_case L.tree (u ++ x ∷ L.more) L.spelled }
    ]
cases_longer _ _ (first_case c s cs u v h others) x goes =
    let L = cases_longer cs v others x (sym (others_go_on c cs v others (note_word x)) ∙ goes) in
    record {
      trees = c ∷ L.trees;
      more = L.more;
      spelled = subst (SpellsCases (c ∷ L.trees)) (sym (append_assoc u (word true "also" s ∷ v) (x ∷ L.more))) (first_case c s L.trees u (v ++ x ∷ L.more) h L.spelled);
    }

pub spec_longer : (t : Specification) (u : List Lexeme) (x : Lexeme) → SpellsSpec t u → spec_goes_on t (note_word x) ≡ true
    → (t' : Specification) × (more : List Lexeme) × SpellsSpec t' (u ++ x ∷ more)
spec_longer _ _ x (is_first_spec cs u h) goes =
    let L = cases_longer cs u h x goes in
    (specification false L.trees, L.more, is_first_spec L.trees (u ++ x ∷ L.more) L.spelled)
spec_longer _ _ x (is_further_spec s cs u h) goes =
    let L = cases_longer cs u h x goes in
    (specification true L.trees, L.more, is_further_spec s L.trees (u ++ x ∷ L.more) L.spelled)

-- ---- members

record LongerForm (u : List Lexeme) (x : Lexeme) : Type 0 where
  form : MemberForm
  more : List Lexeme
  spelled : SpellsNoteMember form (u ++ x ∷ more)

form_longer : (f : MemberForm) (u : List Lexeme) → SpellsNoteMember f u → (x : Lexeme) → member_goes_on f (note_word x) ≡ true → LongerForm u x
form_longer _ _ (is_invariant s p e ws t u are h) x goes = absurd cc
form_longer _ _ (is_represents s n o p visibility y op e t u seen named is h) x goes = absurd cc
form_longer _ _ (is_spec_field s n p before after _ y z ty equals value a b c d _ one is two typed base named hv no_groups) x goes =
    let at = noted_so kinds.Word (codes "in") x (noted w.In x (same_word_is (note_word x) w.In goes)) in
    let more : List Lexeme = chosen_word true letter here ∷ semicolon ∷ [] in
    let form : MemberForm = spec_field (before ++ kept true y s ∷ after) ty (kept true z n) equals value (kept true letter here ∷ []) in
    let groups : SpellsGroups (kept true letter here ∷ []) (x ∷ more) =
    subst (λ (q : Lexeme). SpellsGroups (kept true letter here ∷ []) (q ∷ more)) (sym at)
    (some_groups x.span here (kept true letter here ∷ []) (chosen_word true letter here ∷ []) (last_name here letter refl)) in
    record {
      form = form;
      more = more;
      spelled = subst (SpellsNoteMember form) (sym (simp append_assoc))
          (is_spec_field s n p before after (kept true letter here ∷ []) y z ty equals value a b c d (x ∷ more) one is two typed base named hv groups);
    }
form_longer _ _ (is_spec_field s n p before after _ y z ty equals value a b c d _ one is two typed base named hv (some_groups i q _ _ (last_name j v vn))) x goes = absurd cc
form_longer _ _ (is_spec_field s n p before after _ y z ty equals value a b c d _ one is two typed base named hv (some_groups i q _ _ (first_name j r v ws u vn more))) x goes = absurd cc

pub member_longer : (t : Member) (u : List Lexeme) (x : Lexeme) → SpellsAnnotation t u → member_goes_on t.form (note_word x) ≡ true
    → (t' : Member) × (more : List Lexeme) × SpellsAnnotation t' (u ++ x ∷ more)
member_longer t u x h goes =
    let L = form_longer t.form u h.form x goes in
    (member_of (span_of_all (u ++ x ∷ L.more)) L.form, L.more, record { form = L.spelled; span = refl })
