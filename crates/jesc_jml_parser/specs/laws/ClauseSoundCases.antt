-- What the rules of cases and of specifications take.
use Rattle.std.proofs.Common.{◌≡◌, ℕ, max, Bool, true, false, Option, Some, None, List, [], ◌∷◌, ◌++◌, refl, sym, ap, ◌∙◌, append_assoc, arith}
use Rattle.std.proofs.lemmas.Bool.{and_parts, and_from, both_ways}
use Rattle.std.specs.Prelude.{codes}
use Rattle.std.specs.List.{list_all}
use Rattle.jesc_text.specs.declared.place.Span.{Span}
use Rattle.jesc_lexer.specs.declared.token.TokenKind.TheVariants as kinds
use Rattle.jesc_ast.specs.declared.word.Word.{Word}
use Rattle.jesc_ast.specs.Lexemes.{Lexeme, join, span_of_all}
use Rattle.jesc_ast.specs.Trees.{Expression, Clause}
use Rattle.jesc_ast.specs.SpecTrees.{Promise, Case, case_of, Specification}
use Rattle.jesc_ast.specs.Depth.{of_clauses, of_spec_clauses, of_cases}
use Rattle.jesc_ast.specs.Statements.{no_clauses, more_clauses}
use Rattle.jesc_ast.specs.Specifications.{SpellsSpecClause, is_ensures, is_assignable, is_signals, is_signals_nothing, is_signals_only, SpellsSpecClauses, no_spec_clauses, more_spec_clauses, may_stand, SpellsVisibility, no_visibility, some_visibility, SpellsDemands, SpellsCase, is_headed, is_demanding, is_promising, SpellsCases, last_case, first_case, SpellsSpec, is_first_spec, is_further_spec}
use Rattle.jesc_jml_grammar.specs.declared.note_word.NoteWord.{NoteWord}
use Rattle.jesc_jml_grammar.specs.declared.note_word.NoteWord.TheVariants as w
use Rattle.jesc_jml_grammar.specs.Steps.{Parser, ◌>>◌, take_one, refuse}
use Rattle.jesc_jml_grammar.specs.Reading.{Parsed, Start, word_of}
use Rattle.jesc_jml_grammar.specs.ClauseMarks.{note_word, same_word, word_at, expect_word, at_word, span_at, is_heading_word, may_begin_clause}
use Rattle.jesc_jml_grammar.specs.ClauseReading as spec
use Rattle.jesc_jml_grammar.specs.ClauseReading.{Sized, Ended, no_items, with_more, optional_word, span_from, case_tree}
use Rattle.jesc_jml_parser.specs.laws.SoundSteps.{Gives, gives_bind, gives_if, gives_so}
use Rattle.jesc_jml_parser.specs.laws.ClauseSoundMarks.{noted, noted_so, Heads, heads, word_of_promise}
use Rattle.jesc_jml_parser.specs.laws.ClauseSoundStores.{TakesExpressions}
use Rattle.jesc_jml_parser.specs.laws.ClauseSoundLists.{end_of, end_of_both, whole_span, IsSome, some_before, taken_span, took_one_word, TookWord, took_word, TakenAs, TakenUntil, until_takes, separated_takes, IsRead, IsGreatest, read_first, read_more}
use Rattle.jesc_jml_parser.specs.laws.ClauseSoundClauses.{AreDemands, ArePromises, demands_take, promises_take}

-- ---- what is read

abbrev pub case_measure : (Expression → ℕ) → ℕ → Case → ℕ
case_measure f n c = max (of_clauses f n c.demands) (of_spec_clauses f n c.promises)

abbrev pub IsCaseRead : ℕ → ℕ → Sized Case → List Lexeme → Type 0
IsCaseRead room k c u = IsRead SpellsCase case_measure room k u c.tree c.depth

abbrev pub AreCases : ℕ → ℕ → Sized (List Case) → List Lexeme → Type 0
AreCases room k cs u = IsRead SpellsCases of_cases room k u cs.tree cs.depth

abbrev pub spec_measure : (Expression → ℕ) → ℕ → Specification → ℕ
spec_measure f n t = of_cases f n t.cases

abbrev pub IsSpecRead : ℕ → ℕ → Sized Specification → List Lexeme → Type 0
IsSpecRead room k t u = IsRead SpellsSpec spec_measure room k u t.tree t.depth

cases_are_greatest : IsGreatest case_measure of_cases
cases_are_greatest = record { none = λ f n. refl; more = λ f n x xs. refl }

cases_at_end : (cs : List Case) (u : List Lexeme) (s : Lexeme) (c : Case) (v : List Lexeme) → SpellsCases cs u → note_word s ≡ w.Also → SpellsCase c v
    → SpellsCases (cs ++ c ∷ []) (u ++ s ∷ v)
cases_at_end _ _ s c v (last_case d u is) also h =
    rw (noted_so kinds.Word (codes "also") s (noted w.Also s also)) (first_case d s.span (c ∷ []) u v is (last_case c v h))
cases_at_end _ _ s c v (first_case d r cs t u is more) also h =
    simp append_assoc (first_case d r (cs ++ c ∷ []) t (u ++ s ∷ v) is (cases_at_end cs u s c v more also h))

-- ---- a case with a heading

all_so : (f g : Promise → Bool) → ((c : Promise) → f c ≡ true → g c ≡ true) → (cs : List Promise) → list_all f cs ≡ true → list_all g cs ≡ true
all_so f g so [] e = refl
all_so f g so (c ∷ cs) e =
    let both = and_parts (f c) (list_all f cs) e in
    and_from (g c) (list_all g cs) (so c both.0) (all_so f g so cs both.1)

abbrev pub seen_lexemes : Option Lexeme → List Lexeme
seen_lexemes None = []
seen_lexemes (Some v) = v ∷ []

abbrev pub IsSeen : Option Lexeme → Type 0
IsSeen None = Unit {0}
IsSeen (Some v) = note_word v ≡ w.Visibility

pub seen_spelled : (visibility : Option Lexeme) → IsSeen visibility → SpellsVisibility (optional_word visibility) (seen_lexemes visibility)
seen_spelled None h = no_visibility
seen_spelled (Some v) h = let at = noted w.Visibility v h in rw at.0 (some_visibility v.span v.text at.1)

headed_span : (visibility : Option Lexeme) (x : Lexeme) (t : List Lexeme) → join (span_from visibility x) (end_of x.span t) ≡ span_of_all (seen_lexemes visibility ++ x ∷ t)
headed_span None x t = whole_span x t
headed_span (Some v) x t = whole_span v (x ∷ t)

-- ---- a case without a heading

abbrev pub is_bare_word : NoteWord → Bool
is_bare_word w.Requires = true
is_bare_word w.Ensures = true
is_bare_word w.Assignable = true
is_bare_word w.Signals = true
is_bare_word w.SignalsOnly = true
is_bare_word _ = false

begins_some : (found : NoteWord) → is_bare_word found ≡ true → same_word found w.Requires ≡ false → may_begin_clause w.Other found ≡ true
unfolding same_word
begins_some w.Requires is none = absurd cc
begins_some w.Ensures is none = refl
begins_some w.Assignable is none = refl
begins_some w.Signals is none = refl
begins_some w.SignalsOnly is none = refl
begins_some _ is none = absurd cc

some_demands : (d : Clause) (ds : List Clause) (u : List Lexeme) → SpellsDemands (d ∷ ds) u → IsSome u
some_demands _ _ _ (more_clauses s p x e cs u v one is more) = tt

some_promise : (c : Promise) (u : List Lexeme) → SpellsSpecClause c u → IsSome u
some_promise _ _ (is_ensures s p x e u one is) = tt
some_promise _ _ (is_assignable s p x ts u one are) = tt
some_promise _ _ (is_signals s p m q r x class n e u v one named is_name is) = tt
some_promise _ _ (is_signals_nothing s n p) = tt
some_promise _ _ (is_signals_only s p ws u are) = tt

some_promises : (c : Promise) (cs : List Promise) (u : List Lexeme) → SpellsSpecClauses (c ∷ cs) u → IsSome u
some_promises _ _ _ (more_spec_clauses c cs u v is more) = some_before u v (some_promise c u is)

no_demands : (u : List Lexeme) → SpellsDemands [] u → u ≡ []
no_demands _ no_clauses = refl

no_promises : (u : List Lexeme) → SpellsSpecClauses [] u → u ≡ []
no_promises _ no_spec_clauses = refl

bare_spelled : (ds : List Clause) (ps : List Promise) (u v ts rest : List Lexeme) → SpellsDemands ds u → SpellsSpecClauses ps v → ts ≡ u ++ (v ++ rest)
    → at_word w.Requires (v ++ rest) ≡ false → may_begin_clause w.Other (word_at rest) ≡ false → is_bare_word (word_at ts) ≡ true
    → SpellsCase (case_of (join (span_at ts) (end_of (span_at ts) (u ++ v))) None None ds ps) (u ++ v)
bare_spelled (d ∷ ds) ps u v ts rest h g parts demanded ended bare =
    rw (taken_span (u ++ v) ts rest (rw append_assoc parts) (some_before u v (some_demands d ds u h))) (is_demanding d ds ps u v h g)
bare_spelled [] (c ∷ ps) u v ts rest h g parts demanded ended bare =
    let empty = no_demands u h in
    let whole : ts ≡ v ++ rest = rw empty at parts in
    rw empty (rw (taken_span v ts rest whole (some_promises c ps v g)) (is_promising c ps v g))
bare_spelled [] [] u v ts rest h g parts demanded ended bare =
    let first = no_demands u h in
    let second = no_promises v g in
    let whole : ts ≡ rest = rw (first, second) at parts in
    let begins : may_begin_clause w.Other (word_at rest) ≡ true = begins_some (word_at rest) (ap (λ (z : List Lexeme). is_bare_word (word_at z)) (sym whole) ∙ bare) (rw second at demanded) in
    absurd (both_ways (may_begin_clause w.Other (word_at rest)) ended begins)

-- ---- cases

-- behind what a case begins with
pub record TakenBody (room k : ℕ) (first : Span) (visibility heading : Option Word) (found : NoteWord) (s : Span) (ts : List Lexeme) (c : Sized Case) (rest : List Lexeme)
    : Type 0 where
  pub ds : Ended (List Clause)
  pub ps : Ended (List Promise)
  pub front : List Lexeme
  pub back : List Lexeme
  pub parts : ts ≡ front ++ (back ++ rest)
  pub demands : AreDemands s room k ds front
  pub promises : ArePromises found ds.last room k ps back
  pub demanded : at_word w.Requires (back ++ rest) ≡ false
  pub ended : may_begin_clause found (word_at rest) ≡ false
  pub made : c ≡ case_tree first visibility heading ds ps

-- a lexeme that is a heading
pub record TookHeading (ts : List Lexeme) (x : Lexeme) (rest : List Lexeme) : Type 0 where
  pub at : ts ≡ x ∷ rest
  pub heads : Heads (word_at ts) x

-- how deep a case is that was made of these parts
pub body_read : (room k : ℕ) (s first : Span) (visibility heading : Option Word) (found : NoteWord) (ds : Ended (List Clause)) (ps : Ended (List Promise)) (u v t : List Lexeme)
    → AreDemands s room k ds u → ArePromises found ds.last room k ps v → SpellsCase (case_tree first visibility heading ds ps).tree t
    → IsCaseRead room k (case_tree first visibility heading ds ps) t
body_read room k s first visibility heading found ds ps u v t h g spelled = record {
  spelled = spelled;
  deep = rw (h.read.deep, g.are.read.deep) refl;
  shallow = omega (arith, h.read.shallow, g.are.read.shallow);
  flat = omega (arith, h.read.flat, g.are.read.flat);
}

module _ (limit room : ℕ) (inner : ℕ → ℕ → Start → Parser Parsed) (reads : TakesExpressions room inner) (k : ℕ) where
  body_takes : (first : Span) (visibility heading : Option Word) (found : NoteWord) (s : Span) (ts : List Lexeme)
      → Gives (spec.case_body limit room inner k first visibility heading found s ts) (TakenBody room k first visibility heading found s ts)
  unfolding spec.case_body
  body_takes first visibility heading found s ts =
      gives_bind _ _ (spec.demands limit room inner k s ts) (demands_take limit room inner reads k s ts) (λ ds mid h.
      gives_bind _ _ (spec.spec_clauses limit room inner k found ds.last mid) (promises_take limit room inner reads k found ds.last mid) (λ ps rest g.
      record {
        ds = ds;
        ps = ps;
        front = h.taken;
        back = g.taken;
        parts = rw (h.parts, g.parts) refl;
        demands = h.is;
        promises = g.is;
        demanded = ap (at_word w.Requires) (sym g.parts) ∙ h.ended;
        ended = g.ended;
        made = refl;
      }))

  heading_takes : (ts : List Lexeme) → Gives (spec.heading limit room inner k ts) (TookHeading ts)
  unfolding spec.heading
  heading_takes ts =
      gives_if (is_heading_word (word_at ts)) take_one refuse (TookHeading ts) ts
      (λ e. gives_so (TookWord (word_at ts) ts) (TookHeading ts) (take_one ts) (took_one_word ts) (λ x rest h.
      record { at = h.at; heads = heads (word_at ts) e x h.word }))
      (λ e. tt)

  pub case_behind_takes : (visibility : Option Lexeme) → IsSeen visibility → (ts : List Lexeme)
      → Gives (spec.case_behind limit room inner k visibility ts) (TakenAs (λ (c : Sized Case) (u : List Lexeme). IsCaseRead room k c (seen_lexemes visibility ++ u)) ts)
  unfolding spec.case_behind
  case_behind_takes visibility seen ts =
      gives_bind _ _ (spec.heading limit room inner k ts) (heading_takes ts) (λ x mid h.
      gives_so _ (TakenAs (λ (c : Sized Case) (u : List Lexeme). IsCaseRead room k c (seen_lexemes visibility ++ u)) ts)
      (spec.case_body limit room inner k (span_from visibility x) (optional_word visibility) (Some (word_of x)) (word_at ts) x.span mid)
      (body_takes (span_from visibility x) (optional_word visibility) (Some (word_of x)) (word_at ts) x.span mid) (λ c rest g.
      let last : g.ps.last ≡ end_of x.span (g.front ++ g.back) =
      sym g.promises.are.last ∙ ap (λ (s : Span). end_of s g.back) (sym g.demands.last) ∙ sym (end_of_both x.span g.front g.back) in
      let span : join (span_from visibility x) g.ps.last ≡ span_of_all (seen_lexemes visibility ++ x ∷ (g.front ++ g.back)) =
      ap (join (span_from visibility x)) last ∙ headed_span visibility x (g.front ++ g.back) in
      let may : list_all (may_stand x.text) g.ps.tree ≡ true =
      all_so (λ c. may_begin_clause (word_at ts) (word_of_promise c)) (may_stand x.text) h.heads.allows g.ps.tree g.promises.allowed in
      record {
        taken = x ∷ (g.front ++ g.back);
        parts = rw (h.at, g.parts) (sym (simp append_assoc));
        is = rw g.made (body_read room k x.span (span_from visibility x) (optional_word visibility) (Some (word_of x)) (word_at ts) g.ds g.ps g.front g.back
            (seen_lexemes visibility ++ x ∷ (g.front ++ g.back)) g.demands g.promises (rw span (rw h.heads.at
            (is_headed x.span x.text (optional_word visibility) g.ds.tree g.ps.tree (seen_lexemes visibility) g.front g.back (seen_spelled visibility seen) h.heads.heading
            g.demands.read.spelled g.promises.are.read.spelled may))));
      }))

  seen_case_takes : (ts : List Lexeme) → Gives (spec.seen_case limit room inner k ts) (TakenAs (IsCaseRead room k) ts)
  unfolding spec.seen_case
  seen_case_takes ts =
      gives_bind _ _ (expect_word w.Visibility ts) (took_word w.Visibility ts) (λ v mid h.
      gives_so _ (TakenAs (IsCaseRead room k) ts) (spec.case_behind limit room inner k (Some v) mid) (case_behind_takes (Some v) h.word mid) (λ c rest g.
      record { taken = v ∷ g.taken; parts = rw (h.at, g.parts) refl; is = g.is }))

  headed_case_takes : (ts : List Lexeme) → Gives (spec.case_behind limit room inner k None ts) (TakenAs (IsCaseRead room k) ts)
  headed_case_takes ts =
      gives_so _ (TakenAs (IsCaseRead room k) ts) (spec.case_behind limit room inner k None ts) (case_behind_takes None tt ts) (λ c rest g.
      record { taken = g.taken; parts = g.parts; is = g.is })

  bare_case_takes : (ts : List Lexeme) → is_bare_word (word_at ts) ≡ true → Gives (spec.bare_case limit room inner k ts) (TakenAs (IsCaseRead room k) ts)
  unfolding spec.bare_case
  bare_case_takes ts bare =
      gives_so _ (TakenAs (IsCaseRead room k) ts) (spec.case_body limit room inner k (span_at ts) None None w.Other (span_at ts) ts)
      (body_takes (span_at ts) None None w.Other (span_at ts) ts) (λ c rest g.
      let last : g.ps.last ≡ end_of (span_at ts) (g.front ++ g.back) =
      sym g.promises.are.last ∙ ap (λ (s : Span). end_of s g.back) (sym g.demands.last) ∙ sym (end_of_both (span_at ts) g.front g.back) in
      record {
        taken = g.front ++ g.back;
        parts = g.parts ∙ sym (append_assoc g.front g.back rest);
        is = rw g.made (body_read room k (span_at ts) (span_at ts) None None w.Other g.ds g.ps g.front g.back (g.front ++ g.back) g.demands g.promises
            (rw last (bare_spelled g.ds.tree g.ps.tree g.front g.back ts rest g.demands.read.spelled g.promises.are.read.spelled g.parts g.demanded g.ended bare)));
      })

  case_by_takes : (found : NoteWord) (ts : List Lexeme) → word_at ts ≡ found → Gives (spec.case_by limit room inner k found ts) (TakenAs (IsCaseRead room k) ts)
  case_by_takes w.Visibility ts e = seen_case_takes ts
  case_by_takes w.Behavior ts e = headed_case_takes ts
  case_by_takes w.NormalBehavior ts e = headed_case_takes ts
  case_by_takes w.ExceptionalBehavior ts e = headed_case_takes ts
  case_by_takes w.Requires ts e = bare_case_takes ts (ap is_bare_word e)
  case_by_takes w.Ensures ts e = bare_case_takes ts (ap is_bare_word e)
  case_by_takes w.Assignable ts e = bare_case_takes ts (ap is_bare_word e)
  case_by_takes w.Signals ts e = bare_case_takes ts (ap is_bare_word e)
  case_by_takes w.SignalsOnly ts e = bare_case_takes ts (ap is_bare_word e)
  case_by_takes _ ts e = tt

  one_case_takes : (ts : List Lexeme) → Gives (spec.one_case limit room inner k ts) (TakenAs (IsCaseRead room k) ts)
  unfolding spec.one_case
  one_case_takes ts = case_by_takes (word_at ts) ts refl

  case_step : (found : Sized (List Case)) (u ts : List Lexeme) → AreCases room k found u
      → Gives ((expect_word w.Also >> spec.one_case limit room inner k) ts)
      (λ c rest. TakenAs (λ (b : Sized (List Case)) (v : List Lexeme). AreCases room k b (u ++ v)) ts (with_more found c) rest)
  case_step found u ts h =
      gives_bind _ _ (expect_word w.Also ts) (took_word w.Also ts) (λ s mid also.
      gives_so _ (λ c rest. TakenAs (λ (b : Sized (List Case)) (v : List Lexeme). AreCases room k b (u ++ v)) ts (with_more found c) rest) (spec.one_case limit room inner k mid)
      (one_case_takes mid) (λ c rest g.
      record {
        taken = s ∷ g.taken;
        parts = rw (also.at, g.parts) refl;
        is = read_more case_measure of_cases cases_are_greatest SpellsCase SpellsCases room k found.tree c.tree u g.taken (u ++ s ∷ g.taken) found.depth c.depth h g.is
            (cases_at_end found.tree u s c.tree g.taken h.spelled also.word g.is.spelled);
      }))

  first_case_read : (c : Sized Case) (u : List Lexeme) → IsCaseRead room k c u → AreCases room k (with_more no_items c) u
  first_case_read c u h = read_first case_measure of_cases cases_are_greatest SpellsCase SpellsCases room k c.tree u u c.depth h (last_case c.tree u h.spelled)

  cases_take : (ts : List Lexeme) → Gives (spec.cases limit room inner k ts) (TakenUntil (at_word w.Also) (AreCases room k) ts)
  unfolding spec.cases
  cases_take ts =
      separated_takes (at_word w.Also) (expect_word w.Also) (spec.one_case limit room inner k) with_more (AreCases room k) (λ found u all h e. case_step found u all h)
      limit no_items ts
      (gives_so _ (λ c rest. TakenAs (AreCases room k) ts (with_more no_items c) rest) (spec.one_case limit room inner k ts) (one_case_takes ts) (λ c rest g.
      record { taken = g.taken; parts = g.parts; is = first_case_read c g.taken g.is }))

  -- behind one lexeme and the rest of the first case
  more_cases_take : (v : Lexeme) (c : Sized Case) (all u ts : List Lexeme) → all ≡ u ++ ts → IsCaseRead room k c (v ∷ u)
      → Gives (spec.more_cases limit room inner k c ts) (TakenUntil (at_word w.Also) (λ (cs : Sized (List Case)) (t : List Lexeme). AreCases room k cs (v ∷ t)) all)
  unfolding spec.more_cases
  more_cases_take v c all u ts parts h =
      until_takes (at_word w.Also) (expect_word w.Also >> spec.one_case limit room inner k) with_more (λ (cs : Sized (List Case)) (t : List Lexeme). AreCases room k cs (v ∷ t))
      (λ found t some g e. case_step found (v ∷ t) some g)
      limit (with_more no_items c) all u ts parts (first_case_read c (v ∷ u) h)

  -- ---- specifications

  further_spec_takes : (ts : List Lexeme)
      → Gives ((expect_word w.Also >> spec.specification_of limit room inner k true) ts) (TakenAs (IsSpecRead room k) ts)
  unfolding spec.specification_of
  further_spec_takes ts =
      gives_bind _ _ (expect_word w.Also ts) (took_word w.Also ts) (λ s mid also.
      gives_bind _ _ (spec.cases limit room inner k mid) (cases_take mid) (λ cs rest g.
      record {
        taken = s ∷ g.taken;
        parts = rw (also.at, g.parts) refl;
        is = record {
          spelled = rw (noted_so kinds.Word (codes "also") s (noted w.Also s also.word)) (is_further_spec s.span cs.tree g.taken g.is.spelled);
          deep = g.is.deep;
          shallow = g.is.shallow;
          flat = g.is.flat;
        };
      }))

  first_spec_takes : (ts : List Lexeme) → Gives (spec.specification_of limit room inner k false ts) (TakenAs (IsSpecRead room k) ts)
  unfolding spec.specification_of
  first_spec_takes ts =
      gives_bind _ _ (spec.cases limit room inner k ts) (cases_take ts) (λ cs rest g.
      record {
        taken = g.taken;
        parts = g.parts;
        is = record { spelled = is_first_spec cs.tree g.taken g.is.spelled; deep = g.is.deep; shallow = g.is.shallow; flat = g.is.flat };
      })

  pub specification_takes : (ts : List Lexeme) → Gives (spec.specification limit room inner k ts) (TakenAs (IsSpecRead room k) ts)
  unfolding spec.specification
  specification_takes ts =
      gives_if (same_word (word_at ts) w.Also) (expect_word w.Also >> spec.specification_of limit room inner k true) (spec.specification_of limit room inner k false)
      (TakenAs (IsSpecRead room k) ts) ts (λ e. further_spec_takes ts) (λ e. first_spec_takes ts)

  -- the visibility belongs to it
  pub specification_behind_takes : (v : Lexeme) → note_word v ≡ w.Visibility → (ts : List Lexeme)
      → Gives (spec.specification_behind limit room inner k v ts) (TakenAs (λ (t : Sized Specification) (u : List Lexeme). IsSpecRead room k t (v ∷ u)) ts)
  unfolding spec.specification_behind
  specification_behind_takes v seen ts =
      gives_bind _ _ (spec.case_behind limit room inner k (Some v) ts) (case_behind_takes (Some v) seen ts) (λ c mid h.
      gives_bind _ _ (spec.more_cases limit room inner k c mid) (more_cases_take v c ts h.taken mid h.parts h.is) (λ cs rest g.
      record {
        taken = g.taken;
        parts = g.parts;
        is = record { spelled = is_first_spec cs.tree (v ∷ g.taken) g.is.spelled; deep = g.is.deep; shallow = g.is.shallow; flat = g.is.flat };
      }))
