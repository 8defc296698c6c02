-- What goes on with a statement at its right edge, and what a statement begins with.
use Rattle.std.proofs.Common.{◌≡◌, ◌≤◌, Bool, true, false, ◌||◌, List, [], ◌∷◌, ◌++◌, length, length-append, codes, refl, ap, ◌∙◌, append_assoc, arith}
use Rattle.std.proofs.lemmas.Bool.{or_from}
use Rattle.jesc_text.specs.declared.place.Span.{Span}
use Rattle.jesc_ast.specs.Lexemes.{Lexeme, word}
use Rattle.jesc_ast.specs.Trees.{Clause, Statement, branch, while_loop, for_loop, attempt, no_statement, one_statement}
use Rattle.jesc_ast.specs.Statements.{SpellsSimple, is_local, is_final_local, is_assignment, is_step_after, is_step_before, is_call_alone, Simple, SpellsClauses, no_clauses, more_clauses, SpellsStatement, is_block, is_simple, is_while, is_for, is_body, is_loop, is_branch, is_step_sign}
use Rattle.jesc_jml_grammar.specs.Steps.{mark_at}
use Rattle.jesc_jml_parser.specs.laws.CompleteMarks.{opens_first}
use Rattle.jesc_java_grammar.specs.Lexing.{next_is, is_word}
use Rattle.jesc_java_grammar.specs.StatementMarks.{statement_mark_at}
use Rattle.jesc_java_parser.proofs.CompleteLexing.{none_of, assign_signs, is_plain, plain_opens, plain_at, is_starting}
use Rattle.jesc_java_parser.proofs.CompletePieces.{type_plain}

-- ---- the right edge

-- the next lexeme goes on with the statement
abbrev pub statement_goes_on : Statement → List Lexeme → Bool
statement_goes_on (branch t test first no_statement) ts = next_is (is_word (codes "else") false) ts || statement_goes_on first ts
statement_goes_on (branch t test first (one_statement other)) ts = statement_goes_on other ts
statement_goes_on (while_loop t invariants test turn) ts = statement_goes_on turn ts
statement_goes_on (for_loop t invariants first test last turn) ts = statement_goes_on turn ts
statement_goes_on (attempt t b cs) ts = next_is (is_word (codes "catch") false) ts
statement_goes_on _ ts = false

-- where neither `else` nor `catch` is next
pub goes_on_no : (t : Statement) (ts : List Lexeme) → next_is (is_word (codes "else") false) ts ≡ false → next_is (is_word (codes "catch") false) ts ≡ false
    → statement_goes_on t ts ≡ false
goes_on_no (branch t test first no_statement) ts e c = or_from _ _ e (goes_on_no first ts e c)
goes_on_no (branch t test first (one_statement other)) ts e c = goes_on_no other ts e c
goes_on_no (while_loop t invariants test turn) ts e c = goes_on_no turn ts e c
goes_on_no (for_loop t invariants first test last turn) ts e c = goes_on_no turn ts e c
goes_on_no (attempt t b cs) ts e c = c
goes_on_no _ ts e c = refl

-- before `else`, what is neither a loop nor a branch
pub goes_on_no_else : (t : Statement) (o : Span) (ts : List Lexeme) → is_loop t ≡ false → is_branch t ≡ false → statement_goes_on t (word false "else" o ∷ ts) ≡ false
goes_on_no_else (while_loop t invariants test turn) o ts l b = absurd cc
goes_on_no_else (for_loop t invariants first test last turn) o ts l b = absurd cc
goes_on_no_else (branch t test first other) o ts l b = absurd cc
goes_on_no_else (attempt t b cs) o ts l b' = refl
goes_on_no_else _ o ts l b = refl

-- ---- the first lexeme

further : (u w rest : List Lexeme) → ((more : List Lexeme) → is_starting (statement_mark_at (u ++ more)) ≡ true) → is_starting (statement_mark_at ((u ++ w) ++ rest)) ≡ true
further u w rest h = ap (λ (z : List Lexeme). is_starting (statement_mark_at z)) (append_assoc u w rest) ∙ h (w ++ rest)

by_plain : (ts : List Lexeme) → is_plain (mark_at false ts) ≡ true → is_starting (statement_mark_at ts) ≡ true
by_plain ts p = ap is_starting (plain_at ts p)

simple_starts : (whole : Span → Span) {kind : Simple} {t : Statement} {u : List Lexeme} → SpellsSimple whole kind t u → (rest : List Lexeme)
    → is_starting (statement_mark_at (u ++ rest)) ≡ true
unfolding statement_mark_at
simple_starts whole (is_local equals n t x e u v ht named he) rest = further u _ rest (λ more. by_plain (u ++ more) (type_plain ht more))
simple_starts whole (is_final_local f equals n t x e u v ht named he) rest = refl
simple_starts whole (is_assignment o op target e u v ht a is he) rest = further u _ rest (λ more. by_plain (u ++ more) (plain_opens _ (opens_first false ht.1 more)))
simple_starts whole (is_step_after o op target u ht a is) rest = further u _ rest (λ more. by_plain (u ++ more) (plain_opens _ (opens_first false ht.1 more)))
simple_starts whole (is_step_before o op target u ht a is) rest = rw (none_of is_step_sign assign_signs op refl is) (rw is refl)
simple_starts whole (is_call_alone e u he a) rest = by_plain (u ++ rest) (plain_opens _ (opens_first false he.1 rest))

invariants_start : {cs : List Clause} {t : List Lexeme} → SpellsClauses (codes "maintaining" ∷ codes "loop_invariant" ∷ []) cs t → (w rest : List Lexeme)
    → is_starting (statement_mark_at (w ++ rest)) ≡ true → is_starting (statement_mark_at ((t ++ w) ++ rest)) ≡ true
unfolding statement_mark_at
invariants_start no_clauses w rest h = h
invariants_start (more_clauses s p x e cs u v is he more) w rest h = rw is refl

pub statement_starts : {t : Statement} {u : List Lexeme} → SpellsStatement t u → (rest : List Lexeme) → is_starting (statement_mark_at (u ++ rest)) ≡ true
unfolding statement_mark_at
statement_starts (is_block p ss q u (is_body p' q' ss' v h)) rest = refl
statement_starts (is_simple kind t p u h) rest = further u _ rest (λ more. simple_starts (λ span. _) h more)
statement_starts (is_while r p q invariants test turn t u v hi hc ht no_loop no_branch) rest = invariants_start hi _ rest refl
statement_starts (is_for r p p1 p2 q invariants first test last turn t a b c v hi ha hb hc ht no_loop no_branch) rest = invariants_start hi _ rest refl
statement_starts _ rest = refl

pub statement_some : {t : Statement} {u : List Lexeme} → SpellsStatement t u → 1 ≤ length u
statement_some (is_block p ss q u (is_body p' q' ss' v h)) = omega arith
statement_some (is_simple kind t p u h) = omega (arith, length-append {A = Lexeme})
statement_some (is_while r p q invariants test turn t u v hi hc ht no_loop no_branch) = omega (arith, length-append {A = Lexeme})
statement_some (is_for r p p1 p2 q invariants first test last turn t a b c v hi ha hb hc ht no_loop no_branch) = omega (arith, length-append {A = Lexeme})
statement_some _ = omega arith
