-- The lexemes of a statement are read as this statement.
use Rattle.std.proofs.Common.{◌≡◌, ℕ, ◌≤◌, List, [], ◌∷◌, ◌++◌, length, length-append, Option, true, false, IsTrue, refl, ap, ◌∙◌, arith, append_assoc}
use Rattle.std.proofs.lemmas.Bool.{lt-ltb}
use Rattle.jesc_text.specs.declared.place.Span.{Span}
use Rattle.jesc_ast.specs.Lexemes.{Lexeme, word, sign, chosen_word, kept, join}
use Rattle.jesc_ast.specs.Words.{is_name}
use Rattle.jesc_ast.specs.Expressions.{SpellsExpression, SpellsType}
use Rattle.jesc_ast.specs.declared.word.TypeTree.{TypeTree}
use Rattle.jesc_ast.specs.Trees.{Expression, Statement, return, throw, break, continue, empty, assertion, set_statement, ghost_local, Statements, Body, Catch, Catches, more_catches}
use Rattle.jesc_ast.specs.Depth.{depth, nesting, of_statement}
use Rattle.jesc_ast.specs.Statements.{is_target, SpellsOption, SpellsStatement, is_block, is_simple, is_branch_alone, is_branch_else, is_while, is_for, is_return, is_throw, is_break, is_continue, is_empty, is_attempt, is_assertion, is_set, is_ghost_local, SpellsBody, is_body, SpellsStatements, no_more_statements, one_more_statement, SpellsCatches, no_more_catches, one_more_catch}
use Rattle.jesc_jml_grammar.specs.Steps.{mark_at}
use Rattle.jesc_jml_parser.specs.laws.CompleteSteps.{depth_positive}
use Rattle.jesc_java_grammar.specs.declared.statement_mark.StatementMark.TheVariants as s
use Rattle.jesc_java_grammar.specs.declared.statement_mark.Slot.{Slot}
use Rattle.jesc_java_grammar.specs.StatementMarks.{statement_mark_at}
use Rattle.jesc_java_grammar.specs.FileReading.{expression_of}
use Rattle.jesc_java_grammar.specs.StatementReading as spec
use Rattle.jesc_java_parser.proofs.CompleteEdges.{statement_goes_on}
use Rattle.jesc_java_parser.proofs.CompleteWords.{as_statement, returned_read, thrown_read, broken_read, continued_read, nothing_read, asserted_read, set_read, ghost_read}
use Rattle.jesc_java_parser.proofs.CompleteBodies.{Fits, IsStatement, outside, from_outside, outside_is, simple_read}
use Rattle.jesc_java_parser.proofs.CompleteLists.{AreStatements, no_more_read, one_more_read, block_is, IsBody, body_is}
use Rattle.jesc_java_parser.proofs.CompleteCatches as clauses
use Rattle.jesc_java_parser.proofs.CompleteCatches.{AreCatches, IsCatch, catch_is, more_read, attempt_is}
use Rattle.jesc_java_parser.proofs.CompleteBranches.{branch_alone_is, branch_else_is, while_is, for_is}

-- ---- statements of one word

return_is : (limit : ℕ) (r p : Span) (e : Option Expression) (u : List Lexeme) → SpellsOption false e u → length u ≤ limit
    → IsStatement limit (return (join r p) e) (word false "return" r ∷ (u ++ sign false ";" p ∷ []))
unfolding statement_mark_at
return_is limit r p e u h short =
    from_outside (λ room quantifiers slot rest fits deep flat stops.
    ap (λ (z : List Lexeme). outside limit room quantifiers slot (word false "return" r ∷ z)) (append_assoc u (sign false ";" p ∷ []) rest)
    ∙ outside_is limit room quantifiers slot s.Return (word false "return" r ∷ (u ++ sign false ";" p ∷ rest)) refl
    ∙ returned_read limit room quantifiers r p e u rest h (omega arith) (omega arith) short)

throw_is : (limit : ℕ) (r p : Span) (e : Expression) (u : List Lexeme) → SpellsExpression false e u → length u ≤ limit
    → IsStatement limit (throw (join r p) e) (word false "throw" r ∷ (u ++ sign false ";" p ∷ []))
unfolding statement_mark_at
throw_is limit r p e u h short =
    from_outside (λ room quantifiers slot rest fits deep flat stops.
    ap (λ (z : List Lexeme). outside limit room quantifiers slot (word false "throw" r ∷ z)) (append_assoc u (sign false ";" p ∷ []) rest)
    ∙ outside_is limit room quantifiers slot s.Throw (word false "throw" r ∷ (u ++ sign false ";" p ∷ rest)) refl
    ∙ rw (lt-ltb 0 room (omega (arith, depth_positive e))) (thrown_read limit room quantifiers r p e u rest h (omega arith) (omega arith) short))

break_is : (limit : ℕ) (r p : Span) → IsStatement limit (break (join r p)) (word false "break" r ∷ sign false ";" p ∷ [])
unfolding statement_mark_at
break_is limit r p =
    from_outside (λ room quantifiers slot rest fits deep flat stops.
    outside_is limit room quantifiers slot s.Break (word false "break" r ∷ sign false ";" p ∷ rest) refl ∙ broken_read limit room quantifiers r p rest)

continue_is : (limit : ℕ) (r p : Span) → IsStatement limit (continue (join r p)) (word false "continue" r ∷ sign false ";" p ∷ [])
unfolding statement_mark_at
continue_is limit r p =
    from_outside (λ room quantifiers slot rest fits deep flat stops.
    outside_is limit room quantifiers slot s.Continue (word false "continue" r ∷ sign false ";" p ∷ rest) refl ∙ continued_read limit room quantifiers r p rest)

empty_begun : (limit room quantifiers : ℕ) (slot : Slot) (p : Span) (rest : List Lexeme)
    → outside limit room quantifiers slot (sign false ";" p ∷ rest) ≡ spec.nothing limit room (expression_of limit) quantifiers (sign false ";" p ∷ rest)
unfolding statement_mark_at mark_at spec.other_statement
empty_begun limit room quantifiers slot p rest = outside_is limit room quantifiers slot s.Other (sign false ";" p ∷ rest) refl

empty_is : (limit : ℕ) (p : Span) → IsStatement limit (empty p) (sign false ";" p ∷ [])
empty_is limit p =
    from_outside (λ room quantifiers slot rest fits deep flat stops. empty_begun limit room quantifiers slot p rest ∙ nothing_read limit room quantifiers p rest)

assertion_is : (limit : ℕ) (r p : Span) (e : Expression) (u : List Lexeme) → SpellsExpression true e u → length u ≤ limit
    → IsStatement limit (assertion (join r p) e) (word true "assert" r ∷ (u ++ sign true ";" p ∷ []))
unfolding statement_mark_at
assertion_is limit r p e u h short =
    from_outside (λ room quantifiers slot rest fits deep flat stops.
    ap (λ (z : List Lexeme). outside limit room quantifiers slot (word true "assert" r ∷ z)) (append_assoc u (sign true ";" p ∷ []) rest)
    ∙ outside_is limit room quantifiers slot s.Assert (word true "assert" r ∷ (u ++ sign true ";" p ∷ rest)) refl
    ∙ rw (lt-ltb 0 room (omega (arith, depth_positive e))) (asserted_read limit room quantifiers r p e u rest h (omega arith) (omega arith) short))

set_is : (limit : ℕ) (r equals p : Span) (target e : Expression) (u v : List Lexeme) → SpellsExpression true target u → is_target target ≡ true → SpellsExpression true e v
    → length u ≤ limit → length v ≤ limit
    → IsStatement limit (set_statement (join r p) target equals e) (word true "set" r ∷ (u ++ sign true "=" equals ∷ (v ++ sign true ";" p ∷ [])))
unfolding statement_mark_at
set_is limit r equals p target e u v ht is h few short =
    from_outside (λ room quantifiers slot rest fits deep flat stops.
    let behind : List Lexeme = u ++ sign true "=" equals ∷ (v ++ sign true ";" p ∷ rest) in
    ap (λ (z : List Lexeme). outside limit room quantifiers slot (word true "set" r ∷ z))
    (append_assoc u (sign true "=" equals ∷ (v ++ sign true ";" p ∷ [])) rest ∙ ap (λ (z : List Lexeme). u ++ sign true "=" equals ∷ z) (append_assoc v (sign true ";" p ∷ []) rest))
    ∙ outside_is limit room quantifiers slot s.Set (word true "set" r ∷ behind) refl
    ∙ rw (lt-ltb 0 room (omega (arith, depth_positive e))) (set_read limit room quantifiers r equals p target e u v rest ht is h (omega arith) (omega arith) few short))

ghost_is : (limit : ℕ) (r n equals p : Span) (t : TypeTree) (x : List ℕ) (e : Expression) (u v : List Lexeme) → SpellsType true t u → IsTrue (is_name x) → SpellsExpression true e v
    → length v ≤ limit
    → IsStatement limit (ghost_local (join r p) t (kept true x n) equals e) (word true "ghost" r ∷ (u ++ chosen_word true x n ∷ sign true "=" equals ∷ (v ++ sign true ";" p ∷ [])))
unfolding statement_mark_at
ghost_is limit r n equals p t x e u v ht named h short =
    from_outside (λ room quantifiers slot rest fits deep flat stops.
    let behind : List Lexeme = u ++ chosen_word true x n ∷ sign true "=" equals ∷ (v ++ sign true ";" p ∷ rest) in
    ap (λ (z : List Lexeme). outside limit room quantifiers slot (word true "ghost" r ∷ z))
    (append_assoc u (chosen_word true x n ∷ sign true "=" equals ∷ (v ++ sign true ";" p ∷ [])) rest
    ∙ ap (λ (z : List Lexeme). u ++ chosen_word true x n ∷ sign true "=" equals ∷ z) (append_assoc v (sign true ";" p ∷ []) rest))
    ∙ outside_is limit room quantifiers slot s.Ghost (word true "ghost" r ∷ behind) refl
    ∙ rw (lt-ltb 0 room (omega (arith, depth_positive e))) (ghost_read limit room quantifiers r n equals p t x e u v rest ht named h (omega arith) (omega arith) short))

-- ---- all statements

module _ (limit : ℕ) where
  mutual
    pub statements : {t : Statement} {u : List Lexeme} → SpellsStatement t u → length u ≤ limit → IsStatement limit t u
    statements (is_block p ss q u (is_body _ _ _ v h)) le = block_is limit ss p q v (lists h (omega (arith, length-append {A = Lexeme}))) (omega (arith, length-append {A = Lexeme}))
    statements (is_simple kind t p u h) le = simple_read limit kind t p u h (omega (arith, length-append {A = Lexeme}))
    statements (is_branch_alone r p q test first u v hc h no_loop no_branch) le =
        branch_alone_is limit r p q test first u v hc (statements h (omega (arith, length-append {A = Lexeme}))) no_loop no_branch (omega (arith, length-append {A = Lexeme}))
    statements (is_branch_else r p q o test first other u v t hc h no_loop no_branch ho no_loop_there) le =
        branch_else_is limit r p q o test first other u v t hc (statements h (omega (arith, length-append {A = Lexeme}))) no_loop no_branch
        (statements ho (omega (arith, length-append {A = Lexeme}))) no_loop_there (omega (arith, length-append {A = Lexeme}))
    statements (is_while r p q invariants test turn t u v hi hc h no_loop no_branch) le =
        while_is limit r p q invariants test turn t u v hi hc (statements h (omega (arith, length-append {A = Lexeme}))) no_loop no_branch (omega (arith, length-append {A = Lexeme}))
        (omega (arith, length-append {A = Lexeme}))
    statements (is_for r p p1 p2 q invariants first test last turn t a b c v hi ha hb hc h no_loop no_branch) le =
        for_is limit r p p1 p2 q invariants first test last turn t a b c v hi ha hb hc (statements h (omega (arith, length-append {A = Lexeme}))) no_loop no_branch
        (omega (arith, length-append {A = Lexeme})) (omega (arith, length-append {A = Lexeme})) (omega (arith, length-append {A = Lexeme})) (omega (arith, length-append {A = Lexeme}))
    statements (is_attempt r p b c cs u v h hs) le =
        attempt_is limit r b c cs u v (bodies h (omega (arith, length-append {A = Lexeme}))) (some_catches hs (omega (arith, length-append {A = Lexeme}))) (omega (arith, length-append {A = Lexeme}))
    statements (is_return r p e u h) le = return_is limit r p e u h (omega (arith, length-append {A = Lexeme}))
    statements (is_throw r p e u h) le = throw_is limit r p e u h (omega (arith, length-append {A = Lexeme}))
    statements (is_break r p) le = break_is limit r p
    statements (is_continue r p) le = continue_is limit r p
    statements (is_empty p) le = empty_is limit p
    statements (is_assertion r p e u h) le = assertion_is limit r p e u h (omega (arith, length-append {A = Lexeme}))
    statements (is_set r equals p target e u v ht is h) le =
        set_is limit r equals p target e u v ht is h (omega (arith, length-append {A = Lexeme})) (omega (arith, length-append {A = Lexeme}))
    statements (is_ghost_local r n equals p t x e u v ht named h) le = ghost_is limit r n equals p t x e u v ht named h (omega (arith, length-append {A = Lexeme}))

    pub bodies : {b : Body} {p : Span} {u : List Lexeme} → SpellsBody b p u → length u ≤ limit → IsBody limit b u
    bodies (is_body p q ss u h) le = body_is limit ss p q u (lists h (omega (arith, length-append {A = Lexeme}))) (omega (arith, length-append {A = Lexeme}))

    pub lists : {ss : Statements} {u : List Lexeme} → SpellsStatements ss u → length u ≤ limit → AreStatements limit ss u
    lists no_more_statements le = no_more_read limit
    lists (one_more_statement t ts u v h hs) le =
        one_more_read limit t ts u v h hs (statements h (omega (arith, length-append {A = Lexeme}))) (lists hs (omega (arith, length-append {A = Lexeme})))

    catches : {cs : Catches} {u : List Lexeme} → SpellsCatches cs u → length u ≤ limit → AreCatches limit cs u
    catches no_more_catches le = clauses.no_more_read limit
    catches (one_more_catch r p q o m n is_final x y b cs t u v named also h hb hs) le =
        more_read (catch_is limit r p q m n is_final x y b cs t u v named also h (bodies hb (omega (arith, length-append {A = Lexeme}))) (catches hs (omega (arith, length-append {A = Lexeme}))))

    some_catches : {c : Catch} {cs : Catches} {u : List Lexeme} → SpellsCatches (more_catches c cs) u → length u ≤ limit → IsCatch limit c cs u
    some_catches (one_more_catch r p q o m n is_final x y b cs t u v named also h hb hs) le =
        catch_is limit r p q m n is_final x y b cs t u v named also h (bodies hb (omega (arith, length-append {A = Lexeme}))) (catches hs (omega (arith, length-append {A = Lexeme})))

-- The lexemes of a statement are read as this statement, and nothing behind them, where it may stand, there is room for it
-- and nothing goes on with it.
pub statement_complete : (limit room quantifiers : ℕ) (slot : Slot) (t : Statement) (u rest : List Lexeme) → SpellsStatement t u → Fits slot t → of_statement depth 1 t ≤ room
    → of_statement nesting 0 t ≤ quantifiers → length u ≤ limit → statement_goes_on t rest ≡ false
    → spec.statement limit (expression_of limit) quantifiers room slot (u ++ rest) ≡ as_statement t rest
statement_complete limit room quantifiers slot t u rest h fits deep flat short stops = (statements limit h short).is room quantifiers slot rest fits deep flat stops
