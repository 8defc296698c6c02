-- The texts of the lexemes that spell a statement are those of the statement's tokens.
use Rattle.std.proofs.Common.{◌≡◌, ℕ, Bool, true, false, List, [], ◌∷◌, ◌++◌, Option, refl, sym, ap, ◌∙◌, append_assoc, append-nil, if◌then◌else◌}
use Rattle.jesc_text.specs.declared.place.Span.{Span}
use Rattle.jesc_ast.specs.Lexemes.{Lexeme}
use Rattle.jesc_ast.specs.Trees.{Expression, Clause, Statement, Body, Statements, Catches, OptionalStatement, OptionalStatement}
use Rattle.jesc_ast.specs.Statements.{SpellsOption, is_missing, is_there, SpellsClauses, no_clauses, more_clauses, Simple, SpellsSimple, is_local, is_final_local, is_assignment, is_step_after, is_step_before, is_call_alone, SpellsHeadPart, no_part, one_part, SpellsStatement, is_block, is_simple, is_branch_alone, is_branch_else, is_while, is_for, is_return, is_throw, is_break, is_continue, is_empty, is_attempt, is_assertion, is_set, is_ghost_local, SpellsBody, is_body, SpellsStatements, no_more_statements, one_more_statement, SpellsCatches, no_more_catches, one_more_catch, SpellsFinal, is_final_word, no_final_word, SpellsConstructorBody, is_plain_body, is_super_body}
use Rattle.jesc_ast.specs.Spelled.{texts, code, spell_option, spell_clauses, spell_simple, spell_head_part, spell_statement, spell_body, spell_statements, spell_catches, spell_arguments}
use Rattle.jesc_ast.specs.laws.SpelledExpressions.{joined, behind, expression_spelled, arguments_spelled, type_spelled}

pub option_spelled : (note : Bool) (e : Option Expression) (u : List Lexeme) → SpellsOption note e u → texts u ≡ spell_option note e
option_spelled note e u is_missing = refl
option_spelled note e u (is_there f v inner) = expression_spelled note f v inner

pub clauses_spelled : (words : List (List ℕ)) (cs : List Clause) (u : List Lexeme) → SpellsClauses words cs u → texts u ≡ spell_clauses cs
clauses_spelled words cs u no_clauses = refl
clauses_spelled words cs u (more_clauses s p x e ds v w word inner rest) =
    behind _ _ _ (joined v _ _ _ (expression_spelled true e v inner) (behind _ _ _ (clauses_spelled words ds w rest)))

simple_spelled : (whole : Span → Span) (kind : Simple) (s : Statement) (u : List Lexeme) → SpellsSimple whole kind s u → texts u ≡ spell_simple s
simple_spelled whole kind s u (is_local equals n t x e v w type name value) =
    joined v _ _ _ (type_spelled false t v type) (behind _ _ _ (behind _ _ _ (expression_spelled false e w value)))
simple_spelled whole kind s u (is_final_local f equals n t x e v w type name value) =
    behind _ _ _ (joined v _ _ _ (type_spelled false t v type) (behind _ _ _ (behind _ _ _ (expression_spelled false e w value))))
simple_spelled whole kind s u (is_assignment o op target e v w left target_is sign value) =
    joined v _ _ _ (expression_spelled false target v left) (behind _ _ _ (expression_spelled false e w value))
simple_spelled whole kind s u (is_step_after o op target v left target_is sign) = joined v _ _ _ (expression_spelled false target v left) refl
simple_spelled whole kind s u (is_step_before o op target v left target_is sign) = behind _ _ _ (expression_spelled false target v left)
simple_spelled whole kind s u (is_call_alone e v inner call) = expression_spelled false e v inner

-- with its semicolon
simple_end : (whole : Span → Span) (kind : Simple) (s : Statement) (u : List Lexeme) → SpellsSimple whole kind s u → spell_simple s ++ code ";" ∷ [] ≡ spell_statement s
simple_end whole kind s u (is_local equals n t x e v w type name value) = refl
simple_end whole kind s u (is_final_local f equals n t x e v w type name value) = refl
simple_end whole kind s u (is_assignment o op target e v w left target_is sign value) = refl
simple_end whole kind s u (is_step_after o op target v left target_is sign) = refl
simple_end whole kind s u (is_step_before o op target v left target_is sign) = refl
simple_end whole kind s u (is_call_alone e v inner call) = refl

head_part_spelled : (may : Simple → Bool) (s : OptionalStatement) (u : List Lexeme) → SpellsHeadPart may s u → texts u ≡ spell_head_part s
head_part_spelled may s u no_part = refl
head_part_spelled may s u (one_part kind t v inner allowed) = simple_spelled (λ span. span) kind t v inner

final_spelled : (is_final : Bool) (u : List Lexeme) → SpellsFinal is_final u → texts u ≡ (if is_final then (code "final" ∷ []) else [])
final_spelled is_final u (is_final_word s) = refl
final_spelled is_final u no_final_word = refl

mutual
  pub statement_spelled : (s : Statement) (u : List Lexeme) → SpellsStatement s u → texts u ≡ spell_statement s
  statement_spelled s u (is_block p ss q v inner) = body_spelled _ p v inner
  statement_spelled s u (is_simple kind t p v inner) = joined v _ _ _ (simple_spelled _ kind t v inner) refl ∙ simple_end _ kind t v inner
  statement_spelled s u (is_branch_alone r p q test first v w condition inner no_loop no_branch) =
      behind _ _ _ (behind _ _ _ (joined v _ _ _ (expression_spelled false test v condition) (behind _ _ _ (statement_spelled first w inner ∙ sym (append-nil _)))))
  statement_spelled s u (is_branch_else r p q o test first other v w t condition inner no_loop no_branch others no_other_loop) =
      behind _ _ _ (behind _ _ _ (joined v _ _ _ (expression_spelled false test v condition)
      (behind _ _ _ (joined w _ _ _ (statement_spelled first w inner) (behind _ _ _ (statement_spelled other t others))))))
  statement_spelled s u (is_while r p q invariants test turn t v w clauses condition inner no_loop no_branch) =
      joined t _ _ _ (clauses_spelled _ invariants t clauses)
      (behind _ _ _ (behind _ _ _ (joined v _ _ _ (expression_spelled false test v condition) (behind _ _ _ (statement_spelled turn w inner)))))
  statement_spelled s u (is_for r p p1 p2 q invariants first test last turn t a b c v clauses begins condition ends inner no_loop no_branch) =
      joined t _ _ _ (clauses_spelled _ invariants t clauses) (behind _ _ _ (behind _ _ _
      (joined a _ _ _ (head_part_spelled _ first a begins) (behind _ _ _
      (joined b _ _ _ (option_spelled false test b condition) (behind _ _ _
      (joined c _ _ _ (head_part_spelled _ last c ends) (behind _ _ _ (statement_spelled turn v inner)))))))))
  statement_spelled s u (is_return r p e v inner) = behind _ _ _ (joined v _ _ _ (option_spelled false e v inner) refl)
  statement_spelled s u (is_throw r p e v inner) = behind _ _ _ (joined v _ _ _ (expression_spelled false e v inner) refl)
  statement_spelled s u (is_break r p) = refl
  statement_spelled s u (is_continue r p) = refl
  statement_spelled s u (is_empty p) = refl
  statement_spelled s u (is_attempt r p b c cs v w inner catches) = behind _ _ _ (joined v _ _ _ (body_spelled b p v inner) (catches_spelled _ w catches))
  statement_spelled s u (is_assertion r p e v inner) = behind _ _ _ (joined v _ _ _ (expression_spelled true e v inner) refl)
  statement_spelled s u (is_set r equals p target e v w left target_is value) =
      behind _ _ _ (joined v _ _ _ (expression_spelled true target v left) (behind _ _ _ (joined w _ _ _ (expression_spelled true e w value) refl)))
  statement_spelled s u (is_ghost_local r n equals p t x e v w type name value) =
      behind _ _ _ (joined v _ _ _ (type_spelled true t v type) (behind _ _ _ (behind _ _ _ (joined w _ _ _ (expression_spelled true e w value) refl))))

  pub body_spelled : (b : Body) (p : Span) (u : List Lexeme) → SpellsBody b p u → texts u ≡ spell_body b
  body_spelled b p u (is_body _ q ss v inner) = behind _ _ _ (joined v _ _ _ (statements_spelled ss v inner) refl)

  pub statements_spelled : (ss : Statements) (u : List Lexeme) → SpellsStatements ss u → texts u ≡ spell_statements ss
  statements_spelled ss u no_more_statements = refl
  statements_spelled ss u (one_more_statement s ts v w first rest) = joined v w _ _ (statement_spelled s v first) (statements_spelled ts w rest)

  pub catches_spelled : (cs : Catches) (u : List Lexeme) → SpellsCatches cs u → texts u ≡ spell_catches cs
  catches_spelled cs u no_more_catches = refl
  catches_spelled cs u (one_more_catch r p q o m n is_final x y b ds t v w class name final inner rest) =
      behind _ _ _ (behind _ _ _ (joined t _ _ _ (final_spelled is_final t final) (behind _ _ _ (behind _ _ _ (behind _ _ _ (joined v w _ _ (body_spelled b o v inner) (catches_spelled ds w rest)))))))
      ∙ ap (λ l. code "catch" ∷ code "(" ∷ l) (sym (append_assoc (if is_final then (code "final" ∷ []) else []) _ (spell_catches ds)))

pub constructor_body_spelled : (b : Body) (p : Span) (u : List Lexeme) → SpellsConstructorBody b p u → texts u ≡ spell_body b
constructor_body_spelled b p u (is_plain_body c q v inner) = body_spelled c q v inner
constructor_body_spelled b p u (is_super_body _ r p1 q1 p2 q es ss v w args rest) =
    behind _ _ _ (behind _ _ _ (behind _ _ _ (joined v _ _ _ (arguments_spelled false es v args) (behind _ _ _ (behind _ _ _ (joined w _ _ _ (statements_spelled ss w rest) refl))))))
    ∙ ap (λ l. code "{" ∷ code "super" ∷ code "(" ∷ l)
    (sym (append_assoc (spell_arguments false es) (code ")" ∷ code ";" ∷ []) (spell_statements ss ++ code "}" ∷ []))
    ∙ sym (append_assoc (spell_arguments false es ++ code ")" ∷ code ";" ∷ []) (spell_statements ss) (code "}" ∷ [])))
