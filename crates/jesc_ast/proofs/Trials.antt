-- The definitions tried on parts of whole programs.
use Rattle.std.proofs.Common.{◌≡◌, ℕ, true, false, List, [], ◌∷◌, ◌++◌, Some, None, refl, arith, append_assoc, subst}
use Rattle.std.specs.Prelude.{codes}
use Rattle.jesc_text.specs.declared.place.Span.{Span}
use Rattle.jesc_ast.specs.Lexemes.{Lexeme, word, backslash, sign, chosen_word, chosen_sign, number_of, kept, join}
use Rattle.jesc_ast.specs.Trees.{Expression, number, outcome, name, unary, binary, member, index, old, quantifier, assign, clause}
use Rattle.jesc_ast.specs.SpecTrees.{Case}
use Rattle.jesc_ast.specs.FileTrees.{field, spec_field}
use Rattle.jesc_ast.specs.Expressions.{Spells, SpellsExpression, span_of, is_number, is_outcome, is_plain_name, is_member, is_index, is_unary, is_binary, is_old, is_quantifier, is_less_equal, is_equal, is_unequal, is_implication, is_plus, is_negation, is_forall, is_strict, is_weak, is_plain_type, type_tree}
use Rattle.jesc_ast.specs.Statements.{SpellsStatement, is_simple, is_assignment, no_clauses, more_clauses}
use Rattle.jesc_ast.specs.Specifications.{SpellsCase, is_headed, some_visibility, more_spec_clauses, no_spec_clauses, is_assignable, is_ensures, are_stores, last_store, is_path_store, last_name, SpellsDemands}
use Rattle.jesc_ast.specs.Members.{SpellsNoteMember, is_spec_field, no_note_modifiers, no_value, no_groups, SpellsMemberNode, is_field, no_modifiers, some_groups}
use Rattle.jesc_ast.specs.Depth.{depth, nesting}
use Rattle.jesc_ast.specs.Spelled.{spell, texts}

regrouped : (c : Case) (u v : List Lexeme) → SpellsCase c u → u ≡ v → (d : Case) × SpellsCase d v
regrouped c u v spelled same = (c, subst (SpellsCase c) same spelled)

module _ (s : ℕ → Span) where
  -- `0 <= balance`, in an annotation
  at_least_zero : Expression
  at_least_zero = binary (join (s 0) (s 2)) (kept true (codes "<=") (s 1)) (number (s 0) (codes "0")) (name (s 2) (codes "balance"))

  spells_at_least_zero : Spells true 7 at_least_zero (number_of true (codes "0") (s 0) ∷ chosen_sign true (codes "<=") (s 1) ∷ chosen_word true (codes "balance") (s 2) ∷ [])
  unfolding at_least_zero
  spells_at_least_zero = is_binary (codes "<=") (s 1) 7 7 8 12 12 _ _ _ _ (is_less_equal true) (is_number (s 0) (codes "0")) (omega arith) (is_plain_name (s 2) (codes "balance") refl) (omega arith)

  -- `\old(balance) + amount`
  grown : Expression
  grown = binary (join (s 2) (s 7)) (kept true (codes "+") (s 6)) (old (join (s 2) (s 5)) (name (s 4) (codes "balance"))) (name (s 7) (codes "amount"))

  grown_lexemes : List Lexeme
  grown_lexemes = backslash true "\\old" (s 2) ∷ sign true "(" (s 3) ∷ chosen_word true (codes "balance") (s 4) ∷ sign true ")" (s 5) ∷ chosen_sign true (codes "+") (s 6) ∷ chosen_word true (codes "amount") (s 7) ∷ []

  spells_grown : Spells true 8 grown grown_lexemes
  unfolding grown grown_lexemes
  spells_grown = is_binary (codes "+") (s 6) 8 8 9 12 12 _ _ _ _ (is_plus true) (is_old refl (s 2) (s 3) (s 5) 12 _ _ (is_plain_name (s 4) (codes "balance") refl)) (omega arith) (is_plain_name (s 7) (codes "amount") refl) (omega arith)

  -- `(\forall int k; 0 <= k && k < a.length; a[k] != x)`
  no_other : Expression
  no_other = quantifier (join (s 0) (s 22)) true (kept true (codes "k") (s 3)) (number (s 5) (codes "0")) false
      (member (join (s 11) (s 13)) (name (s 11) (codes "a")) (s 12) (kept true (codes "length") (s 13))) true
      (binary (join (s 15) (s 20)) (kept true (codes "!=") (s 19)) (index (join (s 15) (s 18)) (name (s 15) (codes "a")) (s 16) (name (s 17) (codes "k"))) (name (s 20) (codes "x")))

  no_other_lexemes : List Lexeme
  no_other_lexemes = sign true "(" (s 0) ∷ backslash true "\\forall" (s 1) ∷ word true "int" (s 2) ∷ chosen_word true (codes "k") (s 3) ∷ sign true ";" (s 4)
      ∷ number_of true (codes "0") (s 5) ∷ sign true "<=" (s 6) ∷ chosen_word true (codes "k") (s 7) ∷ sign true "&&" (s 8) ∷ chosen_word true (codes "k") (s 9) ∷ sign true "<" (s 10)
      ∷ chosen_word true (codes "a") (s 11) ∷ sign true "." (s 12) ∷ chosen_word true (codes "length") (s 13) ∷ sign true ";" (s 14)
      ∷ chosen_word true (codes "a") (s 15) ∷ sign true "[" (s 16) ∷ chosen_word true (codes "k") (s 17) ∷ sign true "]" (s 18) ∷ sign true "!=" (s 19) ∷ chosen_word true (codes "x") (s 20) ∷ sign true ")" (s 22) ∷ []

  spells_no_other : Spells true 12 no_other no_other_lexemes
  unfolding no_other no_other_lexemes
  spells_no_other = is_quantifier refl (s 0) (s 1) (s 2) (s 3) (s 4) (s 6) (s 7) (s 8) (s 9) (s 10) (s 14) (s 22) true false true _ (codes "k") _ _ 12 12 6 _ _ _ _ _ _
      is_forall refl (is_number (s 5) (codes "0")) (omega arith) is_weak is_strict
      (is_member 12 _ _ (s 12) (s 13) (codes "length") (is_plain_name (s 11) (codes "a") refl) (omega arith) refl) (omega arith)
      (is_binary (codes "!=") (s 19) 6 6 7 12 12 _ _ _ _ (is_unequal true) (is_index 12 12 _ _ _ _ (s 16) (s 18) (is_plain_name (s 15) (codes "a") refl) (omega arith) (is_plain_name (s 17) (codes "k") refl)) (omega arith) (is_plain_name (s 20) (codes "x") refl) (omega arith))

  no_other_depth : depth no_other ≡ 4
  unfolding no_other
  no_other_depth = refl

  no_other_nesting : nesting no_other ≡ 1
  unfolding no_other
  no_other_nesting = refl

  no_other_spelled : spell true no_other ≡ texts no_other_lexemes
  unfolding no_other no_other_lexemes
  no_other_spelled = refl

  -- `\result == -1 ==> E`
  found_none : (e : Expression) (u : List Lexeme) → Spells true 12 e u
      → Spells true 3 (binary (join (s 0) (span_of e)) (kept true (codes "==>") (s 4)) (binary (join (s 0) (s 3)) (kept true (codes "==") (s 1)) (outcome (s 0)) (unary (join (s 2) (s 3)) (kept true (codes "-") (s 2)) (number (s 3) (codes "1")))) e)
      (backslash true "\\result" (s 0) ∷ sign true "==" (s 1) ∷ sign true "-" (s 2) ∷ number_of true (codes "1") (s 3) ∷ sign true "==>" (s 4) ∷ u)
  found_none e u spelled = is_binary (codes "==>") (s 4) 3 4 3 6 12 _ _ _ _ is_implication
      (is_binary (codes "==") (s 1) 6 6 7 12 10 _ _ _ _ (is_equal true) (is_outcome refl (s 0)) (omega arith) (is_unary (codes "-") (s 2) 12 _ _ is_negation (is_number (s 3) (codes "1")) (omega arith)) (omega arith))
      (omega arith) spelled (omega arith)

  -- `balance = balance + amount;`
  deposit : (target e : Expression) (u v : List Lexeme) → target ≡ name (s 0) (codes "balance") → SpellsExpression false target u → SpellsExpression false e v
      → SpellsStatement (assign (join (join (span_of target) (span_of e)) (s 5)) target (kept false (codes "=") (s 1)) false (Some e)) ((u ++ sign false "=" (s 1) ∷ v) ++ sign false ";" (s 5) ∷ [])
  deposit target e u v is left right =
      is_simple _ _ (s 5) _ (is_assignment (s 1) (codes "=") target e u v left (rw is refl) refl right)

  -- `public normal_behavior requires E; assignable balance; ensures F;`
  deposit_case : (e f g : Expression) (t u v : List Lexeme) → SpellsExpression true e u → SpellsExpression true f v → SpellsExpression true g t → g ≡ name (s 6) (codes "balance")
      → (c : _) × SpellsCase c (chosen_word true (codes "public") (s 0) ∷ word true "normal_behavior" (s 1) ∷ word true "requires" (s 2) ∷ (u ++ sign true ";" (s 3) ∷ word true "assignable" (s 4) ∷ (t ++ sign true ";" (s 7) ∷ word true "ensures" (s 8) ∷ (v ++ sign true ";" (s 9) ∷ []))))
  deposit_case e f g t u v p q r is =
      let demands : SpellsDemands (clause (kept true (codes "requires") (s 2)) e ∷ []) (word true "requires" (s 2) ∷ (u ++ sign true ";" (s 3) ∷ [])) =
      more_clauses (s 2) (s 3) (codes "requires") e [] u [] refl p no_clauses in
      let frame = is_assignable (s 4) (s 7) (codes "assignable") _ t refl (are_stores _ t (last_store _ t (is_path_store g t r (rw is refl) (rw is refl)))) in
      let promise = is_ensures (s 8) (s 9) (codes "ensures") f v refl q in
      let parts = more_spec_clauses _ _ _ _ frame (more_spec_clauses _ _ _ _ promise no_spec_clauses) in
      let whole = is_headed (s 1) (codes "normal_behavior") _ _ _ _ _ _ (some_visibility (s 0) (codes "public") refl) refl demands parts refl in
      regrouped _ _ _ whole (simp append_assoc)

  -- `model int state;` and `int x; //@ in state;`
  state_field : SpellsNoteMember (spec_field (kept true (codes "model") (s 0) ∷ []) (type_tree (s 1) (codes "int") false) (kept true (codes "state") (s 2)) None None [])
      (word true "model" (s 0) ∷ word true "int" (s 1) ∷ word true "state" (s 2) ∷ sign true ";" (s 3) ∷ [])
  state_field = is_spec_field (s 0) (s 2) (s 3) [] [] [] (codes "model") (codes "state") _ _ _ _ _ _ _ _ no_note_modifiers refl no_note_modifiers (is_plain_type (s 1) (codes "int") refl) refl refl no_value no_groups

  grouped_field : SpellsMemberNode (field [] (type_tree (s 0) (codes "int") false) (kept false (codes "x") (s 1)) None None (kept true (codes "state") (s 4) ∷ []))
      (word false "int" (s 0) ∷ word false "x" (s 1) ∷ sign false ";" (s 2) ∷ word true "in" (s 3) ∷ word true "state" (s 4) ∷ sign true ";" (s 5) ∷ [])
  grouped_field = is_field (s 1) (s 2) [] _ _ (codes "x") _ _ _ _ _ _ no_modifiers (is_plain_type (s 0) (codes "int") refl) refl no_value (some_groups (s 3) (s 5) _ _ (last_name (s 4) (codes "state") refl))
