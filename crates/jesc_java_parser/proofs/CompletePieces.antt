-- Simple statements are read: locals, assignments, steps and calls.
use Rattle.std.proofs.Common.{◌≡◌, ℕ, suc, ◌≤◌, Bool, true, false, List, [], ◌∷◌, ◌++◌, length, length-append, Ok, refl, sym, ap, ◌∙◌, arith, append_assoc, append-nil}
use Rattle.std.specs.Prelude.{nat_lt}
use Rattle.std.proofs.lemmas.Bool.{lt-ltb}
use Rattle.jesc_text.specs.declared.place.Span.{Span}
use Rattle.jesc_ast.specs.declared.word.TypeTree.{TypeTree}
use Rattle.jesc_ast.specs.Lexemes.{Lexeme, word, sign, chosen_word, chosen_sign}
use Rattle.jesc_ast.specs.Trees.{Expression, Statement}
use Rattle.jesc_ast.specs.Expressions.{Spells, SpellsType, is_plain_type, is_array_type}
use Rattle.jesc_ast.specs.Depth.{depth, nesting, of_statement}
use Rattle.jesc_ast.specs.Statements as grammar
use Rattle.jesc_ast.specs.Statements.{is_target, is_call, is_assign_sign, is_step_sign, Simple, declares, assigns, calls, SpellsSimple, is_local, is_final_local, is_assignment, is_step_after, is_step_before, is_call_alone}
use Rattle.jesc_jml_grammar.specs.Marks.{lexeme_mark}
use Rattle.jesc_jml_grammar.specs.Steps.{mark_at}
use Rattle.jesc_jml_parser.specs.laws.CompleteMarks.{name_at, type_word_at, opens_first}
use Rattle.jesc_jml_parser.specs.laws.CompleteSteps.{parsed, depth_positive}
use Rattle.jesc_java_grammar.specs.declared.statement_mark.StatementMark.TheVariants as s
use Rattle.jesc_java_grammar.specs.StatementMarks.{statement_mark_at}
use Rattle.jesc_java_grammar.specs.FileReading.{expression_of}
use Rattle.jesc_java_grammar.specs.StatementReading as spec
use Rattle.jesc_java_grammar.specs.StatementReading.{Piece, local_of, assign_of, step_after_of, step_before_of, call_of}
use Rattle.jesc_java_parser.proofs.CompleteLexing.{none_of, assign_signs, is_plain, plain_opens, plain_type, plain_at}
use Rattle.jesc_java_parser.proofs.CompleteActs.{IsClosed, closed_by_sign, ends_before, value_read, no_name, assign_closes, step_closes, target_act, call_act, no_target, assigned_is, stepped_is, called_is, stepped_first_is, named_local_is, final_read, local_read}
use Rattle.jesc_java_parser.proofs.CompleteTargets.{is_act, plain_read, target_read}

-- ---- simple statements

-- a local stands where locals may, and a call where calls may
abbrev pub may_stand : Bool → Bool → Simple → Bool
may_stand locals alone declares = locals
may_stand locals alone assigns = true
may_stand locals alone grammar.calls = alone

pub record ReadsPiece (limit room quantifiers : ℕ) (locals alone : Bool) (whole : Span → Span) (t : Statement) (ts rest : List Lexeme) : Type 0 where
  pub piece : Piece
  pub made : piece.make (whole piece.span) ≡ t
  pub deep : piece.depth ≡ of_statement depth 1 t
  pub is : spec.simple limit room (expression_of limit) quantifiers locals alone ts ≡ Ok (piece, rest)

pub type_plain : {t : TypeTree} {u : List Lexeme} → SpellsType false t u → (ts : List Lexeme) → is_plain (mark_at false (u ++ ts)) ≡ true
unfolding mark_at
type_plain (is_plain_type s x t) ts = plain_type (lexeme_mark false (chosen_word false x s)) (type_word_at false x s t)
type_plain (is_array_type s p q x t) ts = plain_type (lexeme_mark false (chosen_word false x s)) (type_word_at false x s t)

module _ (limit room quantifiers : ℕ) (locals alone : Bool) where
  simple_plain : (ts : List Lexeme) → is_plain (mark_at false ts) ≡ true
      → spec.simple limit room (expression_of limit) quantifiers locals alone ts ≡ spec.plain limit room (expression_of limit) quantifiers locals alone ts
  unfolding spec.simple
  simple_plain ts p = rw (plain_at ts p) (elim locals as (λ b. spec.simple_by limit room (expression_of limit) quantifiers b alone s.Other ts
      ≡ spec.plain limit room (expression_of limit) quantifiers b alone ts) [ true ↦ refl | false ↦ refl ])

  simple_stepped : (op : List ℕ) (o : Span) (ts : List Lexeme) → is_step_sign op ≡ true → nat_lt 0 room ≡ true
      → spec.simple limit room (expression_of limit) quantifiers locals alone (chosen_sign false op o ∷ ts)
      ≡ spec.stepped_first limit room (expression_of limit) quantifiers (chosen_sign false op o ∷ ts)
  unfolding spec.simple statement_mark_at
  simple_stepped op o ts is some =
      rw (none_of is_step_sign assign_signs op refl is) (rw is (elim locals as (λ b. spec.simple_by limit room (expression_of limit) quantifiers b alone s.Step (chosen_sign false op o ∷ ts)
      ≡ spec.stepped_first limit room (expression_of limit) quantifiers (chosen_sign false op o ∷ ts)) [ true ↦ rw some refl | false ↦ rw some refl ]))

  simple_final : locals ≡ true → (f : Span) (ts : List Lexeme) → nat_lt 0 room ≡ true
      → spec.simple limit room (expression_of limit) quantifiers locals alone (word false "final" f ∷ ts)
      ≡ spec.final_local limit room (expression_of limit) quantifiers (word false "final" f ∷ ts)
  unfolding spec.simple statement_mark_at
  simple_final l f ts some = rw l (rw some refl)

  -- a target or a call, and what stands behind it
  act_read : (k : ℕ) (e : Expression) (u v rest : List Lexeme) → Spells false k e u → is_act e ≡ true → (is_target e ≡ false → alone ≡ true) → depth e ≤ room
      → nesting e ≤ quantifiers → length u ≤ limit → IsClosed false (v ++ rest)
      → spec.simple limit room (expression_of limit) quantifiers locals alone ((u ++ v) ++ rest)
      ≡ spec.acted limit room (expression_of limit) quantifiers alone (parsed k e) (v ++ rest)
  act_read k e u v rest h act may deep flat short c =
      ap (spec.simple limit room (expression_of limit) quantifiers locals alone) (append_assoc u v rest)
      ∙ simple_plain (u ++ (v ++ rest)) (plain_opens (mark_at false (u ++ (v ++ rest))) (opens_first false h (v ++ rest)))
      ∙ plain_read limit room quantifiers locals alone k e u (v ++ rest) h act may deep flat short (ends_before false h 11 (omega arith) (v ++ rest) c)
      (no_name (mark_at false (v ++ rest)) c.no_cast)

  -- Simple statements are read, and nothing behind them.
  pub piece_read : (whole : Span → Span) (kind : Simple) (t : Statement) (u rest : List Lexeme) → SpellsSimple whole kind t u → may_stand locals alone kind ≡ true
      → of_statement depth 1 t ≤ suc room → of_statement nesting 0 t ≤ quantifiers → length u ≤ limit → IsClosed false rest
      → ReadsPiece limit room quantifiers locals alone whole t (u ++ rest) rest
  unfolding mark_at
  piece_read whole _ _ _ rest (is_local equals n t x e u v ht named he) may deep flat short c =
      let behind = chosen_word false x n ∷ sign false "=" equals ∷ v in
      record {
        piece = local_of t.span false t (chosen_word false x n) (sign false "=" equals) (parsed he.0 e);
        made = refl;
        deep = refl;
        is = ap (spec.simple limit room (expression_of limit) quantifiers locals alone) (append_assoc u behind rest)
            ∙ simple_plain (u ++ (behind ++ rest)) (type_plain ht (behind ++ rest))
            ∙ rw may (local_read limit room quantifiers alone ht x n equals (parsed he.0 e) (v ++ rest) rest named (omega (arith, depth_positive e))
            (value_read false limit room quantifiers he.0 e v rest he.1 (omega arith) (omega arith) (omega (arith, length-append {A = Lexeme})) c));
      }
  piece_read whole _ _ _ rest (is_final_local f equals n t x e u v ht named he) may deep flat short c =
      let behind = chosen_word false x n ∷ sign false "=" equals ∷ v in
      record {
        piece = local_of f true t (chosen_word false x n) (sign false "=" equals) (parsed he.0 e);
        made = refl;
        deep = refl;
        is = simple_final may f ((u ++ behind) ++ rest) (lt-ltb 0 room (omega (arith, depth_positive e)))
            ∙ ap (λ (z : List Lexeme). spec.final_local limit room (expression_of limit) quantifiers (word false "final" f ∷ z)) (append_assoc u behind rest)
            ∙ final_read limit room quantifiers f ht (behind ++ rest) (name_at false x n named)
            ∙ named_local_is limit room quantifiers f true t x n equals (parsed he.0 e) (v ++ rest) rest named
            (value_read false limit room quantifiers he.0 e v rest he.1 (omega arith) (omega arith) (omega (arith, length-append {A = Lexeme})) c);
      }
  piece_read whole _ _ _ rest (is_assignment o op target e u v ht is_a sign_is he) may deep flat short c = record {
    piece = assign_of (parsed ht.0 target) (chosen_sign false op o) (parsed he.0 e);
    made = refl;
    deep = refl;
    is = act_read ht.0 target u (chosen_sign false op o ∷ v) rest ht.1 (target_act target is_a) (λ no. absurd cc) (omega arith) (omega arith) (omega (arith, length-append {A = Lexeme}))
        (closed_by_sign false op o (v ++ rest) (assign_closes op sign_is))
        ∙ assigned_is limit room quantifiers alone (parsed ht.0 target) (parsed he.0 e) op o (v ++ rest) rest is_a sign_is
        (value_read false limit room quantifiers he.0 e v rest he.1 (omega arith) (omega arith) (omega (arith, length-append {A = Lexeme})) c);
  }
  piece_read whole _ _ _ rest (is_step_after o op target u ht is_a sign_is) may deep flat short c = record {
    piece = step_after_of (parsed ht.0 target) (chosen_sign false op o);
    made = refl;
    deep = omega arith;
    is = act_read ht.0 target u (chosen_sign false op o ∷ []) rest ht.1 (target_act target is_a) (λ no. absurd cc) (omega arith) (omega arith) (omega (arith, length-append {A = Lexeme}))
        (closed_by_sign false op o rest (step_closes op sign_is))
        ∙ stepped_is limit room quantifiers alone (parsed ht.0 target) op o rest is_a sign_is;
  }
  piece_read whole _ _ _ rest (is_step_before o op target u ht is_a sign_is) may deep flat short c = record {
    piece = step_before_of (chosen_sign false op o) (parsed ht.0 target);
    made = refl;
    deep = omega arith;
    is = simple_stepped op o (u ++ rest) sign_is (lt-ltb 0 room (omega (arith, depth_positive target)))
        ∙ stepped_first_is limit room quantifiers (parsed ht.0 target) op o (u ++ rest) rest sign_is
        (target_read limit room quantifiers false ht.0 target u rest ht.1 is_a (omega arith) (omega arith) (omega arith) (ends_before false ht.1 11 (omega arith) rest c));
  }
  piece_read whole _ _ _ rest (is_call_alone e u he is_a) may deep flat short c = record {
    piece = call_of (parsed he.0 e);
    made = refl;
    deep = refl;
    is = ap (λ (z : List Lexeme). spec.simple limit room (expression_of limit) quantifiers locals alone (z ++ rest)) (sym (append-nil u))
        ∙ act_read he.0 e u [] rest he.1 (call_act e is_a) (λ no. may) (omega arith) (omega arith) (omega arith) c
        ∙ rw may (called_is limit room quantifiers (parsed he.0 e) rest (no_target e is_a) is_a);
  }
