-- What the rules take of a constructor's first statement, which begins with `super`.
use Rattle.std.proofs.Common.{◌≡◌, ℕ, suc, ◌-◌, ◌≤◌, ◌<◌, max, Bool, true, false, List, [], ◌∷◌, ◌++◌, refl, sym, ap, append_assoc, arith}
use Rattle.jesc_text.specs.declared.place.Span.{Span}
use Rattle.jesc_ast.specs.Lexemes.{Lexeme, sign}
use Rattle.jesc_ast.specs.Trees.{Expression, super, expressions_of, Statement, Statements, more_statements, body}
use Rattle.jesc_ast.specs.Depth.{depth, nesting, greatest_depth, greatest_nesting, of_expressions, of_statement}
use Rattle.jesc_ast.specs.Statements.{SpellsStatements, one_more_statement, is_body, SpellsConstructorBody, is_plain_body, is_super_body}
use Rattle.jesc_jml_grammar.specs.declared.mark.Mark.{Mark}
use Rattle.jesc_jml_grammar.specs.declared.mark.Mark.TheVariants as m
use Rattle.jesc_jml_grammar.specs.Marks.{lexeme_mark}
use Rattle.jesc_jml_grammar.specs.Steps.{Parser, mark_at, expect}
use Rattle.jesc_jml_grammar.specs.Reading as reading
use Rattle.jesc_jml_grammar.specs.Reading.{Parsed, Start}
use Rattle.jesc_jml_parser.specs.laws.SoundMarks.{marked}
use Rattle.jesc_jml_parser.specs.laws.SoundPieces.{super_call_piece}
use Rattle.jesc_jml_parser.specs.laws.SoundSteps.{Gives, gives_bind, gives_so, took, Taken, TakesWhole}
use Rattle.jesc_jml_parser.specs.laws.SoundCalls.{TakenCall, called_takes, arguments_takes}
use Rattle.jesc_jml_parser.specs.laws.SoundLonger.{climb_takes}
use Rattle.jesc_jml_grammar.specs.ClauseFound.{Sized}
use Rattle.jesc_jml_parser.specs.laws.ClauseSoundLists.{TakenAs}
use Rattle.jesc_java_grammar.specs.StatementReading as spec
use Rattle.jesc_java_parser.proofs.PieceSound.{IsPiece, resized, deeper_takes, acted_takes}
use Rattle.jesc_java_parser.proofs.PartSound.{IsPlainRead, finished_read}

-- with any statements behind it a constructor's body may begin with what these lexemes spell
pub record BeginsBody (room k : ℕ) (t : Sized Statement) (u : List Lexeme) : Type 0 where
  pub spelled : (p q : Span) (ss : Statements) (v : List Lexeme) → SpellsStatements ss v
      → SpellsConstructorBody (body (more_statements t.tree ss) q) p (sign false "{" p ∷ (u ++ (v ++ sign false "}" q ∷ [])))
  pub deep : of_statement depth 1 t.tree ≡ t.depth
  pub shallow : t.depth ≤ room
  pub flat : of_statement nesting 0 t.tree ≤ k

plain_begins : (room k : ℕ) (t : Sized Statement) (u : List Lexeme) → IsPlainRead room k t u → BeginsBody room k t u
plain_begins room k t u h = record {
  spelled = λ p q ss v more.
      simp append_assoc at
      (is_plain_body (body (more_statements t.tree ss) q) p _ (is_body p q (more_statements t.tree ss) (u ++ v) (one_more_statement t.tree ss u v h.read.spelled more)));
  deep = h.read.deep;
  shallow = h.read.shallow;
  flat = h.read.flat;
}

-- the measure of arguments
arguments_depth : (es : List Expression) → of_expressions depth 1 (expressions_of es) ≡ greatest_depth (expressions_of es)
arguments_depth [] = refl
arguments_depth (e ∷ es) = ap (max (depth e)) (arguments_depth es)

arguments_nesting : (es : List Expression) → of_expressions nesting 0 (expressions_of es) ≡ greatest_nesting (expressions_of es)
arguments_nesting [] = refl
arguments_nesting (e ∷ es) = ap (max (nesting e)) (arguments_nesting es)

module _ (limit room : ℕ) (expression : Bool → ℕ → ℕ → ℕ → Start → Parser Parsed)
    (reads : (note : Bool) (room : ℕ) → TakesWhole note room (expression note room)) (k : ℕ) where
  -- behind `super`
  module _ (r : Lexeme) (first : lexeme_mark false r ≡ m.Super) (all ts : List Lexeme) (parts : all ≡ r ∷ ts) where
    super_constructed_takes : Gives (spec.super_constructed limit room expression k r ts) (TakenAs (BeginsBody (suc room) k) all)
    unfolding spec.super_constructed
    super_constructed_takes =
        gives_bind _ _ (expect false m.LeftParen ts) (took false m.LeftParen ts) (λ p t1 left.
        gives_bind _ _ (reading.arguments false limit room (expression false room) k t1) (arguments_takes false limit room (expression false room) (reads false room) k t1) (λ es t2 h.
        gives_bind _ _ (expect false m.RightParen t2) (took false m.RightParen t2) (λ q t3 right.
        gives_bind _ _ (expect false m.Semicolon t3) (took false m.Semicolon t3) (λ end rest close.
        record {
          taken = r ∷ p ∷ (h.taken ++ q ∷ end ∷ []);
          parts = rw (parts, left.at, h.parts, right.at, close.at) (sym (simp append_assoc));
          is = record {
            spelled = λ o c ss v more.
                rw (append_assoc h.taken (q ∷ end ∷ []) (v ++ sign false "}" c ∷ []), marked false m.Super r first, marked false m.LeftParen p left.mark, marked false m.RightParen q right.mark, marked false m.Semicolon end close.mark)
                (is_super_body o r.span p.span q.span end.span c (expressions_of es.trees) ss h.taken v h.is.spelled more);
            deep = omega (arith, h.is.deep, arguments_depth es.trees);
            shallow = omega (arith, h.is.shallow);
            flat = omega (arith, h.is.flat, arguments_nesting es.trees);
          };
        }))))

    super_method_takes : 0 < room → Gives (spec.super_method limit room expression k r ts) (Taken false (suc (room - 1)) k 0 (r ∷ []) ts)
    unfolding spec.super_method
    super_method_takes some =
        gives_bind _ _ (expect false m.Dot ts) (took false m.Dot ts) (λ dot t1 dotted.
        gives_bind _ _ (expect false m.Name t1) (took false m.Name t1) (λ x t2 named.
        gives_so (TakenCall false (room - 1) k r.span super 0 x t2) (Taken false (suc (room - 1)) k 0 (r ∷ []) ts)
        (reading.called false limit (room - 1) (expression false (room - 1)) k r.span super 0 x t2)
        (called_takes false limit (room - 1) (expression false (room - 1)) (reads false (room - 1)) k r.span super 0 x t2) (λ a rest h.
        record {
          taken = dot ∷ x ∷ h.left ∷ (h.part ++ h.right ∷ []);
          parts = rw (dotted.at, named.at, h.parts) refl;
          is = rw h.made (super_call_piece false (room - 1) k r dot x h.left h.right h.trees h.part first dotted.mark named.mark h.left_mark h.right_mark h.is);
          tight = λ less. omega arith;
        })))

    super_called_takes : 0 < room → Gives (spec.super_called_on limit room expression k r ts) (TakenAs (IsPiece room k true true) all)
    unfolding spec.super_called_on spec.longer
    super_called_takes some =
        let same : suc (room - 1) ≤ room = omega (arith, some) in
        gives_bind _ _ (spec.super_method limit room expression k r ts) (super_method_takes some) (λ a mid h.
        gives_bind _ _ (spec.longer limit room expression k false a mid)
        (climb_takes false limit (room - 1) (expression false (room - 1)) (reads false (room - 1)) k 11 0 (omega arith) (omega arith) (r ∷ []) ts room a mid h)
        (λ e end g.
        acted_takes limit room expression reads k true true e (r ∷ g.taken) (resized false (suc (room - 1)) room k (r ∷ g.taken) e g.is same) all end
        (rw (parts, g.parts) refl)))

    super_acted_takes : 0 < room → Gives (spec.super_acted limit room expression k r ts) (TakenAs (BeginsBody (suc room) k) all)
    unfolding spec.super_acted
    super_acted_takes some =
        gives_bind _ _ (spec.super_called_on limit room expression k r ts) (super_called_takes some) (λ piece mid h.
        gives_bind _ _ (expect false m.Semicolon mid) (took false m.Semicolon mid) (λ p rest close.
        record {
          taken = h.taken ++ p ∷ [];
          parts = rw (h.parts, close.at) (sym (append_assoc h.taken (p ∷ []) rest));
          is = plain_begins (suc room) k (spec.finished piece p) (h.taken ++ p ∷ []) (finished_read room k true true piece h.taken p h.is close.mark);
        }))

    super_by_takes : (mark : Mark) → Gives (spec.super_by limit room expression k r mark ts) (TakenAs (BeginsBody (suc room) k) all)
    super_by_takes m.LeftParen = super_constructed_takes
    super_by_takes m.Dot =
        deeper_takes limit room expression reads k (spec.super_acted limit room expression k r) (TakenAs (BeginsBody (suc room) k) all) ts super_acted_takes
    super_by_takes _ = tt

  pub super_statement_takes : (ts : List Lexeme) → Gives (spec.super_statement limit room expression k ts) (TakenAs (BeginsBody (suc room) k) ts)
  unfolding spec.super_statement
  super_statement_takes ts =
      gives_bind _ _ (expect false m.Super ts) (took false m.Super ts) (λ r mid first. super_by_takes r first.mark ts mid first.at (mark_at false mid))
