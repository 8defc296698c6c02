-- What the rules of branches and loops take.
use Rattle.std.proofs.Common.{◌≡◌, ℕ, suc, ◌-◌, ◌≤◌, ◌<◌, max, Bool, true, false, List, [], ◌∷◌, ◌++◌, refl, sym, append_assoc, arith}
use Rattle.std.proofs.lemmas.Bool.{both_ways}
use Rattle.std.specs.Prelude.{codes}
use Rattle.jesc_ast.specs.Lexemes.{Lexeme, word, sign}
use Rattle.jesc_ast.specs.Trees.{Clause, Statement}
use Rattle.jesc_ast.specs.Depth.{depth, nesting, of_option, of_optional}
use Rattle.jesc_ast.specs.Statements.{SpellsOption, SpellsHeadPart, may_begin_for, may_end_turn, is_branch_alone, is_branch_else, is_while, is_for}
use Rattle.jesc_jml_grammar.specs.declared.mark.Mark.TheVariants as m
use Rattle.jesc_jml_grammar.specs.Steps.{Parser, pure, expect}
use Rattle.jesc_jml_grammar.specs.Reading.{Parsed, Start}
use Rattle.jesc_jml_parser.specs.laws.SoundMarks.{marked}
use Rattle.jesc_jml_parser.specs.laws.SoundSteps.{Gives, gives_bind, gives_if, took, TakesWhole}
use Rattle.jesc_jml_grammar.specs.ClauseFound.{Sized}
use Rattle.jesc_jml_parser.specs.laws.ClauseSoundLists.{TakenAs}
use Rattle.jesc_java_grammar.specs.declared.statement_mark.StatementMark.{StatementMark}
use Rattle.jesc_java_grammar.specs.declared.statement_mark.StatementMark.TheVariants as s
use Rattle.jesc_java_grammar.specs.declared.statement_mark.Slot.{Slot}
use Rattle.jesc_java_grammar.specs.declared.statement_mark.Slot.TheVariants as slots
use Rattle.jesc_java_grammar.specs.Lexing.{is_word, next_is, take_if}
use Rattle.jesc_java_grammar.specs.StatementMarks.{statement_mark_at, allows_branch, allows_loop}
use Rattle.jesc_java_grammar.specs.StatementReading as spec
use Rattle.jesc_java_grammar.specs.StatementReading.{ForHead}
use Rattle.jesc_java_parser.proofs.LexingSound.{took_this_word}
use Rattle.jesc_java_parser.proofs.PartSound.{IsCondition, AreInvariants, condition_takes, optional_value_takes, invariants_take, for_first_takes, for_last_takes}
use Rattle.jesc_java_parser.proofs.BodySound.{IsStatement, TakesStatements}

-- what stands between a loop's word and its statement
record IsForHead (room k : ℕ) (head : ForHead) (u : List Lexeme) : Type 0 where
  left : Lexeme
  first_part : List Lexeme
  first_end : Lexeme
  test_part : List Lexeme
  test_end : Lexeme
  last_part : List Lexeme
  right : Lexeme
  parts : u ≡ left ∷ (first_part ++ first_end ∷ (test_part ++ test_end ∷ (last_part ++ right ∷ [])))
  left_is : left ≡ sign false "(" left.span
  first : SpellsHeadPart may_begin_for head.first first_part
  first_closed : first_end ≡ sign false ";" first_end.span
  test : SpellsOption false head.test test_part
  test_closed : test_end ≡ sign false ";" test_end.span
  last : SpellsHeadPart may_end_turn head.last last_part
  right_is : right ≡ sign false ")" right.span
  deep : max (of_optional depth 1 head.first) (max (of_option depth 1 head.test) (of_optional depth 1 head.last)) ≡ head.depth
  shallow : head.depth ≤ room
  flat : max (of_optional nesting 0 head.first) (max (of_option nesting 0 head.test) (of_optional nesting 0 head.last)) ≤ k

for_parts : (t a b c v rest : List Lexeme) (r p first_end test_end q : Lexeme)
    → t ++ r ∷ ((p ∷ (a ++ first_end ∷ (b ++ test_end ∷ (c ++ q ∷ [])))) ++ (v ++ rest)) ≡ (t ++ r ∷ p ∷ (a ++ first_end ∷ (b ++ test_end ∷ (c ++ q ∷ v)))) ++ rest
for_parts t a b c v rest r p first_end test_end q = simp append_assoc

module _ (limit room : ℕ) (expression : Bool → ℕ → ℕ → ℕ → Start → Parser Parsed)
    (reads : (note : Bool) (room : ℕ) → TakesWhole note room (expression note room)) (k : ℕ)
    (statement : Slot → Parser (Sized Statement)) (inside : TakesStatements room k statement) where
  -- ---- branches

  -- behind the statement where the condition holds
  module _ (slot : Slot) (allowed : allows_branch slot ≡ true) (r : Lexeme) (begun : r ≡ word false "if" r.span) (test : Parsed) (t : List Lexeme) (tested : IsCondition room k test t)
      (first : Sized Statement) (v : List Lexeme) (h : IsStatement room k slots.Then first v) (all ts : List Lexeme) (parts : all ≡ r ∷ (t ++ (v ++ ts))) where
    otherwise_takes : Gives (spec.otherwise limit room expression k statement r test first ts) (TakenAs (IsStatement (suc room) k slot) all)
    unfolding spec.otherwise
    otherwise_takes =
        gives_bind _ _ (take_if (is_word (codes "else") false) ts) (took_this_word (codes "else") false ts) (λ o mid word.
        gives_bind _ _ (statement slots.Else mid) (inside slots.Else mid) (λ other rest g.
        record {
          taken = r ∷ tested.left ∷ (tested.part ++ tested.right ∷ (v ++ o ∷ g.taken));
          parts = rw (parts, tested.parts, word.at, g.parts, append_assoc tested.part (tested.right ∷ []) (v ++ o ∷ (g.taken ++ rest))) (sym (simp append_assoc));
          is = record {
            read = record {
              spelled = rw (begun, tested.left_is, tested.right_is, word.is)
                  (is_branch_else r.span tested.left.span tested.right.span o.span test.tree first.tree other.tree tested.part v g.taken
                  (test.strength, tested.is.spelled) h.read.spelled (h.no_loop refl) (h.no_branch refl) g.is.read.spelled (g.is.no_loop refl));
              deep = rw (tested.is.deep, h.read.deep, g.is.read.deep) refl;
              shallow = omega (arith, tested.is.shallow, h.read.shallow, g.is.read.shallow);
              flat = omega (arith, tested.is.flat, h.read.flat, g.is.read.flat);
            };
            no_loop = λ e. refl;
            no_branch = λ e. absurd (both_ways (allows_branch slot) e allowed);
          };
        }))

    branch_behind_takes : Gives (spec.branch_behind limit room expression k statement r test first ts) (TakenAs (IsStatement (suc room) k slot) all)
    unfolding spec.branch_behind
    branch_behind_takes =
        gives_if (next_is (is_word (codes "else") false) ts) (spec.otherwise limit room expression k statement r test first) (pure (spec.branch_of r test first))
        (TakenAs (IsStatement (suc room) k slot) all) ts
        (λ e. otherwise_takes)
        (λ e. record {
          taken = r ∷ tested.left ∷ (tested.part ++ tested.right ∷ v);
          parts = rw (parts, tested.parts, append_assoc tested.part (tested.right ∷ []) (v ++ ts)) (sym (simp append_assoc));
          is = record {
            read = record {
              spelled = rw (begun, tested.left_is, tested.right_is)
                  (is_branch_alone r.span tested.left.span tested.right.span test.tree first.tree tested.part v
                  (test.strength, tested.is.spelled) h.read.spelled (h.no_loop refl) (h.no_branch refl));
              deep = omega (arith, tested.is.deep, h.read.deep);
              shallow = omega (arith, tested.is.shallow, h.read.shallow);
              flat = omega (arith, tested.is.flat, h.read.flat);
            };
            no_loop = λ e. refl;
            no_branch = λ e. absurd (both_ways (allows_branch slot) e allowed);
          };
        })

  pub branch_takes : (slot : Slot) → allows_branch slot ≡ true → (ts : List Lexeme)
      → Gives (spec.branch_ limit room expression k statement ts) (TakenAs (IsStatement (suc room) k slot) ts)
  unfolding spec.branch_
  branch_takes slot allowed ts =
      gives_bind _ _ (take_if (is_word (codes "if") false) ts) (took_this_word (codes "if") false ts) (λ r t1 first.
      gives_bind _ _ (spec.condition limit room expression k t1) (condition_takes limit room expression reads k t1) (λ test t2 h.
      gives_bind _ _ (statement slots.Then t2) (inside slots.Then t2) (λ one t3 g.
      branch_behind_takes slot allowed r first.is test h.taken h.is one g.taken g.is ts t3 (rw (first.at, h.parts, g.parts) refl))))

  -- ---- loops

  for_head_takes : 0 < room → (ts : List Lexeme) → Gives (spec.for_head limit room expression k statement ts) (TakenAs (IsForHead room k) ts)
  unfolding spec.for_head
  for_head_takes some ts =
      gives_bind _ _ (expect false m.LeftParen ts) (took false m.LeftParen ts) (λ p t1 left.
      gives_bind _ _ (spec.for_first limit (room - 1) expression k t1) (for_first_takes limit (room - 1) expression reads k t1) (λ first t2 h.
      gives_bind _ _ (expect false m.Semicolon t2) (took false m.Semicolon t2) (λ end t3 closed.
      gives_bind _ _ (spec.optional_value limit room expression k m.Semicolon t3) (optional_value_takes limit room expression reads k m.Semicolon t3) (λ test t4 g.
      gives_bind _ _ (expect false m.Semicolon t4) (took false m.Semicolon t4) (λ stop t5 stopped.
      gives_bind _ _ (spec.for_last limit (room - 1) expression k t5) (for_last_takes limit (room - 1) expression reads k t5) (λ last t6 j.
      gives_bind _ _ (expect false m.RightParen t6) (took false m.RightParen t6) (λ q rest right.
      record {
        taken = p ∷ (h.taken ++ end ∷ (g.taken ++ stop ∷ (j.taken ++ q ∷ [])));
        parts = rw (left.at, h.parts, closed.at, g.parts, stopped.at, j.parts, right.at) (sym (simp append_assoc));
        is = record {
          left = p;
          first_part = h.taken;
          first_end = end;
          test_part = g.taken;
          test_end = stop;
          last_part = j.taken;
          right = q;
          parts = refl;
          left_is = marked false m.LeftParen p left.mark;
          first = h.is.spelled;
          first_closed = marked false m.Semicolon end closed.mark;
          test = g.is.spelled;
          test_closed = marked false m.Semicolon stop stopped.mark;
          last = j.is.spelled;
          right_is = marked false m.RightParen q right.mark;
          deep = rw (h.is.deep, g.is.deep, j.is.deep) refl;
          shallow = omega (arith, some, h.is.shallow, g.is.shallow, j.is.shallow);
          flat = omega (arith, h.is.flat, g.is.flat, j.is.flat);
        };
      })))))))

  -- behind the invariants
  module _ (slot : Slot) (allowed : allows_loop slot ≡ true) (cs : Sized (List Clause)) (t : List Lexeme) (before : AreInvariants room k cs t) (all ts : List Lexeme) (parts : all ≡ t ++ ts) where
    while_takes : Gives (spec.while_ limit room expression k statement cs ts) (TakenAs (IsStatement (suc room) k slot) all)
    unfolding spec.while_
    while_takes =
        gives_bind _ _ (take_if (is_word (codes "while") false) ts) (took_this_word (codes "while") false ts) (λ r t1 first.
        gives_bind _ _ (spec.condition limit room expression k t1) (condition_takes limit room expression reads k t1) (λ test t2 h.
        gives_bind _ _ (statement slots.Then t2) (inside slots.Then t2) (λ turn rest g.
        record {
          taken = t ++ r ∷ h.is.left ∷ (h.is.part ++ h.is.right ∷ g.taken);
          parts = rw (parts, first.at, h.parts, h.is.parts, g.parts, append_assoc h.is.part (h.is.right ∷ []) (g.taken ++ rest)) (sym (simp append_assoc));
          is = record {
            read = record {
              spelled = rw (first.is, h.is.left_is, h.is.right_is)
                  (is_while r.span h.is.left.span h.is.right.span cs.tree test.tree turn.tree t h.is.part g.taken before.spelled
                  (test.strength, h.is.is.spelled) g.is.read.spelled (g.is.no_loop refl) (g.is.no_branch refl));
              deep = rw (before.deep, h.is.is.deep, g.is.read.deep) refl;
              shallow = omega (arith, before.shallow, h.is.is.shallow, g.is.read.shallow);
              flat = omega (arith, before.flat, h.is.is.flat, g.is.read.flat);
            };
            no_loop = λ e. absurd (both_ways (allows_loop slot) e allowed);
            no_branch = λ e. refl;
          };
        })))

    for_takes : 0 < room → Gives (spec.for_ limit room expression k statement cs ts) (TakenAs (IsStatement (suc room) k slot) all)
    unfolding spec.for_
    for_takes some =
        gives_bind _ _ (take_if (is_word (codes "for") false) ts) (took_this_word (codes "for") false ts) (λ r t1 first.
        gives_bind _ _ (spec.for_head limit room expression k statement t1) (for_head_takes some t1) (λ head t2 h.
        gives_bind _ _ (statement slots.Then t2) (inside slots.Then t2) (λ turn rest g.
        record {
          taken = t ++ r ∷ h.is.left ∷ (h.is.first_part ++ h.is.first_end ∷ (h.is.test_part ++ h.is.test_end ∷ (h.is.last_part ++ h.is.right ∷ g.taken)));
          parts = rw (parts, first.at, h.parts, h.is.parts, g.parts) (for_parts t h.is.first_part h.is.test_part h.is.last_part g.taken rest r h.is.left h.is.first_end h.is.test_end h.is.right);
          is = record {
            read = record {
              spelled = rw (first.is, h.is.left_is, h.is.first_closed, h.is.test_closed, h.is.right_is)
                  (is_for r.span h.is.left.span h.is.first_end.span h.is.test_end.span h.is.right.span cs.tree head.first head.test head.last turn.tree t h.is.first_part h.is.test_part h.is.last_part g.taken
                  before.spelled h.is.first h.is.test h.is.last g.is.read.spelled (g.is.no_loop refl) (g.is.no_branch refl));
              deep = omega (arith, before.deep, h.is.deep, g.is.read.deep);
              shallow = omega (arith, before.shallow, h.is.shallow, g.is.read.shallow);
              flat = omega (arith, before.flat, h.is.flat, g.is.read.flat);
            };
            no_loop = λ e. absurd (both_ways (allows_loop slot) e allowed);
            no_branch = λ e. refl;
          };
        })))

    loop_by_takes : 0 < room → (mark : StatementMark) → Gives (spec.loop_by limit room expression k statement cs mark ts) (TakenAs (IsStatement (suc room) k slot) all)
    loop_by_takes some s.While = while_takes
    loop_by_takes some s.For = for_takes some
    loop_by_takes some _ = tt

  pub loop_takes : 0 < room → (slot : Slot) → allows_loop slot ≡ true → (ts : List Lexeme)
      → Gives (spec.loop_ limit room expression k statement ts) (TakenAs (IsStatement (suc room) k slot) ts)
  unfolding spec.loop_
  loop_takes some slot allowed ts =
      gives_bind _ _ (spec.invariants limit room expression k ts) (invariants_take limit room expression reads k ts) (λ cs mid h.
      loop_by_takes slot allowed cs h.taken h.is ts mid h.parts some (statement_mark_at mid))
