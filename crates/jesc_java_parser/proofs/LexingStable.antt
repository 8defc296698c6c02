-- The steps that look at the next lexeme answer by that lexeme alone.
use Rattle.std.proofs.Common.{◌≡◌, Bool, false, List, [], ◌∷◌, refl, ap}
use Rattle.std.specs.Prelude.{not}
use Rattle.jesc_ast.specs.Lexemes.{Lexeme}
use Rattle.jesc_jml_grammar.specs.declared.mark.Mark.{Mark}
use Rattle.jesc_jml_grammar.specs.Steps.{same_mark, take_one, refuse, head}
use Rattle.jesc_jml_grammar.specs.laws.Refining.{Refines, refines_bind, refines_if, refines_take_one, refines_refuse, mark_at-head}
use Rattle.jesc_jml_grammar.specs.laws.ListRefining.{IsByHead, refines_look}
use Rattle.jesc_java_grammar.specs.Lexing.{next_is, see_if, take_if}
use Rattle.jesc_java_grammar.specs.StatementMarks.{statement_mark_at, peek_statement}
use Rattle.jesc_java_grammar.specs.FileMarks.{member_mark_at, peek_member, is_modifier_mark, at_modifier, at_code, before_brace, before_end}

pub next_is-head : (test : Lexeme → Bool) (v w : List Lexeme) → head w ≡ head v → next_is test w ≡ next_is test v
next_is-head test [] [] e = refl
next_is-head test [] (x ∷ w) e = absurd cc
next_is-head test (x ∷ v) [] e = absurd cc
next_is-head test (x ∷ v) (y ∷ w) e = let same : y ≡ x = cc in rw same refl

pub statement_mark_at-head : (v w : List Lexeme) → head w ≡ head v → statement_mark_at w ≡ statement_mark_at v
unfolding statement_mark_at
statement_mark_at-head [] [] e = refl
statement_mark_at-head [] (x ∷ w) e = absurd cc
statement_mark_at-head (x ∷ v) [] e = absurd cc
statement_mark_at-head (x ∷ v) (y ∷ w) e = let same : y ≡ x = cc in rw same refl

pub member_mark_at-head : (v w : List Lexeme) → head w ≡ head v → member_mark_at w ≡ member_mark_at v
unfolding member_mark_at
member_mark_at-head [] [] e = refl
member_mark_at-head [] (x ∷ w) e = absurd cc
member_mark_at-head (x ∷ v) [] e = absurd cc
member_mark_at-head (x ∷ v) (y ∷ w) e = let same : y ≡ x = cc in rw same refl

before_end-head : (v w : List Lexeme) → head w ≡ head v → before_end w ≡ before_end v
before_end-head [] [] e = refl
before_end-head [] (x ∷ w) e = absurd cc
before_end-head (x ∷ v) [] e = absurd cc
before_end-head (x ∷ v) (y ∷ w) e = refl

-- ---- what goes on with a list

pub by_next : (test : Lexeme → Bool) → IsByHead (next_is test)
by_next test = record { same = next_is-head test }

pub by_brace : IsByHead before_brace
by_brace = record { same = λ v w e. ap not (next_is-head _ v w e) }

pub by_end : IsByHead before_end
by_end = record { same = before_end-head }

pub by_modifier : IsByHead at_modifier
by_modifier = record { same = λ v w e. ap is_modifier_mark (member_mark_at-head v w e) }

pub by_code : (mark : Mark) → IsByHead (at_code mark)
by_code mark = record { same = λ v w e. ap (λ (found : Mark). same_mark found mark) (mark_at-head false v w e) }

-- ---- the steps

module _ (same : Bool) where
  pub refines_see_if : (test : Lexeme → Bool) → Refines same (see_if test) (see_if test)
  refines_see_if test = refines_look same (next_is test) (by_next test)

  pub refines_take_if : (test : Lexeme → Bool) → Refines same (take_if test) (take_if test)
  unfolding take_if
  refines_take_if test = refines_bind same _ _ _ _ (refines_see_if test)
      (λ there. refines_if same there take_one take_one refuse refuse (refines_take_one same) (refines_refuse same))

  pub refines_peek_statement : Refines same peek_statement peek_statement
  refines_peek_statement = refines_look same statement_mark_at (record { same = statement_mark_at-head })

  pub refines_peek_member : Refines same peek_member peek_member
  refines_peek_member = refines_look same member_mark_at (record { same = member_mark_at-head })
