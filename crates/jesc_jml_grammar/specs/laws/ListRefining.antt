-- Laws of the lists of the grammar: what a list reads depends on the lexemes up to the one behind it alone.
use Rattle.std.proofs.Common.{◌≡◌, ℕ, zero, suc, ◌≤◌, Bool, List, [], Ok, sym, ap, ◌∙◌, arith}
use Rattle.jesc_ast.specs.Lexemes.{Lexeme}
use Rattle.jesc_jml_grammar.specs.Steps.{Parser, head}
use Rattle.jesc_jml_grammar.specs.ClauseLists.{look, until, separated, more_separated}
use Rattle.jesc_jml_grammar.specs.laws.Refining.{Refines, refines_pure, refines_bind, refines_if, refines_long, ok_is}

-- it is seen of the next lexeme alone
pub record IsByHead {A : Type 0} (sight : List Lexeme → A) : Type 0 where
  pub same : (v w : List Lexeme) → head w ≡ head v → sight w ≡ sight v

pub refines_look : (same : Bool) {A : Type 0} (sight : List Lexeme → A) → IsByHead sight → Refines same (look sight) (look sight)
refines_look same {A} sight by = record {
  oks = λ ts rest x e.
      let is = ok_is (sight ts) x ts rest e in
      record { taken = []; parts = is.1; again = λ other next. ap (λ (z : A). Ok (z, other)) (by.same ts other (next ∙ ap head (sym is.1)) ∙ is.0) };
  errs = λ ts n e. absurd cc;
  deeps = λ s ts n e. absurd cc;
}

module _ (same : Bool) {A B : Type 0} (begins : List Lexeme → Bool) (by : IsByHead begins) (add : B → A → B) where
  pub refines_until : (item item' : Parser A) → Refines same item item' → (n n' : ℕ) → n ≤ n' → (found : B)
      → Refines same (until begins item add n found) (until begins item' add n' found)
  unfolding until
  refines_until item item' h zero n' le found = refines_long same _
  refines_until item item' h (suc n) zero le found = absurd (omega arith)
  refines_until item item' h (suc n) (suc n') le found =
      refines_bind same _ _ _ _ (refines_look same begins by) (λ more. refines_if same more _ _ _ _
      (refines_bind same _ _ _ _ h (λ x. refines_until item item' h n n' (omega arith) (add found x)))
      (refines_pure same found))

  pub refines_more_separated : (sign sign' : Parser Lexeme) (item item' : Parser A) → Refines same sign sign' → Refines same item item' → (n n' : ℕ) → n ≤ n'
      → (found : B) → Refines same (more_separated begins sign item add n found) (more_separated begins sign' item' add n' found)
  refines_more_separated sign sign' item item' hs h = refines_until _ _ (refines_bind same _ _ _ _ hs (λ p. h))

  pub refines_separated : (sign sign' : Parser Lexeme) (item item' : Parser A) → Refines same sign sign' → Refines same item item' → (n n' : ℕ) → n ≤ n'
      → (found : B) → Refines same (separated begins sign item add n found) (separated begins sign' item' add n' found)
  unfolding separated
  refines_separated sign sign' item item' hs h n n' le found =
      refines_bind same _ _ _ _ h (λ x. refines_more_separated sign sign' item item' hs h n n' le (add found x))
