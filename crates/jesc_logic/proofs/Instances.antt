-- Forms with terms in the place of variables, form by form.
use Rattle.std.proofs.Common.{◌≡◌, Result, Ok, Err, IfOk, List, sym, ◌∙◌, subst}
use Rattle.std.specs.Prelude.{All}
use Rattle.jesc_logic.specs.declared.terms.TermId.{TermId}
use Rattle.jesc_logic.specs.Terms.{Term, term_at, IsIn, StandsFor, Keeps}
use Rattle.jesc_logic.specs.Claims.{Claim, at_most, equal, both, either, over, Each, shape}
use Rattle.jesc_logic.specs.declared.formula.Formula.{Formula}
use Rattle.jesc_logic.specs.declared.terms.TermError.{TermError}
use Rattle.jesc_logic.specs.Substitution.{put, terms_at, Puts, IsInstance}
use Rattle.jesc_logic.specs.laws.Keeping.{each_in, says_same}
use Rattle.jesc_logic.proofs.Putting.{Stands, standing, from_earlier, in_later, same_terms_at}

module _ (old : List Term) (args : List TermId) (all : All (IsIn old) args) (mid : List Term) (k : Keeps old mid) (new : List Term) (k2 : Keeps mid new) where
  -- the parts' numbers after both have been made
  two_parts : (a b a' b' : TermId) → IsIn old b → StandsFor mid a' (put (terms_at old args) (term_at old a)) → StandsFor new b' (put (terms_at mid args) (term_at mid b)) → Stands old new args a a' × Stands old new args b b'
  two_parts a b a' b' p s t = (in_later old mid new args a a' k2 (standing old mid args a a' s), from_earlier old mid new args b b' k all p (standing mid new args b b' t))

  pub at_most_puts : (a b a' b' : TermId) → IsIn old b → StandsFor mid a' (put (terms_at old args) (term_at old a)) → StandsFor new b' (put (terms_at mid args) (term_at mid b)) → Puts old new args (at_most a b) (at_most a' b')
  at_most_puts a b a' b' p s t =
      let q = two_parts a b a' b' p s t in
      record { there = (q.0.there, q.1.there); says = λ i. at_most (q.0.is i) (q.1.is i) }

  pub equal_puts : (a b a' b' : TermId) → IsIn old b → StandsFor mid a' (put (terms_at old args) (term_at old a)) → StandsFor new b' (put (terms_at mid args) (term_at mid b)) → Puts old new args (equal a b) (equal a' b')
  equal_puts a b a' b' p s t =
      let q = two_parts a b a' b' p s t in
      record { there = (q.0.there, q.1.there); says = λ i. equal (q.0.is i) (q.1.is i) }

  -- a form that was made earlier
  later_puts : (f g : Claim TermId) → Puts old mid args f g → Puts old new args f g
  later_puts f g h = record { there = each_in mid new k2 g h.there; says = says_same mid new k2 g h.there ∙ h.says }

  -- a form that was made from a later table
  earlier_puts : (f g : Claim TermId) → Each (IsIn old) f → Puts mid new args f g → Puts old new args f g
  earlier_puts f g p h = record { there = h.there; says = h.says ∙ (λ i. over (put (same_terms_at old mid k args all i)) (says_same old mid k f p i)) }

  pub both_put : (f g f' g' : Claim TermId) → Each (IsIn old) g → Puts old mid args f f' → Puts mid new args g g' → Puts old new args (both f g) (both f' g')
  both_put f g f' g' p h j =
      let q = later_puts f f' h in
      let r = earlier_puts g g' p j in
      record { there = (q.there, r.there); says = λ i. both (q.says i) (r.says i) }

  pub either_puts : (f g f' g' : Claim TermId) → Each (IsIn old) g → Puts old mid args f f' → Puts mid new args g g' → Puts old new args (either f g) (either f' g')
  either_puts f g f' g' p h j =
      let q = later_puts f f' h in
      let r = earlier_puts g g' p j in
      record { there = (q.there, r.there); says = λ i. either (q.says i) (r.says i) }

-- the formula that is made puts the arguments in where its form does
pub made_puts : (old new : List Term) (args : List TermId) (f : Formula) (sf n m : Claim TermId) → shape f ≡ sf → n ≡ m → Puts old new args sf m → (r : Result Formula TermError) → IfOk r (λ g. shape g ≡ n) → IfOk r (λ g. IsInstance old new args f g)
made_puts old new args f sf n m e d p (Ok g) h = subst (Puts old new args (shape f)) (sym (h ∙ d)) (subst (λ (c : Claim TermId). Puts old new args c m) (sym e) p)
made_puts old new args f sf n m e d p (Err x) h = tt
