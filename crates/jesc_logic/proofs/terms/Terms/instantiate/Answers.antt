use Rattle.std.proofs.Common.{◌≡◌, Result, Ok, Err, IfOk, List, ap, ◌∙◌}
use Rattle.jesc_logic.specs.declared.terms.TermId.{TermId}
use Rattle.jesc_logic.specs.declared.terms.TermError.{TermError}
use Rattle.jesc_logic.specs.declared.formula.Formula.{Formula}
use Rattle.jesc_logic.specs.Terms.{Term, term_at}
use Rattle.jesc_logic.specs.Claims.{claim_of, shape, over}
use Rattle.jesc_logic.specs.Structures.{Structure, is_true, assigned}
use Rattle.jesc_logic.specs.Substitution.{IsInstance, terms_at}
use Rattle.jesc_logic.specs.laws.Substituting.{true_put}
use Rattle.jesc_logic.proofs.terms.Terms.instantiate.Goals as goal

true_instance : (old new : List Term) (args : List TermId) (f : Formula) (r : Result Formula TermError) (s : Structure) → IfOk r (λ g. IsInstance old new args f g) → IfOk r (λ g. is_true s (claim_of new g) ≡ is_true (assigned s (terms_at old args)) (claim_of old f))
true_instance old new args f (Ok g) s h = ap (is_true s) h.says ∙ true_put s (terms_at old args) (over (term_at old) (shape f))
true_instance old new args f (Err e) s h = tt

pub returns-clause-truth : goal.returns-clause-truth
returns-clause-truth c = λ s. true_instance c.args.self.now c.formula_with.new.self c.args.args.now c.args.fact.now.body c.formula_with.result s c.formula_with.ensures.instance
