-- What stands of a number's term as terms are added.
use Rattle.std.specs.Prelude.{◌≡◌, pos, List, Some, unwrap_or, All, refl}
use Rattle.std.proofs.Common.{◌∙◌, sym, ap, arith}
use Rattle.std.proofs.lemmas.Option.{slice_get-get_or, unwrap_or-slice_get}
use Rattle.std.proofs.lemmas.List.Elements.{All-weaker}
use Rattle.jesc_logic.specs.declared.terms.TermId.{TermId}
use Rattle.jesc_logic.specs.Terms.{Term, number, term_at, IsIn, StandsFor, Keeps}
use Rattle.jesc_logic.specs.Claims.{Claim, truth, falsity, at_most, equal, negation, both, either, over, Each}

pub keeps_all : (terms : List Term) → Keeps terms terms
keeps_all terms = record { longer = omega arith; keeps = λ id t e. e }

pub keeps_on : {old mid new : List Term} → Keeps old mid → Keeps mid new → Keeps old new
keeps_on h k = record { longer = omega (arith, h.longer, k.longer); keeps = λ id t e. k.keeps id t (h.keeps id t e) }

pub is_in : (old new : List Term) → Keeps old new → (id : TermId) → IsIn old id → IsIn new id
is_in old new h id p = omega (arith, h.longer)

pub are_in : (old new : List Term) → Keeps old new → (ids : List TermId) → All (IsIn old) ids → All (IsIn new) ids
are_in old new h ids all = All-weaker (IsIn old) (IsIn new) (λ id p. is_in old new h id p) ids all

-- a number that is there stands for its term
pub stands : (terms : List Term) (id : TermId) → IsIn terms id → StandsFor terms id (term_at terms id)
stands terms id p = slice_get-get_or terms id.0 (number (pos 0)) p ∙ ap Some (sym (unwrap_or-slice_get terms id.0 (number (pos 0))))

pub term_of_standing : (terms : List Term) (id : TermId) (t : Term) → StandsFor terms id t → term_at terms id ≡ t
term_of_standing terms id t e = ap (λ o. unwrap_or o (number (pos 0))) e

pub same_term_at : (old new : List Term) → Keeps old new → (id : TermId) → IsIn old id → term_at new id ≡ term_at old id
same_term_at old new h id p = term_of_standing new id (term_at old id) (h.keeps id.0 (term_at old id) (stands old id p))

-- each number of a form is there in a later table
pub each_in : (old new : List Term) → Keeps old new → (f : Claim TermId) → Each (IsIn old) f → Each (IsIn new) f
each_in old new k truth h = tt
each_in old new k falsity h = tt
each_in old new k (at_most a b) h = (is_in old new k a h.0, is_in old new k b h.1)
each_in old new k (equal a b) h = (is_in old new k a h.0, is_in old new k b h.1)
each_in old new k (negation f) h = each_in old new k f h
each_in old new k (both f g) h = (each_in old new k f h.0, each_in old new k g h.1)
each_in old new k (either f g) h = (each_in old new k f h.0, each_in old new k g h.1)

-- and the form says the same
pub says_same : (old new : List Term) → Keeps old new → (f : Claim TermId) → Each (IsIn old) f → over (term_at new) f ≡ over (term_at old) f
says_same old new k truth h = refl
says_same old new k falsity h = refl
says_same old new k (at_most a b) h = λ i. at_most (same_term_at old new k a h.0 i) (same_term_at old new k b h.1 i)
says_same old new k (equal a b) h = λ i. equal (same_term_at old new k a h.0 i) (same_term_at old new k b h.1 i)
says_same old new k (negation f) h = λ i. negation (says_same old new k f h i)
says_same old new k (both f g) h = λ i. both (says_same old new k f h.0 i) (says_same old new k g h.1 i)
says_same old new k (either f g) h = λ i. either (says_same old new k f h.0 i) (says_same old new k g h.1 i)
