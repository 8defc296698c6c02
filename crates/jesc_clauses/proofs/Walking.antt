-- Formulas whose terms are read, form by form.
use Rattle.std.proofs.Common.{ℤ, List, [], ◌∷◌, ◌++◌, ◌⊎◌, inl, inr}
use Rattle.std.proofs.lemmas.List.Elements.{All-weaker, All-push}
use Rattle.jesc_logic.specs.declared.terms.TermId.{TermId}
use Rattle.jesc_logic.specs.Terms.{Term}
use Rattle.jesc_logic.specs.Claims.{Claim, truth, falsity, at_most, equal, negation, both, either}
use Rattle.jesc_clauses.specs.declared.clause.Opaque.{Opaque}
use Rattle.jesc_clauses.specs.Sums.{IsWideIn}
use Rattle.jesc_clauses.specs.Readers.{Entries, IsReader, IsGrown, HasRead}
use Rattle.jesc_clauses.specs.declared.reader.Reader.{Reader}
use Rattle.jesc_clauses.specs.Formulas.{HasSums, HasReadIn, AreReadIn, IsWideInClaim}
use Rattle.jesc_clauses.proofs.Stepping.{grown_all, grown_on, has_later}

pub sums_later : (a b : Entries) (p q : List Opaque) → IsGrown a b p q → (f : Claim TermId) → HasSums a f → HasSums b f
sums_later a b p q g truth h = tt
sums_later a b p q g falsity h = tt
sums_later a b p q g (at_most x y) h = (has_later a b p q g x.0 h.0, has_later a b p q g y.0 h.1)
sums_later a b p q g (equal x y) h = (has_later a b p q g x.0 h.0, has_later a b p q g y.0 h.1)
sums_later a b p q g (negation f) h = sums_later a b p q g f h
sums_later a b p q g (both f k) h = (sums_later a b p q g f h.0, sums_later a b p q g k h.1)
sums_later a b p q g (either f k) h = (sums_later a b p q g f h.0, sums_later a b p q g k h.1)

module _ (table : List Term) (a b c : Entries) (p q r : List Opaque) where
  pub both_read : (f g : Claim TermId) → HasReadIn table a b p q f → HasReadIn table b c q r g → HasReadIn table a c p r (both f g)
  both_read f g h k = record { reader = k.reader; grown = grown_on a b c p q r h.grown k.grown; have = (sums_later b c q r k.grown f h.have, k.have) }

  pub either_read : (f g : Claim TermId) → HasReadIn table a b p q f → HasReadIn table b c q r g → HasReadIn table a c p r (either f g)
  either_read f g h k = record { reader = k.reader; grown = grown_on a b c p q r h.grown k.grown; have = (sums_later b c q r k.grown f h.have, k.have) }

  pub two_read : (x y : TermId) → HasRead table a b p q x.0 → HasRead table b c q r y.0 → HasReadIn table a c p r (at_most x y)
  two_read x y h k = record { reader = k.reader; grown = grown_on a b c p q r h.grown k.grown; have = (has_later b c q r k.grown x.0 h.has, k.has) }

pub none_there : (table : List Term) (a : Entries) (p : List Opaque) → IsReader table a p → (f : Claim TermId) → HasSums a f → HasReadIn table a a p p f
none_there table a p h f s = record { reader = h; grown = grown_all a p; have = s }

pub as_equal : (table : List Term) (a b : Entries) (p q : List Opaque) (x y : TermId) → HasReadIn table a b p q (at_most x y) → HasReadIn table a b p q (equal x y)
as_equal table a b p q x y h = record { reader = h.reader; grown = h.grown; have = h.have }

pub as_negation : (table : List Term) (a b : Entries) (p q : List Opaque) (f : Claim TermId) → HasReadIn table a b p q f → HasReadIn table a b p q (negation f)
as_negation table a b p q f h = record { reader = h.reader; grown = h.grown; have = h.have }

-- one more formula of a list
pub one_more_read_in : (table : List Term) (fs : List (Claim TermId)) (f : Claim TermId) (r s : Reader) → AreReadIn table fs r → HasReadIn table r.sums s.sums r.opaques s.opaques f → AreReadIn table (fs ++ f ∷ []) s
one_more_read_in table fs f r s h k = record {
  reader = k.reader;
  have = All-push (HasSums s.sums) fs f (All-weaker (HasSums r.sums) (HasSums s.sums) (sums_later r.sums s.sums r.opaques s.opaques k.grown) fs h.have) k.have;
}

-- ---- numbers that are too large

pub wide_at_most : (s t : Term) (n : ℤ) → IsWideIn s n ⊎ IsWideIn t n → IsWideInClaim (at_most s t) n
wide_at_most s t n (inl h) = record { term = h.term; stands = inl h.stands; wide = h.wide }
wide_at_most s t n (inr h) = record { term = h.term; stands = inr h.stands; wide = h.wide }

pub wide_equal : (s t : Term) (n : ℤ) → IsWideIn s n ⊎ IsWideIn t n → IsWideInClaim (equal s t) n
wide_equal s t n (inl h) = record { term = h.term; stands = inl h.stands; wide = h.wide }
wide_equal s t n (inr h) = record { term = h.term; stands = inr h.stands; wide = h.wide }

pub wide_negation : (f : Claim Term) (n : ℤ) → IsWideInClaim f n → IsWideInClaim (negation f) n
wide_negation f n h = record { term = h.term; stands = h.stands; wide = h.wide }

pub wide_first : (f g : Claim Term) (n : ℤ) → IsWideInClaim f n → IsWideInClaim (both f g) n
wide_first f g n h = record { term = h.term; stands = inl h.stands; wide = h.wide }

pub wide_second : (f g : Claim Term) (n : ℤ) → IsWideInClaim g n → IsWideInClaim (both f g) n
wide_second f g n h = record { term = h.term; stands = inr h.stands; wide = h.wide }

pub wide_left : (f g : Claim Term) (n : ℤ) → IsWideInClaim f n → IsWideInClaim (either f g) n
wide_left f g n h = record { term = h.term; stands = inl h.stands; wide = h.wide }

pub wide_right : (f g : Claim Term) (n : ℤ) → IsWideInClaim g n → IsWideInClaim (either f g) n
wide_right f g n h = record { term = h.term; stands = inr h.stands; wide = h.wide }
