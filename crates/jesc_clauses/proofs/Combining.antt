-- Sums and products of terms that have been read.
use Rattle.std.proofs.Common.{◌≡◌, ◌||◌, Bool, true, false, ℕ, ◌≤◌, ◌^◌, ℤ, pos, List, [], ◌∷◌, length, if◌then◌else◌, not, refl, sym, ap, ◌∙◌, subst, arith, inl, inr}
use Rattle.std.proofs.lemmas.Int.{ints}
use Rattle.std.proofs.Math.IntN.{◌+ℤ◌, ◌*ℤ◌, *ℤ_comm, *ℤ-zero}
use Rattle.std.proofs.lemmas.List.Elements.{All-nil, All-cons}
use Rattle.std.specs.Prelude.{unsigned_abs, All}
use Rattle.jesc_linear.specs.Forms.{value, IsNonzero}
use Rattle.jesc_linear.proofs.Whole.{sum_under_times}
use Rattle.jesc_logic.specs.declared.terms.TermId.{TermId}
use Rattle.jesc_logic.specs.Terms.{Term, number, binary, term_at}
use Rattle.jesc_clauses.specs.declared.lin.Lin.{Lin}
use Rattle.jesc_clauses.specs.declared.clause.Opaque.{Opaque}
use Rattle.jesc_clauses.specs.Countermodels.{lin_value}
use Rattle.jesc_clauses.specs.Merges.{IsSized, IsWithin, only_at}
use Rattle.jesc_clauses.specs.Readings.{Values, reading, is_number, is_opaque, arguments}
use Rattle.jesc_clauses.specs.Sums.{IsNarrowAll, IsWideIn, IsTooWide, IsCoefficient, IsReadAs, constant_of, names_of, valued}
use Rattle.jesc_clauses.specs.Readers.{Entries, IsSumAt, HasSum, IsReader, IsKnownAll, AreLins, IsSumOf, IsWideSumOf, IsProductOf, IsMultipleOf, IsWideMultipleOf}
use Rattle.jesc_clauses.proofs.Merging.{IsUnder}
use Rattle.jesc_clauses.proofs.Terms.{stands_itself}
use Rattle.jesc_clauses.proofs.Reading.{same_value, value_none, wide_of}
use Rattle.jesc_clauses.proofs.Stepping.{distinct, all_opaque}

pub lins : (table : List Term) (entries : Entries) (opaques : List Opaque) → IsReader table entries opaques → AreLins entries
lins table entries opaques h k e s = (h.read k e s).read.bounded

pub narrow_of : (table : List Term) (entries : Entries) (opaques : List Opaque) → IsReader table entries opaques → (id : TermId) → HasSum entries id.0 → IsNarrowAll (term_at table id)
narrow_of table entries opaques h id has = (h.read has.1.0 (id.0, has.0) has.1.1).known.narrow

pub known_of : (table : List Term) (entries : Entries) (opaques : List Opaque) → IsReader table entries opaques → (id : TermId) → HasSum entries id.0 → IsKnownAll (names_of table opaques) (term_at table id)
known_of table entries opaques h id has = (h.read has.1.0 (id.0, has.0) has.1.1).known

pub read_at : (table : List Term) (entries : Entries) (opaques : List Opaque) → IsReader table entries opaques → (id : TermId) (lin : Lin) → IsSumAt entries id.0 lin → IsReadAs (names_of table opaques) (term_at table id) lin
read_at table entries opaques h id lin s = (h.read s.0 (id.0, lin) s.1).read

-- ---- numbers

none_sized : (limit : ℕ) → IsSized limit []
none_sized limit = record { sorted = record { rises = tt; nonzero = All-nil IsNonzero }; within = All-nil (IsWithin limit) }

pub number_read : (names : List Term) (t : Term) (n : ℤ) → t ≡ number n → unsigned_abs n ≤ 2 ^ 94 → IsReadAs names t (record { form = []; constant = n })
number_read names t n e s = record {
  bounded = record { sized = none_sized (2 ^ 31); constant = s };
  there = All-nil (IsUnder (length names));
  worth = λ w. plus_none n ∙ ap (reading w) (sym e);
}
  where
    plus_none : (x : ℤ) → pos 0 +ℤ x ≡ x
    plus_none x = omega (arith, ints)

pub number_wide : (t : Term) (k n : ℤ) (is : t ≡ number k) → IsTooWide (IsCoefficient t) k n → IsWideIn t n
number_wide t k n is h = record { term = t; stands = stands_itself t; wide = subst (λ (c : ℤ). IsTooWide (IsCoefficient t) c n) (ap constant_of (sym is)) h }

pub number_is_plain : (t : Term) (n : ℤ) → t ≡ number n → is_opaque t ≡ false
number_is_plain t n e = ap is_opaque e

pub no_arguments : (names : List Term) (t : Term) (n : ℤ) → t ≡ number n → All (IsKnownAll names) (arguments t)
no_arguments names t n e = subst (λ (u : Term). All (IsKnownAll names) (arguments u)) (sym e) (All-nil (IsKnownAll names))

-- ---- sums

module _ (table : List Term) (entries : Entries) (opaques : List Opaque) (h : IsReader table entries opaques) where
  abbrev names : List Term
  names = names_of table opaques

  module _ (a b id : TermId) (is : term_at table id ≡ binary 0 (term_at table a) (term_at table b)) where
    pub sum_arguments : HasSum entries a.0 → HasSum entries b.0 → All (IsKnownAll names) (arguments (term_at table id))
    sum_arguments p q = subst (λ (t : Term). All (IsKnownAll names) (arguments t)) (sym is)
        (All-cons (IsKnownAll names) (term_at table a) (term_at table b ∷ []) (known_of table entries opaques h a p) (All-cons (IsKnownAll names) (term_at table b) [] (known_of table entries opaques h b q) (All-nil (IsKnownAll names))))

    pub sum_is_plain : is_opaque (term_at table id) ≡ false
    sum_is_plain = ap is_opaque is

    pub sum_read : (lin : Lin) → IsSumOf entries a.0 b.0 lin → IsReadAs names (term_at table id) lin
    sum_read lin s =
        let p = read_at table entries opaques h a s.x s.at_a in
        let q = read_at table entries opaques h b s.y s.at_b in
        record {
          bounded = s.made.bounded;
          there = s.made.there (length names) (p.there, q.there);
          worth = λ w. s.made.is (valued w names) ∙ ((λ i. p.worth w i +ℤ q.worth w i) ∙ ap (reading w) (sym is));
        }

    pub sum_wide : (n : ℤ) → IsWideSumOf entries a.0 b.0 n → IsWideIn (term_at table id) n
    sum_wide n s =
        let p = read_at table entries opaques h a s.x s.at_a in
        let q = read_at table entries opaques h b s.y s.at_b in
        record {
          term = term_at table id;
          stands = stands_itself (term_at table id);
          wide = wide_of names (distinct table entries opaques h) (all_opaque table entries opaques h) (term_at table id) (λ v. lin_value v s.x +ℤ lin_value v s.y)
              (λ u v same i. (same_value (length names) u v s.x.form p.there same i +ℤ s.x.constant) +ℤ (same_value (length names) u v s.y.form q.there same i +ℤ s.y.constant))
              (λ w. (λ i. p.worth w i +ℤ q.worth w i) ∙ ap (reading w) (sym is))
              (λ i. value (only_at i) s.x.form +ℤ value (only_at i) s.y.form) (s.x.constant +ℤ s.y.constant)
              (λ i. omega (arith, ints, value_none s.x.form, value_none s.y.form)) (omega (arith, ints, value_none s.x.form, value_none s.y.form)) n s.wide;
        }

  -- ---- products

  or_true : (b : Bool) → b || true ≡ true
  or_true true = refl
  or_true false = refl

  product_reading : (w : Values) (k : ℤ) (f a t : Term) → f ≡ number k → IsProductOf f a t → reading w t ≡ k *ℤ reading w a
  product_reading w k f a t e (inl p) = ap (reading w) (p ∙ ap (λ (x : Term). binary 1 x a) e)
  product_reading w k f a t e (inr p) =
      ap (reading w) (p ∙ ap (λ (x : Term). binary 1 a x) e)
      ∙ (ap (λ o. if not o then w (binary 1 a (number k)) else reading w a *ℤ k) (or_true (is_number a)) ∙ *ℤ_comm (reading w a) k)

  product_both : (f a t : Term) → IsProductOf f a t → IsKnownAll names f → IsKnownAll names a → All (IsKnownAll names) (arguments t)
  product_both f a t (inl p) x y = subst (λ (u : Term). All (IsKnownAll names) (arguments u)) (sym p) (All-cons (IsKnownAll names) f (a ∷ []) x (All-cons (IsKnownAll names) a [] y (All-nil (IsKnownAll names))))
  product_both f a t (inr p) x y = subst (λ (u : Term). All (IsKnownAll names) (arguments u)) (sym p) (All-cons (IsKnownAll names) a (f ∷ []) y (All-cons (IsKnownAll names) f [] x (All-nil (IsKnownAll names))))

  product_plain : (k : ℤ) (f a t : Term) → f ≡ number k → IsProductOf f a t → is_opaque t ≡ false
  product_plain k f a t e (inl p) = ap is_opaque (p ∙ ap (λ (x : Term). binary 1 x a) e)
  product_plain k f a t e (inr p) = ap is_opaque (p ∙ ap (λ (x : Term). binary 1 a x) e) ∙ ap not (or_true (is_number a))

  module _ (factor a id : TermId) (k : ℤ) (is_k : term_at table factor ≡ number k) (is : IsProductOf (term_at table factor) (term_at table a) (term_at table id)) where
    pub factor_small : HasSum entries factor.0 → unsigned_abs k ≤ 2 ^ 94
    factor_small p = subst (λ (t : Term). unsigned_abs (constant_of t) ≤ 2 ^ 94) is_k (narrow_of table entries opaques h factor p (term_at table factor) (stands_itself (term_at table factor))).constant

    pub product_arguments : HasSum entries factor.0 → HasSum entries a.0 → All (IsKnownAll names) (arguments (term_at table id))
    product_arguments p q = product_both (term_at table factor) (term_at table a) (term_at table id) is (known_of table entries opaques h factor p) (known_of table entries opaques h a q)

    pub product_is_plain : is_opaque (term_at table id) ≡ false
    product_is_plain = product_plain k (term_at table factor) (term_at table a) (term_at table id) is_k is

    pub product_read : (lin : Lin) → IsMultipleOf entries k a.0 lin → IsReadAs names (term_at table id) lin
    product_read lin s =
        let p = read_at table entries opaques h a s.x s.at_a in
        record {
          bounded = s.made.bounded;
          there = s.made.there (length names) p.there;
          worth = λ w. s.made.is (valued w names) ∙ (ap (λ x. k *ℤ x) (p.worth w) ∙ sym (product_reading w k (term_at table factor) (term_at table a) (term_at table id) is_k is));
        }

    pub product_wide : (n : ℤ) → IsWideMultipleOf entries k a.0 n → IsWideIn (term_at table id) n
    product_wide n s =
        let p = read_at table entries opaques h a s.x s.at_a in
        record {
          term = term_at table id;
          stands = stands_itself (term_at table id);
          wide = wide_of names (distinct table entries opaques h) (all_opaque table entries opaques h) (term_at table id) (λ v. k *ℤ lin_value v s.x)
              (λ u v same i. k *ℤ (same_value (length names) u v s.x.form p.there same i +ℤ s.x.constant))
              (λ w. ap (λ x. k *ℤ x) (p.worth w) ∙ sym (product_reading w k (term_at table factor) (term_at table a) (term_at table id) is_k is))
              (λ i. k *ℤ value (only_at i) s.x.form) (k *ℤ s.x.constant)
              (λ i. omega (arith, ints, sum_under_times k (value (only_at i) s.x.form) s.x.constant, sum_under_times k (value (λ j. pos 0) s.x.form) s.x.constant, ap (λ x. k *ℤ x) (value_none s.x.form), *ℤ-zero k))
              (omega (arith, ints, sum_under_times k (value (λ j. pos 0) s.x.form) s.x.constant, ap (λ x. k *ℤ x) (value_none s.x.form), *ℤ-zero k)) n s.wide;
        }
