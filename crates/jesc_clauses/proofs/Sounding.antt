-- From numbers of opaque terms to values of all terms.
use Rattle.std.proofs.Common.{◌≡◌, Bool, true, false, ℕ, zero, suc, ◌<◌, ◌≤◌, ℤ, pos, List, [], ◌∷◌, length, map, Some, Option, slice_get, unwrap_or, if◌then◌else◌, refl, sym, ap, ◌∙◌, subst, arith, ◌⊎◌, inl, inr}
use Rattle.std.proofs.Math.IntN.{◌+ℤ◌}
use Rattle.std.proofs.lemmas.List.Elements.{All-head, All-tail}
use Rattle.std.specs.Prelude.{All}
use Rattle.jesc_logic.specs.Terms.{Term, number, constant, unary, binary, ternary, term_at}
use Rattle.jesc_logic.proofs.Lists.{within}
use Rattle.jesc_clauses.specs.declared.lin.Lin.{Lin}
use Rattle.jesc_clauses.specs.declared.clause.Opaque.{Opaque}
use Rattle.jesc_clauses.specs.Countermodels.{lin_value, AreAlike}
use Rattle.jesc_clauses.specs.Clausified.{Agree}
use Rattle.jesc_clauses.specs.Readings.{Values, reading, sum_or_product, is_opaque, is_opaque_of_two, arguments, HaveSymbol, IsCongruent}
use Rattle.jesc_clauses.specs.Sums.{AreReadAs, AreOpaques, IsBelowAll, names_of, valued}
use Rattle.jesc_clauses.proofs.Terms.{nat_or_not, same_or_not}
use Rattle.jesc_clauses.proofs.Reading.{same_value}
use Rattle.jesc_clauses.proofs.Stepping.{named_at, of_name}

-- ---- applications by the numbers of their arguments

ints_or_not : (xs ys : List ℤ) → (xs ≡ ys) ⊎ (xs ≡ ys → ⊥)
ints_or_not [] [] = inl refl
ints_or_not (x ∷ xs) (y ∷ ys) = elim (same_or_not (number x) (number y)) [
  | inr n ↦ inr (λ e. n (cc))
  | inl p ↦ elim (ints_or_not xs ys) [ inr n ↦ inr (λ e. n (cc)) | inl q ↦ inl (cc) ]
]
ints_or_not xs ys = inr (λ e. cc)

-- the term has the symbol, and its arguments these numbers
abbrev Fits : (ℕ → ℤ) → ℕ → List ℤ → Opaque → Type 0
Fits v s xs o = (o.symbol ≡ s) × (map (lin_value v) o.args ≡ xs)

abbrev Found : (ℕ → ℤ) → ℕ → List ℤ → List Opaque → Type 0
Found v s xs opaques = (j : ℕ) × (o : Opaque) × ((slice_get opaques j ≡ Some o) × Fits v s xs o)

fits_or_not : (v : ℕ → ℤ) (s : ℕ) (xs : List ℤ) (o : Opaque) → Fits v s xs o ⊎ (Fits v s xs o → ⊥)
fits_or_not v s xs o = elim (nat_or_not o.symbol s) [
  | inr n ↦ inr (λ f. n f.0)
  | inl p ↦ elim (ints_or_not (map (lin_value v) o.args) xs) [ inr n ↦ inr (λ f. n f.1) | inl q ↦ inl (p, q) ]
]

found_later : (v : ℕ → ℤ) (s : ℕ) (xs : List ℤ) (o : Opaque) (os : List Opaque) → (Fits v s xs o → ⊥) → Found v s xs os ⊎ (Found v s xs os → ⊥) → Found v s xs (o ∷ os) ⊎ (Found v s xs (o ∷ os) → ⊥)
found_later v s xs o os n (inl (j, p, f)) = inl (suc j, p, f)
found_later v s xs o os n (inr m) = inr (none_of n m)
  where
    none_of : (Fits v s xs o → ⊥) → (Found v s xs os → ⊥) → Found v s xs (o ∷ os) → ⊥
    none_of n m (zero, p, (e, f)) = let q : o ≡ p = cc in n (subst (Fits v s xs) (sym q) f)
    none_of n m (suc j, p, f) = m (j, p, f)

found_or_not : (v : ℕ → ℤ) (s : ℕ) (xs : List ℤ) (opaques : List Opaque) → Found v s xs opaques ⊎ (Found v s xs opaques → ⊥)
found_or_not v s xs [] = inr (λ f. cc (f.2.0))
found_or_not v s xs (o ∷ os) = elim (fits_or_not v s xs o) [
  | inl f ↦ inl (zero, o, (refl, f))
  | inr n ↦ found_later v s xs o os n (found_or_not v s xs os)
]

-- the number of a term that fits
number_of : (v : ℕ → ℤ) (s : ℕ) (xs : List ℤ) (opaques : List Opaque) → Found v s xs opaques ⊎ (Found v s xs opaques → ⊥) → ℤ
number_of v s xs opaques (inl f) = v f.0
number_of v s xs opaques (inr n) = pos 0

picked : (ℕ → ℤ) → List Opaque → ℕ → List ℤ → ℤ
picked v opaques s xs = number_of v s xs opaques (found_or_not v s xs opaques)

abbrev AreCongruent : (ℕ → ℤ) → List Opaque → Type 0
AreCongruent v opaques = (i j : ℕ) (a b : Opaque) → slice_get opaques i ≡ Some a → slice_get opaques j ≡ Some b → AreAlike v a b → v i ≡ v j

picked_is : (v : ℕ → ℤ) (opaques : List Opaque) → AreCongruent v opaques → (i : ℕ) (o : Opaque) → slice_get opaques i ≡ Some o → picked v opaques o.symbol (map (lin_value v) o.args) ≡ v i
unfolding picked number_of
picked_is v opaques h i o e = by (found_or_not v o.symbol (map (lin_value v) o.args) opaques)
  where
    by : (f : Found v o.symbol (map (lin_value v) o.args) opaques ⊎ (Found v o.symbol (map (lin_value v) o.args) opaques → ⊥)) → number_of v o.symbol (map (lin_value v) o.args) opaques f ≡ v i
    by (inl f) = h f.0 i f.1 o f.2.0 e f.2.1
    by (inr n) = absurd (n (i, o, (e, (refl, refl))))

-- ---- values of terms from a function of applications

twice : (o : Bool) (x y z : ℤ) → z ≡ y → (if o then (if o then x else y) else z) ≡ (if o then x else y)
twice true x y z e = refl
twice false x y z e = e

module _ (F : ℕ → List ℤ → ℤ) where
  abbrev worth : Term → ℤ
  worth (number n) = n
  worth (constant s) = F s []
  worth (unary s a) = F s (worth a ∷ [])
  worth (binary s a b) = if is_opaque_of_two s a b then F s (worth a ∷ worth b ∷ []) else sum_or_product s (worth a) (worth b)
  worth (ternary s a b c) = F s (worth a ∷ worth b ∷ worth c ∷ [])

  reading_is : (t : Term) → reading worth t ≡ worth t
  reading_is (number n) = refl
  reading_is (constant s) = refl
  reading_is (unary s a) = refl
  reading_is (binary s a b) =
      twice (is_opaque_of_two s a b) (F s (worth a ∷ worth b ∷ [])) (sum_or_product s (worth a) (worth b)) (sum_or_product s (reading worth a) (reading worth b))
      (λ i. sum_or_product s (reading_is a i) (reading_is b i))
  reading_is (ternary s a b c) = refl

  worth_is : (t : Term) (s : ℕ) → is_opaque t ≡ true → HaveSymbol t s → worth t ≡ F s (map worth (arguments t))
  worth_is (number n) s o h = absurd h
  worth_is (constant r) s o h = ap (λ x. F x []) h
  worth_is (unary r a) s o h = ap (λ x. F x (worth a ∷ [])) h
  worth_is (binary r a b) s o h =
      ap (λ (x : Bool). if x then F r (worth a ∷ worth b ∷ []) else sum_or_product r (worth a) (worth b)) o ∙ ap (λ x. F x (worth a ∷ worth b ∷ [])) h
  worth_is (ternary r a b c) s o h = ap (λ x. F x (worth a ∷ worth b ∷ worth c ∷ [])) h

  readings : (ts : List Term) → map (reading worth) ts ≡ map worth ts
  readings [] = refl
  readings (t ∷ ts) = λ i. reading_is t i ∷ readings ts i

  congruent : IsCongruent worth
  congruent s t u p q x y e =
      worth_is t s p x ∙ (ap (F s) (sym (readings (arguments t)) ∙ (e ∙ readings (arguments u))) ∙ sym (worth_is u s q y))

-- ---- values that agree with the numbers

is_there : (opaques : List Opaque) (i : ℕ) → i < length opaques → (o : Opaque) × (slice_get opaques i ≡ Some o)
is_there [] i p = absurd (omega arith)
is_there (o ∷ os) zero p = (o, refl)
is_there (o ∷ os) (suc i) p = is_there os i (omega arith)

module _ (table : List Term) (opaques : List Opaque) (are : AreOpaques table opaques) (v : ℕ → ℤ) (h : AreCongruent v opaques) where
  abbrev w : Values
  w = worth (picked v opaques)

  AgreeBelow : ℕ → Type 0
  AgreeBelow n = (j : ℕ) → j < n → v j ≡ valued w (names_of table opaques) j

  -- sums over smaller numbers are worth what their terms are
  sums_agree : (n : ℕ) → AgreeBelow n → (ts : List Term) (lins : List Lin) → AreReadAs (names_of table opaques) ts lins → All (λ lin. IsBelowAll lin n) lins → map (lin_value v) lins ≡ map w ts
  unfolding AgreeBelow
  sums_agree n a [] [] r b = refl
  sums_agree n a [] (lin ∷ lins) r b = absurd r
  sums_agree n a (t ∷ ts) [] r b = absurd r
  sums_agree n a (t ∷ ts) (lin ∷ lins) r b =
      let same = same_value n v (valued w (names_of table opaques)) lin.form (All-head (λ (x : Lin). IsBelowAll x n) lin lins b) a in
      let one : lin_value v lin ≡ w t = ap (λ x. x +ℤ lin.constant) same ∙ (r.0.worth w ∙ reading_is (picked v opaques) t) in
      λ i. one i ∷ sums_agree n a ts lins r.1 (All-tail (λ (x : Lin). IsBelowAll x n) lin lins b) i

  one_agrees : (n : ℕ) → AgreeBelow n → (o : Opaque) → slice_get opaques n ≡ Some o → v n ≡ w (term_at table o.id)
  one_agrees n a o e =
      let k = are.named n o e in
      sym (picked_is v opaques h n o e)
      ∙ (ap (picked v opaques o.symbol) (sums_agree n a (arguments (term_at table o.id)) o.args k.args k.smaller)
      ∙ sym (worth_is (picked v opaques) (term_at table o.id) o.symbol k.opaque k.symbol))

  by_number : (n : ℕ) → (o : Opaque) → slice_get opaques n ≡ Some o → v n ≡ w (term_at table o.id) → v n ≡ valued w (names_of table opaques) n
  by_number n o e a = a ∙ sym (ap (λ (p : Option Term). w (unwrap_or p (number (pos 0)))) (named_at table opaques n o e))

  all_below : (n : ℕ) → n ≤ length opaques → AgreeBelow n
  unfolding AgreeBelow
  all_below zero p j q = absurd (omega arith)
  all_below (suc n) p j q =
      let before : AgreeBelow n = all_below n (omega arith) in
      elim (nat_or_not j n) [
        | inr d ↦ before j (omega (arith, d))
        | inl s ↦ subst (λ (k : ℕ). v k ≡ valued w (names_of table opaques) k) (sym s) (
            let o = is_there opaques n (omega arith) in by_number n o.0 o.1 (one_agrees n before o.0 o.1))
      ]

  agree : Agree (names_of table opaques) v w
  agree i t e =
      let o = of_name table opaques i t e in
      one_agrees i (all_below i (let p = within opaques i o.0 o.1.0 in omega (arith, p))) o.0 o.1.0 ∙ ap w o.1.1

pub values_of : (table : List Term) (opaques : List Opaque) → AreOpaques table opaques → (v : ℕ → ℤ) → ((i j : ℕ) (a b : Opaque) → slice_get opaques i ≡ Some a → slice_get opaques j ≡ Some b → AreAlike v a b → v i ≡ v j) → (w : Values) × (IsCongruent w × Agree (names_of table opaques) v w)
values_of table opaques are v h = (worth (picked v opaques), (congruent (picked v opaques), agree table opaques are v h))
