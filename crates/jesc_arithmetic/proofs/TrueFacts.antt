-- The facts of each operation of a term, and those of formulas, are true in every structure.
use Rattle.std.proofs.Common.{◌≡◌, ◌≢◌, ℕ, zero, suc, Bool, true, false, not, ◌||◌, pos, List, ◌++◌, IsTrue, true≢false, refl, sym, ap, ◌∙◌, subst, Some, None, if◌then◌else◌}
use Rattle.std.specs.List.{flat_map, filter_map}
use Rattle.std.specs.Prelude.{⊤}
use Rattle.std.specs.Ordering.{int_eq}
use Rattle.std.proofs.lemmas.Bool.Decides.{Decides-int_eq}
use Rattle.std.proofs.lemmas.List.Elements.{All-cons, All-append}
use Rattle.jesc_logic.specs.Terms.{Term, number, constant, unary, binary, ternary}
use Rattle.jesc_logic.specs.Claims.{Claim}
use Rattle.jesc_logic.specs.Structures.{Structure, value, is_true}
use Rattle.jesc_arithmetic.specs.Operations.{Operation, product, quotient, remainder, division, is_number, is_divisor, operation_of_two, operation_of, same_operation}
use Rattle.jesc_arithmetic.specs.Occurrences.{terms_in, operations_in}
use Rattle.jesc_arithmetic.proofs.Listing.{All-flat_map, All-filter_map}
use Rattle.jesc_arithmetic.proofs.Gathering.{All-firsts}
use Rattle.jesc_arithmetic.specs.Arithmetic.{facts_of, arithmetic_facts, quotient_facts, remainder_facts, quotient_of, remainder_of, division_fact}
use Rattle.jesc_arithmetic.proofs.Truths.{AreTrue, products_true, quotients_true, remainders_true, division_true}

-- whether a list is kept by cases
some_is : {X : Type 0} (x y : X) → Some x ≡ Some y → x ≡ y
some_is x y e = cc

module _ (s : Structure) where
  divisor : (y : Term) → is_divisor y ≡ true → value s y ≢ pos 0
  divisor (number n) h e = let z : int_eq n (pos 0) ≡ true = (Decides-int_eq n (pos 0)).1 e in true≢false (sym h ∙ ap not z)
  divisor (constant symbol) h e = cc
  divisor (unary symbol a) h e = cc
  divisor (binary symbol a b) h e = cc
  divisor (ternary symbol a b c) h e = cc

  abbrev pub TrueOf : Operation → Type 0
  TrueOf o = AreTrue s (facts_of o)

  divisions_true : (x y : Term) → is_divisor y ≡ true → TrueOf (division x y)
  divisions_true x y h =
      All-cons (λ f. IsTrue (is_true s f)) (division_fact x y) (quotient_facts x y (quotient_of x y) ++ remainder_facts x y (remainder_of x y)) (division_true s x y (divisor y h))
      (All-append (λ f. IsTrue (is_true s f)) (quotient_facts x y (quotient_of x y)) (remainder_facts x y (remainder_of x y)) (quotients_true s x y) (remainders_true s x y))

  chosen : (b : Bool) (o p q : Operation) → (b ≡ true → TrueOf p) → TrueOf q → Some (if b then p else q) ≡ Some o → TrueOf o
  chosen true o p q h k e = subst TrueOf (some_is p o e) (h refl)
  chosen false o p q h k e = subst TrueOf (some_is q o e) k

  product_is : (b : Bool) (x y : Term) (o : Operation) → (if b then None else Some (product x y)) ≡ Some o → TrueOf o
  product_is true x y o e = cc
  product_is false x y o e = subst TrueOf (some_is (product x y) o e) (products_true s x y)

  true_of_two : (symbol : ℕ) (x y : Term) (o : Operation) → operation_of_two symbol x y ≡ Some o → TrueOf o
  true_of_two zero x y o e = cc
  true_of_two (suc zero) x y o e = product_is (is_number x || is_number y) x y o e
  true_of_two (suc (suc zero)) x y o e = chosen (is_divisor y) o (division x y) (quotient x y) (divisions_true x y) (quotients_true s x y) e
  true_of_two (suc (suc (suc zero))) x y o e = chosen (is_divisor y) o (division x y) (remainder x y) (divisions_true x y) (remainders_true s x y) e
  true_of_two (suc (suc (suc (suc n)))) x y o e = cc

  -- the facts of a term's operation are true
  pub true_of : (t : Term) (o : Operation) → operation_of t ≡ Some o → AreTrue s (facts_of o)
  true_of (number n) o e = cc
  true_of (constant symbol) o e = cc
  true_of (unary symbol a) o e = cc
  true_of (binary symbol a b) o e = true_of_two symbol a b o e
  true_of (ternary symbol a b c) o e = cc

  -- the facts of formulas are true
  pub facts_true : (claims : List (Claim Term)) → AreTrue s (arithmetic_facts claims)
  facts_true claims =
      let ts = flat_map terms_in claims in
      let os = filter_map operation_of ts in
      All-flat_map TrueOf (λ f. IsTrue (is_true s f)) facts_of (λ o h. h) (operations_in claims)
      (All-firsts same_operation TrueOf os (All-filter_map (λ t. ⊤) TrueOf operation_of (λ t o h e. true_of t o e) ts (λ k d l. tt)))
