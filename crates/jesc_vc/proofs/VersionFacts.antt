-- What the facts of versions say, and that they can be met.
use Rattle.std.proofs.Common.{◌≡◌, ◌⊎◌, ℕ, ◌≤◌, Bool, true, false, ◌&&◌, ◌||◌, List, [], ◌∷◌, ◌++◌, length, refl, sym, ap, ◌∙◌, subst, inl, inr, arith, if◌then◌else◌}
use Rattle.std.specs.Prelude.{ℤ, pos}
use Rattle.std.specs.Ordering.{int_eq}
use Rattle.std.proofs.lemmas.Bool.Decides.{Decides-int_eq}
use Rattle.jesc_logic.specs.declared.fact.Sort.TheVariants.{Number, Reference}
use Rattle.jesc_logic.specs.Terms.{Term, number}
use Rattle.jesc_logic.specs.Claims.{Claim, equal, both, either}
use Rattle.jesc_logic.specs.Structures.{Structure, read, with_values, value, is_true}
use Rattle.jesc_core.specs.Heaps.{with_integer}
use Rattle.jesc_vc.specs.Facts.{FactTree, IsMet, AreMet, Agree, IsBelow}
use Rattle.jesc_vc.specs.Environments.{Source, read_one, read_two, IsSource}
use Rattle.jesc_vc.specs.Moves.{fact, first, second, facts_at_one, facts_at_two, facts_at_array}
use Rattle.jesc_vc.proofs.Readings.{agree_further, read_further}
use Rattle.jesc_vc.proofs.Below.{same_value}
use Rattle.jesc_vc.proofs.States.{two_is_read, source_is_old}
use Rattle.jesc_vc.proofs.Entries.{In, in_back, keys_of}
use Rattle.jesc_vc.proofs.Scopes.{at}
use Rattle.jesc_vc.proofs.Saying.{Extends}
use Rattle.jesc_vc.proofs.Versions.{places, read_zero, versioned}

pub equal_so : (a b : ℤ) → a ≡ b → int_eq a b ≡ true
equal_so a b e = let d = Decides-int_eq a b in d.1 e

pub so_equal : (a b : ℤ) → int_eq a b ≡ true → a ≡ b
so_equal a b e = let d = Decides-int_eq a b in d.0 e

-- ---- terms where variables have values

module _ (c : ℕ) (s : Structure) where
  -- a term without variables is worth the same
  pub one_same : (x : ℤ) (t : Term) → IsBelow c 0 t → value (at s (x ∷ [])) t ≡ value s t
  one_same x t b = sym (same_value c 0 s (at s (x ∷ [])) (agree_further c s [] (x ∷ []) (omega arith)) t b)

  pub two_same : (x y : ℤ) (t : Term) → IsBelow c 0 t → value (at s (x ∷ y ∷ [])) t ≡ value s t
  two_same x y t b = sym (same_value c 0 s (at s (x ∷ y ∷ [])) (agree_further c s [] (x ∷ y ∷ []) (omega arith)) t b)

  pub one_read : (xs : List ℤ) (source : Source) (t : Term) → 4 ≤ source.0 → value (at s xs) (read_one source t) ≡ read s source.0 (pos source.1 ∷ value (at s xs) t ∷ [])
  one_read xs source t p = two_is_read (at s xs) source.0 (pos source.1) (value (at s xs) t) p ∙ read_further s xs source.0 (pos source.1) (value (at s xs) t ∷ [])

  pub two_read : (xs : List ℤ) (source : Source) (t u : Term) → value (at s xs) (read_two source t u) ≡ read s source.0 (pos source.1 ∷ value (at s xs) t ∷ value (at s xs) u ∷ [])
  two_read xs source t u = read_further s xs source.0 (pos source.1) (value (at s xs) t ∷ value (at s xs) u ∷ [])

  pub first_of_one : (x : ℤ) → value (at s (x ∷ [])) first ≡ x
  first_of_one x = refl

  pub first_of_two : (x y : ℤ) → value (at s (x ∷ y ∷ [])) first ≡ x
  first_of_two x y = refl

  pub second_of_two : (x y : ℤ) → value (at s (x ∷ y ∷ [])) second ≡ y
  second_of_two x y = refl

-- ---- one fact

no_numbers : (xs : List ℤ) → length xs ≡ 0 → xs ≡ []
no_numbers [] e = refl
no_numbers (x ∷ xs) e = absurd (omega arith)

abbrev first_number : List ℤ → ℤ
first_number [] = pos 0
first_number (x ∷ xs) = x

abbrev second_number : List ℤ → ℤ
second_number [] = pos 0
second_number (x ∷ xs) = first_number xs

one_number : (xs : List ℤ) → length xs ≡ 1 → xs ≡ first_number xs ∷ []
one_number [] e = absurd (omega arith)
one_number (x ∷ []) e = refl
one_number (x ∷ y ∷ xs) e = absurd (omega arith)

two_numbers : (xs : List ℤ) → length xs ≡ 2 → xs ≡ first_number xs ∷ second_number xs ∷ []
two_numbers [] e = absurd (omega arith)
two_numbers (x ∷ []) e = absurd (omega arith)
two_numbers (x ∷ y ∷ []) e = refl
two_numbers (x ∷ y ∷ z ∷ xs) e = absurd (omega arith)

pub met_none : (s : Structure) (f : Claim Term) → is_true s f ≡ true → IsMet s (fact [] f)
met_none s f e xs l = subst (λ ys. is_true (with_values 32 ys s) f ≡ true) (sym (no_numbers xs l)) e

pub met_one : (s : Structure) (f : Claim Term) → ((x : ℤ) → is_true (at s (x ∷ [])) f ≡ true) → IsMet s (fact (Reference ∷ []) f)
met_one s f h xs l = subst (λ ys. is_true (with_values 32 ys s) f ≡ true) (sym (one_number xs l)) (h (first_number xs))

pub met_one_number : (s : Structure) (f : Claim Term) → ((x : ℤ) → is_true (at s (x ∷ [])) f ≡ true) → IsMet s (fact (Number ∷ []) f)
met_one_number s f h xs l = subst (λ ys. is_true (with_values 32 ys s) f ≡ true) (sym (one_number xs l)) (h (first_number xs))

pub met_two : (s : Structure) (f : Claim Term) → ((x y : ℤ) → is_true (at s (x ∷ y ∷ [])) f ≡ true) → IsMet s (fact (Reference ∷ Number ∷ []) f)
met_two s f h xs l = subst (λ ys. is_true (with_values 32 ys s) f ≡ true) (sym (two_numbers xs l)) (h (first_number xs) (second_number xs))

-- ---- another value at one object

or_cases : (a b : Bool) → a || b ≡ true → (a ≡ true) ⊎ (a ≡ false) × (b ≡ true)
or_cases true b e = inl refl
or_cases false b e = inr (refl, e)

or_first : (a b : Bool) → a ≡ true → a || b ≡ true
or_first a b e = λ i. e i || b

or_last : (a b : Bool) → b ≡ true → a || b ≡ true
or_last true b e = refl
or_last false b e = e

module _ (c : ℕ) (old : Source) (ob : IsSource c old) (o v : Term) (oo : IsBelow c 0 o) (vb : IsBelow c 0 v) where
  abbrev pub old_one : Structure → ℤ → ℤ
  old_one s x = read s old.0 (pos old.1 ∷ x ∷ [])

  -- the version reads as the old source, but at the object
  abbrev pub IsOneWritten : Structure → Type 0
  IsOneWritten s = (x : ℤ) → read s 13 (pos c ∷ x ∷ []) ≡ with_integer (old_one s) (value s o) (value s v) x

  elsewhere : Claim Term
  elsewhere = either (equal first o) (equal (read_one (13, c) first) (read_one old first))

  elsewhere_is : (s : Structure) (x : ℤ) → is_true (at s (x ∷ [])) (either (equal first o) (equal (read_one (13, c) first) (read_one old first))) ≡ int_eq x (value s o) || int_eq (read s 13 (pos c ∷ x ∷ [])) (old_one s x)
  elsewhere_is s x = λ i. int_eq x (one_same c s x o oo i) || int_eq (one_read c s (x ∷ []) (13, c) first (omega arith) i) (one_read c s (x ∷ []) old first ob.0 i)

  there_is : (s : Structure) → is_true s (equal (read_one (13, c) o) v) ≡ int_eq (read s 13 (pos c ∷ value s o ∷ [])) (value s v)
  there_is s = refl

  pub one_written : (s : Structure) → AreMet s (facts_at_one old c o v) → IsOneWritten s
  one_written s m x = by (int_eq x (value s o)) refl
    where
      says : int_eq x (value s o) || int_eq (read s 13 (pos c ∷ x ∷ [])) (old_one s x) ≡ true
      says = sym (elsewhere_is s x) ∙ (let n = m.1 in n.0 (x ∷ []) refl)

      second_part : (a b : Bool) → a ≡ false → a || b ≡ true → b ≡ true
      second_part true b e d = cc
      second_part false b e d = d

      by : (b : Bool) → int_eq x (value s o) ≡ b → read s 13 (pos c ∷ x ∷ []) ≡ (if b then value s v else old_one s x)
      by true e =
          ap (λ y. read s 13 (pos c ∷ y ∷ [])) (so_equal x (value s o) e)
          ∙ so_equal (read s 13 (pos c ∷ value s o ∷ [])) (value s v) (sym (there_is s) ∙ m.0 [] refl)
      by false e = so_equal (read s 13 (pos c ∷ x ∷ [])) (old_one s x) (second_part (int_eq x (value s o)) (int_eq (read s 13 (pos c ∷ x ∷ [])) (old_one s x)) e says)

  pub written_one : (s : Structure) → IsOneWritten s → AreMet s (facts_at_one old c o v)
  written_one s h = (
    met_none s (equal (read_one (13, c) o) v) (there_is s ∙ equal_so (read s 13 (pos c ∷ value s o ∷ [])) (value s v) (h (value s o) ∙ ap (λ b. if b then value s v else old_one s (value s o)) (equal_so (value s o) (value s o) refl))),
    (met_one s (either (equal first o) (equal (read_one (13, c) first) (read_one old first))) (λ x. elsewhere_is s x ∙ by x (int_eq x (value s o)) refl), tt),
  )
    where
      by : (x : ℤ) (b : Bool) → int_eq x (value s o) ≡ b → b || int_eq (read s 13 (pos c ∷ x ∷ [])) (old_one s x) ≡ true
      by x true e = refl
      by x false e = equal_so (read s 13 (pos c ∷ x ∷ [])) (old_one s x) (h x ∙ ap (λ b. if b then value s v else old_one s x) e)

  abbrev one_arg : ℤ → List ℤ
  one_arg x = x ∷ []

  pub write_one : (s : Structure) → Extends c (facts_at_one old c o v) s
  write_one s =
      let g : ℤ → ℤ = with_integer (old_one s) (value s o) (value s v) in
      let w = versioned one_arg first_number (λ x. refl) 13 c (λ p. p.0 refl) s g (value s o ∷ []) (λ x n. zero_else x n (int_eq x (value s o)) refl) in
      record {
        to = w.to;
        agrees = w.agrees;
        met = written_one w.to (λ x. w.is x ∙ same w.to w.agrees x);
      }
    where
      zero_else : (x : ℤ) → (In ((value s o ∷ []) ++ places one_arg first_number (λ y. refl) (keys_of s)) x → ⊥) → (b : Bool) → int_eq x (value s o) ≡ b → (if b then value s v else old_one s x) ≡ pos 0
      zero_else x n true e = absurd (n (inl (sym (so_equal x (value s o) e))))
      zero_else x n false e = read_zero one_arg first_number (λ y. refl) s old.0 (pos old.1) x (λ p. n (inr p))

      same : (t : Structure) → Agree c 0 s t → (x : ℤ) → with_integer (old_one s) (value s o) (value s v) x ≡ with_integer (old_one t) (value t o) (value t v) x
      same t a x = λ i. if int_eq x (same_value c 0 s t a o oo i) then same_value c 0 s t a v vb i else a old.0 (pos old.1 ∷ x ∷ []) (source_is_old c 0 old (x ∷ []) ob) i

-- ---- elements

abbrev pub two_args : ℤ × ℤ → List ℤ
two_args p = p.0 ∷ p.1 ∷ []

abbrev pub pair_of : List ℤ → ℤ × ℤ
pair_of xs = (first_number xs, second_number xs)

and_true : (a b : Bool) → a ≡ true → b ≡ true → a && b ≡ true
and_true a b e d = λ i. e i && d i

module _ (c : ℕ) (old : Source) (ob : IsSource c old) where
  abbrev pub old_two : Structure → ℤ → ℤ → ℤ
  old_two s x y = read s old.0 (pos old.1 ∷ x ∷ y ∷ [])

  -- a version of the elements, where these are others
  module _ (g : Structure → ℤ → ℤ → ℤ) (same : (s t : Structure) → Agree c 0 s t → (x y : ℤ) → g s x y ≡ g t x y) where
    abbrev pub AreElements : Structure → Type 0
    AreElements s = (x y : ℤ) → read s 14 (pos c ∷ x ∷ y ∷ []) ≡ g s x y

    pub element_version : (facts : List FactTree) → ((s : Structure) → AreElements s → AreMet s facts) → (s : Structure) (more : List (ℤ × ℤ))
        → ((p : ℤ × ℤ) → (In (more ++ places two_args pair_of (λ q. refl) (keys_of s)) p → ⊥) → g s p.0 p.1 ≡ pos 0) → Extends c facts s
    element_version facts met s more zero_else =
        let w = versioned two_args pair_of (λ q. refl) 14 c (λ p. p.1 refl) s (λ p. g s p.0 p.1) more zero_else in
        record { to = w.to; agrees = w.agrees; met = met w.to (λ x y. w.is (x, y) ∙ same s w.to w.agrees x y) }

  old_same : (s t : Structure) → Agree c 0 s t → (x y : ℤ) → old_two s x y ≡ old_two t x y
  old_same s t a x y = a old.0 (pos old.1 ∷ x ∷ y ∷ []) (source_is_old c 0 old (x ∷ y ∷ []) ob)

  old_zero : (s : Structure) (more : List (ℤ × ℤ)) (x y : ℤ) → (In (more ++ places two_args pair_of (λ q. refl) (keys_of s)) (x, y) → ⊥) → old_two s x y ≡ pos 0
  old_zero s more x y n = read_zero two_args pair_of (λ q. refl) s old.0 (pos old.1) (x, y) (λ p. n (in_back more (places two_args pair_of (λ q. refl) (keys_of s)) (x, y) p))

  -- ---- another value at one element

  module _ (a i v : Term) (ab : IsBelow c 0 a) (ib : IsBelow c 0 i) (vb : IsBelow c 0 v) where
    abbrev pub element_set_to : Structure → ℤ → ℤ → ℤ
    element_set_to s x y = if int_eq x (value s a) then (if int_eq y (value s i) then value s v else old_two s (value s a) y) else old_two s x y

    there_two : Claim Term
    there_two = equal (read_two (14, c) a i) v

    else_two : (s : Structure) (x y : ℤ) → is_true (at s (x ∷ y ∷ [])) (either (both (equal first a) (equal second i)) (equal (read_two (14, c) first second) (read_two old first second)))
        ≡ (int_eq x (value s a) && int_eq y (value s i)) || int_eq (read s 14 (pos c ∷ x ∷ y ∷ [])) (old_two s x y)
    else_two s x y = λ t. (int_eq x (two_same c s x y a ab t) && int_eq y (two_same c s x y i ib t)) || int_eq (two_read c s (x ∷ y ∷ []) (14, c) first second t) (two_read c s (x ∷ y ∷ []) old first second t)

    pub element_written : (s : Structure) → AreMet s (facts_at_two old c a i v) → (x y : ℤ) → read s 14 (pos c ∷ x ∷ y ∷ []) ≡ element_set_to s x y
    element_written s m x y = by (int_eq x (value s a)) (int_eq y (value s i)) refl refl
      where
        says : (int_eq x (value s a) && int_eq y (value s i)) || int_eq (read s 14 (pos c ∷ x ∷ y ∷ [])) (old_two s x y) ≡ true
        says = sym (else_two s x y) ∙ (let n = m.1 in n.0 (x ∷ y ∷ []) refl)

        second_part : (p q b : Bool) → p && q ≡ false → (p && q) || b ≡ true → b ≡ true
        second_part true true b e d = cc
        second_part true false b e d = d
        second_part false q b e d = d

        by : (p q : Bool) → int_eq x (value s a) ≡ p → int_eq y (value s i) ≡ q → read s 14 (pos c ∷ x ∷ y ∷ []) ≡ (if p then (if int_eq y (value s i) then value s v else old_two s (value s a) y) else old_two s x y)
        by true true e d =
            (λ t. read s 14 (pos c ∷ so_equal x (value s a) e t ∷ so_equal y (value s i) d t ∷ []))
            ∙ so_equal (read s 14 (pos c ∷ value s a ∷ value s i ∷ [])) (value s v) (m.0 [] refl)
            ∙ sym (ap (λ b. if b then value s v else old_two s (value s a) y) d)
        by true false e d =
            so_equal (read s 14 (pos c ∷ x ∷ y ∷ [])) (old_two s x y) (second_part (int_eq x (value s a)) (int_eq y (value s i)) (int_eq (read s 14 (pos c ∷ x ∷ y ∷ [])) (old_two s x y)) (λ t. e t && d t) says)
            ∙ ap (λ z. old_two s z y) (so_equal x (value s a) e)
            ∙ sym (ap (λ b. if b then value s v else old_two s (value s a) y) d)
        by false q e d =
            so_equal (read s 14 (pos c ∷ x ∷ y ∷ [])) (old_two s x y) (second_part (int_eq x (value s a)) (int_eq y (value s i)) (int_eq (read s 14 (pos c ∷ x ∷ y ∷ [])) (old_two s x y)) (λ t. e t && int_eq y (value s i)) says)

    pub written_element : (s : Structure) → ((x y : ℤ) → read s 14 (pos c ∷ x ∷ y ∷ []) ≡ element_set_to s x y) → AreMet s (facts_at_two old c a i v)
    written_element s h = (
      met_none s (equal (read_two (14, c) a i) v) (equal_so (read s 14 (pos c ∷ value s a ∷ value s i ∷ [])) (value s v) (h (value s a) (value s i)
          ∙ (λ t. if equal_so (value s a) (value s a) refl t then (if equal_so (value s i) (value s i) refl t then value s v else old_two s (value s a) (value s i)) else old_two s (value s a) (value s i)))),
      (met_two s (either (both (equal first a) (equal second i)) (equal (read_two (14, c) first second) (read_two old first second))) (λ x y. else_two s x y ∙ by x y (int_eq x (value s a)) (int_eq y (value s i)) refl refl), tt),
    )
      where
        by : (x y : ℤ) (p q : Bool) → int_eq x (value s a) ≡ p → int_eq y (value s i) ≡ q → (p && q) || int_eq (read s 14 (pos c ∷ x ∷ y ∷ [])) (old_two s x y) ≡ true
        by x y true true e d = refl
        by x y true false e d =
            equal_so (read s 14 (pos c ∷ x ∷ y ∷ [])) (old_two s x y)
            (h x y ∙ (λ t. if e t then (if d t then value s v else old_two s (value s a) y) else old_two s x y) ∙ ap (λ z. old_two s z y) (sym (so_equal x (value s a) e)))
        by x y false q e d = equal_so (read s 14 (pos c ∷ x ∷ y ∷ [])) (old_two s x y) (h x y ∙ ap (λ b. if b then (if int_eq y (value s i) then value s v else old_two s (value s a) y) else old_two s x y) e)

    pub write_element_so : (s : Structure) → Extends c (facts_at_two old c a i v) s
    write_element_so s =
        element_version element_set_to same (facts_at_two old c a i v) written_element s ((value s a, value s i) ∷ []) (λ p n. zero_else p.0 p.1 n (int_eq p.0 (value s a)) (int_eq p.1 (value s i)) refl refl)
      where
        same : (t u : Structure) → Agree c 0 t u → (x y : ℤ) → element_set_to t x y ≡ element_set_to u x y
        same t u w x y = λ j.
            if int_eq x (same_value c 0 t u w a ab j) then (if int_eq y (same_value c 0 t u w i ib j) then same_value c 0 t u w v vb j else w old.0 (pos old.1 ∷ same_value c 0 t u w a ab j ∷ y ∷ []) (source_is_old c 0 old (same_value c 0 t u w a ab j ∷ y ∷ []) ob) j)
            else w old.0 (pos old.1 ∷ x ∷ y ∷ []) (source_is_old c 0 old (x ∷ y ∷ []) ob) j

        zero_else : (x y : ℤ) → (In (((value s a, value s i) ∷ []) ++ places two_args pair_of (λ q. refl) (keys_of s)) (x, y) → ⊥) → (p q : Bool) → int_eq x (value s a) ≡ p → int_eq y (value s i) ≡ q
            → (if p then (if q then value s v else old_two s (value s a) y) else old_two s x y) ≡ pos 0
        zero_else x y n true true e d = absurd (n (inl (λ t. (sym (so_equal x (value s a) e) t, sym (so_equal y (value s i) d) t))))
        zero_else x y n true false e d = ap (λ z. old_two s z y) (sym (so_equal x (value s a) e)) ∙ old_zero s ((value s a, value s i) ∷ []) x y n
        zero_else x y n false q e d = old_zero s ((value s a, value s i) ∷ []) x y n

  -- ---- no value at any element of one array

  module _ (a : Term) (ab : IsBelow c 0 a) where
    abbrev pub array_cleared : Structure → ℤ → ℤ → ℤ
    array_cleared s x y = if int_eq x (value s a) then pos 0 else old_two s x y

    cleared_is : (s : Structure) (y : ℤ) → is_true (at s (y ∷ [])) (equal (read_two (14, c) a first) (number (pos 0))) ≡ int_eq (read s 14 (pos c ∷ value s a ∷ y ∷ [])) (pos 0)
    cleared_is s y = ap (λ z. int_eq z (pos 0)) (two_read c s (y ∷ []) (14, c) a first ∙ ap (λ z. read s 14 (pos c ∷ z ∷ y ∷ [])) (one_same c s y a ab))

    else_cleared : (s : Structure) (x y : ℤ) → is_true (at s (x ∷ y ∷ [])) (either (equal first a) (equal (read_two (14, c) first second) (read_two old first second)))
        ≡ int_eq x (value s a) || int_eq (read s 14 (pos c ∷ x ∷ y ∷ [])) (old_two s x y)
    else_cleared s x y = λ t. int_eq x (two_same c s x y a ab t) || int_eq (two_read c s (x ∷ y ∷ []) (14, c) first second t) (two_read c s (x ∷ y ∷ []) old first second t)

    pub elements_cleared_so : (s : Structure) → AreMet s (facts_at_array old c a) → (x y : ℤ) → read s 14 (pos c ∷ x ∷ y ∷ []) ≡ array_cleared s x y
    elements_cleared_so s m x y = by (int_eq x (value s a)) refl
      where
        says : int_eq x (value s a) || int_eq (read s 14 (pos c ∷ x ∷ y ∷ [])) (old_two s x y) ≡ true
        says = sym (else_cleared s x y) ∙ (let n = m.1 in n.0 (x ∷ y ∷ []) refl)

        second_part : (p b : Bool) → p ≡ false → p || b ≡ true → b ≡ true
        second_part true b e d = cc
        second_part false b e d = d

        by : (p : Bool) → int_eq x (value s a) ≡ p → read s 14 (pos c ∷ x ∷ y ∷ []) ≡ (if p then pos 0 else old_two s x y)
        by true e = ap (λ z. read s 14 (pos c ∷ z ∷ y ∷ [])) (so_equal x (value s a) e) ∙ so_equal (read s 14 (pos c ∷ value s a ∷ y ∷ [])) (pos 0) (sym (cleared_is s y) ∙ m.0 (y ∷ []) refl)
        by false e = so_equal (read s 14 (pos c ∷ x ∷ y ∷ [])) (old_two s x y) (second_part (int_eq x (value s a)) (int_eq (read s 14 (pos c ∷ x ∷ y ∷ [])) (old_two s x y)) e says)

    pub so_cleared : (s : Structure) → ((x y : ℤ) → read s 14 (pos c ∷ x ∷ y ∷ []) ≡ array_cleared s x y) → AreMet s (facts_at_array old c a)
    so_cleared s h = (
      met_one_number s (equal (read_two (14, c) a first) (number (pos 0))) (λ y. cleared_is s y ∙ equal_so (read s 14 (pos c ∷ value s a ∷ y ∷ [])) (pos 0) (h (value s a) y ∙ ap (λ b. if b then pos 0 else old_two s (value s a) y) (equal_so (value s a) (value s a) refl))),
      (met_two s (either (equal first a) (equal (read_two (14, c) first second) (read_two old first second))) (λ x y. else_cleared s x y ∙ by x y (int_eq x (value s a)) refl), tt),
    )
      where
        by : (x y : ℤ) (p : Bool) → int_eq x (value s a) ≡ p → p || int_eq (read s 14 (pos c ∷ x ∷ y ∷ [])) (old_two s x y) ≡ true
        by x y true e = refl
        by x y false e = equal_so (read s 14 (pos c ∷ x ∷ y ∷ [])) (old_two s x y) (h x y ∙ ap (λ b. if b then pos 0 else old_two s x y) e)

    pub clear_array : (s : Structure) → Extends c (facts_at_array old c a) s
    clear_array s = element_version array_cleared same (facts_at_array old c a) so_cleared s [] (λ p n. zero_else p.0 p.1 n (int_eq p.0 (value s a)))
      where
        same : (t u : Structure) → Agree c 0 t u → (x y : ℤ) → array_cleared t x y ≡ array_cleared u x y
        same t u w x y = λ j. if int_eq x (same_value c 0 t u w a ab j) then pos 0 else w old.0 (pos old.1 ∷ x ∷ y ∷ []) (source_is_old c 0 old (x ∷ y ∷ []) ob) j

        zero_else : (x y : ℤ) → (In ([] ++ places two_args pair_of (λ q. refl) (keys_of s)) (x, y) → ⊥) → (p : Bool) → (if p then pos 0 else old_two s x y) ≡ pos 0
        zero_else x y n true = refl
        zero_else x y n false = old_zero s [] x y n
