-- A term with others in the place of its variables is worth what the term is worth where the variables are what the
-- others are worth.
use Rattle.std.specs.Prelude.{◌≡◌, ℕ, zero, suc, ◌+◌, ◌-◌, ◌==◌, nat_le, Bool, true, false, ◌&&◌, ◌||◌, not, ℤ, List, [], ◌∷◌, map, slice_get, unwrap_or, refl, if◌then◌else◌}
use Rattle.std.proofs.Common.{◌∙◌, sym, ap, arith}
use Rattle.std.proofs.lemmas.Bool.Decides.{nat_tests}
use Rattle.jesc_logic.specs.Terms.{Term, number, constant, unary, binary, ternary}
use Rattle.jesc_logic.specs.Claims.{Claim, truth, falsity, at_most, equal, negation, both, either, over}
use Rattle.jesc_logic.specs.Structures.{Structure, read, with_values, value, of_two, holds, is_true, assigned}
use Rattle.jesc_logic.specs.Substitution.{put}

no_pair : (b : Bool) → b && false ≡ false
no_pair true = refl
no_pair false = refl

-- a symbol with arguments reads as before
reads_on : (s : Structure) (first : ℕ) (xs : List ℤ) (symbol : ℕ) (y : ℤ) (ys : List ℤ) → read (with_values first xs s) symbol (y ∷ ys) ≡ read s symbol (y ∷ ys)
reads_on s first [] symbol y ys = refl
reads_on s first (x ∷ xs) symbol y ys =
    ap (λ b. if b then x else read (with_values (first + 1) xs s) symbol (y ∷ ys)) (no_pair (first == symbol)) ∙ reads_on s (first + 1) xs symbol y ys

-- what a symbol without arguments reads as: its number, or as before
abbrev pub own_value : ℤ → ℕ → List ℤ → ℕ → ℤ
own_value before first xs symbol = if nat_le first symbol then unwrap_or (slice_get xs (symbol - first)) before else before

either_way : (b : Bool) (r : ℤ) → r ≡ (if b then r else r)
either_way true r = refl
either_way false r = refl

module _ (r : ℤ) (first symbol : ℕ) (x : ℤ) (xs : List ℤ) where
  here : (first == symbol) ≡ true → x ≡ own_value r first (x ∷ xs) symbol
  here e =
      let p : nat_le first symbol ≡ true = grind (arith, nat_tests) in
      let q : symbol - first ≡ 0 = grind (arith, nat_tests) in
      sym (ap (λ b. if b then unwrap_or (slice_get (x ∷ xs) (symbol - first)) r else r) p ∙ ap (λ k. unwrap_or (slice_get (x ∷ xs) k) r) q)

  later : (first == symbol) ≡ false → own_value r (first + 1) xs symbol ≡ own_value r first (x ∷ xs) symbol
  later e = by (nat_le (first + 1) symbol) refl
    where
      by : (b : Bool) → nat_le (first + 1) symbol ≡ b → own_value r (first + 1) xs symbol ≡ own_value r first (x ∷ xs) symbol
      by true p =
          let q : nat_le first symbol ≡ true = grind (arith, nat_tests) in
          let k : symbol - first ≡ suc (symbol - (first + 1)) = grind (arith, nat_tests) in
          ap (λ b. if b then unwrap_or (slice_get xs (symbol - (first + 1))) r else r) p
          ∙ sym (ap (λ b. if b then unwrap_or (slice_get (x ∷ xs) (symbol - first)) r else r) q ∙ ap (λ n. unwrap_or (slice_get (x ∷ xs) n) r) k)
      by false p =
          let q : nat_le first symbol ≡ false = grind (arith, nat_tests) in
          ap (λ b. if b then unwrap_or (slice_get xs (symbol - (first + 1))) r else r) p
          ∙ sym (ap (λ b. if b then unwrap_or (slice_get (x ∷ xs) (symbol - first)) r else r) q)

reads_value : (s : Structure) (first : ℕ) (xs : List ℤ) (symbol : ℕ) → read (with_values first xs s) symbol [] ≡ own_value (read s symbol []) first xs symbol
reads_value s first [] symbol = either_way (nat_le first symbol) (read s symbol [])
reads_value s first (x ∷ xs) symbol = by (first == symbol) refl (reads_value s (first + 1) xs symbol)
  where
    by : (b : Bool) → (first == symbol) ≡ b → read (with_values (first + 1) xs s) symbol [] ≡ own_value (read s symbol []) (first + 1) xs symbol → read (with_values first (x ∷ xs) s) symbol [] ≡ own_value (read s symbol []) first (x ∷ xs) symbol
    by true e h = ap (λ b. if b && true then x else read (with_values (first + 1) xs s) symbol []) e ∙ here (read s symbol []) first symbol x xs e
    by false e h = ap (λ b. if b && true then x else read (with_values (first + 1) xs s) symbol []) e ∙ (h ∙ later (read s symbol []) first symbol x xs e)

worth : (s : Structure) (args : List Term) (k : ℕ) (t : Term) → value s (unwrap_or (slice_get args k) t) ≡ unwrap_or (slice_get (map (value s) args) k) (value s t)
worth s [] k t = refl
worth s (a ∷ args) zero t = refl
worth s (a ∷ args) (suc k) t = worth s args k t

pub value_put : (s : Structure) (args : List Term) (t : Term) → value s (put args t) ≡ value (assigned s args) t
value_put s args (number n) = refl
value_put s args (constant symbol) = by (nat_le 32 symbol) refl ∙ sym (reads_value s 32 (map (value s) args) symbol)
  where
    by : (b : Bool) → nat_le 32 symbol ≡ b → value s (put args (constant symbol)) ≡ own_value (read s symbol []) 32 (map (value s) args) symbol
    by true p =
        ap (λ b. value s (if b then unwrap_or (slice_get args (symbol - 32)) (constant symbol) else constant symbol)) p
        ∙ (worth s args (symbol - 32) (constant symbol) ∙ sym (ap (λ b. if b then unwrap_or (slice_get (map (value s) args) (symbol - 32)) (read s symbol []) else read s symbol []) p))
    by false p =
        ap (λ b. value s (if b then unwrap_or (slice_get args (symbol - 32)) (constant symbol) else constant symbol)) p
        ∙ sym (ap (λ b. if b then unwrap_or (slice_get (map (value s) args) (symbol - 32)) (read s symbol []) else read s symbol []) p)
value_put s args (unary symbol a) =
    ap (λ x. read s symbol (x ∷ [])) (value_put s args a) ∙ sym (reads_on s 32 (map (value s) args) symbol (value (assigned s args) a) [])
value_put s args (binary symbol a b) =
    (λ i. of_two s symbol (value_put s args a i) (value_put s args b i)) ∙ same_two symbol (value (assigned s args) a) (value (assigned s args) b)
  where
    same_two : (symbol : ℕ) (x y : ℤ) → of_two s symbol x y ≡ of_two (assigned s args) symbol x y
    same_two zero x y = refl
    same_two (suc zero) x y = refl
    same_two (suc (suc zero)) x y = refl
    same_two (suc (suc (suc zero))) x y = refl
    same_two (suc (suc (suc (suc n)))) x y = sym (reads_on s 32 (map (value s) args) (suc (suc (suc (suc n)))) x (y ∷ []))
value_put s args (ternary symbol a b c) =
    (λ i. read s symbol (value_put s args a i ∷ value_put s args b i ∷ value_put s args c i ∷ []))
    ∙ sym (reads_on s 32 (map (value s) args) symbol (value (assigned s args) a) (value (assigned s args) b ∷ value (assigned s args) c ∷ []))

-- a form with terms in the place of variables is true where the form is, with the variables worth what the terms are
pub true_put : (s : Structure) (args : List Term) (f : Claim Term) → is_true s (over (put args) f) ≡ is_true (assigned s args) f
true_put s args truth = refl
true_put s args falsity = refl
true_put s args (at_most a b) = λ i. holds (at_most (value_put s args a i) (value_put s args b i))
true_put s args (equal a b) = λ i. holds (equal (value_put s args a i) (value_put s args b i))
true_put s args (negation f) = λ i. not (true_put s args f i)
true_put s args (both f g) = λ i. true_put s args f i && true_put s args g i
true_put s args (either f g) = λ i. true_put s args f i || true_put s args g i
