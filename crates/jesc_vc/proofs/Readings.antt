-- What structures read as where variables have values, and structures that agree.
use Rattle.std.proofs.Common.{◌≡◌, ◌⊎◌, ℕ, zero, suc, ◌+◌, ◌-◌, ◌<◌, ◌≤◌, ◌==◌, nat_le, Bool, true, false, ◌&&◌, List, [], ◌∷◌, ◌++◌, length, slice_get, unwrap_or, Option, Some, None, refl, sym, ap, ◌∙◌, inl, inr, arith, length-append, if◌then◌else◌}
use Rattle.std.specs.Prelude.{ℤ}
use Rattle.std.proofs.lemmas.Bool.Decides.{nat_tests}
use Rattle.std.proofs.lemmas.Int.{ints}
use Rattle.std.proofs.lemmas.Option.{slice_get_past}
use Rattle.jesc_logic.specs.Structures.{Structure, read, with_values}
use Rattle.jesc_vc.specs.Facts.{IsOld, Agree}

no_pair : (b : Bool) → b && false ≡ false
no_pair true = refl
no_pair false = refl

reads_on : (s : Structure) (first : ℕ) (xs : List ℤ) (symbol : ℕ) (y : ℤ) (ys : List ℤ) → read (with_values first xs s) symbol (y ∷ ys) ≡ read s symbol (y ∷ ys)
reads_on s first [] symbol y ys = refl
reads_on s first (x ∷ xs) symbol y ys =
    ap (λ b. if b then x else read (with_values (first + 1) xs s) symbol (y ∷ ys)) (no_pair (first == symbol)) ∙ reads_on s (first + 1) xs symbol y ys

-- the number of a variable, or what was read before
abbrev own_value : ℤ → ℕ → List ℤ → ℕ → ℤ
own_value before first xs symbol = if nat_le first symbol then unwrap_or (slice_get xs (symbol - first)) before else before

either_way : (b : Bool) (r : ℤ) → r ≡ (if b then r else r)
either_way true r = refl
either_way false r = refl

module _ (r : ℤ) (first symbol : ℕ) (x : ℤ) (xs : List ℤ) where
  here : (first == symbol) ≡ true → x ≡ own_value r first (x ∷ xs) symbol
  here e =
      let p : nat_le first symbol ≡ true = grind (arith, nat_tests) in
      let q : symbol - first ≡ 0 = grind (arith, nat_tests) in
      sym (ap (λ b. if b then unwrap_or (slice_get (x ∷ xs) (symbol - first)) r else r) p ∙ ap (λ k. unwrap_or (slice_get (x ∷ xs) k) r) q)

  later : (first == symbol) ≡ false → own_value r (first + 1) xs symbol ≡ own_value r first (x ∷ xs) symbol
  later e = by (nat_le (first + 1) symbol) refl
    where
      by : (b : Bool) → nat_le (first + 1) symbol ≡ b → own_value r (first + 1) xs symbol ≡ own_value r first (x ∷ xs) symbol
      by true p =
          let q : nat_le first symbol ≡ true = grind (arith, nat_tests) in
          let k : symbol - first ≡ suc (symbol - (first + 1)) = grind (arith, nat_tests) in
          ap (λ b. if b then unwrap_or (slice_get xs (symbol - (first + 1))) r else r) p
          ∙ sym (ap (λ b. if b then unwrap_or (slice_get (x ∷ xs) (symbol - first)) r else r) q ∙ ap (λ n. unwrap_or (slice_get (x ∷ xs) n) r) k)
      by false p =
          let q : nat_le first symbol ≡ false = grind (arith, nat_tests) in
          ap (λ b. if b then unwrap_or (slice_get xs (symbol - (first + 1))) r else r) p
          ∙ sym (ap (λ b. if b then unwrap_or (slice_get (x ∷ xs) (symbol - first)) r else r) q)

reads_value : (s : Structure) (first : ℕ) (xs : List ℤ) (symbol : ℕ) → read (with_values first xs s) symbol [] ≡ own_value (read s symbol []) first xs symbol
reads_value s first [] symbol = either_way (nat_le first symbol) (read s symbol [])
reads_value s first (x ∷ xs) symbol = by (first == symbol) refl (reads_value s (first + 1) xs symbol)
  where
    by : (b : Bool) → (first == symbol) ≡ b → read (with_values (first + 1) xs s) symbol [] ≡ own_value (read s symbol []) (first + 1) xs symbol → read (with_values first (x ∷ xs) s) symbol [] ≡ own_value (read s symbol []) first (x ∷ xs) symbol
    by true e h = ap (λ b. if b && true then x else read (with_values (first + 1) xs s) symbol []) e ∙ here (read s symbol []) first symbol x xs e
    by false e h = ap (λ b. if b && true then x else read (with_values (first + 1) xs s) symbol []) e ∙ (h ∙ later (read s symbol []) first symbol x xs e)

-- ---- reads where the variables from 32 on have values

-- a symbol with arguments reads as before
pub read_further : (s : Structure) (xs : List ℤ) (symbol : ℕ) (y : ℤ) (ys : List ℤ) → read (with_values 32 xs s) symbol (y ∷ ys) ≡ read s symbol (y ∷ ys)
read_further s xs symbol y ys = reads_on s 32 xs symbol y ys

-- so does a symbol below the variables
pub read_low : (s : Structure) (xs : List ℤ) (symbol : ℕ) → symbol < 32 → read (with_values 32 xs s) symbol [] ≡ read s symbol []
read_low s xs symbol lt =
    let p : nat_le 32 symbol ≡ false = grind (arith, nat_tests) in
    reads_value s 32 xs symbol ∙ ap (λ b. if b then unwrap_or (slice_get xs (symbol - 32)) (read s symbol []) else read s symbol []) p

-- and one above them
pub read_high : (s : Structure) (xs : List ℤ) (symbol : ℕ) → 32 + length xs ≤ symbol → read (with_values 32 xs s) symbol [] ≡ read s symbol []
read_high s xs symbol le =
    let p : nat_le 32 symbol ≡ true = grind (arith, nat_tests) in
    let far : length xs ≤ symbol - 32 = omega arith in
    reads_value s 32 xs symbol ∙ ap (λ b. if b then unwrap_or (slice_get xs (symbol - 32)) (read s symbol []) else read s symbol []) p
    ∙ ap (λ o. unwrap_or o (read s symbol [])) (slice_get_past xs (symbol - 32) far)

-- a variable reads as its value
pub read_variable : (s : Structure) (xs : List ℤ) (i : ℕ) → read (with_values 32 xs s) (32 + i) [] ≡ unwrap_or (slice_get xs i) (read s (32 + i) [])
read_variable s xs i =
    let p : nat_le 32 (32 + i) ≡ true = grind (arith, nat_tests) in
    let k : (32 + i) - 32 ≡ i = omega arith in
    reads_value s 32 xs (32 + i) ∙ ap (λ b. if b then unwrap_or (slice_get xs ((32 + i) - 32)) (read s (32 + i) []) else read s (32 + i) []) p
    ∙ ap (λ n. unwrap_or (slice_get xs n) (read s (32 + i) [])) k

-- ---- structures that agree

pub agree_self : (c n : ℕ) (s : Structure) → Agree c n s s
agree_self c n s symbol args old = refl

pub agree_then : (c n : ℕ) (s t u : Structure) → Agree c n s t → Agree c n t u → Agree c n s u
agree_then c n s t u h k symbol args old = h symbol args old ∙ k symbol args old

pub agree_back : (c n : ℕ) (s t : Structure) → Agree c n s t → Agree c n t s
agree_back c n s t h symbol args old = sym (h symbol args old)

pub old_later : (c d n m symbol : ℕ) (args : List ℤ) → c ≤ d → n ≤ m → IsOld c n symbol args → IsOld d m symbol args
old_later c d n m symbol [] p q (lt, inl v) = (omega arith, inl (omega arith))
old_later c d n m symbol [] p q (lt, inr v) = (omega arith, inr v)
old_later c d n m symbol (x ∷ xs) p q (lt, inl v) = (omega arith, inl v)
old_later c d n m symbol (x ∷ xs) p q (lt, inr v) = (omega arith, inr (omega (arith, ints)))

pub agree_less : (c d n m : ℕ) (s t : Structure) → c ≤ d → n ≤ m → Agree d m s t → Agree c n s t
agree_less c d n m s t p q h symbol args old = h symbol args (old_later c d n m symbol args p q old)

absent : {X : Type 0} (xs : List X) (i : ℕ) → slice_get xs i ≡ None → length xs ≤ i
absent [] i e = omega arith
absent (x ∷ xs) zero e = cc
absent (x ∷ xs) (suc i) e = let h = absent xs i e in omega arith

-- with the same values for variables they agree on these too
pub agree_under : (c : ℕ) (s t : Structure) (xs : List ℤ) → Agree c 0 s t → Agree c (length xs) (with_values 32 xs s) (with_values 32 xs t)
agree_under c s t xs h symbol (y ∷ ys) old = read_further s xs symbol y ys ∙ h symbol (y ∷ ys) old ∙ sym (read_further t xs symbol y ys)
agree_under c s t xs h symbol [] old = reads_value s 32 xs symbol ∙ by (nat_le 32 symbol) refl ∙ sym (reads_value t 32 xs symbol)
  where
    as_before : (symbol < 32 + 0) ⊎ (63 < symbol) → read s symbol [] ≡ read t symbol []
    as_before v = h symbol [] (old.0, v)

    by_value : nat_le 32 symbol ≡ true → (o : Option ℤ) → slice_get xs (symbol - 32) ≡ o → (symbol < 32 + length xs) ⊎ (63 < symbol) → unwrap_or o (read s symbol []) ≡ unwrap_or o (read t symbol [])
    by_value p None e (inl v) = let l = absent xs (symbol - 32) e in let le : 32 ≤ symbol = grind (arith, nat_tests) in absurd (omega arith)
    by_value p None e (inr v) = as_before (inr v)
    by_value p (Some x) e v = refl

    by : (b : Bool) → nat_le 32 symbol ≡ b → own_value (read s symbol []) 32 xs symbol ≡ own_value (read t symbol []) 32 xs symbol
    by true p =
        ap (λ b. if b then unwrap_or (slice_get xs (symbol - 32)) (read s symbol []) else read s symbol []) p
        ∙ by_value p (slice_get xs (symbol - 32)) refl old.1
        ∙ sym (ap (λ b. if b then unwrap_or (slice_get xs (symbol - 32)) (read t symbol []) else read t symbol []) p)
    by false p =
        ap (λ b. if b then unwrap_or (slice_get xs (symbol - 32)) (read s symbol []) else read s symbol []) p
        ∙ as_before (inl (grind (arith, nat_tests)))
        ∙ sym (ap (λ b. if b then unwrap_or (slice_get xs (symbol - 32)) (read t symbol []) else read t symbol []) p)

get_in_front : {X : Type 0} (xs ys : List X) (i : ℕ) → i < length xs → slice_get (xs ++ ys) i ≡ slice_get xs i
get_in_front [] ys i lt = absurd (omega arith)
get_in_front (x ∷ xs) ys zero lt = refl
get_in_front (x ∷ xs) ys (suc i) lt = get_in_front xs ys i (omega arith)

-- more variables change nothing where the first ones alone are read
pub agree_further : (c : ℕ) (s : Structure) (xs ys : List ℤ) → length (xs ++ ys) ≤ 32 → Agree c (length xs) (with_values 32 xs s) (with_values 32 (xs ++ ys) s)
agree_further c s xs ys few symbol (y ∷ rest) old = read_further s xs symbol y rest ∙ sym (read_further s (xs ++ ys) symbol y rest)
agree_further c s xs ys few symbol [] old = reads_value s 32 xs symbol ∙ by (nat_le 32 symbol) refl old.1 ∙ sym (reads_value s 32 (xs ++ ys) symbol)
  where
    by_place : nat_le 32 symbol ≡ true → (symbol < 32 + length xs) ⊎ (63 < symbol) → unwrap_or (slice_get xs (symbol - 32)) (read s symbol []) ≡ unwrap_or (slice_get (xs ++ ys) (symbol - 32)) (read s symbol [])
    by_place p (inl v) = let le : 32 ≤ symbol = grind (arith, nat_tests) in ap (λ o. unwrap_or o (read s symbol [])) (sym (get_in_front xs ys (symbol - 32) (omega arith)))
    by_place p (inr v) =
        let l = length-append xs ys in
        ap (λ o. unwrap_or o (read s symbol [])) (slice_get_past xs (symbol - 32) (omega arith))
        ∙ sym (ap (λ o. unwrap_or o (read s symbol [])) (slice_get_past (xs ++ ys) (symbol - 32) (omega arith)))

    by : (b : Bool) → nat_le 32 symbol ≡ b → (symbol < 32 + length xs) ⊎ (63 < symbol) → own_value (read s symbol []) 32 xs symbol ≡ own_value (read s symbol []) 32 (xs ++ ys) symbol
    by true p v =
        ap (λ b. if b then unwrap_or (slice_get xs (symbol - 32)) (read s symbol []) else read s symbol []) p
        ∙ by_place p v
        ∙ sym (ap (λ b. if b then unwrap_or (slice_get (xs ++ ys) (symbol - 32)) (read s symbol []) else read s symbol []) p)
    by false p v =
        ap (λ b. if b then unwrap_or (slice_get xs (symbol - 32)) (read s symbol []) else read s symbol []) p
        ∙ sym (ap (λ b. if b then unwrap_or (slice_get (xs ++ ys) (symbol - 32)) (read s symbol []) else read s symbol []) p)
