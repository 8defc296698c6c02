-- The numbers of a form, one part after the other.
use Rattle.std.proofs.Common.{◌≡◌, ℕ, zero, suc, ◌+◌, ◌-◌, ◌*◌, ◌<◌, ◌≤◌, ◌^◌, List, [], ◌∷◌, ◌++◌, length, take, drop, get_or, ℤ, pos, refl, sym, ap, ◌∙◌, arith, append_assoc}
use Rattle.std.proofs.lemmas.List.{take_more, take_all}
use Rattle.std.proofs.lemmas.List.Elements.{All-nil, All-cons, All-append}
use Rattle.std.specs.Prelude.{All, unsigned_abs}
use Rattle.jesc_linear.specs.Forms.{Form}
use Rattle.jesc_accept.specs.Lemmas.{flat, IsThere, sum_numbers}
use Rattle.jesc_accept.specs.Numbers.{IsPartOf, AreNoPart}
use Rattle.jesc_accept.specs.States.{AreNoSum, IsSumOf}

flat_push : (f : Form) (part : ℤ × ℕ) → flat (f ++ part ∷ []) ≡ flat f ++ part.0 ∷ pos part.1 ∷ []
flat_push [] part = refl
flat_push (x ∷ f) part = ap (λ (xs : List ℤ). x.0 ∷ pos x.1 ∷ xs) (flat_push f part)

pub length_flat : (f : Form) → length (flat f) ≡ length f + length f
length_flat [] = refl
length_flat (x ∷ f) = let e = length_flat f in omega arith

flat_first : (f : Form) (k i : ℕ) → i ≡ 2 * k → k < length f → get_or (flat f) i (pos 0) ≡ (get_or f k (pos 0, 0)).0
flat_first [] k i e h = absurd (omega arith)
flat_first (x ∷ f) zero zero e h = refl
flat_first (x ∷ f) zero (suc i) e h = absurd (omega arith)
flat_first (x ∷ f) (suc k) zero e h = absurd (omega arith)
flat_first (x ∷ f) (suc k) (suc zero) e h = absurd (omega arith)
flat_first (x ∷ f) (suc k) (suc (suc i)) e h = flat_first f k i (omega arith) (omega arith)

flat_second : (f : Form) (k i : ℕ) → i ≡ 2 * k + 1 → k < length f → get_or (flat f) i (pos 0) ≡ pos (get_or f k (pos 0, 0)).1
flat_second [] k i e h = absurd (omega arith)
flat_second (x ∷ f) zero zero e h = absurd (omega arith)
flat_second (x ∷ f) zero (suc zero) e h = refl
flat_second (x ∷ f) zero (suc (suc i)) e h = absurd (omega arith)
flat_second (x ∷ f) (suc k) zero e h = absurd (omega arith)
flat_second (x ∷ f) (suc k) (suc zero) e h = absurd (omega arith)
flat_second (x ∷ f) (suc k) (suc (suc i)) e h = flat_second f k i (omega arith) (omega arith)

-- so many parts are read into the form
pub record IsRead (terms : ℕ) (parts : List ℤ) (at : ℕ) (form : Form) : Type 0 where
  pub made : flat form ≡ take (2 * at) parts
  pub narrow : All (λ (part : ℤ × ℕ). unsigned_abs part.0 ≤ 2 ^ 31) form
  pub there : All (IsThere terms) form

pub read_none : (terms : ℕ) (parts : List ℤ) → IsRead terms parts 0 []
read_none terms parts = record { made = refl; narrow = All-nil _; there = All-nil _ }

take_two : (xs : List ℤ) (k : ℕ) → 2 * k + 1 < length xs → take (2 * (k + 1)) xs ≡ take (2 * k) xs ++ get_or xs (2 * k) (pos 0) ∷ get_or xs (2 * k + 1) (pos 0) ∷ []
take_two xs k h =
    let two : 2 * (k + 1) ≡ 2 * k + 1 + 1 = omega arith in
    ap (λ (n : ℕ). take n xs) two ∙ take_more xs (2 * k + 1) (pos 0) h ∙ ap (λ (ys : List ℤ). ys ++ get_or xs (2 * k + 1) (pos 0) ∷ []) (take_more xs (2 * k) (pos 0) (omega arith))
    ∙ append_assoc (take (2 * k) xs) (get_or xs (2 * k) (pos 0) ∷ []) (get_or xs (2 * k + 1) (pos 0) ∷ [])

pub read_more : (terms : ℕ) (parts : List ℤ) (at : ℕ) (form : Form) (c t : ℤ) (part : ℤ × ℕ) → IsRead terms parts at form → 2 * at + 1 < length parts
    → c ≡ get_or parts (2 * at) (pos 0) → t ≡ get_or parts (2 * at + 1) (pos 0) → IsPartOf terms c t part → IsRead terms parts (at + 1) (form ++ part ∷ [])
read_more terms parts at form c t part h i e f is = record {
  made = flat_push form part ∙ (let u = is.coefficient_is in let v = is.term_is in let w = h.made in let m = take_two parts at i in cc);
  narrow = All-append (λ (x : ℤ × ℕ). unsigned_abs x.0 ≤ 2 ^ 31) form (part ∷ []) h.narrow (All-cons (λ (x : ℤ × ℕ). unsigned_abs x.0 ≤ 2 ^ 31) part [] is.narrow (All-nil (λ (x : ℤ × ℕ). unsigned_abs x.0 ≤ 2 ^ 31)));
  there = All-append (IsThere terms) form (part ∷ []) h.there (All-cons (IsThere terms) part [] is.there (All-nil (IsThere terms)));
}

pub read_whole : (terms : ℕ) (bound count : ℤ) (parts : List ℤ) (at : ℕ) (form : Form) → IsRead terms parts at form → length parts ≡ 2 * at → count ≡ pos at
    → IsSumOf terms (bound ∷ count ∷ parts) (record { form = form; bound = bound })
read_whole terms bound count parts at form h e f =
    let all : flat form ≡ parts = h.made ∙ take_all (2 * at) parts (omega arith) in
    let len : length form ≡ at = (let a = length_flat form in let b = ap length all in omega arith) in
    record { are = cc; narrow = h.narrow; there = h.there }

take_whole : (xs : List ℤ) (n : ℕ) → n ≡ length xs → take n xs ≡ xs
take_whole xs n e = take_all n xs (omega arith)

-- two numbers and the others
pub two_and_more : (ns : List ℤ) → 2 ≤ length ns → ns ≡ get_or ns 0 (pos 0) ∷ get_or ns 1 (pos 0) ∷ take (length ns - 2) (drop 2 ns)
two_and_more [] h = absurd (omega arith)
two_and_more (x ∷ []) h = absurd (omega arith)
two_and_more (x ∷ y ∷ ns) h = ap (λ (xs : List ℤ). x ∷ y ∷ xs) (sym (take_whole ns (suc (suc (length ns)) - 2) (omega arith)))

-- what the numbers of a form need be
pub record IsFlat (count : ℤ) (parts : List ℤ) (form : Form) : Type 0 where
  pub counts : count ≡ pos (length form)
  pub are : parts ≡ flat form

is_flat : (numbers : List ℤ) (bound count b : ℤ) (parts : List ℤ) (form : Form) → numbers ≡ bound ∷ count ∷ parts → numbers ≡ sum_numbers b form → IsFlat count parts form
is_flat numbers bound count b parts form e f = record { counts = cc; are = cc }

pub no_part_here : (terms : ℕ) (numbers : List ℤ) (bound count : ℤ) (parts : List ℤ) (at : ℕ) (c t : ℤ) → numbers ≡ bound ∷ count ∷ parts → 2 * at + 1 < length parts
    → c ≡ get_or parts (2 * at) (pos 0) → t ≡ get_or parts (2 * at + 1) (pos 0) → AreNoPart terms c t → AreNoSum terms numbers
no_part_here terms numbers bound count parts at c t n i e f none b form narrow there are =
    let r = is_flat numbers bound count b parts form n are in
    let len : length parts ≡ length form + length form = ap length r.are ∙ length_flat form in
    let k : at < length form = omega arith in
    none (get_or form at (pos 0, 0)) (record {
      coefficient_is = e ∙ ap (λ (xs : List ℤ). get_or xs (2 * at) (pos 0)) r.are ∙ flat_first form at (2 * at) refl k;
      term_is = f ∙ ap (λ (xs : List ℤ). get_or xs (2 * at + 1) (pos 0)) r.are ∙ flat_second form at (2 * at + 1) refl k;
      narrow = narrow at (pos 0, 0) k;
      there = there at (pos 0, 0) k;
    })

pub no_such_length : (terms : ℕ) (numbers : List ℤ) (bound count : ℤ) (parts : List ℤ) → numbers ≡ bound ∷ count ∷ parts → ((k : ℕ) → length parts ≡ 2 * k → count ≡ pos k → ⊥) → AreNoSum terms numbers
no_such_length terms numbers bound count parts n none b form narrow there are =
    let r = is_flat numbers bound count b parts form n are in
    let len : length parts ≡ length form + length form = ap length r.are ∙ length_flat form in
    none (length form) (omega arith) r.counts
