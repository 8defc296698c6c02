-- The text of numbers, number by number.
use Rattle.std.proofs.Common.{◌≡◌, ℕ, suc, ◌+◌, ◌<◌, ℤ, List, [], ◌∷◌, ◌++◌, length, get_or, take, drop, refl, sym, ap, ◌∙◌, subst, arith, append_assoc}
use Rattle.std.specs.Prelude.{All}
use Rattle.std.specs.Fmt.{signed_decimal}
use Rattle.std.proofs.lemmas.List.{take-append-drop}
use Rattle.std.proofs.lemmas.List.Elements.{All-head, All-tail}
use Rattle.jesc_text.specs.Numbers.{IsNumber}
use Rattle.jesc_cert.specs.Texts.{numbers_text}
use Rattle.jesc_cert.specs.Inner.{Without, Breaks, IsFirst, IsWithin, IsNext, HasNoNext}
use Rattle.jesc_cert.proofs.Pieces.{split_same, first_is}
use Rattle.jesc_cert.proofs.Numerals.{number_text, text_number, number_without, number_unique}
use Rattle.jesc_cert.proofs.Printing.{number_more}

no_space : (n : ℤ) → IsWithin n → Without 32 (signed_decimal n)
no_space n p = number_without 32 (omega arith) n p

-- a number behind a space
pub next_is : (bytes : List ℕ) (count : ℕ) (n : ℤ) → get_or bytes 0 0 ≡ 32 → IsFirst 32 (drop 1 bytes) count → IsNumber (take count (drop 1 bytes)) n → IsNext bytes n (count + 1)
next_is [] count n e first h = absurd (omega (arith, e))
next_is (b ∷ bs) count n e first h =
    let t = number_text (take count bs) n h in
    let more : count + 1 ≡ suc count = omega arith in
    let next : IsNext (b ∷ bs) n (suc count) = record {
      within = t.1;
      some = omega arith;
      room = omega (arith, first.within);
      are = λ i. e i ∷ t.0 i;
      breaks = first.breaks;
    } in
    subst (IsNext (b ∷ bs) n) (sym more) next

pub no_next : (bytes : List ℕ) (count : ℕ) → IsFirst 32 (drop 1 bytes) count → ((z : ℤ) → ¬ (IsNumber (take count (drop 1 bytes)) z)) → HasNoNext bytes
no_next bytes count first none = λ n more p q e.
    let is = first_is 32 (drop 1 bytes) count (signed_decimal n) more first (no_space n p) q (ap (drop 1) e) in
    none n (subst (λ b. IsNumber b n) (sym is.0) (text_number n p))

pub numbers_break : (ns : List ℤ) → Breaks 32 (numbers_text ns)
numbers_break [] = tt
numbers_break (n ∷ ns) = refl

-- the bytes are the text of some numbers
abbrev pub AreSome : List ℕ → Type 0
AreSome rest = (more : List ℤ) × All IsWithin more × (rest ≡ numbers_text more)

cut : (rest : List ℕ) (n : ℤ) (count : ℕ) → IsNext rest n count → rest ≡ 32 ∷ (signed_decimal n ++ drop count rest)
cut rest n count next = sym (take-append-drop count rest) ∙ ap (λ t. t ++ drop count rest) next.are

pub some_step : (rest : List ℕ) (n : ℤ) (count : ℕ) → IsNext rest n count → AreSome rest → AreSome (drop count rest)
some_step rest n count next ([], all, e) = absurd (omega (arith, next.some, next.room, ap length e))
some_step rest n count next (m ∷ ms, all, e) =
    let same = split_same 32 (signed_decimal n) (signed_decimal m) (drop count rest) (numbers_text ms) (no_space n next.within) (no_space m (All-head IsWithin m ms all)) next.breaks (numbers_break ms) (ap (drop 1) (sym (cut rest n count next) ∙ e)) in
    (ms, All-tail IsWithin m ms all, same.1)

pub is_step : (bytes : List ℕ) (ns : List ℤ) (rest : List ℕ) (n : ℤ) (count : ℕ) → bytes ≡ numbers_text ns ++ rest → IsNext rest n count → bytes ≡ numbers_text (ns ++ n ∷ []) ++ drop count rest
is_step bytes ns rest n count e next =
    e ∙ ap (λ t. numbers_text ns ++ t) (cut rest n count next)
    ∙ sym (append_assoc (numbers_text ns) (32 ∷ signed_decimal n) (drop count rest))
    ∙ ap (λ t. t ++ drop count rest) (sym (number_more [] ns n))

pub none_step : (rest : List ℕ) → 0 < length rest → HasNoNext rest → AreSome rest → ⊥
none_step rest some none ([], all, e) = omega (arith, some, ap length e)
none_step rest some none (m ∷ ms, all, e) = none m (numbers_text ms) (All-head IsWithin m ms all) (numbers_break ms) e

-- one list of numbers has the text
pub numbers_same : (ms ns : List ℤ) → All IsWithin ms → All IsWithin ns → numbers_text ms ≡ numbers_text ns → ms ≡ ns
numbers_same [] [] p q e = refl
numbers_same [] (n ∷ ns) p q e = absurd (omega (arith, ap length e))
numbers_same (m ∷ ms) [] p q e = absurd (omega (arith, ap length e))
numbers_same (m ∷ ms) (n ∷ ns) p q e =
    let pm = All-head IsWithin m ms p in
    let pn = All-head IsWithin n ns q in
    let same = split_same 32 (signed_decimal m) (signed_decimal n) (numbers_text ms) (numbers_text ns) (no_space m pm) (no_space n pn) (numbers_break ms) (numbers_break ns) (ap (drop 1) e) in
    let one : m ≡ n = number_unique (signed_decimal m) m n (text_number m pm) (subst (λ b. IsNumber b n) (sym same.0) (text_number n pn)) in
    λ i. one i ∷ numbers_same ms ns (All-tail IsWithin m ms p) (All-tail IsWithin n ns q) same.1 i
