-- The offsets at which lines begin, split at an offset of the text.
use Rattle.std.proofs.Common.{◌≡◌, ℕ, zero, suc, ◌+◌, ◌-◌, ◌≤◌, ◌<◌, Bool, true, false, List, [], ◌∷◌, length, get_or, count_by, cond, nat_le, leb, leb-true, leb-false, refl, ap, ◌∙◌, sym, subst, arith}
use Rattle.std.specs.Prelude.{if◌then◌else◌, Some, slice_get}
use Rattle.std.specs.List.Sorted.{IsStrictlyIncreasing, IsPartitionPoint, IsPartitionedBy}
use Rattle.std.proofs.lemmas.List.Sorted.{IsPartitionedBy-leb, IsNonDecreasingBy-from_default}
use Rattle.std.proofs.lemmas.List.Sums.{sum_by-cons}
use Rattle.std.proofs.lemmas.Bool.Decides.{nat_tests}
use Rattle.jesc_ast.specs.Lines.{IsLines, line_start}

is_at_most : (start offset : ℕ) → start ≤ offset → nat_le start offset ≡ true
is_at_most start offset le = grind (arith, nat_tests)

is_beyond : (start offset : ℕ) → offset < start → nat_le start offset ≡ false
is_beyond start offset lt = grind (arith, nat_tests)

pub risen : (xs : List ℕ) → IsStrictlyIncreasing xs → (n i : ℕ) → n + i < length xs → n + get_or xs i 0 ≤ get_or xs (n + i) 0
risen xs rise zero i inside =
    let same : zero + i ≡ i = omega arith in
    omega (arith, ap (λ k. get_or xs k 0) same)
risen xs rise (suc n) i inside =
    let next : (n + i) + 1 ≡ suc n + i = omega arith in
    omega (arith, ap (λ k. get_or xs k 0) next, rise (n + i) (omega (arith, inside)), risen xs rise n i (omega (arith, inside)))

rise_behind : (x : ℕ) (xs : List ℕ) → IsStrictlyIncreasing (x ∷ xs) → IsStrictlyIncreasing xs
rise_behind x xs rise k inside =
    let next : suc k + 1 ≡ suc (k + 1) = omega arith in
    subst (λ (n : ℕ). get_or xs k 0 < get_or (x ∷ xs) n 0) next (rise (suc k) (omega (arith, inside)))

-- the first i offsets are at most t, and the others beyond it
pub record IsSplit (xs : List ℕ) (t i : ℕ) : Type 0 where
  pub within : i ≤ length xs
  pub at_most : (k : ℕ) → k < i → get_or xs k 0 ≤ t
  pub beyond : (k : ℕ) → i ≤ k → k < length xs → t < get_or xs k 0

behind : (x : ℕ) (xs : List ℕ) (t i : ℕ) → IsSplit (x ∷ xs) t (suc i) → IsSplit xs t i
behind x xs t i split = record {
  within = omega (arith, split.within);
  at_most = λ k l. split.at_most (suc k) (omega (arith, l));
  beyond = λ k l h. split.beyond (suc k) (omega (arith, l)) (omega (arith, h));
}

none : (x : ℕ) (xs : List ℕ) (t : ℕ) → IsSplit (x ∷ xs) t 0 → IsSplit xs t 0
none x xs t split = record {
  within = omega arith;
  at_most = λ k l. absurd (omega (arith, l));
  beyond = λ k l h. split.beyond (suc k) (omega arith) (omega (arith, h));
}

-- the line's number
pub counted : (xs : List ℕ) (t i : ℕ) → IsSplit xs t i → count_by (λ start. nat_le start t) xs ≡ i
counted [] t i split = let h = split.within in omega (arith, h)
counted (x ∷ xs) t zero split =
    sum_by-cons (λ start. cond (nat_le start t) 1 0) x xs ∙ rw (is_beyond x t (split.beyond 0 (omega arith) (omega arith))) (omega (arith, counted xs t zero (none x xs t split)))
counted (x ∷ xs) t (suc i) split =
    sum_by-cons (λ start. cond (nat_le start t) 1 0) x xs ∙ rw (is_at_most x t (split.at_most 0 (omega arith))) (omega (arith, counted xs t i (behind x xs t i split)))

no_start : (xs : List ℕ) (t : ℕ) → IsSplit xs t 0 → line_start xs t ≡ 0
no_start [] t split = refl
no_start (x ∷ xs) t split = rw (is_beyond x t (split.beyond 0 (omega arith) (omega arith))) refl

-- the line's start
pub started : (xs : List ℕ) (t i : ℕ) → IsStrictlyIncreasing xs → IsSplit xs t (suc i) → line_start xs t ≡ get_or xs i 0
started [] t i rise split = let h = split.within in absurd (omega (arith, h))
started (x ∷ xs) t zero rise split =
    rw (is_at_most x t (split.at_most 0 (omega arith)), no_start xs t (behind x xs t 0 split)) (by_zero (nat_le x 0) refl)
  where
    by_zero : (b : Bool) → nat_le x 0 ≡ b → (if b then 0 else x) ≡ x
    by_zero true is = grind (arith, nat_tests)
    by_zero false is = refl
started (x ∷ xs) t (suc i) rise split =
    let later = started xs t i (rise_behind x xs rise) (behind x xs t (suc i) split) in
    let in_reach = split.within in
    let same : suc i + 0 ≡ suc i = omega arith in
    let above : x ≤ get_or xs i 0 = omega (arith, risen (x ∷ xs) rise (suc i) 0 (omega (arith, in_reach)), ap (λ k. get_or (x ∷ xs) k 0) same) in
    rw (is_at_most x t (split.at_most 0 (omega arith)), later, is_at_most x (get_or xs i 0) above) refl

-- ---- the split that a binary search finds

at_first : (xs : List ℕ) → slice_get xs 0 ≡ Some 0 → (0 < length xs) × (get_or xs 0 0 ≡ 0)
at_first [] e = cc
at_first (x ∷ xs) e = (omega arith, cc)

pub parted : (xs : List ℕ) (t : ℕ) → IsLines xs → IsPartitionedBy (λ start. leb start t) xs
parted xs t lines = IsPartitionedBy-leb (λ start. start) xs t (IsNonDecreasingBy-from_default (λ start. start) xs 0 (λ i j le inside.
    let there : (j - i) + i ≡ j = omega (arith, le) in
    omega (arith, ap (λ k. get_or xs k 0) there, risen xs lines.rise (j - i) i (omega (arith, there, inside)))))

-- the line has a number, which is small, and a start
pub record IsLine (xs : List ℕ) (t i : ℕ) : Type 0 where
  pub some : 1 ≤ i
  pub few : i ≤ t + 1
  pub start : get_or xs (i - 1) 0 ≤ t
  pub number : count_by (λ start. nat_le start t) xs ≡ i
  pub starts : line_start xs t ≡ get_or xs (i - 1) 0

line : (xs : List ℕ) (t i : ℕ) → IsLines xs → IsSplit xs t i → IsLine xs t i
line xs t zero lines split =
    let first = at_first xs lines.first in
    absurd (omega (arith, first.0, first.1, split.beyond 0 (omega arith) first.0))
line xs t (suc i) lines split =
    let before : suc i - 1 ≡ i = omega arith in
    let same : i + 0 ≡ i = omega arith in
    let reach = split.at_most i (omega arith) in
    let long = risen xs lines.rise i 0 (omega (arith, split.within, same)) in
    record {
      some = omega arith;
      few = omega (arith, reach, long, ap (λ k. get_or xs k 0) same);
      start = omega (arith, reach, ap (λ k. get_or xs k 0) before);
      number = counted xs t (suc i) split;
      starts = started xs t i lines.rise split ∙ ap (λ k. get_or xs k 0) (sym before);
    }

pub line_found : (xs : List ℕ) (t i : ℕ) → IsLines xs → i ≤ length xs → IsPartitionPoint (λ start. leb start t ≡ true) (λ start. leb start t ≡ false) xs i → IsLine xs t i
line_found xs t i lines within point = line xs t i lines record {
  within = within;
  at_most = λ k l. leb-true _ _ (point.0 k 0 (omega arith) l);
  beyond = λ k l h. leb-false _ _ (point.1 k 0 l h);
}
