-- Places by the lines of a text are those that the text itself gives, and the offsets at which lines begin rise.
use Rattle.std.proofs.Common.{◌≡◌, ℕ, zero, suc, ◌+◌, ◌-◌, ◌≤◌, ◌<◌, Bool, true, false, not, cond, List, [], ◌∷◌, ◌++◌, length, take, count_by, slice_index, nat_le, refl, sym, ap, ◌∙◌, subst, arith, append_assoc, append-nil}
use Rattle.std.specs.Prelude.{◌==◌, if◌then◌else◌}
use Rattle.std.specs.List.{prefix_len, suffix_len}
use Rattle.std.specs.List.Sorted.{IsStrictlyIncreasing}
use Rattle.std.proofs.lemmas.List.{reverse-append, length-append}
use Rattle.std.proofs.lemmas.List.Sums.{sum_by-cons}
use Rattle.std.proofs.lemmas.Bool.Decides.{nat_tests}
use Rattle.jesc_text.specs.Places.{is_line_feed, line_at, column_at}
use Rattle.jesc_text.specs.declared.place.Span.{Span}
use Rattle.jesc_ast.specs.Lines.{IsLines, after_line_feeds, lines_of, line_start, place_at}

-- ---- the offsets rise

one_before : (x y : ℕ) (ys : List ℕ) → x < y → IsStrictlyIncreasing (y ∷ ys) → (k : ℕ) → k + 1 < length (x ∷ y ∷ ys)
    → slice_index (x ∷ y ∷ ys) k < slice_index (x ∷ y ∷ ys) (k + 1)
one_before x y ys lt h zero inside = lt
one_before x y ys lt h (suc k) inside =
    let next : suc (k + 1) ≡ suc k + 1 = omega arith in
    subst (λ (n : ℕ). slice_index (y ∷ ys) k < slice_index (x ∷ y ∷ ys) n) next (h k (omega arith))

behind_rise : (text : List ℕ) (first offset : ℕ) → first ≤ offset → IsStrictlyIncreasing (first ∷ after_line_feeds text offset)
behind_rise [] first offset le = λ k inside. absurd (omega arith)
behind_rise (byte ∷ text) first offset le =
    elim (byte == 10) as (λ b. IsStrictlyIncreasing (first ∷ (if b then (offset + 1) ∷ after_line_feeds text (offset + 1) else after_line_feeds text (offset + 1)))) [
      | true ↦ one_before first (offset + 1) (after_line_feeds text (offset + 1)) (omega arith) (behind_rise text (offset + 1) (offset + 1) (omega arith))
      | false ↦ behind_rise text first (offset + 1) (omega arith)
    ]

pub lines_rise : (text : List ℕ) → IsLines (lines_of text)
lines_rise text = record { first = refl; rise = behind_rise text 0 0 (omega arith) }

-- ---- lines

abbrev at_most : ℕ → ℕ → Bool
at_most offset start = nat_le start offset

is_at_most : (start offset : ℕ) → start ≤ offset → nat_le start offset ≡ true
is_at_most start offset le = grind (arith, nat_tests)

is_beyond : (start offset : ℕ) → offset < start → nat_le start offset ≡ false
is_beyond start offset lt = grind (arith, nat_tests)

-- no line begins up to here
none_begins : (text : List ℕ) (offset most : ℕ) → most ≤ offset → count_by (at_most most) (after_line_feeds text offset) ≡ 0
none_begins [] offset most le = refl
none_begins (byte ∷ text) offset most le = by_feed (byte == 10) (none_begins text (offset + 1) most (omega arith))
  where
    by_feed : (v : Bool) → count_by (at_most most) (after_line_feeds text (offset + 1)) ≡ 0
        → count_by (at_most most) (if v then (offset + 1) ∷ after_line_feeds text (offset + 1) else after_line_feeds text (offset + 1)) ≡ 0
    by_feed false rest = rest
    by_feed true rest = sum_by-cons (λ s. cond (at_most most s) 1 0) (offset + 1) (after_line_feeds text (offset + 1)) ∙ rw (is_beyond (offset + 1) most (omega arith)) (omega (arith, rest))

lines_counted : (text : List ℕ) (offset m : ℕ) → count_by (at_most (offset + m)) (after_line_feeds text offset) ≡ count_by is_line_feed (take m text)
lines_counted text offset zero = none_begins text offset (offset + zero) (omega arith)
lines_counted [] offset (suc m) = refl
lines_counted (byte ∷ text) offset (suc m) =
    let place : offset + suc m ≡ offset + 1 + m = omega arith in
    rw place (by_feed (byte == 10) refl (lines_counted text (offset + 1) m))
  where
    by_feed : (v : Bool) → (byte == 10) ≡ v → count_by (at_most (offset + 1 + m)) (after_line_feeds text (offset + 1)) ≡ count_by is_line_feed (take m text)
        → count_by (at_most (offset + 1 + m)) (if v then (offset + 1) ∷ after_line_feeds text (offset + 1) else after_line_feeds text (offset + 1)) ≡ count_by is_line_feed (byte ∷ take m text)
    by_feed false is rest = rest ∙ sym (sum_by-cons (λ b. cond (is_line_feed b) 1 0) byte (take m text) ∙ rw is (omega arith))
    by_feed true is rest =
        let starts = after_line_feeds text (offset + 1) in
        let left : count_by (at_most (offset + 1 + m)) ((offset + 1) ∷ starts) ≡ 1 + count_by (at_most (offset + 1 + m)) starts = sum_by-cons (λ s. cond (at_most (offset + 1 + m) s) 1 0) (offset + 1) starts ∙ rw (is_at_most (offset + 1) (offset + 1 + m) (omega arith)) refl in
        let right : count_by is_line_feed (byte ∷ take m text) ≡ 1 + count_by is_line_feed (take m text) = sum_by-cons (λ b. cond (is_line_feed b) 1 0) byte (take m text) ∙ rw is refl in
        left ∙ ap (λ n. 1 + n) rest ∙ sym right

-- ---- columns

abbrev in_line : ℕ → Bool
in_line byte = not (is_line_feed byte)

pushed : (front : List ℕ) (byte : ℕ) → suffix_len in_line (front ++ byte ∷ []) ≡ cond (in_line byte) (1 + suffix_len in_line front) 0
pushed front byte = ap (prefix_len in_line) (reverse-append front (byte ∷ []))

-- the start of a line is not before the first of the starts that is not beyond the offset
start_least : (start offset : ℕ) (starts : List ℕ) → start ≤ offset → start ≤ line_start (start ∷ starts) offset
start_least start offset starts le = rw (is_at_most start offset le) (by_later (nat_le start (line_start starts offset)) refl)
  where
    by_later : (v : Bool) → nat_le start (line_start starts offset) ≡ v → start ≤ (if v then line_start starts offset else start)
    by_later true is = grind (arith, nat_tests)
    by_later false is = omega arith

none_starts : (text : List ℕ) (offset most : ℕ) → most ≤ offset → line_start (after_line_feeds text offset) most ≡ 0
none_starts [] offset most le = refl
none_starts (byte ∷ text) offset most le = by_feed (byte == 10) (none_starts text (offset + 1) most (omega arith))
  where
    by_feed : (v : Bool) → line_start (after_line_feeds text (offset + 1)) most ≡ 0
        → line_start (if v then (offset + 1) ∷ after_line_feeds text (offset + 1) else after_line_feeds text (offset + 1)) most ≡ 0
    by_feed false rest = rest
    by_feed true rest = rw (is_beyond (offset + 1) most (omega arith)) refl

start_alone : (start offset : ℕ) (starts : List ℕ) → start ≤ offset → line_start starts offset ≡ 0 → line_start (start ∷ starts) offset ≡ start
start_alone start offset starts le none = rw (is_at_most start offset le, none) (by_zero (nat_le start 0) refl)
  where
    by_zero : (v : Bool) → nat_le start 0 ≡ v → (if v then 0 else start) ≡ start
    by_zero true is = grind (arith, nat_tests)
    by_zero false is = refl

start_later : (start offset : ℕ) (starts : List ℕ) → start ≤ offset → start ≤ line_start starts offset → line_start (start ∷ starts) offset ≡ line_start starts offset
start_later start offset starts le later = rw (is_at_most start offset le, is_at_most start (line_start starts offset) later) refl

-- Behind a front of a text, where the line that goes on there begins with the bytes behind the last line feed.
start_found : (text front : List ℕ) (m start : ℕ) → m ≤ length text → start + suffix_len in_line front ≡ length front
    → line_start (start ∷ after_line_feeds text (length front)) (length front + m) + suffix_len in_line (front ++ take m text) ≡ length front + m
start_found text front zero start within here =
    let alone = start_alone start (length front + zero) (after_line_feeds text (length front)) (omega (arith, here)) (none_starts text (length front) (length front + zero) (omega arith)) in
    rw (alone, append-nil front) (omega (arith, here))
start_found [] front (suc m) start within here = absurd (omega arith)
start_found (byte ∷ text) front (suc m) start within here =
    by_feed (byte == 10) refl (λ next h. start_found text (front ++ byte ∷ []) m next (omega arith) h)
  where
    size : length (front ++ byte ∷ []) ≡ length front + 1
    size = length-append front (byte ∷ [])

    by_feed : (v : Bool) → (byte == 10) ≡ v
        → ((next : ℕ) → next + suffix_len in_line (front ++ byte ∷ []) ≡ length (front ++ byte ∷ [])
        → line_start (next ∷ after_line_feeds text (length (front ++ byte ∷ []))) (length (front ++ byte ∷ []) + m) + suffix_len in_line ((front ++ byte ∷ []) ++ take m text) ≡ length (front ++ byte ∷ []) + m)
        → line_start (start ∷ (if v then (length front + 1) ∷ after_line_feeds text (length front + 1) else after_line_feeds text (length front + 1))) (length front + suc m)
        + suffix_len in_line (front ++ byte ∷ take m text) ≡ length front + suc m
    by_feed false is rest =
        let more : suffix_len in_line (front ++ byte ∷ []) ≡ 1 + suffix_len in_line front = pushed front byte ∙ rw is refl in
        let place : length front + suc m ≡ length (front ++ byte ∷ []) + m = omega (arith, size) in
        let found = rest start (omega (arith, more, size, here)) in
        rw (place, ← size, ← append_assoc front (byte ∷ []) (take m text)) found
    by_feed true is rest =
        let none : suffix_len in_line (front ++ byte ∷ []) ≡ 0 = pushed front byte ∙ rw is refl in
        let place : length front + suc m ≡ length (front ++ byte ∷ []) + m = omega (arith, size) in
        let found = rest (length (front ++ byte ∷ [])) (omega (arith, none)) in
        let least = start_least (length (front ++ byte ∷ [])) (length (front ++ byte ∷ []) + m) (after_line_feeds text (length (front ++ byte ∷ []))) (omega arith) in
        let later = start_later start (length (front ++ byte ∷ []) + m) (length (front ++ byte ∷ []) ∷ after_line_feeds text (length (front ++ byte ∷ []))) (omega (arith, here, size)) (omega (arith, least, here, size)) in
        rw (place, ← size, ← append_assoc front (byte ∷ []) (take m text)) (rw later found)

-- ---- places

line_is : (text : List ℕ) (offset : ℕ) → count_by (at_most offset) (lines_of text) ≡ line_at text offset
line_is text offset =
    let place : 0 + offset ≡ offset = omega arith in
    sum_by-cons (λ s. cond (at_most offset s) 1 0) 0 (after_line_feeds text 0)
    ∙ rw (is_at_most 0 offset (omega arith)) (ap (λ n. 1 + n) (ap (λ k. count_by (at_most k) (after_line_feeds text 0)) (sym place) ∙ lines_counted text 0 offset))

column_is : (text : List ℕ) (offset : ℕ) → offset ≤ length text → offset - line_start (lines_of text) offset + 1 ≡ column_at text offset
column_is text offset within =
    let place : 0 + offset ≡ offset = omega arith in
    let found : line_start (lines_of text) offset + suffix_len in_line (take offset text) ≡ offset = subst (λ k. line_start (lines_of text) k + suffix_len in_line (take offset text) ≡ k) place (start_found text [] offset 0 within refl) in
    omega (arith, found)

pub place_is : (text : List ℕ) (span : Span) → span.from ≤ length text
    → place_at (lines_of text) span ≡ record { file = span.file; line = line_at text span.from; col = column_at text span.from }
place_is text span within =
    let line = line_is text span.from in
    let column = column_is text span.from within in
    λ i. record { file = span.file; line = line i; col = column i }
