-- The table of the starts of lines, as it grows over a text, byte by byte.
use Rattle.std.proofs.Common.{◌≡◌, ℕ, ◌+◌, ◌-◌, ◌<◌, ◌≤◌, true, false, not, List, [], ◌∷◌, ◌++◌, length, get_or, take, refl, sym, ◌∙◌, ap, subst, arith, length-append, ◌≢◌}
use Rattle.std.proofs.lemmas.List.{get_or_append_left, get_or-append-add, length-take-le}
use Rattle.std.proofs.lemmas.List.Sums.{count_by_more_yes, count_by_more_no, count_by-le-length, suffix_len-take_yes, suffix_len-take_no}
use Rattle.std.proofs.lemmas.Bool.Decides.{nat_tests}
use borrow.Author.Count.{below_more}
use Rattle.std.specs.List.{suffix_len}
use Rattle.jesc_text.specs.Places.{is_line_feed, line_at, column_at}
use Rattle.jesc_engine.specs.Starts.{StartsUpTo}

line_same : (bytes : List ℕ) (i : ℕ) → i < length bytes → is_line_feed (get_or bytes i 0) ≡ false → line_at bytes (i + 1) ≡ line_at bytes i
line_same bytes i within other = omega (arith, count_by_more_no is_line_feed bytes i 0 within other)

line_next : (bytes : List ℕ) (i : ℕ) → i < length bytes → is_line_feed (get_or bytes i 0) ≡ true → line_at bytes (i + 1) ≡ line_at bytes i + 1
line_next bytes i within feed = omega (arith, count_by_more_yes is_line_feed bytes i 0 within feed)

back : (i : ℕ) → i + 1 - 1 ≡ i
back i = omega arith

back_zero : (n : ℕ) → n ≡ n + 0
back_zero n = omega arith

column_next : (bytes : List ℕ) (i : ℕ) → i < length bytes → is_line_feed (get_or bytes i 0) ≡ false → column_at bytes (i + 1) ≡ column_at bytes i + 1
column_next bytes i within other =
    let test : not (is_line_feed (get_or bytes (i + 1 - 1) 0)) ≡ true = ap (λ k. not (is_line_feed (get_or bytes k 0))) (back i) ∙ ap not other in
    let step = suffix_len-take_yes (λ byte. not (is_line_feed byte)) bytes (i + 1) 0 (omega arith) (omega arith) test in
    ap (λ k. 1 + k) step ∙ ap (λ k. 1 + (1 + suffix_len (λ byte. not (is_line_feed byte)) (take k bytes))) (back i) ∙ omega arith

column_first : (bytes : List ℕ) (i : ℕ) → i < length bytes → is_line_feed (get_or bytes i 0) ≡ true → column_at bytes (i + 1) ≡ 1
column_first bytes i within feed =
    let test : not (is_line_feed (get_or bytes (i + 1 - 1) 0)) ≡ false = ap (λ k. not (is_line_feed (get_or bytes k 0))) (back i) ∙ ap not feed in
    ap (λ k. 1 + k) (suffix_len-take_no (λ byte. not (is_line_feed byte)) bytes (i + 1) 0 (omega arith) (omega arith) test)

pub line_within : (bytes : List ℕ) (i : ℕ) → i ≤ length bytes → line_at bytes i ≤ i + 1
line_within bytes i within = omega (arith, count_by-le-length is_line_feed (take i bytes), length-take-le i bytes within)

-- what holds up to i, and at i + 1
up_to : (P : ℕ → Type 0) (i : ℕ) → ((k : ℕ) → k ≤ i → P k) → P (i + 1) → (k : ℕ) → k ≤ i + 1 → P k
up_to P i below here k small = below_more P (i + 1) (λ j less. below j (omega arith)) here k (omega arith)

at_zero : (P : ℕ → Type 0) → P 0 → (k : ℕ) → k ≤ 0 → P k
at_zero P here k none = let e : 0 ≡ k = omega arith in subst P e here

pub starts_none : (bytes : List ℕ) → StartsUpTo bytes 0 (0 ∷ [])
starts_none bytes = record {
  count = refl;
  later = λ offset k small there early. at_zero (λ o. k < line_at bytes o) there offset small;
  earlier = λ offset k small there. at_zero (λ o. k < line_at bytes o → get_or (0 ∷ []) k 0 ≤ o) (λ front. let e : 0 ≡ k = omega arith in subst (λ j. get_or (0 ∷ []) j 0 ≤ 0) e (omega arith)) offset small there;
  column = λ offset small. at_zero (λ o. get_or (0 ∷ []) (line_at bytes o - 1) 0 + column_at bytes o ≡ o + 1) refl offset small;
  within = λ offset small. at_zero (λ o. line_at bytes o ≤ 1) (omega arith) offset small;
}

pub starts_other : (bytes starts : List ℕ) (i : ℕ) → i < length bytes → is_line_feed (get_or bytes i 0) ≡ false
    → StartsUpTo bytes i starts → StartsUpTo bytes (i + 1) starts
starts_other bytes starts i within other table =
    let line = line_same bytes i within other in
    let column = column_next bytes i within other in
    let count : length starts ≡ line_at bytes i = table.count in
    record {
      count = table.count ∙ sym line;
      later = λ offset k small. up_to (λ o. k < length starts → get_or starts k 0 ≤ o → k < line_at bytes o) i (λ o less. table.later o k less) (λ there early. omega (arith, line, count, there)) offset small;
      earlier = λ offset k small. up_to (λ o. k < line_at bytes o → get_or starts k 0 ≤ o) i (λ o less. table.earlier o k less) (λ there. omega (arith, table.earlier i k (omega arith) (omega (arith, line, there)))) offset small;
      column = up_to (λ o. get_or starts (line_at bytes o - 1) 0 + column_at bytes o ≡ o + 1) i (λ o less. table.column o less)
          (ap (λ l. get_or starts (l - 1) 0 + column_at bytes (i + 1)) line ∙ omega (arith, column, table.column i (omega arith)));
      within = up_to (λ o. line_at bytes o ≤ length starts) i (λ o less. table.within o less) (omega (arith, line, count));
    }

pub starts_feed : (bytes starts : List ℕ) (i : ℕ) → i < length bytes → is_line_feed (get_or bytes i 0) ≡ true
    → StartsUpTo bytes i starts → StartsUpTo bytes (i + 1) (starts ++ (i + 1) ∷ [])
starts_feed bytes starts i within feed table =
    let line = line_next bytes i within feed in
    let column = column_first bytes i within feed in
    let count : length starts ≡ line_at bytes i = table.count in
    let longer : length (starts ++ (i + 1) ∷ []) ≡ length starts + 1 = length-append starts ((i + 1) ∷ []) in
    let last : get_or (starts ++ (i + 1) ∷ []) (length starts) 0 ≡ i + 1 = ap (λ k. get_or (starts ++ (i + 1) ∷ []) k 0) (back_zero (length starts)) ∙ get_or-append-add starts ((i + 1) ∷ []) 0 0 in
    let old : (k : ℕ) → k < length starts → get_or (starts ++ (i + 1) ∷ []) k 0 ≡ get_or starts k 0 = λ k there. get_or_append_left starts ((i + 1) ∷ []) 0 k there in
    let more = starts ++ (i + 1) ∷ [] in
    let at_or_before : (P : ℕ → Type 0) → ((k : ℕ) → k < length starts → P k) → P (length starts) → (k : ℕ) → k < length starts + 1 → P k = λ P below here. below_more P (length starts) below here in
    record {
      count = longer ∙ ap (λ k. k + 1) count ∙ sym line;
      later = λ offset k small there early.
          up_to (λ o. k < length more → get_or more k 0 ≤ o → k < line_at bytes o) i
          (λ o less within_more. at_or_before (λ j. get_or more j 0 ≤ o → j < line_at bytes o)
          (λ j low early_j. table.later o j less low (omega (arith, old j low, early_j)))
          (λ early_j. absurd (omega (arith, last, early_j, less))) k (omega (arith, longer, within_more)))
          (λ within_more early_k. omega (arith, line, count, longer, within_more)) offset small there early;
      earlier = λ offset k small there.
          up_to (λ o. k < line_at bytes o → get_or more k 0 ≤ o) i
          (λ o less low. omega (arith, old k (omega (arith, table.within o less, low)), table.earlier o k less low))
          (λ low. at_or_before (λ j. get_or more j 0 ≤ i + 1)
          (λ j less. omega (arith, old j less, table.earlier i j (omega arith) (omega (arith, count, less))))
          (omega (arith, last)) k (omega (arith, line, count, low))) offset small there;
      column = up_to (λ o. get_or more (line_at bytes o - 1) 0 + column_at bytes o ≡ o + 1) i
          (λ o less. omega (arith, old (line_at bytes o - 1) (omega (arith, table.within o less)), table.column o less))
          (ap (λ l. get_or more (l - 1) 0 + column_at bytes (i + 1)) (line ∙ ap (λ k. k + 1) (sym count)) ∙ ap (λ k. get_or more k 0 + column_at bytes (i + 1)) (back (length starts)) ∙ omega (arith, last, column));
      within = up_to (λ o. line_at bytes o ≤ length more) i (λ o less. omega (arith, table.within o less, longer)) (omega (arith, line, count, longer));
    }

-- a line feed adds a start, and another byte adds none
pub starts_grown : (bytes starts more : List ℕ) (i : ℕ) → i < length bytes → get_or bytes i 0 ≡ 10
    → StartsUpTo bytes i starts → more ≡ starts ++ (i + 1) ∷ [] → StartsUpTo bytes (i + 1) more
starts_grown bytes starts more i within feed table gained =
    let test : is_line_feed (get_or bytes i 0) ≡ true = grind (arith, nat_tests) in
    subst (λ xs. StartsUpTo bytes (i + 1) xs) (sym gained) (starts_feed bytes starts i within test table)

pub starts_kept : (bytes starts more : List ℕ) (i : ℕ) → i < length bytes → get_or bytes i 0 ≢ 10
    → StartsUpTo bytes i starts → more ≡ starts → StartsUpTo bytes (i + 1) more
starts_kept bytes starts more i within other table same =
    let test : is_line_feed (get_or bytes i 0) ≡ false = grind (arith, nat_tests) in
    subst (λ xs. StartsUpTo bytes (i + 1) xs) (sym same) (starts_other bytes starts i within test table)
