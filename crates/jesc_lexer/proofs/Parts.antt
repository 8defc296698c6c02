-- The parts of comments and annotations.
use Rattle.std.proofs.Common.{◌≡◌, ◌≤◌, ◌<◌, ℕ, ◌+◌, ◌-◌, List, [], ◌∷◌, ◌++◌, length, drop, take, refl, sym, ap, ◌∙◌, arith, Bool, true, false, not, cond, zero, suc, get_or, ◌&&◌, nat_eq, codes, find, reverse, Option, Some, None, append_assoc, length-append, length-drop, length-take-le, take-append-drop}
use Rattle.std.specs.List.{prefix_len, suffix_len, starts_with, list_all}
use Rattle.std.specs.Option.{option_map}
use Rattle.std.specs.Str.{chars}
use Rattle.std.proofs.lemmas.List.{drop-drop, drop-append-le, take-append-le, drop_more, drop_at, get_or-drop, get_or-reverse, length-reverse, get_or-take, get_or_push}
use Rattle.std.proofs.lemmas.List.Sums.{prefix_len_passes, prefix_len_stops, suffix_len-le-length}
use Rattle.std.proofs.lemmas.Slice.Eq.{starts_is}
use Rattle.std.proofs.lemmas.Bool.{and_parts, and_from}
use Rattle.std.proofs.lemmas.Bool.Decides.{nat_tests, Decides-eqb}
use Rattle.unicode_ident.proofs.IdentLemmas.{is_xid_continue-ascii}
use Rattle.jesc_lexer.specs.Characters.{is_at_sign, is_key_mark, begins}
use Rattle.jesc_lexer.specs.Elements.{IsClosed, HasKeys, IsPlain, IsTrimmed}
use Rattle.jesc_lexer.specs.Pieces.{closing, is_conditional, is_key_part, is_at}
use Rattle.jesc_lexer.proofs.Fronts.{begins-append, run_stops}
use Rattle.jesc_lexer.proofs.Steps.{Closes, closing_place}

-- ---- lists

pub all_from : (p : ℕ → Bool) (xs : List ℕ) → ((k : ℕ) → k < length xs → p (get_or xs k 0) ≡ true) → list_all p xs ≡ true
all_from p [] passes = refl
all_from p (x ∷ xs) passes = and_from (p x) (list_all p xs) (passes 0 (omega arith)) (all_from p xs (λ k within. passes (suc k) (omega arith)))

pub all_drop : (p : ℕ → Bool) (k : ℕ) (xs : List ℕ) → list_all p xs ≡ true → list_all p (drop k xs) ≡ true
all_drop p zero xs all = all
all_drop p (suc k) [] all = refl
all_drop p (suc k) (x ∷ xs) all = all_drop p k xs (and_parts (p x) (list_all p xs) all).1

-- the run at the end
pub all_suffix : (p : ℕ → Bool) (xs : List ℕ) → list_all p (drop (length xs - suffix_len p xs) xs) ≡ true
all_suffix p xs = all_from p (drop (length xs - suffix_len p xs) xs) passes
  where
    passes : (k : ℕ) → k < length (drop (length xs - suffix_len p xs) xs) → p (get_or (drop (length xs - suffix_len p xs) xs) k 0) ≡ true
    passes k within =
        let n = length xs - suffix_len p xs in
        let long = suffix_len-le-length p xs in
        let size = length-drop n xs in
        let j = length xs - 1 - (n + k) in
        let there : length xs - 1 - j ≡ n + k = omega (arith, size, within, long) in
        let one = prefix_len_passes p (reverse xs) j 0 (omega (arith, size, within, long)) in
        ap p (get_or-drop n xs k 0 ∙ ap (λ i. get_or xs i 0) (sym there) ∙ sym (get_or-reverse xs j 0 (omega (arith, size, within)))) ∙ one

-- what stands before the run at the end doesn't end with one that passes
pub before_suffix : (xs front : List ℕ) → take (length xs - suffix_len is_at_sign xs) xs ≡ front ++ (64 ∷ []) → ⊥
before_suffix xs front is =
    let trail = suffix_len is_at_sign xs in
    let long = suffix_len-le-length is_at_sign xs in
    let n = length xs - trail in
    let size : n ≡ length front + 1 = sym (length-take-le n xs (omega arith)) ∙ ap length is ∙ length-append front (64 ∷ []) in
    let short : trail < length xs = omega (arith, size, long) in
    let stops = prefix_len_stops is_at_sign (reverse xs) 0 (omega (arith, short, length-reverse xs)) in
    let seen = get_or-reverse xs trail 0 short in
    let place : length xs - 1 - trail ≡ length front = omega (arith, size, short) in
    let last : get_or xs (length front) 0 ≡ 64 = sym (get_or-take n xs (length front) 0 (omega (arith, size))) ∙ ap (λ l. get_or l (length front) 0) is ∙ get_or_push front 64 0 (length front) refl in
    let both : true ≡ false = ap is_at_sign (sym last) ∙ ap (λ i. is_at_sign (get_or xs i 0)) (sym place) ∙ ap is_at_sign (sym seen) ∙ stops in
    cc

-- ---- at signs

pub at_sign_first : (xs : List ℕ) → starts_with nat_eq xs (codes "@") ≡ begins is_at_sign xs
at_sign_first [] = refl
at_sign_first (x ∷ xs) = one x
  where
    one : (x : ℕ) → (nat_eq 64 x && true) ≡ is_at_sign x
    one x = grind (arith, nat_tests)

pub take_unmarked : (m : ℕ) (xs : List ℕ) → begins is_at_sign xs ≡ false → begins is_at_sign (take m xs) ≡ false
take_unmarked zero xs none = refl
take_unmarked (suc m) [] none = refl
take_unmarked (suc m) (x ∷ xs) none = none

-- ---- closing

-- the rest of a text from a `*/` on
pub closed_rest : (rest : List ℕ) (k : ℕ) → Closes rest k → rest ≡ take k rest ++ (codes "*/" ++ drop (k + 2) rest)
closed_rest rest k closes =
    let next : k + 1 + 1 ≡ k + 2 = omega arith in
    let star : drop k rest ≡ 42 ∷ drop (k + 1) rest = drop_more rest k 0 (omega (arith, closes.within)) ∙ ap (λ b. b ∷ drop (k + 1) rest) closes.star in
    let slash : drop (k + 1) rest ≡ 47 ∷ drop (k + 2) rest = drop_more rest (k + 1) 0 (omega (arith, closes.within)) ∙ ap (λ b. b ∷ drop (k + 1 + 1) rest) closes.slash ∙ ap (λ i. 47 ∷ drop i rest) next in
    sym (take-append-drop k rest) ∙ ap (λ l. take k rest ++ l) (star ∙ ap (λ l. 42 ∷ l) slash)

-- no `*/` begins before the first
closing_first : (bytes : List ℕ) (k j : ℕ) → closing bytes ≡ Some k → j < k → starts_with nat_eq (drop j bytes) (codes "*/") ≡ false
unfolding closing
closing_first [] k j found less = absurd (cc)
closing_first (b ∷ bytes) k j found less = by_fit (closing_first bytes) (starts_with nat_eq (b ∷ bytes) (codes "*/")) refl found
  where
    moved : (j : ℕ) → j < k → starts_with nat_eq (b ∷ bytes) (codes "*/") ≡ false → ((i l : ℕ) → closing bytes ≡ Some i → l < i → starts_with nat_eq (drop l bytes) (codes "*/") ≡ false)
        → (place : Option ℕ) → closing bytes ≡ place → option_map (λ i. i + 1) place ≡ Some k → starts_with nat_eq (drop j (b ∷ bytes)) (codes "*/") ≡ false
    moved j less other rest None none found = absurd (cc)
    moved zero less other rest (Some i) there found = other
    moved (suc j) less other rest (Some i) there found = let same : i + 1 ≡ k = cc in rest i j there (omega (arith, same, less))

    by_fit : ((i l : ℕ) → closing bytes ≡ Some i → l < i → starts_with nat_eq (drop l bytes) (codes "*/") ≡ false) → (v : Bool) → starts_with nat_eq (b ∷ bytes) (codes "*/") ≡ v
        → cond v (Some 0) (option_map (λ i. i + 1) (closing bytes)) ≡ Some k → starts_with nat_eq (drop j (b ∷ bytes)) (codes "*/") ≡ false
    by_fit rest true fit found = let same : 0 ≡ k = cc in absurd (omega (arith, same, less))
    by_fit rest false fit found = moved j less fit rest (closing bytes) refl found

at_least : (n m : ℕ) → (m < n → ⊥) → n ≤ m
at_least n m h = grind arith

pub is_closed : (rest : List ℕ) (k : ℕ) → closing rest ≡ Some k → IsClosed (take k rest)
is_closed rest k found = λ early late spells. at_least (length (take k rest)) (length early) (λ less. never early late spells less)
  where
    never : (early late : List ℕ) → take k rest ++ codes "*/" ≡ early ++ (codes "*/" ++ late) → length early < length (take k rest) → ⊥
    never early late spells less =
        let closes = closing_place rest k found in
        let size : length (take k rest) ≡ k = length-take-le k rest (omega (arith, closes.within)) in
        let more = drop (k + 2) rest in
        let whole : rest ≡ early ++ (codes "*/" ++ (late ++ more)) = closed_rest rest k closes ∙ sym (append_assoc (take k rest) (codes "*/") more) ∙ ap (λ l. l ++ more) spells ∙ append_assoc early (codes "*/" ++ late) more in
        let there : drop (length early) rest ≡ codes "*/" ++ (late ++ more) = ap (drop (length early)) whole ∙ drop_at early (codes "*/" ++ (late ++ more)) (length early) refl in
        let fit = (starts_is Decides-eqb (drop (length early) rest) (codes "*/") (starts_with nat_eq (drop (length early) rest) (codes "*/")) refl).1 (late ++ more) there in
        let none = closing_first rest k (length early) found (omega (arith, less, size)) in
        let both : true ≡ false = sym fit ∙ none in cc

-- ---- keys

sign_ends_keys : is_key_part 64 ≡ false
sign_ends_keys = rw (is_xid_continue-ascii 64 (omega arith)) refl

find_behind : (keys others : List ℕ) → list_all is_key_part keys ≡ true → find (λ c. not (is_key_part c)) (keys ++ (64 ∷ others)) ≡ Some 64
find_behind [] others all = rw sign_ends_keys refl
find_behind (c ∷ keys) others all =
    let parts = and_parts (is_key_part c) (list_all is_key_part keys) all in rw (parts.0) (find_behind keys others parts.1)

keys_conditional : (text : List ℕ) → HasKeys text → is_conditional text ≡ true
unfolding is_conditional
keys_conditional text has =
    and_from (begins is_key_mark (chars text)) (is_at (find (λ c. not (is_key_part c)) (chars text)))
    (ap (begins is_key_mark) has.spells ∙ begins-append is_key_mark has.keys (64 ∷ has.others) has.starts)
    (ap (λ l. is_at (find (λ c. not (is_key_part c)) l)) has.spells ∙ ap is_at (find_behind has.keys has.others has.goes))

pub is_plain : (text body rest : List ℕ) → text ≡ body ++ rest → is_conditional text ≡ false → starts_with nat_eq body (codes "@") ≡ false → IsPlain body rest
is_plain text body rest spells plain unmarked = record {
  unmarked = sym (at_sign_first body) ∙ unmarked;
  without_keys = λ has. let both : true ≡ false = sym (keys_conditional (body ++ rest) has) ∙ ap is_conditional (sym spells) ∙ plain in cc;
}

-- ---- the inside of an annotation

pub inside_is : (bytes body behind : List ℕ) (lead last : ℕ) → drop 2 bytes ≡ body ++ behind → lead ≤ last → last ≤ length body
    → take (2 + last - (2 + lead)) (drop (2 + lead) bytes) ≡ take (last - lead) (drop lead body)
inside_is bytes body behind lead last spells order within =
    let size : 2 + last - (2 + lead) ≡ last - lead = omega arith in
    let from : drop (2 + lead) bytes ≡ drop lead body ++ behind = sym (drop-drop lead 2 bytes) ∙ ap (drop lead) spells ∙ drop-append-le lead body behind (omega arith) in
    ap (λ n. take n (drop (2 + lead) bytes)) size ∙ ap (take (last - lead)) from ∙ take-append-le (last - lead) (drop lead body) behind (omega (arith, length-drop lead body))

pub is_trimmed : (body : List ℕ) → IsTrimmed (take (length (drop (prefix_len is_at_sign body) body) - suffix_len is_at_sign (drop (prefix_len is_at_sign body) body)) (drop (prefix_len is_at_sign body) body))
is_trimmed body =
    let xs = drop (prefix_len is_at_sign body) body in
    record {
      front = take_unmarked (length xs - suffix_len is_at_sign xs) xs (run_stops is_at_sign body);
      back = λ front is. before_suffix xs front is;
    }
