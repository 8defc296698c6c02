-- Files of certificates: which lines begin one.
use Rattle.std.proofs.Common.{◌≡◌, ℕ, zero, suc, ◌+◌, ◌-◌, ◌<◌, ◌≤◌, ◌^◌, ℤ, pos, List, [], ◌∷◌, ◌++◌, length, get_or, take, drop, rules, refl, sym, ap, ◌∙◌, subst, arith, append_assoc, ◌⊎◌, inl, inr}
use Rattle.std.specs.Prelude.{All, map, codes, count_by}
use Rattle.std.specs.Fmt.{decimal, signed_decimal}
use Rattle.std.proofs.lemmas.List.{take-append-drop, take_at, take_all, take_rest, length-take, length-append, append-nil}
use Rattle.std.proofs.lemmas.List.Elements.{All-head, All-tail, All-nil, All-cons, All-append, All-take, All-weaker}
use Rattle.jesc_text.specs.Places.{is_line_feed}
use Rattle.jesc_cert.specs.declared.cert.Cert.{Cert}
use Rattle.jesc_cert.specs.declared.cert.CertLine.{CertLine}
use Rattle.jesc_cert.specs.declared.cert.CertKind.{CertKind}
use Rattle.jesc_cert.specs.declared.cert.CertKind.TheVariants.{T, G, R, Q, S, C, M}
use Rattle.jesc_cert.specs.declared.cert.Certs.{Certs}
use Rattle.jesc_cert.specs.Texts.{ended, IsBlock, IsLine, line_text, letter, numbers_text, cond_text, block_lines, blocks_lines, file_lines, HaveText, IsText, Begin, IsBad}
use Rattle.jesc_cert.specs.Inner.{Without, StopsAt, StopsBehind, IsLineText, IsCondText, IsCond, IsWithin, IsStuck, IsFeed, AreBlocks}
use Rattle.jesc_cert.proofs.Pieces.{split_same, without_joined, without_all, text_front}
use Rattle.std.specs.List.{starts_with}
use Rattle.std.proofs.Common.{true, false, nat_eq, Bool, cond}
use Rattle.std.proofs.lemmas.List.Recursion.{is_count_by}
use Rattle.std.proofs.lemmas.Slice.Eq.{starts_is}
use Rattle.std.proofs.lemmas.Bool.Decides.{Decides-eqb}
use Rattle.jesc_cert.proofs.Blocks.{Takes, joined, feed_takes}
use Rattle.jesc_cert.proofs.Numerals.{number_without}
use Rattle.jesc_cert.proofs.Conds.{name_without}

-- ---- no text has a line feed

numbers_without : (ns : List ℤ) → All IsWithin ns → Without 10 (numbers_text ns)
numbers_without [] all = tt
numbers_without (n ∷ ns) all =
    ((λ e. omega (arith, e)), without_joined 10 (signed_decimal n) (numbers_text ns) (number_without 10 (omega arith) n (All-head IsWithin n ns all)) (numbers_without ns (All-tail IsWithin n ns all)))

letter_without : (k : CertKind) → Without 10 (letter k)
letter_without T = ((λ e. omega (arith, e)), tt)
letter_without G = ((λ e. omega (arith, e)), tt)
letter_without R = ((λ e. omega (arith, e)), tt)
letter_without Q = ((λ e. omega (arith, e)), tt)
letter_without S = ((λ e. omega (arith, e)), tt)
letter_without C = ((λ e. omega (arith, e)), tt)
letter_without M = ((λ e. omega (arith, e)), tt)

line_without : (l : CertLine) → IsLine l → Without 10 (line_text l)
line_without l h = without_joined 10 (letter l.kind) (numbers_text l.numbers) (letter_without l.kind) (numbers_without l.numbers h.within)

decimal_without : (n : ℕ) → n < 2 ^ 32 → Without 10 (decimal n)
decimal_without n small = number_without 10 (omega arith) (pos n) (omega (arith, small))

cond_without : (duty : List ℕ) (number : ℕ) → IsCond duty number → Without 10 (cond_text duty number)
cond_without duty number h = (
  (λ e. omega (arith, e)),
  (
    (λ e. omega (arith, e)),
    (
      (λ e. omega (arith, e)),
      (
        (λ e. omega (arith, e)),
        (
          (λ e. omega (arith, e)),
          without_joined 10 duty (32 ∷ decimal number) (name_without duty h.name).1 ((λ e. omega (arith, e)), decimal_without number h.small),
        ),
      ),
    ),
  ),
)

-- ---- what the lines of blocks are

abbrev pub Middle : List ℕ → Type 0
Middle text = IsCondText text ⊎ IsLineText text

middle_without : (t : List ℕ) → Middle t → Without 10 t
middle_without t (inl (duty, number, is, e)) = subst (Without 10) (sym e) (cond_without duty number is)
middle_without t (inr (l, is, e)) = subst (Without 10) (sym e) (line_without l is)

letter_front : (k : CertKind) (t : List ℕ) → get_or (letter k ++ t) 0 0 ≡ 101 → ⊥
letter_front T t e = omega (arith, e)
letter_front G t e = omega (arith, e)
letter_front R t e = omega (arith, e)
letter_front Q t e = omega (arith, e)
letter_front S t e = omega (arith, e)
letter_front C t e = omega (arith, e)
letter_front M t e = omega (arith, e)

middle_goes_on : (t : List ℕ) → Middle t → t ≡ codes "end" → ⊥
middle_goes_on t (inl (duty, number, is, e)) f = omega (arith, ap (λ x. get_or x 0 0) (sym e ∙ f))
middle_goes_on t (inr (l, is, e)) f = letter_front l.kind (numbers_text l.numbers) (ap (λ x. get_or x 0 0) (sym e ∙ f))

lines_middle : (ls : List CertLine) → All IsLine ls → All Middle (map line_text ls)
lines_middle [] all = All-nil Middle
lines_middle (l ∷ ls) all = All-cons Middle (line_text l) (map line_text ls) (inr (l, All-head IsLine l ls all, refl)) (lines_middle ls (All-tail IsLine l ls all))

block_cond : (b : List ℕ × ℕ × Cert) → IsBlock b → IsCondText (cond_text b.0 b.1)
block_cond b h = (b.0, b.1, record { some = h.some; name = h.name; small = h.number }, refl)

pub blocks_middle : (bs : List (List ℕ × ℕ × Cert)) → All IsBlock bs → All Middle (blocks_lines bs)
blocks_middle [] all = All-nil Middle
blocks_middle (b ∷ bs) all =
    let h = All-head IsBlock b bs all in
    All-append Middle (block_lines b) (blocks_lines bs) (All-cons Middle (cond_text b.0 b.1) (map line_text b.2.lines) (inl (block_cond b h)) (lines_middle b.2.lines h.lines)) (blocks_middle bs (All-tail IsBlock b bs all))

abbrev pub Apart : List ℕ → Type 0
Apart = Without 10

pub middles_apart : (ls : List (List ℕ)) → All Middle ls → All Apart ls
middles_apart ls all = All-weaker Middle Apart middle_without ls all

pub first_apart : Apart (codes "jescert 1")
first_apart = search rules

pub rounds_apart : (n : ℕ) → n ≤ 5 → Apart (codes "rounds " ++ decimal n)
rounds_apart n small = without_joined 10 (codes "rounds ") (decimal n) (search rules) (decimal_without n (omega (arith, small)))

pub file_apart : (c : Certs) → HaveText c → All Apart (file_lines c)
file_apart c h =
    All-cons Apart (codes "jescert 1") ((codes "rounds " ++ decimal c.rounds) ∷ (blocks_lines c.list ++ codes "end" ∷ [])) first_apart
    (All-cons Apart (codes "rounds " ++ decimal c.rounds) (blocks_lines c.list ++ codes "end" ∷ []) (rounds_apart c.rounds h.rounds)
    (All-append Apart (blocks_lines c.list) (codes "end" ∷ []) (middles_apart (blocks_lines c.list) (blocks_middle c.list h.blocks)) (All-cons Apart (codes "end") [] (search rules) (All-nil Apart))))

-- ---- lines at the front of a text

pub ended_front : (xs ys : List (List ℕ)) (t : List ℕ) → All Apart xs → All Apart ys → ended xs ++ t ≡ ended ys → (rest : List (List ℕ)) × (ys ≡ xs ++ rest) × (t ≡ ended rest)
ended_front [] ys t p q e = (ys, refl, e)
ended_front (x ∷ xs) [] t p q e = absurd (omega (arith, length-append x (10 ∷ ended xs), length-append (x ++ 10 ∷ ended xs) t, ap length e))
ended_front (x ∷ xs) (y ∷ ys) t p q e =
    let same = split_same 10 x y (10 ∷ (ended xs ++ t)) (10 ∷ ended ys) (All-head Apart x xs p) (All-head Apart y ys q) refl refl (sym (append_assoc x (10 ∷ ended xs) t) ∙ e) in
    let more = ended_front xs ys t (All-tail Apart x xs p) (All-tail Apart y ys q) (ap (drop 1) same.1) in
    (more.0, (λ i. sym same.0 i ∷ more.1 i), more.2)

-- the line feeds, by recursion
feeds : List ℕ → ℕ
feeds [] = 0
feeds (x ∷ xs) = cond (is_line_feed x) (1 + feeds xs) (feeds xs)

feeds_are : (xs : List ℕ) → feeds xs ≡ count_by is_line_feed xs
unfolding feeds
feeds_are xs = is_count_by feeds is_line_feed refl (λ x ys. refl) xs

no_feed : (x : ℕ) → (x ≡ 10 → ⊥) → is_line_feed x ≡ false
no_feed x p = by (is_line_feed x) refl
  where
    by : (b : Bool) → is_line_feed x ≡ b → is_line_feed x ≡ false
    by true e = absurd (p ((Decides-eqb x 10).0 e))
    by false e = e

passing : (xs ys : List ℕ) → Without 10 xs → feeds (xs ++ ys) ≡ feeds ys
unfolding feeds
passing [] ys w = refl
passing (x ∷ xs) ys w = ap (λ b. cond b (1 + feeds (xs ++ ys)) (feeds (xs ++ ys))) (no_feed x w.0) ∙ passing xs ys w.1

feeds_of : (ls : List (List ℕ)) → All Apart ls → feeds (ended ls) ≡ length ls
unfolding feeds
feeds_of [] all = refl
feeds_of (l ∷ ls) all = passing l (10 ∷ ended ls) (All-head Apart l ls all) ∙ omega (arith, feeds_of ls (All-tail Apart l ls all))

pub feeds_ended : (ls : List (List ℕ)) → All Apart ls → count_by is_line_feed (ended ls) ≡ length ls
feeds_ended ls all = sym (feeds_are (ended ls)) ∙ feeds_of ls all

pub all_last : {X : Type 0} (P : X → Type 0) (xs : List X) (x : X) (ys : List X) → All P ys → ys ≡ xs ++ x ∷ [] → P x
all_last {X = X} P xs x ys all e = by xs (subst (All P) e all)
  where
    by : (zs : List X) → All P (zs ++ x ∷ []) → P x
    by [] h = All-head P x [] h
    by (z ∷ zs) h = by zs (All-tail P z (zs ++ x ∷ []) h)

all_at : (next : List ℕ) (rest xs : List (List ℕ)) → All Apart (xs ++ next ∷ rest) → Apart next
all_at next rest [] h = All-head Apart next rest h
all_at next rest (x ∷ xs) h = all_at next rest xs (All-tail Apart x (xs ++ next ∷ rest) h)

-- ---- where a file goes wrong

pub stuck : (bytes : List ℕ) (at : ℕ) (before : List (List ℕ)) → at ≤ length bytes → All Apart before → take at bytes ≡ ended before → Begin before
    → StopsAt (λ next. Begin (before ++ next ∷ [])) (drop at bytes) → ((c : Certs) → HaveText c → file_lines c ≡ before → drop at bytes ≡ [] → ⊥) → IsStuck bytes at
stuck bytes at before room apart are begin stops missing = record {
  before = before;
  room = room;
  apart = apart;
  are = are;
  begin = begin;
  stops = stops;
  is_none = λ c text.
      let front = ended_front before (file_lines c) (drop at bytes) apart (file_apart c text.have) (ap (λ t. t ++ drop at bytes) (sym are) ∙ take-append-drop at bytes ∙ text.is) in
      by c text.have front.0 front.1 front.2;
}
  where
    by : (c : Certs) → HaveText c → (rest : List (List ℕ)) → file_lines c ≡ before ++ rest → drop at bytes ≡ ended rest → ⊥
    by c h [] e f = missing c h (e ∙ append-nil before) f
    by c h (next ∷ rest) e f =
        let all = all_at next rest before (subst (All Apart) e (file_apart c h)) in
        let longer : file_lines c ≡ (before ++ next ∷ []) ++ rest = e ∙ sym (append_assoc before (next ∷ []) rest) in
        stops next (ended rest) f all (c, h, sym (ap (take (length (before ++ next ∷ []))) longer ∙ take_at (before ++ next ∷ []) rest (length (before ++ next ∷ [])) refl))

abbrev pub rounds_text : ℕ → List ℕ
rounds_text n = codes "rounds " ++ decimal n

have_none : HaveText (record { rounds = 0; list = [] })
have_none = record { rounds = omega arith; blocks = All-nil IsBlock }

pub stuck_first : (bytes : List ℕ) → StopsAt (λ next. next ≡ codes "jescert 1") bytes → IsStuck bytes 0
stuck_first bytes stops = stuck bytes 0 [] (omega arith) (All-nil Apart) refl (record { rounds = 0; list = [] }, have_none, refl)
    (λ next rest e w b. stops next rest e w (ap (λ ls. get_or ls 0 []) b.2))
    (λ c h e f. omega (arith, ap length e))

abbrev pub IsRoundsText : List ℕ → Type 0
IsRoundsText t = (n : ℕ) × (n ≤ 5) × (t ≡ codes "rounds " ++ decimal n)

pub stuck_second : (bytes : List ℕ) (at : ℕ) → Takes bytes at (codes "jescert 1" ∷ []) → StopsAt IsRoundsText (drop at bytes) → IsStuck bytes at
stuck_second bytes at takes stops = stuck bytes at (codes "jescert 1" ∷ []) takes.room (All-cons Apart (codes "jescert 1") [] first_apart (All-nil Apart)) takes.are (record { rounds = 0; list = [] }, have_none, refl)
    (λ next rest e w b. stops next rest e w (b.0.rounds, b.1.rounds, ap (λ ls. get_or ls 1 []) b.2))
    (λ c h e f. omega (arith, ap length e))

abbrev pub LastKind : List ℕ → Type 0
LastKind t = (t ≡ codes "end") ⊎ Middle t

kinds : (ks : List (List ℕ × ℕ × Cert)) → All IsBlock ks → All LastKind (blocks_lines ks ++ codes "end" ∷ [])
kinds ks all = All-append LastKind (blocks_lines ks) (codes "end" ∷ []) (All-weaker Middle LastKind (λ t m. inr m) (blocks_lines ks) (blocks_middle ks all)) (All-cons LastKind (codes "end") [] (inl refl) (All-nil LastKind))

never : (bs ks : List (List ℕ × ℕ × Cert)) (next behind rest : List ℕ) → All IsBlock ks → blocks_lines bs ++ next ∷ [] ≡ take (length (blocks_lines bs ++ next ∷ [])) (blocks_lines ks ++ codes "end" ∷ [])
    → StopsBehind bs behind → StopsAt IsCondText behind → StopsAt (λ t. t ≡ codes "end") behind → behind ≡ next ++ 10 ∷ rest → Apart next → ⊥
never [] [] next behind rest all e lines conds ends f w = ends next rest f w (ap (λ ls. get_or ls 0 []) e)
never [] (k ∷ ks) next behind rest all e lines conds ends f w = conds next rest f w (subst IsCondText (sym (ap (λ ls. get_or ls 0 []) e)) (block_cond k (All-head IsBlock k ks all)))
never (b ∷ bs) ks next behind rest all e lines conds ends f w =
    by (all_last LastKind (blocks_lines (b ∷ bs)) next (take (length (blocks_lines (b ∷ bs) ++ next ∷ [])) (blocks_lines ks ++ codes "end" ∷ [])) (All-take LastKind (length (blocks_lines (b ∷ bs) ++ next ∷ [])) (blocks_lines ks ++ codes "end" ∷ []) (kinds ks all)) (sym e))
  where
    by : LastKind next → ⊥
    by (inl g) = ends next rest f w g
    by (inr (inl g)) = conds next rest f w g
    by (inr (inr g)) = lines next rest f w g

abbrev pub GoesOn : List ℕ → Type 0
GoesOn t = t ≡ codes "end" → ⊥

no_behind : (xs ys : List (List ℕ)) (next : List ℕ) (m : ℕ) → All GoesOn ys → (xs ++ codes "end" ∷ []) ++ next ∷ [] ≡ take m (ys ++ codes "end" ∷ []) → ⊥
no_behind [] [] next m all e = omega (arith, ap length e, length-take m (codes "end" ∷ []))
no_behind [] (y ∷ ys) next zero all e = omega (arith, ap length e)
no_behind [] (y ∷ ys) next (suc m) all e = All-head GoesOn y ys all (sym (ap (λ ls. get_or ls 0 []) e))
no_behind (x ∷ xs) [] next m all e = omega (arith, ap length e, length-take m (codes "end" ∷ []), length-append (xs ++ codes "end" ∷ []) (next ∷ []), length-append xs (codes "end" ∷ []))
no_behind (x ∷ xs) (y ∷ ys) next zero all e = omega (arith, ap length e)
no_behind (x ∷ xs) (y ∷ ys) next (suc m) all e = no_behind xs ys next m (All-tail GoesOn y ys all) (ap (drop 1) e)

module _ (bytes : List ℕ) (at n : ℕ) (bs : List (List ℕ × ℕ × Cert)) (small : n ≤ 5) (all : All IsBlock bs) where
  have_text : HaveText (record { rounds = n; list = bs })
  have_text = record { rounds = small; blocks = all }

  heads_apart : (ls : List (List ℕ)) → All Apart ls → All Apart (codes "jescert 1" ∷ (codes "rounds " ++ decimal n) ∷ ls)
  heads_apart ls h = All-cons Apart (codes "jescert 1") ((codes "rounds " ++ decimal n) ∷ ls) first_apart (All-cons Apart (codes "rounds " ++ decimal n) ls (rounds_apart n small) h)

  pub stuck_blocks : Takes bytes at (codes "jescert 1" ∷ (codes "rounds " ++ decimal n) ∷ blocks_lines bs) → StopsBehind bs (drop at bytes) → StopsAt IsCondText (drop at bytes) → StopsAt (λ t. t ≡ codes "end") (drop at bytes) → IsStuck bytes at
  stuck_blocks takes lines conds ends =
      stuck bytes at (codes "jescert 1" ∷ (codes "rounds " ++ decimal n) ∷ blocks_lines bs) takes.room (heads_apart (blocks_lines bs) (middles_apart (blocks_lines bs) (blocks_middle bs all))) takes.are
      (record { rounds = n; list = bs }, have_text, sym (take_at (codes "jescert 1" ∷ (codes "rounds " ++ decimal n) ∷ blocks_lines bs) (codes "end" ∷ []) (length (codes "jescert 1" ∷ (codes "rounds " ++ decimal n) ∷ blocks_lines bs)) refl))
      (λ next rest e w b. never bs b.0.list next (drop at bytes) rest b.1.blocks (ap (drop 2) b.2) lines conds ends e w)
      (λ c h e f. middle_goes_on (codes "end") (all_last Middle (blocks_lines c.list) (codes "end") (blocks_lines bs) (blocks_middle bs all) (sym (ap (drop 2) e))) refl)

  end_apart : All Apart (blocks_lines bs ++ codes "end" ∷ [])
  end_apart = All-append Apart (blocks_lines bs) (codes "end" ∷ []) (middles_apart (blocks_lines bs) (blocks_middle bs all)) (All-cons Apart (codes "end") [] (search rules) (All-nil Apart))

  pub stuck_end : Takes bytes at (codes "jescert 1" ∷ (codes "rounds " ++ decimal n) ∷ (blocks_lines bs ++ codes "end" ∷ [])) → (drop at bytes ≡ [] → ⊥) → IsStuck bytes at
  stuck_end takes more =
      stuck bytes at (codes "jescert 1" ∷ (codes "rounds " ++ decimal n) ∷ (blocks_lines bs ++ codes "end" ∷ [])) takes.room (heads_apart (blocks_lines bs ++ codes "end" ∷ []) end_apart) takes.are
      (record { rounds = n; list = bs }, have_text, sym (take_all (length (file_lines (record { rounds = n; list = bs }))) (file_lines (record { rounds = n; list = bs })) (omega arith)))
      (λ next rest e w b. no_behind (blocks_lines bs) (blocks_lines b.0.list) next (length ((blocks_lines bs ++ codes "end" ∷ []) ++ next ∷ [])) (All-weaker Middle GoesOn middle_goes_on (blocks_lines b.0.list) (blocks_middle b.0.list b.1.blocks)) (ap (drop 2) b.2))
      (λ c h e f. more f)

  pub whole : Takes bytes at (codes "jescert 1" ∷ (codes "rounds " ++ decimal n) ∷ (blocks_lines bs ++ codes "end" ∷ [])) → length bytes ≤ at → IsText bytes (record { rounds = n; list = bs })
  whole takes l = record { have = have_text; is = sym (take_all at bytes l) ∙ takes.are }

-- ---- slices of a file

pub at_rest : (bytes : List ℕ) (at : ℕ) → take (length bytes - at) (drop at bytes) ≡ drop at bytes
at_rest bytes at = take_rest bytes at

-- the first line
pub first_takes : (bytes : List ℕ) (first : ℕ) → IsFeed bytes first → take first bytes ≡ codes "jescert 1" → Takes bytes (first + 1) (codes "jescert 1" ∷ [])
first_takes bytes first feed e = subst (λ (t : List ℕ). Takes bytes (first + 1) (t ∷ [])) e (feed_takes bytes first feed)

-- the second line
pub second_takes : (bytes : List ℕ) (at count n : ℕ) → Takes bytes at (codes "jescert 1" ∷ []) → IsFeed (drop at bytes) count → take count (drop at bytes) ≡ codes "rounds " ++ decimal n
    → Takes bytes (at + count + 1) (codes "jescert 1" ∷ (codes "rounds " ++ decimal n) ∷ [])
second_takes bytes at count n takes feed e =
    let more : at + (count + 1) ≡ at + count + 1 = omega arith in
    subst (λ (k : ℕ). Takes bytes k (codes "jescert 1" ∷ (codes "rounds " ++ decimal n) ∷ [])) more
    (joined bytes at (count + 1) (codes "jescert 1" ∷ []) ((codes "rounds " ++ decimal n) ∷ []) takes (subst (λ (t : List ℕ). Takes (drop at bytes) (count + 1) (t ∷ [])) e (feed_takes (drop at bytes) count feed)))

-- the blocks
pub blocks_taken : (bytes : List ℕ) (at count n : ℕ) (bs : List (List ℕ × ℕ × Cert)) → Takes bytes at (codes "jescert 1" ∷ (codes "rounds " ++ decimal n) ∷ []) → AreBlocks (drop at bytes) bs count
    → Takes bytes (at + count) (codes "jescert 1" ∷ (codes "rounds " ++ decimal n) ∷ blocks_lines bs)
blocks_taken bytes at count n bs takes are = joined bytes at count (codes "jescert 1" ∷ (codes "rounds " ++ decimal n) ∷ []) (blocks_lines bs) takes (record { room = are.room; are = are.are })

-- the last line
pub no_end : (rest : List ℕ) → false ≡ starts_with nat_eq rest (101 ∷ 110 ∷ 100 ∷ 10 ∷ []) → StopsAt (λ t. t ≡ codes "end") rest
no_end rest no_front = λ next more e w is.
    let front : rest ≡ (101 ∷ 110 ∷ 100 ∷ 10 ∷ []) ++ more = e ∙ ap (λ t. t ++ 10 ∷ more) is in
    let yes : false ≡ true = (starts_is Decides-eqb rest (101 ∷ 110 ∷ 100 ∷ 10 ∷ []) false no_front).1 more front in cc

pub end_taken : (bytes : List ℕ) (at n : ℕ) (bs : List (List ℕ × ℕ × Cert)) → Takes bytes at (codes "jescert 1" ∷ (codes "rounds " ++ decimal n) ∷ blocks_lines bs) → true ≡ starts_with nat_eq (drop at bytes) (101 ∷ 110 ∷ 100 ∷ 10 ∷ [])
    → Takes bytes (at + 4) (codes "jescert 1" ∷ (codes "rounds " ++ decimal n) ∷ (blocks_lines bs ++ codes "end" ∷ []))
end_taken bytes at n bs takes front =
    let is = text_front (101 ∷ 110 ∷ 100 ∷ 10 ∷ []) (drop at bytes) front in
    joined bytes at 4 (codes "jescert 1" ∷ (codes "rounds " ++ decimal n) ∷ blocks_lines bs) (codes "end" ∷ []) takes (record { room = omega (arith, ap length is); are = ap (take 4) is })

-- ---- which line is bad

pub bad_line : (bytes : List ℕ) (at : ℕ) → IsStuck bytes at → IsBad bytes (count_by is_line_feed (take at bytes) + 1)
bad_line bytes at s = record {
  before = s.before;
  behind = drop at bytes;
  count = ap (λ n. n + 1) (ap (count_by is_line_feed) s.are ∙ feeds_ended s.before s.apart);
  are = sym (take-append-drop at bytes) ∙ ap (λ t. t ++ drop at bytes) s.are;
  begin = s.begin;
  stops = λ next rest e all b. s.stops next rest e (without_all 10 next all) b;
  is_none = s.is_none;
}
