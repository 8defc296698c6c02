-- The line that begins a certificate, and the letters of the other lines.
use Rattle.std.proofs.Common.{◌≡◌, ℕ, zero, suc, ◌+◌, ◌<◌, ◌^◌, ℤ, List, [], ◌∷◌, ◌++◌, length, get_or, take, drop, refl, sym, ap, ◌∙◌, subst, arith, if◌then◌else◌, ◌==◌}
use Rattle.std.specs.Prelude.{All}
use Rattle.std.specs.Fmt.{decimal}
use Rattle.std.proofs.lemmas.List.{take-append-drop, length-take-le, length-drop}
use Rattle.std.proofs.lemmas.List.Elements.{All-head, All-tail, All-nil, All-cons}
use Rattle.jesc_cert.specs.declared.cert.CertKind.{CertKind}
use Rattle.jesc_cert.specs.declared.cert.CertKind.TheVariants.{T, G, R, Q, S, C, M}
use Rattle.jesc_cert.specs.declared.cert.CertLine.{CertLine}
use Rattle.jesc_cert.specs.Texts.{numbers_text, line_text, letter, IsInName, IsLine, HasForm}
use Rattle.jesc_cert.specs.Inner.{Without, IsFirst, IsCond, IsWithin}
use Rattle.jesc_cert.proofs.Pieces.{first_is, found}
use Rattle.jesc_cert.proofs.NumberLines.{numbers_same}

pub name_without : (duty : List ℕ) → All IsInName duty → Without 32 duty × Without 10 duty
name_without [] p = (tt, tt)
name_without (b ∷ bs) p =
    let one = All-head IsInName b bs p in
    let more = name_without bs (All-tail IsInName b bs p) in
    ((one.no_space, more.0), (one.no_feed, more.1))

pub in_name : (duty : List ℕ) → Without 32 duty → Without 10 duty → All IsInName duty
in_name [] p q = All-nil IsInName
in_name (b ∷ bs) p q = All-cons IsInName b bs (record { no_space = p.0; no_feed = q.0 }) (in_name bs p.1 q.1)

-- what stands up to the first space, and behind it
pub cond_split : (rest duty : List ℕ) (number count : ℕ) → IsFirst 32 rest count → IsCond duty number → rest ≡ duty ++ 32 ∷ decimal number
    → (take count rest ≡ duty) × (drop count rest ≡ 32 ∷ decimal number)
cond_split rest duty number count first cond e = first_is 32 rest count duty (32 ∷ decimal number) first (name_without duty cond.name).0 refl e

pub no_name : (rest duty : List ℕ) (number count : ℕ) → IsFirst 32 rest count → IsCond duty number → rest ≡ duty ++ 32 ∷ decimal number → count ≡ 0 → ⊥
no_name rest duty number count first cond e zero_is =
    let same = cond_split rest duty number count first cond e in
    let none : take count rest ≡ [] = ap (λ n. take n rest) zero_is in
    omega (arith, cond.some, ap length (sym same.0 ∙ none))

pub no_number : (rest duty : List ℕ) (number count : ℕ) → IsFirst 32 rest count → IsCond duty number → rest ≡ duty ++ 32 ∷ decimal number → count ≡ length rest → ⊥
no_number rest duty number count first cond e all =
    let same = cond_split rest duty number count first cond e in
    omega (arith, all, length-drop count rest, ap length same.1)

pub number_is : (rest duty : List ℕ) (number count : ℕ) → IsFirst 32 rest count → IsCond duty number → rest ≡ duty ++ 32 ∷ decimal number → (count ≡ length rest → ⊥) → drop (count + 1) rest ≡ decimal number
number_is rest duty number count first cond e less =
    let same = cond_split rest duty number count first cond e in
    ap (drop 1) (sym (found 32 rest count first less) ∙ same.1)

-- a name and a number that were read
pub read_is : (rest : List ℕ) (number count : ℕ) → IsFirst 32 rest count → Without 10 (take count rest) → (count ≡ 0 → ⊥) → (count ≡ length rest → ⊥) → number < 2 ^ 32 → drop (count + 1) rest ≡ decimal number
    → IsCond (take count rest) number × (rest ≡ take count rest ++ 32 ∷ decimal number)
read_is rest number count first feed some less small e = (
  record {
    some = omega (arith, length-take-le count rest first.within, positive count some);
    name = in_name (take count rest) first.apart feed;
    small = small;
  },
  sym (take-append-drop count rest) ∙ ap (λ t. take count rest ++ t) (found 32 rest count first less ∙ ap (λ t. 32 ∷ t) e),
)
  where
    positive : (n : ℕ) → (n ≡ 0 → ⊥) → 0 < n
    positive zero p = absurd (p refl)
    positive (suc n) p = omega arith

-- ---- letters

abbrev pub kind_at : ℕ → CertKind
kind_at n = if n == 116 then T else if n == 103 then G else if n == 114 then R else if n == 113 then Q else if n == 115 then S else if n == 99 then C else M

pub kind_again : (k : CertKind) → kind_at (get_or (letter k) 0 0) ≡ k
kind_again T = refl
kind_again G = refl
kind_again R = refl
kind_again Q = refl
kind_again S = refl
kind_again C = refl
kind_again M = refl

-- the letter stands in front
pub front : (k : CertKind) (t : List ℕ) → letter k ++ t ≡ get_or (letter k) 0 0 ∷ t
front T t = refl
front G t = refl
front R t = refl
front Q t = refl
front S t = refl
front C t = refl
front M t = refl

-- a line with this text has this kind and these numbers
pub line_same : (bytes : List ℕ) (k : CertKind) (b : ℕ) (ns : List ℤ) (l : CertLine) → letter k ≡ b ∷ [] → get_or bytes 0 0 ≡ b → All IsWithin ns → drop 1 bytes ≡ numbers_text ns → IsLine l → bytes ≡ line_text l → HasForm k ns
line_same bytes k b ns l letter_is first within rest line e =
    let same : bytes ≡ get_or (letter l.kind) 0 0 ∷ numbers_text l.numbers = e ∙ front l.kind (numbers_text l.numbers) in
    let kind : l.kind ≡ k = sym (kind_again l.kind) ∙ ap kind_at (sym (ap (λ t. get_or t 0 0) same) ∙ first ∙ sym (ap (λ t. get_or t 0 0) letter_is)) ∙ kind_again k in
    let numbers : l.numbers ≡ ns = numbers_same l.numbers ns line.within within (sym (ap (drop 1) same) ∙ rest) in
    subst (λ (n : List ℤ). HasForm k n) numbers (subst (λ (j : CertKind). HasForm j l.numbers) kind line.form)
