use Rattle.std.proofs.Common.{◌≡◌, ◌≤◌, ◌<◌, ℕ, ◌+◌, List, ◌∷◌, length, drop, refl, sym, ap, arith, true, false, get_or, Some, None, Option, nat_eq, codes, add-one, drop-cons}
use Rattle.std.specs.Option.{option_map}
use Rattle.std.specs.List.{starts_with}
use Rattle.std.proofs.lemmas.List.{drop_all}
use Rattle.jesc_lexer.specs.Pieces.{closing}

-- a place of the rest, as one of the whole
abbrev pub moved : ℕ → Option ℕ → Option ℕ
moved n place = option_map (λ k. k + n) place

moved_more : (n : ℕ) (place : Option ℕ) → moved n (option_map (λ k. k + 1) place) ≡ moved (n + 1) place
moved_more n None = refl
moved_more n (Some k) = ap Some (omega arith)

pub moved_none : (place : Option ℕ) → moved 0 place ≡ place
moved_none None = refl
moved_none (Some k) = ap Some (omega arith)

pub closing_step : (bytes : List ℕ) (n : ℕ) → n < length bytes → starts_with nat_eq (drop n bytes) (codes "*/") ≡ false
    → moved (n + 1) (closing (drop (n + 1) bytes)) ≡ moved n (closing (drop n bytes))
unfolding closing
closing_step bytes n within other =
    let cut : drop n bytes ≡ get_or bytes n 0 ∷ drop (n + 1) bytes = rw (add-one, drop-cons bytes n 0) refl in
    sym (rw cut (rw (rw cut at other) (moved_more n (closing (drop (n + 1) bytes)))))

pub closing_found : (bytes : List ℕ) (n : ℕ) → n < length bytes → starts_with nat_eq (drop n bytes) (codes "*/") ≡ true
    → moved n (closing (drop n bytes)) ≡ Some n
unfolding closing
closing_found bytes n within found =
    let cut : drop n bytes ≡ get_or bytes n 0 ∷ drop (n + 1) bytes = rw (add-one, drop-cons bytes n 0) refl in
    rw cut (rw (rw cut at found) (ap Some (omega arith)))

pub closing_none : (bytes : List ℕ) (n : ℕ) → length bytes ≤ n → moved n (closing (drop n bytes)) ≡ None
unfolding closing
closing_none bytes n past = rw (drop_all n bytes past) refl
