-- What was met before a member.
use Rattle.std.proofs.Common.{◌≡◌, ℕ, zero, suc, ◌+◌, ◌<◌, List, [], ◌∷◌, ◌++◌, length, drop, Some, ap, ◌∙◌, subst, arith, append_assoc}
use Rattle.std.specs.List.{slice_get}
use Rattle.std.proofs.lemmas.Option.{slice_get_within}
use Rattle.jesc_member_rules.specs.Judging.{Begins}

at_drop : {X : Type 0} (all : List X) (n : ℕ) (x : X) (rest : List X) → drop n all ≡ x ∷ rest → slice_get all n ≡ Some x
at_drop [] zero x rest e = cc
at_drop [] (suc n) x rest e = cc
at_drop (y ∷ ys) zero x rest e = let same : y ≡ x = cc in ap Some same
at_drop (y ∷ ys) (suc n) x rest e = at_drop ys n x rest e

past_drop : {X : Type 0} (all : List X) (n : ℕ) (x : X) (rest : List X) → drop n all ≡ x ∷ rest → drop (suc n) all ≡ rest
past_drop [] zero x rest e = cc
past_drop [] (suc n) x rest e = cc
past_drop (y ∷ ys) zero x rest e = cc
past_drop (y ∷ ys) (suc n) x rest e = past_drop ys n x rest e

pub begins_at : {X : Type 0} (all : List X) (n : ℕ) (x : X) (xs : List X) → Begins all n (x ∷ xs) → slice_get all n ≡ Some x
begins_at all n x xs b = at_drop all n x (xs ++ b.others) b.behind

pub begins_low : {X : Type 0} (all : List X) (n : ℕ) (x : X) (xs : List X) → Begins all n (x ∷ xs) → n < length all
begins_low all n x xs b = slice_get_within all n x (begins_at all n x xs b)

pub begins_front : {X : Type 0} (all : List X) (n : ℕ) (xs ys : List X) → Begins all n (xs ++ ys) → Begins all n xs
begins_front all n xs ys b = record { within = b.within; others = ys ++ b.others; behind = b.behind ∙ append_assoc xs ys b.others }

begins_past : {X : Type 0} (all : List X) (n : ℕ) (x : X) (xs : List X) → Begins all n (x ∷ xs) → Begins all (suc n) xs
begins_past all n x xs b = record { within = begins_low all n x xs b; others = b.others; behind = past_drop all n x (xs ++ b.others) b.behind }

pub begins_next : {X : Type 0} (all : List X) (n : ℕ) (xs ys : List X) → Begins all n (xs ++ ys) → Begins all (n + length xs) ys
begins_next all n [] ys b = let same : n ≡ n + 0 = omega arith in subst (λ (k : ℕ). Begins all k ys) same b
begins_next all n (x ∷ xs) ys b =
    let same : suc n + length xs ≡ n + suc (length xs) = omega arith in
    subst (λ (k : ℕ). Begins all k ys) same (begins_next all (suc n) xs ys (begins_past all n x (xs ++ ys) b))
