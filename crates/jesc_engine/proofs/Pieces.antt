use Rattle.std.proofs.Common.{◌≡◌, ℕ, ◌+◌, ◌<◌, List, [], ◌∷◌, ◌++◌, ◌∙◌, sym, ap, length, take, get_or, append_assoc}
use Rattle.std.specs.List.{flat_map}
use Rattle.std.proofs.lemmas.List.{take_more, append-nil}
use Rattle.std.proofs.lemmas.List.Concat.{flat_map-append}

-- a text that has gained p, and then q, has gained both
pub and_then : (before middle now p q : List ℕ) → middle ≡ before ++ p → now ≡ middle ++ q → now ≡ before ++ (p ++ q)
and_then before middle now p q first second = second ∙ ap (λ text. text ++ q) first ∙ append_assoc before p q

-- the texts of the first i items, and that of the next one
pub and_next : {X : Type 0} (f : X → List ℕ) (xs : List X) (i : ℕ) (d : X) (before middle now : List ℕ) → i < length xs
    → middle ≡ before ++ flat_map f (take i xs) → now ≡ middle ++ f (get_or xs i d) → now ≡ before ++ flat_map f (take (i + 1) xs)
and_next f xs i d before middle now within first second =
    let next : flat_map f (take (i + 1) xs) ≡ flat_map f (take i xs) ++ f (get_or xs i d) =
    ap (flat_map f) (take_more xs i d within) ∙ flat_map-append f (take i xs) (get_or xs i d ∷ []) ∙ ap (λ text. flat_map f (take i xs) ++ text) (append-nil (f (get_or xs i d))) in
    and_then before middle now (flat_map f (take i xs)) (f (get_or xs i d)) first second ∙ ap (λ text. before ++ text) (sym next)
