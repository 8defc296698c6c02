-- The open branches of a tree, as splits and closes make them.
use Rattle.std.proofs.Common.{◌≡◌, ℕ, ◌+◌, ◌<◌, Bool, true, false, List, [], ◌∷◌, ◌++◌, length, take, reverse, set, get_or, slice_get, Option, Some, None, refl, sym, ap, subst, ◌∙◌, arith}
use Rattle.std.proofs.lemmas.List.{get_or-set_same, set-set, set-get_or, reverse-append, take_more, take_all, length-set}
use Rattle.std.proofs.lemmas.Option.{slice_get-get_or, get_or_from_slice_get, slice_get_within}
use Rattle.jesc_accept.specs.declared.tree.Tree.{Tree}
use Rattle.jesc_accept.specs.Branches.{Branch}
use Rattle.jesc_accept.specs.States.{beside, other, branches_of}

-- ---- a tree, open or closed

-- where one is open, the first one is the array
pub opened : (t : Tree) → t.is_open ≡ true → branches_of t ≡ t.values.items ∷ beside t.values.items (reverse t.trail.items)
opened t e = subst (λ o. branches_of (record { values = t.values; trail = t.trail; is_open = o }) ≡ t.values.items ∷ beside t.values.items (reverse t.trail.items)) (sym e) refl

pub closed : (t : Tree) → t.is_open ≡ false → branches_of t ≡ []
closed t e = subst (λ o. branches_of (record { values = t.values; trail = t.trail; is_open = o }) ≡ []) (sym e) refl

-- what is true of some first branch is true of the array
pub first_is : (t : Tree) (b : Branch) (rest : List Branch) → t.is_open ≡ true → branches_of t ≡ b ∷ rest → t.values.items ≡ b
first_is t b rest e h = let o = opened t e in cc

pub rest_is : (t : Tree) (b : Branch) (rest : List Branch) → t.is_open ≡ true → branches_of t ≡ b ∷ rest → beside t.values.items (reverse t.trail.items) ≡ rest
rest_is t b rest e h = let o = opened t e in cc

open_by : (t : Tree) (o : Bool) (b : Branch) (rest : List Branch) → t.is_open ≡ o → branches_of t ≡ b ∷ rest → o ≡ true
open_by t true b rest e h = refl
open_by t false b rest e h = let c = closed t e in absurd cc

pub is_open : (t : Tree) (b : Branch) (rest : List Branch) → branches_of t ≡ b ∷ rest → t.is_open ≡ true
is_open t b rest h = open_by t t.is_open b rest refl h

-- ---- the trail

-- a list is its front and its last
reverse_last : (xs : List ℕ) (n x : ℕ) → n + 1 ≡ length xs → x ≡ get_or xs n x → reverse xs ≡ x ∷ reverse (take n xs)
reverse_last xs n x e h = ap reverse (sym (take_all (n + 1) xs (omega arith)) ∙ take_more xs n x (omega arith) ∙ ap (λ y. take n xs ++ y ∷ []) (sym h)) ∙ reverse-append (take n xs) (x ∷ [])

-- what is beside, by the atom's value
at_value : (b : Branch) (x : ℕ) (xs : List ℕ) (o : Option (Option Bool)) → slice_get b x ≡ o → beside b (x ∷ xs) ≡ other b x o ++ beside (set b x None) xs
at_value b x xs o e = ap (λ y. other b x y ++ beside (set b x None) xs) e

no_other : (b : Branch) (x : ℕ) (o : Option (Option Bool)) → (o ≡ Some (Some true) → ⊥) → other b x o ≡ []
no_other b x (Some (Some true)) t = absurd (t refl)
no_other b x (Some (Some false)) t = refl
no_other b x (Some None) t = refl
no_other b x None t = refl

-- a value that was set is there
set_there : (b : Branch) (x : ℕ) (o : Option Bool) → x < length b → slice_get (set b x o) x ≡ Some o
set_there b x o l = slice_get-get_or (set b x o) x None (omega (arith, length-set b x o)) ∙ ap Some (get_or-set_same b x o None l)

-- the last atom was true: its other side is the next branch
pub turned : (b : Branch) (xs : List ℕ) (n x : ℕ) → n + 1 ≡ length xs → x ≡ get_or xs n x → slice_get b x ≡ Some (Some true)
    → set b x (Some false) ∷ beside (set b x (Some false)) (reverse xs) ≡ beside b (reverse xs)
turned b xs n x e h t =
    let r = reverse_last xs n x e h in
    let front = reverse (take n xs) in
    let l = slice_get_within b x (Some true) t in
    let now : beside (set b x (Some false)) (x ∷ front) ≡ beside (set b x None) front
    = at_value (set b x (Some false)) x front (Some (Some false)) (set_there b x (Some false) l) ∙ ap (λ y. beside y front) (set-set b x (Some false) None) in
    ap (λ y. set b x (Some false) ∷ beside (set b x (Some false)) y) r
    ∙ ap (λ y. set b x (Some false) ∷ y) now
    ∙ sym (at_value b x front (Some (Some true)) t)
    ∙ ap (λ y. beside b y) (sym r)

-- it was not: what is open beside the branch is open without it
pub dropped : (b : Branch) (xs : List ℕ) (n x : ℕ) → n + 1 ≡ length xs → x ≡ get_or xs n x → (slice_get b x ≡ Some (Some true) → ⊥)
    → beside (set b x None) (reverse (take n xs)) ≡ beside b (reverse xs)
dropped b xs n x e h t =
    let r = reverse_last xs n x e h in
    ap (λ y. y ++ beside (set b x None) (reverse (take n xs))) (sym (no_other b x (slice_get b x) t)) ∙ ap (λ y. beside b y) (sym r)

-- a split leaves its two sides and what was open
pub parted : (b : Branch) (xs : List ℕ) (x : ℕ) → slice_get b x ≡ Some None
    → set b x (Some true) ∷ beside (set b x (Some true)) (reverse (xs ++ x ∷ [])) ≡ set b x (Some true) ∷ set b x (Some false) ∷ beside b (reverse xs)
parted b xs x e =
    let r : reverse (xs ++ x ∷ []) ≡ x ∷ reverse xs = reverse-append xs (x ∷ []) in
    let here = at_value (set b x (Some true)) x (reverse xs) (Some (Some true)) (set_there b x (Some true) (slice_get_within b x None e)) in
    let off : set (set b x (Some true)) x None ≡ b = set-set b x (Some true) None ∙ ap (λ o. set b x o) (sym (get_or_from_slice_get b x None None e)) ∙ set-get_or b x None in
    let turn : set (set b x (Some true)) x (Some false) ≡ set b x (Some false) = set-set b x (Some true) (Some false) in
    ap (λ y. set b x (Some true) ∷ beside (set b x (Some true)) y) r
    ∙ ap (λ y. set b x (Some true) ∷ y) here
    ∙ ap (λ y. set b x (Some true) ∷ set (set b x (Some true)) x (Some false) ∷ beside y (reverse xs)) off
    ∙ ap (λ y. set b x (Some true) ∷ y ∷ beside b (reverse xs)) turn
