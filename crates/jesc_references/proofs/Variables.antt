-- The last variable of a name, from one variable to the next.
use Rattle.std.proofs.Common.{◌≡◌, ℕ, suc, ◌+◌, ◌<◌, Bool, true, false, bytes_eq, cond, Option, Some, None, List, [], ◌∷◌, ◌++◌, length, get_or, map, take, arith, rules, refl, ap, sym, ◌∙◌, subst, Bor}
use Rattle.std.proofs.Math.Seq.{take-suc}
use Rattle.std.proofs.lemmas.List.{get_or-map}
use Rattle.jesc_lookup.specs.Lines.{or_else}
use Rattle.jesc_references.specs.Known.{last_from}

or_else_chosen : (b : Bool) (n : ℕ) (found rest : Option ℕ) → or_else (cond b (Some n) found) rest ≡ cond b (Some n) (or_else found rest)
or_else_chosen true n found rest = refl
or_else_chosen false n found rest = refl

-- one name more is the last one, where it is the name
last_more : (i : ℕ) (name : List ℕ) (xs : List (List ℕ)) (v : List ℕ) → last_from i name (xs ++ v ∷ []) ≡ cond (bytes_eq name v) (Some (i + length xs)) (last_from i name xs)
last_more i name [] v =
    let e : i ≡ i + 0 = omega arith in
    ap (λ k. cond (bytes_eq name v) (Some k) None) e
last_more i name (x ∷ xs) v =
    let own = cond (bytes_eq name x) (Some i) None in
    let e : i + 1 + length xs ≡ i + suc (length xs) = omega arith in
    ap (λ r. or_else r own) (last_more (i + 1) name xs v)
    ∙ (or_else_chosen (bytes_eq name v) (i + 1 + length xs) (last_from (i + 1) name xs) own
    ∙ ap (λ k. cond (bytes_eq name v) (Some k) (or_else (last_from (i + 1) name xs) own)) e)

length_taken : {A : Type 0} (i : ℕ) (xs : List A) → i < length xs → length (take i xs) ≡ i
length_taken i xs h = search rules

length_mapped : {A B : Type 0} (f : A → B) (xs : List A) → length (map f xs) ≡ length xs
length_mapped f [] = refl
length_mapped f (x ∷ xs) = ap suc (length_mapped f xs)

abbrev pub names_of : List (Bor (List ℕ)) → List (List ℕ)
names_of = map (λ v. v.now)

pub last_step : (name : List ℕ) (vs : List (Bor (List ℕ))) (i : ℕ) (d : Bor (List ℕ)) → i < length vs
    → last_from 0 name (take (i + 1) (names_of vs)) ≡ cond (bytes_eq name (get_or vs i d).now) (Some i) (last_from 0 name (take i (names_of vs)))
last_step name vs i d h =
    let xs = names_of vs in
    let inside : i < length xs = subst (λ n. i < n) (sym (length_mapped (λ v. v.now) vs)) h in
    let next : i + 1 ≡ suc i = omega arith in
    let count : length (take i xs) ≡ i = length_taken i xs inside in
    let taken : 0 + length (take i xs) ≡ i = omega (arith, count) in
    ap (λ n. last_from 0 name (take n xs)) next
    ∙ (ap (last_from 0 name) (take-suc xs i d.now inside)
    ∙ (last_more 0 name (take i xs) (get_or xs i d.now)
    ∙ (ap (λ v. cond (bytes_eq name v) (Some (0 + length (take i xs))) (last_from 0 name (take i xs))) (get_or-map (λ v. v.now) vs i d d.now h)
    ∙ ap (λ n. cond (bytes_eq name (get_or vs i d).now) (Some n) (last_from 0 name (take i xs))) taken)))
