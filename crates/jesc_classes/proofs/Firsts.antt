-- The table of the first of each name takes up a name.
use Rattle.std.proofs.Common.{◌≡◌, ℕ, zero, suc, ◌+◌, ◌≤◌, Bool, true, false, List, [], ◌∷◌, ◌++◌, length, Option, Some, None, refl, ap, sym, ◌∙◌, subst, arith, Result, Ok, Err, bytes_eq, if◌then◌else◌, map, take, get_or, length-append, append_assoc, ◌<◌}
use Rattle.std.specs.Prelude.{OnOk}
use Rattle.std.proofs.lemmas.Slice.Eq.{bytes_eq-Decides}
use Rattle.std.proofs.lemmas.List.{take_more, take_all, length-take-le, length-map, get_or-map}
use Rattle.jesc_classes.specs.Named.{Named, find}
use Rattle.jesc_classes.specs.Headings.{first_from}
use Rattle.jesc_classes.specs.Sources.{HasFirsts, AddsFirst, seen}
use Rattle.jesc_classes.specs.declared.source.GivenClass.{GivenClass}

or_else : Option ℕ → Option ℕ → Option ℕ
or_else (Some x) o = Some x
or_else None o = o

some_or : (b : Bool) (x : ℕ) (o p : Option ℕ) → (if b then Some x else or_else o p) ≡ or_else (if b then Some x else o) p
unfolding or_else
some_or true x o p = refl
some_or false x o p = refl

first_last : (i : ℕ) (name : List ℕ) (names : List (List ℕ)) (n : List ℕ)
    → first_from i name (names ++ n ∷ []) ≡ or_else (first_from i name names) (if bytes_eq name n then Some (i + length names) else None)
unfolding or_else
first_last i name [] n = let same : i ≡ i + 0 = omega arith in ap (λ k. if bytes_eq name n then Some k else None) same
first_last i name (x ∷ names) n =
    let same : (i + 1) + length names ≡ i + suc (length names) = omega arith in
    ap (λ r. if bytes_eq name x then Some i else r) (first_last (i + 1) name names n ∙ ap (λ k. or_else (first_from (i + 1) name names) (if bytes_eq name n then Some k else None)) same)
    ∙ some_or (bytes_eq name x) i (first_from (i + 1) name names) (if bytes_eq name n then Some (i + suc (length names)) else None)

find_last : (table : List (Named ℕ)) (key : List ℕ) (value : ℕ) (name : List ℕ) → find name (table ++ (key, value) ∷ []) ≡ or_else (find name table) (if bytes_eq name key then Some value else None)
unfolding or_else
find_last [] key value name = refl
find_last (e ∷ table) key value name =
    ap (λ r. if bytes_eq name e.0 then Some e.1 else r) (find_last table key value name)
    ∙ some_or (bytes_eq name e.0) e.1 (find name table) (if bytes_eq name key then Some value else None)

-- the name isn't there
pub added : (table other : List (Named ℕ)) (n : List ℕ) (number : ℕ) → other ≡ table ++ (n, number) ∷ [] → AddsFirst table n number other
added table other n number is names count firsts name =
    let same : number ≡ 0 + length names = omega (arith, count) in
    ap (find name) is ∙ find_last table n number name
    ∙ ap (λ o. or_else o (if bytes_eq name n then Some number else None)) (firsts name)
    ∙ ap (λ k. or_else (first_from 0 name names) (if bytes_eq name n then Some k else None)) same
    ∙ sym (first_last 0 name names n)

-- it is there
pub had : (table : List (Named ℕ)) (n : List ℕ) (number before : ℕ) → find n table ≡ Some before → AddsFirst table n number table
unfolding or_else
had table n number before got names count firsts name = firsts name ∙ by (bytes_eq name n) refl ∙ sym (first_last 0 name names n)
  where
    none : (o : Option ℕ) → o ≡ or_else o None
    none (Some x) = refl
    none None = refl

    by : (b : Bool) → bytes_eq name n ≡ b → first_from 0 name names ≡ or_else (first_from 0 name names) (if b then Some (0 + length names) else None)
    by true is =
        let same : name ≡ n = (bytes_eq-Decides name n).0 is in
        let some : first_from 0 name names ≡ Some before = sym (firsts name) ∙ ap (λ k. find k table) same ∙ got in
        some ∙ ap (λ o. or_else o (Some (0 + length names))) (sym some)
    by false is = none (first_from 0 name names)

pub added_where_ok : {E : Type 0} (r : Result (Unit {0}) E) (table other : List (Named ℕ)) (n : List ℕ) (number : ℕ)
    → OnOk r (other ≡ table ++ (n, number) ∷ []) → OnOk r (AddsFirst table n number other)
added_where_ok (Ok u) table other n number is = added table other n number is
added_where_ok (Err e) table other n number is = tt

module _ (table other : List (Named ℕ)) (front names : List (List ℕ)) (n : List ℕ) (number i : ℕ) where
  -- the next of the names behind these ones
  pub next : i < length names → n ≡ get_or names i n → number ≡ length front + i → AddsFirst table n number other → HasFirsts table (front ++ take i names) → HasFirsts other (front ++ take (i + 1) names)
  next inside is count adds firsts =
      let all : number ≡ length (front ++ take i names) = omega (arith, count, length-append front (take i names), length-take-le i names (omega (arith, inside))) in
      let more : (front ++ take i names) ++ n ∷ [] ≡ front ++ take (i + 1) names = append_assoc front (take i names) (n ∷ []) ∙ ap (λ ns. front ++ ns) (ap (λ x. take i names ++ x ∷ []) is ∙ sym (take_more names i n inside)) in
      subst (λ (ns : List (List ℕ)). HasFirsts other ns) more (adds (front ++ take i names) all firsts)

any_default : (names : List (List ℕ)) (i : ℕ) (d e : List ℕ) → i < length names → get_or names i d ≡ get_or names i e
any_default [] i d e inside = absurd (omega (arith, inside))
any_default (x ∷ names) zero d e inside = refl
any_default (x ∷ names) (suc i) d e inside = any_default names i d e (omega (arith, inside))

-- where none stand in front
pub next_first : (table other : List (Named ℕ)) (names : List (List ℕ)) (n : List ℕ) (i : ℕ) → i < length names → n ≡ get_or names i []
    → AddsFirst table n i other → HasFirsts table (take i names) → HasFirsts other (take (i + 1) names)
next_first table other names n i inside is = next table other [] names n i i inside (is ∙ any_default names i [] n inside) (omega arith)

pub whole : (table : List (Named ℕ)) (front names : List (List ℕ)) (i : ℕ) → length names ≤ i → HasFirsts table (front ++ take i names) → HasFirsts table (front ++ names)
whole table front names i end firsts = subst (λ (ns : List (List ℕ)). HasFirsts table (front ++ ns)) (take_all i names end) firsts

-- the name of a given class
pub given_name : (list : List GivenClass) (i : ℕ) (g : GivenClass) (n : List ℕ) → i < length list → g ≡ get_or list i g → n ≡ g.tree.now.name.text → n ≡ get_or (map (λ s. s.tree.name.text) (map seen list)) i n
given_name list i g n inside is name =
    name ∙ ap (λ x. x.tree.now.name.text) is
    ∙ sym (get_or-map (λ s. s.tree.name.text) (map seen list) i (seen g) n (omega (arith, inside, length-map list seen)) ∙ ap (λ s. s.tree.name.text) (get_or-map seen list i g (seen g) inside))

pub given_end : (list : List GivenClass) (i : ℕ) → length list ≤ i → length (map (λ s. s.tree.name.text) (map seen list)) ≤ i
given_end list i end = omega (arith, end, length-map list seen, length-map (map seen list) (λ s. s.tree.name.text))

pub given_inside : (list : List GivenClass) (i : ℕ) → i < length list → i < length (map (λ s. s.tree.name.text) (map seen list))
given_inside list i inside = omega (arith, inside, length-map list seen, length-map (map seen list) (λ s. s.tree.name.text))
