-- Scopes with one more variable, from a low to a high number.
use Rattle.std.proofs.Common.{◌≡◌, ◌⊎◌, ℕ, zero, suc, ◌+◌, ◌<◌, ◌≤◌, Bool, true, false, ◌&&◌, ◌||◌, nat_lt, List, [], ◌∷◌, ◌++◌, length, map, slice_get, unwrap_or, Some, refl, sym, ap, ◌∙◌, subst, inl, inr, arith, length-append, if◌then◌else◌}
use Rattle.std.specs.Prelude.{ℤ, pos, ◌+ℤ◌, ◌≤ℤ◌, int_le, not}
use Rattle.std.specs.Ordering.{int_eq}
use Rattle.std.specs.Cmp.Lexicographic.{pointwise, pointwise_decides}
use Rattle.std.proofs.lemmas.Int.{ints}
use Rattle.std.proofs.lemmas.Bool.Decides.{nat_tests, Decides-int_eq}
use Rattle.jesc_logic.specs.declared.fact.Sort.{Sort}
use Rattle.jesc_logic.specs.Terms.{Term, constant}
use Rattle.jesc_logic.specs.Claims.{at_most, negation, both, Each}
use Rattle.jesc_logic.specs.Structures.{Structure, read, value, is_true}
use Rattle.jesc_core.specs.Values.{count}
use Rattle.jesc_core.specs.laws.Ranges.{in_range, range_within}
use Rattle.jesc_core.specs.Heaps.{with_variable}
use Rattle.jesc_vc.specs.Facts.{Agree, IsBelow, AreBelow}
use Rattle.jesc_vc.specs.Environments.{EnvTree, env_with, state_in, IsBelowEnv}
use Rattle.jesc_vc.specs.Encodings.{ScopeTree, symbol_in, short_code, after_code, next_variable, widened}
use Rattle.jesc_vc.proofs.Readings.{agree_self, agree_back, agree_further, read_variable}
use Rattle.jesc_vc.proofs.Below.{same_value, same_values, same_truth, below_later, all_below_later, claim_later, below_append}
use Rattle.jesc_vc.proofs.States.{with_in, further_in}
use Rattle.jesc_vc.proofs.Entries.{In, in_front, in_back}
use Rattle.jesc_vc.proofs.Scopes.{guarded_is, each_guarded, at, Inside, codes, IsFinite, IsScope, inside_later, symbol_below, interpret}

-- ---- a code of at most two terms

module _ {X : Type 0} (code : X → List ℤ) where
  -- the first that has this code
  abbrev place : List X → List ℤ → ℕ
  place [] args = 0
  place (x ∷ xs) args = if pointwise int_eq (code x) args then 0 else suc (place xs args)

  -- one of them has this code
  abbrev Has : List X → List ℤ → Type 0
  Has xs args = (x : X) × In xs x × (code x ≡ args)

  has_rest : (z : X) (xs : List X) (args : List ℤ) → pointwise int_eq (code z) args ≡ false → Has (z ∷ xs) args → Has xs args
  has_rest z xs args e (x, inl q, d) = let t = pointwise_decides Decides-int_eq (code z) args in let f : true ≡ false = sym (t.1 (ap code q ∙ d)) ∙ e in cc
  has_rest z xs args e (x, inr p, d) = (x, p, d)

  place_apart : (xs : List X) (a b : List ℤ) → Has xs a → Has xs b → place xs a ≡ place xs b → a ≡ b
  place_apart [] a b h k e = absurd h.1
  place_apart (z ∷ xs) a b h k e = by (pointwise int_eq (code z) a) (pointwise int_eq (code z) b) refl refl e (place_apart xs a b)
    where
      by : (p q : Bool) → pointwise int_eq (code z) a ≡ p → pointwise int_eq (code z) b ≡ q → (if p then 0 else suc (place xs a)) ≡ (if q then 0 else suc (place xs b)) → (Has xs a → Has xs b → place xs a ≡ place xs b → a ≡ b) → a ≡ b
      by true true f g d on = let t = pointwise_decides Decides-int_eq (code z) a in let u = pointwise_decides Decides-int_eq (code z) b in sym (t.0 f) ∙ u.0 g
      by true false f g d on = absurd (omega arith)
      by false true f g d on = absurd (omega arith)
      by false false f g d on = on (has_rest z xs a f h) (has_rest z xs b g k) (omega arith)

abbrev pub with_code : ScopeTree → List Term → ScopeTree
with_code k ts = record k { code = ts }

-- the scope with a short code
abbrev pub shortened : ScopeTree → ℕ → ScopeTree
shortened k c = with_code k (short_code k c)

pub record Coded' (c : ℕ) (s : Structure) (k : ScopeTree) (code : List Term) : Type 0 where
  pub to : Structure
  pub agrees : Agree c 0 s to
  pub finite : IsFinite to (with_code k code)

abbrev pub Coded : ℕ → Structure → ScopeTree → Type 0
Coded c s k = Coded' c s k (short_code k c)

pos_apart : (m n : ℕ) → pos m ≡ pos n → m ≡ n
pos_apart m n e = omega (arith, ints)

abbrev first_of : List ℤ → ℤ
first_of [] = pos 0
first_of (x ∷ xs) = x

module _ (c : ℕ) (s : Structure) (k : ScopeTree) (h : IsScope c k) (f : IsFinite s k) where
  abbrev numbered : List ℤ → ℤ
  numbered xs = pos (place (codes s k) f.list (codes s k xs))

  coded_by_symbol : Coded' c s k (symbol_in k c ∷ [])
  coded_by_symbol =
      let i = interpret c s k numbered h f in
      let back = agree_back c 0 s i.to i.agrees in
      record {
        to = i.to;
        agrees = i.agrees;
        finite = record {
          list = f.list;
          inside = λ xs p. inside_later c k h s i.to xs i.agrees (f.inside xs p);
          covers = λ xs j. f.covers xs (inside_later c k h i.to s xs back j);
          apart = λ xs ys j l e.
              let p = inside_later c k h i.to s xs back j in
              let q = inside_later c k h i.to s ys back l in
              f.apart xs ys p q
              (place_apart (codes s k) f.list (codes s k xs) (codes s k ys) (xs, f.covers xs p, refl) (ys, f.covers ys q, refl)
              (pos_apart (place (codes s k) f.list (codes s k xs)) (place (codes s k) f.list (codes s k ys)) (sym (i.is xs p) ∙ ap first_of e ∙ i.is ys q)));
        };
      }

  pub coded : Coded c s k
  coded = by (nat_lt (length k.code) 3) refl
    where
      by : (b : Bool) → nat_lt (length k.code) 3 ≡ b → Coded c s k
      by true e = subst (Coded' c s k) (sym (ap (λ b. if b then k.code else symbol_in k c ∷ []) e)) record { to = s; agrees = agree_self c 0 s; finite = f }
      by false e = subst (Coded' c s k) (sym (ap (λ b. if b then k.code else symbol_in k c ∷ []) e)) coded_by_symbol

pub code_rises : (c : ℕ) (k : ScopeTree) → c ≤ after_code k c
code_rises c k = by (nat_lt (length k.code) 3)
  where
    by : (b : Bool) → c ≤ (if b then c else suc c)
    by true = omega arith
    by false = omega arith

-- the short code holds what was known before, and it is short
record IsShort (c n : ℕ) (k : ScopeTree) (d : ℕ) (code : List Term) : Type 0 where
  few : length code ≤ 2
  below : AreBelow d n code

short_is : (c : ℕ) (k : ScopeTree) → IsScope c k → IsShort c (length k.sorts) k (after_code k c) (short_code k c)
short_is c k h = by (nat_lt (length k.code) 3) refl
  where
    by : (b : Bool) → nat_lt (length k.code) 3 ≡ b → IsShort c (length k.sorts) k (if b then c else suc c) (if b then k.code else symbol_in k c ∷ [])
    by true e = record { few = let l : length k.code < 3 = grind (arith, nat_tests) in omega arith; below = h.code }
    by false e = record { few = omega arith; below = (symbol_below c k h, tt) }

pub scope_shortened : (c : ℕ) (k : ScopeTree) → IsScope c k → IsScope (after_code k c) (shortened k c)
scope_shortened c k h =
    let r = short_is c k h in
    record { short = h.short; few = let l = r.few in omega arith; code = r.below; guard = claim_later c (after_code k c) (length k.sorts) (length k.sorts) (code_rises c k) (omega arith) k.guard h.guard }

-- ---- one more variable

-- the variable holds nothing that is new
pub variable_below : (c : ℕ) (k : ScopeTree) → length k.sorts < 32 → IsBelow c (suc (length k.sorts)) (next_variable k)
variable_below c k lt = (omega arith, inl (omega arith))

last_of : {X : Type 0} (xs : List X) (v : X) → slice_get (xs ++ v ∷ []) (length xs) ≡ Some v
last_of [] v = refl
last_of (x ∷ xs) v = last_of xs v

-- where the variables are these and one more, the last one has its value
pub variable_there : (s : Structure) (k : ScopeTree) (xs : List ℤ) (v : ℤ) → length xs ≡ length k.sorts → value (at s (xs ++ v ∷ [])) (next_variable k) ≡ v
variable_there s k xs v l =
    ap (λ n. value (at s (xs ++ v ∷ [])) (constant (32 + n))) (sym l)
    ∙ read_variable s (xs ++ v ∷ []) (length xs)
    ∙ ap (λ o. unwrap_or o (read s (32 + length xs) [])) (last_of xs v)

abbrev front_of : List ℤ → List ℤ
front_of [] = []
front_of (x ∷ []) = []
front_of (x ∷ y ∷ ys) = x ∷ front_of (y ∷ ys)

front_push : (xs : List ℤ) (v : ℤ) → front_of (xs ++ v ∷ []) ≡ xs
front_push [] v = refl
front_push (x ∷ []) v = refl
front_push (x ∷ y ∷ ys) v = ap (λ zs. x ∷ zs) (front_push (y ∷ ys) v)

abbrev end_of : List ℤ → ℤ
end_of [] = pos 0
end_of (x ∷ []) = x
end_of (x ∷ y ∷ ys) = end_of (y ∷ ys)

end_push : (xs : List ℤ) (v : ℤ) → end_of (xs ++ v ∷ []) ≡ v
end_push [] v = refl
end_push (x ∷ []) v = refl
end_push (x ∷ y ∷ ys) v = end_push (y ∷ ys) v

push_apart : (xs ys : List ℤ) (v u : ℤ) → xs ++ v ∷ [] ≡ ys ++ u ∷ [] → (xs ≡ ys) × (v ≡ u)
push_apart xs ys v u e = (sym (front_push xs v) ∙ ap front_of e ∙ front_push ys u, sym (end_push xs v) ∙ ap end_of e ∙ end_push ys u)

map_push : {X Y : Type 0} (f : X → Y) (xs : List X) (x : X) → map f (xs ++ x ∷ []) ≡ map f xs ++ f x ∷ []
map_push f [] x = refl
map_push f (y ∷ xs) x = ap (λ zs. f y ∷ zs) (map_push f xs x)

split_last : (n : ℕ) (zs : List ℤ) → length zs ≡ suc n → (xs : List ℤ) × (v : ℤ) × (zs ≡ xs ++ v ∷ []) × (length xs ≡ n)
split_last n [] e = absurd (omega arith)
split_last zero (z ∷ []) e = ([], z, refl, refl)
split_last zero (z ∷ y ∷ zs) e = absurd (omega arith)
split_last (suc n) (z ∷ zs) e = let r = split_last n zs (omega arith) in (z ∷ r.0, r.1, ap (λ ys. z ∷ ys) r.2, ap suc r.3)

le_from : (a b : ℤ) → int_le a b ≡ true → a ≤ℤ b
le_from a b e = grind (arith, ints)

from_le : (a b : ℤ) → a ≤ℤ b → int_le a b ≡ true
from_le a b e = grind (arith, ints)

guard_parts : (g a b : Bool) → g || not (a && b) ≡ false → (g ≡ false) × (a ≡ true) × (b ≡ true)
guard_parts true a b e = cc
guard_parts false true true e = (refl, refl, refl)
guard_parts false true false e = cc
guard_parts false false b e = cc

guard_from : (g a b : Bool) → g ≡ false → a ≡ true → b ≡ true → g || not (a && b) ≡ false
guard_from g a b e f d = λ i. (e i) || not (f i && d i)

-- the values count before, and the last is from the low to the high number
pub record IsWide (s : Structure) (k : ScopeTree) (low high : Term) (xs : List ℤ) (v : ℤ) : Type 0 where
  pub inside : Inside s k xs
  pub above : value (at s xs) low ≤ℤ v
  pub below : v ≤ℤ value (at s xs) high

pub record Widens (s : Structure) (k : ScopeTree) (low high : Term) (zs : List ℤ) : Type 0 where
  pub front : List ℤ
  pub last : ℤ
  pub is : zs ≡ front ++ last ∷ []
  pub wide : IsWide s k low high front last

module _ (c : ℕ) (s : Structure) (k : ScopeTree) (sort : Sort) (low high : Term) (h : IsScope c k) (lb : IsBelow c (length k.sorts) low) (hb : IsBelow c (length k.sorts) high) (short : length k.sorts < 32) where
  abbrev wide : ScopeTree
  wide = widened k sort low high c

  module _ (xs : List ℤ) (v : ℤ) (l : length xs ≡ length k.sorts) where
    pub further : Agree c (length k.sorts) (at s xs) (at s (xs ++ v ∷ []))
    further = let a = length-append xs (v ∷ []) in subst (λ m. Agree c m (at s xs) (at s (xs ++ v ∷ []))) l (agree_further c s xs (v ∷ []) (omega arith))

    wide_guard : is_true (at s (xs ++ v ∷ [])) wide.guard ≡ is_true (at s xs) k.guard || not (int_le (value (at s xs) low) v && int_le v (value (at s xs) high))
    wide_guard =
        guarded_is (at s (xs ++ v ∷ [])) k.guard (negation (both (at_most low (next_variable k)) (at_most (next_variable k) high)))
        ∙ (λ i. sym (same_truth c (length k.sorts) (at s xs) (at s (xs ++ v ∷ [])) further k.guard h.guard) i
        || not (int_le (sym (same_value c (length k.sorts) (at s xs) (at s (xs ++ v ∷ [])) further low lb) i) (variable_there s k xs v l i)
        && int_le (variable_there s k xs v l i) (sym (same_value c (length k.sorts) (at s xs) (at s (xs ++ v ∷ [])) further high hb) i)))

  pub inside_wide : (zs : List ℤ) → Inside s wide zs → Widens s k low high zs
  inside_wide zs (l, g) =
      let a = length-append k.sorts (sort ∷ []) in
      let r = split_last (length k.sorts) zs (omega arith) in
      let p = guard_parts (is_true (at s r.0) k.guard) (int_le (value (at s r.0) low) r.1) (int_le r.1 (value (at s r.0) high)) (sym (wide_guard r.0 r.1 r.3) ∙ ap (λ ys. is_true (at s ys) wide.guard) (sym r.2) ∙ g) in
      record { front = r.0; last = r.1; is = r.2; wide = record { inside = (r.3, p.0); above = le_from (value (at s r.0) low) r.1 p.1; below = le_from r.1 (value (at s r.0) high) p.2 } }

  pub wide_inside : (xs : List ℤ) (v : ℤ) → IsWide s k low high xs v → Inside s wide (xs ++ v ∷ [])
  wide_inside xs v w =
      let a = length-append k.sorts (sort ∷ []) in
      let b = length-append xs (v ∷ []) in
      let i = w.inside in
      let l = i.0 in
      (omega arith, wide_guard xs v l ∙ guard_from (is_true (at s xs) k.guard) (int_le (value (at s xs) low) v) (int_le v (value (at s xs) high)) i.1 (from_le (value (at s xs) low) v w.above) (from_le v (value (at s xs) high) w.below))

  -- the numbers of the range behind each of the values
  abbrev upward : ℕ → ℤ → List ℤ → List (List ℤ)
  upward zero n xs = []
  upward (suc m) n xs = (xs ++ n ∷ []) ∷ upward m (n +ℤ pos 1) xs

  upward_has : (m : ℕ) (n : ℤ) (xs : List ℤ) (j : ℕ) → j < m → In (upward m n xs) (xs ++ (n +ℤ pos j) ∷ [])
  upward_has zero n xs j lt = absurd (omega arith)
  upward_has (suc m) n xs zero lt = inl (ap (λ v. xs ++ v ∷ []) (omega (arith, ints)))
  upward_has (suc m) n xs (suc j) lt = inr (subst (λ v. In (upward m (n +ℤ pos 1) xs) (xs ++ v ∷ [])) (omega (arith, ints)) (upward_has m (n +ℤ pos 1) xs j (omega arith)))

  upward_is : (m : ℕ) (n : ℤ) (xs zs : List ℤ) → In (upward m n xs) zs → (j : ℕ) × (j < m) × (zs ≡ xs ++ (n +ℤ pos j) ∷ [])
  upward_is zero n xs zs p = absurd p
  upward_is (suc m) n xs zs (inl e) = (0, omega arith, sym e ∙ ap (λ v. xs ++ v ∷ []) (omega (arith, ints)))
  upward_is (suc m) n xs zs (inr p) = let r = upward_is m (n +ℤ pos 1) xs zs p in (suc r.0, (let l = r.1 in omega arith), r.2 ∙ ap (λ v. xs ++ v ∷ []) (omega (arith, ints)))

  abbrev spread : List (List ℤ) → List (List ℤ)
  spread [] = []
  spread (xs ∷ rest) = upward (count (value (at s xs) low) (value (at s xs) high)) (value (at s xs) low) xs ++ spread rest

  spread_has : (list : List (List ℤ)) (xs zs : List ℤ) → In list xs → In (upward (count (value (at s xs) low) (value (at s xs) high)) (value (at s xs) low) xs) zs → In (spread list) zs
  spread_has [] xs zs p q = absurd p
  spread_has (ys ∷ rest) xs zs (inl e) q =
      in_front (upward (count (value (at s ys) low) (value (at s ys) high)) (value (at s ys) low) ys) (spread rest) zs
      (subst (λ us. In (upward (count (value (at s us) low) (value (at s us) high)) (value (at s us) low) us) zs) (sym e) q)
  spread_has (ys ∷ rest) xs zs (inr p) q = in_back (upward (count (value (at s ys) low) (value (at s ys) high)) (value (at s ys) low) ys) (spread rest) zs (spread_has rest xs zs p q)

  abbrev Spread : List (List ℤ) → List ℤ → Type 0
  Spread list zs = (xs : List ℤ) × In list xs × In (upward (count (value (at s xs) low) (value (at s xs) high)) (value (at s xs) low) xs) zs

  split_in : {X : Type 0} (as' bs : List X) (x : X) → In (as' ++ bs) x → In as' x ⊎ In bs x
  split_in [] bs x h = inr h
  split_in (a ∷ as') bs x (inl e) = inl (inl e)
  split_in (a ∷ as') bs x (inr h) = by (split_in as' bs x h)
    where
      by : In as' x ⊎ In bs x → In (a ∷ as') x ⊎ In bs x
      by (inl p) = inl (inr p)
      by (inr p) = inr p

  spread_is : (list : List (List ℤ)) (zs : List ℤ) → In (spread list) zs → Spread list zs
  spread_is [] zs p = absurd p
  spread_is (ys ∷ rest) zs p = by (split_in (upward (count (value (at s ys) low) (value (at s ys) high)) (value (at s ys) low) ys) (spread rest) zs p) (spread_is rest zs)
    where
      by : In (upward (count (value (at s ys) low) (value (at s ys) high)) (value (at s ys) low) ys) zs ⊎ In (spread rest) zs → (In (spread rest) zs → Spread rest zs) → Spread (ys ∷ rest) zs
      by (inl q) on = (ys, inl refl, q)
      by (inr q) on = let r = on q in (r.0, inr r.1, r.2)

  -- what is at a value of the code
  wide_codes : (xs : List ℤ) (v : ℤ) → length xs ≡ length k.sorts → codes s wide (xs ++ v ∷ []) ≡ codes s (shortened k c) xs ++ v ∷ []
  wide_codes xs v l =
      let a = length-append xs (v ∷ []) in
      let r = scope_shortened c k h in
      let agrees : Agree (after_code k c) (length k.sorts) (at s xs) (at s (xs ++ v ∷ [])) = subst (λ m. Agree (after_code k c) m (at s xs) (at s (xs ++ v ∷ []))) l (agree_further (after_code k c) s xs (v ∷ []) (omega arith)) in
      map_push (value (at s (xs ++ v ∷ []))) (short_code k c) (next_variable k)
      ∙ (λ i. sym (same_values (after_code k c) (length k.sorts) (at s xs) (at s (xs ++ v ∷ [])) agrees (short_code k c) r.code) i ++ variable_there s k xs v l i ∷ [])

  pub finite_wide : IsFinite s (shortened k c) → IsFinite s wide
  finite_wide f = record { list = spread f.list; inside = insides; covers = covered; apart = apart_so }
    where
      insides : (zs : List ℤ) → In (spread f.list) zs → Inside s wide zs
      insides zs p =
          let r = spread_is f.list zs p in
          let q = upward_is (count (value (at s r.0) low) (value (at s r.0) high)) (value (at s r.0) low) r.0 zs r.2 in
          let w = range_within (value (at s r.0) low) (value (at s r.0) high) q.0 q.1 in
          subst (Inside s wide) (sym q.2) (wide_inside r.0 (value (at s r.0) low +ℤ pos q.0) record { inside = f.inside r.0 r.1; above = w.0; below = w.1 })

      covered : (zs : List ℤ) → Inside s wide zs → In (spread f.list) zs
      covered zs i =
          let r = inside_wide zs i in
          let w = r.wide in
          let g = in_range (value (at s r.front) low) (value (at s r.front) high) r.last w.above w.below in
          spread_has f.list r.front zs (f.covers r.front w.inside)
          (subst (In (upward (count (value (at s r.front) low) (value (at s r.front) high)) (value (at s r.front) low) r.front)) (ap (λ v. r.front ++ v ∷ []) (sym g.is) ∙ sym r.is)
          (upward_has (count (value (at s r.front) low) (value (at s r.front) high)) (value (at s r.front) low) r.front g.place g.less))

      apart_so : (zs ws : List ℤ) → Inside s wide zs → Inside s wide ws → codes s wide zs ≡ codes s wide ws → zs ≡ ws
      apart_so zs ws i j e =
          let r = inside_wide zs i in
          let q = inside_wide ws j in
          let a = r.wide in
          let b = q.wide in
          let x = a.inside in
          let y = b.inside in
          let same : codes s (shortened k c) r.front ++ r.last ∷ [] ≡ codes s (shortened k c) q.front ++ q.last ∷ [] =
          sym (ap (codes s wide) r.is ∙ wide_codes r.front r.last x.0) ∙ e ∙ (ap (codes s wide) q.is ∙ wide_codes q.front q.last y.0) in
          let p = push_apart (codes s (shortened k c) r.front) (codes s (shortened k c) q.front) r.last q.last same in
          r.is ∙ (λ t. f.apart r.front q.front a.inside b.inside p.0 t ++ p.1 t ∷ []) ∙ sym q.is

  pub scope_wide : IsScope (after_code k c) wide
  scope_wide =
      let r = short_is c k h in
      let q = code_rises c k in
      let a = length-append k.sorts (sort ∷ []) in
      let b = length-append (short_code k c) (next_variable k ∷ []) in
      let m : length wide.sorts ≡ suc (length k.sorts) = omega arith in
      let back : suc (length k.sorts) ≡ length wide.sorts = omega arith in
      let y = variable_below (after_code k c) k short in
      record {
        short = omega arith;
        few = let l = r.few in omega arith;
        code = subst (λ n. AreBelow (after_code k c) n wide.code) back
            (below_append (after_code k c) (suc (length k.sorts)) (short_code k c) (next_variable k ∷ []) (all_below_later (after_code k c) (after_code k c) (length k.sorts) (suc (length k.sorts)) (omega arith) (omega arith) (short_code k c) r.below) (y, tt));
        guard = subst (λ n. Each (IsBelow (after_code k c) n) wide.guard) back
            (each_guarded (IsBelow (after_code k c) (suc (length k.sorts))) k.guard (negation (both (at_most low (next_variable k)) (at_most (next_variable k) high)))
            (claim_later c (after_code k c) (length k.sorts) (suc (length k.sorts)) q (omega arith) k.guard h.guard)
            ((below_later c (after_code k c) (length k.sorts) (suc (length k.sorts)) q (omega arith) low lb, y), (y, below_later c (after_code k c) (length k.sorts) (suc (length k.sorts)) q (omega arith) high hb)));
      }

  -- the state where the variables are these and one more, which is a core variable's value
  pub wide_state : (fields : ℕ) (env : EnvTree) (x : ℕ) (xs : List ℤ) (v : ℤ) → length xs ≡ length k.sorts → IsBelowEnv fields c (length k.sorts) env
      → state_in fields (at s (xs ++ v ∷ [])) (env_with env x (next_variable k)) ≡ with_variable (state_in fields (at s xs) env) x v
  wide_state fields env x xs v l b =
      let a = length-append xs (v ∷ []) in
      with_in fields (at s (xs ++ v ∷ [])) env x (next_variable k)
      ∙ (λ i. with_variable (further_in fields c s env xs (v ∷ []) (omega arith) (subst (λ n. IsBelowEnv fields c n env) (sym l) b) i) x (variable_there s k xs v l i))
