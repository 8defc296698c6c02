-- A class has one line: itself and what is above it. What is found in a class is what the first class of its line has.
use Rattle.std.proofs.Common.{◌≡◌, ◌↔◌, ℕ, zero, suc, ◌<◌, ◌≤◌, Bool, true, false, ◌||◌, List, [], ◌∷◌, ◌++◌, length, get_or, ◌⊎◌, inl, inr, Option, Some, None, refl, ap, sym, ◌∙◌, subst, arith, eq-eqb, nat_eq, nat_lt, ltb-true, ltb-false, true≢false, if◌then◌else◌}
use Rattle.std.proofs.lemmas.List.Elements.{Contains-append_left, Contains-append_right, Contains-append_cases}
use Rattle.std.specs.List.{Contains, list_any}
use Rattle.jesc_classes.specs.Order.{Graph, supers, Above, direct, further, IsAcyclic}
use Rattle.jesc_classes.specs.laws.Orders.{same, later, here, first_or_later, any_default, nothing}
use Rattle.jesc_lookup.specs.Lines.{merged, IsLine, line_of, AreMerged, no_more, one_more, or_else, first_in}
use Rattle.jesc_lookup.specs.Lookup.{Found, own_one, inherited, FoundIn, nowhere, in_first, in_rest}
use Rattle.jesc_lookup.specs.Numbering.{IsArranged}

-- ---- lists of numbers

pub both_ways : (b : Bool) → (b ≡ true) ⊎ (b ≡ false)
both_ways true = inl refl
both_ways false = inr refl

pub contained : (xs : List ℕ) (q : ℕ) → list_any (nat_eq q) xs ≡ true → Contains xs q
contained [] q h = absurd (true≢false (sym h))
contained (x ∷ xs) q h = elim (same q x) [
  | inl e ↦ (0, omega arith, sym e)
  | inr n ↦ later x xs q (contained xs q (unlike q x (list_any (nat_eq q) xs) n h))
]
  where
    unlike : (q x : ℕ) (b : Bool) → (q ≡ x → ⊥) → (nat_eq q x || b) ≡ true → b ≡ true
    unlike q x true n h = refl
    unlike q x false n h = absurd (n (grind arith))

pub tested : (xs : List ℕ) (q : ℕ) → Contains xs q → list_any (nat_eq q) xs ≡ true
tested [] q c = absurd (nothing q c)
tested (x ∷ xs) q c = elim (first_or_later x xs q c) [
  | inl e ↦ ap (λ b. b || list_any (nat_eq q) xs) (eq-eqb q x (sym e))
  | inr k ↦ ap (λ b. nat_eq q x || b) (tested xs q k) ∙ or_true (nat_eq q x)
]
  where
    or_true : (b : Bool) → (b || true) ≡ true
    or_true true = refl
    or_true false = refl

pub step_in : (line : List ℕ) (x : ℕ) (xs : List ℕ) → list_any (nat_eq x) line ≡ true → merged line (x ∷ xs) ≡ merged line xs
step_in line x xs e = ap (λ b. if b then merged line xs else merged (line ++ x ∷ []) xs) e

pub step_out : (line : List ℕ) (x : ℕ) (xs : List ℕ) → list_any (nat_eq x) line ≡ false → merged line (x ∷ xs) ≡ merged (line ++ x ∷ []) xs
step_out line x xs e = ap (λ b. if b then merged line xs else merged (line ++ x ∷ []) xs) e

pub merged_cases : (line other : List ℕ) (d : ℕ) → Contains (merged line other) d → Contains line d ⊎ Contains other d
merged_cases line [] d c = inl c
merged_cases line (x ∷ xs) d c = elim (both_ways (list_any (nat_eq x) line)) [
  | inl e ↦ elim (merged_cases line xs d (subst (λ l. Contains l d) (step_in line x xs e) c)) [
    | inl k ↦ inl k
    | inr k ↦ inr (later x xs d k)
  ]
  | inr e ↦ elim (merged_cases (line ++ x ∷ []) xs d (subst (λ l. Contains l d) (step_out line x xs e) c)) [
    | inl k ↦ elim (Contains-append_cases line (x ∷ []) d k) [
      | inl m ↦ inl m
      | inr m ↦ inr (Contains-append_left (x ∷ []) xs d m)
    ]
    | inr k ↦ inr (later x xs d k)
  ]
]

pub merged_left : (line other : List ℕ) (d : ℕ) → Contains line d → Contains (merged line other) d
merged_left line [] d c = c
merged_left line (x ∷ xs) d c = elim (both_ways (list_any (nat_eq x) line)) [
  | inl e ↦ subst (λ l. Contains l d) (sym (step_in line x xs e)) (merged_left line xs d c)
  | inr e ↦ subst (λ l. Contains l d) (sym (step_out line x xs e)) (merged_left (line ++ x ∷ []) xs d (Contains-append_left line (x ∷ []) d c))
]

pub merged_right : (line other : List ℕ) (d : ℕ) → Contains other d → Contains (merged line other) d
merged_right line [] d c = absurd (nothing d c)
merged_right line (x ∷ xs) d c = elim (both_ways (list_any (nat_eq x) line)) [
  | inl e ↦ subst (λ l. Contains l d) (sym (step_in line x xs e)) (elim (first_or_later x xs d c) [
    | inl f ↦ merged_left line xs d (subst (Contains line) f (contained line x e))
    | inr k ↦ merged_right line xs d k
  ])
  | inr e ↦ subst (λ l. Contains l d) (sym (step_out line x xs e)) (elim (first_or_later x xs d c) [
    | inl f ↦ merged_left (line ++ x ∷ []) xs d (Contains-append_right line (x ∷ []) d (subst (Contains (x ∷ [])) f (here x [])))
    | inr k ↦ merged_right (line ++ x ∷ []) xs d k
  ])
]

-- ---- what stands on a line

-- the class itself or one above it
abbrev pub IsOn : Graph → ℕ → ℕ → Type 0
IsOn graph class d = (d ≡ class) ⊎ Above graph class d

-- one of the classes or one above one of them
abbrev pub IsOnOne : Graph → List ℕ → ℕ → Type 0
IsOnOne graph classes d = (c : ℕ) × Contains classes c × IsOn graph c d

module _ (graph : Graph) where
  up : (class d : ℕ) → IsOnOne graph (supers graph class) d → Above graph class d
  up class d r = elim r.2 [
    | inl e ↦ direct class d (subst (Contains (supers graph class)) (sym e) r.1)
    | inr a ↦ further class r.0 d r.1 a
  ]

  down : (class d : ℕ) → Above graph class d → IsOnOne graph (supers graph class) d
  down _ _ (direct a b h) = (b, h, inl refl)
  down _ _ (further a b c h r) = (b, h, inr r)

  from_line : (class d : ℕ) → Contains (class ∷ []) d ⊎ IsOnOne graph (supers graph class) d → IsOn graph class d
  from_line class d (inl k) = elim (first_or_later class [] d k) [ inl e ↦ inl (sym e) | inr m ↦ absurd (nothing d m) ]
  from_line class d (inr r) = inr (up class d r)

  to_line : (class d : ℕ) → IsOn graph class d → Contains (class ∷ []) d ⊎ IsOnOne graph (supers graph class) d
  to_line class d (inl e) = inl (subst (Contains (class ∷ [])) (sym e) (here class []))
  to_line class d (inr r) = inr (down class d r)

  mutual
    pub line_is_above : (class : ℕ) (line : List ℕ) → IsLine graph class line → (d : ℕ) → Contains line d → IsOn graph class d
    line_is_above _ _ (line_of class line m) d c = from_line class d (added_is_above (class ∷ []) (supers graph class) line m d c)

    pub added_is_above : (line classes whole : List ℕ) → AreMerged graph line classes whole → (d : ℕ) → Contains whole d → Contains line d ⊎ IsOnOne graph classes d
    added_is_above _ _ _ (no_more line) d c = inl c
    added_is_above _ _ _ (one_more line class classes other whole l m) d c = elim (added_is_above (merged line other) classes whole m d c) [
      | inl k ↦ elim (merged_cases line other d k) [
        | inl n ↦ inl n
        | inr n ↦ inr (class, here class classes, line_is_above class other l d n)
      ]
      | inr r ↦ inr (r.0, later class classes r.0 r.1, r.2)
    ]

  mutual
    pub above_is_on : (class : ℕ) (line : List ℕ) → IsLine graph class line → (d : ℕ) → IsOn graph class d → Contains line d
    above_is_on _ _ (line_of class line m) d c = above_is_added (class ∷ []) (supers graph class) line m d (to_line class d c)

    pub above_is_added : (line classes whole : List ℕ) → AreMerged graph line classes whole → (d : ℕ) → Contains line d ⊎ IsOnOne graph classes d → Contains whole d
    above_is_added _ _ _ (no_more line) d c = elim c [ inl k ↦ k | inr r ↦ absurd (nothing r.0 r.1) ]
    above_is_added _ _ _ (one_more line class classes other whole l m) d c = above_is_added (merged line other) classes whole m d (elim c [
      | inl k ↦ inl (merged_left line other d k)
      | inr r ↦ elim (first_or_later class classes r.0 r.1) [
        | inl e ↦ inl (merged_right line other d (above_is_on class other l d (subst (λ x. IsOn graph x d) (sym e) r.2)))
        | inr k ↦ inr (r.0, k, r.2)
      ]
    ])

pub line_above : (graph : Graph) (class : ℕ) (line : List ℕ) → IsLine graph class line → (d : ℕ) → Contains line d ↔ ((d ≡ class) ⊎ Above graph class d)
line_above graph class line l d = (line_is_above graph class line l d, above_is_on graph class line l d)

-- ---- there is one line

module _ (graph : Graph) where
  opened : (class : ℕ) (line : List ℕ) → IsLine graph class line → AreMerged graph (class ∷ []) (supers graph class) line
  opened _ _ (line_of class line m) = m

  none_left : (line whole : List ℕ) → AreMerged graph line [] whole → line ≡ whole
  none_left _ _ (no_more line) = refl

  pub first_left : (line : List ℕ) (class : ℕ) (classes whole : List ℕ) → AreMerged graph line (class ∷ classes) whole → (other : List ℕ) × IsLine graph class other × AreMerged graph (merged line other) classes whole
  first_left _ _ _ _ (one_more line class classes other whole l m) = (other, l, m)

  mutual
    only_line : (class : ℕ) (a : List ℕ) → IsLine graph class a → (b : List ℕ) → IsLine graph class b → a ≡ b
    only_line _ _ (line_of class a m) b l = only_merged (class ∷ []) (supers graph class) a m b (opened class b l)

    only_merged : (line classes a : List ℕ) → AreMerged graph line classes a → (b : List ℕ) → AreMerged graph line classes b → a ≡ b
    only_merged _ _ _ (no_more line) b n = none_left line b n
    only_merged _ _ _ (one_more line class classes other whole l m) b n =
        let p = first_left line class classes b n in
        only_merged (merged line other) classes whole m b (subst (λ o. AreMerged graph (merged line o) classes b) (sym (only_line class other l p.0 p.1)) p.2)

pub one_line : (graph : Graph) (class : ℕ) (a b : List ℕ) → IsLine graph class a → IsLine graph class b → a ≡ b
one_line graph class a b l m = only_line graph class a l b m

-- ---- there is a line

pub past : (rows : Graph) (class : ℕ) → length rows ≤ class → supers rows class ≡ []
past [] class l = refl
past (x ∷ rows) zero l = absurd (omega (arith, l))
past (x ∷ rows) (suc class) l = past rows class (omega (arith, l))

-- the class stands at that place
abbrev pub IsAt : List ℕ → ℕ → ℕ → Type 0
IsAt order class i = (i < length order) × (get_or order i 0 ≡ class)

module _ (graph : Graph) (order : List ℕ) (arranged : IsArranged graph order) where
  pub place_of : (class : ℕ) → class < length graph → (i : ℕ) × IsAt order class i
  place_of class l = let c = arranged.whole class l in (c.0, (c.1, any_default order c.0 0 class c.1 ∙ c.2))

  inside : (class s : ℕ) → Contains (supers graph class) s → class < length graph → s < length graph
  inside class s c l = subst (λ x. x < length graph) c.2 (arranged.within class [] l c.0 s c.1)

  super_first : (class i s : ℕ) → IsAt order class i → Contains (supers graph class) s → (j : ℕ) × (j < i) × IsAt order s j
  super_first class i s a c =
      let l : class < length graph = subst (λ x. x < length graph) a.1 (arranged.below i a.0) in
      let p = place_of s (inside class s c l) in
      (p.0, arranged.first i p.0 a.0 p.1.0 (subst (λ x. Contains (supers graph x) (get_or order p.0 0)) (sym a.1) (subst (Contains (supers graph class)) (sym p.1.1) c)), p.1)

  pub above_first : (a b i : ℕ) → Above graph a b → IsAt order a i → (j : ℕ) × (j < i) × IsAt order b j
  above_first _ _ i (direct a b h) at = super_first a i b at h
  above_first _ _ i (further a b c h r) at =
      let p = super_first a i b at h in
      let q = above_first b c p.0 r p.2 in
      (q.0, omega (arith, q.1, p.1), q.2)

  is_there : (a b : ℕ) → Above graph a b → a < length graph
  is_there a b r = by (nat_lt a (length graph)) refl (down graph a b r)
    where
      by : (t : Bool) → nat_lt a (length graph) ≡ t → IsOnOne graph (supers graph a) b → a < length graph
      by true e m = ltb-true a (length graph) e
      by false e m = absurd (nothing m.0 (subst (λ xs. Contains xs m.0) (past graph a (ltb-false a (length graph) e)) m.1))

  no_round : IsAcyclic graph
  no_round a r =
      let p = place_of a (is_there a a r) in
      let q = above_first a a p.0 r p.1 in
      arranged.apart q.0 p.0 q.1 p.1.0 (q.2.1 ∙ sym p.1.1)

  all_merged : (classes line : List ℕ) → ((c : ℕ) → Contains classes c → (l : List ℕ) × IsLine graph c l) → (whole : List ℕ) × AreMerged graph line classes whole
  all_merged [] line f = (line, no_more line)
  all_merged (c ∷ classes) line f =
      let l = f c (here c classes) in
      let r = all_merged classes (merged line l.0) (λ d k. f d (later c classes d k)) in
      (r.0, one_more line c classes l.0 r.0 l.1 r.1)

  line_at : (n class i : ℕ) → i < n → IsAt order class i → (line : List ℕ) × IsLine graph class line
  line_at zero class i l a = absurd (omega (arith, l))
  line_at (suc n) class i l a =
      let r = all_merged (supers graph class) (class ∷ []) (λ s c. let p = super_first class i s a c in line_at n s p.0 (omega (arith, p.1, l)) p.2) in
      (r.0, line_of class r.0 r.1)

  some_line : (class : ℕ) → class < length graph → (line : List ℕ) × IsLine graph class line
  some_line class l = let p = place_of class l in line_at (suc p.0) class p.0 (omega arith) p.1

pub arranged_acyclic : (graph : Graph) (order : List ℕ) → IsArranged graph order → IsAcyclic graph
arranged_acyclic = no_round

pub line_there : (graph : Graph) (order : List ℕ) → IsArranged graph order → (class : ℕ) → class < length graph → (line : List ℕ) × IsLine graph class line
line_there = some_line

-- ---- what is found

or_none : (a : Option ℕ) → or_else a None ≡ a
or_none None = refl
or_none (Some x) = refl

or_or : (a b c : Option ℕ) → or_else (or_else a b) c ≡ or_else a (or_else b c)
or_or None b c = refl
or_or (Some x) b c = refl

module _ (own : ℕ → Option ℕ) where
  first_append : (xs ys : List ℕ) → first_in own (xs ++ ys) ≡ or_else (first_in own xs) (first_in own ys)
  first_append [] ys = refl
  first_append (x ∷ xs) ys = ap (or_else (own x)) (first_append xs ys) ∙ sym (or_or (own x) (first_in own xs) (first_in own ys))

  -- what a class of the list has adds nothing
  seen_before : (line : List ℕ) (x : ℕ) (rest : Option ℕ) → Contains line x → or_else (first_in own line) (or_else (own x) rest) ≡ or_else (first_in own line) rest
  seen_before [] x rest c = absurd (nothing x c)
  seen_before (y ∷ line) x rest c = elim (first_or_later y line x c) [
    | inl e ↦ subst (λ z. or_else (or_else (own y) (first_in own line)) (or_else (own z) rest) ≡ or_else (or_else (own y) (first_in own line)) rest) e (twice (own y) (first_in own line))
    | inr k ↦ or_or (own y) (first_in own line) (or_else (own x) rest) ∙ ap (or_else (own y)) (seen_before line x rest k) ∙ sym (or_or (own y) (first_in own line) rest)
  ]
    where
      twice : (a b : Option ℕ) → or_else (or_else a b) (or_else a rest) ≡ or_else (or_else a b) rest
      twice None b = refl
      twice (Some z) b = refl

  first_merged : (line other : List ℕ) → first_in own (merged line other) ≡ or_else (first_in own line) (first_in own other)
  first_merged line [] = sym (or_none (first_in own line))
  first_merged line (x ∷ xs) = elim (both_ways (list_any (nat_eq x) line)) [
    | inl e ↦ ap (first_in own) (step_in line x xs e) ∙ first_merged line xs ∙ sym (seen_before line x (first_in own xs) (contained line x e))
    | inr e ↦
        ap (first_in own) (step_out line x xs e) ∙ first_merged (line ++ x ∷ []) xs ∙ ap (λ o. or_else o (first_in own xs)) (first_append line (x ∷ []))
        ∙ or_or (first_in own line) (first_in own (x ∷ [])) (first_in own xs) ∙ ap (λ o. or_else (first_in own line) (or_else o (first_in own xs))) (or_none (own x))
  ]

module _ (graph : Graph) (own : ℕ → Option ℕ) where
  -- what stands first stays
  first_stays : (line classes whole : List ℕ) → AreMerged graph line classes whole → (f : ℕ) → first_in own line ≡ Some f → first_in own whole ≡ Some f
  first_stays _ _ _ (no_more line) f e = e
  first_stays _ _ _ (one_more line class classes other whole l m) f e =
      first_stays (merged line other) classes whole m f (first_merged own line other ∙ ap (λ o. or_else o (first_in own other)) e)

  own_first : (class : ℕ) (line : List ℕ) → AreMerged graph (class ∷ []) (supers graph class) line → (first_in own (class ∷ []) ≡ None → FoundIn graph own (supers graph class) (first_in own line)) → Found graph own class (first_in own line)
  own_first class line m rest = by (own class) refl
    where
      by : (o : Option ℕ) → own class ≡ o → Found graph own class (first_in own line)
      by (Some f) e = subst (Found graph own class) (sym (first_stays (class ∷ []) (supers graph class) line m f (or_none (own class) ∙ e))) (own_one class f e)
      by None e = inherited class (first_in own line) e (rest (or_none (own class) ∙ e))

  next_class : (line : List ℕ) (class : ℕ) (classes other whole : List ℕ) → Found graph own class (first_in own other) → AreMerged graph (merged line other) classes whole →
      (first_in own (merged line other) ≡ None → FoundIn graph own classes (first_in own whole)) → first_in own line ≡ None → FoundIn graph own (class ∷ classes) (first_in own whole)
  next_class line class classes other whole found m rest none = by (first_in own other) refl
    where
      is_other : first_in own (merged line other) ≡ first_in own other
      is_other = first_merged own line other ∙ ap (λ o. or_else o (first_in own other)) none

      by : (o : Option ℕ) → first_in own other ≡ o → FoundIn graph own (class ∷ classes) (first_in own whole)
      by (Some f) e =
          subst (FoundIn graph own (class ∷ classes)) (sym (first_stays (merged line other) classes whole m f (is_other ∙ e)))
          (in_first class f classes (subst (Found graph own class) e found))
      by None e = in_rest class classes (first_in own whole) (subst (Found graph own class) e found) (rest (is_other ∙ e))

  mutual
    found_on_line : (class : ℕ) (line : List ℕ) → IsLine graph class line → Found graph own class (first_in own line)
    found_on_line _ _ (line_of class line m) = own_first class line m (found_on_lines (class ∷ []) (supers graph class) line m)

    found_on_lines : (line classes whole : List ℕ) → AreMerged graph line classes whole → first_in own line ≡ None → FoundIn graph own classes (first_in own whole)
    found_on_lines _ _ _ (no_more line) none = subst (FoundIn graph own []) (sym none) nowhere
    found_on_lines _ _ _ (one_more line class classes other whole l m) none =
        next_class line class classes other whole (found_on_line class other l) m (found_on_lines (merged line other) classes whole m) none

pub line_found : (graph : Graph) (own : ℕ → Option ℕ) (class : ℕ) (line : List ℕ) → IsAcyclic graph → IsLine graph class line → Found graph own class (first_in own line)
line_found graph own class line acyclic l = found_on_line graph own class line l

-- ---- one thing is found

module _ (graph : Graph) (own : ℕ → Option ℕ) where
  is_own : (class f : ℕ) → own class ≡ Some f → (b : Option ℕ) → Found graph own class b → Some f ≡ b
  is_own _ f e _ (own_one class g h) = cc
  is_own _ f e _ (inherited class b n r) = absurd (no (sym e ∙ n))
    where
      no : Some f ≡ None → ⊥
      no h = cc

  not_own : (class : ℕ) → own class ≡ None → (b : Option ℕ) → Found graph own class b → FoundIn graph own (supers graph class) b
  not_own _ n _ (own_one class g h) = absurd (no (sym n ∙ h))
    where
      no : None ≡ Some g → ⊥
      no h = cc
  not_own _ n _ (inherited class b m r) = r

  nowhere_else : (b : Option ℕ) → FoundIn graph own [] b → None ≡ b
  nowhere_else _ nowhere = refl

  first_or_rest : (class : ℕ) (classes : List ℕ) (b : Option ℕ) → FoundIn graph own (class ∷ classes) b → ((f : ℕ) × Found graph own class (Some f) × (b ≡ Some f)) ⊎ (Found graph own class None × FoundIn graph own classes b)
  first_or_rest _ _ _ (in_first class f classes x) = inl (f, x, refl)
  first_or_rest _ _ _ (in_rest class classes b x r) = inr (x, r)

  unlike_none : (f : ℕ) → Some f ≡ None → ⊥
  unlike_none f e = cc

  mutual
    only_found : (class : ℕ) (a : Option ℕ) → Found graph own class a → (b : Option ℕ) → Found graph own class b → a ≡ b
    only_found _ _ (own_one class f e) b g = is_own class f e b g
    only_found _ _ (inherited class a n r) b g = only_found_in (supers graph class) a r b (not_own class n b g)

    only_found_in : (classes : List ℕ) (a : Option ℕ) → FoundIn graph own classes a → (b : Option ℕ) → FoundIn graph own classes b → a ≡ b
    only_found_in _ _ nowhere b g = nowhere_else b g
    only_found_in _ _ (in_first class f classes x) b g = elim (first_or_rest class classes b g) [
      | inl h ↦ only_found class (Some f) x (Some h.0) h.1 ∙ sym h.2
      | inr h ↦ absurd (unlike_none f (only_found class (Some f) x None h.0))
    ]
    only_found_in _ _ (in_rest class classes a x r) b g = elim (first_or_rest class classes b g) [
      | inl h ↦ absurd (unlike_none h.0 (sym (only_found class None x (Some h.0) h.1)))
      | inr h ↦ only_found_in classes a r b h.1
    ]

pub one_found : (graph : Graph) (own : ℕ → Option ℕ) (class : ℕ) (a b : Option ℕ) → Found graph own class a → Found graph own class b → a ≡ b
one_found graph own class a b f g = only_found graph own class a f b g
