-- Where no rule on headings is broken, no class is its own supertype.
use Rattle.std.proofs.Common.{◌≡◌, ℕ, zero, suc, ◌+◌, ◌-◌, ◌<◌, ◌≤◌, ◌⊎◌, inl, inr, Bool, true, false, nat_lt, ltb-true, ltb-false, List, [], ◌∷◌, ◌++◌, map, get_or, if◌then◌else◌, Option, Some, None, refl, sym, ap, ◌∙◌, subst, arith}
use Rattle.std.specs.List.{Contains, slice_get}
use Rattle.jesc_ast.specs.declared.word.Word.{Word}
use Rattle.jesc_classes.specs.Order.{supers, Above, direct, further, IsAcyclic}
use Rattle.jesc_classes.specs.Headings.{Source, Part, own_name, extended, implemented, heading, headings_from, modifiers_from, walk, class_named, with_class, classes_named, extended_by, graph_of, refusal_at, IsOnCycle, Holds, AllHold}
use Rattle.jesc_classes.specs.declared.rule.Rule.TheVariants.{N3}
use Rattle.jesc_classes.specs.laws.Graphs.{row}
use Rattle.jesc_classes.specs.laws.Firsts.{below_predefined}

pub seventh : (n : ℕ) → 7 + n ≡ suc (suc (suc (suc (suc (suc (suc n))))))
seventh n = omega arith

-- ---- parts of the walk

module _ (given : List Source) where
  front_holds : (ps qs : List Part) → AllHold given (ps ++ qs) → AllHold given ps
  front_holds [] qs h = tt
  front_holds (p ∷ ps) qs h = (h.0, front_holds ps qs h.1)

  back_holds : (ps qs : List Part) → AllHold given (ps ++ qs) → AllHold given qs
  back_holds [] qs h = h
  back_holds (p ∷ ps) qs h = back_holds ps qs h.1

  heading_in : (i : ℕ) (all : List Source) → AllHold given (headings_from i all) → (n : ℕ) (s : Source) → slice_get all n ≡ Some s → AllHold given (heading (i + n) s)
  heading_in i [] h n s e = cc
  heading_in i (t ∷ all) h zero s e =
      let is : t ≡ s = cc in
      let at : i ≡ i + 0 = omega arith in
      subst (λ x. AllHold given (heading (i + 0) x)) is (subst (λ k. AllHold given (heading k t)) at (front_holds (heading i t) (headings_from (i + 1) all) h))
  heading_in i (t ∷ all) h (suc n) s e =
      let at : i + 1 + n ≡ i + suc n = omega arith in
      subst (λ k. AllHold given (heading k s)) at (heading_in (i + 1) all (back_holds (heading i t) (headings_from (i + 1) all) h) n s e)

  -- no rule is broken in the heading of the class of number i
  pub record HeadingHolds (i : ℕ) (s : Source) : Type 0 where
    pub name : Holds given (own_name i s)
    pub extends : AllHold given (map (extended i s) s.tree.extends)
    pub implements : AllHold given (map (implemented i s) s.tree.implements)

  pub heading_holds : AllHold given (walk given) → (n : ℕ) (s : Source) → slice_get given n ≡ Some s → HeadingHolds (7 + n) s
  heading_holds h n s e =
      let all = heading_in 7 given h n s e in
      let ext = map (extended (7 + n) s) s.tree.extends in
      let impl = map (implemented (7 + n) s) s.tree.implements in
      let from_name = back_holds (modifiers_from s [] s.tree.modifiers) (own_name (7 + n) s ∷ (ext ++ impl)) all in
      record { name = from_name.0; extends = front_holds ext impl from_name.1; implements = back_holds ext impl from_name.1 }

  -- a class that words name is that of one of the words
  pub record IsNamed (part : Word → Part) (b : ℕ) : Type 0 where
    pub word : Word
    pub holds : Holds given (part word)
    pub means : class_named given word.text ≡ Some b

  pub named_by : (part : Word → Part) (ws : List Word) → AllHold given (map part ws) → (b : ℕ) → Contains (classes_named given ws) b → IsNamed part b
  named_by part [] h b c = absurd (omega (arith, c.1))
  named_by part (w ∷ ws) h b c = by (class_named given w.text) refl c (named_by part ws h.1 b)
    where
      by : (o : Option ℕ) → class_named given w.text ≡ o → Contains (with_class o (classes_named given ws)) b → (Contains (classes_named given ws) b → IsNamed part b) → IsNamed part b
      by None e d rest = rest d
      by (Some j) e (zero, l, f) rest = record { word = w; holds = h.0; means = e ∙ ap (λ x. Some x) f }
      by (Some j) e (suc k, l, f) rest = rest (k, omega (arith, l), f)

  -- ---- no cycles

  pub off_cycle : (i : ℕ) (s : Source) (b : ℕ) → IsNamed (extended i s) b → IsOnCycle given i b → ⊥
  off_cycle i s b named cycle = named.holds (refusal_at N3 s named.word) (inr (b, named.means, inl (cycle, refl)))

  pub off_cycle_too : (i : ℕ) (s : Source) (b : ℕ) → IsNamed (implemented i s) b → IsOnCycle given i b → ⊥
  off_cycle_too i s b named cycle = named.holds (refusal_at N3 s named.word) (inr (b, named.means, inl (cycle, refl)))

  front_or_back : (xs ys : List ℕ) (b : ℕ) → Contains (xs ++ ys) b → Contains xs b ⊎ Contains ys b
  front_or_back [] ys b c = inr c
  front_or_back (x ∷ xs) ys b (zero, l, e) = inl (zero, omega arith, e)
  front_or_back (x ∷ xs) ys b (suc k, l, e) = elim (front_or_back xs ys b (k, omega (arith, l), e)) [
    | inl c ↦ inl (suc c.0, omega (arith, c.1), c.2)
    | inr c ↦ inr c
  ]

  -- what a heading extends is Object or named by its words
  pub extended_named : (i : ℕ) (s : Source) (ws : List Word) → AllHold given (map (extended i s) ws) → (b : ℕ) → Contains (extended_by given s.tree ws) b → (b ≡ 0) ⊎ IsNamed (extended i s) b
  extended_named i s [] h b c = by s.tree.is_interface c
    where
      by : (t : Bool) → Contains (if t then [] else (0 ∷ [])) b → (b ≡ 0) ⊎ IsNamed (extended i s) b
      by true c = absurd (omega (arith, c.1))
      by false (zero, l, e) = inl (sym e)
      by false (suc k, l, e) = absurd (omega (arith, l))
  extended_named i s (w ∷ ws) h b c = inr (named_by (extended i s) (w ∷ ws) h b c)

  -- a step up leads to Object or not back
  row_leads : (i : ℕ) (s : Source) → HeadingHolds i s → (b : ℕ) → Contains (row given s) b → (b ≡ 0) ⊎ (IsOnCycle given i b → ⊥)
  row_leads i s h b c = elim (front_or_back (extended_by given s.tree s.tree.extends) (classes_named given s.tree.implements) b c) [
    | inl d ↦ elim (extended_named i s s.tree.extends h.extends b d) [
      | inl e ↦ inl e
      | inr n ↦ inr (off_cycle i s b n)
    ]
    | inr d ↦ inr (off_cycle_too i s b (named_by (implemented i s) s.tree.implements h.implements b d))
  ]

  given_row : (f : Source → List ℕ) (all : List Source) (n b : ℕ) → Contains (get_or (map f all) n []) b → (s : Source) × (slice_get all n ≡ Some s) × Contains (f s) b
  given_row f [] n b c = absurd (omega (arith, c.1))
  given_row f (s ∷ all) zero b c = (s, refl, c)
  given_row f (s ∷ all) (suc n) b c = given_row f all n b c

  leads : AllHold given (walk given) → (n b : ℕ) → Contains (supers (graph_of given) (7 + n)) b → (b ≡ 0) ⊎ (IsOnCycle given (7 + n) b → ⊥)
  leads h n b c =
      let r = given_row (row given) given n b (subst (λ x. Contains (supers (graph_of given) x) b) (seventh n) c) in
      row_leads (7 + n) r.0 (heading_holds h n r.0 r.1) b r.2

  smaller : (a b : ℕ) → Above (graph_of given) a b → a < 7 → b < a
  smaller a b (direct c d m) l = subst (λ x. x < c) m.2 (below_predefined given c l m.0 d m.1)
  smaller a b (further c d e m r) l =
      let down : d < c = subst (λ x. x < c) m.2 (below_predefined given c l m.0 d m.1) in
      omega (arith, down, smaller d e r (omega (arith, down, l)))

  no_round : AllHold given (walk given) → (a b : ℕ) → Contains (supers (graph_of given) a) b → IsOnCycle given a b → ⊥
  no_round h a b c cycle = by (nat_lt a 7) refl
    where
      up : Above (graph_of given) a b
      up = direct a b c

      back_home : (b ≡ a) ⊎ Above (graph_of given) b a → a < 7 → ⊥
      back_home (inl e) l = let down = smaller a b up l in omega (arith, down, e)
      back_home (inr r) l = let down = smaller a b up l in let lower = smaller b a r (omega (arith, down, l)) in omega (arith, down, lower)

      from_object : (b ≡ a) ⊎ Above (graph_of given) b a → b ≡ 0 → 7 ≤ a → ⊥
      from_object (inl e) z l = omega (arith, e, z, l)
      from_object (inr r) z l = let down = smaller b a r (omega (arith, z)) in omega (arith, down, z)

      by : (t : Bool) → nat_lt a 7 ≡ t → ⊥
      by true e = back_home cycle (ltb-true a 7 e)
      by false e =
          let l = ltb-false a 7 e in
          let at : a ≡ 7 + (a - 7) = omega (arith, l) in
          elim (leads h (a - 7) b (subst (λ x. Contains (supers (graph_of given) x) b) at c)) [
            | inl z ↦ from_object cycle z l
            | inr off ↦ off (subst (λ x. IsOnCycle given x b) at cycle)
          ]

  no_way : AllHold given (walk given) → (a b : ℕ) → Above (graph_of given) a b → b ≡ a → ⊥
  no_way h a b (direct c d m) e = no_round h c d m (inl e)
  no_way h a b (further c d f m r) e = no_round h c d m (inr (subst (λ x. Above (graph_of given) d x) e r))

  pub acyclic : AllHold given (walk given) → IsAcyclic (graph_of given)
  acyclic h a r = no_way h a a r refl
