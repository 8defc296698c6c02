-- In which classes a name and a number of parameters mean a method without a body.
use Rattle.std.proofs.Common.{◌≡◌, inl, inr, ℕ, ◌<◌, ◌≤◌, Bool, true, false, not, List, [], ◌∷◌, length, get_or, map, Option, Some, None, refl, ap, sym, ◌∙◌, subst, arith, nat_eq, nat_lt, ltb-true, ltb-false, true≢false, slice_get, if◌then◌else◌}
use Rattle.std.proofs.lemmas.Bool.Decides.{eqb_tells}
use Rattle.std.proofs.lemmas.List.{get_or-map, get_or_past, length-map}
use Rattle.std.proofs.lemmas.Option.{slice_get_cases}
use Rattle.jesc_classes.specs.Order.{Graph}
use Rattle.jesc_classes.specs.laws.Lawful.{same_some}
use Rattle.jesc_members.specs.declared.methods.GivenMethod.{GivenMethod}
use Rattle.jesc_members.specs.Fields.{first_that}
use Rattle.jesc_members.specs.Counts.{Label, alike}
use Rattle.jesc_members.specs.Keys.{AreRows, HasKeys, first_equal}
use Rattle.jesc_lookup.specs.Layers.{AreLayersOf, first_keyed, own_keyed}
use Rattle.jesc_lookup.specs.Lines.{first_in, or_else}
use Rattle.jesc_lookup.specs.Lookup.{Found}
use Rattle.jesc_lookup.specs.Maps.{Map, at}
use Rattle.jesc_members.specs.Methods.{MethodOf, has_body, is_method_named}
use Rattle.jesc_lookup.specs.Numbering.{IsArranged}
use Rattle.jesc_members.specs.Seen.{seen_method}
use Rattle.jesc_lookup.specs.Tallies.{marked_in}
use Rattle.jesc_members.specs.BareMethods.{MeansBare, TellsBare, bare_of}
use Rattle.jesc_lookup.specs.laws.Lines.{line_there, one_found}
use Rattle.jesc_members.proofs.InheritCounted.{alike_decides, alike_itself}
use Rattle.jesc_lookup.specs.laws.Layers.{found_none, found_some}
use Rattle.jesc_members.proofs.InheritMethods.{label_of}
use Rattle.jesc_members.proofs.InheritNumbers.{own_by_key, own_none}
use Rattle.jesc_lookup.specs.laws.Marks.{is_marked, mark_counts, mark_there, some_marked}

pub seen_bare : (methods : List GivenMethod) → map (λ m. not (has_body m.tree.now)) methods ≡ bare_of (map seen_method methods)
seen_bare [] = refl
seen_bare (m ∷ methods) = ap (λ r. not (has_body m.tree.now) ∷ r) (seen_bare methods)

-- ---- an item has the key under which it is first

key_of : (keys : List ℕ) (key : ℕ) (row : List ℕ) (k : ℕ) → first_keyed keys key row ≡ Some k → get_or keys k 0 ≡ key
key_of keys key [] k e = absurd (cc)
key_of keys key (i ∷ row) k e = by (nat_eq key (get_or keys i 0)) refl (λ f. key_of keys key row k f) e
  where
    by : (b : Bool) → nat_eq key (get_or keys i 0) ≡ b → (first_keyed keys key row ≡ Some k → get_or keys k 0 ≡ key) → (if b then Some i else first_keyed keys key row) ≡ Some k → get_or keys k 0 ≡ key
    by true t more f = elim (eqb_tells key (get_or keys i 0)) [
      | inl h ↦ ap (λ x. get_or keys x 0) (sym (same_some i k f)) ∙ sym h.1
      | inr h ↦ absurd (true≢false (sym t ∙ h.0))
    ]
    by false t more f = more f

key_in : (keys : List ℕ) (rows : List (List ℕ)) (key : ℕ) (line : List ℕ) (k : ℕ) → first_in (own_keyed keys rows key) line ≡ Some k → get_or keys k 0 ≡ key
key_in keys rows key [] k e = absurd (cc)
key_in keys rows key (c ∷ line) k e = by (own_keyed keys rows key c) refl (λ f. key_in keys rows key line k f) e
  where
    by : (o : Option ℕ) → own_keyed keys rows key c ≡ o → (first_in (own_keyed keys rows key) line ≡ Some k → get_or keys k 0 ≡ key) → or_else o (first_in (own_keyed keys rows key) line) ≡ Some k → get_or keys k 0 ≡ key
    by None f more h = more h
    by (Some x) f more h = key_of keys key (get_or rows c []) k (f ∙ h)

-- ---- marks

marked_inside : (marks : List Bool) (k : ℕ) → get_or marks k false ≡ true → k < length marks
marked_inside marks k e = by (nat_lt k (length marks)) refl
  where
    by : (b : Bool) → nat_lt k (length marks) ≡ b → k < length marks
    by true t = ltb-true k (length marks) t
    by false t = absurd (true≢false (sym e ∙ get_or_past marks k false (ltb-false k (length marks) t)))

not_true : (b : Bool) → not b ≡ true → b ≡ false
not_true true e = absurd (true≢false (sym e))
not_true false e = refl

-- a marked method is there, without a body
bare_there : (methods : List MethodOf) (k : ℕ) → get_or (bare_of methods) k false ≡ true → (m : MethodOf) × (k < length methods) × (slice_get methods k ≡ Some m) × (get_or methods k m ≡ m) × (has_body m.tree ≡ false)
bare_there methods k e = elim (slice_get_cases methods k).1 [
  | inl h ↦ (h.0, h.1, h.2, h.3, not_true (has_body h.0.tree) (ap (λ m. not (has_body m.tree)) (sym h.3) ∙ sym (get_or-map (λ m. not (has_body m.tree)) methods k h.0 false h.1) ∙ e))
  | inr h ↦ absurd (past h.0)
]
  where
    past : length methods ≤ k → ⊥
    past l = let i = marked_inside (bare_of methods) k e in absurd (omega (arith, l, i, length-map methods (λ m. not (has_body m.tree))))

bare_marked : (methods : List MethodOf) (k : ℕ) (m : MethodOf) → slice_get methods k ≡ Some m → has_body m.tree ≡ false → get_or (bare_of methods) k false ≡ true
bare_marked methods k m e f = elim (slice_get_cases methods k).1 [
  | inl h ↦ get_or-map (λ x. not (has_body x.tree)) methods k h.0 false h.1 ∙ ap (λ x. not (has_body x.tree)) (h.3 ∙ same_method h.0 m (sym h.2 ∙ e)) ∙ ap not f
  | inr h ↦ absurd (none m (sym h.1 ∙ e))
]
  where
    same_method : (x y : MethodOf) → Some x ≡ Some y → x ≡ y
    same_method x y g = cc

    none : (x : MethodOf) → None ≡ Some x → ⊥
    none x g = cc

-- ---- each class

module _ (graph : Graph) (order : List ℕ) (arranged : IsArranged graph order) (methods : List MethodOf) (keys : List ℕ) (rows : List (List ℕ)) (versions : List Map) (of : List ℕ)
    (keyed : HasKeys Label alike (map label_of methods) keys) (rs : AreRows (length graph) (map (λ m. m.class) methods) rows) (layers : AreLayersOf (λ class. class < length graph) graph keys rows versions of) where
  module _ (class : ℕ) (inside : class < length graph) where
    by_key : (name : List ℕ) (count key : ℕ) → first_equal alike 0 (name, count) (map label_of methods) ≡ Some key → Found graph (λ c. first_that (is_method_named name count c) 0 methods) class (at (get_or versions (get_or of class 0) []) key)
    by_key name count key e =
        found_some graph order arranged (λ c. first_that (is_method_named name count c) 0 methods) class inside keys rows versions of key layers
        (λ c l. own_by_key Label MethodOf alike alike_decides alike_itself (λ m. m.class) label_of keys rows methods (length graph) keyed rs key c (name, count) l e)

    by_none : (name : List ℕ) (count : ℕ) → first_equal alike 0 (name, count) (map label_of methods) ≡ None → Found graph (λ c. first_that (is_method_named name count c) 0 methods) class None
    by_none name count e =
        found_none graph order arranged (λ c. first_that (is_method_named name count c) 0 methods) class inside
        (λ c. own_none Label MethodOf alike alike_decides alike_itself (λ m. m.class) label_of methods c (name, count) e)

    -- the map has the method under the key of its label
    key_there : (key k : ℕ) → at (get_or versions (get_or of class 0) []) key ≡ Some k → get_or keys k 0 ≡ key
    key_there key k e =
        let l = line_there graph order arranged class inside in
        key_in keys rows key l.0 k (sym ((layers.each class inside inside l.0 l.1).each key) ∙ e)

    bare_means : (0 < marked_in (bare_of methods) (get_or versions (get_or of class 0) [])) → MeansBare graph methods class
    bare_means h =
        let s = some_marked (bare_of methods) (get_or versions (get_or of class 0) []) h in
        let v = is_marked (bare_of methods) (at (get_or versions (get_or of class 0) []) s.0) s.1 in
        let m = bare_there methods v.0 v.2 in
        let name = m.0.tree.name.text in
        let count = length m.0.tree.params in
        let label : get_or (map label_of methods) v.0 (label_of m.0) ≡ (name, count) = get_or-map label_of methods v.0 m.0 (label_of m.0) m.1 ∙ ap label_of m.3 in
        let first : first_equal alike 0 (name, count) (map label_of methods) ≡ Some s.0 =
        ap (λ x. first_equal alike 0 x (map label_of methods)) (sym label) ∙ keyed.each v.0 (label_of m.0) (omega (arith, m.1, length-map methods label_of)) ∙ ap Some (key_there s.0 v.0 v.1) in
        (name, count, v.0, m.0, subst (λ o. Found graph (λ c. first_that (is_method_named name count c) 0 methods) class o) v.1 (by_key name count s.0 first), m.2, m.4)

    means_bare : MeansBare graph methods class → 0 < marked_in (bare_of methods) (get_or versions (get_or of class 0) [])
    means_bare (name, count, k, m, found, there, bare) = by (first_equal alike 0 (name, count) (map label_of methods)) refl
      where
        unlike : (a : ℕ) → None ≡ Some a → ⊥
        unlike a e = cc

        by : (o : Option ℕ) → first_equal alike 0 (name, count) (map label_of methods) ≡ o → 0 < marked_in (bare_of methods) (get_or versions (get_or of class 0) [])
        by None e = absurd (unlike k (one_found graph (λ c. first_that (is_method_named name count c) 0 methods) class None (Some k) (by_none name count e) found))
        by (Some key) e =
            let is = one_found graph (λ c. first_that (is_method_named name count c) 0 methods) class (at (get_or versions (get_or of class 0) []) key) (Some k) (by_key name count key e) found in
            mark_counts (bare_of methods) (get_or versions (get_or of class 0) []) key (mark_there (bare_of methods) (at (get_or versions (get_or of class 0) []) key) k is (bare_marked methods k m there bare))

  pub tells_bare : (tallies : List ℕ) → tallies ≡ map (marked_in (bare_of methods)) versions → TellsBare graph methods tallies of
  tells_bare tallies are = record {
    there = λ class. omega (arith, layers.there class, ap length are, length-map versions (marked_in (bare_of methods)));
    each = λ class inside.
        let is : get_or tallies (get_or of class 0) 0 ≡ marked_in (bare_of methods) (get_or versions (get_or of class 0) []) =
        ap (λ xs. get_or xs (get_or of class 0) 0) are ∙ get_or-map (marked_in (bare_of methods)) versions (get_or of class 0) [] 0 (layers.there class) in
        (λ h. bare_means class inside (subst (λ n. 0 < n) is h), λ h. subst (λ n. 0 < n) (sym is) (means_bare class inside h));
  }
