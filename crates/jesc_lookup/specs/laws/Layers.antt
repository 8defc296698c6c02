-- How the classes get their versions in order.
use Rattle.std.proofs.Common.{◌≡◌, inl, inr, ℕ, zero, suc, ◌+◌, ◌<◌, ◌≤◌, List, [], ◌∷◌, ◌++◌, length, get_or, set, take, Option, None, refl, ap, sym, ◌∙◌, subst, arith, nat_lt, ltb-true, ltb-false, Bool, true, false}
use Rattle.std.specs.List.{All, Contains}
use Rattle.std.proofs.lemmas.List.{get_or-take, get_or-set_same, get_or-set_other, length-set, length-take-le, take_more, take_all, get_or_default, get_or_past, length-replicate}
use Rattle.std.proofs.lemmas.List.Elements.{All-contains, Contains-push_cases, Contains-get_or, Contains-append_right}
use Rattle.std.proofs.Math.ListN.{replicate}
use Rattle.jesc_classes.specs.Order.{Graph, supers, Above, direct, further}
use Rattle.jesc_classes.specs.laws.Orders.{same, here, later, nothing}
use Rattle.jesc_lookup.specs.Lines.{IsLine, IsExtra, AreExtras, first_in, or_else}
use Rattle.jesc_lookup.specs.Maps.{Map, at}
use Rattle.jesc_lookup.specs.Numbering.{IsArranged}
use Rattle.jesc_lookup.specs.Layers.{AddsLayer, AreLayersOf, HasFirsts, Steps, first_keyed, own_keyed, version_above, with_class}
use Rattle.jesc_lookup.specs.laws.Lines.{arranged_acyclic, line_there, line_found, one_line, line_above}
use Rattle.jesc_lookup.specs.Lookup.{Found}
use Rattle.jesc_lookup.specs.laws.Steps.{in_append, both_steps, renamed}

-- ---- extras

abbrev pub IsExtraOf : Graph → ℕ → List ℕ → List ℕ → Type 0
IsExtraOf graph class extra [] = (extra ≡ []) × IsLine graph class (class ∷ [])
IsExtraOf graph class extra (first ∷ rest) = (line : List ℕ) → IsLine graph first line → IsLine graph class (class ∷ (line ++ extra))

pub as_of : (graph : Graph) (class : ℕ) (extra : List ℕ) → IsExtra graph class extra → IsExtraOf graph class extra (supers graph class)
as_of graph class extra h = h

module _ (graph : Graph) (order : List ℕ) (arranged : IsArranged graph order) where
  pub super_within : (a b : ℕ) → Contains (supers graph a) b → b < length graph
  super_within a b c = by (nat_lt a (length graph)) refl
    where
      by : (t : Bool) → nat_lt a (length graph) ≡ t → b < length graph
      by true e = All-contains (λ x. x < length graph) (supers graph a) b (arranged.within a [] (ltb-true a (length graph) e)) c
      by false e = absurd (nothing b (subst (λ xs. Contains xs b) (get_or_past graph a [] (ltb-false a (length graph) e)) c))

  pub above_within : (a b : ℕ) → Above graph a b → b < length graph
  above_within _ _ (direct a b c) = super_within a b c
  above_within _ _ (further a b d c r) = above_within b d r

  pub line_within : (class : ℕ) (line : List ℕ) → class < length graph → IsLine graph class line → (d : ℕ) → Contains line d → d < length graph
  line_within class line l is d c = elim ((line_above graph class line is d).0 c) [
    | inl e ↦ subst (λ x. x < length graph) (sym e) l
    | inr r ↦ above_within class d r
  ]

  -- what stands above a class of a line, without the class
  pub tail_of : (class : ℕ) (extra ss : List ℕ) → class < length graph → ((s : ℕ) → Contains ss s → s < length graph) → IsExtraOf graph class extra ss
      → (tail : List ℕ) × IsLine graph class (class ∷ tail) × ((d : ℕ) → Contains extra d → Contains tail d)
  tail_of class extra [] l all h = ([], h.1, λ d c. subst (λ xs. Contains xs d) h.0 c)
  tail_of class extra (s ∷ ss) l all h =
      let base = line_there graph order arranged s (all s (here s ss)) in
      (base.0 ++ extra, h base.0 base.1, λ d c. Contains-append_right base.0 extra d c)

  pub extra_within : (extras : List (List ℕ)) → AreExtras graph extras → (class : ℕ) → class < length graph → All (λ above. above < length graph) (get_or extras class [])
  extra_within extras are class l k d inside =
      let extra = get_or extras class [] in
      let t = tail_of class extra (supers graph class) l (λ s c. super_within class s c) (as_of graph class extra (are.each class l)) in
      line_within class (class ∷ t.0) l t.1 (get_or extra k d) (later class t.0 (get_or extra k d) (t.2 (get_or extra k d) (Contains-get_or extra k d inside)))

  pub earlier : (i s : ℕ) → i < length order → Contains (supers graph (get_or order i 0)) s → Contains (take i order) s
  earlier i s l c =
      let p = arranged.whole s (super_within (get_or order i 0) s c) in
      let is : get_or order p.0 0 ≡ s = get_or_default order p.0 0 s p.1 ∙ p.2 in
      let before : p.0 < i = arranged.first i p.0 l p.1 (subst (λ x. Contains (supers graph (get_or order i 0)) x) (sym is) c) in
      (p.0, omega (arith, before, l, length-take-le i order (omega (arith, l))), get_or-take i order p.0 s before ∙ p.2)

  module _ (keys : List ℕ) (rows : List (List ℕ)) (versions : List Map) (of : List ℕ) where
    whole_line : (class : ℕ) (extra ss : List ℕ) → ((key : ℕ) → at (get_or versions 0 []) key ≡ None)
        → ((s : ℕ) → Contains ss s → (s < length graph) × ((line : List ℕ) → IsLine graph s line → HasFirsts keys rows versions (get_or of s 0) line))
        → IsExtraOf graph class extra ss → (line : List ℕ) → IsLine graph class line → (key : ℕ)
        → or_else (own_keyed keys rows key class) (or_else (at (get_or versions (version_above ss of) []) key) (first_in (own_keyed keys rows key) extra)) ≡ first_in (own_keyed keys rows key) line
    whole_line class extra [] empty all h line is key =
        ap (or_else (own_keyed keys rows key class)) (ap (λ o. or_else o (first_in (own_keyed keys rows key) extra)) (empty key) ∙ ap (first_in (own_keyed keys rows key)) h.0)
        ∙ ap (first_in (own_keyed keys rows key)) (one_line graph class (class ∷ []) line h.1 is)
    whole_line class extra (s ∷ ss) empty all h line is key =
        let a = all s (here s ss) in
        let base = line_there graph order arranged s a.0 in
        ap (or_else (own_keyed keys rows key class)) (ap (λ o. or_else o (first_in (own_keyed keys rows key) extra)) ((a.1 base.0 base.1).each key) ∙ sym (in_append (own_keyed keys rows key) base.0 extra))
        ∙ ap (first_in (own_keyed keys rows key)) (one_line graph class (class ∷ (base.0 ++ extra)) line (h base.0 base.1) is)

    module _ (class : ℕ) (inside : class < length of) (new : List Map) (new_of : List ℕ) (version : ℕ) (sets : new_of ≡ set of class version) where
      pub own_version : (c : ℕ) → c ≡ class → get_or new_of c 0 ≡ version
      own_version c e = ap (λ x. get_or new_of x 0) e ∙ ap (λ xs. get_or xs class 0) sets ∙ get_or-set_same of class version 0 inside

      pub other_version : (c : ℕ) → (c ≡ class → ⊥) → get_or new_of c 0 ≡ get_or of c 0
      other_version c n = ap (λ xs. get_or xs c 0) sets ∙ get_or-set_other of class c version 0 n

    kept : (from : ℕ) (new : List Map) (to : ℕ) (f : ℕ → Option ℕ → Option ℕ) → Steps (length keys) versions from new to f → (v : ℕ) (line : List ℕ) → HasFirsts keys rows versions v line → HasFirsts keys rows new v line
    kept from new to f s v line h = record {
      there = omega (arith, h.there, s.more);
      each = λ key. ap (λ m. at m key) (s.same v h.there) ∙ h.each key;
    }

    own_layer : (extras : List (List ℕ)) → AreExtras graph extras → (i : ℕ) → i < length order → (new : List Map) (new_of : List ℕ)
        → AreLayersOf (Contains (take i order)) graph keys rows versions of → (adds : AddsLayer graph extras keys rows (get_or order i 0) versions of new new_of)
        → (line : List ℕ) → IsLine graph (get_or order i 0) line → HasFirsts keys rows new adds.version line
    own_layer extras are i l new new_of old adds line is = record {
      there = adds.steps.there;
      each = λ key. adds.steps.each key
          ∙ whole_line (get_or order i 0) (get_or extras (get_or order i 0) []) (supers graph (get_or order i 0)) old.empty
          (λ s c. (super_within (get_or order i 0) s c, old.each s (super_within (get_or order i 0) s c) (earlier i s l c)))
          (as_of graph (get_or order i 0) (get_or extras (get_or order i 0) []) (are.each (get_or order i 0) (arranged.below i l))) line is key;
    }

    pub layer_added : (extras : List (List ℕ)) → AreExtras graph extras → (i : ℕ) → i < length order → (new : List Map) (new_of : List ℕ)
        → AreLayersOf (Contains (take i order)) graph keys rows versions of → AddsLayer graph extras keys rows (get_or order i 0) versions of new new_of
        → AreLayersOf (Contains (take (i + 1) order)) graph keys rows new new_of
    layer_added extras are i l new new_of old adds = record {
      count = ap length adds.of ∙ length-set of (get_or order i 0) adds.version ∙ old.count;
      sized = adds.steps.sized;
      some = omega (arith, old.some, adds.steps.more);
      empty = λ key. ap (λ m. at m key) (adds.steps.same 0 old.some) ∙ old.empty key;
      there = λ c. elim (same c (get_or order i 0)) [
        | inl e ↦ subst (λ n. n < length new) (sym (own_version (get_or order i 0) (omega (arith, old.count, arranged.below i l)) new new_of adds.version adds.of c e)) adds.steps.there
        | inr n ↦ subst (λ k. k < length new) (sym (other_version (get_or order i 0) (omega (arith, old.count, arranged.below i l)) new new_of adds.version adds.of c n)) (omega (arith, old.there c, adds.steps.more))
      ];
      each = λ c inside done line is. elim (same c (get_or order i 0)) [
        | inl e ↦ subst (λ v. HasFirsts keys rows new v line) (sym (own_version (get_or order i 0) (omega (arith, old.count, arranged.below i l)) new new_of adds.version adds.of c e)) (own_layer extras are i l new new_of old adds line (subst (λ x. IsLine graph x line) e is))
        | inr n ↦ elim (Contains-push_cases (take i order) (get_or order i 0) c (subst (λ xs. Contains xs c) (take_more order i 0 l) done)) [
          | inl d ↦ subst (λ v. HasFirsts keys rows new v line) (sym (other_version (get_or order i 0) (omega (arith, old.count, arranged.below i l)) new new_of adds.version adds.of c n)) (kept (version_above (supers graph (get_or order i 0)) of) new adds.version (with_class keys rows (get_or order i 0) (get_or extras (get_or order i 0) [])) adds.steps (get_or of c 0) line (old.each c inside d line is))
          | inr e ↦ absurd (n (sym e))
        ]
      ];
    }

  pub no_layers : (keys : List ℕ) (rows : List (List ℕ)) (versions : List Map) (of : List ℕ) (n : ℕ) → length keys ≤ n → versions ≡ replicate n None ∷ [] → of ≡ replicate (length graph) 0 → AreLayersOf (Contains (take 0 order)) graph keys rows versions of
  no_layers keys rows versions of n wide one zeros = record {
    count = ap length zeros ∙ length-replicate (length graph) 0;
    sized = λ k d l. subst (λ vs. length keys ≤ length (get_or vs k d)) (sym one) (sized k d (omega (arith, l, ap length one)));
    some = omega (arith, ap length one);
    empty = λ key. ap (λ vs. at (get_or vs 0 []) key) one ∙ nothing_in n key;
    there = λ c. subst (λ k. k < length versions) (sym (ap (λ xs. get_or xs c 0) zeros ∙ zero_in (length graph) c)) (omega (arith, ap length one));
    each = λ c inside done line is. absurd (nothing c done);
  }
    where
      sized : (k : ℕ) (d : Map) → k < 1 → length keys ≤ length (get_or (replicate n None ∷ []) k d)
      sized zero d l = omega (arith, wide, length-replicate {A = Option ℕ} n None)
      sized (suc k) d l = absurd (omega (arith, l))

      nothing_in : (m key : ℕ) → at (replicate m None) key ≡ None
      nothing_in zero key = refl
      nothing_in (suc m) zero = refl
      nothing_in (suc m) (suc key) = nothing_in m key

      zero_in : (m c : ℕ) → get_or {A = ℕ} (replicate m 0) c 0 ≡ 0
      zero_in zero c = refl
      zero_in (suc m) zero = refl
      zero_in (suc m) (suc c) = zero_in m c

  pub all_layers : (keys : List ℕ) (rows : List (List ℕ)) (versions : List Map) (of : List ℕ) (i : ℕ) → length order ≤ i → AreLayersOf (Contains (take i order)) graph keys rows versions of → AreLayersOf (λ class. class < length graph) graph keys rows versions of
  all_layers keys rows versions of i end l = record {
    count = l.count;
    sized = l.sized;
    some = l.some;
    empty = l.empty;
    there = l.there;
    each = λ c inside done. l.each c inside (subst (λ xs. Contains xs c) (sym (take_all i order end)) (arranged.whole c inside));
  }

-- the version above is there
pub above_there : (ss of : List ℕ) (n : ℕ) → ((c : ℕ) → get_or of c 0 < n) → version_above ss of < n
above_there [] of n h = omega (arith, h 0)
above_there (s ∷ ss) of n h = h s

pub class_added : (graph : Graph) (extras : List (List ℕ)) (keys : List ℕ) (rows : List (List ℕ)) (class : ℕ) (old : List Map) (old_of : List ℕ) (above : ℕ) (extra own_row : List ℕ) (mid : List Map) (m : ℕ) (new : List Map) (to : ℕ)
    → above ≡ version_above (supers graph class) old_of → extra ≡ get_or extras class [] → own_row ≡ get_or rows class []
    → Steps (length keys) old above mid m (λ k o. or_else o (first_in (own_keyed keys rows k) extra)) → Steps (length keys) mid m new to (λ k o. or_else (first_keyed keys k own_row) o)
    → AddsLayer graph extras keys rows class old old_of new (set old_of class to)
class_added graph extras keys rows class old old_of above extra own_row mid m new to is_above is_extra is_own s t = record {
  version = to;
  of = refl;
  steps = subst (λ v. Steps (length keys) old v new to (with_class keys rows class (get_or extras class []))) is_above
      (renamed (length keys) old above new to (λ k o. or_else (first_keyed keys k own_row) (or_else o (first_in (own_keyed keys rows k) extra))) (with_class keys rows class (get_or extras class []))
      (λ k. ap (λ row. or_else (first_keyed keys k row) (or_else (at (get_or old above []) k) (first_in (own_keyed keys rows k) extra))) is_own
      ∙ ap (λ more. or_else (own_keyed keys rows k class) (or_else (at (get_or old above []) k) (first_in (own_keyed keys rows k) more))) is_extra)
      (both_steps (length keys) old above mid m new to (λ k o. or_else o (first_in (own_keyed keys rows k) extra)) (λ k o. or_else (first_keyed keys k own_row) o) s t));
}

-- ---- what a name means in a class

none_in : (own : ℕ → Option ℕ) → ((c : ℕ) → own c ≡ None) → (line : List ℕ) → first_in own line ≡ None
none_in own h [] = refl
none_in own h (c ∷ line) = ap (λ o. or_else o (first_in own line)) (h c) ∙ none_in own h line

same_in : (f g : ℕ → Option ℕ) (line : List ℕ) → ((c : ℕ) → Contains line c → f c ≡ g c) → first_in f line ≡ first_in g line
same_in f g [] h = refl
same_in f g (c ∷ line) h = ap (λ o. or_else o (first_in f line)) (h c (here c line)) ∙ ap (or_else (g c)) (same_in f g line (λ d k. h d (later c line d k)))

module _ (graph : Graph) (order : List ℕ) (arranged : IsArranged graph order) (own : ℕ → Option ℕ) (class : ℕ) (inside : class < length graph) where
  pub found_none : ((c : ℕ) → own c ≡ None) → Found graph own class None
  found_none h =
      let l = line_there graph order arranged class inside in
      subst (λ o. Found graph own class o) (none_in own h l.0) (line_found graph own class l.0 (arranged_acyclic graph order arranged) l.1)

  pub found_some : (keys : List ℕ) (rows : List (List ℕ)) (versions : List Map) (of : List ℕ) (key : ℕ) → AreLayersOf (λ c. c < length graph) graph keys rows versions of
      → ((c : ℕ) → c < length graph → own c ≡ own_keyed keys rows key c) → Found graph own class (at (get_or versions (get_or of class 0) []) key)
  found_some keys rows versions of key layers h =
      let l = line_there graph order arranged class inside in
      let e = same_in own (own_keyed keys rows key) l.0 (λ c k. h c (line_within graph order arranged class l.0 inside l.1 c k)) in
      subst (λ o. Found graph own class o) (e ∙ sym ((layers.each class inside inside l.0 l.1).each key)) (line_found graph own class l.0 (arranged_acyclic graph order arranged) l.1)
