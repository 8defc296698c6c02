-- A walk over supertypes that marks each class when it is met.
use Rattle.std.proofs.Common.{◌≡◌, ◌↔◌, ℕ, zero, suc, ◌+◌, ◌<◌, ◌≤◌, Bool, true, false, List, [], ◌∷◌, ◌++◌, length, get_or, replicate, take, ◌⊎◌, inl, inr, refl, ap, sym, ◌∙◌, subst, arith}
use Rattle.std.specs.Prelude.{cond, count_by}
use Rattle.std.proofs.Math.ListN.{set}
use Rattle.std.specs.List.{All, Contains}
use Rattle.std.proofs.lemmas.List.{get_or_default, get_or-set_same, get_or_append_left, length_push, length-replicate, length-set}
use Rattle.std.proofs.lemmas.List.Sums.{count_by-le-length, sum_by-set}
use Rattle.std.proofs.lemmas.List.Elements.{All-contains, All-push, All-weaker, All-nil, All-more, Contains-append_left, Contains-push}
use Rattle.jesc_classes.specs.Order.{Graph, supers, Above, direct, further, IsWithin}
use Rattle.jesc_classes.proofs.Ranked.{everywhere, named}

abbrev pub Has : List Bool → ℕ → Type 0
Has marks q = get_or marks q false ≡ true

pub record Marked (graph : Graph) (start : ℕ) (met : List ℕ) (marks : List Bool) : Type 0 where
  pub count : length marks ≡ length graph
  pub size : length met ≤ count_by (λ m. m) marks
  pub each : (q : ℕ) → Has marks q → (start ≡ q) ⊎ Above graph start q
  pub listed : (q : ℕ) → Has marks q → Contains met q
  pub marked : All (Has marks) met

-- of the first ones that were met, so many, all supertypes were met
pub record Walk (graph : Graph) (start done : ℕ) (met : List ℕ) (marks : List Bool) : Type 0 where
  pub all : Marked graph start met marks
  pub from : Has marks start
  pub within : done ≤ length met
  pub up : (i q : ℕ) → i < done → Contains (supers graph (get_or met i 0)) q → Has marks q

-- the next of those that were met, of whose supertypes so many were met
pub record Visit (graph : Graph) (start done class taken : ℕ) (supertypes met : List ℕ) (marks : List Bool) : Type 0 where
  pub walk : Walk graph start done met marks
  pub left : done < length met
  pub here : get_or met done 0 ≡ class
  pub above : All (Has marks) (take taken supertypes)

still : (marks : List Bool) (x q : ℕ) → Has marks q → Has (set marks x true) q
still [] x q h = h
still (m ∷ marks) zero zero h = refl
still (m ∷ marks) zero (suc q) h = h
still (m ∷ marks) (suc x) zero h = h
still (m ∷ marks) (suc x) (suc q) h = still marks x q h

either : (marks : List Bool) (x q : ℕ) → Has (set marks x true) q → Has marks q ⊎ (x ≡ q)
either [] x q h = inl h
either (m ∷ marks) zero zero h = inr refl
either (m ∷ marks) zero (suc q) h = inl h
either (m ∷ marks) (suc x) zero h = inl h
either (m ∷ marks) (suc x) (suc q) h = elim (either marks x q h) [ inl k ↦ inl k | inr e ↦ inr (ap suc e) ]

split : (i k : ℕ) → i < k + 1 → (i < k) ⊎ (i ≡ k)
split zero zero h = inr refl
split zero (suc k) h = inl (omega arith)
split (suc i) zero h = absurd (omega arith)
split (suc i) (suc k) h = elim (split i k (omega arith)) [ inl l ↦ inl (omega (arith, l)) | inr e ↦ inr (ap suc e) ]

no_mark : (n q : ℕ) → Has (replicate n false) q → ⊥
no_mark n q h = cc (everywhere false n q)

further_on : (graph : Graph) {a b : ℕ} → Above graph a b → (c : ℕ) → Contains (supers graph b) c → Above graph a c
further_on graph (direct a b h) c k = further a b c h (direct b c k)
further_on graph (further a b d h rest) c k = further a b c h (further_on graph rest c k)

nothing : (graph : Graph) (start : ℕ) → Marked graph start [] (replicate (length graph) false)
nothing graph start = record {
  count = length-replicate (length graph) false;
  size = omega arith;
  each = λ q h. absurd (no_mark (length graph) q h);
  listed = λ q h. absurd (no_mark (length graph) q h);
  marked = All-nil (Has (replicate (length graph) false));
}

abbrev bit : Bool → ℕ
bit m = cond m 1 0

-- one more is met
meet : (graph : Graph) (start x : ℕ) (met : List ℕ) (marks : List Bool) → Marked graph start met marks → x < length graph → get_or marks x false ≡ false → (start ≡ x) ⊎ Above graph start x
    → Marked graph start (met ++ x ∷ []) (set marks x true)
meet graph start x met marks all l new why = record {
  count = length-set marks x true ∙ all.count;
  size = omega (arith, all.size, length_push met x, more);
  each = λ q h. elim (either marks x q h) [ inl k ↦ all.each q k | inr e ↦ subst (λ y. (start ≡ y) ⊎ Above graph start y) e why ];
  listed = λ q h. elim (either marks x q h) [
    | inl k ↦ Contains-append_left met (x ∷ []) q (all.listed q k)
    | inr e ↦ subst (λ y. Contains (met ++ x ∷ []) y) e (Contains-push met x)
  ];
  marked = All-push (Has (set marks x true)) met x (All-weaker (Has marks) (Has (set marks x true)) (still marks x) met all.marked) (get_or-set_same marks x true false lm);
}
  where
    lm : x < length marks
    lm = omega (arith, l, all.count)

    more : count_by (λ m. m) (set marks x true) ≡ count_by (λ m. m) marks + 1
    more =
        let e = sum_by-set bit marks x true false lm in
        let z = ap bit new in
        omega (arith, e, z)

pub begin : (graph : Graph) (start : ℕ) (met : List ℕ) (marks : List Bool) → start < length graph → met ≡ start ∷ [] → marks ≡ set (replicate (length graph) false) start true
    → Walk graph start 0 met marks
begin graph start met marks l em ek =
    subst (λ (ms : List ℕ). Walk graph start 0 ms marks) (sym em)
    (subst (λ (ks : List Bool). Walk graph start 0 (start ∷ []) ks) (sym ek) first)
  where
    first : Walk graph start 0 (start ∷ []) (set (replicate (length graph) false) start true)
    first = record {
      all = meet graph start start [] (replicate (length graph) false) (nothing graph start) l (everywhere false (length graph) start) (inl refl);
      from = get_or-set_same (replicate (length graph) false) start true false (omega (arith, l, length-replicate (length graph) false));
      within = omega arith;
      up = λ i q h. absurd (omega arith);
    }

pub few : {graph : Graph} {start done : ℕ} {met : List ℕ} {marks : List Bool} → Walk graph start done met marks → length met ≤ length graph
few {graph} {start} {done} {met} {marks} w = omega (arith, w.all.size, w.all.count, count_by-le-length (λ (m : Bool). m) marks)

pub class_there : (graph : Graph) (start done : ℕ) (met : List ℕ) (marks : List Bool) → IsWithin graph → start < length graph → Walk graph start done met marks → (i : ℕ) → i < length met
    → get_or met i 0 < length graph
class_there graph start done met marks within l w i h = by (w.all.each (get_or met i 0) (w.all.marked i 0 h))
  where
    there : {a b : ℕ} → Above graph a b → a < length graph → b < length graph
    there (direct a b k) la = named graph a b within la k
    there (further a b c k rest) la = there rest (named graph a b within la k)

    by : (start ≡ get_or met i 0) ⊎ Above graph start (get_or met i 0) → get_or met i 0 < length graph
    by c = elim c [ inl e ↦ omega (arith, l, e) | inr a ↦ there a l ]

pub visit : (graph : Graph) (start done class : ℕ) (supertypes met : List ℕ) (marks : List Bool) → Walk graph start done met marks → done < length met → get_or met done 0 ≡ class
    → Visit graph start done class 0 supertypes met marks
visit graph start done class supertypes met marks w l e = record { walk = w; left = l; here = e; above = All-nil (Has marks) }

-- a read of a mark
pub read : (marks : List Bool) (x : ℕ) (r b : Bool) → r ≡ get_or marks x r → x < length marks → r ≡ b → get_or marks x false ≡ b
read marks x r b e l is = get_or_default marks x false r l ∙ (sym e ∙ is)

-- the next supertype was met before
pub pass : (graph : Graph) (start done class taken x : ℕ) (supertypes met : List ℕ) (marks : List Bool) → Visit graph start done class taken supertypes met marks → taken < length supertypes
    → get_or supertypes taken 0 ≡ x → Has marks x → (met' : List ℕ) (marks' : List Bool) → met' ≡ met → marks' ≡ marks → Visit graph start done class (taken + 1) supertypes met' marks'
pass graph start done class taken x supertypes met marks v l e h met' marks' em ek =
    subst (λ (ms : List ℕ). Visit graph start done class (taken + 1) supertypes ms marks') (sym em)
    (subst (λ (ks : List Bool). Visit graph start done class (taken + 1) supertypes met ks) (sym ek) passed)
  where
    passed : Visit graph start done class (taken + 1) supertypes met marks
    passed = record {
      walk = v.walk;
      left = v.left;
      here = v.here;
      above = All-more (Has marks) supertypes taken 0 l v.above (subst (Has marks) (sym e) h);
    }

-- the next supertype is met
pub mark : (graph : Graph) (start done class taken x : ℕ) (supertypes met : List ℕ) (marks : List Bool) → Visit graph start done class taken supertypes met marks → taken < length supertypes
    → get_or supertypes taken 0 ≡ x → supertypes ≡ supers graph class → x < length graph → get_or marks x false ≡ false
    → (met' : List ℕ) (marks' : List Bool) → met' ≡ met ++ x ∷ [] → marks' ≡ set marks x true → Visit graph start done class (taken + 1) supertypes met' marks'
mark graph start done class taken x supertypes met marks v l e es lx new met' marks' em ek =
    subst (λ (ms : List ℕ). Visit graph start done class (taken + 1) supertypes ms marks') (sym em)
    (subst (λ (ks : List Bool). Visit graph start done class (taken + 1) supertypes (met ++ x ∷ []) ks) (sym ek) marked)
  where
    names : Contains (supers graph class) x
    names = subst (λ (ss : List ℕ). Contains ss x) es (taken, l, get_or_default supertypes taken x 0 l ∙ e)

    class_has : Has marks class
    class_has = subst (Has marks) v.here (v.walk.all.marked done 0 v.left)

    why : Above graph start x
    why = elim (v.walk.all.each class class_has) [
      | inl s ↦ direct start x (subst (λ y. Contains (supers graph y) x) (sym s) names)
      | inr a ↦ further_on graph a x names
    ]

    marked : Visit graph start done class (taken + 1) supertypes (met ++ x ∷ []) (set marks x true)
    marked = record {
      walk = record {
        all = meet graph start x met marks v.walk.all lx new (inr why);
        from = still marks x start v.walk.from;
        within = omega (arith, v.walk.within, length_push met x);
        up = λ i q h k. still marks x q (v.walk.up i q h (subst (λ y. Contains (supers graph y) q) (get_or_append_left met (x ∷ []) 0 i (omega (arith, h, v.walk.within))) k));
      };
      left = omega (arith, v.left, length_push met x);
      here = get_or_append_left met (x ∷ []) 0 done v.left ∙ v.here;
      above = All-more (Has (set marks x true)) supertypes taken 0 l (All-weaker (Has marks) (Has (set marks x true)) (still marks x) (take taken supertypes) v.above)
          (subst (Has (set marks x true)) (sym e) (get_or-set_same marks x true false (omega (arith, lx, v.walk.all.count))));
    }

-- all supertypes of one more were met
pub leave : (graph : Graph) (start done class : ℕ) (met : List ℕ) (marks : List Bool) → Walk graph start done met marks → done < length met → get_or met done 0 ≡ class
    → All (Has marks) (supers graph class) → Walk graph start (done + 1) met marks
leave graph start done class met marks w l e taken = record {
  all = w.all;
  from = w.from;
  within = omega (arith, l);
  up = λ i q h k. elim (split i done h) [
    | inl less ↦ w.up i q less k
    | inr same ↦ All-contains (Has marks) (supers graph class) q taken (subst (λ y. Contains (supers graph y) q) (ap (λ j. get_or met j 0) same ∙ e) k)
  ];
}

-- when all were left, all were met
pub ends : (graph : Graph) (start done : ℕ) (met : List ℕ) (marks : List Bool) → Walk graph start done met marks → length met ≤ done → (q : ℕ) (r : Bool) → q < length graph → r ≡ get_or marks q r
    → (r ≡ true) ↔ ((start ≡ q) ⊎ Above graph start q)
ends graph start done met marks w h q r lq is = (λ e. w.all.each q (same ∙ e), λ c. elim c [ inl e ↦ sym same ∙ subst (Has marks) e w.from | inr a ↦ sym same ∙ on a w.from ])
  where
    same : get_or marks q false ≡ r
    same = read marks q r r is (omega (arith, lq, w.all.count)) refl

    step : (a b : ℕ) → Has marks a → Contains (supers graph a) b → Has marks b
    step a b k s = by (w.all.listed a k)
      where
        by : Contains met a → Has marks b
        by c = w.up c.0 b (omega (arith, c.1, h)) (subst (λ y. Contains (supers graph y) b) (sym (get_or_default met c.0 0 a c.1 ∙ c.2)) s)

    on : {a b : ℕ} → Above graph a b → Has marks a → Has marks b
    on (direct a b s) k = step a b k s
    on (further a b c s rest) k = on rest (step a b k s)
