-- What the summaries of the methods above a class say is what is said of overriding there.
use Rattle.std.proofs.Common.{◌≡◌, ◌↔◌, ℕ, Bool, true, false, List, [], ◌∷◌, ◌++◌, get_or, ◌⊎◌, inl, inr, Option, Some, None, refl, ap, sym, ◌∙◌, subst, nat_eq, true≢false}
use Rattle.std.specs.List.{Contains, list_any}
use Rattle.std.proofs.lemmas.Option.{slice_get_within, get_or_from_slice_get, slice_get-get_or}
use Rattle.std.proofs.lemmas.List.Elements.{Contains-append_left, Contains-append_cases}
use Rattle.jesc_classes.specs.Headings.{Source, graph_of}
use Rattle.jesc_classes.specs.Order.{Graph, supers, Above, direct, further, IsAcyclic}
use Rattle.jesc_classes.specs.laws.Orders.{same, later, here, first_or_later, nothing}
use Rattle.jesc_ast.specs.declared.class.MethodTree.{MethodTree}
use Rattle.jesc_members.specs.declared.summary.Summary.{Summary}
use Rattle.jesc_members.specs.declared.summary_layers.Above.{Above as AboveOf}
use Rattle.jesc_lookup.specs.Lines.{merged, IsLine, line_of, AreMerged, no_more, one_more}
use Rattle.jesc_lookup.specs.Maps.{Map}
use Rattle.jesc_members.specs.Methods.{MethodOf, methods_of, Signature, signature, is_hidden, is_final}
use Rattle.jesc_members.specs.Overriding.{AreAlike, Differ, IsOneHidden, IsDeclaredAbove, IsPairAbove, IsLikeAbove}
use Rattle.jesc_members.specs.Summaries.{IsMethodAt, AreMany, AreMixed, IsOneSuch, IsSummaryOf, IsKeyedIn}
use Rattle.jesc_members.specs.SummaryLayers.{IsAbove, summary_at, has_differing, has_hidden}
use Rattle.jesc_members.specs.Summed.{AreKeysOf, DiffersFrom, HidesWith, IsSealed}
use Rattle.jesc_lookup.specs.laws.Lines.{IsOnOne, both_ways, step_in, step_out, line_above, line_is_above}

-- ---- signatures are the same or differ

abbrev pub Either : {X : Type 0} → X → X → Type 0
Either a b = (a ≡ b) ⊎ (a ≡ b → ⊥)

either_bool : (a b : Bool) → Either a b
either_bool true true = inl refl
either_bool false false = inl refl
either_bool true false = inr (λ e. true≢false e)
either_bool false true = inr (λ e. true≢false (sym e))

either_pair : {X Y : Type 0} → ((a b : X) → Either a b) → ((a b : Y) → Either a b) → (p q : X × Y) → Either p q
either_pair f g (a, b) (c, d) = elim (f a c) [
  | inr n ↦ inr (λ e. n (ap (λ p. p.0) e))
  | inl x ↦ elim (g b d) [
    | inr n ↦ inr (λ e. n (ap (λ p. p.1) e))
    | inl y ↦ inl (ap (λ t. (t, b)) x ∙ ap (λ t. (c, t)) y)
  ]
]

abbrev head_of : {X : Type 0} → X → List X → X
head_of d [] = d
head_of d (x ∷ xs) = x

abbrev tail_of : {X : Type 0} → List X → List X
tail_of [] = []
tail_of (x ∷ xs) = xs

not_empty : {X : Type 0} (x : X) (xs : List X) → [] ≡ x ∷ xs → ⊥
not_empty x xs e = cc

either_list : {X : Type 0} → ((a b : X) → Either a b) → (xs ys : List X) → Either xs ys
either_list f [] [] = inl refl
either_list f [] (y ∷ ys) = inr (λ e. not_empty y ys e)
either_list f (x ∷ xs) [] = inr (λ e. not_empty x xs (sym e))
either_list f (x ∷ xs) (y ∷ ys) = elim (f x y) [
  | inr n ↦ inr (λ e. n (ap (head_of x) e))
  | inl h ↦ elim (either_list f xs ys) [
    | inr n ↦ inr (λ e. n (ap tail_of e))
    | inl t ↦ inl (ap (λ z. z ∷ xs) h ∙ ap (λ zs. y ∷ zs) t)
  ]
]

abbrev value_of : {X : Type 0} → X → Option X → X
value_of d None = d
value_of d (Some x) = x

not_none : {X : Type 0} (x : X) → None ≡ Some x → ⊥
not_none x e = cc

either_option : {X : Type 0} → ((a b : X) → Either a b) → (o p : Option X) → Either o p
either_option f None None = inl refl
either_option f None (Some y) = inr (λ e. not_none y e)
either_option f (Some x) None = inr (λ e. not_none x (sym e))
either_option f (Some x) (Some y) = elim (f x y) [
  | inr n ↦ inr (λ e. n (ap (value_of x) e))
  | inl h ↦ inl (ap Some h)
]

abbrev Written : Type 0
Written = List ℕ × Bool

either_written : (a b : Written) → Either a b
either_written = either_pair (either_list same) either_bool

abbrev parts : List (Written × Bool) → Option Written → Bool → Signature
parts p r n = record { params = p; result = r; nullable = n }

-- two methods have the same signature or not
pub either_signature : (a b : MethodTree) → Either (signature a) (signature b)
either_signature a b = by (signature a).params (signature b).params (signature a).result (signature b).result (signature a).nullable (signature b).nullable
  where
    by : (p q : List (Written × Bool)) (r s : Option Written) (m n : Bool) → Either (parts p r m) (parts q s n)
    by p q r s m n = elim (either_list (either_pair either_written either_bool) p q) [
      | inr u ↦ inr (λ e. u (ap (λ (x : Signature). x.params) e))
      | inl x ↦ elim (either_option either_written r s) [
        | inr u ↦ inr (λ e. u (ap (λ (x : Signature). x.result) e))
        | inl y ↦ elim (either_bool m n) [
          | inr u ↦ inr (λ e. u (ap (λ (x : Signature). x.nullable) e))
          | inl z ↦ inl (ap (λ t. parts t r m) x ∙ ap (λ t. parts q t m) y ∙ ap (λ t. parts q s t) z)
        ]
      ]
    ]

-- ---- methods by number

module _ (methods : List MethodOf) where
  pub same_at : (i : ℕ) (a b : MethodOf) → IsMethodAt methods i a → IsMethodAt methods i b → a ≡ b
  same_at i a b at bt = sym (get_or_from_slice_get methods i a a at) ∙ get_or_from_slice_get methods i b a bt

  pub method_there : (i : ℕ) (m : MethodOf) → IsMethodAt methods i m → Contains methods m
  method_there i m at = (i, slice_get_within methods i m at, get_or_from_slice_get methods i m m at)

  pub number_of : (m : MethodOf) → Contains methods m → (i : ℕ) × IsMethodAt methods i m
  number_of m c = (c.0, slice_get-get_or methods c.0 m c.1 ∙ ap Some c.2)

-- ---- two of some methods

-- two of these methods are declared by different types, and this is true of them
abbrev pub IsPairIn : List MethodOf → List ℕ → (MethodOf → MethodOf → Type 0) → Type 0
IsPairIn methods of P = (i j : ℕ) × (a b : MethodOf) × Contains of i × Contains of j × IsMethodAt methods i a × IsMethodAt methods j b × (a.class ≡ b.class → ⊥) × P a b

module _ (methods : List MethodOf) (of : List ℕ) where
  -- another class's method differs from one of two that differ
  third : (i j k : ℕ) (a b m : MethodOf) → Contains of i → Contains of j → Contains of k → IsMethodAt methods i a → IsMethodAt methods j b → IsMethodAt methods k m
      → (signature a.tree ≡ signature b.tree → ⊥) → a.class ≡ b.class → (m.class ≡ a.class → ⊥) → IsPairIn methods of Differ
  third i j k a b m ic jc kc at bt mt differ one apart = elim (either_signature m.tree a.tree) [
    | inr u ↦ (k, i, m, a, kc, ic, mt, at, apart, u)
    | inl s ↦ (k, j, m, b, kc, jc, mt, bt, (λ g. apart (g ∙ sym one)), (λ t. differ (sym s ∙ t)))
  ]

  pub many_mixed : AreMany methods of → AreMixed methods of → IsPairIn methods of Differ
  many_mixed (i, j, a, b, ic, jc, at, bt, apart) (k, l, x, y, kc, lc, xt, yt, differ) = elim (same x.class y.class) [
    | inr d ↦ (k, l, x, y, kc, lc, xt, yt, d, differ)
    | inl e ↦ elim (same a.class x.class) [
      | inr d ↦ third k l i x y a kc lc ic xt yt at differ e d
      | inl f ↦ third k l j x y b kc lc jc xt yt bt differ e (λ g. apart (f ∙ sym g))
    ]
  ]

  pub many_hides : AreMany methods of → IsOneSuch methods (λ a. is_hidden a.tree ≡ true) of → IsPairIn methods of IsOneHidden
  many_hides (i, j, a, b, ic, jc, at, bt, apart) (k, x, kc, xt, h) = elim (same x.class a.class) [
    | inr d ↦ (k, i, x, a, kc, ic, xt, at, d, inl h)
    | inl e ↦ (k, j, x, b, kc, jc, xt, bt, (λ f. apart (sym e ∙ f)), inl h)
  ]

  none_there : of ≡ [] → (i : ℕ) → Contains of i → ⊥
  none_there e i c = nothing i (subst (λ l. Contains l i) e c)

  -- ---- what a summary says

  pub some_differing : (s : Option Summary) → IsSummaryOf methods of s → IsPairIn methods of Differ → has_differing s
  some_differing None e (i, j, a, b, ic, jc, at, bt, apart, p) = none_there e i ic
  some_differing (Some s) h (i, j, a, b, ic, jc, at, bt, apart, p) = (h.many.1 (i, j, a, b, ic, jc, at, bt, apart), h.mixed.1 (i, j, a, b, ic, jc, at, bt, p))

  pub differing_pair : (s : Option Summary) → IsSummaryOf methods of s → has_differing s → IsPairIn methods of Differ
  differing_pair None e d = absurd d
  differing_pair (Some s) h d = many_mixed (h.many.0 d.0) (h.mixed.0 d.1)

  pub some_hidden : (s : Option Summary) → IsSummaryOf methods of s → IsPairIn methods of IsOneHidden → has_hidden s
  some_hidden None e (i, j, a, b, ic, jc, at, bt, apart, p) = none_there e i ic
  some_hidden (Some s) h (i, j, a, b, ic, jc, at, bt, apart, p) = (
    h.many.1 (i, j, a, b, ic, jc, at, bt, apart),
    h.hides.1 (elim p [ inl x ↦ (i, a, ic, at, x) | inr y ↦ (j, b, jc, bt, y) ]),
  )

  pub hidden_pair : (s : Option Summary) → IsSummaryOf methods of s → has_hidden s → IsPairIn methods of IsOneHidden
  hidden_pair None e d = absurd d
  hidden_pair (Some s) h d = many_hides (h.many.0 d.0) (h.hides.0 d.1)

  module _ (m : MethodOf) (there : (i : ℕ) → Contains of i → (a : MethodOf) × IsMethodAt methods i a) where
    pub differs_from : (s : Option Summary) → IsSummaryOf methods of s → IsOneSuch methods (Differ m) of → DiffersFrom methods m s
    differs_from None e (i, b, ic, bt, p) = none_there e i ic
    differs_from (Some s) h (i, b, ic, bt, p) =
        let a = there s.sample h.sample in
        elim (either_signature m.tree a.0.tree) [
          | inr u ↦ inr (a.0, a.1, u)
          | inl e ↦ inl (h.mixed.1 (s.sample, i, a.0, b, h.sample, ic, a.1, bt, (λ t. p (e ∙ t))))
        ]

    two_differ : AreMixed methods of → IsOneSuch methods (Differ m) of
    two_differ (i, j, a, b, ic, jc, at, bt, differ) = elim (either_signature m.tree a.tree) [
      | inr u ↦ (i, a, ic, at, u)
      | inl e ↦ (j, b, jc, bt, (λ t. differ (sym e ∙ t)))
    ]

    pub from_differs : (s : Option Summary) → IsSummaryOf methods of s → DiffersFrom methods m s → IsOneSuch methods (Differ m) of
    from_differs None e d = absurd d
    from_differs (Some s) h (inl x) = two_differ (h.mixed.0 x)
    from_differs (Some s) h (inr (a, at, u)) = (s.sample, a, h.sample, at, u)

    pub hides_with : (s : Option Summary) → IsSummaryOf methods of s → IsOneSuch methods (IsOneHidden m) of → HidesWith m s
    hides_with None e (i, b, ic, bt, p) = none_there e i ic
    hides_with (Some s) h (i, b, ic, bt, inl x) = inl x
    hides_with (Some s) h (i, b, ic, bt, inr y) = inr (h.hides.1 (i, b, ic, bt, y))

    one_hides : IsOneSuch methods (λ a. is_hidden a.tree ≡ true) of → IsOneSuch methods (IsOneHidden m) of
    one_hides (i, b, ic, bt, p) = (i, b, ic, bt, inr p)

    pub from_hides : (s : Option Summary) → IsSummaryOf methods of s → HidesWith m s → IsOneSuch methods (IsOneHidden m) of
    from_hides None e d = absurd d
    from_hides (Some s) h (inl x) = let a = there s.sample h.sample in (s.sample, a.0, h.sample, a.1, inl x)
    from_hides (Some s) h (inr y) = one_hides (h.hides.0 y)

  pub is_sealed : (s : Option Summary) → IsSummaryOf methods of s → IsOneSuch methods (λ b. is_final b.tree ≡ true) of → IsSealed s
  is_sealed None e (i, b, ic, bt, p) = none_there e i ic
  is_sealed (Some s) h w = h.sealed.1 w

  pub from_sealed : (s : Option Summary) → IsSummaryOf methods of s → IsSealed s → IsOneSuch methods (λ b. is_final b.tree ≡ true) of
  from_sealed None e d = absurd d
  from_sealed (Some s) h d = h.sealed.0 d

-- ---- a line behind its class

-- what a list is behind its first number, where all of that is among these or as said
abbrev IsGrown : ℕ → List ℕ → (ℕ → Type 0) → List ℕ → Type 0
IsGrown y ys P whole = (zs : List ℕ) × (whole ≡ y ∷ zs) × ((d : ℕ) → Contains zs d → Contains ys d ⊎ P d)

grown_by : (y : ℕ) (ys other : List ℕ) → IsGrown y ys (Contains other) (merged (y ∷ ys) other)
grown_by y ys [] = (ys, refl, λ d c. inl c)
grown_by y ys (x ∷ xs) = elim (both_ways (list_any (nat_eq x) (y ∷ ys))) [
  | inl e ↦
      let r = grown_by y ys xs in
      (r.0, step_in (y ∷ ys) x xs e ∙ r.1, λ d c. elim (r.2 d c) [ inl k ↦ inl k | inr k ↦ inr (later x xs d k) ])
  | inr e ↦
      let r = grown_by y (ys ++ x ∷ []) xs in
      (r.0, step_out (y ∷ ys) x xs e ∙ r.1, λ d c. elim (r.2 d c) [ inl k ↦ pushed d k | inr k ↦ inr (later x xs d k) ])
]
  where
    pushed : (d : ℕ) → Contains (ys ++ x ∷ []) d → Contains ys d ⊎ Contains (x ∷ xs) d
    pushed d k = elim (Contains-append_cases ys (x ∷ []) d k) [
      | inl m ↦ inl m
      | inr m ↦ inr (Contains-append_left (x ∷ []) xs d m)
    ]

module _ (graph : Graph) where
  grown_all : (start classes whole : List ℕ) → AreMerged graph start classes whole → (y : ℕ) (ys : List ℕ) → start ≡ y ∷ ys → IsGrown y ys (IsOnOne graph classes) whole
  grown_all _ _ _ (no_more start) y ys e = (ys, e, λ d c. inl c)
  grown_all _ _ _ (one_more start class classes other whole l m) y ys e =
      let g = grown_by y ys other in
      let r = grown_all (merged start other) classes whole m y g.0 (ap (λ s. merged s other) e ∙ g.1) in (
        r.0,
        r.1,
        λ d c. elim (r.2 d c) [
          | inl k ↦ elim (g.2 d k) [
            | inl n ↦ inl n
            | inr n ↦ inr (class, here class classes, line_is_above graph class other l d n)
          ]
          | inr k ↦ inr (k.0, later class classes k.0 k.1, k.2)
        ],
      )

  up : (class d : ℕ) → IsOnOne graph (supers graph class) d → Above graph class d
  up class d r = elim r.2 [
    | inl e ↦ direct class d (subst (Contains (supers graph class)) (sym e) r.1)
    | inr a ↦ further class r.0 d r.1 a
  ]

  merged_of : (class : ℕ) (whole : List ℕ) → IsLine graph class whole → AreMerged graph (class ∷ []) (supers graph class) whole
  merged_of _ _ (line_of class whole m) = m

  pub behind_above : (class : ℕ) (line : List ℕ) → IsLine graph class (class ∷ line) → (d : ℕ) → Contains line d → Above graph class d
  behind_above class line is d c =
      let g = grown_all (class ∷ []) (supers graph class) (class ∷ line) (merged_of class (class ∷ line) is) class [] refl in
      elim (g.2 d (subst (λ l. Contains l d) (ap tail_of g.1) c)) [
        | inl k ↦ absurd (nothing d k)
        | inr r ↦ up class d r
      ]

  pub above_behind : (class : ℕ) (line : List ℕ) → IsAcyclic graph → IsLine graph class (class ∷ line) → (d : ℕ) → Above graph class d → Contains line d
  above_behind class line acyclic is d r = elim (first_or_later class line d ((line_above graph class (class ∷ line) is d).1 (inr r))) [
    | inl e ↦ absurd (acyclic class (subst (Above graph class) (sym e) r))
    | inr k ↦ k
  ]

-- ---- the methods above a class

-- a like method above the class of which this is true
abbrev IsLikeOver : List Source → ℕ → MethodOf → (MethodOf → Type 0) → Type 0
IsLikeOver given class m P = (b : MethodOf) × IsDeclaredAbove given class b × AreAlike m b × P b

-- the list has the methods of the key that these classes declare
abbrev AreThose : List ℕ → List (List ℕ) → List ℕ → ℕ → List ℕ → Type 0
AreThose keys rows line key of = (i : ℕ) → Contains of i ↔ IsKeyedIn keys rows line key i

module _ (given : List Source) (keys : List ℕ) (rows : List (List ℕ)) (class : ℕ) (line : List ℕ) (known : AreKeysOf given keys rows) (acyclic : IsAcyclic (graph_of given)) (is : IsLine (graph_of given) class (class ∷ line)) where
  declared : (key i : ℕ) (m : MethodOf) → IsKeyedIn keys rows line key i → IsMethodAt (methods_of given) i m → IsDeclaredAbove given class m
  declared key i m k at =
      let r = (known.rowed k.0 i).0 k.2 in
      let one : r.0 ≡ m = same_at (methods_of given) i r.0 m r.1 at in
      (method_there (methods_of given) i m at, behind_above (graph_of given) class line is m.class (subst (Contains line) (sym r.2 ∙ ap (λ (x : MethodOf). x.class) one) k.1))

  like_keyed : (key i j : ℕ) (a b : MethodOf) → IsKeyedIn keys rows line key i → IsKeyedIn keys rows line key j → IsMethodAt (methods_of given) i a → IsMethodAt (methods_of given) j b → AreAlike a b
  like_keyed key i j a b k l at bt = (known.keyed i j a b at bt).0 (k.3 ∙ sym l.3)

  listed : (m : MethodOf) → IsDeclaredAbove given class m → (key : ℕ) → (i : ℕ) × IsMethodAt (methods_of given) i m × (get_or keys i 0 ≡ key → IsKeyedIn keys rows line key i)
  listed m d key =
      let p = number_of (methods_of given) m d.0 in
      (p.0, p.1, λ e. (m.class, above_behind (graph_of given) class line acyclic is m.class d.1, (known.rowed m.class p.0).1 (m, p.1, refl), e))

  -- a pair in the list is one above the class
  raised : (key : ℕ) (of : List ℕ) → AreThose keys rows line key of → (P : MethodOf → MethodOf → Type 0) → IsPairIn (methods_of given) of P → IsPairAbove given class P
  raised key of f P (i, j, a, b, ic, jc, at, bt, apart, p) =
      let k = (f i).0 ic in
      let l = (f j).0 jc in
      (a, b, declared key i a k at, declared key j b l bt, apart, like_keyed key i j a b k l at bt, p)

  -- a pair above the class is one of a key
  lowered : (P : MethodOf → MethodOf → Type 0) → IsPairAbove given class P → (key : ℕ) × ((of : List ℕ) → AreThose keys rows line key of → IsPairIn (methods_of given) of P)
  lowered P (a, b, da, db, apart, like, p) =
      let n = number_of (methods_of given) a da.0 in
      let key = get_or keys n.0 0 in
      let x = listed a da key in
      let y = listed b db key in
      let xe : get_or keys x.0 0 ≡ key = (known.keyed x.0 n.0 a a x.1 n.1).1 (refl, refl) in
      let ye : get_or keys y.0 0 ≡ key = sym ((known.keyed n.0 y.0 a b n.1 y.1).1 like) in
      (key, λ of f. (x.0, y.0, a, b, (f x.0).1 (x.2 xe), (f y.0).1 (y.2 ye), x.1, y.1, apart, p))

  -- a like method above the class is in the list
  one_of : (m : MethodOf) (n : ℕ) → IsMethodAt (methods_of given) n m → (P : MethodOf → Type 0) (of : List ℕ) → AreThose keys rows line (get_or keys n 0) of → IsLikeOver given class m P → IsOneSuch (methods_of given) P of
  one_of m n at P of f (b, d, like, p) =
      let y = listed b d (get_or keys n 0) in
      let e : get_or keys y.0 0 ≡ get_or keys n 0 = sym ((known.keyed n y.0 m b at y.1).1 like) in
      (y.0, b, (f y.0).1 (y.2 e), y.1, p)

  -- one in the list is a like method above the class
  over_one : (m : MethodOf) (n : ℕ) → IsMethodAt (methods_of given) n m → (P : MethodOf → Type 0) (of : List ℕ) → AreThose keys rows line (get_or keys n 0) of → IsOneSuch (methods_of given) P of → IsLikeOver given class m P
  over_one m n at P of f (i, b, ic, bt, p) =
      let k = (f i).0 ic in
      (b, declared (get_or keys n 0) i b k bt, (known.keyed n i m b at bt).0 (sym k.3), p)

  there_of : (key : ℕ) (of : List ℕ) → AreThose keys rows line key of → (i : ℕ) → Contains of i → (a : MethodOf) × IsMethodAt (methods_of given) i a
  there_of key of f i c =
      let k = (f i).0 c in
      let r = (known.rowed k.0 i).0 k.2 in
      (r.0, r.1)

  module _ (versions : List Map) (summaries : List Summary) (a : AboveOf) (above : IsAbove (methods_of given) keys rows versions summaries line a) where
    pub above_differs : (a.differs ≡ true) ↔ IsPairAbove given class Differ
    above_differs = (
      λ t.
          let k = above.differs.0 t in
          let s = above.each k.0 in
          raised k.0 s.0 s.1 Differ (differing_pair (methods_of given) s.0 (summary_at versions summaries a k.0) s.2 k.1),
      λ p.
          let k = lowered Differ p in
          let s = above.each k.0 in
          above.differs.1 (k.0, some_differing (methods_of given) s.0 (summary_at versions summaries a k.0) s.2 (k.1 s.0 s.1)),
    )

    pub above_hides : (a.hides ≡ true) ↔ IsPairAbove given class IsOneHidden
    above_hides = (
      λ t.
          let k = above.hides.0 t in
          let s = above.each k.0 in
          raised k.0 s.0 s.1 IsOneHidden (hidden_pair (methods_of given) s.0 (summary_at versions summaries a k.0) s.2 k.1),
      λ p.
          let k = lowered IsOneHidden p in
          let s = above.each k.0 in
          above.hides.1 (k.0, some_hidden (methods_of given) s.0 (summary_at versions summaries a k.0) s.2 (k.1 s.0 s.1)),
    )

    module _ (m : MethodOf) (n : ℕ) (at : IsMethodAt (methods_of given) n m) where
      over_differs : IsLikeOver given class m (Differ m) ↔ DiffersFrom (methods_of given) m (summary_at versions summaries a (get_or keys n 0))
      over_differs =
          let s = above.each (get_or keys n 0) in
          let f = there_of (get_or keys n 0) s.0 s.1 in (
            λ x. differs_from (methods_of given) s.0 m f (summary_at versions summaries a (get_or keys n 0)) s.2 (one_of m n at (Differ m) s.0 s.1 x),
            λ d. over_one m n at (Differ m) s.0 s.1 (from_differs (methods_of given) s.0 m f (summary_at versions summaries a (get_or keys n 0)) s.2 d),
          )

      over_hidden : IsLikeOver given class m (IsOneHidden m) ↔ HidesWith m (summary_at versions summaries a (get_or keys n 0))
      over_hidden =
          let s = above.each (get_or keys n 0) in
          let f = there_of (get_or keys n 0) s.0 s.1 in (
            λ x. hides_with (methods_of given) s.0 m f (summary_at versions summaries a (get_or keys n 0)) s.2 (one_of m n at (IsOneHidden m) s.0 s.1 x),
            λ d. over_one m n at (IsOneHidden m) s.0 s.1 (from_hides (methods_of given) s.0 m f (summary_at versions summaries a (get_or keys n 0)) s.2 d),
          )

      over_final : IsLikeOver given class m (λ b. is_final b.tree ≡ true) ↔ IsSealed (summary_at versions summaries a (get_or keys n 0))
      over_final =
          let s = above.each (get_or keys n 0) in (
            λ x. is_sealed (methods_of given) s.0 (summary_at versions summaries a (get_or keys n 0)) s.2 (one_of m n at (λ b. is_final b.tree ≡ true) s.0 s.1 x),
            λ d. over_one m n at (λ b. is_final b.tree ≡ true) s.0 s.1 (from_sealed (methods_of given) s.0 (summary_at versions summaries a (get_or keys n 0)) s.2 d),
          )

-- ---- a method and those like it above its class

module _ (given : List Source) (keys : List ℕ) (rows : List (List ℕ)) (m : MethodOf) (n : ℕ) (at : IsMethodAt (methods_of given) n m) (line : List ℕ) (known : AreKeysOf given keys rows) (acyclic : IsAcyclic (graph_of given)) (is : IsLine (graph_of given) m.class (m.class ∷ line))
    (versions : List Map) (summaries : List Summary) (a : AboveOf) (above : IsAbove (methods_of given) keys rows versions summaries line a) where
  pub like_differs : IsLikeAbove given m (Differ m) ↔ DiffersFrom (methods_of given) m (summary_at versions summaries a (get_or keys n 0))
  like_differs = over_differs given keys rows m.class line known acyclic is versions summaries a above m n at

  pub like_hidden : IsLikeAbove given m (IsOneHidden m) ↔ HidesWith m (summary_at versions summaries a (get_or keys n 0))
  like_hidden = over_hidden given keys rows m.class line known acyclic is versions summaries a above m n at

  pub like_final : IsLikeAbove given m (λ b. is_final b.tree ≡ true) ↔ IsSealed (summary_at versions summaries a (get_or keys n 0))
  like_final = over_final given keys rows m.class line known acyclic is versions summaries a above m n at
