-- The summary of some methods and one more.
use Rattle.std.proofs.Common.{◌≡◌, ◌↔◌, ℕ, ◌<◌, Bool, true, false, List, [], ◌∷◌, ◌++◌, length, get_or, map, ◌⊎◌, inl, inr, refl, ap, sym, ◌∙◌, subst, true≢false}
use Rattle.std.specs.Prelude.{slice_get}
use Rattle.std.specs.Option.{option_map}
use Rattle.std.specs.List.{Contains}
use Rattle.std.proofs.lemmas.Option.{slice_get-map, slice_get_read}
use Rattle.std.proofs.lemmas.List.Elements.{Contains-append_left, Contains-push, Contains-push_cases}
use Rattle.jesc_classes.specs.laws.Orders.{same, here, first_or_later, nothing}
use Rattle.jesc_members.specs.declared.methods.GivenMethod.{GivenMethod}
use Rattle.jesc_members.specs.declared.summary.Summary.{Summary}
use Rattle.jesc_members.specs.Methods.{MethodOf, signature, is_hidden, is_final}
use Rattle.jesc_members.specs.Seen.{seen_method}
use Rattle.jesc_members.specs.Summaries.{IsMethodAt, IsOneSuch, IsSummary}
use Rattle.jesc_members.specs.laws.Summed.{Either, either_signature, same_at}

pub seen_at : (methods : List GivenMethod) (i : ℕ) (x : GivenMethod) → i < length methods → x ≡ get_or methods i x → IsMethodAt (map seen_method methods) i (seen_method x)
seen_at methods i x inside is = slice_get-map seen_method methods i ∙ ap (option_map seen_method) (slice_get_read methods (length methods) i x refl inside is)

-- two of these methods have different values
abbrev AreApart : {X : Type 0} → (MethodOf → X) → List MethodOf → List ℕ → Type 0
AreApart f methods of = (i j : ℕ) × (a b : MethodOf) × Contains of i × Contains of j × IsMethodAt methods i a × IsMethodAt methods j b × (f a ≡ f b → ⊥)

module _ (methods : List MethodOf) (m : ℕ) (b : MethodOf) (bt : IsMethodAt methods m b) where
  is_last : (j : ℕ) (y : MethodOf) → m ≡ j → IsMethodAt methods j y → b ≡ y
  is_last j y e yt = same_at methods m b y bt (ap (slice_get methods) e ∙ yt)

  -- ---- one method

  only : (j : ℕ) (y : MethodOf) → Contains (m ∷ []) j → IsMethodAt methods j y → b ≡ y
  only j y c yt = elim (first_or_later m [] j c) [
    | inl e ↦ is_last j y e yt
    | inr k ↦ absurd (nothing j k)
  ]

  none_apart : {X : Type 0} (f : MethodOf → X) → AreApart f methods (m ∷ []) → ⊥
  none_apart f (i, j, x, y, ic, jc, xt, yt, d) = d (sym (ap f (only i x ic xt)) ∙ ap f (only j y jc yt))

  one_such : (p : MethodOf → Bool) → IsOneSuch methods (λ a. p a ≡ true) (m ∷ []) → p b ≡ true
  one_such p (i, x, ic, xt, h) = ap p (only i x ic xt) ∙ h

  never : (t : Bool) → t ≡ false → t ≡ true → ⊥
  never t e f = true≢false (sym f ∙ e)

  pub alone : (s : Summary) → s.sample ≡ m → s.many ≡ false → s.mixed ≡ false → s.hides ≡ is_hidden b.tree → s.sealed ≡ is_final b.tree → IsSummary methods (m ∷ []) s
  alone s sample many mixed hides sealed = record {
    sample = subst (Contains (m ∷ [])) (sym sample) (here m []);
    many = (λ t. absurd (never s.many many t), λ w. absurd (none_apart (λ a. a.class) w));
    mixed = (λ t. absurd (never s.mixed mixed t), λ w. absurd (none_apart (λ a. signature a.tree) w));
    hides = (λ t. (m, b, here m [], bt, sym hides ∙ t), λ w. hides ∙ one_such (λ a. is_hidden a.tree) w);
    sealed = (λ t. (m, b, here m [], bt, sym sealed ∙ t), λ w. sealed ∙ one_such (λ a. is_final a.tree) w);
  }

  -- ---- one more

  module _ (of : List ℕ) where
    such_more : (P : MethodOf → Type 0) → IsOneSuch methods P of ⊎ P b → IsOneSuch methods P (of ++ m ∷ [])
    such_more P (inl (i, x, ic, xt, p)) = (i, x, Contains-append_left of (m ∷ []) i ic, xt, p)
    such_more P (inr p) = (m, b, Contains-push of m, bt, p)

    such_less : (P : MethodOf → Type 0) → IsOneSuch methods P (of ++ m ∷ []) → IsOneSuch methods P of ⊎ P b
    such_less P (i, x, ic, xt, p) = elim (Contains-push_cases of m i ic) [
      | inl k ↦ inl (i, x, k, xt, p)
      | inr e ↦ inr (subst P (sym (is_last i x e xt)) p)
    ]

    module _ {X : Type 0} (f : MethodOf → X) (decide : (x y : MethodOf) → Either (f x) (f y)) (k : ℕ) (a : MethodOf) (kc : Contains of k) (at : IsMethodAt methods k a) where
      apart_more : AreApart f methods of ⊎ (f a ≡ f b → ⊥) → AreApart f methods (of ++ m ∷ [])
      apart_more (inl (i, j, x, y, ic, jc, xt, yt, d)) = (i, j, x, y, Contains-append_left of (m ∷ []) i ic, Contains-append_left of (m ∷ []) j jc, xt, yt, d)
      apart_more (inr n) = (k, m, a, b, Contains-append_left of (m ∷ []) k kc, Contains-push of m, at, bt, n)

      -- one that differs from the last differs from the sample, or else the sample does from the last
      by_sample : (i : ℕ) (x : MethodOf) → Contains of i → IsMethodAt methods i x → (f x ≡ f b → ⊥) → AreApart f methods of ⊎ (f a ≡ f b → ⊥)
      by_sample i x ic xt d = elim (decide a b) [
        | inr n ↦ inr n
        | inl e ↦ inl (k, i, a, x, kc, ic, at, xt, (λ t. d (sym t ∙ e)))
      ]

      apart_less : AreApart f methods (of ++ m ∷ []) → AreApart f methods of ⊎ (f a ≡ f b → ⊥)
      apart_less (i, j, x, y, ic, jc, xt, yt, d) = elim (Contains-push_cases of m i ic) [
        | inl p ↦ elim (Contains-push_cases of m j jc) [
          | inl q ↦ inl (i, j, x, y, p, q, xt, yt, d)
          | inr e ↦ by_sample i x p xt (λ t. d (t ∙ ap f (is_last j y e yt)))
        ]
        | inr g ↦ elim (Contains-push_cases of m j jc) [
          | inl q ↦ by_sample j y q yt (λ t. d (sym (ap f (is_last i x g xt)) ∙ sym t))
          | inr e ↦ absurd (d (sym (ap f (is_last i x g xt)) ∙ ap f (is_last j y e yt)))
        ]
      ]

    through : {A B N C D : Type 0} → A ↔ B → C ↔ (A ⊎ N) → (B ⊎ N → D) → (D → B ⊎ N) → C ↔ D
    through known new more less = (
      λ c. more (elim (new.0 c) [ inl a ↦ inl (known.0 a) | inr n ↦ inr n ]),
      λ d. new.1 (elim (less d) [ inl b ↦ inl (known.1 b) | inr n ↦ inr n ]),
    )

    pub joined : (old s : Summary) (a : MethodOf) → IsSummary methods of old → IsMethodAt methods old.sample a → s.sample ≡ old.sample
        → (s.many ≡ true) ↔ ((old.many ≡ true) ⊎ (a.class ≡ b.class → ⊥))
        → (s.mixed ≡ true) ↔ ((old.mixed ≡ true) ⊎ (signature a.tree ≡ signature b.tree → ⊥))
        → (s.hides ≡ true) ↔ ((old.hides ≡ true) ⊎ (is_hidden b.tree ≡ true))
        → (s.sealed ≡ true) ↔ ((old.sealed ≡ true) ⊎ (is_final b.tree ≡ true))
        → IsSummary methods (of ++ m ∷ []) s
    joined old s a h at sample many mixed hides sealed = record {
      sample = subst (Contains (of ++ m ∷ [])) (sym sample) (Contains-append_left of (m ∷ []) old.sample h.sample);
      many = through h.many many (apart_more (λ x. x.class) (λ x y. same x.class y.class) old.sample a h.sample at) (apart_less (λ x. x.class) (λ x y. same x.class y.class) old.sample a h.sample at);
      mixed = through h.mixed mixed (apart_more (λ x. signature x.tree) (λ x y. either_signature x.tree y.tree) old.sample a h.sample at) (apart_less (λ x. signature x.tree) (λ x y. either_signature x.tree y.tree) old.sample a h.sample at);
      hides = through h.hides hides (such_more (λ x. is_hidden x.tree ≡ true)) (such_less (λ x. is_hidden x.tree ≡ true));
      sealed = through h.sealed sealed (such_more (λ x. is_final x.tree ≡ true)) (such_less (λ x. is_final x.tree ≡ true));
    }
