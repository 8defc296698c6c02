-- Versions: structures in which one more version has given values.
use Rattle.std.proofs.Common.{◌≡◌, ◌⊎◌, ℕ, Bool, true, false, List, [], ◌∷◌, ◌++◌, refl, sym, ap, ◌∙◌, subst, inl, inr, arith}
use Rattle.std.specs.Prelude.{ℤ, pos}
use Rattle.std.specs.Cmp.Lexicographic.{pointwise, pointwise_decides}
use Rattle.std.specs.Ordering.{int_eq}
use Rattle.std.proofs.lemmas.Int.{ints}
use Rattle.std.proofs.lemmas.Bool.Decides.{Decides-int_eq}
use Rattle.jesc_logic.specs.Structures.{Structure, read}
use Rattle.jesc_vc.specs.Facts.{IsPlain, IsOld, Agree}
use Rattle.jesc_vc.proofs.Entries.{In, in_back, Key, entries, read_else, read_at, keys_of, read_nothing}

-- a version with such values
pub record Versioned {X : Type 0} (args : X → List ℤ) (symbol c : ℕ) (s : Structure) (g : X → ℤ) : Type 0 where
  pub to : Structure
  pub agrees : Agree c 0 s to
  pub is : (x : X) → read to symbol (pos c ∷ args x) ≡ g x

module _ {X : Type 0} (args : X → List ℤ) (back : List ℤ → X) (there : (x : X) → back (args x) ≡ x) where
  -- whether x is one of them
  pub find : (x : X) (xs : List X) → In xs x ⊎ (In xs x → ⊥)
  find x [] = inr (λ p. p)
  find x (y ∷ ys) = by (pointwise int_eq (args y) (args x)) refl (find x ys)
    where
      by : (b : Bool) → pointwise int_eq (args y) (args x) ≡ b → In ys x ⊎ (In ys x → ⊥) → In (y ∷ ys) x ⊎ (In (y ∷ ys) x → ⊥)
      by true e on = let d = pointwise_decides Decides-int_eq (args y) (args x) in inl (inl (sym (there y) ∙ ap back (d.0 e) ∙ there x))
      by false e (inl p) = inl (inr p)
      by false e (inr n) = inr (not_here e n)
        where
          not_here : pointwise int_eq (args y) (args x) ≡ false → (In ys x → ⊥) → In (y ∷ ys) x → ⊥
          not_here e n (inl q) = let d = pointwise_decides Decides-int_eq (args y) (args x) in let f : true ≡ false = sym (d.1 (ap args q)) ∙ e in cc
          not_here e n (inr p) = n p

  -- the places behind a first argument at which a structure may tell something
  abbrev pub places : List Key → List X
  places [] = []
  places ((symbol, []) ∷ keys) = places keys
  places ((symbol, a ∷ rest) ∷ keys) = back rest ∷ places keys

  in_places : (keys : List Key) (symbol : ℕ) (a : ℤ) (x : X) (k : Key) → In keys k → k.0 ≡ symbol → k.1 ≡ a ∷ args x → In (places keys) x
  in_places [] symbol a x k p e f = absurd p
  in_places ((z, []) ∷ keys) symbol a x k (inl q) e f = let g : [] ≡ a ∷ args x = ap (λ (y : Key). y.1) q ∙ f in cc
  in_places ((z, []) ∷ keys) symbol a x k (inr p) e f = in_places keys symbol a x k p e f
  in_places ((z, b ∷ rest) ∷ keys) symbol a x k (inl q) e f =
      let g : b ∷ rest ≡ a ∷ args x = ap (λ (y : Key). y.1) q ∙ f in
      inl (ap behind_first g ∙ there x)
    where
      behind_first : List ℤ → X
      behind_first [] = x
      behind_first (y ∷ ys) = back ys
  in_places ((z, b ∷ rest) ∷ keys) symbol a x k (inr p) e f = inr (in_places keys symbol a x k p e f)

  -- elsewhere it reads 0
  pub read_zero : (s : Structure) (symbol : ℕ) (a : ℤ) (x : X) → (In (places (keys_of s)) x → ⊥) → read s symbol (a ∷ args x) ≡ pos 0
  read_zero s symbol a x n = read_nothing s symbol (a ∷ args x) (λ k p e f. n (in_places (keys_of s) symbol a x k p e f))

  module _ (symbol c : ℕ) (reads_versions : IsPlain symbol → ⊥) (s : Structure) (g : X → ℤ) (more : List X) (zero_else : (x : X) → (In (more ++ places (keys_of s)) x → ⊥) → g x ≡ pos 0) where
    abbrev all : List X
    all = more ++ places (keys_of s)

    abbrev key : X → Key
    key x = (symbol, pos c ∷ args x)

    abbrev version : Structure
    version = entries key g all ++ s

    not_old : (symbol' : ℕ) (ys : List ℤ) (x : X) → IsOld c 0 symbol' ys → symbol ≡ symbol' → pos c ∷ args x ≡ ys → ⊥
    not_old symbol' [] x old e f = cc
    not_old symbol' (y ∷ ys) x (lt, inl p) e f = reads_versions ((λ q. p.0 (sym e ∙ q)), (λ q. p.1 (sym e ∙ q)))
    not_old symbol' (y ∷ ys) x (lt, inr l) e f = let q : pos c ≡ y = ap first_of f in omega (arith, ints)
      where
        first_of : List ℤ → ℤ
        first_of [] = pos 0
        first_of (z ∷ zs) = z

    version_agrees : Agree c 0 s version
    version_agrees symbol' ys old = sym (read_else key g s all symbol' ys (λ x p e f. not_old symbol' ys x old e f))

    version_is : (x : X) → read version symbol (pos c ∷ args x) ≡ g x
    version_is x = by (find x all)
      where
        behind_first : List ℤ → X
        behind_first [] = x
        behind_first (y ∷ ys) = back ys

        by : In all x ⊎ (In all x → ⊥) → read version symbol (pos c ∷ args x) ≡ g x
        by (inl p) = read_at key g s all x p (λ y q e f. ap g (sym (there y) ∙ ap behind_first f ∙ there x))
        by (inr n) =
            read_else key g s all symbol (pos c ∷ args x) (λ y p e f. n (subst (In all) (sym (there y) ∙ ap behind_first f ∙ there x) p))
            ∙ read_zero s symbol (pos c) x (λ p. n (in_back more (places (keys_of s)) x p)) ∙ sym (zero_else x n)

    pub versioned : Versioned args symbol c s g
    versioned = record { to = version; agrees = version_agrees; is = version_is }
