-- Terms, formulas and facts that hold only what was known before.
use Rattle.std.proofs.Common.{◌≡◌, ℕ, zero, suc, ◌+◌, ◌<◌, ◌≤◌, ◌&&◌, ◌||◌, List, [], ◌∷◌, ◌++◌, length, map, refl, sym, ap, ◌∙◌, subst, inl, inr, arith}
use Rattle.std.specs.Prelude.{ℤ, pos, ◌<ℤ◌, not}
use Rattle.std.proofs.lemmas.Int.{ints}
use Rattle.jesc_logic.specs.Terms.{Term, number, constant, unary, binary, ternary, applied}
use Rattle.jesc_logic.specs.Claims.{Claim, truth, falsity, at_most, equal, negation, both, either, Each}
use Rattle.jesc_logic.specs.Structures.{Structure, read, with_values, value, of_two, holds, is_true}
use Rattle.jesc_vc.specs.Facts.{FactTree, AreMet, auxiliary, IsPlain, IsOld, Agree, IsKnown, IsBelow, AreBelow, AreBelowFacts}
use Rattle.jesc_vc.proofs.Readings.{agree_under, old_later}

-- the first argument's value makes the symbol old
known_is_old : (c n symbol : ℕ) (s : Structure) (a : Term) (rest : List ℤ) → IsKnown c symbol a → IsOld c n symbol (value s a ∷ rest)
known_is_old c n symbol s a rest (lt, inl p) = (lt, inl p)
known_is_old c n symbol s a rest (lt, inr v) = (lt, inr (subst (λ t. value s t <ℤ pos c) (sym v.1) (let l = v.2 in omega (arith, ints))))

two_same : (s t : Structure) (symbol : ℕ) (x y : ℤ) → read s symbol (x ∷ y ∷ []) ≡ read t symbol (x ∷ y ∷ []) → of_two s symbol x y ≡ of_two t symbol x y
two_same s t zero x y e = refl
two_same s t (suc zero) x y e = refl
two_same s t (suc (suc zero)) x y e = refl
two_same s t (suc (suc (suc zero))) x y e = refl
two_same s t (suc (suc (suc (suc n)))) x y e = e

module _ (c n : ℕ) (s t : Structure) (h : Agree c n s t) where
  pub same_value : (a : Term) → IsBelow c n a → value s a ≡ value t a
  same_value (number x) b = refl
  same_value (constant symbol) b = h symbol [] b
  same_value (unary symbol a) b =
      h symbol (value s a ∷ []) (known_is_old c n symbol s a [] b.0) ∙ ap (λ x. read t symbol (x ∷ [])) (same_value a b.1)
  same_value (binary symbol a d) b =
      two_same s t symbol (value s a) (value s d) (h symbol (value s a ∷ value s d ∷ []) (known_is_old c n symbol s a (value s d ∷ []) b.0))
      ∙ (λ i. of_two t symbol (same_value a b.1 i) (same_value d b.2 i))
  same_value (ternary symbol a d e) b =
      h symbol (value s a ∷ value s d ∷ value s e ∷ []) (known_is_old c n symbol s a (value s d ∷ value s e ∷ []) b.0)
      ∙ (λ i. read t symbol (same_value a b.1 i ∷ same_value d b.2 i ∷ same_value e b.3 i ∷ []))

  pub same_values : (ts : List Term) → AreBelow c n ts → map (value s) ts ≡ map (value t) ts
  same_values [] b = refl
  same_values (a ∷ ts) b = λ i. same_value a b.0 i ∷ same_values ts b.1 i

  pub same_truth : (f : Claim Term) → Each (IsBelow c n) f → is_true s f ≡ is_true t f
  same_truth truth b = refl
  same_truth falsity b = refl
  same_truth (at_most a d) b = λ i. holds (at_most (same_value a b.0 i) (same_value d b.1 i))
  same_truth (equal a d) b = λ i. holds (equal (same_value a b.0 i) (same_value d b.1 i))
  same_truth (negation f) b = λ i. not (same_truth f b i)
  same_truth (both f g) b = λ i. same_truth f b.0 i && same_truth g b.1 i
  same_truth (either f g) b = λ i. same_truth f b.0 i || same_truth g b.1 i

pub met_later : (c : ℕ) (s t : Structure) → Agree c 0 s t → (fs : List FactTree) → AreBelowFacts c fs → AreMet s fs → AreMet t fs
met_later c s t h [] b m = tt
met_later c s t h (f ∷ fs) b m = (
  λ xs l. sym (same_truth c (length f.sorts) (with_values 32 xs s) (with_values 32 xs t) (subst (λ n. Agree c n (with_values 32 xs s) (with_values 32 xs t)) l (agree_under c s t xs h)) f.body b.0) ∙ m.0 xs l,
  met_later c s t h fs b.1 m.1,
)

-- ---- more symbols and variables

version_later : (c d symbol : ℕ) (a : Term) → c ≤ d → IsKnown c symbol a → IsKnown d symbol a
version_later c d symbol a p (lt, inl q) = (omega arith, inl q)
version_later c d symbol a p (lt, inr v) = (omega arith, inr (v.0, v.1, (let l = v.2 in omega arith)))

module _ (c d n m : ℕ) (p : c ≤ d) (q : n ≤ m) where
  pub below_later : (a : Term) → IsBelow c n a → IsBelow d m a
  below_later (number x) b = tt
  below_later (constant symbol) b = old_later c d n m symbol [] p q b
  below_later (unary symbol a) b = (version_later c d symbol a p b.0, below_later a b.1)
  below_later (binary symbol a e) b = (version_later c d symbol a p b.0, below_later a b.1, below_later e b.2)
  below_later (ternary symbol a e f) b = (version_later c d symbol a p b.0, below_later a b.1, below_later e b.2, below_later f b.3)

  pub all_below_later : (ts : List Term) → AreBelow c n ts → AreBelow d m ts
  all_below_later [] b = tt
  all_below_later (a ∷ ts) b = (below_later a b.0, all_below_later ts b.1)

  pub claim_later : (f : Claim Term) → Each (IsBelow c n) f → Each (IsBelow d m) f
  claim_later truth b = tt
  claim_later falsity b = tt
  claim_later (at_most a e) b = (below_later a b.0, below_later e b.1)
  claim_later (equal a e) b = (below_later a b.0, below_later e b.1)
  claim_later (negation f) b = claim_later f b
  claim_later (both f g) b = (claim_later f b.0, claim_later g b.1)
  claim_later (either f g) b = (claim_later f b.0, claim_later g b.1)

pub facts_later : (c d : ℕ) → c ≤ d → (fs : List FactTree) → AreBelowFacts c fs → AreBelowFacts d fs
facts_later c d p [] b = tt
facts_later c d p (f ∷ fs) b = (claim_later c d (length f.sorts) (length f.sorts) p (omega arith) f.body b.0, facts_later c d p fs b.1)

-- ---- lists

pub below_facts_append : (c : ℕ) (fs gs : List FactTree) → AreBelowFacts c fs → AreBelowFacts c gs → AreBelowFacts c (fs ++ gs)
below_facts_append c [] gs b k = k
below_facts_append c (f ∷ fs) gs b k = (b.0, below_facts_append c fs gs b.1 k)

pub below_append : (c n : ℕ) (ts us : List Term) → AreBelow c n ts → AreBelow c n us → AreBelow c n (ts ++ us)
below_append c n [] us b k = k
below_append c n (t ∷ ts) us b k = (b.0, below_append c n ts us b.1 k)

pub met_append : (s : Structure) (fs gs : List FactTree) → AreMet s fs → AreMet s gs → AreMet s (fs ++ gs)
met_append s [] gs h k = k
met_append s (f ∷ fs) gs h k = (h.0, met_append s fs gs h.1 k)

pub met_front : (s : Structure) (fs gs : List FactTree) → AreMet s (fs ++ gs) → AreMet s fs
met_front s [] gs h = tt
met_front s (f ∷ fs) gs h = (h.0, met_front s fs gs h.1)

pub met_back : (s : Structure) (fs gs : List FactTree) → AreMet s (fs ++ gs) → AreMet s gs
met_back s [] gs h = h
met_back s (f ∷ fs) gs h = met_back s fs gs h.1

-- ---- symbols over a code

pub applied_below : (c d n symbol : ℕ) (ts : List Term) → symbol < auxiliary + d → IsPlain symbol → 63 < symbol → AreBelow d n ts → IsBelow d n (applied symbol ts)
applied_below c d n symbol [] lt p high b = (lt, inr high)
applied_below c d n symbol (a ∷ []) lt p high b = ((lt, inl p), b.0)
applied_below c d n symbol (a ∷ e ∷ []) lt p high b = ((lt, inl p), b.0, b.1.0)
applied_below c d n symbol (a ∷ e ∷ f ∷ rest) lt p high b = ((lt, inl p), b.0, b.1.0, b.1.1.0)
