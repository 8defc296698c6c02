-- Scopes: which values of their variables count, and symbols that have a value at each of them.
use Rattle.std.proofs.Common.{◌≡◌, ℕ, suc, ◌+◌, ◌<◌, ◌≤◌, Bool, true, false, ◌||◌, List, [], ◌∷◌, ◌++◌, length, map, refl, sym, ap, ◌∙◌, subst, inl, inr, arith, if◌then◌else◌}
use Rattle.std.specs.Prelude.{ℤ}
use Rattle.jesc_logic.specs.Terms.{Term, applied}
use Rattle.jesc_logic.specs.Claims.{Claim, truth, falsity, at_most, equal, negation, both, either, Each}
use Rattle.jesc_logic.specs.Structures.{Structure, read, with_values, value, is_true}
use Rattle.jesc_vc.specs.Facts.{IsMet, auxiliary, IsOld, Agree, IsBelow, AreBelow, IsBelowFact}
use Rattle.jesc_vc.specs.Encodings.{ScopeTree, guarded, scoped, narrowed, symbol_in}
use Rattle.jesc_vc.proofs.Readings.{agree_under, agree_back, read_further, read_high}
use Rattle.jesc_vc.proofs.Below.{same_values, same_truth, all_below_later, claim_later, applied_below}
use Rattle.jesc_vc.proofs.States.{two_is_read}
use Rattle.jesc_vc.proofs.Entries.{In, Key, entries, read_else, read_at}

-- ---- guards

pub guarded_is : (s : Structure) (g f : Claim Term) → is_true s (guarded g f) ≡ is_true s g || is_true s f
guarded_is s truth f = refl
guarded_is s falsity f = refl
guarded_is s (at_most a b) f = refl
guarded_is s (equal a b) f = refl
guarded_is s (negation g) f = refl
guarded_is s (both g h) f = refl
guarded_is s (either g h) f = refl

pub each_guarded : (P : Term → Type 0) (g f : Claim Term) → Each P g → Each P f → Each P (guarded g f)
each_guarded P truth f h k = (h, k)
each_guarded P falsity f h k = k
each_guarded P (at_most a b) f h k = (h, k)
each_guarded P (equal a b) f h k = (h, k)
each_guarded P (negation g) f h k = (h, k)
each_guarded P (both g e) f h k = (h, k)
each_guarded P (either g e) f h k = (h, k)

-- ---- what counts

abbrev pub at : Structure → List ℤ → Structure
at s xs = with_values 32 xs s

-- these values of the variables count
abbrev pub Inside : Structure → ScopeTree → List ℤ → Type 0
Inside s k xs = (length xs ≡ length k.sorts) × (is_true (at s xs) k.guard ≡ false)

abbrev pub codes : Structure → ScopeTree → List ℤ → List ℤ
codes s k xs = map (value (at s xs)) k.code

-- finitely many count, and the code tells them apart
pub record IsFinite (s : Structure) (k : ScopeTree) : Type 0 where
  pub list : List (List ℤ)
  pub inside : (xs : List ℤ) → In list xs → Inside s k xs
  pub covers : (xs : List ℤ) → Inside s k xs → In list xs
  pub apart : (xs ys : List ℤ) → Inside s k xs → Inside s k ys → codes s k xs ≡ codes s k ys → xs ≡ ys

-- the scope holds what was known before
pub record IsScope (c : ℕ) (k : ScopeTree) : Type 0 where
  pub short : length k.sorts ≤ 32
  pub few : length k.code ≤ 3
  pub code : AreBelow c (length k.sorts) k.code
  pub guard : Each (IsBelow c (length k.sorts)) k.guard

pub scope_later : (c d : ℕ) (k : ScopeTree) → c ≤ d → IsScope c k → IsScope d k
scope_later c d k p h = record {
  short = h.short;
  few = h.few;
  code = all_below_later c d (length k.sorts) (length k.sorts) p (omega arith) k.code h.code;
  guard = claim_later c d (length k.sorts) (length k.sorts) p (omega arith) k.guard h.guard;
}

module _ (c : ℕ) (k : ScopeTree) (h : IsScope c k) where
  -- as structures change on what came later
  pub agree_at : (s t : Structure) (xs : List ℤ) → Agree c 0 s t → length xs ≡ length k.sorts → Agree c (length k.sorts) (at s xs) (at t xs)
  agree_at s t xs a l = subst (λ n. Agree c n (at s xs) (at t xs)) l (agree_under c s t xs a)

  pub inside_later : (s t : Structure) (xs : List ℤ) → Agree c 0 s t → Inside s k xs → Inside t k xs
  inside_later s t xs a (l, g) = (l, sym (same_truth c (length k.sorts) (at s xs) (at t xs) (agree_at s t xs a l) k.guard h.guard) ∙ g)

  pub codes_later : (s t : Structure) (xs : List ℤ) → Agree c 0 s t → length xs ≡ length k.sorts → codes s k xs ≡ codes t k xs
  codes_later s t xs a l = same_values c (length k.sorts) (at s xs) (at t xs) (agree_at s t xs a l) k.code h.code

  pub finite_later : (s t : Structure) → Agree c 0 s t → IsFinite s k → IsFinite t k
  finite_later s t a f =
      let back = agree_back c 0 s t a in
      record {
        list = f.list;
        inside = λ xs i. inside_later s t xs a (f.inside xs i);
        covers = λ xs i. f.covers xs (inside_later t s xs back i);
        apart = λ xs ys i j e. f.apart xs ys (inside_later t s xs back i) (inside_later t s ys back j) (codes_later s t xs a i.0 ∙ e ∙ sym (codes_later s t ys a j.0));
      }

-- ---- symbols

pub value_applied : (s : Structure) (symbol : ℕ) (ts : List Term) → 4 ≤ symbol → length ts ≤ 3 → value s (applied symbol ts) ≡ read s symbol (map (value s) ts)
value_applied s symbol [] p q = refl
value_applied s symbol (a ∷ []) p q = refl
value_applied s symbol (a ∷ b ∷ []) p q = two_is_read s symbol (value s a) (value s b) p
value_applied s symbol (a ∷ b ∷ d ∷ []) p q = refl
value_applied s symbol (a ∷ b ∷ d ∷ e ∷ rest) p q = absurd (omega arith)

read_beyond : (s : Structure) (xs : List ℤ) (symbol : ℕ) (args : List ℤ) → 32 + length xs ≤ symbol → read (at s xs) symbol args ≡ read s symbol args
read_beyond s xs symbol [] le = read_high s xs symbol le
read_beyond s xs symbol (y ∷ ys) le = read_further s xs symbol y ys

pub symbol_below : (c : ℕ) (k : ScopeTree) → IsScope c k → IsBelow (suc c) (length k.sorts) (symbol_in k c)
symbol_below c k h =
    applied_below c (suc c) (length k.sorts) (auxiliary + c) k.code (omega arith) ((λ e. omega arith), (λ e. omega arith)) (omega arith)
    (all_below_later c (suc c) (length k.sorts) (length k.sorts) (omega arith) (omega arith) k.code h.code)

-- the symbol has these values
pub record Interpreted (c : ℕ) (s : Structure) (k : ScopeTree) (worth : List ℤ → ℤ) : Type 0 where
  pub to : Structure
  pub agrees : Agree c 0 s to
  pub is : (xs : List ℤ) → Inside s k xs → value (at to xs) (symbol_in k c) ≡ worth xs

old_symbol : (c n symbol : ℕ) (args : List ℤ) → IsOld c n symbol args → symbol < auxiliary + c
old_symbol c n symbol [] old = old.0
old_symbol c n symbol (x ∷ xs) old = old.0

module _ (c : ℕ) (s : Structure) (k : ScopeTree) (worth : List ℤ → ℤ) (h : IsScope c k) (f : IsFinite s k) where
  abbrev key : List ℤ → Key
  key xs = (auxiliary + c, codes s k xs)

  abbrev interpreted : Structure
  interpreted = entries key worth f.list ++ s

  agrees_so : Agree c 0 s interpreted
  agrees_so symbol args old = sym (read_else key worth s f.list symbol args (λ x p e d. let l = old_symbol c 0 symbol args old in omega arith))

  worth_there : (xs : List ℤ) → Inside s k xs → value (at interpreted xs) (symbol_in k c) ≡ worth xs
  worth_there xs i =
      let l : length xs ≤ 32 = let e = i.0 in let q = h.short in omega arith in
      value_applied (at interpreted xs) (auxiliary + c) k.code (omega arith) h.few
      ∙ read_beyond interpreted xs (auxiliary + c) (codes interpreted k xs) (omega arith)
      ∙ ap (read interpreted (auxiliary + c)) (sym (codes_later c k h s interpreted xs agrees_so i.0))
      ∙ read_at key worth s f.list xs (f.covers xs i) (λ ys p e d. ap worth (f.apart ys xs (f.inside ys p) i d))

  pub interpret : Interpreted c s k worth
  interpret = record { to = interpreted; agrees = agrees_so; is = worth_there }

-- ---- scopes with a stronger guard

or_parts : (a b : Bool) → a || b ≡ false → (a ≡ false) × (b ≡ false)
or_parts true b e = cc
or_parts false b e = (refl, e)

or_both : (a b : Bool) → a ≡ false → b ≡ false → a || b ≡ false
or_both a b e f = (λ i. e i || b) ∙ f

module _ (s : Structure) (k : ScopeTree) (g : Claim Term) where
  pub inside_narrowed : (xs : List ℤ) → Inside s (narrowed k g) xs → Inside s k xs × (is_true (at s xs) g ≡ false)
  inside_narrowed xs (l, e) = let p = or_parts (is_true (at s xs) k.guard) (is_true (at s xs) g) (sym (guarded_is (at s xs) k.guard g) ∙ e) in ((l, p.0), p.1)

  pub narrowed_inside : (xs : List ℤ) → Inside s k xs → is_true (at s xs) g ≡ false → Inside s (narrowed k g) xs
  narrowed_inside xs (l, e) d = (l, guarded_is (at s xs) k.guard g ∙ or_both (is_true (at s xs) k.guard) (is_true (at s xs) g) e d)

  -- those at which the formula is false
  abbrev pub those : List (List ℤ) → List (List ℤ)
  those [] = []
  those (xs ∷ rest) = if is_true (at s xs) g then those rest else xs ∷ those rest

  pub one_of_those : (list : List (List ℤ)) (xs : List ℤ) → In (those list) xs → In list xs × (is_true (at s xs) g ≡ false)
  one_of_those [] xs p = absurd p
  one_of_those (ys ∷ rest) xs p = by (is_true (at s ys) g) refl p (one_of_those rest xs)
    where
      by : (b : Bool) → is_true (at s ys) g ≡ b → In (if b then those rest else ys ∷ those rest) xs → (In (those rest) xs → In rest xs × (is_true (at s xs) g ≡ false)) → In (ys ∷ rest) xs × (is_true (at s xs) g ≡ false)
      by true e p on = let r = on p in (inr r.0, r.1)
      by false e (inl q) on = (inl q, ap (λ zs. is_true (at s zs) g) (sym q) ∙ e)
      by false e (inr p) on = let r = on p in (inr r.0, r.1)

  pub among_those : (list : List (List ℤ)) (xs : List ℤ) → In list xs → is_true (at s xs) g ≡ false → In (those list) xs
  among_those [] xs p e = absurd p
  among_those (ys ∷ rest) xs p e = by (is_true (at s ys) g) refl p (λ q. among_those rest xs q e)
    where
      by : (b : Bool) → is_true (at s ys) g ≡ b → In (ys ∷ rest) xs → (In rest xs → In (those rest) xs) → In (if b then those rest else ys ∷ those rest) xs
      by true d (inl q) on = let f : true ≡ false = sym d ∙ ap (λ zs. is_true (at s zs) g) q ∙ e in cc
      by true d (inr p) on = on p
      by false d (inl q) on = inl q
      by false d (inr p) on = inr (on p)

  pub finite_narrowed : IsFinite s k → IsFinite s (narrowed k g)
  finite_narrowed f = record {
    list = those f.list;
    inside = λ xs p. let r = one_of_those f.list xs p in narrowed_inside xs (f.inside xs r.0) r.1;
    covers = λ xs i. let r = inside_narrowed xs i in among_those f.list xs (f.covers xs r.0) r.1;
    apart = λ xs ys i j e. let r = inside_narrowed xs i in let q = inside_narrowed ys j in f.apart xs ys r.0 q.0 e;
  }

pub scope_narrowed : (c : ℕ) (k : ScopeTree) (g : Claim Term) → IsScope c k → Each (IsBelow c (length k.sorts)) g → IsScope c (narrowed k g)
scope_narrowed c k g h b = record { short = h.short; few = h.few; code = h.code; guard = each_guarded (IsBelow c (length k.sorts)) k.guard g h.guard b }

-- ---- facts of a scope

pub met_scoped : (s : Structure) (k : ScopeTree) (f : Claim Term) → IsMet s (scoped k f) → (xs : List ℤ) → Inside s k xs → is_true (at s xs) f ≡ true
met_scoped s k f m xs (l, g) = by (is_true (at s xs) k.guard) (is_true (at s xs) f) g (sym (guarded_is (at s xs) k.guard f) ∙ m xs l)
  where
    by : (a b : Bool) → a ≡ false → a || b ≡ true → b ≡ true
    by true b e d = cc
    by false b e d = d

pub scoped_met : (s : Structure) (k : ScopeTree) (f : Claim Term) → ((xs : List ℤ) → Inside s k xs → is_true (at s xs) f ≡ true) → IsMet s (scoped k f)
scoped_met s k f h xs l = guarded_is (at s xs) k.guard f ∙ by (is_true (at s xs) k.guard) refl
  where
    by : (a : Bool) → is_true (at s xs) k.guard ≡ a → a || is_true (at s xs) f ≡ true
    by true e = refl
    by false e = h xs (l, e)

pub scoped_below : (c : ℕ) (k : ScopeTree) (f : Claim Term) → IsScope c k → Each (IsBelow c (length k.sorts)) f → IsBelowFact c (scoped k f)
scoped_below c k f h b = each_guarded (IsBelow c (length k.sorts)) k.guard f h.guard b
