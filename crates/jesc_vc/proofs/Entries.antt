-- Structures with more entries in front.
use Rattle.std.proofs.Common.{◌≡◌, ◌⊎◌, ℕ, ◌==◌, Bool, true, false, ◌&&◌, List, [], ◌∷◌, ◌++◌, refl, sym, ap, ◌∙◌, inl, inr, if◌then◌else◌}
use Rattle.std.specs.Prelude.{ℤ}
use Rattle.std.specs.Ordering.{int_eq}
use Rattle.std.specs.Cmp.Lexicographic.{pointwise, pointwise_decides}
use Rattle.std.proofs.lemmas.Bool.Decides.{Decides-eqb, Decides-int_eq}
use Rattle.jesc_logic.specs.Structures.{Structure, read}
pub use Rattle.jesc_vc.specs.Conditions.{In}

pub in_front : {X : Type 0} (xs ys : List X) (x : X) → In xs x → In (xs ++ ys) x
in_front [] ys x h = absurd h
in_front (y ∷ xs) ys x (inl e) = inl e
in_front (y ∷ xs) ys x (inr h) = inr (in_front xs ys x h)

pub in_back : {X : Type 0} (xs ys : List X) (x : X) → In ys x → In (xs ++ ys) x
in_back [] ys x h = h
in_back (y ∷ xs) ys x h = inr (in_back xs ys x h)

-- a symbol and arguments
abbrev pub Key : Type 0
Key = ℕ × List ℤ

-- an entry for each, at its key
abbrev pub entries : {X : Type 0} → (X → Key) → (X → ℤ) → List X → Structure
entries key worth [] = []
entries key worth (x ∷ xs) = ((key x).0, (key x).1, worth x) ∷ entries key worth xs

abbrev test : Key → ℕ → List ℤ → Bool
test key symbol args = (key.0 == symbol) && pointwise int_eq key.1 args

and_both : (a b : Bool) → a && b ≡ true → (a ≡ true) × (b ≡ true)
and_both true b e = (refl, e)
and_both false b e = cc

test_says : (key : Key) (symbol : ℕ) (args : List ℤ) → test key symbol args ≡ true → (key.0 ≡ symbol) × (key.1 ≡ args)
test_says key symbol args e =
    let both = and_both (key.0 == symbol) (pointwise int_eq key.1 args) e in
    let number = Decides-eqb key.0 symbol in
    let list = pointwise_decides Decides-int_eq key.1 args in
    (number.0 both.0, list.0 both.1)

test_is : (key : Key) (symbol : ℕ) (args : List ℤ) → key.0 ≡ symbol → key.1 ≡ args → test key symbol args ≡ true
test_is key symbol args e f =
    let number = Decides-eqb key.0 symbol in
    let list = pointwise_decides Decides-int_eq key.1 args in
    λ i. number.1 e i && list.1 f i

module _ {X : Type 0} (key : X → Key) (worth : X → ℤ) (s : Structure) where
  -- elsewhere the structure reads as before
  pub read_else : (xs : List X) (symbol : ℕ) (args : List ℤ) → ((x : X) → In xs x → (key x).0 ≡ symbol → (key x).1 ≡ args → ⊥) → read (entries key worth xs ++ s) symbol args ≡ read s symbol args
  read_else [] symbol args h = refl
  read_else (x ∷ xs) symbol args h = by (test (key x) symbol args) refl (read_else xs symbol args (λ y p. h y (inr p)))
    where
      by : (b : Bool) → test (key x) symbol args ≡ b → read (entries key worth xs ++ s) symbol args ≡ read s symbol args → read (entries key worth (x ∷ xs) ++ s) symbol args ≡ read s symbol args
      by true e on = let k = test_says (key x) symbol args e in absurd (h x (inl refl) k.0 k.1)
      by false e on = ap (λ b. if b then worth x else read (entries key worth xs ++ s) symbol args) e ∙ on

  -- at a key it reads what is told there
  pub read_at : (xs : List X) (x : X) → In xs x → ((y : X) → In xs y → (key y).0 ≡ (key x).0 → (key y).1 ≡ (key x).1 → worth y ≡ worth x) → read (entries key worth xs ++ s) (key x).0 (key x).1 ≡ worth x
  read_at [] x p one = absurd p
  read_at (z ∷ xs) x p one = by (test (key z) (key x).0 (key x).1) refl p (λ q. read_at xs x q (λ y r. one y (inr r)))
    where
      by : (b : Bool) → test (key z) (key x).0 (key x).1 ≡ b → (z ≡ x) ⊎ In xs x → (In xs x → read (entries key worth xs ++ s) (key x).0 (key x).1 ≡ worth x) → read (entries key worth (z ∷ xs) ++ s) (key x).0 (key x).1 ≡ worth x
      by true e q on =
          let k = test_says (key z) (key x).0 (key x).1 e in
          ap (λ b. if b then worth z else read (entries key worth xs ++ s) (key x).0 (key x).1) e ∙ one z (inl refl) k.0 k.1
      by false e (inl q) on = let t : test (key z) (key x).0 (key x).1 ≡ true = test_is (key z) (key x).0 (key x).1 (ap (λ y. (key y).0) q) (ap (λ y. (key y).1) q) in let f : true ≡ false = sym t ∙ e in cc
      by false e (inr q) on = ap (λ b. if b then worth z else read (entries key worth xs ++ s) (key x).0 (key x).1) e ∙ on q

-- ---- at numbers where a structure tells something

-- the keys of its entries
abbrev pub keys_of : Structure → List Key
keys_of [] = []
keys_of (e ∷ es) = (e.0, e.1) ∷ keys_of es

-- a structure reads 0 where it has no entry
pub read_nothing : (s : Structure) (symbol : ℕ) (args : List ℤ) → ((k : Key) → In (keys_of s) k → k.0 ≡ symbol → k.1 ≡ args → ⊥) → read s symbol args ≡ read [] symbol args
read_nothing [] symbol args h = refl
read_nothing (e ∷ es) symbol args h = by (test (e.0, e.1) symbol args) refl (read_nothing es symbol args (λ k p. h k (inr p)))
  where
    by : (b : Bool) → test (e.0, e.1) symbol args ≡ b → read es symbol args ≡ read [] symbol args → read (e ∷ es) symbol args ≡ read [] symbol args
    by true t on = let k = test_says (e.0, e.1) symbol args t in absurd (h (e.0, e.1) (inl refl) k.0 k.1)
    by false t on = ap (λ b. if b then e.2 else read es symbol args) t ∙ on
