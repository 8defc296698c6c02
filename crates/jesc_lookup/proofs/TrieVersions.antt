-- The maps of the first version, of one version and of one more.
use Rattle.std.proofs.Common.{◌≡◌, ℕ, zero, suc, ◌^◌, ◌<◌, ◌≤◌, true, List, [], ◌∷◌, ◌++◌, map, length, get_or, replicate, None, refl, ap, sym, ◌∙◌, subst, arith, Result, Ok, Err, OnErr, inl, inr}
use Rattle.std.proofs.lemmas.List.{length-map, replicate-append-replicate, get_or_append_left, get_or_push, length_push}
use Rattle.std.proofs.lemmas.List.Elements.{All-push}
use Rattle.std.proofs.Math.Pow.{pow_mono}
use Rattle.std.specs.List.{All}
use Rattle.jesc_classes.specs.laws.Orders.{same}
use Rattle.jesc_lookup.specs.declared.versions.Version.{Version}
use Rattle.jesc_lookup.specs.Maps.{Map, at, with_at}
use Rattle.jesc_lookup.specs.Tries.{map_of, maps_of, is_trie, AreMade, AreVersions, IsMade, IsPut}
use Rattle.jesc_lookup.proofs.TrieSteps.{Begins, double, kept_map, kept_trie, map_size, of_node}

-- ---- the first version

abbrev pub alone : List (ℕ × ℕ)
alone = (0, 0) ∷ []

abbrev pub version_of : ℕ → ℕ → ℕ → ℕ → Version
version_of root from key value = record { root = root; from = from; key = key; value = value }

abbrev pub first_version : Version
first_version = version_of 0 0 0 0

empty_trie : (k : ℕ) → is_trie k alone 0 ≡ true
empty_trie zero = refl
empty_trie (suc k) = of_node k alone 0 record { there = omega arith; left = empty_trie k; right = empty_trie k }

empty_map : (k : ℕ) → map_of k alone 0 ≡ replicate (2 ^ k) None
empty_map zero = refl
empty_map (suc k) =
    let e = empty_map k in
    ap (λ (m : Map). m ++ m) e ∙ replicate-append-replicate (2 ^ k) (2 ^ k) None ∙ ap (λ (n : ℕ). replicate n None) (sym (double k))

nothing_in : (n key : ℕ) → at (replicate n None) key ≡ None
nothing_in zero key = refl
nothing_in (suc n) zero = refl
nothing_in (suc n) (suc key) = nothing_in n key

pub first_are : (bits : ℕ) (nodes : List (ℕ × ℕ)) (list : List Version) → bits ≤ 32 → nodes ≡ alone → list ≡ first_version ∷ [] → AreVersions bits nodes list
first_are bits nodes list l e f =
    subst (λ n. AreVersions bits n list) (sym e) (subst (AreVersions bits alone) (sym f) record {
      low = l;
      tries = all;
      made = record {
        first = λ key. ap (λ m. at m key) (empty_map bits) ∙ nothing_in (2 ^ bits) key;
        each = λ i d p h. absurd (omega (arith, p, h));
      };
    })
  where
    all : All (λ v. is_trie bits alone v.root ≡ true) (first_version ∷ [])
    all zero d h = empty_trie bits
    all (suc i) d h = absurd (omega (arith, h))

pub first_maps : (size bits : ℕ) (nodes : List (ℕ × ℕ)) (list : List Version) → size ≤ 2 ^ bits → nodes ≡ alone → list ≡ first_version ∷ [] → (n : ℕ) × (size ≤ n) × (maps_of bits nodes list ≡ replicate n None ∷ [])
first_maps size bits nodes list l e f = (2 ^ bits, l, ap (λ n. maps_of bits n list) e ∙ ap (maps_of bits alone) f ∙ ap (λ m. m ∷ []) (empty_map bits))

-- ---- one version

pub there : (bits : ℕ) (nodes : List (ℕ × ℕ)) (list : List Version) (maps : List Map) (version : ℕ) → maps_of bits nodes list ≡ maps → version < length maps → version < length list
there bits nodes list maps version e l = omega (arith, l, ap length e, length-map list (λ v. map_of bits nodes v.root))

map_at : (f : Version → Map) (list : List Version) (version : ℕ) (d : Version) → version < length list → get_or (map f list) version [] ≡ f (get_or list version d)
map_at f [] version d l = absurd (omega (arith, l))
map_at f (r ∷ list) zero d l = refl
map_at f (r ∷ list) (suc version) d l = map_at f list version d (omega (arith, l))

pub is_map : (bits : ℕ) (nodes : List (ℕ × ℕ)) (list : List Version) (maps : List Map) (version : ℕ) (d : Version) → maps_of bits nodes list ≡ maps → version < length maps → map_of bits nodes (get_or list version d).root ≡ get_or maps version []
is_map bits nodes list maps version d e l = sym (map_at (λ v. map_of bits nodes v.root) list version d (there bits nodes list maps version e l)) ∙ ap (λ ms. get_or ms version []) e

pub key_inside : (bits : ℕ) (nodes : List (ℕ × ℕ)) (list : List Version) (maps : List Map) (version key : ℕ) → maps_of bits nodes list ≡ maps → version < length maps → key < length (get_or maps version []) → key < 2 ^ bits
key_inside bits nodes list maps version key e l k = omega (arith, k, ap length (is_map bits nodes list maps version first_version e l), map_size bits nodes (get_or list version first_version).root)

pub size_of : (bits : ℕ) (nodes : List (ℕ × ℕ)) (list : List Version) (maps : List Map) (version : ℕ) → maps_of bits nodes list ≡ maps → version < length maps → bits ≤ 32 → length (get_or maps version []) ≤ 2 ^ 32
size_of bits nodes list maps version e l low =
    let wide : 2 ^ bits ≤ 2 ^ 32 = pow_mono low in
    omega (arith, ap length (is_map bits nodes list maps version first_version e l), map_size bits nodes (get_or list version first_version).root, wide)

-- ---- one more version

tail : (bits : ℕ) (nodes : List (ℕ × ℕ)) (r : Version) (list : List Version) → All (λ v. is_trie bits nodes v.root ≡ true) (r ∷ list) → All (λ v. is_trie bits nodes v.root ≡ true) list
tail bits nodes r list all i d l = all (suc i) d (omega (arith, l))

kept_tries : (bits : ℕ) (nodes more : List (ℕ × ℕ)) (list : List Version) → Begins nodes more → All (λ v. is_trie bits nodes v.root ≡ true) list → All (λ v. is_trie bits more v.root ≡ true) list
kept_tries bits nodes more list b all i d l = kept_trie bits nodes more (get_or list i d).root b (all i d l)

pub kept_maps : (bits : ℕ) (nodes more : List (ℕ × ℕ)) (list : List Version) → Begins nodes more → All (λ v. is_trie bits nodes v.root ≡ true) list → maps_of bits more list ≡ maps_of bits nodes list
kept_maps bits nodes more [] b all = refl
kept_maps bits nodes more (r ∷ list) b all =
    ap (λ m. m ∷ maps_of bits more list) (kept_map bits nodes more r.root b (all zero r (omega arith))) ∙ ap (λ ms. map_of bits nodes r.root ∷ ms) (kept_maps bits nodes more list b (tail bits nodes r list all))

pub kept_are : (bits : ℕ) (nodes more : List (ℕ × ℕ)) (list : List Version) → Begins nodes more → AreVersions bits nodes list → AreVersions bits more list
kept_are bits nodes more list b are = record {
  low = are.low;
  tries = kept_tries bits nodes more list b are.tries;
  made = subst (λ ms. AreMade ms list) (sym (kept_maps bits nodes more list b are.tries)) are.made;
}

map_push : (f : Version → Map) (xs : List Version) (x : Version) → map f (xs ++ x ∷ []) ≡ map f xs ++ f x ∷ []
map_push f [] x = refl
map_push f (y ∷ xs) x = ap (λ ms. f y ∷ ms) (map_push f xs x)

made_still : (maps more : List Map) (i : ℕ) (v : Version) → i < length maps → IsMade maps i v → IsMade (maps ++ more) i v
made_still maps more i v l h = record {
  older = h.older;
  inside = subst (λ (m : Map). v.key < length m) (sym (get_or_append_left maps more [] v.from (omega (arith, h.older, l)))) h.inside;
  map = get_or_append_left maps more [] i l ∙ h.map ∙ ap (λ m. with_at m v.key v.value) (sym (get_or_append_left maps more [] v.from (omega (arith, h.older, l))));
}

module _ (maps : List Map) (list : List Version) (version key value next : ℕ) (long : length list ≡ length maps) (l : version < length maps) where
  abbrev made : Map
  made = with_at (get_or maps version []) key value

  abbrev made_one : Version
  made_one = version_of next version key value

  made_push : key < length (get_or maps version []) → AreMade maps list → AreMade (maps ++ made ∷ []) (list ++ made_one ∷ [])
  made_push k was = record {
    first = λ j. ap (λ m. at m j) (get_or_append_left maps (made ∷ []) [] 0 (omega (arith, l))) ∙ was.first j;
    each = λ i d p inside. elim (same i (length maps)) [
      | inl e ↦ subst (λ v. IsMade (maps ++ made ∷ []) i v) (sym (get_or_push list made_one d i (long ∙ sym e))) (last i e)
      | inr n ↦ older i d p (omega (arith, n, inside, length_push list made_one, long))
    ];
  }
    where
      last : (i : ℕ) → i ≡ length maps → IsMade (maps ++ made ∷ []) i made_one
      last i e = record {
        older = omega (arith, l, e);
        inside = subst (λ (m : Map). key < length m) (sym (get_or_append_left maps (made ∷ []) [] version l)) k;
        map = get_or_push maps made [] i (sym e) ∙ ap (λ m. with_at m key value) (sym (get_or_append_left maps (made ∷ []) [] version l));
      }

      older : (i : ℕ) (d : Version) → 0 < i → i < length maps → IsMade (maps ++ made ∷ []) i (get_or (list ++ made_one ∷ []) i d)
      older i d p small =
          subst (λ v. IsMade (maps ++ made ∷ []) i v) (sym (get_or_append_left list (made_one ∷ []) d i (omega (arith, small, long))))
          (made_still maps (made ∷ []) i (get_or list i d) small (was.each i d p (omega (arith, small, long))))

pub next_maps : (bits : ℕ) (nodes more : List (ℕ × ℕ)) (list new : List Version) (maps : List Map) (version key value next : ℕ) → Begins nodes more → AreVersions bits nodes list → maps_of bits nodes list ≡ maps → version < length maps →
    IsPut bits nodes (get_or list version first_version).root key value more next → new ≡ list ++ version_of next version key value ∷ [] → maps_of bits more new ≡ maps ++ with_at (get_or maps version []) key value ∷ []
next_maps bits nodes more list new maps version key value next b are e l put f =
    ap (maps_of bits more) f ∙ map_push (λ x. map_of bits more x.root) list (version_of next version key value) ∙ ap (λ ms. ms ++ map_of bits more next ∷ []) (kept_maps bits nodes more list b are.tries ∙ e)
    ∙ ap (λ m. maps ++ m ∷ []) (put.map ∙ ap (λ m. with_at m key value) (is_map bits nodes list maps version first_version e l))

pub next_are : (bits : ℕ) (nodes more : List (ℕ × ℕ)) (list new : List Version) (maps : List Map) (version key value next : ℕ) → Begins nodes more → AreVersions bits nodes list → maps_of bits nodes list ≡ maps → version < length maps → key < length (get_or maps version [])
    → IsPut bits nodes (get_or list version first_version).root key value more next → new ≡ list ++ version_of next version key value ∷ [] → AreVersions bits more new
next_are bits nodes more list new maps version key value next b are e l k put f = record {
  low = are.low;
  tries = subst (λ xs. All (λ x. is_trie bits more x.root ≡ true) xs) (sym f) (All-push (λ x. is_trie bits more x.root ≡ true) list (version_of next version key value) (kept_tries bits nodes more list b are.tries) put.trie);
  made = subst (λ ms. AreMade ms new) (sym (next_maps bits nodes more list new maps version key value next b are e l put f))
      (subst (λ xs. AreMade (maps ++ with_at (get_or maps version []) key value ∷ []) xs) (sym f)
      (made_push maps list version key value next (sym (length-map list (λ x. map_of bits nodes x.root)) ∙ ap length e) l k (subst (λ ms. AreMade ms list) e are.made)));
}

-- ---- what is so in either case

pub on_err : {T E : Type 0} (r : Result T E) (P : Type 0) → P → OnErr r P
on_err (Ok x) P p = tt
on_err (Err e) P p = p
