-- What one step down a trie keeps, while a value is looked up and while one is put in.
use Rattle.std.proofs.Common.{◌≡◌, ℕ, zero, suc, ◌+◌, ◌-◌, ◌/◌, ◌^◌, ◌<◌, ◌≤◌, Bool, true, false, ◌&&◌, List, [], ◌∷◌, ◌++◌, length, get_or, take, Option, None, refl, ap, sym, ◌∙◌, subst, arith, nat_lt, ltb-true, true≢false}
use Rattle.std.proofs.lemmas.List.{length-append, length-take, get_or-take}
use Rattle.std.proofs.Math.ListN.{get_or-append}
use Rattle.std.proofs.Math.Seq.{get_or-append_seam, get_or-append_right, take-append_seam, take-length}
use Rattle.std.proofs.Math.Nat.{pow-suc}
use Rattle.jesc_lookup.specs.Maps.{Map, at, with_at}
use Rattle.jesc_lookup.specs.Tries.{map_of, is_trie, place_for, IsPut}

-- ---- maps

pub double : (k : ℕ) → 2 ^ suc k ≡ 2 ^ k + 2 ^ k
double k = omega (arith, pow-suc 2 k)

pub map_size : (k : ℕ) (nodes : List (ℕ × ℕ)) (node : ℕ) → length (map_of k nodes node) ≡ 2 ^ k
map_size zero nodes node = refl
map_size (suc k) nodes node =
    let left = map_size k nodes (get_or nodes node (0, 0)).0 in
    let right = map_size k nodes (get_or nodes node (0, 0)).1 in
    length-append (map_of k nodes (get_or nodes node (0, 0)).0) (map_of k nodes (get_or nodes node (0, 0)).1) ∙ omega (arith, left, right, double k)

at_left : (xs ys : Map) (key : ℕ) → key < length xs → at (xs ++ ys) key ≡ at xs key
at_left xs ys key l = get_or-append xs ys None key l

at_right : (xs ys : Map) (key : ℕ) → length xs ≤ key → at (xs ++ ys) key ≡ at ys (key - length xs)
at_right xs ys key l = get_or-append_right xs ys key None l

pub at_beyond : (xs : Map) (key : ℕ) → length xs ≤ key → at xs key ≡ None
at_beyond [] key l = refl
at_beyond (x ∷ xs) zero l = absurd (omega (arith, l))
at_beyond (x ∷ xs) (suc key) l = at_beyond xs key (omega (arith, l))

with_left : (xs ys : Map) (key value : ℕ) → key < length xs → with_at (xs ++ ys) key value ≡ with_at xs key value ++ ys
with_left [] ys key value l = absurd (omega (arith, l))
with_left (x ∷ xs) ys zero value l = refl
with_left (x ∷ xs) ys (suc key) value l = ap (λ m. x ∷ m) (with_left xs ys key value (omega (arith, l)))

with_right : (xs ys : Map) (key value : ℕ) → length xs ≤ key → with_at (xs ++ ys) key value ≡ xs ++ with_at ys (key - length xs) value
with_right [] ys key value l = ap (λ k. with_at ys k value) (omega arith)
with_right (x ∷ xs) ys zero value l = absurd (omega (arith, l))
with_right (x ∷ xs) ys (suc key) value l = ap (λ m. x ∷ m) (with_right xs ys key value (omega (arith, l)) ∙ ap (λ k. xs ++ with_at ys k value) (omega arith))

-- ---- tries

first_of : (a b : Bool) → (a && b) ≡ true → a ≡ true
first_of true b e = refl
first_of false b e = absurd (true≢false (sym e))

second_of : (a b : Bool) → (a && b) ≡ true → b ≡ true
second_of true b e = e
second_of false b e = absurd (true≢false (sym e))

both : (a b : Bool) → a ≡ true → b ≡ true → (a && b) ≡ true
both a b e f = ap (λ x. x && b) e ∙ f

abbrev child : List (ℕ × ℕ) → ℕ → ℕ × ℕ
child nodes node = get_or nodes node (0, 0)

-- a node above the bottom, with the tries below it
pub record IsNode (k : ℕ) (nodes : List (ℕ × ℕ)) (node : ℕ) : Type 0 where
  pub there : node < length nodes
  pub left : is_trie k nodes (get_or nodes node (0, 0)).0 ≡ true
  pub right : is_trie k nodes (get_or nodes node (0, 0)).1 ≡ true

pub node_of : (k : ℕ) (nodes : List (ℕ × ℕ)) (node : ℕ) → is_trie (suc k) nodes node ≡ true → IsNode k nodes node
node_of k nodes node e =
    let here = nat_lt node (length nodes) in
    let left = is_trie k nodes (child nodes node).0 in
    let right = is_trie k nodes (child nodes node).1 in
    let below = second_of here (left && right) e in
    record { there = ltb-true node (length nodes) (first_of here (left && right) e); left = first_of left right below; right = second_of left right below }

pub of_node : (k : ℕ) (nodes : List (ℕ × ℕ)) (node : ℕ) → IsNode k nodes node → is_trie (suc k) nodes node ≡ true
of_node k nodes node n = both (nat_lt node (length nodes)) _ (grind (arith, n.there)) (both (is_trie k nodes (child nodes node).0) _ n.left n.right)

-- the nodes are the first ones of those
abbrev pub Begins : List (ℕ × ℕ) → List (ℕ × ℕ) → Type 0
Begins nodes more = take (length nodes) more ≡ nodes

pub no_shorter : (nodes more : List (ℕ × ℕ)) → Begins nodes more → length nodes ≤ length more
no_shorter nodes more b = omega (arith, length-take (length nodes) more, ap length b)

same_node : (nodes more : List (ℕ × ℕ)) (n : ℕ) → Begins nodes more → n < length nodes → get_or more n (0, 0) ≡ get_or nodes n (0, 0)
same_node nodes more n b l = sym (get_or-take (length nodes) more n (0, 0) l) ∙ ap (λ xs. get_or xs n (0, 0)) b

twice : {X : Type 0} → (i j : ℕ) (c : List X) → i ≤ j → take i (take j c) ≡ take i c
twice zero j c l = refl
twice (suc i) zero c l = absurd (omega (arith, l))
twice (suc i) (suc j) [] l = refl
twice (suc i) (suc j) (x ∷ c) l = ap (λ xs. x ∷ xs) (twice i j c (omega (arith, l)))

pub begins_too : {X : Type 0} → (a b c : List X) → take (length a) b ≡ a → take (length b) c ≡ b → take (length a) c ≡ a
begins_too a b c f g = sym (twice (length a) (length b) c (omega (arith, length-take (length a) b, ap length f))) ∙ ap (take (length a)) g ∙ f

pub begins_itself : (nodes : List (ℕ × ℕ)) → Begins nodes nodes
begins_itself nodes = take-length nodes

pub begins_pushed : (nodes : List (ℕ × ℕ)) (x : ℕ × ℕ) → Begins nodes (nodes ++ x ∷ [])
begins_pushed nodes x = take-append_seam nodes (x ∷ [])

pub kept_trie : (k : ℕ) (nodes more : List (ℕ × ℕ)) (n : ℕ) → Begins nodes more → is_trie k nodes n ≡ true → is_trie k more n ≡ true
kept_trie zero nodes more n b e = refl
kept_trie (suc k) nodes more n b e =
    let node = node_of k nodes n e in
    let same = same_node nodes more n b node.there in
    of_node k more n record {
      there = omega (arith, node.there, no_shorter nodes more b);
      left = ap (λ p. is_trie k more p.0) same ∙ kept_trie k nodes more (child nodes n).0 b node.left;
      right = ap (λ p. is_trie k more p.1) same ∙ kept_trie k nodes more (child nodes n).1 b node.right;
    }

pub kept_map : (k : ℕ) (nodes more : List (ℕ × ℕ)) (n : ℕ) → Begins nodes more → is_trie k nodes n ≡ true → map_of k more n ≡ map_of k nodes n
kept_map zero nodes more n b e = refl
kept_map (suc k) nodes more n b e =
    let node = node_of k nodes n e in
    let same = same_node nodes more n b node.there in
    ap (λ p. map_of k more p.0 ++ map_of k more p.1) same
    ∙ ap (λ m. m ++ map_of k more (child nodes n).1) (kept_map k nodes more (child nodes n).0 b node.left)
    ∙ ap (λ m. map_of k nodes (child nodes n).0 ++ m) (kept_map k nodes more (child nodes n).1 b node.right)

-- ---- a value is looked up

-- the rest of the key has below the node what the key has in the whole
pub record Finds (nodes : List (ℕ × ℕ)) (whole : Option ℕ) (level size node rest : ℕ) : Type 0 where
  pub is_size : size ≡ 2 ^ level
  pub below : rest < size
  pub trie : is_trie level nodes node ≡ true
  pub same : at (map_of level nodes node) rest ≡ whole

module _ (nodes : List (ℕ × ℕ)) (whole : Option ℕ) where
  pub finds_left : (k size half node rest : ℕ) → Finds nodes whole (suc k) size node rest → half ≡ size / 2 → rest < half → Finds nodes whole k half (get_or nodes node (0, 0)).0 rest
  finds_left k size half node rest f h l =
      let n = node_of k nodes node f.trie in
      let is_half : half ≡ 2 ^ k = omega (arith, h, f.is_size, double k) in
      record {
        is_size = is_half;
        below = l;
        trie = n.left;
        same = sym (at_left (map_of k nodes (child nodes node).0) (map_of k nodes (child nodes node).1) rest (omega (arith, l, is_half, map_size k nodes (child nodes node).0))) ∙ f.same;
      }

  pub finds_right : (k size half node rest : ℕ) → Finds nodes whole (suc k) size node rest → half ≡ size / 2 → half ≤ rest → Finds nodes whole k half (get_or nodes node (0, 0)).1 (rest - half)
  finds_right k size half node rest f h l =
      let n = node_of k nodes node f.trie in
      let is_half : half ≡ 2 ^ k = omega (arith, h, f.is_size, double k) in
      let is_length : length (map_of k nodes (child nodes node).0) ≡ half = map_size k nodes (child nodes node).0 ∙ sym is_half in
      record {
        is_size = is_half;
        below = omega (arith, f.below, f.is_size, is_half, double k, l);
        trie = n.right;
        same =
            ap (λ i. at (map_of k nodes (child nodes node).1) (rest - i)) (sym is_length)
            ∙ sym (at_right (map_of k nodes (child nodes node).0) (map_of k nodes (child nodes node).1) rest (omega (arith, l, is_length))) ∙ f.same;
      }

  pub goes_left : (level size node rest : ℕ) → Finds nodes whole level size node rest → 0 < level → rest < size / 2 → Finds nodes whole (level - 1) (size / 2) (get_or nodes node (0, 0)).0 rest
  goes_left zero size node rest f p l = absurd (omega (arith, p))
  goes_left (suc k) size node rest f p l = subst (λ j. Finds nodes whole j (size / 2) (get_or nodes node (0, 0)).0 rest) (omega arith) (finds_left k size (size / 2) node rest f refl l)

  pub goes_right : (level size node rest : ℕ) → Finds nodes whole level size node rest → 0 < level → size / 2 ≤ rest → Finds nodes whole (level - 1) (size / 2) (get_or nodes node (0, 0)).1 (rest - size / 2)
  goes_right zero size node rest f p l = absurd (omega (arith, p))
  goes_right (suc k) size node rest f p l = subst (λ j. Finds nodes whole j (size / 2) (get_or nodes node (0, 0)).1 (rest - size / 2)) (omega arith) (finds_right k size (size / 2) node rest f refl l)

-- ---- a value is put in

-- what is put below the node is put in the whole
pub record Puts (bits : ℕ) (old : List (ℕ × ℕ)) (root key value first : ℕ) (nodes : List (ℕ × ℕ)) (level size node rest : ℕ) : Type 0 where
  pub is_size : size ≡ 2 ^ level
  pub below : rest < size
  pub count : length nodes + level ≡ length old + bits
  pub kept : take (length old) nodes ≡ old
  pub trie : is_trie level nodes node ≡ true
  pub puts : (more : List (ℕ × ℕ)) → take (length nodes) more ≡ nodes → IsPut level nodes node rest value more (place_for level (length nodes) value) → IsPut bits old root key value more first

-- put on the left or the right
put_left : (k : ℕ) (nodes : List (ℕ × ℕ)) (node key value half next : ℕ) (more : List (ℕ × ℕ)) → half ≡ 2 ^ k → key < half → is_trie (suc k) nodes node ≡ true →
    Begins (nodes ++ (next, (get_or nodes node (0, 0)).1) ∷ []) more → IsPut k (nodes ++ (next, (get_or nodes node (0, 0)).1) ∷ []) (get_or nodes node (0, 0)).0 key value more next →
    IsPut (suc k) nodes node key value more (length nodes)
put_left k nodes node key value half next more h l trie b p =
    let left = (child nodes node).0 in
    let right = (child nodes node).1 in
    let new = nodes ++ (next, right) ∷ [] in
    let n = node_of k nodes node trie in
    let there : length nodes < length more = omega (arith, no_shorter new more b, length-append nodes ((next, right) ∷ [])) in
    let begins : Begins nodes more = begins_too nodes new more (begins_pushed nodes (next, right)) b in
    let is_new : get_or more (length nodes) (0, 0) ≡ (next, right) = same_node new more (length nodes) b (omega (arith, length-append nodes ((next, right) ∷ []))) ∙ get_or-append_seam nodes (next, right) [] (0, 0) in
    let same_left : map_of k new left ≡ map_of k nodes left = kept_map k nodes new left (begins_pushed nodes (next, right)) n.left in
    record {
      trie = of_node k more (length nodes) record {
        there = there;
        left = ap (λ q. is_trie k more q.0) is_new ∙ p.trie;
        right = ap (λ q. is_trie k more q.1) is_new ∙ kept_trie k nodes more right begins n.right;
      };
      map =
          ap (λ q. map_of k more q.0 ++ map_of k more q.1) is_new ∙ ap (λ m. m ++ map_of k more right) (p.map ∙ ap (λ m. with_at m key value) same_left)
          ∙ ap (λ m. with_at (map_of k nodes left) key value ++ m) (kept_map k nodes more right begins n.right)
          ∙ sym (with_left (map_of k nodes left) (map_of k nodes right) key value (omega (arith, l, h, map_size k nodes left)));
    }

put_right : (k : ℕ) (nodes : List (ℕ × ℕ)) (node key value half next : ℕ) (more : List (ℕ × ℕ)) → half ≡ 2 ^ k → half ≤ key → is_trie (suc k) nodes node ≡ true →
    Begins (nodes ++ ((get_or nodes node (0, 0)).0, next) ∷ []) more → IsPut k (nodes ++ ((get_or nodes node (0, 0)).0, next) ∷ []) (get_or nodes node (0, 0)).1 (key - half) value more next →
    IsPut (suc k) nodes node key value more (length nodes)
put_right k nodes node key value half next more h l trie b p =
    let left = (child nodes node).0 in
    let right = (child nodes node).1 in
    let new = nodes ++ (left, next) ∷ [] in
    let n = node_of k nodes node trie in
    let there : length nodes < length more = omega (arith, no_shorter new more b, length-append nodes ((left, next) ∷ [])) in
    let begins : Begins nodes more = begins_too nodes new more (begins_pushed nodes (left, next)) b in
    let is_new : get_or more (length nodes) (0, 0) ≡ (left, next) = same_node new more (length nodes) b (omega (arith, length-append nodes ((left, next) ∷ []))) ∙ get_or-append_seam nodes (left, next) [] (0, 0) in
    let same_right : map_of k new right ≡ map_of k nodes right = kept_map k nodes new right (begins_pushed nodes (left, next)) n.right in
    let is_length : length (map_of k nodes left) ≡ half = map_size k nodes left ∙ sym h in
    record {
      trie = of_node k more (length nodes) record {
        there = there;
        left = ap (λ q. is_trie k more q.0) is_new ∙ kept_trie k nodes more left begins n.left;
        right = ap (λ q. is_trie k more q.1) is_new ∙ p.trie;
      };
      map =
          ap (λ q. map_of k more q.0 ++ map_of k more q.1) is_new ∙ ap (λ m. map_of k more left ++ m) (p.map ∙ ap (λ m. with_at m (key - half) value) same_right)
          ∙ ap (λ m. m ++ with_at (map_of k nodes right) (key - half) value) (kept_map k nodes more left begins n.left)
          ∙ ap (λ i. map_of k nodes left ++ with_at (map_of k nodes right) (key - i) value) (sym is_length)
          ∙ sym (with_right (map_of k nodes left) (map_of k nodes right) key value (omega (arith, l, is_length)));
    }

module _ (bits : ℕ) (old : List (ℕ × ℕ)) (root key value first : ℕ) where
  pub puts_left : (nodes : List (ℕ × ℕ)) (k size half node rest next : ℕ) → Puts bits old root key value first nodes (suc k) size node rest → half ≡ size / 2 → rest < half → next ≡ place_for k (length nodes + 1) value →
      Puts bits old root key value first (nodes ++ (next, (get_or nodes node (0, 0)).1) ∷ []) k half (get_or nodes node (0, 0)).0 rest
  puts_left nodes k size half node rest next p h l is_next =
      let n = node_of k nodes node p.trie in
      let is_half : half ≡ 2 ^ k = omega (arith, h, p.is_size, double k) in
      let new = nodes ++ (next, (child nodes node).1) ∷ [] in
      let longer : length new ≡ length nodes + 1 = length-append nodes ((next, (child nodes node).1) ∷ []) in
      record {
        is_size = is_half;
        below = l;
        count = omega (arith, p.count, longer);
        kept = begins_too old nodes new p.kept (begins_pushed nodes (next, (child nodes node).1));
        trie = kept_trie k nodes new (child nodes node).0 (begins_pushed nodes (next, (child nodes node).1)) n.left;
        puts = λ more b q.
            p.puts more (begins_too nodes new more (begins_pushed nodes (next, (child nodes node).1)) b)
            (put_left k nodes node rest value half next more is_half l p.trie b (subst (IsPut k new (child nodes node).0 rest value more) (ap (λ e. place_for k e value) longer ∙ sym is_next) q));
      }

  pub puts_right : (nodes : List (ℕ × ℕ)) (k size half node rest next : ℕ) → Puts bits old root key value first nodes (suc k) size node rest → half ≡ size / 2 → half ≤ rest → next ≡ place_for k (length nodes + 1) value →
      Puts bits old root key value first (nodes ++ ((get_or nodes node (0, 0)).0, next) ∷ []) k half (get_or nodes node (0, 0)).1 (rest - half)
  puts_right nodes k size half node rest next p h l is_next =
      let n = node_of k nodes node p.trie in
      let is_half : half ≡ 2 ^ k = omega (arith, h, p.is_size, double k) in
      let new = nodes ++ ((child nodes node).0, next) ∷ [] in
      let longer : length new ≡ length nodes + 1 = length-append nodes (((child nodes node).0, next) ∷ []) in
      record {
        is_size = is_half;
        below = omega (arith, p.below, p.is_size, is_half, double k, l);
        count = omega (arith, p.count, longer);
        kept = begins_too old nodes new p.kept (begins_pushed nodes ((child nodes node).0, next));
        trie = kept_trie k nodes new (child nodes node).1 (begins_pushed nodes ((child nodes node).0, next)) n.right;
        puts = λ more b q.
            p.puts more (begins_too nodes new more (begins_pushed nodes ((child nodes node).0, next)) b)
            (put_right k nodes node rest value half next more is_half l p.trie b (subst (IsPut k new (child nodes node).1 (rest - half) value more) (ap (λ e. place_for k e value) longer ∙ sym is_next) q));
      }

  pub puts_on_left : (nodes : List (ℕ × ℕ)) (level size node rest next end : ℕ) (seen new : List (ℕ × ℕ)) → Puts bits old root key value first nodes level size node rest → 0 < level → rest < size / 2 → seen ≡ nodes → end ≡ length nodes →
      next ≡ place_for (level - 1) (end + 1) value → new ≡ nodes ++ (next, (get_or seen node (0, 0)).1) ∷ [] → Puts bits old root key value first new (level - 1) (size / 2) (get_or seen node (0, 0)).0 rest
  puts_on_left nodes zero size node rest next end seen new p pos l is_seen is_end is_next is_new = absurd (omega (arith, pos))
  puts_on_left nodes (suc k) size node rest next end seen new p pos l is_seen is_end is_next is_new =
      let lower : k ≡ suc k - 1 = omega arith in
      let is_next2 : next ≡ place_for k (length nodes + 1) value = is_next ∙ ap (λ j. place_for j (end + 1) value) (sym lower) ∙ ap (λ e. place_for k (e + 1) value) is_end in
      let is_new2 : nodes ++ (next, (get_or nodes node (0, 0)).1) ∷ [] ≡ new = ap (λ (xs : List (ℕ × ℕ)). nodes ++ (next, (get_or xs node (0, 0)).1) ∷ []) (sym is_seen) ∙ sym is_new in
      subst (λ (xs : List (ℕ × ℕ)). Puts bits old root key value first new (suc k - 1) (size / 2) (get_or xs node (0, 0)).0 rest) (sym is_seen)
      (subst (λ j. Puts bits old root key value first new j (size / 2) (get_or nodes node (0, 0)).0 rest) lower
      (subst (λ xs. Puts bits old root key value first xs k (size / 2) (get_or nodes node (0, 0)).0 rest) is_new2 (puts_left nodes k size (size / 2) node rest next p refl l is_next2)))

  pub puts_on_right : (nodes : List (ℕ × ℕ)) (level size node rest next end : ℕ) (seen new : List (ℕ × ℕ)) → Puts bits old root key value first nodes level size node rest → 0 < level → size / 2 ≤ rest → seen ≡ nodes → end ≡ length nodes →
      next ≡ place_for (level - 1) (end + 1) value → new ≡ nodes ++ ((get_or seen node (0, 0)).0, next) ∷ [] → Puts bits old root key value first new (level - 1) (size / 2) (get_or seen node (0, 0)).1 (rest - size / 2)
  puts_on_right nodes zero size node rest next end seen new p pos l is_seen is_end is_next is_new = absurd (omega (arith, pos))
  puts_on_right nodes (suc k) size node rest next end seen new p pos l is_seen is_end is_next is_new =
      let lower : k ≡ suc k - 1 = omega arith in
      let is_next2 : next ≡ place_for k (length nodes + 1) value = is_next ∙ ap (λ j. place_for j (end + 1) value) (sym lower) ∙ ap (λ e. place_for k (e + 1) value) is_end in
      let is_new2 : nodes ++ ((get_or nodes node (0, 0)).0, next) ∷ [] ≡ new = ap (λ (xs : List (ℕ × ℕ)). nodes ++ ((get_or xs node (0, 0)).0, next) ∷ []) (sym is_seen) ∙ sym is_new in
      subst (λ (xs : List (ℕ × ℕ)). Puts bits old root key value first new (suc k - 1) (size / 2) (get_or xs node (0, 0)).1 (rest - size / 2)) (sym is_seen)
      (subst (λ j. Puts bits old root key value first new j (size / 2) (get_or nodes node (0, 0)).1 (rest - size / 2)) lower
      (subst (λ xs. Puts bits old root key value first xs k (size / 2) (get_or nodes node (0, 0)).1 (rest - size / 2)) is_new2 (puts_right nodes k size (size / 2) node rest next p refl l is_next2)))

  pub puts_first : (size rest : ℕ) → size ≡ 2 ^ bits → rest ≡ key → key < 2 ^ bits → is_trie bits old root ≡ true → first ≡ place_for bits (length old) value → Puts bits old root key value first old bits size root rest
  puts_first size rest h e l trie is_first = record {
    is_size = h;
    below = omega (arith, h, e, l);
    count = refl;
    kept = begins_itself old;
    trie = trie;
    puts = λ more b p. subst (λ i. IsPut bits old root i value more first) e (subst (IsPut bits old root rest value more) (sym is_first) p);
  }

  at_bottom : (nodes : List (ℕ × ℕ)) (node rest : ℕ) → rest < 1 → IsPut 0 nodes node rest value nodes (suc value)
  at_bottom nodes node zero l = record { trie = refl; map = refl }
  at_bottom nodes node (suc rest) l = absurd (omega (arith, l))

  pub puts_last : (nodes : List (ℕ × ℕ)) (level size node rest : ℕ) → Puts bits old root key value first nodes level size node rest → level ≡ 0 → IsPut bits old root key value nodes first
  puts_last nodes zero size node rest p e = p.puts nodes (begins_itself nodes) (at_bottom nodes node rest (omega (arith, p.below, p.is_size)))
  puts_last nodes (suc level) size node rest p e = absurd (omega (arith, e))
