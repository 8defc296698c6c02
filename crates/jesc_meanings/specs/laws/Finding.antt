-- What is found is found in the order of lookup, passes the test of its kind, and is an index of its table.
use Rattle.std.proofs.Common.{◌≡◌, ℕ, zero, suc, ◌+◌, ◌<◌, Bool, true, false, true≢false, Option, Some, None, List, [], ◌∷◌, length, get_or, refl, ap, sym, ◌∙◌, arith, bytes_eq, nat_lt, ltb-true, ltb-false, if◌then◌else◌}
use Rattle.std.specs.List.{Contains, slice_get}
use Rattle.std.proofs.lemmas.List.Elements.{All-contains}
use Rattle.std.proofs.lemmas.Option.{slice_get_past}
use Rattle.jesc_tree.specs.declared.class.Class.{Class}
use Rattle.jesc_tree.specs.declared.class.Field.{Field}
use Rattle.jesc_tree.specs.declared.class.Method.{Method}
use Rattle.jesc_classes.specs.Order.{Graph, supers}
use Rattle.jesc_classes.specs.laws.Orders.{here, later}
use Rattle.jesc_lookup.specs.Lines.{first_in, or_else}
use Rattle.jesc_lookup.specs.Lookup.{Found, own_one, inherited, FoundIn, nowhere, in_first, in_rest}
use Rattle.jesc_meanings.specs.Meanings.{class_named, constructor_found, field_found, field_rows, first_at, first_that, found, found_by, graph_of, is_constructor_of, is_field_named, is_method_named, method_found, method_rows, own_field, own_method, passes}
use Rattle.jesc_meanings.specs.Order.{FoundInOrder, IsFalling}

-- ---- the order of lookup

first_found : (graph : Graph) (own : ℕ → Option ℕ) (f : ℕ → Option ℕ) (ss : List ℕ) → ((s : ℕ) → Contains ss s → Found graph own s (f s)) → FoundIn graph own ss (first_in f ss)
first_found graph own f [] h = nowhere
first_found graph own f (s ∷ ss) h = by (f s) (h s (here s ss)) (first_found graph own f ss (λ x c. h x (later s ss x c)))
  where
    by : (o : Option ℕ) → Found graph own s o → FoundIn graph own ss (first_in f ss) → FoundIn graph own (s ∷ ss) (or_else o (first_in f ss))
    by (Some x) h r = in_first s x ss h
    by None h r = in_rest s ss (first_in f ss) h r

in_order : (graph : Graph) (own : ℕ → Option ℕ) → IsFalling graph → (more class : ℕ) → class < more → Found graph own class (found_by more graph own class)
in_order graph own falls zero class l = absurd (omega (arith, l))
in_order graph own falls (suc more) class l =
    by (own class) refl (first_found graph own (found_by more graph own) (supers graph class)
    (λ s c. let below = All-contains (λ above. above < class) (supers graph class) s (falls class) c in in_order graph own falls more s (omega (arith, below, l))))
  where
    by : (o : Option ℕ) → own class ≡ o → FoundIn graph own (supers graph class) (first_in (found_by more graph own) (supers graph class)) → Found graph own class (or_else o (first_in (found_by more graph own) (supers graph class)))
    by (Some x) e r = own_one class x e
    by None e r = inherited class (first_in (found_by more graph own) (supers graph class)) e r

pub found_in_order : FoundInOrder
unfolding found
found_in_order graph own class falls = in_order graph own falls (suc class) class (omega arith)

-- ---- what is found depends on what classes declare themselves alone

first_same : (f g : ℕ → Option ℕ) → ((c : ℕ) → f c ≡ g c) → (line : List ℕ) → first_in f line ≡ first_in g line
first_same f g h [] = refl
first_same f g h (c ∷ line) = ap (λ o. or_else o (first_in f line)) (h c) ∙ ap (or_else (g c)) (first_same f g h line)

same_by : (more : ℕ) (graph : Graph) (f g : ℕ → Option ℕ) → ((c : ℕ) → f c ≡ g c) → (class : ℕ) → found_by more graph f class ≡ found_by more graph g class
same_by zero graph f g h class = refl
same_by (suc more) graph f g h class =
    ap (λ o. or_else o (first_in (found_by more graph f) (supers graph class))) (h class)
    ∙ ap (or_else (g class)) (first_same (found_by more graph f) (found_by more graph g) (same_by more graph f g h) (supers graph class))

pub found_same : (graph : Graph) (f g : ℕ → Option ℕ) → ((c : ℕ) → f c ≡ g c) → (class : ℕ) → found graph f class ≡ found graph g class
unfolding found
found_same graph f g h class = same_by (suc class) graph f g h class

-- ---- what is true of each class's own one is true of what is found

module _ (P : ℕ → Type 0) where
  either : (a b : Option ℕ) (x : ℕ) → or_else a b ≡ Some x → (a ≡ Some x → P x) → (b ≡ Some x → P x) → P x
  either (Some y) b x e f g = f e
  either None b x e f g = g e

  first_has : (f : ℕ → Option ℕ) → ((c x : ℕ) → f c ≡ Some x → P x) → (line : List ℕ) (x : ℕ) → first_in f line ≡ Some x → P x
  first_has f h [] x e = absurd (cc)
  first_has f h (c ∷ line) x e = either (f c) (first_in f line) x e (h c x) (first_has f h line x)

  has_by : (more : ℕ) (graph : Graph) (own : ℕ → Option ℕ) → ((c x : ℕ) → own c ≡ Some x → P x) → (class x : ℕ) → found_by more graph own class ≡ Some x → P x
  has_by zero graph own h class x e = absurd (cc)
  has_by (suc more) graph own h class x e =
      either (own class) (first_in (found_by more graph own) (supers graph class)) x e (h class x) (first_has (found_by more graph own) (has_by more graph own h) (supers graph class) x)

  pub found_has : (graph : Graph) (own : ℕ → Option ℕ) → ((c x : ℕ) → own c ≡ Some x → P x) → (class x : ℕ) → found graph own class ≡ Some x → P x
  unfolding found
  found_has graph own h class x e = has_by (suc class) graph own h class x e

-- ---- tests

pub first_passes : (test : ℕ → Bool) (ids : List ℕ) (x : ℕ) → first_that test ids ≡ Some x → test x ≡ true
first_passes test [] x e = absurd (cc)
first_passes test (i ∷ ids) x e = by (test i) refl e (first_passes test ids x)
  where
    by : (b : Bool) → test i ≡ b → (if b then Some i else first_that test ids) ≡ Some x → (first_that test ids ≡ Some x → test x ≡ true) → test x ≡ true
    by true t e h = let s : i ≡ x = cc in ap test (sym s) ∙ t
    by false t e h = h e

pub passes_inside : {X : Type 0} (test : X → Bool) (xs : List X) (i : ℕ) → passes test (slice_get xs i) ≡ true → i < length xs
passes_inside test xs i e = by (nat_lt i (length xs)) refl
  where
    by : (b : Bool) → nat_lt i (length xs) ≡ b → i < length xs
    by true t = ltb-true i (length xs) t
    by false t = absurd (true≢false (sym e ∙ ap (passes test) (slice_get_past xs i (ltb-false i (length xs) t))))

-- what is found of each kind

pub field_named : (classes : List Class) (fields : List Field) (name : List ℕ) (class x : ℕ) → field_found classes fields name class ≡ Some x → is_field_named fields name x ≡ true
field_named classes fields name = found_has (λ x. is_field_named fields name x ≡ true) (graph_of classes) (own_field classes fields name) (λ c x. first_passes (is_field_named fields name) (get_or (field_rows classes) c []) x)

pub method_named : (classes : List Class) (methods : List Method) (name : List ℕ) (count class x : ℕ) → method_found classes methods name count class ≡ Some x → is_method_named methods name count x ≡ true
method_named classes methods name count = found_has (λ x. is_method_named methods name count x ≡ true) (graph_of classes) (own_method classes methods name count) (λ c x. first_passes (is_method_named methods name count) (get_or (method_rows classes) c []) x)

pub constructor_named : (classes : List Class) (methods : List Method) (count class x : ℕ) → constructor_found classes methods count class ≡ Some x → is_constructor_of methods count x ≡ true
constructor_named classes methods count class x = first_passes (is_constructor_of methods count) (get_or (method_rows classes) class []) x

-- it is an index

pub field_inside : (classes : List Class) (fields : List Field) (name : List ℕ) (class x : ℕ) → field_found classes fields name class ≡ Some x → x < length fields
field_inside classes fields name class x e = passes_inside _ fields x (field_named classes fields name class x e)

pub method_inside : (classes : List Class) (methods : List Method) (name : List ℕ) (count class x : ℕ) → method_found classes methods name count class ≡ Some x → x < length methods
method_inside classes methods name count class x e = passes_inside _ methods x (method_named classes methods name count class x e)

pub constructor_inside : (classes : List Class) (methods : List Method) (count class x : ℕ) → constructor_found classes methods count class ≡ Some x → x < length methods
constructor_inside classes methods count class x e = passes_inside _ methods x (constructor_named classes methods count class x e)

first_inside : {X : Type 0} (test : X → Bool) (n : ℕ) (xs : List X) (k : ℕ) → first_at test n xs ≡ Some k → k < n + length xs
first_inside test n [] k e = absurd (cc)
first_inside test n (x ∷ xs) k e = by (test x) e (first_inside test (n + 1) xs k)
  where
    by : (b : Bool) → (if b then Some n else first_at test (n + 1) xs) ≡ Some k → (first_at test (n + 1) xs ≡ Some k → k < (n + 1) + length xs) → k < n + length (x ∷ xs)
    by true e h = let s : n ≡ k = cc in omega (arith, s)
    by false e h = omega (arith, h e)

pub class_inside : (classes : List Class) (name : List ℕ) (k : ℕ) → class_named classes name ≡ Some k → k < length classes
class_inside classes name k e = omega (arith, first_inside (λ (c : Class). bytes_eq name c.name) 0 classes k e)
