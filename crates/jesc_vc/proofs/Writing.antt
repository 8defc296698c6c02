-- Steps that change the present heap.
use Rattle.std.proofs.Common.{◌≡◌, ℕ, suc, ◌<◌, Bool, true, false, nat_lt, [], ◌∷◌, refl, sym, ap, ◌∙◌, inl, inr, arith, if◌then◌else◌}
use Rattle.std.specs.Prelude.{ℤ, pos, nat_eq}
use Rattle.std.specs.Ordering.{int_eq}
use Rattle.std.proofs.lemmas.Bool.Decides.{nat_tests}
use Rattle.jesc_logic.specs.Terms.{Term, number}
use Rattle.jesc_logic.specs.Structures.{Structure, read, value}
use Rattle.jesc_core.specs.Heaps.{Reading, Heap, with_natural, with_integer, with_heap, with_field, with_element}
use Rattle.jesc_vc.specs.Facts.{auxiliary, IsKnown, IsBelow, AreBelowFacts}
use Rattle.jesc_vc.specs.Environments.{Source, HeapTree, read_one, read_two, heap_in, IsSource, IsBelowEnv}
use Rattle.jesc_vc.specs.Moves.{Known, first, second, facts_at_one, facts_at_two, facts_at_array, field_set, built_set, element_set, elements_cleared}
use Rattle.jesc_vc.proofs.Below.{below_later}
use Rattle.jesc_vc.proofs.States.{source_known, source_later, env_later}
use Rattle.jesc_vc.proofs.VersionFacts as version
use Rattle.jesc_vc.proofs.Moving.{Made, Always, state, IsKnown as IsKnownEnv}

-- ---- the facts of a version hold nothing that comes after it

version_known : (c symbol : ℕ) → symbol < auxiliary → IsKnown (suc c) symbol (number (pos c))
version_known c symbol lt = (omega arith, inr (c, refl, omega arith))

first_below : (c n : ℕ) → 0 < n → IsBelow c n first
first_below c n lt = (omega arith, inl (omega arith))

second_below : (c n : ℕ) → 1 < n → IsBelow c n second
second_below c n lt = (omega arith, inl (omega arith))

one_version : (c : ℕ) → IsSource (suc c) (13, c)
one_version c = (omega arith, omega arith, inr (omega arith))

two_version : (c : ℕ) → IsSource (suc c) (14, c)
two_version c = (omega arith, omega arith, inr (omega arith))

module _ (c : ℕ) (old : Source) (ob : IsSource c old) where
  reads_one : (n : ℕ) (source : Source) (t : Term) → IsSource (suc c) source → IsBelow (suc c) n t → IsBelow (suc c) n (read_one source t)
  reads_one n source t s b = (source_known (suc c) source s, tt, b)

  reads_two : (n : ℕ) (source : Source) (t u : Term) → IsSource (suc c) source → IsBelow (suc c) n t → IsBelow (suc c) n u → IsBelow (suc c) n (read_two source t u)
  reads_two n source t u s b d = (source_known (suc c) source s, tt, b, d)

  ob' : IsSource (suc c) old
  ob' = source_later c (suc c) old (omega arith) ob

  lift : (n : ℕ) (t : Term) → IsBelow c 0 t → IsBelow (suc c) n t
  lift n t b = below_later c (suc c) 0 n (omega arith) (omega arith) t b

  one_below : (o v : Term) → IsBelow c 0 o → IsBelow c 0 v → AreBelowFacts (suc c) (facts_at_one old c o v)
  one_below o v oo vb = (
    (reads_one 0 (13, c) o (one_version c) (lift 0 o oo), lift 0 v vb),
    (((first_below (suc c) 1 (omega arith), lift 1 o oo), (reads_one 1 (13, c) first (one_version c) (first_below (suc c) 1 (omega arith)), reads_one 1 old first ob' (first_below (suc c) 1 (omega arith)))), tt),
  )

  two_below : (a i v : Term) → IsBelow c 0 a → IsBelow c 0 i → IsBelow c 0 v → AreBelowFacts (suc c) (facts_at_two old c a i v)
  two_below a i v ab ib vb =
      let x = first_below (suc c) 2 (omega arith) in
      let y = second_below (suc c) 2 (omega arith) in (
        (reads_two 0 (14, c) a i (two_version c) (lift 0 a ab) (lift 0 i ib), lift 0 v vb),
        ((((x, lift 2 a ab), (y, lift 2 i ib)), (reads_two 2 (14, c) first second (two_version c) x y, reads_two 2 old first second ob' x y)), tt),
      )

  array_below : (a : Term) → IsBelow c 0 a → AreBelowFacts (suc c) (facts_at_array old c a)
  array_below a ab =
      let x = first_below (suc c) 2 (omega arith) in
      let y = second_below (suc c) 2 (omega arith) in (
        (reads_two 1 (14, c) a first (two_version c) (lift 1 a ab) (first_below (suc c) 1 (omega arith)), tt),
        (((x, lift 2 a ab), (reads_two 2 (14, c) first second (two_version c) x y, reads_two 2 old first second ob' x y)), tt),
      )

-- ---- states

if_at : {X Y : Type 0} (b : Bool) (f g : X → Y) (x : X) → (if b then f else g) x ≡ (if b then f x else g x)
if_at true f g x = refl
if_at false f g x = refl

module _ (reading : Reading) (fields : ℕ) (k : Known) (b : IsKnownEnv reading fields k) where
  abbrev heap_of : Structure → Heap
  heap_of s = let e = k.env in heap_in fields s e.heap

  abbrev tree : HeapTree
  tree = let e = k.env in e.heap

  later_known : IsBelowEnv fields (suc k.next) 0 k.env
  later_known = env_later fields k.next (suc k.next) 0 0 (omega arith) (omega arith) k.env b

  -- ---- one field at one object

  field_now : (f : ℕ) → f < fields → (s : Structure) (o v : ℤ)
      → ((x : ℤ) → read s 13 (pos k.next ∷ x ∷ []) ≡ with_integer (λ y. read s (tree.field f).0 (pos (tree.field f).1 ∷ y ∷ [])) o v x)
      → (g : ℕ) (x : ℤ) → (if nat_lt g fields then read s (with_natural tree.field f (13, k.next) g).0 (pos (with_natural tree.field f (13, k.next) g).1 ∷ x ∷ []) else pos 0)
      ≡ (let h = heap_of s in with_natural h.field f (with_integer (h.field f) o v) g x)
  field_now f lt s o v h g x = by (nat_eq g f) refl ∙ sym (if_at (nat_eq g f) (let q = heap_of s in with_integer (q.field f) o v) (let q = heap_of s in q.field g) x)
    where
      in_fields : nat_lt f fields ≡ true
      in_fields = grind (arith, nat_tests)

      by : (u : Bool) → nat_eq g f ≡ u → (if nat_lt g fields then read s (if u then (13, k.next) else tree.field g).0 (pos (if u then (13, k.next) else tree.field g).1 ∷ x ∷ []) else pos 0)
          ≡ (if u then (let q = heap_of s in with_integer (q.field f) o v x) else (let q = heap_of s in q.field g x))
      by true e =
          let same : g ≡ f = grind (arith, nat_tests) in
          ap (λ n. if nat_lt n fields then read s 13 (pos k.next ∷ x ∷ []) else pos 0) same
          ∙ ap (λ t. if t then read s 13 (pos k.next ∷ x ∷ []) else pos 0) in_fields
          ∙ h x
          ∙ (λ t. if int_eq x o then v else sym (ap (λ t. if t then read s (tree.field f).0 (pos (tree.field f).1 ∷ x ∷ []) else pos 0) in_fields) t)
      by false e = refl

  pub field_set_made : (f : ℕ) (o v : Term) → f < fields → IsBelow k.next 0 o → IsBelow k.next 0 v
      → Made reading fields k (field_set f o v k) (Always reading fields) (λ s. state reading fields s (field_set f o v k) ≡ with_heap (state reading fields s k) (with_field (heap_of s) f (value s o) (value s v)))
  field_set_made f o v lt oo vb =
      let source = (let h = b.heap in h.field f lt) in
      let more = facts_at_one (tree.field f) k.next o v in
      record {
        more = more;
        is = refl;
        rises = omega arith;
        below = one_below k.next (tree.field f) source o v oo vb;
        known = record { variables = later_known.variables; heap = (let h = later_known.heap in record { top = h.top; built = h.built; field = λ g l. now_source g l; element = h.element }); kept = later_known.kept };
        sound = λ s r m.
            let w = version.one_written k.next (tree.field f) source o v oo vb s m in
            λ t. record {
              variables = (let y = state reading fields s k in y.variables);
              heap = record { top = (let h = heap_of s in h.top); built = (let h = heap_of s in h.built); field = λ g x. field_now f lt s (value s o) (value s v) w g x t; element = (let h = heap_of s in h.element) };
              kept = (let y = state reading fields s k in y.kept);
              choice = (let y = state reading fields s k in y.choice);
            };
        complete = λ s r w. version.write_one k.next (tree.field f) source o v oo vb s;
      }
    where
      by : (g : ℕ) → g < fields → (u : Bool) → IsSource (suc k.next) (if u then (13, k.next) else tree.field g)
      by g l true = one_version k.next
      by g l false = let h = later_known.heap in h.field g l

      now_source : (g : ℕ) → g < fields → IsSource (suc k.next) (with_natural tree.field f (13, k.next) g)
      now_source g l = by g l (nat_eq g f)

  -- ---- one mark

  pub built_set_made : (o v : Term) → IsBelow k.next 0 o → IsBelow k.next 0 v
      → Made reading fields k (built_set o v k) (Always reading fields) (λ s. state reading fields s (built_set o v k) ≡ with_heap (state reading fields s k) (let h = heap_of s in record h { built = with_integer h.built (value s o) (value s v) }))
  built_set_made o v oo vb =
      let source = (let h = b.heap in h.built) in
      record {
        more = facts_at_one tree.built k.next o v;
        is = refl;
        rises = omega arith;
        below = one_below k.next tree.built source o v oo vb;
        known = record { variables = later_known.variables; heap = (let h = later_known.heap in record { top = h.top; built = one_version k.next; field = h.field; element = h.element }); kept = later_known.kept };
        sound = λ s r m.
            let w = version.one_written k.next tree.built source o v oo vb s m in
            λ t. record {
              variables = (let y = state reading fields s k in y.variables);
              heap = record { top = (let h = heap_of s in h.top); built = λ x. w x t; field = (let h = heap_of s in h.field); element = (let h = heap_of s in h.element) };
              kept = (let y = state reading fields s k in y.kept);
              choice = (let y = state reading fields s k in y.choice);
            };
        complete = λ s r w. version.write_one k.next tree.built source o v oo vb s;
      }

  -- ---- elements

  pub element_set_made : (a i v : Term) → IsBelow k.next 0 a → IsBelow k.next 0 i → IsBelow k.next 0 v
      → Made reading fields k (element_set a i v k) (Always reading fields) (λ s. state reading fields s (element_set a i v k) ≡ with_heap (state reading fields s k) (with_element (heap_of s) (value s a) (value s i) (value s v)))
  element_set_made a i v ab ib vb =
      let source = (let h = b.heap in h.element) in
      record {
        more = facts_at_two tree.element k.next a i v;
        is = refl;
        rises = omega arith;
        below = two_below k.next tree.element source a i v ab ib vb;
        known = record { variables = later_known.variables; heap = (let h = later_known.heap in record { top = h.top; built = h.built; field = h.field; element = two_version k.next }); kept = later_known.kept };
        sound = λ s r m.
            let w = version.element_written k.next tree.element source a i v ab ib vb s m in
            λ t. record {
              variables = (let y = state reading fields s k in y.variables);
              heap = record {
                top = (let h = heap_of s in h.top);
                built = (let h = heap_of s in h.built);
                field = (let h = heap_of s in h.field);
                element = λ x y. element_now s x y (w x y) t;
              };
              kept = (let y = state reading fields s k in y.kept);
              choice = (let y = state reading fields s k in y.choice);
            };
        complete = λ s r w. version.write_element_so k.next tree.element source a i v ab ib vb s;
      }
    where
      element_now : (s : Structure) (x y : ℤ) → read s 14 (pos k.next ∷ x ∷ y ∷ []) ≡ (if int_eq x (value s a) then (if int_eq y (value s i) then value s v else read s tree.element.0 (pos tree.element.1 ∷ value s a ∷ y ∷ [])) else read s tree.element.0 (pos tree.element.1 ∷ x ∷ y ∷ []))
          → read s 14 (pos k.next ∷ x ∷ y ∷ []) ≡ (let h = heap_of s in with_integer h.element (value s a) (with_integer (h.element (value s a)) (value s i) (value s v)) x y)
      element_now s x y e = e ∙ sym (if_at (int_eq x (value s a)) (let h = heap_of s in with_integer (h.element (value s a)) (value s i) (value s v)) (let h = heap_of s in h.element x) y)

  pub elements_cleared_made : (a : Term) → IsBelow k.next 0 a
      → Made reading fields k (elements_cleared a k) (Always reading fields) (λ s. state reading fields s (elements_cleared a k) ≡ with_heap (state reading fields s k) (let h = heap_of s in record h { element = with_integer h.element (value s a) (λ i. pos 0) }))
  elements_cleared_made a ab =
      let source = (let h = b.heap in h.element) in
      record {
        more = facts_at_array tree.element k.next a;
        is = refl;
        rises = omega arith;
        below = array_below k.next tree.element source a ab;
        known = record { variables = later_known.variables; heap = (let h = later_known.heap in record { top = h.top; built = h.built; field = h.field; element = two_version k.next }); kept = later_known.kept };
        sound = λ s r m.
            let w = version.elements_cleared_so k.next tree.element source a ab s m in
            λ t. record {
              variables = (let y = state reading fields s k in y.variables);
              heap = record { top = (let h = heap_of s in h.top); built = (let h = heap_of s in h.built); field = (let h = heap_of s in h.field); element = λ x y. cleared_now s x y (w x y) t };
              kept = (let y = state reading fields s k in y.kept);
              choice = (let y = state reading fields s k in y.choice);
            };
        complete = λ s r w. version.clear_array k.next tree.element source a ab s;
      }
    where
      cleared_now : (s : Structure) (x y : ℤ) → read s 14 (pos k.next ∷ x ∷ y ∷ []) ≡ (if int_eq x (value s a) then pos 0 else read s tree.element.0 (pos tree.element.1 ∷ x ∷ y ∷ []))
          → read s 14 (pos k.next ∷ x ∷ y ∷ []) ≡ (let h = heap_of s in with_integer h.element (value s a) (λ i. pos 0) x y)
      cleared_now s x y e = e ∙ sym (if_at (int_eq x (value s a)) (λ i. pos 0) (let h = heap_of s in h.element x) y)
