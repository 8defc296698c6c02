-- New objects.
use Rattle.std.proofs.Common.{◌≡◌, ℕ, zero, suc, ◌+◌, ◌<◌, ◌≤◌, Bool, true, false, nat_lt, List, [], ◌∷◌, ◌++◌, refl, sym, ap, ◌∙◌, subst, inl, arith, append_assoc, if◌then◌else◌}
use Rattle.std.specs.Prelude.{ℤ, pos, ◌+ℤ◌, nat_eq}
use Rattle.std.specs.Ordering.{int_eq}
use Rattle.std.proofs.lemmas.Bool.Decides.{nat_tests}
use Rattle.jesc_logic.specs.Terms.{Term, number, unary, binary}
use Rattle.jesc_logic.specs.Claims.{equal}
use Rattle.jesc_logic.specs.Structures.{Structure, read, value}
use Rattle.jesc_core.specs.Trees.{TermTree}
use Rattle.jesc_core.specs.Fields.{fields_of_term}
use Rattle.jesc_core.specs.Proper.{IsProperTerm}
use Rattle.jesc_core.specs.Heaps.{Reading, Heap, State, with_natural, with_integer, with_variable, with_heap, with_field, with_object, first_mark}
use Rattle.jesc_core.specs.Runs.{HasObject}
use Rattle.jesc_core.specs.Values as core
use Rattle.jesc_vc.specs.Facts.{FactTree, AreMet, IsBelow, AreBelowFacts, Shares, AreShort}
use Rattle.jesc_vc.specs.Environments.{IsBelowEnv}
use Rattle.jesc_vc.specs.Encodings.{Encoded, encode_term}
use Rattle.jesc_vc.specs.Moves.{Known, and_facts, ground, env_top, field_set, built_set, elements_cleared, fields_cleared, type_facts, typed, topped}
use Rattle.jesc_vc.proofs.Below.{below_later, below_facts_append, met_append, met_front, met_back}
use Rattle.jesc_vc.proofs.States.{shares_later, with_in, with_below}
use Rattle.jesc_vc.proofs.Encoded.{short_front, short_back}
use Rattle.jesc_vc.proofs.VersionFacts.{met_none, equal_so, so_equal}
use Rattle.jesc_vc.proofs.Moving.{Made, Moves, Always, state, IsKnown, known_state, made_then, made_so, made_freely, term_made}
use Rattle.jesc_vc.proofs.Writing.{field_set_made, built_set_made, elements_cleared_made}

-- ---- facts are only added

pub fields_cleared_more : (n f : ℕ) (o : Term) (k : Known) → (more : List FactTree) × ((let j = fields_cleared n f o k in j.facts) ≡ k.facts ++ more)
fields_cleared_more zero f o k = ([], append_nil k.facts)
  where
    append_nil : (fs : List FactTree) → fs ≡ fs ++ []
    append_nil [] = refl
    append_nil (g ∷ fs) = ap (λ gs. g ∷ gs) (append_nil fs)
fields_cleared_more (suc n) f o k =
    let j = field_set f o (number (pos 0)) k in
    let r = fields_cleared_more n (suc f) o j in
    (_, r.1 ∙ append_assoc k.facts _ r.0)

-- ---- heaps whose fields are 0 at one object

abbrev cleared : ℕ → ℕ → ℤ → Heap → Heap
cleared zero f o h = h
cleared (suc n) f o h = cleared n (suc f) o (with_field h f o (pos 0))

abbrev cleared_fields : ℕ → ℕ → ℤ → (ℕ → ℤ → ℤ) → ℕ → ℤ → ℤ
cleared_fields zero f o g = g
cleared_fields (suc n) f o g = cleared_fields n (suc f) o (with_natural g f (with_integer (g f) o (pos 0)))

cleared_is : (n f : ℕ) (o : ℤ) (h : Heap) → cleared n f o h ≡ record h { field = cleared_fields n f o h.field }
cleared_is zero f o h = refl
cleared_is (suc n) f o h = cleared_is n (suc f) o (with_field h f o (pos 0))

module _ (o : ℤ) where
  not_yet : (n f : ℕ) (g : ℕ → ℤ → ℤ) (i : ℕ) → i < f → cleared_fields n f o g i ≡ g i
  not_yet zero f g i lt = refl
  not_yet (suc n) f g i lt =
      let e : nat_eq i f ≡ false = grind (arith, nat_tests) in
      not_yet n (suc f) (with_natural g f (with_integer (g f) o (pos 0))) i (omega arith) ∙ ap (λ b. if b then with_integer (g f) o (pos 0) else g i) e

  beyond : (n f : ℕ) (g : ℕ → ℤ → ℤ) (i : ℕ) → f + n ≤ i → cleared_fields n f o g i ≡ g i
  beyond zero f g i le = refl
  beyond (suc n) f g i le =
      let e : nat_eq i f ≡ false = grind (arith, nat_tests) in
      beyond n (suc f) (with_natural g f (with_integer (g f) o (pos 0))) i (omega arith) ∙ ap (λ b. if b then with_integer (g f) o (pos 0) else g i) e

  among : (n f : ℕ) (g : ℕ → ℤ → ℤ) (i : ℕ) → f ≤ i → i < f + n → cleared_fields n f o g i ≡ with_integer (g i) o (pos 0)
  among zero f g i le lt = absurd (omega arith)
  among (suc n) f g i le lt = by (nat_eq i f) refl (among n (suc f) (with_natural g f (with_integer (g f) o (pos 0))) i)
    where
      by : (b : Bool) → nat_eq i f ≡ b → (suc f ≤ i → i < suc f + n → cleared_fields n (suc f) o (with_natural g f (with_integer (g f) o (pos 0))) i ≡ with_integer (with_natural g f (with_integer (g f) o (pos 0)) i) o (pos 0))
          → cleared_fields n (suc f) o (with_natural g f (with_integer (g f) o (pos 0))) i ≡ with_integer (g i) o (pos 0)
      by true e on =
          let same : i ≡ f = grind (arith, nat_tests) in
          not_yet n (suc f) (with_natural g f (with_integer (g f) o (pos 0))) i (omega arith) ∙ ap (λ b. if b then with_integer (g f) o (pos 0) else g i) e ∙ ap (λ j. with_integer (g j) o (pos 0)) (sym same)
      by false e on =
          let other : (i ≡ f → ⊥) = λ q. grind (arith, nat_tests) in
          on (grind (arith, nat_tests)) (omega arith) ∙ ap (λ b. with_integer (if b then with_integer (g f) o (pos 0) else g i) o (pos 0)) e

module _ (reading : Reading) (fields : ℕ) where
  pub fields_cleared_made : (n f : ℕ) (o : Term) (k : Known) → IsKnown reading fields k → f + n ≤ fields → IsBelow k.next 0 o
      → Made reading fields k (fields_cleared n f o k) (Always reading fields) (λ s. state reading fields s (fields_cleared n f o k) ≡ (let y = state reading fields s k in with_heap y (cleared n f (value s o) y.heap)))
  fields_cleared_made zero f o k b le oo = made_freely reading fields k k (Always reading fields) (λ s. state reading fields s k ≡ state reading fields s k) refl refl b (λ s r. refl)
  fields_cleared_made (suc n) f o k b le oo =
      let j = field_set f o (number (pos 0)) k in
      let one = field_set_made reading fields k b f o (number (pos 0)) (omega arith) oo tt in
      let rest = fields_cleared_made n (suc f) o j one.known (omega arith) (below_later k.next j.next 0 0 (omega arith) (omega arith) o oo) in
      let M1 : Structure → Type 0 = λ s. state reading fields s j ≡ (let y = state reading fields s k in with_heap y (with_field y.heap f (value s o) (pos 0))) in
      let M2 : Structure → Type 0 = λ s. state reading fields s (fields_cleared n (suc f) o j) ≡ (let y = state reading fields s j in with_heap y (cleared n (suc f) (value s o) y.heap)) in
      made_so reading fields k (fields_cleared n (suc f) o j) (Always reading fields) (Always reading fields) (λ s. M1 s × M2 s)
      (λ s. state reading fields s (fields_cleared n (suc f) o j) ≡ (let y = state reading fields s k in with_heap y (cleared n (suc f) (value s o) (with_field y.heap f (value s o) (pos 0)))))
      (made_then reading fields k j (fields_cleared n (suc f) o j) (Always reading fields) (Always reading fields) (Always reading fields) M1 M2 b one rest (λ y u. tt) (λ s r e u. tt))
      (λ y u. tt) (λ s r e. e.1 ∙ ap (λ (y : State). with_heap y (cleared n (suc f) (value s o) y.heap)) e.0)

  -- facts that say what is so already, or what is asked of the state
  pub made_stating : (k i : Known) (fs : List FactTree) (B : State → Type 0) (M M' : Structure → Type 0) → IsKnown reading fields k → Made reading fields k i B M → AreBelowFacts i.next fs
      → ((s : Structure) → Shares reading s → M s → B (state reading fields s k) → AreMet s fs) → ((s : Structure) → Shares reading s → M s → AreMet s fs → M' s) → Made reading fields k (and_facts i fs i.env i.next) B M'
  made_stating k i fs B M M' b m below so then_so = record {
    more = m.more ++ fs;
    is = ap (λ gs. gs ++ fs) m.is ∙ append_assoc k.facts m.more fs;
    rises = m.rises;
    below = below_facts_append i.next m.more fs m.below below;
    known = m.known;
    sound = λ s r f. then_so s r (m.sound s r (met_front s m.more fs f)) (met_back s m.more fs f);
    complete = λ s r w.
        let first = m.complete s r w in
        let shares = shares_later reading k.next s first.to first.agrees r in
        record {
          to = first.to;
          agrees = first.agrees;
          met = met_append first.to m.more fs first.met (so first.to shares (m.sound first.to shares first.met) (subst B (known_state reading fields k s first.to b first.agrees) w));
        };
  }

  topped_made : (x : ℕ) (k : Known) → IsKnown reading fields k
      → Made reading fields k (topped x k) (Always reading fields) (λ s. state reading fields s (topped x k) ≡ (let y = state reading fields s k in let h = y.heap in with_variable (with_heap y (record h { top = h.top +ℤ pos 1 })) x h.top))
  topped_made x k b =
      let e = k.env in
      let h = e.heap in
      let up = binary 0 h.top (number (pos 1)) in
      let hb = b.heap in
      let raised : IsBelowEnv fields k.next 0 (env_top k.env up) = record {
        variables = b.variables;
        heap = record { top = ((omega arith, inl ((λ q. omega arith), (λ q. omega arith))), hb.top, tt); built = hb.built; field = hb.field; element = hb.element };
        kept = b.kept;
      } in
      made_freely reading fields k (topped x k) (Always reading fields) (λ s. state reading fields s (topped x k) ≡ (let y = state reading fields s k in let h = y.heap in with_variable (with_heap y (record h { top = h.top +ℤ pos 1 })) x h.top)) refl refl
      (with_below fields k.next 0 (env_top k.env up) x h.top raised hb.top)
      (λ s r. with_in fields s (env_top k.env up) x h.top)

  -- ---- all of it

  module _ (k : Known) (b : IsKnown reading fields k) (x : ℕ) (ty : ℤ) (size : TermTree) where
    abbrev m : Encoded Term
    m = encode_term size k.env ground k.next

    abbrev top : Term
    top = let e = k.env in let h = e.heap in h.top

    abbrev k0 : Known
    k0 = and_facts k m.facts k.env m.next

    abbrev k1 : Known
    k1 = typed ty m.out k0

    abbrev k2 : Known
    k2 = built_set top (number (first_mark ty)) k1

    abbrev k3 : Known
    k3 = elements_cleared top k2

    abbrev k4 : Known
    k4 = fields_cleared fields 0 top k3

    abbrev k5 : Known
    k5 = topped x k4

    -- the structure has such an object at the top of the state's heap
    abbrev HasIt : State → Type 0
    HasIt y = let h = y.heap in HasObject reading h.top ty (core.value reading size y)

    -- the object's fields are 0, and the other fields read 0
    fields_now : (s : Structure) (g : ℕ) (z : ℤ) → (let h = (let y = state reading fields s k in y.heap) in cleared_fields fields 0 (value s top) h.field g z) ≡ (let h = (let y = state reading fields s k in y.heap) in with_integer (h.field g) (value s top) (pos 0) z)
    fields_now s g z = by (nat_lt g fields) refl
      where
        h : Heap
        h = let y = state reading fields s k in y.heap

        zeros : (u : Bool) → pos 0 ≡ (if u then pos 0 else pos 0)
        zeros true = refl
        zeros false = refl

        by : (u : Bool) → nat_lt g fields ≡ u → cleared_fields fields 0 (value s top) h.field g z ≡ with_integer (h.field g) (value s top) (pos 0) z
        by true e = λ i. among (value s top) fields 0 h.field g (omega arith) (grind (arith, nat_tests)) i z
        by false e =
            let far : 0 + fields ≤ g = grind (arith, nat_tests) in
            let t = (let e = k.env in let q = e.heap in q.field g) in
            let nothing : h.field g z ≡ pos 0 = ap (λ u. if u then read s t.0 (pos t.1 ∷ z ∷ []) else pos 0) e in
            (λ i. beyond (value s top) fields 0 h.field g far i z) ∙ nothing ∙ zeros (int_eq z (value s top)) ∙ ap (λ n. if int_eq z (value s top) then pos 0 else n) (sym nothing)

    object_there : (s : Structure) → (let h = (let y = state reading fields s k in y.heap) in
        record { top = h.top +ℤ pos 1; built = with_integer h.built (value s top) (first_mark ty); field = cleared_fields fields 0 (value s top) h.field; element = with_integer h.element (value s top) (λ i. pos 0) } ≡ with_object h ty)
    object_there s = λ i. let h = (let y = state reading fields s k in y.heap) in
        record { top = h.top +ℤ pos 1; built = with_integer h.built (value s top) (first_mark ty); field = λ g z. fields_now s g z i; element = with_integer h.element (value s top) (λ j. pos 0) }

    -- the term's value, and what the facts on the type and the length say
    sized : AreShort m.facts → IsProperTerm size → fields_of_term size ≤ fields → Made reading fields k k1 HasIt (λ s. HasIt (state reading fields s k)) × IsBelow k1.next 0 top
    sized short fine few =
        let hb = b.heap in
        let A = term_made reading fields k b size fine few short in
        let a = A.made in
        let topb = below_later k.next m.next 0 0 a.rises (omega arith) top hb.top in
        let a' = made_so reading fields k k0 (Always reading fields) HasIt (λ s. value s m.out ≡ core.value reading size (state reading fields s k)) (λ s. value s m.out ≡ core.value reading size (state reading fields s k)) a (λ y u. tt) (λ s r e. e) in (
          made_stating k k0 (type_facts top ty m.out) HasIt (λ s. value s m.out ≡ core.value reading size (state reading fields s k)) (λ s. HasIt (state reading fields s k)) b a'
              ((((omega arith, inl ((λ q. omega arith), (λ q. omega arith))), topb), tt), ((((omega arith, inl ((λ q. omega arith), (λ q. omega arith))), topb), A.out), tt))
              (λ s r e has. (
                met_none s (equal (unary 5 top) (number ty)) (equal_so (read s 5 (value s top ∷ [])) ty (sym (r 5 (value s top ∷ []) (inl (omega arith, omega arith))) ∙ has.0)),
                (met_none s (equal (unary 6 top) m.out) (equal_so (read s 6 (value s top ∷ [])) (value s m.out) (sym (r 6 (value s top ∷ []) (inl (omega arith, omega arith))) ∙ has.1 ∙ sym e)), tt),
              ))
              (λ s r e f. (
                r 5 (value s top ∷ []) (inl (omega arith, omega arith)) ∙ so_equal (read s 5 (value s top ∷ [])) ty (f.0 [] refl),
                r 6 (value s top ∷ []) (inl (omega arith, omega arith)) ∙ so_equal (read s 6 (value s top ∷ [])) (value s m.out) (let g = f.1 in g.0 [] refl) ∙ e,
              )),
          topb,
        )

    pub object_moves : IsProperTerm size → fields_of_term size ≤ fields → AreShort k5.facts → Moves reading fields k k5 HasIt (λ y. let h = y.heap in with_variable (with_heap y (with_object h ty)) x h.top)
    object_moves fine few short =
        let rest = fields_cleared_more fields 0 top k3 in
        let short3 = short_front k3.facts rest.0 (subst AreShort rest.1 short) in
        let short0 = short_front k0.facts _ (short_front k1.facts _ (short_front k2.facts _ short3)) in
        let one = sized (short_back k.facts m.facts short0) fine few in
        let first = one.0 in
        let two = built_set_made reading fields k1 first.known top (number (first_mark ty)) one.1 tt in
        let topb2 = below_later k1.next k2.next 0 0 (omega arith) (omega arith) top one.1 in
        let three = elements_cleared_made reading fields k2 two.known top topb2 in
        let topb3 = below_later k2.next k3.next 0 0 (omega arith) (omega arith) top topb2 in
        let four = fields_cleared_made fields 0 top k3 three.known (omega arith) topb3 in
        let five = topped_made x k4 four.known in
        let M1 : Structure → Type 0 = λ s. HasIt (state reading fields s k) in
        let M2 : Structure → Type 0 = λ s. state reading fields s k2 ≡ with_heap (state reading fields s k1) (let h = (let y = state reading fields s k1 in y.heap) in record h { built = with_integer h.built (value s top) (first_mark ty) }) in
        let M3 : Structure → Type 0 = λ s. state reading fields s k3 ≡ with_heap (state reading fields s k2) (let h = (let y = state reading fields s k2 in y.heap) in record h { element = with_integer h.element (value s top) (λ i. pos 0) }) in
        let M4 : Structure → Type 0 = λ s. state reading fields s k4 ≡ (let y = state reading fields s k3 in with_heap y (cleared fields 0 (value s top) y.heap)) in
        let M5 : Structure → Type 0 = λ s. state reading fields s k5 ≡ (let y = state reading fields s k4 in let h = y.heap in with_variable (with_heap y (record h { top = h.top +ℤ pos 1 })) x h.top) in
        let A = made_then reading fields k k1 k2 HasIt (Always reading fields) HasIt M1 M2 b first two (λ y u. u) (λ s r e u. tt) in
        let B = made_then reading fields k k2 k3 HasIt (Always reading fields) HasIt (λ s. M1 s × M2 s) M3 b A three (λ y u. u) (λ s r e u. tt) in
        let C = made_then reading fields k k3 k4 HasIt (Always reading fields) HasIt (λ s. (M1 s × M2 s) × M3 s) M4 b B four (λ y u. u) (λ s r e u. tt) in
        let D = made_then reading fields k k4 k5 HasIt (Always reading fields) HasIt (λ s. ((M1 s × M2 s) × M3 s) × M4 s) M5 b C five (λ y u. u) (λ s r e u. tt) in
        made_so reading fields k k5 HasIt HasIt (λ s. (((M1 s × M2 s) × M3 s) × M4 s) × M5 s)
        (λ s. HasIt (state reading fields s k) × (state reading fields s k5 ≡ (let y = state reading fields s k in let h = y.heap in with_variable (with_heap y (with_object h ty)) x h.top))) D (λ y u. u)
        (λ s r e. (e.0.0.0.0, all s e.0.0.0.1 e.0.0.1 e.0.1 e.1))
      where
        all : (s : Structure)
            → state reading fields s k2 ≡ with_heap (state reading fields s k1) (let h = (let y = state reading fields s k1 in y.heap) in record h { built = with_integer h.built (value s top) (first_mark ty) })
            → state reading fields s k3 ≡ with_heap (state reading fields s k2) (let h = (let y = state reading fields s k2 in y.heap) in record h { element = with_integer h.element (value s top) (λ i. pos 0) })
            → state reading fields s k4 ≡ (let y = state reading fields s k3 in with_heap y (cleared fields 0 (value s top) y.heap))
            → state reading fields s k5 ≡ (let y = state reading fields s k4 in let h = y.heap in with_variable (with_heap y (record h { top = h.top +ℤ pos 1 })) x h.top)
            → state reading fields s k5 ≡ (let y = state reading fields s k in let h = y.heap in with_variable (with_heap y (with_object h ty)) x h.top)
        all s e2 e3 e4 e5 =
            let y = state reading fields s k in
            let h = y.heap in
            let t = value s top in
            let marked : State → State = λ z. with_heap z (let q = z.heap in record q { built = with_integer q.built t (first_mark ty) }) in
            let emptied : State → State = λ z. with_heap z (let q = z.heap in record q { element = with_integer q.element t (λ i. pos 0) }) in
            let zeroed : State → State = λ z. with_heap z (cleared fields 0 t z.heap) in
            let raised : State → State = λ z. let q = z.heap in with_variable (with_heap z (record q { top = q.top +ℤ pos 1 })) x q.top in
            let h3 : Heap = record h { built = with_integer h.built t (first_mark ty); element = with_integer h.element t (λ i. pos 0) } in
            e5 ∙ ap raised (e4 ∙ ap zeroed (e3 ∙ ap emptied e2))
            ∙ ap (λ (q : Heap). with_variable (with_heap y (record q { top = q.top +ℤ pos 1 })) x q.top) (cleared_is fields 0 t h3)
            ∙ ap (λ q. with_variable (with_heap y q) x h.top) (object_there s)
