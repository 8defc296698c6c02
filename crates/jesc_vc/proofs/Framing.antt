-- The heap of the next choice, which differs from the present one inside a frame alone.
use Rattle.std.proofs.Common.{◌≡◌, ◌⊎◌, ℕ, zero, suc, ◌+◌, ◌<◌, ◌≤◌, Bool, true, false, ◌||◌, nat_lt, List, [], ◌∷◌, ◌++◌, length, map, refl, sym, ap, ◌∙◌, subst, inl, inr, arith, append_assoc, if◌then◌else◌}
use Rattle.std.specs.Prelude.{ℤ, pos, ◌≤ℤ◌, ◌<ℤ◌, int_le, not, nat_eq}
use Rattle.std.specs.List.{All}
use Rattle.std.specs.Ordering.{int_eq}
use Rattle.std.proofs.lemmas.Int.{ints}
use Rattle.std.proofs.lemmas.Bool.Decides.{nat_tests}
use Rattle.std.proofs.lemmas.List.Elements.{All-head, All-tail}
use Rattle.jesc_logic.specs.Terms.{Term, number}
use Rattle.jesc_logic.specs.Claims.{Claim, at_most, equal, negation, either}
use Rattle.jesc_logic.specs.Structures.{Structure, read, value, is_true}
use Rattle.jesc_core.specs.Trees.{FormulaTree, FrameTree}
use Rattle.jesc_core.specs.Fields.{fields_of_formula, fields_of_formulas, fields_of_frame}
use Rattle.jesc_core.specs.Proper.{IsProperFormula, IsProperFrame}
use Rattle.jesc_core.specs.Heaps.{Reading, Heap, State, with_variable, chosen_heap, next_choice}
use Rattle.jesc_core.specs.Values as core
use Rattle.jesc_core.specs.Runs.{formula_at, StaysInFrame}
use Rattle.jesc_vc.specs.Facts.{FactTree, auxiliary, IsBelow, Shares, AreShort}
use Rattle.jesc_vc.specs.Environments.{HeapTree, EnvTree, env_with, read_one, read_two, choice_tree, heap_in, IsSource, IsBelowHeap}
use Rattle.jesc_vc.specs.Encodings.{ScopeTree, claim_formula}
use Rattle.jesc_vc.specs.Moves.{Known, first, second, mark_fact, changed_field, changed_element, field_framed, fields_framed, elements_framed, marks_framed, chosen_next, havocked}
use Rattle.jesc_vc.proofs.States.{env_later, with_below, with_in, further_in, source_known}
use Rattle.jesc_vc.proofs.Entries.{In, keys_of}
use Rattle.jesc_vc.proofs.Scopes.{at, Inside, IsFinite, IsScope, those, one_of_those, among_those}
use Rattle.jesc_vc.proofs.Saying.{st}
use Rattle.jesc_vc.proofs.Encoded.{short_front, short_back, claimed_formula}
use Rattle.jesc_vc.proofs.Versions.{find, places, read_zero}
use Rattle.jesc_vc.proofs.VersionFacts.{one_same, one_read, two_read, met_one, equal_so, so_equal, two_args, pair_of}
use Rattle.jesc_vc.proofs.Moving.{Made, Moves, Always, state, IsKnown, made_then, made_so, made_freely}
use Rattle.jesc_vc.proofs.Objects.{made_stating}

-- ---- facts are only added

append_nil : (fs : List FactTree) → fs ≡ fs ++ []
append_nil [] = refl
append_nil (g ∷ fs) = ap (λ gs. g ∷ gs) (append_nil fs)

pub fields_framed_more : (n f : ℕ) (frame : FrameTree) (k : Known) → (more : List FactTree) × ((let j = fields_framed n f frame k in j.facts) ≡ k.facts ++ more)
fields_framed_more zero f frame k = ([], append_nil k.facts)
fields_framed_more (suc n) f frame k =
    let j = field_framed frame f k in
    let r = fields_framed_more n (suc f) frame j in
    (_, r.1 ∙ append_assoc k.facts _ r.0)

-- ---- the formulas of a frame

pub formula_proper : (fs : List FormulaTree) (f : ℕ) → All IsProperFormula fs → IsProperFormula (formula_at fs f)
formula_proper [] f h = tt
formula_proper (g ∷ fs) zero h = All-head IsProperFormula g fs h
formula_proper (g ∷ fs) (suc f) h = formula_proper fs f (All-tail IsProperFormula g fs h)

pub formula_fields : (fs : List FormulaTree) (f : ℕ) → fields_of_formula (formula_at fs f) ≤ fields_of_formulas fs
formula_fields [] f = omega arith
formula_fields (g ∷ fs) zero = omega arith
formula_fields (g ∷ fs) (suc f) = let r = formula_fields fs f in omega arith

-- ---- choices

field_source : (c f j : ℕ) → 64 + f < auxiliary → IsSource c (64 + f, j)
field_source c f j lt = (omega arith, lt, inl ((λ q. omega arith), (λ q. omega arith)))

pub choice_below : (fields c n j : ℕ) → fields ≤ 2147483584 → IsBelowHeap fields c n (choice_tree j)
choice_below fields c n j few = record {
  top = ((omega arith, inl ((λ q. omega arith), (λ q. omega arith))), tt);
  built = (omega arith, omega arith, inl ((λ q. omega arith), (λ q. omega arith)));
  field = λ f lt. field_source c f j (omega arith);
  element = (omega arith, omega arith, inl ((λ q. omega arith), (λ q. omega arith)));
}

module _ (reading : Reading) (fields : ℕ) (few_fields : fields ≤ 2147483584) where
  -- the heap of a choice in a structure that shares
  pub choice_in : (s : Structure) (j : ℕ) → Shares reading s → heap_in fields s (choice_tree j) ≡ chosen_heap reading fields j
  choice_in s j r = λ i. record {
    top = sym (r 4 (pos j ∷ []) (inl (omega arith, omega arith))) i;
    built = λ o. sym (r 7 (pos j ∷ o ∷ []) (inl (omega arith, omega arith))) i;
    field = λ f o. by f o (nat_lt f fields) refl i;
    element = λ a e. sym (r 8 (pos j ∷ a ∷ e ∷ []) (inl (omega arith, omega arith))) i;
  }
    where
      by : (f : ℕ) (o : ℤ) (u : Bool) → nat_lt f fields ≡ u → (if nat_lt f fields then read s (64 + f) (pos j ∷ o ∷ []) else pos 0) ≡ (if nat_lt f fields then reading (64 + f) (pos j ∷ o ∷ []) else pos 0)
      by f o true e =
          let lt : f < fields = grind (arith, nat_tests) in
          λ i. if nat_lt f fields then sym (r (64 + f) (pos j ∷ o ∷ []) (inr (omega arith, omega arith))) i else pos 0
      by f o false e = ap (λ u. if u then read s (64 + f) (pos j ∷ o ∷ []) else pos 0) e ∙ sym (ap (λ u. if u then reading (64 + f) (pos j ∷ o ∷ []) else pos 0) e)

  value_of_either : (s : Structure) (u : Bool) (a b : Term) → value s (if u then a else b) ≡ (if u then value s a else value s b)
  value_of_either s true a b = refl
  value_of_either s false a b = refl

  pub chosen_made : (x : ℕ) (k : Known) → IsKnown reading fields k → Made reading fields k (chosen_next x k) (Always reading fields) (λ s. state reading fields s (chosen_next x k) ≡ next_choice reading fields x (state reading fields s k))
  chosen_made x k b =
      let e = k.env in
      let j = suc e.choice in
      made_freely reading fields k (chosen_next x k) (Always reading fields) (λ s. state reading fields s (chosen_next x k) ≡ next_choice reading fields x (state reading fields s k)) refl refl
      record { variables = λ z. known_variable z (nat_eq z x); heap = choice_below fields k.next 0 j few_fields; kept = b.kept }
      (λ s r i. record {
        variables = λ z. value_of_either s (nat_eq z x) (number (pos j)) (e.variables z) i;
        heap = choice_in s j r i;
        kept = (let y = state reading fields s k in y.kept);
        choice = j;
      })
    where
      known_variable : (z : ℕ) (u : Bool) → IsBelow k.next 0 (if u then number (pos (suc (let e = k.env in e.choice))) else (let e = k.env in e.variables z))
      known_variable z true = tt
      known_variable z false = b.variables z

  -- ---- marks

  module _ (k : Known) (b : IsKnown reading fields k) where
    abbrev new : State → Heap
    new y = chosen_heap reading fields (suc y.choice)

    abbrev MarksStay : State → Type 0
    MarksStay y = let h = y.heap in (o : ℤ) → pos 1 ≤ℤ o → o <ℤ h.top → (let n = new y in n.built o) ≡ h.built o

    abbrev j : ℕ
    j = let e = k.env in suc e.choice

    abbrev old : HeapTree
    old = let e = k.env in e.heap

    mark_is : (s : Structure) (o : ℤ) → is_true (at s (o ∷ [])) (either (equal (read_one (7, j) first) (read_one old.built first)) (either (negation (at_most (number (pos 1)) first)) (at_most old.top first)))
        ≡ int_eq (read s 7 (pos j ∷ o ∷ [])) (read s old.built.0 (pos old.built.1 ∷ o ∷ [])) || (not (int_le (pos 1) o) || int_le (value s old.top) o)
    mark_is s o =
        let hb = b.heap in
        let ob = hb.built in
        λ i. int_eq (one_read k.next s (o ∷ []) (7, j) first (omega arith) i) (one_read k.next s (o ∷ []) old.built first ob.0 i) || (not (int_le (pos 1) o) || int_le (one_same k.next s o old.top hb.top i) o)

    from_le : (x y : ℤ) → x ≤ℤ y → int_le x y ≡ true
    from_le x y e = grind (arith, ints)

    le_from : (x y : ℤ) → int_le x y ≡ true → x ≤ℤ y
    le_from x y e = grind (arith, ints)

    not_le : (x y : ℤ) → y <ℤ x → int_le x y ≡ false
    not_le x y e = grind (arith, ints)

    lt_from : (x y : ℤ) → int_le x y ≡ false → y <ℤ x
    lt_from x y e = grind (arith, ints)

    three : (a p q : Bool) → (p ≡ true → q ≡ false → a ≡ true) → a || (not p || q) ≡ true
    three true p q h = refl
    three false true true h = refl
    three false true false h = h refl refl
    three false false q h = refl

    three_says : (a p q : Bool) → a || (not p || q) ≡ true → p ≡ true → q ≡ false → a ≡ true
    three_says true p q e f g = refl
    three_says false true true e f g = cc
    three_says false true false e f g = e
    three_says false false q e f g = cc

    pub marks_made : Made reading fields k (marks_framed k) MarksStay (λ s. MarksStay (state reading fields s k))
    marks_made =
        let hb = b.heap in
        let ob = hb.built in
        let one : IsBelow k.next 1 first = (omega arith, inl (omega arith)) in
        let later = env_later fields k.next k.next 0 1 (omega arith) (omega arith) k.env b in
        let lh = later.heap in
        let nothing = made_freely reading fields k k MarksStay (λ s. Unit {0}) refl refl b (λ s r. tt) in
        made_stating reading fields k k (mark_fact (7, j) old.built old.top ∷ []) MarksStay (λ s. Unit {0}) (λ s. MarksStay (state reading fields s k)) b nothing
        ((((source_known k.next (7, j) (omega arith, omega arith, inl ((λ q. omega arith), (λ q. omega arith))), tt, one), (source_known k.next old.built ob, tt, one)), ((tt, one), (lh.top, one))), tt)
        (λ s r u stay. (
          met_one s (either (equal (read_one (7, j) first) (read_one old.built first)) (either (negation (at_most (number (pos 1)) first)) (at_most old.top first)))
              (λ o. mark_is s o ∙ three (int_eq (read s 7 (pos j ∷ o ∷ [])) (read s old.built.0 (pos old.built.1 ∷ o ∷ []))) (int_le (pos 1) o) (int_le (value s old.top) o)
              (λ p q. equal_so (read s 7 (pos j ∷ o ∷ [])) (read s old.built.0 (pos old.built.1 ∷ o ∷ []))
              (sym (r 7 (pos j ∷ o ∷ []) (inl (omega arith, omega arith))) ∙ stay o (le_from (pos 1) o p) (lt_from (value s old.top) o q)))),
          tt,
        ))
        (λ s r u m o p q.
        r 7 (pos j ∷ o ∷ []) (inl (omega arith, omega arith))
        ∙ so_equal (read s 7 (pos j ∷ o ∷ [])) (read s old.built.0 (pos old.built.1 ∷ o ∷ []))
        (three_says (int_eq (read s 7 (pos j ∷ o ∷ [])) (read s old.built.0 (pos old.built.1 ∷ o ∷ []))) (int_le (pos 1) o) (int_le (value s old.top) o)
        (sym (mark_is s o) ∙ m.0 (o ∷ []) refl) (from_le (pos 1) o p) (not_le (value s old.top) o q)))

    -- ---- one field

    abbrev field_scope : ℕ → ScopeTree
    field_scope f = changed_field (64 + f, j) (old.field f)

    abbrev one_arg : ℤ → List ℤ
    one_arg x = x ∷ []

    abbrev head_of : List ℤ → ℤ
    head_of [] = pos 0
    head_of (x ∷ xs) = x

    -- the guard is true where the field has not changed
    field_guard : (s : Structure) (f : ℕ) → f < fields → (o : ℤ) → is_true (at s (o ∷ [])) (equal (read_one (64 + f, j) first) (read_one (old.field f) first)) ≡ int_eq (read s (64 + f) (pos j ∷ o ∷ [])) (read s (old.field f).0 (pos (old.field f).1 ∷ o ∷ []))
    field_guard s f lt o =
        let hb = b.heap in
        let ob = hb.field f lt in
        λ i. int_eq (one_read k.next s (o ∷ []) (64 + f, j) first (omega arith) i) (one_read k.next s (o ∷ []) (old.field f) first ob.0 i)

    one_of : (xs : List ℤ) → length xs ≡ 1 → xs ≡ head_of xs ∷ []
    one_of [] e = absurd (omega arith)
    one_of (x ∷ []) e = refl
    one_of (x ∷ y ∷ xs) e = absurd (omega arith)

    singles : List ℤ → List (List ℤ)
    singles [] = []
    singles (x ∷ xs) = (x ∷ []) ∷ singles xs

    in_singles : (xs : List ℤ) (x : ℤ) → In xs x → In (singles xs) (x ∷ [])
    unfolding singles
    in_singles [] x p = absurd p
    in_singles (y ∷ ys) x (inl e) = inl (ap (λ z. z ∷ []) e)
    in_singles (y ∷ ys) x (inr p) = inr (in_singles ys x p)

    single : (xs : List ℤ) (zs : List ℤ) → In (singles xs) zs → length zs ≡ 1
    unfolding singles
    single [] zs p = absurd p
    single (x ∷ xs) zs (inl e) = ap length (sym e)
    single (x ∷ xs) zs (inr p) = single xs zs p

    field_finite : (s : Structure) (f : ℕ) → f < fields → IsFinite s (field_scope f)
    field_finite s f lt = record {
      list = those s (field_scope f) guard candidates;
      inside = λ xs p. let r = one_of_those s (field_scope f) guard candidates xs p in (single (places one_arg head_of (λ z. refl) (keys_of s)) xs r.0, r.1);
      covers = λ xs i. among_those s (field_scope f) guard candidates xs (candidate xs i) i.1;
      apart = λ xs ys i l e. one_of xs i.0 ∙ ap (λ z. z ∷ []) (same_head xs ys i.0 l.0 e) ∙ sym (one_of ys l.0);
    }
      where
        guard : Claim Term
        guard = equal (read_one (64 + f, j) first) (read_one (old.field f) first)

        candidates : List (List ℤ)
        candidates = singles (places one_arg head_of (λ z. refl) (keys_of s))

        candidate : (xs : List ℤ) → Inside s (field_scope f) xs → In candidates xs
        candidate xs i = subst (In candidates) (sym (one_of xs i.0)) (by (find one_arg head_of (λ z. refl) (head_of xs) (places one_arg head_of (λ z. refl) (keys_of s))))
          where
            by : In (places one_arg head_of (λ z. refl) (keys_of s)) (head_of xs) ⊎ (In (places one_arg head_of (λ z. refl) (keys_of s)) (head_of xs) → ⊥) → In candidates (head_of xs ∷ [])
            by (inl p) = in_singles (places one_arg head_of (λ z. refl) (keys_of s)) (head_of xs) p
            by (inr n) =
                let o = head_of xs in
                let same : read s (64 + f) (pos j ∷ o ∷ []) ≡ read s (old.field f).0 (pos (old.field f).1 ∷ o ∷ []) =
                read_zero one_arg head_of (λ z. refl) s (64 + f) (pos j) o n ∙ sym (read_zero one_arg head_of (λ z. refl) s (old.field f).0 (pos (old.field f).1) o n) in
                let so : true ≡ false =
                sym (field_guard s f lt o ∙ equal_so (read s (64 + f) (pos j ∷ o ∷ [])) (read s (old.field f).0 (pos (old.field f).1 ∷ o ∷ [])) same)
                ∙ subst (λ zs. is_true (at s zs) guard ≡ false) (one_of xs i.0) i.1 in
                cc

        same_head : (xs ys : List ℤ) → length xs ≡ 1 → length ys ≡ 1 → map (value (at s xs)) (first ∷ []) ≡ map (value (at s ys)) (first ∷ []) → head_of xs ≡ head_of ys
        same_head [] ys p q e = absurd (omega arith)
        same_head (x ∷ []) [] p q e = absurd (omega arith)
        same_head (x ∷ []) (y ∷ []) p q e = ap head_of e
        same_head (x ∷ []) (y ∷ z ∷ ys) p q e = absurd (omega arith)
        same_head (x ∷ z ∷ xs) ys p q e = absurd (omega arith)

    abbrev FieldStays : FrameTree → ℕ → State → Type 0
    FieldStays frame f y = (o : ℤ) → core.is_true reading (formula_at frame.fields f) (with_variable y frame.object o) ≡ false → (let n = new y in n.field f o) ≡ (let h = y.heap in h.field f o)

    now_reads : (s : Structure) (f : ℕ) (o : ℤ) → Shares reading s → f < fields → (let n = new (state reading fields s k) in n.field f o) ≡ read s (64 + f) (pos j ∷ o ∷ [])
    now_reads s f o r lt =
        let e : nat_lt f fields ≡ true = grind (arith, nat_tests) in
        ap (λ u. if u then reading (64 + f) (pos j ∷ o ∷ []) else pos 0) e ∙ r (64 + f) (pos j ∷ o ∷ []) (inr (omega arith, omega arith))

    old_reads : (s : Structure) (f : ℕ) (o : ℤ) → f < fields → (let h = (let y = state reading fields s k in y.heap) in h.field f o) ≡ read s (old.field f).0 (pos (old.field f).1 ∷ o ∷ [])
    old_reads s f o lt =
        let e : nat_lt f fields ≡ true = grind (arith, nat_tests) in
        ap (λ u. if u then read s (old.field f).0 (pos (old.field f).1 ∷ o ∷ []) else pos 0) e

    one_state : (s : Structure) (x : ℕ) (o : ℤ) → st reading fields (at s (o ∷ [])) (env_with k.env x first) ≡ with_variable (state reading fields s k) x o
    one_state s x o = with_in fields (at s (o ∷ [])) k.env x first ∙ ap (λ y. with_variable y x o) (further_in fields k.next s k.env [] (o ∷ []) (omega arith) b)

    field_scope_is : (f : ℕ) → f < fields → IsScope k.next (field_scope f)
    field_scope_is f lt =
        let hb = b.heap in
        let one : IsBelow k.next 1 first = (omega arith, inl (omega arith)) in
        record {
          short = omega arith;
          few = omega arith;
          code = (one, tt);
          guard = ((source_known k.next (64 + f, j) (field_source k.next f j (omega arith)), tt, one), (source_known k.next (old.field f) (hb.field f lt), tt, one));
        }

    pub field_framed_made : (frame : FrameTree) (f : ℕ) → f < fields → IsProperFrame frame → fields_of_frame frame ≤ fields → AreShort (let i = field_framed frame f k in i.facts)
        → Made reading fields k (field_framed frame f k) (FieldStays frame f) (λ s. FieldStays frame f (state reading fields s k))
    field_framed_made frame f lt fine few short =
        let g = formula_at frame.fields f in
        let env = env_with k.env frame.object first in
        let m = claim_formula g true env (field_scope f) k.next in
        let one : IsBelow k.next 1 first = (omega arith, inl (omega arith)) in
        let env_in = with_below fields k.next 1 k.env frame.object first (env_later fields k.next k.next 0 1 (omega arith) (omega arith) k.env b) one in
        let fits = formula_fields frame.fields f in
        let s = claimed_formula reading fields g true env (field_scope f) k.next (formula_proper frame.fields f fine.0) (omega arith) (field_scope_is f lt) env_in (short_back k.facts m.facts short) in
        record {
          more = m.facts;
          is = refl;
          rises = s.rises;
          below = s.below;
          known = env_later fields k.next m.next 0 0 s.rises (omega arith) k.env b;
          sound = λ t r met o kept. stays t r o (λ i. s.sound t r met (o ∷ []) i) kept (int_eq (read t (64 + f) (pos j ∷ o ∷ [])) (read t (old.field f).0 (pos (old.field f).1 ∷ o ∷ []))) refl;
          complete = λ t r w. s.complete t r (field_finite t f lt) (λ xs i. subst (λ zs. core.is_true reading g (st reading fields (at t zs) env) ≡ true) (sym (one_of xs i.0))
              (may t r w (head_of xs) (subst (λ zs. is_true (at t zs) (equal (read_one (64 + f, j) first) (read_one (old.field f) first)) ≡ false) (one_of xs i.0) i.1) (core.is_true reading g (st reading fields (at t (head_of xs ∷ [])) env)) refl));
        }
      where
        stays : (t : Structure) → Shares reading t → (o : ℤ) → (Inside t (field_scope f) (o ∷ []) → core.is_true reading (formula_at frame.fields f) (st reading fields (at t (o ∷ [])) (env_with k.env frame.object first)) ≡ true)
            → core.is_true reading (formula_at frame.fields f) (with_variable (state reading fields t k) frame.object o) ≡ false
            → (u : Bool) → int_eq (read t (64 + f) (pos j ∷ o ∷ [])) (read t (old.field f).0 (pos (old.field f).1 ∷ o ∷ [])) ≡ u
            → (let n = new (state reading fields t k) in n.field f o) ≡ (let h = (let y = state reading fields t k in y.heap) in h.field f o)
        stays t r o says kept true e =
            now_reads t f o r lt ∙ so_equal (read t (64 + f) (pos j ∷ o ∷ [])) (read t (old.field f).0 (pos (old.field f).1 ∷ o ∷ [])) e ∙ sym (old_reads t f o lt)
        stays t r o says kept false e =
            let so : true ≡ false = sym (says (refl, field_guard t f lt o ∙ e)) ∙ ap (core.is_true reading (formula_at frame.fields f)) (one_state t frame.object o) ∙ kept in
            cc

        may : (t : Structure) → Shares reading t → FieldStays frame f (state reading fields t k) → (o : ℤ) → is_true (at t (o ∷ [])) (equal (read_one (64 + f, j) first) (read_one (old.field f) first)) ≡ false
            → (u : Bool) → core.is_true reading (formula_at frame.fields f) (st reading fields (at t (o ∷ [])) (env_with k.env frame.object first)) ≡ u → u ≡ true
        may t r w o guard true e = refl
        may t r w o guard false e =
            let same = w o (ap (core.is_true reading (formula_at frame.fields f)) (sym (one_state t frame.object o)) ∙ e) in
            let equal_reads : read t (64 + f) (pos j ∷ o ∷ []) ≡ read t (old.field f).0 (pos (old.field f).1 ∷ o ∷ []) = sym (now_reads t f o r lt) ∙ same ∙ old_reads t f o lt in
            let so : true ≡ false = sym (field_guard t f lt o ∙ equal_so (read t (64 + f) (pos j ∷ o ∷ [])) (read t (old.field f).0 (pos (old.field f).1 ∷ o ∷ [])) equal_reads) ∙ guard in
            cc

    -- ---- elements

    abbrev element_scope : ScopeTree
    element_scope = changed_element (8, j) old.element

    abbrev element_guard : Claim Term
    element_guard = equal (read_two (8, j) first second) (read_two old.element first second)

    guard_is : (s : Structure) (a e : ℤ) → is_true (at s (a ∷ e ∷ [])) element_guard ≡ int_eq (read s 8 (pos j ∷ a ∷ e ∷ [])) (read s old.element.0 (pos old.element.1 ∷ a ∷ e ∷ []))
    guard_is s a e = λ i. int_eq (two_read k.next s (a ∷ e ∷ []) (8, j) first second i) (two_read k.next s (a ∷ e ∷ []) old.element first second i)

    two_of : (xs : List ℤ) → length xs ≡ 2 → xs ≡ (let p = pair_of xs in p.0 ∷ p.1 ∷ [])
    two_of [] e = absurd (omega arith)
    two_of (x ∷ []) e = absurd (omega arith)
    two_of (x ∷ y ∷ []) e = refl
    two_of (x ∷ y ∷ z ∷ xs) e = absurd (omega arith)

    doubles : List (ℤ × ℤ) → List (List ℤ)
    doubles [] = []
    doubles (p ∷ ps) = (p.0 ∷ p.1 ∷ []) ∷ doubles ps

    in_doubles : (ps : List (ℤ × ℤ)) (p : ℤ × ℤ) → In ps p → In (doubles ps) (p.0 ∷ p.1 ∷ [])
    unfolding doubles
    in_doubles [] p h = absurd h
    in_doubles (q ∷ ps) p (inl e) = inl (ap two_args e)
    in_doubles (q ∷ ps) p (inr h) = inr (in_doubles ps p h)

    double : (ps : List (ℤ × ℤ)) (zs : List ℤ) → In (doubles ps) zs → length zs ≡ 2
    unfolding doubles
    double [] zs h = absurd h
    double (p ∷ ps) zs (inl e) = ap length (sym e)
    double (p ∷ ps) zs (inr h) = double ps zs h

    element_finite : (s : Structure) → IsFinite s element_scope
    element_finite s = record {
      list = those s element_scope element_guard candidates;
      inside = λ xs p. let r = one_of_those s element_scope element_guard candidates xs p in (double (places two_args pair_of (λ z. refl) (keys_of s)) xs r.0, r.1);
      covers = λ xs i. among_those s element_scope element_guard candidates xs (candidate xs i) i.1;
      apart = λ xs ys i l e. two_of xs i.0 ∙ (λ t. let p = same_pair xs ys i.0 l.0 e in two_args (p t)) ∙ sym (two_of ys l.0);
    }
      where
        candidates : List (List ℤ)
        candidates = doubles (places two_args pair_of (λ z. refl) (keys_of s))

        candidate : (xs : List ℤ) → Inside s element_scope xs → In candidates xs
        candidate xs i = subst (In candidates) (sym (two_of xs i.0)) (by (find two_args pair_of (λ z. refl) (pair_of xs) (places two_args pair_of (λ z. refl) (keys_of s))))
          where
            by : In (places two_args pair_of (λ z. refl) (keys_of s)) (pair_of xs) ⊎ (In (places two_args pair_of (λ z. refl) (keys_of s)) (pair_of xs) → ⊥) → In candidates (let p = pair_of xs in p.0 ∷ p.1 ∷ [])
            by (inl p) = in_doubles (places two_args pair_of (λ z. refl) (keys_of s)) (pair_of xs) p
            by (inr n) =
                let p = pair_of xs in
                let same : read s 8 (pos j ∷ p.0 ∷ p.1 ∷ []) ≡ read s old.element.0 (pos old.element.1 ∷ p.0 ∷ p.1 ∷ []) =
                read_zero two_args pair_of (λ z. refl) s 8 (pos j) p n ∙ sym (read_zero two_args pair_of (λ z. refl) s old.element.0 (pos old.element.1) p n) in
                let so : true ≡ false =
                sym (guard_is s p.0 p.1 ∙ equal_so (read s 8 (pos j ∷ p.0 ∷ p.1 ∷ [])) (read s old.element.0 (pos old.element.1 ∷ p.0 ∷ p.1 ∷ [])) same)
                ∙ subst (λ zs. is_true (at s zs) element_guard ≡ false) (two_of xs i.0) i.1 in
                cc

        same_pair : (xs ys : List ℤ) → length xs ≡ 2 → length ys ≡ 2 → map (value (at s xs)) (first ∷ second ∷ []) ≡ map (value (at s ys)) (first ∷ second ∷ []) → pair_of xs ≡ pair_of ys
        same_pair [] ys p q e = absurd (omega arith)
        same_pair (x ∷ []) ys p q e = absurd (omega arith)
        same_pair (x ∷ z ∷ u ∷ xs) ys p q e = absurd (omega arith)
        same_pair (x ∷ z ∷ []) [] p q e = absurd (omega arith)
        same_pair (x ∷ z ∷ []) (y ∷ []) p q e = absurd (omega arith)
        same_pair (x ∷ z ∷ []) (y ∷ v ∷ []) p q e = ap pair_of e
        same_pair (x ∷ z ∷ []) (y ∷ v ∷ w ∷ ys) p q e = absurd (omega arith)

    abbrev ElementsStay : FrameTree → State → Type 0
    ElementsStay frame y = (a i : ℤ) → core.is_true reading frame.elements (with_variable (with_variable y frame.object a) frame.index i) ≡ false → (let n = new y in n.element a i) ≡ (let h = y.heap in h.element a i)

    abbrev element_env : FrameTree → EnvTree
    element_env frame = env_with (env_with k.env frame.object first) frame.index second

    two_state : (s : Structure) (frame : FrameTree) (a i : ℤ) → st reading fields (at s (a ∷ i ∷ [])) (element_env frame) ≡ with_variable (with_variable (state reading fields s k) frame.object a) frame.index i
    two_state s frame a i =
        with_in fields (at s (a ∷ i ∷ [])) (env_with k.env frame.object first) frame.index second
        ∙ ap (λ y. with_variable y frame.index i) (with_in fields (at s (a ∷ i ∷ [])) k.env frame.object first)
        ∙ ap (λ y. with_variable (with_variable y frame.object a) frame.index i) (further_in fields k.next s k.env [] (a ∷ i ∷ []) (omega arith) b)

    element_scope_is : IsScope k.next element_scope
    element_scope_is =
        let hb = b.heap in
        let one : IsBelow k.next 2 first = (omega arith, inl (omega arith)) in
        let two : IsBelow k.next 2 second = (omega arith, inl (omega arith)) in
        record {
          short = omega arith;
          few = omega arith;
          code = (one, (two, tt));
          guard = ((source_known k.next (8, j) (omega arith, omega arith, inl ((λ q. omega arith), (λ q. omega arith))), tt, one, two), (source_known k.next old.element hb.element, tt, one, two));
        }

    pub elements_framed_made : (frame : FrameTree) → IsProperFrame frame → fields_of_frame frame ≤ fields → AreShort (let i = elements_framed frame k in i.facts)
        → Made reading fields k (elements_framed frame k) (ElementsStay frame) (λ s. ElementsStay frame (state reading fields s k))
    elements_framed_made frame fine few short =
        let g = frame.elements in
        let env = element_env frame in
        let m = claim_formula g true env element_scope k.next in
        let one : IsBelow k.next 2 first = (omega arith, inl (omega arith)) in
        let two : IsBelow k.next 2 second = (omega arith, inl (omega arith)) in
        let env_in = with_below fields k.next 2 (env_with k.env frame.object first) frame.index second
        (with_below fields k.next 2 k.env frame.object first (env_later fields k.next k.next 0 2 (omega arith) (omega arith) k.env b) one) two in
        let s = claimed_formula reading fields g true env element_scope k.next fine.1 (omega arith) element_scope_is env_in (short_back k.facts m.facts short) in
        record {
          more = m.facts;
          is = refl;
          rises = s.rises;
          below = s.below;
          known = env_later fields k.next m.next 0 0 s.rises (omega arith) k.env b;
          sound = λ t r met a i kept. stays t r a i (λ q. s.sound t r met (a ∷ i ∷ []) q) kept (int_eq (read t 8 (pos j ∷ a ∷ i ∷ [])) (read t old.element.0 (pos old.element.1 ∷ a ∷ i ∷ []))) refl;
          complete = λ t r w. s.complete t r (element_finite t) (λ xs i. subst (λ zs. core.is_true reading g (st reading fields (at t zs) env) ≡ true) (sym (two_of xs i.0))
              (let p = pair_of xs in may t r w p.0 p.1 (subst (λ zs. is_true (at t zs) element_guard ≡ false) (two_of xs i.0) i.1) (core.is_true reading g (st reading fields (at t (p.0 ∷ p.1 ∷ [])) env)) refl));
        }
      where
        stays : (t : Structure) → Shares reading t → (a i : ℤ) → (Inside t element_scope (a ∷ i ∷ []) → core.is_true reading frame.elements (st reading fields (at t (a ∷ i ∷ [])) (element_env frame)) ≡ true)
            → core.is_true reading frame.elements (with_variable (with_variable (state reading fields t k) frame.object a) frame.index i) ≡ false
            → (u : Bool) → int_eq (read t 8 (pos j ∷ a ∷ i ∷ [])) (read t old.element.0 (pos old.element.1 ∷ a ∷ i ∷ [])) ≡ u
            → (let n = new (state reading fields t k) in n.element a i) ≡ (let h = (let y = state reading fields t k in y.heap) in h.element a i)
        stays t r a i says kept true e = r 8 (pos j ∷ a ∷ i ∷ []) (inl (omega arith, omega arith)) ∙ so_equal (read t 8 (pos j ∷ a ∷ i ∷ [])) (read t old.element.0 (pos old.element.1 ∷ a ∷ i ∷ [])) e
        stays t r a i says kept false e =
            let so : true ≡ false = sym (says (refl, guard_is t a i ∙ e)) ∙ ap (core.is_true reading frame.elements) (two_state t frame a i) ∙ kept in
            cc

        may : (t : Structure) → Shares reading t → ElementsStay frame (state reading fields t k) → (a i : ℤ) → is_true (at t (a ∷ i ∷ [])) element_guard ≡ false
            → (u : Bool) → core.is_true reading frame.elements (st reading fields (at t (a ∷ i ∷ [])) (element_env frame)) ≡ u → u ≡ true
        may t r w a i guard true e = refl
        may t r w a i guard false e =
            let same = w a i (ap (core.is_true reading frame.elements) (sym (two_state t frame a i)) ∙ e) in
            let so : true ≡ false =
            sym (guard_is t a i ∙ equal_so (read t 8 (pos j ∷ a ∷ i ∷ [])) (read t old.element.0 (pos old.element.1 ∷ a ∷ i ∷ [])) (sym (r 8 (pos j ∷ a ∷ i ∷ []) (inl (omega arith, omega arith))) ∙ same)) ∙ guard in
            cc

  -- ---- all fields

  abbrev Kept : FrameTree → ℕ → State → Type 0
  Kept frame f y = (o : ℤ) → core.is_true reading (formula_at frame.fields f) (with_variable y frame.object o) ≡ false → (let n = chosen_heap reading fields (suc y.choice) in n.field f o) ≡ (let h = y.heap in h.field f o)

  pub fields_framed_made : (n f : ℕ) (frame : FrameTree) (k : Known) → IsKnown reading fields k → f + n ≤ fields → IsProperFrame frame → fields_of_frame frame ≤ fields → AreShort (let i = fields_framed n f frame k in i.facts)
      → Made reading fields k (fields_framed n f frame k) (λ y. (g : ℕ) → f ≤ g → g < f + n → Kept frame g y)
      (λ s. ((g : ℕ) → f ≤ g → g < f + n → Kept frame g (state reading fields s k)) × (state reading fields s (fields_framed n f frame k) ≡ state reading fields s k))
  fields_framed_made zero f frame k b le fine few short =
      made_freely reading fields k k (λ y. (g : ℕ) → f ≤ g → g < f + 0 → Kept frame g y)
      (λ s. ((g : ℕ) → f ≤ g → g < f + 0 → Kept frame g (state reading fields s k)) × (state reading fields s k ≡ state reading fields s k)) refl refl b (λ s r. ((λ g p q. absurd (omega arith)), refl))
  fields_framed_made (suc n) f frame k b le fine few short =
      let i = field_framed frame f k in
      let more = fields_framed_more n (suc f) frame i in
      let one = field_framed_made k b frame f (omega arith) fine few (short_front i.facts more.0 (subst AreShort more.1 short)) in
      let rest = fields_framed_made n (suc f) frame i one.known (omega arith) fine few short in
      let B : State → Type 0 = λ y. (g : ℕ) → f ≤ g → g < f + suc n → Kept frame g y in
      let B2 : State → Type 0 = λ y. (g : ℕ) → suc f ≤ g → g < suc f + n → Kept frame g y in
      let M1 : Structure → Type 0 = λ s. Kept frame f (state reading fields s k) in
      let M2 : Structure → Type 0 = λ s. ((g : ℕ) → suc f ≤ g → g < suc f + n → Kept frame g (state reading fields s k)) × (state reading fields s (fields_framed n (suc f) frame i) ≡ state reading fields s k) in
      made_so reading fields k (fields_framed n (suc f) frame i) B B (λ s. M1 s × M2 s) (λ s. B (state reading fields s k) × (state reading fields s (fields_framed n (suc f) frame i) ≡ state reading fields s k))
      (made_then reading fields k i (fields_framed n (suc f) frame i) (Kept frame f) B2 B M1 M2 b one rest (λ y w. w f (omega arith) (omega arith)) (λ s r m w g p q. w g (omega arith) (omega arith)))
      (λ y w. w) (λ s r m. ((λ g p q. by s g (nat_eq g f) refl m p q), (let m2 = m.1 in m2.1)))
    where
      by : (s : Structure) (g : ℕ) (u : Bool) → nat_eq g f ≡ u → Kept frame f (state reading fields s k) × (((g' : ℕ) → suc f ≤ g' → g' < suc f + n → Kept frame g' (state reading fields s k)) × (state reading fields s (fields_framed n (suc f) frame (field_framed frame f k)) ≡ state reading fields s k))
          → f ≤ g → g < f + suc n → Kept frame g (state reading fields s k)
      by s g true e m p q = let same : f ≡ g = grind (arith, nat_tests) in subst (λ h. Kept frame h (state reading fields s k)) same m.0
      by s g false e m p q = let m2 = m.1 in m2.0 g (grind (arith, nat_tests)) (omega arith)

  -- ---- all of it

  module _ (k : Known) (b : IsKnown reading fields k) where
    heap_beyond : (s : Structure) (f : ℕ) (o : ℤ) → fields ≤ f → (let n = chosen_heap reading fields (suc (let y = state reading fields s k in y.choice)) in n.field f o) ≡ (let h = (let y = state reading fields s k in y.heap) in h.field f o)
    heap_beyond s f o le =
        let e : nat_lt f fields ≡ false = grind (arith, nat_tests) in
        let j = (let v = k.env in suc v.choice) in
        let t = (let v = k.env in let h = v.heap in h.field f) in
        ap (λ u. if u then reading (64 + f) (pos j ∷ o ∷ []) else pos 0) e ∙ sym (ap (λ u. if u then read s t.0 (pos t.1 ∷ o ∷ []) else pos 0) e)

    abbrev Stays : FrameTree → State → Type 0
    Stays frame y = StaysInFrame reading frame y (chosen_heap reading fields (suc y.choice))

    pub havoc_moves : (x : ℕ) (frame : FrameTree) → IsProperFrame frame → fields_of_frame frame ≤ fields → AreShort (let i = havocked fields x frame k in i.facts)
        → Moves reading fields k (havocked fields x frame k) (Stays frame) (next_choice reading fields x)
    havoc_moves x frame fine few short =
        let k1 = marks_framed k in
        let k2 = fields_framed fields 0 frame k1 in
        let k3 = elements_framed frame k2 in
        let k4 = chosen_next x k3 in
        let one = marks_made k b in
        let short2 = short_front k2.facts _ short in
        let two = fields_framed_made fields 0 frame k1 one.known (omega arith) fine few short2 in
        let three = elements_framed_made k2 two.known frame fine few short in
        let four = chosen_made x k3 three.known in
        let Y : Structure → State = λ s. state reading fields s k in
        let B1 : State → Type 0 = λ y. let h = y.heap in (o : ℤ) → pos 1 ≤ℤ o → o <ℤ h.top → (let n = chosen_heap reading fields (suc y.choice) in n.built o) ≡ h.built o in
        let B2 : State → Type 0 = λ y. (g : ℕ) → 0 ≤ g → g < 0 + fields → Kept frame g y in
        let B3 : State → Type 0 = λ y. (a i : ℤ) → core.is_true reading frame.elements (with_variable (with_variable y frame.object a) frame.index i) ≡ false → (let n = chosen_heap reading fields (suc y.choice) in n.element a i) ≡ (let h = y.heap in h.element a i) in
        let M2 : Structure → Type 0 = λ s. B2 (Y s) × (state reading fields s k2 ≡ Y s) in
        let M3 : Structure → Type 0 = λ s. B3 (state reading fields s k2) in
        let M4 : Structure → Type 0 = λ s. state reading fields s k4 ≡ next_choice reading fields x (state reading fields s k3) in
        let A = made_then reading fields k k1 k2 B1 B2 (Stays frame) (λ s. B1 (Y s)) M2 b one two (λ y w. w.marks) (λ s r m w g p q o e. w.fields g o e) in
        let C = made_then reading fields k k2 k3 (Stays frame) B3 (Stays frame) (λ s. B1 (Y s) × M2 s) M3 b A three (λ y w. w) (λ s r m w. let m2 = m.1 in subst B3 (sym m2.1) (λ a i e. w.elements a i e)) in
        let D = made_then reading fields k k3 k4 (Stays frame) (Always reading fields) (Stays frame) (λ s. (B1 (Y s) × M2 s) × M3 s) M4 b C four (λ y w. w) (λ s r m w. tt) in
        made_so reading fields k k4 (Stays frame) (Stays frame) (λ s. ((B1 (Y s) × M2 s) × M3 s) × M4 s) (λ s. Stays frame (Y s) × (state reading fields s k4 ≡ next_choice reading fields x (Y s))) D (λ y w. w)
        (λ s r m.
        let m2 = m.0.0.1 in
        let e3 = subst B3 m2.1 m.0.1 in
        (record { marks = m.0.0.0; fields = λ f o e. in_or_beyond s frame m2.0 f o e (nat_lt f fields) refl; elements = e3 }, m.1 ∙ ap (next_choice reading fields x) m2.1))
      where
        in_or_beyond : (s : Structure) (frame' : FrameTree) → ((g : ℕ) → 0 ≤ g → g < 0 + fields → Kept frame' g (state reading fields s k)) → (f : ℕ) (o : ℤ) → core.is_true reading (formula_at frame'.fields f) (with_variable (state reading fields s k) frame'.object o) ≡ false
            → (u : Bool) → nat_lt f fields ≡ u → (let n = chosen_heap reading fields (suc (let y = state reading fields s k in y.choice)) in n.field f o) ≡ (let h = (let y = state reading fields s k in y.heap) in h.field f o)
        in_or_beyond s frame' h f o e true t = h f (omega arith) (grind (arith, nat_tests)) o e
        in_or_beyond s frame' h f o e false t = heap_beyond s f o (grind (arith, nat_tests))
