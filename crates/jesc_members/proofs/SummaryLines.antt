-- How the classes get what is known above them, in order.
use Rattle.std.proofs.Common.{◌≡◌, ◌↔◌, inl, inr, ℕ, zero, suc, ◌+◌, ◌<◌, ◌≤◌, List, [], ◌∷◌, ◌++◌, length, get_or, set, take, drop, Option, None, Some, refl, ap, sym, ◌∙◌, subst, arith, true≢false, replicate}
use Rattle.std.specs.List.{Contains}
use Rattle.std.proofs.lemmas.List.{get_or-set_same, get_or-set_other, length-set, take_more, take_all, get_or_past, length-replicate}
use Rattle.std.proofs.lemmas.List.Elements.{All-append, Contains-push_cases, Contains-append_left, Contains-append_right, Contains-append_cases}
use Rattle.jesc_classes.specs.Order.{Graph, supers}
use Rattle.jesc_classes.specs.laws.Orders.{same, here, nothing}
use Rattle.jesc_members.specs.declared.summary.Summary.{Summary}
use Rattle.jesc_members.specs.declared.summary_layers.Above.{Above}
use Rattle.jesc_lookup.specs.Layers.{AreItems}
use Rattle.jesc_lookup.specs.Lines.{IsLine, AreExtras}
use Rattle.jesc_lookup.specs.Maps.{Map, at}
use Rattle.jesc_members.specs.Methods.{MethodOf}
use Rattle.jesc_lookup.specs.Numbering.{IsArranged}
use Rattle.jesc_members.specs.Summaries.{IsSummaryOf}
use Rattle.jesc_members.specs.SummaryLayers.{AreSummaries, IsAbove, above_at, has_differing, has_hidden, nothing_above, summary_at, summary_of}
use Rattle.jesc_members.specs.SummaryKnown.{Adds, AddsClass, Grows, IsHeld, IsKnown, IsStore, first_above, items_of, keyed}
use Rattle.jesc_lookup.specs.laws.Lines.{line_there, one_line}
use Rattle.jesc_lookup.specs.laws.Layers.{IsExtraOf, as_of, earlier, super_within}
use Rattle.jesc_members.proofs.SummarySteps.{adds_both, adds_kept, held_after, held_kept, in_items, in_keyed, items_append, items_small, keyed_in, known_kept, of_items, row_small}

abbrev pub AreSame : List ℕ → List ℕ → Type 0
AreSame xs ys = (i : ℕ) → Contains xs i ↔ Contains ys i

-- it is what is known of the items of these classes, in some order
abbrev pub IsMeant : List MethodOf → List ℕ → List (List ℕ) → List Map → List Summary → List ℕ → Above → Type 0
IsMeant methods keys rows versions summaries line a = (items : List ℕ) × AreSame items (items_of rows line) × IsKnown methods keys versions summaries items a

-- each of these classes has what is known above it, and with it
pub record AreDone (Done : ℕ → Type 0) (graph : Graph) (methods : List MethodOf) (keys : List ℕ) (rows : List (List ℕ)) (versions : List Map) (summaries : List Summary) (above whole : List Above) : Type 0 where
  pub store : IsStore (length keys) versions summaries
  pub above_count : length above ≡ length graph
  pub whole_count : length whole ≡ length graph
  pub empty : IsKnown methods keys versions summaries [] nothing_above
  pub held : (class : ℕ) → IsHeld methods keys versions summaries (above_at whole class)
  pub there : (class : ℕ) → (above_at above class).version < length versions
  pub over : (class : ℕ) → class < length graph → Done class → (line : List ℕ) → IsLine graph class (class ∷ line) → IsMeant methods keys rows versions summaries line (above_at above class)
  pub own : (class : ℕ) → class < length graph → Done class → (line : List ℕ) → IsLine graph class line → IsMeant methods keys rows versions summaries line (above_at whole class)

-- ---- one class

pub first_held : (methods : List MethodOf) (keys : List ℕ) (versions : List Map) (summaries : List Summary) (whole : List Above) (ss : List ℕ) → ((c : ℕ) → IsHeld methods keys versions summaries (above_at whole c))
    → IsHeld methods keys versions summaries (first_above ss whole)
first_held methods keys versions summaries whole [] h = subst (λ a. IsHeld methods keys versions summaries a) (get_or_past whole (length whole) nothing_above (omega arith)) (h (length whole))
first_held methods keys versions summaries whole (s ∷ ss) h = h s

pub class_added : (methods : List MethodOf) (keys : List ℕ) (rows : List (List ℕ)) (extra : List ℕ) (class : ℕ) (first : Above) (ov : List Map) (os : List Summary) (above whole : List Above)
    (mv : List Map) (ms : List Summary) (a : Above) (nv : List Map) (ns : List Summary) (own : Above) (f : Above) (e r : List ℕ) → f ≡ first → e ≡ extra → r ≡ get_or rows class []
    → Adds methods keys ov os f mv ms a (items_of rows e) → Adds methods keys mv ms a nv ns own r
    → AddsClass methods keys rows extra class first ov os above whole nv ns (set above class a) (set whole class own)
class_added methods keys rows extra class first ov os above whole mv ms a nv ns own f e r is_first is_extra is_row s t = record {
  over = a;
  own = own;
  above_set = refl;
  whole_set = refl;
  to_above = adds_kept methods keys ov os first mv ms a nv ns (items_of rows extra) to_mid t.grows;
  to_own = adds_both methods keys ov os first mv ms a nv ns own (items_of rows extra) (get_or rows class []) to_mid (subst (λ xs. Adds methods keys mv ms a nv ns own xs) is_row t);
}
  where
    to_mid : Adds methods keys ov os first mv ms a (items_of rows extra)
    to_mid = subst (λ x. Adds methods keys ov os x mv ms a (items_of rows extra)) is_first (subst (λ xs. Adds methods keys ov os f mv ms a (items_of rows xs)) is_extra s)

-- ---- all classes

both_items : (xs ys zs ws : List ℕ) → AreSame (xs ++ ys) zs → AreSame (xs ++ (ys ++ ws)) (ws ++ zs)
both_items xs ys zs ws h i = (
  λ c. elim (Contains-append_cases xs (ys ++ ws) i c) [
    | inl m ↦ Contains-append_right ws zs i ((h i).0 (Contains-append_left xs ys i m))
    | inr m ↦ elim (Contains-append_cases ys ws i m) [
      | inl k ↦ Contains-append_right ws zs i ((h i).0 (Contains-append_right xs ys i k))
      | inr k ↦ Contains-append_left ws zs i k
    ]
  ],
  λ c. elim (Contains-append_cases ws zs i c) [
    | inl m ↦ Contains-append_right xs (ys ++ ws) i (Contains-append_right ys ws i m)
    | inr m ↦ elim (Contains-append_cases xs ys i ((h i).1 m)) [
      | inl k ↦ Contains-append_left xs (ys ++ ws) i k
      | inr k ↦ Contains-append_right xs (ys ++ ws) i (Contains-append_left ys ws i k)
    ]
  ],
)

more_same : (xs ys ws : List ℕ) → AreSame xs ys → AreSame (xs ++ ws) (ys ++ ws)
more_same xs ys ws h i = (
  λ c. elim (Contains-append_cases xs ws i c) [ inl m ↦ Contains-append_left ys ws i ((h i).0 m) | inr m ↦ Contains-append_right ys ws i m ],
  λ c. elim (Contains-append_cases ys ws i c) [ inl m ↦ Contains-append_left xs ws i ((h i).1 m) | inr m ↦ Contains-append_right xs ws i m ],
)

module _ (methods : List MethodOf) (keys : List ℕ) (rows : List (List ℕ)) where
  pub meant_above : (versions : List Map) (summaries : List Summary) (line : List ℕ) (a : Above) → IsMeant methods keys rows versions summaries line a → IsAbove methods keys rows versions summaries line a
  meant_above versions summaries line a m = record {
    there = m.2.there;
    each = λ key. (
      keyed keys key m.0,
      λ i. (
        λ c. let p = keyed_in keys key i m.0 c in let q = of_items rows line i ((m.1 i).0 p.0) in (q.0, q.1, q.2, p.1),
        λ r. in_keyed keys key i m.0 ((m.1 i).1 (in_items rows line r.0 i r.1 r.2)) r.3,
      ),
      m.2.each key,
    );
    differs = m.2.differs;
    hides = m.2.hides;
  }

  meant_kept : (ov : List Map) (os : List Summary) (nv : List Map) (ns : List Summary) (line : List ℕ) (a : Above) → Grows (length keys) ov os nv ns → IsStore (length keys) ov os
      → IsMeant methods keys rows ov os line a → IsMeant methods keys rows nv ns line a
  meant_kept ov os nv ns line a g store m = (m.0, m.1, known_kept methods keys ov os nv ns m.0 a g store m.2)

  module _ (graph : Graph) (order : List ℕ) (arranged : IsArranged graph order) (versions : List Map) (summaries : List Summary) (above whole : List Above) where
    -- what is known of the first supertype and of what is behind its line
    abbrev IsBase : ℕ → List ℕ → List ℕ → Type 0
    IsBase class extra ss = (tail : List ℕ) × IsLine graph class (class ∷ tail) × (items : List ℕ) × AreSame (items ++ items_of rows extra) (items_of rows tail) × IsKnown methods keys versions summaries items (first_above ss whole)

    base_of : (class : ℕ) (extra ss : List ℕ) → IsKnown methods keys versions summaries [] nothing_above
        → ((s : ℕ) → Contains ss s → (s < length graph) × ((line : List ℕ) → IsLine graph s line → IsMeant methods keys rows versions summaries line (above_at whole s)))
        → IsExtraOf graph class extra ss → IsBase class extra ss
    base_of class extra [] empty all h = ([], h.1, [], λ i. (λ c. subst (λ xs. Contains (items_of rows xs) i) h.0 c, λ c. absurd (nothing i c)), empty)
    base_of class extra (s ∷ ss) empty all h =
        let a = all s (here s ss) in
        let base = line_there graph order arranged s a.0 in
        let m = a.1 base.0 base.1 in (
          base.0 ++ extra,
          h base.0 base.1,
          m.0,
          subst (λ xs. AreSame (m.0 ++ items_of rows extra) xs) (sym (items_append rows base.0 extra)) (more_same m.0 (items_of rows base.0) (items_of rows extra) m.1),
          m.2,
        )

    module _ (extras : List (List ℕ)) (are : AreExtras graph extras) (i : ℕ) (l : i < length order) (nv : List Map) (ns : List Summary) (new_above new_whole : List Above)
        (old : AreDone (Contains (take i order)) graph methods keys rows versions summaries above whole)
        (adds : AddsClass methods keys rows (get_or extras (get_or order i 0) []) (get_or order i 0) (first_above (supers graph (get_or order i 0)) whole) versions summaries above whole nv ns new_above new_whole)
        (items : AreItems (length graph) keys rows) where
      grows : Grows (length keys) versions summaries nv ns
      grows = adds.to_above.grows

      base : IsBase (get_or order i 0) (get_or extras (get_or order i 0) []) (supers graph (get_or order i 0))
      base =
          base_of (get_or order i 0) (get_or extras (get_or order i 0) []) (supers graph (get_or order i 0)) old.empty
          (λ s c. (super_within graph order arranged (get_or order i 0) s c, old.own s (super_within graph order arranged (get_or order i 0) s c) (earlier graph order arranged i s l c)))
          (as_of graph (get_or order i 0) (get_or extras (get_or order i 0) []) (are.each (get_or order i 0) (arranged.below i l)))

      over_here : (line : List ℕ) → IsLine graph (get_or order i 0) (get_or order i 0 ∷ line) → IsMeant methods keys rows nv ns line adds.over
      over_here line is =
          let extra = items_of rows (get_or extras (get_or order i 0) []) in
          let e = ap (drop 1) (one_line graph (get_or order i 0) (get_or order i 0 ∷ base.0) (get_or order i 0 ∷ line) base.1 is) in
          (base.2 ++ extra, subst (λ xs. AreSame (base.2 ++ extra) (items_of rows xs)) e base.3, adds.to_above.known base.2 base.4)

      own_here : (line : List ℕ) → IsLine graph (get_or order i 0) line → IsMeant methods keys rows nv ns line adds.own
      own_here line is =
          let extra = items_of rows (get_or extras (get_or order i 0) []) in
          let row = get_or rows (get_or order i 0) [] in
          let e = one_line graph (get_or order i 0) (get_or order i 0 ∷ base.0) line base.1 is in
          (base.2 ++ (extra ++ row), subst (λ xs. AreSame (base.2 ++ (extra ++ row)) (items_of rows xs)) e (both_items base.2 extra (items_of rows base.0) row base.3), adds.to_own.known base.2 base.4)

      over_set : (c : ℕ) → c ≡ get_or order i 0 → above_at new_above c ≡ adds.over
      over_set c e = ap (λ x. above_at new_above x) e ∙ ap (λ xs. above_at xs (get_or order i 0)) adds.above_set ∙ get_or-set_same above (get_or order i 0) adds.over nothing_above (omega (arith, old.above_count, arranged.below i l))

      over_other : (c : ℕ) → (c ≡ get_or order i 0 → ⊥) → above_at new_above c ≡ above_at above c
      over_other c n = ap (λ xs. above_at xs c) adds.above_set ∙ get_or-set_other above (get_or order i 0) c adds.over nothing_above n

      own_set : (c : ℕ) → c ≡ get_or order i 0 → above_at new_whole c ≡ adds.own
      own_set c e = ap (λ x. above_at new_whole x) e ∙ ap (λ xs. above_at xs (get_or order i 0)) adds.whole_set ∙ get_or-set_same whole (get_or order i 0) adds.own nothing_above (omega (arith, old.whole_count, arranged.below i l))

      own_other : (c : ℕ) → (c ≡ get_or order i 0 → ⊥) → above_at new_whole c ≡ above_at whole c
      own_other c n = ap (λ xs. above_at xs c) adds.whole_set ∙ get_or-set_other whole (get_or order i 0) c adds.own nothing_above n

      -- another class was done before
      before : (c : ℕ) → Contains (take (i + 1) order) c → (c ≡ get_or order i 0 → ⊥) → Contains (take i order) c
      before c done n = elim (Contains-push_cases (take i order) (get_or order i 0) c (subst (λ xs. Contains xs c) (take_more order i 0 l) done)) [ inl d ↦ d | inr e ↦ absurd (n (sym e)) ]

      own_held : IsHeld methods keys nv ns adds.own
      own_held =
          held_after methods keys versions summaries (first_above (supers graph (get_or order i 0)) whole) nv ns adds.own (items_of rows (get_or extras (get_or order i 0) []) ++ get_or rows (get_or order i 0) []) adds.to_own
          (All-append (λ x. x < length keys) (items_of rows (get_or extras (get_or order i 0) [])) (get_or rows (get_or order i 0) []) (items_small (length graph) keys rows items (get_or extras (get_or order i 0) [])) (row_small (length graph) keys rows items (get_or order i 0)))
          (first_held methods keys versions summaries whole (supers graph (get_or order i 0)) old.held)

      over_there : adds.over.version < length nv
      over_there = (adds.to_above.known base.2 base.4).there

      pub class_done : AreDone (Contains (take (i + 1) order)) graph methods keys rows nv ns new_above new_whole
      class_done = record {
        store = grows.store;
        above_count = ap length adds.above_set ∙ length-set above (get_or order i 0) adds.over ∙ old.above_count;
        whole_count = ap length adds.whole_set ∙ length-set whole (get_or order i 0) adds.own ∙ old.whole_count;
        empty = known_kept methods keys versions summaries nv ns [] nothing_above grows old.store old.empty;
        held = λ c. elim (same c (get_or order i 0)) [
          | inl e ↦ subst (λ a. IsHeld methods keys nv ns a) (sym (own_set c e)) own_held
          | inr n ↦ subst (λ a. IsHeld methods keys nv ns a) (sym (own_other c n)) (held_kept methods keys versions summaries nv ns (above_at whole c) grows old.store (old.held c))
        ];
        there = λ c. elim (same c (get_or order i 0)) [
          | inl e ↦ subst (λ a. a.version < length nv) (sym (over_set c e)) over_there
          | inr n ↦ subst (λ a. a.version < length nv) (sym (over_other c n)) (omega (arith, old.there c, grows.more))
        ];
        over = λ c inside done line is. elim (same c (get_or order i 0)) [
          | inl e ↦ subst (λ a. IsMeant methods keys rows nv ns line a) (sym (over_set c e)) (over_here line (subst (λ x. IsLine graph x (x ∷ line)) e is))
          | inr n ↦ subst (λ a. IsMeant methods keys rows nv ns line a) (sym (over_other c n)) (meant_kept versions summaries nv ns line (above_at above c) grows old.store (old.over c inside (before c done n) line is))
        ];
        own = λ c inside done line is. elim (same c (get_or order i 0)) [
          | inl e ↦ subst (λ a. IsMeant methods keys rows nv ns line a) (sym (own_set c e)) (own_here line (subst (λ x. IsLine graph x line) e is))
          | inr n ↦ subst (λ a. IsMeant methods keys rows nv ns line a) (sym (own_other c n)) (meant_kept versions summaries nv ns line (above_at whole c) grows old.store (old.own c inside (before c done n) line is))
        ];
      }

    pub all_done : (i : ℕ) → length order ≤ i → AreDone (Contains (take i order)) graph methods keys rows versions summaries above whole → AreSummaries graph methods keys rows versions summaries above
    all_done i end d = record {
      count = d.above_count;
      there = λ c inside. d.there c;
      each = λ c inside line is. meant_above versions summaries line (above_at above c) (d.over c inside (subst (λ xs. Contains xs c) (sym (take_all i order end)) (arranged.whole c inside)) line is);
    }

    -- nothing is done yet
    pub none_done : (n : ℕ) → length keys ≤ n → versions ≡ replicate n None ∷ [] → above ≡ replicate (length graph) nothing_above → whole ≡ replicate (length graph) nothing_above
        → AreDone (Contains (take 0 order)) graph methods keys rows versions summaries above whole
    none_done n wide one is_above is_whole = record {
      store = record {
        sized = λ k d l. subst (λ vs. length keys ≤ length (get_or vs k d)) (sym one) (sized k d (omega (arith, l, ap length one)));
        inside = λ v key place l e. absurd (none_place place (sym (nothing_at v key (omega (arith, l, ap length one))) ∙ e));
      };
      above_count = ap length is_above ∙ length-replicate (length graph) nothing_above;
      whole_count = ap length is_whole ∙ length-replicate (length graph) nothing_above;
      empty = empty;
      held = λ c. subst (λ a. IsHeld methods keys versions summaries a) (sym (ap (λ xs. above_at xs c) is_whole ∙ nothing_in (length graph) c)) (record { items = []; small = λ k d l. absurd (omega (arith, l)); known = empty });
      there = λ c. subst (λ a. a.version < length versions) (sym (ap (λ xs. above_at xs c) is_above ∙ nothing_in (length graph) c)) empty.there;
      over = λ c inside done line is. absurd (nothing c done);
      own = λ c inside done line is. absurd (nothing c done);
    }
      where
        sized : (k : ℕ) (d : Map) → k < 1 → length keys ≤ length (get_or (replicate n None ∷ []) k d)
        sized zero d l = omega (arith, wide, length-replicate {A = Option ℕ} n None)
        sized (suc k) d l = absurd (omega (arith, l))

        none_in : (m key : ℕ) → at (replicate m None) key ≡ None
        none_in zero key = refl
        none_in (suc m) zero = refl
        none_in (suc m) (suc key) = none_in m key

        nothing_in : (m c : ℕ) → above_at (replicate m nothing_above) c ≡ nothing_above
        nothing_in zero c = refl
        nothing_in (suc m) zero = refl
        nothing_in (suc m) (suc c) = nothing_in m c

        nothing_at : (v key : ℕ) → v < 1 → at (get_or versions v []) key ≡ None
        nothing_at zero key l = ap (λ vs. at (get_or vs 0 []) key) one ∙ none_in n key
        nothing_at (suc v) key l = absurd (omega (arith, l))

        none_place : (p : ℕ) → None ≡ Some p → ⊥
        none_place p e = cc

        unknown : (key : ℕ) → summary_at versions summaries nothing_above key ≡ None
        unknown key = ap (summary_of summaries) (nothing_at 0 key (omega arith))

        empty : IsKnown methods keys versions summaries [] nothing_above
        empty = record {
          there = omega (arith, ap length one);
          each = λ key. subst (IsSummaryOf methods []) (sym (unknown key)) refl;
          differs = (λ e. absurd (true≢false (sym e)), λ p. absurd (subst has_differing (unknown p.0) p.1));
          hides = (λ e. absurd (true≢false (sym e)), λ p. absurd (subst has_hidden (unknown p.0) p.1));
        }
