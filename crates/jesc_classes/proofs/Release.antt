-- What stands after a class was entered among the ready ones or in a row, or got its id.
use Rattle.std.proofs.Common.{◌≡◌, ◌↔◌, ℕ, zero, suc, ◌+◌, ◌<◌, ◌≤◌, Bool, true, false, List, [], ◌∷◌, ◌++◌, map, set, drop, length, get_or, ◌⊎◌, inl, inr, refl, ap, sym, ◌∙◌, subst, arith, ltb-true, ltb-false, nat_lt, true≢false}
use Rattle.std.proofs.lemmas.List.{drop_all, drop_more, get_or-set_same, get_or-set_other}
use Rattle.std.proofs.lemmas.List.Elements.{All-weaker, All-contains, Contains-get_or, Contains-push, Contains-push_cases, Contains-append_left}
use Rattle.std.proofs.lemmas.Option.{get_or_from_slice_get, slice_get_read}
use Rattle.std.specs.List.{All, AllWithin, Contains}
use Rattle.jesc_classes.specs.declared.order.Progress.{Progress}
use Rattle.jesc_classes.specs.declared.order.Waiting.{Waiting}
use Rattle.jesc_classes.specs.Order.{Graph, supers, IsReady, IsWithin}
use Rattle.jesc_classes.specs.Progress.{AllMarked, IsFirstUnmarked, IsMarked, IsOpen, IsSized, Keeps, Settles, Stands}
use Rattle.jesc_classes.specs.laws.Orders.{same, any_default, first_or_later, later, nothing}

pub below_or_from : (k n : ℕ) → (k < n) ⊎ (n ≤ k)
below_or_from k n = by (nat_lt k n) refl
  where
    by : (b : Bool) → nat_lt k n ≡ b → (k < n) ⊎ (n ≤ k)
    by true e = inl (ltb-true k n e)
    by false e = inr (ltb-false k n e)

pub row_of : (graph : Graph) (class : ℕ) (row : List ℕ) → class < length graph → row ≡ get_or graph class row → row ≡ supers graph class
row_of graph class row l e = sym (get_or_from_slice_get graph class row [] (slice_get_read graph (length graph) class row refl l e))

-- the test of marks over the tables that the code has
pub of_tables : (marks ms : List Bool) (xs ys : List ℕ) (start end : ℕ) → ms ≡ marks → xs ≡ ys → AllMarked ms xs start end → AllMarked marks ys start end
of_tables marks ms xs ys start end e f a = subst (λ y. AllMarked marks y start end) f (subst (λ m. AllMarked m xs start end) e a)

-- ---- a class becomes ready

module _ (graph : Graph) (within : IsWithin graph) (done : List ℕ) (marks : List Bool) (w : Waiting) (is_open : IsOpen graph done w) where
  -- those before a place have ids, where those from the open place on are marked
  all_before : (place : ℕ) → place ≤ length (supers graph w.class) → AllMarked marks (supers graph w.class) w.place place
      → ((class : ℕ) → class < length graph → IsMarked marks class ↔ Contains done class) → AllWithin (Contains done) (supers graph w.class) 0 place
  all_before place few marked means k d low high = elim (below_or_from k w.place) [
    | inl l ↦ is_open.before k d low l
    | inr l ↦ (means (get_or (supers graph w.class) k d) (within w.class [] is_open.given k d (omega (arith, high, few)))).0 (marked k d l high)
  ]

  pub entered : (ready more : List ℕ) (rows : List (List Waiting)) (pending : List ℕ) → AllMarked marks (supers graph w.class) w.place (length (supers graph w.class))
      → ((q : ℕ) → Contains more q ↔ (Contains ready q ⊎ (q ≡ w.class))) → Stands graph done marks ready rows (w.class ∷ pending) → Stands graph done marks more rows pending
  entered ready more rows pending marked adds s = record {
    marks_say = s.marks_say;
    ready_say = λ class c. elim ((adds class).0 c) [ inl o ↦ s.ready_say class o | inr e ↦ subst (λ x. IsReady graph done x) (sym e) is_ready ];
    rows_say = s.rows_say;
    each = λ class l n. elim (s.each class l n) [
      | inl r ↦ inl ((adds class).1 (inl r))
      | inr o ↦ elim o [
        | inl v ↦ inr (inl v)
        | inr c ↦ elim (first_or_later w.class pending class c) [ inl e ↦ inl ((adds class).1 (inr (sym e))) | inr k ↦ inr (inr k) ]
      ]
    ];
  }
    where
      all : AllWithin (Contains done) (supers graph w.class) 0 (length (supers graph w.class))
      all = all_before (length (supers graph w.class)) (omega arith) marked s.marks_say

      is_ready : IsReady graph done w.class
      is_ready = record { given = is_open.given; waits = is_open.waits; above = λ k d l. all k d (omega arith) l }

-- ---- a class waits

module _ (rows : List (List Waiting)) (above : ℕ) (inside : above < length rows) (more : Waiting) where
  abbrev longer : List (List Waiting)
  longer = set rows above (get_or rows above [] ++ more ∷ [])

  at_row : (a : ℕ) → a ≡ above → get_or longer a [] ≡ get_or rows a [] ++ more ∷ []
  at_row a e = subst (λ x. get_or longer x [] ≡ get_or rows x [] ++ more ∷ []) (sym e) (get_or-set_same rows above (get_or rows above [] ++ more ∷ []) [] inside)

  row_cases : (a : ℕ) (v : Waiting) → Contains (get_or longer a []) v → Contains (get_or rows a []) v ⊎ ((a ≡ above) × (more ≡ v))
  row_cases a v c = elim (same a above) [
    | inl e ↦ elim (Contains-push_cases (get_or rows a []) more v (subst (λ row. Contains row v) (at_row a e) c)) [ inl o ↦ inl o | inr f ↦ inr (e, f) ]
    | inr n ↦ inl (subst (λ row. Contains row v) (get_or-set_other rows above a (get_or rows above [] ++ more ∷ []) [] n) c)
  ]

  row_kept : (a : ℕ) (v : Waiting) → Contains (get_or rows a []) v → Contains (get_or longer a []) v
  row_kept a v c = elim (same a above) [
    | inl e ↦ subst (λ row. Contains row v) (sym (at_row a e)) (Contains-append_left (get_or rows a []) (more ∷ []) v c)
    | inr n ↦ subst (λ row. Contains row v) (sym (get_or-set_other rows above a (get_or rows above [] ++ more ∷ []) [] n)) c
  ]

  row_more : Contains (get_or longer above []) more
  row_more = subst (λ row. Contains row more) (sym (at_row above refl)) (Contains-push (get_or rows above []) more)

module _ (graph : Graph) (within : IsWithin graph) (done : List ℕ) (marks : List Bool) (w : Waiting) (is_open : IsOpen graph done w) where
  pub queued : (ready : List ℕ) (rows : List (List Waiting)) (more : Waiting) (pending : List ℕ) (above : ℕ) → above < length rows → more.class ≡ w.class → more.place < length (supers graph w.class)
      → above ≡ get_or (supers graph w.class) more.place above → get_or marks above false ≡ false → AllMarked marks (supers graph w.class) w.place more.place
      → Stands graph done marks ready rows (w.class ∷ pending) → Stands graph done marks ready (set rows above (get_or rows above [] ++ more ∷ [])) pending
  queued ready rows more pending above inside same_class few is not_marked marked s = record {
    marks_say = s.marks_say;
    ready_say = s.ready_say;
    rows_say = λ a n v c. elim (row_cases rows above inside more a v c) [
      | inl o ↦ s.rows_say a n v o
      | inr e ↦ subst (λ x. IsOpen graph done x × Contains (supers graph x.class) a) e.1 (more_open, subst (λ x. Contains (supers graph more.class) x) (sym e.0) named)
    ];
    each = λ class l n. elim (s.each class l n) [
      | inl r ↦ inl r
      | inr o ↦ elim o [
        | inl v ↦ inr (inl (v.0, v.1, v.2, row_kept rows above inside more v.0 v.2 v.3, v.4))
        | inr c ↦ elim (first_or_later w.class pending class c) [
          | inl e ↦ inr (inl (above, missing, more, row_more rows above inside more, same_class ∙ e))
          | inr k ↦ inr (inr k)
        ]
      ]
    ];
  }
    where
      here : Contains (supers graph w.class) above
      here = (more.place, few, sym is)

      named : Contains (supers graph more.class) above
      named = subst (λ x. Contains (supers graph x) above) (sym same_class) here

      is_class : above < length graph
      is_class = All-contains (λ x. x < length graph) (supers graph w.class) above (within w.class [] is_open.given) here

      missing : Contains done above → ⊥
      missing c = true≢false (sym ((s.marks_say above is_class).1 c) ∙ not_marked)

      more_open : IsOpen graph done more
      more_open = record {
        given = subst (λ x. x < length graph) (sym same_class) is_open.given;
        waits = subst (λ x. Contains done x → ⊥) (sym same_class) is_open.waits;
        before = subst (λ x. AllWithin (Contains done) (supers graph x) 0 more.place) (sym same_class) (all_before graph within done marks w is_open more.place (omega (arith, few)) marked s.marks_say);
      }

  -- over the tables that the code has
  pub queued_at : (ready : List ℕ) (rows : List (List Waiting)) (more : Waiting) (pending xs : List ℕ) (ms : List Bool) (old_row new_row : List Waiting) → length rows ≡ length graph
      → more.class ≡ w.class → ms ≡ marks → xs ≡ supers graph w.class
      → IsFirstUnmarked ms xs w.place more.place
      → old_row ≡ get_or rows (get_or xs more.place 0) old_row → new_row ≡ old_row ++ more ∷ []
      → Stands graph done marks ready rows (w.class ∷ pending) → Stands graph done marks ready (set rows (get_or xs more.place 0) new_row) pending
  queued_at ready rows more pending xs ms old_row new_row sized same_class is_marks is_supers found was becomes s =
      subst (λ row. Stands graph done marks ready (set rows above row) pending) (sym (becomes ∙ ap (λ row. row ++ more ∷ []) (sym known)))
      (queued ready rows more pending above inside same_class few is (subst (λ m. get_or m above false ≡ false) is_marks found.1)
      (of_tables marks ms xs (supers graph w.class) w.place more.place is_marks is_supers found.2) s)
    where
      above : ℕ
      above = get_or xs more.place 0

      few : more.place < length (supers graph w.class)
      few = subst (λ ys. more.place < length ys) is_supers found.0

      is : above ≡ get_or (supers graph w.class) more.place above
      is = any_default xs more.place 0 above found.0 ∙ ap (λ ys. get_or ys more.place above) is_supers

      inside : above < length rows
      inside = let l = All-contains (λ x. x < length graph) (supers graph w.class) above (within w.class [] is_open.given) (more.place, few, sym is) in omega (arith, l, sized)

      known : get_or rows above [] ≡ old_row
      known = get_or_from_slice_get rows above old_row [] (slice_get_read rows (length rows) above old_row refl inside was)

-- ---- a class gets its id

in_map : (ws : List Waiting) (v : Waiting) (q : ℕ) → Contains ws v → v.class ≡ q → Contains (map (λ w. w.class) ws) q
in_map [] v q c e = absurd (omega (arith, c.1))
in_map (x ∷ ws) v q (zero, l, f) e = (0, omega arith, ap (λ w. w.class) f ∙ e)
in_map (x ∷ ws) v q (suc k, l, f) e = later x.class (map (λ w. w.class) ws) q (in_map ws v q (k, omega (arith, l), f) e)

module _ (graph : Graph) (done : List ℕ) (marks : List Bool) (ready : List ℕ) (rows : List (List Waiting)) (class : ℕ) (is_ready : IsReady graph done class)
    (s : Stands graph done marks ready rows (class ∷ [])) where
  grown : (q : ℕ) → Contains done q → Contains (done ++ class ∷ []) q
  grown q c = Contains-append_left done (class ∷ []) q c

  -- a class that waits for one without an id is another one
  still_open : (above : ℕ) → (Contains done above → ⊥) → (v : Waiting) → IsOpen graph done v → Contains (supers graph v.class) above → IsOpen graph (done ++ class ∷ []) v
  still_open above missing v o named = record {
    given = o.given;
    waits = λ c. elim (Contains-push_cases done class v.class c) [
      | inl d ↦ o.waits d
      | inr e ↦ missing (All-contains (Contains done) (supers graph class) above is_ready.above (subst (λ x. Contains (supers graph x) above) (sym e) named))
    ];
    before = λ k d low high. grown (get_or (supers graph v.class) k d) (o.before k d low high);
  }

  pub released_open : All (IsOpen graph (done ++ class ∷ [])) (get_or rows class [])
  released_open k d l =
      let v = get_or (get_or rows class []) k d in
      let o = s.rows_say class is_ready.waits v (Contains-get_or (get_or rows class []) k d l) in
      still_open class is_ready.waits v o.0 o.1

  pub marked : class < length marks → (Contains ready class → ⊥) → Stands graph (done ++ class ∷ []) (set marks class true) ready (set rows class []) (map (λ w. w.class) (get_or rows class []))
  marked inside left = record {
    marks_say = λ q l. elim (same q class) [
      | inl e ↦ (λ t. subst (λ x. Contains (done ++ class ∷ []) x) (sym e) (Contains-push done class), λ c. subst (λ x. IsMarked (set marks class true) x) (sym e) (get_or-set_same marks class true false inside))
      | inr n ↦ (
        (λ t. grown q ((s.marks_say q l).0 (sym (get_or-set_other marks class q true false n) ∙ t))),
        (λ c. elim (Contains-push_cases done class q c) [ inl d ↦ get_or-set_other marks class q true false n ∙ (s.marks_say q l).1 d | inr e ↦ absurd (n (sym e)) ]),
      )
    ];
    ready_say = λ q c. let r = s.ready_say q c in record {
      given = r.given;
      waits = λ d. elim (Contains-push_cases done class q d) [ inl o ↦ r.waits o | inr e ↦ left (subst (λ x. Contains ready x) (sym e) c) ];
      above = All-weaker (Contains done) (Contains (done ++ class ∷ [])) grown (supers graph q) r.above;
    };
    rows_say = λ a n v c. let o = s.rows_say a (λ d. n (grown a d)) v (subst (λ row. Contains row v) (other a (λ e. n (subst (λ x. Contains (done ++ class ∷ []) x) (sym e) (Contains-push done class)))) c) in
        (still_open a (λ d. n (grown a d)) v o.0 o.1, o.1);
    each = λ q l n. elim (s.each q l (λ d. n (grown q d))) [
      | inl r ↦ inl r
      | inr o ↦ elim o [
        | inl v ↦ inr (elim (same v.0 class) [
          | inl e ↦ inr (in_map (get_or rows class []) v.2 q (subst (λ x. Contains (get_or rows x []) v.2) e v.3) v.4)
          | inr m ↦ inl (v.0, (λ d. elim (Contains-push_cases done class v.0 d) [ inl f ↦ v.1 f | inr e ↦ m (sym e) ]), v.2, subst (λ row. Contains row v.2) (sym (other v.0 m)) v.3, v.4)
        ])
        | inr c ↦ elim (first_or_later class [] q c) [
          | inl e ↦ absurd (n (subst (λ x. Contains (done ++ class ∷ []) x) e (Contains-push done class)))
          | inr k ↦ absurd (nothing q k)
        ]
      ]
    ];
  }
    where
      other : (a : ℕ) → (a ≡ class → ⊥) → get_or (set rows class []) a [] ≡ get_or rows a []
      other a n = get_or-set_other rows class a [] [] n

  -- over the tables that the code has
  taken : class < length rows → (items : List Waiting) → items ≡ get_or rows class items → get_or rows class [] ≡ items
  taken inside items was = get_or_from_slice_get rows class items [] (slice_get_read rows (length rows) class items refl inside was)

  pub taken_open : class < length rows → (items : List Waiting) → items ≡ get_or rows class items → All (IsOpen graph (done ++ class ∷ [])) items
  taken_open inside items was = subst (λ ws. All (IsOpen graph (done ++ class ∷ [])) ws) (taken inside items was) released_open

  pub marked_at : class < length marks → class < length rows → (Contains ready class → ⊥) → (order : List ℕ) (left_row items : List Waiting) → order ≡ done ++ class ∷ [] → left_row ≡ [] → items ≡ get_or rows class items
      → Stands graph order (set marks class true) ready (set rows class left_row) (map (λ w. w.class) items)
  marked_at in_marks in_rows left order left_row items grows empty was =
      subst (λ ws. Stands graph order (set marks class true) ready (set rows class left_row) (map (λ w. w.class) ws)) (taken in_rows items was)
      (subst (λ row. Stands graph order (set marks class true) ready (set rows class row) (map (λ w. w.class) (get_or rows class []))) (sym empty)
      (subst (λ o. Stands graph o (set marks class true) ready (set rows class []) (map (λ w. w.class) (get_or rows class []))) (sym grows) (marked in_marks left)))

-- those that waited for the class are entered one after the other
pub record Releases (graph : Graph) (order : List ℕ) (released : List Waiting) (next : ℕ) (p : Progress) : Type 0 where
  pub order_is : p.order ≡ order
  pub sized : IsSized (length graph) p
  pub all_open : All (IsOpen graph order) released
  pub keeps : Keeps graph (map (λ w. w.class) (drop next released)) p

pub releases_more : (graph : Graph) (order : List ℕ) (released : List Waiting) (next : ℕ) (d : Waiting) (old new : Progress) → next < length released → Releases graph order released next old
    → Settles graph (get_or released next d).class old new → Releases graph order released (next + 1) new
releases_more graph order released next d old new l r settles = record {
  order_is = settles.order ∙ r.order_is;
  sized = settles.sized;
  all_open = r.all_open;
  keeps = settles.keeps (map (λ w. w.class) (drop (next + 1) released))
      (subst (λ ws. Keeps graph (map (λ w. w.class) ws) old) (drop_more released next d l) r.keeps);
}

pub next_open : (graph : Graph) (order : List ℕ) (released : List Waiting) (next : ℕ) (d : Waiting) (p : Progress) → next < length released → Releases graph order released next p → IsOpen graph p.order (get_or released next d)
next_open graph order released next d p l r = subst (λ o. IsOpen graph o (get_or released next d)) (sym r.order_is) (r.all_open next d l)

pub all_released : (graph : Graph) (order : List ℕ) (released : List Waiting) (next : ℕ) (p : Progress) → length released ≤ next → Releases graph order released next p → Keeps graph [] p
all_released graph order released next p l r = subst (λ ws. Keeps graph (map (λ w. w.class) ws) p) (drop_all next released l) r.keeps
